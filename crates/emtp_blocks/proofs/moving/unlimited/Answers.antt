use Rattle.std.proofs.Common.{◌≡◌, ◌≤◌, ◌*◌, ◌^◌, ◌∙◌, ap, ◌+ℤ◌, ◌*ℤ◌, ℤ, FitsSigned, of_z, refl, subst, sym, to_z, unsigned_abs, arith}
use mir.Syntax.{w64, w128}
use Rattle.std.proofs.lemmas.Int.{fits_signed_from_abs, to_z-of_z}
use Rattle.emtp_fix.proofs.Wide.{abs-add-le, fits, through, through_64, wide_fits, wide_is}
use Rattle.emtp_fix.specs.Rounding.{near}
use Rattle.emtp_fix.specs.declared.limit.TheConstants.{LARGEST_VALUE, PICO}
use Rattle.emtp_blocks.specs.Block.{unlimited}
use Rattle.emtp_blocks.proofs.moving.unlimited.Goals as goal

-- what the input brings and what the past brings, as the code computes their sum
sum : (r past : ℤ) → unsigned_abs r ≤ 10 ^ 35 → unsigned_abs past ≤ 10 ^ 30 → to_z w128 (of_z w128 r) +ℤ to_z w128 (of_z w128 past) ≡ r +ℤ past
sum r past m n = rw (through r (omega (arith, m)), through past (omega (arith, n))) refl

small_sum : (r past : ℤ) → unsigned_abs r ≤ 10 ^ 35 → unsigned_abs past ≤ 10 ^ 30 → unsigned_abs (r +ℤ past) ≤ 10 ^ 36
small_sum r past m n = omega (arith, abs-add-le r past, m, n)

fits_sum : (r past : ℤ) → unsigned_abs r ≤ 10 ^ 35 → unsigned_abs past ≤ 10 ^ 30 → FitsSigned w128 (to_z w128 (of_z w128 r) +ℤ to_z w128 (of_z w128 past))
fits_sum r past m n = subst (FitsSigned w128) (sym (sum r past m n)) (fits (r +ℤ past) (omega (arith, small_sum r past m n)))

sum_is : (r past : ℤ) → unsigned_abs r ≤ 10 ^ 35 → unsigned_abs past ≤ 10 ^ 30 → to_z w128 (of_z w128 (to_z w128 (of_z w128 r) +ℤ to_z w128 (of_z w128 past))) ≡ r +ℤ past
sum_is r past m n = ap (λ y. to_z w128 (of_z w128 y)) (sum r past m n) ∙ through (r +ℤ past) (omega (arith, small_sum r past m n))

-- the product of the sum of a law, as it is read from bits
product_is : (c u r : ℤ) → unsigned_abs c ≤ 8 * 10 ^ 18 → unsigned_abs u ≤ LARGEST_VALUE → r ≡ near (to_z w64 (of_z w64 c) *ℤ to_z w64 (of_z w64 u)) PICO → r ≡ near (c *ℤ u) PICO
product_is c u r m n is =
    let c' : to_z w64 (of_z w64 c) ≡ c = to_z-of_z w64 c (fits_signed_from_abs w64 c (omega (arith, m))) in
    is ∙ ap (λ z. near (z *ℤ to_z w64 (of_z w64 u)) PICO) c' ∙ ap (λ z. near (c *ℤ z) PICO) (through_64 u n)

sum_read : (c : ℤ) → unsigned_abs c ≤ 8 * 10 ^ 18 → unsigned_abs (to_z w64 (of_z w64 c)) ≤ 8 * 10 ^ 18
sum_read c m = subst (λ z. unsigned_abs z ≤ 8 * 10 ^ 18) (sym (to_z-of_z w64 c (fits_signed_from_abs w64 c (omega (arith, m))))) m

pub product-requires-clause-a : goal.product-requires-clause-a
product-requires-clause-a c = sum_read c.args.law.now.sum c.requires.law.sum_small

pub product-requires-in-AtLow-clause-a : goal.product-requires-in-AtLow-clause-a
product-requires-in-AtLow-clause-a c = sum_read c.args.law.now.sum c.requires.law.sum_small

pub product-requires-clause-b : goal.product-requires-clause-b
product-requires-clause-b c = sum_read c.args.u (omega (arith, c.requires.u))

pub product-requires-in-AtLow-clause-b : goal.product-requires-in-AtLow-clause-b
product-requires-in-AtLow-clause-b c = sum_read c.args.u (omega (arith, c.requires.u))

pub overflow_add-result : goal.overflow_add-result
overflow_add-result c = fits_sum c.product.result c.args.past c.product.ensures.bound c.requires.past

pub overflow_add-result-in-AtLow : goal.overflow_add-result-in-AtLow
overflow_add-result-in-AtLow c = fits_sum c.product-in-AtLow.result c.args.past c.product-in-AtLow.ensures.bound c.requires.past

pub returns-in-AtHigh-clause-small : goal.returns-in-AtHigh-clause-small
returns-in-AtHigh-clause-small c = omega (arith, ap unsigned_abs (sum_is c.product.result c.args.past c.product.ensures.bound c.requires.past), small_sum c.product.result c.args.past c.product.ensures.bound c.requires.past)

pub returns-in-AtLow-clause-small : goal.returns-in-AtLow-clause-small
returns-in-AtLow-clause-small c = omega (arith, ap unsigned_abs (sum_is c.product-in-AtLow.result c.args.past c.product-in-AtLow.ensures.bound c.requires.past), small_sum c.product-in-AtLow.result c.args.past c.product-in-AtLow.ensures.bound c.requires.past)

pub returns-in-AtHigh-clause-value : goal.returns-in-AtHigh-clause-value
returns-in-AtHigh-clause-value c =
    let law = c.args.law.now in
    let product = product_is law.sum c.args.u c.product.result c.requires.law.sum_small c.requires.u c.product.ensures.value in
    sum_is c.product.result c.args.past c.product.ensures.bound c.requires.past ∙ ap (λ z. z +ℤ c.args.past) product ∙ sym (ap (λ m. unlimited law.sum m c.args.past c.args.solved c.args.u) c.in-AtHigh.is)

pub returns-in-AtLow-clause-value : goal.returns-in-AtLow-clause-value
returns-in-AtLow-clause-value c =
    let law = c.args.law.now in
    let product = product_is law.sum c.args.u c.product-in-AtLow.result c.requires.law.sum_small c.requires.u c.product-in-AtLow.ensures.value in
    sum_is c.product-in-AtLow.result c.args.past c.product-in-AtLow.ensures.bound c.requires.past ∙ ap (λ z. z +ℤ c.args.past) product ∙ sym (ap (λ m. unlimited law.sum m c.args.past c.args.solved c.args.u) c.in-AtLow.is)

-- a free block puts out what was solved
pub overflow_cast-result : goal.overflow_cast-result
overflow_cast-result c = wide_fits c.args.solved c.requires.solved

pub returns-in-Free-clause-small : goal.returns-in-Free-clause-small
returns-in-Free-clause-small c = omega (arith, ap unsigned_abs (wide_is c.args.solved c.requires.solved), c.requires.solved)

pub returns-in-Free-clause-value : goal.returns-in-Free-clause-value
returns-in-Free-clause-value c = wide_is c.args.solved c.requires.solved ∙ sym (ap (λ m. unlimited c.args.law.now.sum m c.args.past c.args.solved c.args.u) c.in-Free.is)
