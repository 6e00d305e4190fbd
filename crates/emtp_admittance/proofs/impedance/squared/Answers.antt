use Rattle.std.proofs.Common.{◌≡◌, ◌≤◌, ◌^◌, ◌*◌, ◌∙◌, ◌+ℤ◌, ◌*ℤ◌, ap, unsigned_abs, to_z, of_z, arith, ℤ}
use mir.Syntax.{w128}
use Rattle.std.proofs.lemmas.Int.{ints}
use Rattle.emtp_fix.proofs.Wide.{abs-mul-le, through}
use Rattle.emtp_fix.specs.declared.limit.TheConstants.{LARGEST_IMPEDANCE}
use Rattle.emtp_admittance.specs.Impedance.{squared}
use Rattle.emtp_admittance.proofs.impedance.squared.Goals as goal

added : (p q : ℤ) → unsigned_abs p ≤ 10 ^ 36 → unsigned_abs q ≤ 10 ^ 36 → to_z w128 (of_z w128 (to_z w128 (of_z w128 p) +ℤ to_z w128 (of_z w128 q))) ≡ p +ℤ q
added p q small small' = rw (through p (omega arith), through q (omega arith)) (through (p +ℤ q) (omega (arith, ints)))

sum_is : (p q r x : ℤ) → p ≡ to_z w128 (of_z w128 r) *ℤ to_z w128 (of_z w128 r) → q ≡ to_z w128 (of_z w128 x) *ℤ to_z w128 (of_z w128 x) → unsigned_abs r ≤ LARGEST_IMPEDANCE → unsigned_abs x ≤ 2 * LARGEST_IMPEDANCE → p +ℤ q ≡ squared r x
sum_is p q r x e f small small' =
    let one : p ≡ r *ℤ r = rw (through r (omega arith)) at e in
    let two : q ≡ x *ℤ x = rw (through x (omega arith)) at f in
    ap (λ (z : ℤ). z +ℤ q) one ∙ ap (λ (z : ℤ). r *ℤ r +ℤ z) two

small_sum : (r x : ℤ) → unsigned_abs r ≤ LARGEST_IMPEDANCE → unsigned_abs x ≤ 2 * LARGEST_IMPEDANCE → unsigned_abs (squared r x) ≤ 10 ^ 31
small_sum r x small small' = omega (arith, ints, abs-mul-le r r LARGEST_IMPEDANCE LARGEST_IMPEDANCE small small, abs-mul-le x x (2 * LARGEST_IMPEDANCE) (2 * LARGEST_IMPEDANCE) small' small')

pub overflow_add-result : goal.overflow_add-result
overflow_add-result c =
    rw (through c.product.result (omega (arith, c.product.ensures.bound)), through c.product-2.result (omega (arith, c.product-2.ensures.bound)))
    (omega (arith, ints, c.product.ensures.bound, c.product-2.ensures.bound))

pub returns-clause-value : goal.returns-clause-value
returns-clause-value c =
    added c.product.result c.product-2.result c.product.ensures.bound c.product-2.ensures.bound
    ∙ sum_is c.product.result c.product-2.result c.args.r c.args.x c.product.ensures.value c.product-2.ensures.value c.requires.r c.requires.x

pub returns-clause-bound : goal.returns-clause-bound
returns-clause-bound c = rw (returns-clause-value c) (small_sum c.args.r c.args.x c.requires.r c.requires.x)
