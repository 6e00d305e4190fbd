use Rattle.std.proofs.Common.{◌≡◌, ◌≤◌, ◌*◌, ◌∙◌, ap, ◌+ℤ◌, ◌-ℤ◌, ℤ, FitsSigned, of_z, refl, subst, sym, to_z, unsigned_abs, arith}
use mir.Syntax.{w64, w128}
use Rattle.std.proofs.lemmas.Int.{fits_signed_from_abs, ints, to_z-of_z}
use Rattle.emtp_fix.proofs.Wide.{abs-add-le, abs-sub-le, fits, through, wide_fits, wide_is}
use Rattle.emtp_fix.specs.declared.limit.TheConstants.{LARGEST_VALUE}
use Rattle.emtp_devices.proofs.table.between_points.Goals as goal

-- the difference of two values
difference : (a b : ℤ) → unsigned_abs a ≤ LARGEST_VALUE → unsigned_abs b ≤ LARGEST_VALUE → to_z w128 (of_z w128 (to_z w64 (of_z w64 a))) -ℤ to_z w128 (of_z w128 (to_z w64 (of_z w64 b))) ≡ a -ℤ b
difference a b m n = rw (wide_is a m, wide_is b n) refl

small_difference : (a b : ℤ) → unsigned_abs a ≤ LARGEST_VALUE → unsigned_abs b ≤ LARGEST_VALUE → unsigned_abs (a -ℤ b) ≤ 2 * LARGEST_VALUE
small_difference a b m n = omega (arith, abs-sub-le a b, m, n)

fits_difference : (a b : ℤ) → unsigned_abs a ≤ LARGEST_VALUE → unsigned_abs b ≤ LARGEST_VALUE → FitsSigned w128 (to_z w128 (of_z w128 (to_z w64 (of_z w64 a))) -ℤ to_z w128 (of_z w128 (to_z w64 (of_z w64 b))))
fits_difference a b m n = subst (FitsSigned w128) (sym (difference a b m n)) (fits (a -ℤ b) (omega (arith, small_difference a b m n)))

wide_difference : (a b : ℤ) → unsigned_abs a ≤ LARGEST_VALUE → unsigned_abs b ≤ LARGEST_VALUE
    → to_z w128 (of_z w128 (to_z w128 (of_z w128 (to_z w64 (of_z w64 a))) -ℤ to_z w128 (of_z w128 (to_z w64 (of_z w64 b))))) ≡ a -ℤ b
wide_difference a b m n = ap (λ y. to_z w128 (of_z w128 y)) (difference a b m n) ∙ through (a -ℤ b) (omega (arith, small_difference a b m n))

pub overflow_cast-s : goal.overflow_cast-s
overflow_cast-s c = wide_fits c.args.s c.requires.s

pub overflow_cast-p : goal.overflow_cast-p
overflow_cast-p c = wide_fits c.args.p.now.current c.requires.p

pub overflow_cast-q : goal.overflow_cast-q
overflow_cast-q c = wide_fits c.args.q.now.other c.requires.q_other

pub overflow_cast-p-2 : goal.overflow_cast-p-2
overflow_cast-p-2 c = wide_fits c.args.p.now.other c.requires.p_other

pub overflow_cast-q-2 : goal.overflow_cast-q-2
overflow_cast-q-2 c = wide_fits c.args.q.now.current c.requires.q

pub overflow_cast-p-3 : goal.overflow_cast-p-3
overflow_cast-p-3 c = wide_fits c.args.p.now.current c.requires.p

pub overflow_cast-result : goal.overflow_cast-result
overflow_cast-result c = wide_fits c.args.p.now.other c.requires.p_other

pub overflow_sub-s : goal.overflow_sub-s
overflow_sub-s c = fits_difference c.args.s c.args.p.now.current c.requires.s c.requires.p

pub overflow_sub-q : goal.overflow_sub-q
overflow_sub-q c = fits_difference c.args.q.now.other c.args.p.now.other c.requires.q_other c.requires.p_other

pub overflow_sub-q-2 : goal.overflow_sub-q-2
overflow_sub-q-2 c = fits_difference c.args.q.now.current c.args.p.now.current c.requires.q c.requires.p

pub scaled-share-requires-clause-a : goal.scaled-share-requires-clause-a
scaled-share-requires-clause-a c = omega (arith, ap unsigned_abs (wide_difference c.args.s c.args.p.now.current c.requires.s c.requires.p), small_difference c.args.s c.args.p.now.current c.requires.s c.requires.p)

pub scaled-share-requires-clause-b : goal.scaled-share-requires-clause-b
scaled-share-requires-clause-b c = omega (arith, ap unsigned_abs (wide_difference c.args.q.now.other c.args.p.now.other c.requires.q_other c.requires.p_other), small_difference c.args.q.now.other c.args.p.now.other c.requires.q_other c.requires.p_other)

pub scaled-share-requires-clause-unit : goal.scaled-share-requires-clause-unit
scaled-share-requires-clause-unit c = omega (arith, ap unsigned_abs (wide_difference c.args.q.now.current c.args.p.now.current c.requires.q c.requires.p), small_difference c.args.q.now.current c.args.p.now.current c.requires.q c.requires.p)

pub scaled-share-requires-clause-nonzero : goal.scaled-share-requires-clause-nonzero
scaled-share-requires-clause-nonzero c = λ e. absurd (omega (arith, ints, sym (wide_difference c.args.q.now.current c.args.p.now.current c.requires.q c.requires.p) ∙ e, c.requires.rising))

-- the sum as the code computes it
sum : (c : goal.After-result-1) → to_z w128 (of_z w128 (to_z w64 (of_z w64 c.args.p.now.other))) +ℤ to_z w128 (of_z w128 c.scaled-share.result) ≡ c.args.p.now.other +ℤ c.scaled-share.result
sum c = rw (wide_is c.args.p.now.other c.requires.p_other, through c.scaled-share.result (omega (arith, c.scaled-share.ensures.bound))) refl

fits_sum : (c : goal.After-result-1) → FitsSigned w128 (c.args.p.now.other +ℤ c.scaled-share.result)
fits_sum c = fits_signed_from_abs w128 (c.args.p.now.other +ℤ c.scaled-share.result) (omega (arith, abs-add-le c.args.p.now.other c.scaled-share.result, c.requires.p_other, c.scaled-share.ensures.bound))

pub overflow_add-result : goal.overflow_add-result
overflow_add-result c = subst (FitsSigned w128) (sym (sum c)) (fits_sum c)

pub returns : goal.returns
returns c =
    let s = wide_difference c.args.s c.args.p.now.current c.requires.s c.requires.p in
    let other = wide_difference c.args.q.now.other c.args.p.now.other c.requires.q_other c.requires.p_other in
    let unit = wide_difference c.args.q.now.current c.args.p.now.current c.requires.q c.requires.p in
    let is = rw (s, other, unit) at c.scaled-share.ensures.value in
    ap (λ y. to_z w128 (of_z w128 y)) (sum c) ∙ to_z-of_z w128 (c.args.p.now.other +ℤ c.scaled-share.result) (fits_sum c) ∙ ap (λ z. c.args.p.now.other +ℤ z) is
