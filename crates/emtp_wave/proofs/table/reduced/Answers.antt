use Rattle.std.proofs.Common.{◌≡◌, ap, refl, ◌*◌, ◌%◌, ◌^◌, ◌+ℤ◌, pos, ℤ, unsigned_abs, FitsSigned, arith}
use mir.Syntax.{w128}
use Rattle.std.proofs.lemmas.Int.{ints, int_rem_euclid_is, to_z-of_z}
use Rattle.emtp_wave.specs.Cosine.{reduced}
use Rattle.emtp_wave.proofs.table.reduced.Goals as goal

-- with whole turns added, so that it isn't below 0
turned : (p : ℤ) → reduced p ≡ unsigned_abs (p +ℤ pos (unsigned_abs p * 10 ^ 18)) % 10 ^ 18
turned p = ap unsigned_abs (int_rem_euclid_is p (pos (10 ^ 18)) (10 ^ 18) (unsigned_abs p) (unsigned_abs (p +ℤ pos (unsigned_abs p * 10 ^ 18))) (omega arith) refl (omega (arith, ints)))

pub returns-then-left-lt0-clause-value : goal.returns-then-left-lt0-clause-value
returns-then-left-lt0-clause-value c =
    let p : FitsSigned w128 c.args.phase = c.ranges.phase in
    let is = simp to_z-of_z at c.whole_turns.ensures.value in
    let near' = simp to_z-of_z at c.whole_turns.ensures.nearest in
    omega (arith, ints, is, near', turned c.args.phase)

pub returns-else-left-lt0-clause-value : goal.returns-else-left-lt0-clause-value
returns-else-left-lt0-clause-value c =
    let p : FitsSigned w128 c.args.phase = c.ranges.phase in
    let is = simp to_z-of_z at c.whole_turns.ensures.value in
    let near' = simp to_z-of_z at c.whole_turns.ensures.nearest in
    omega (arith, ints, is, near', turned c.args.phase)

pub returns-then-left-lt0-clause-bound : goal.returns-then-left-lt0-clause-bound
returns-then-left-lt0-clause-bound c =
    let p : FitsSigned w128 c.args.phase = c.ranges.phase in
    let near' = simp to_z-of_z at c.whole_turns.ensures.nearest in
    omega (arith, ints, near')

pub returns-else-left-lt0-clause-bound : goal.returns-else-left-lt0-clause-bound
returns-else-left-lt0-clause-bound c =
    let p : FitsSigned w128 c.args.phase = c.ranges.phase in
    let near' = simp to_z-of_z at c.whole_turns.ensures.nearest in
    omega (arith, ints, near')
