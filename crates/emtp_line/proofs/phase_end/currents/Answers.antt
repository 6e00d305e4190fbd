use Rattle.std.proofs.Common.{◌≡◌, ◌∙◌, ◌≤◌, ◌^◌, ◌*◌, ℤ, ◌+ℤ◌, unsigned_abs, ap, FitsSigned, to_z, of_z, arith, rules}
use mir.Syntax.{w64, w128}
use Rattle.std.proofs.lemmas.Int.{ints, to_z-of_z}
use Rattle.emtp_fix.proofs.Wide.{through}
use Rattle.emtp_line.specs.Phases.{of_phase}
use Rattle.emtp_line.proofs.Bounds.{three_same}
use Rattle.emtp_line.proofs.phase_end.currents.Goals as goal

-- the history current is added without a wrap
added : (x h : ℤ) → unsigned_abs x ≤ 4 * 10 ^ 24 → unsigned_abs h ≤ 10 ^ 21 → to_z w128 (of_z w128 (to_z w128 (of_z w128 x) +ℤ to_z w128 (of_z w128 h))) ≡ x +ℤ h
added x h bound small = rw (through x (omega (arith, bound)), through h (omega (arith, small))) (through (x +ℤ h) (omega (arith, ints, bound, small)))

pub returns-clause-value : goal.returns-clause-value
returns-clause-value c = λ m own coupling.
    let g : FitsSigned w64 c.args.own = c.ranges.own in
    let k : FitsSigned w64 c.args.coupling = c.ranges.coupling in
    let v0 : FitsSigned w64 (of_phase c.args.v.now 0) = search rules in
    let v1 : FitsSigned w64 (of_phase c.args.v.now 1) = search rules in
    let v2 : FitsSigned w64 (of_phase c.args.v.now 2) = search rules in
    let is0 = simp to_z-of_z at c.driven.ensures.value in
    let is1 = simp to_z-of_z at c.driven-2.ensures.value in
    let is2 = simp to_z-of_z at c.driven-3.ensures.value in
    three_same
    (added c.driven.result (of_phase c.args.histories.now 0) c.driven.ensures.bound c.requires.histories.first ∙ ap (λ z. z +ℤ of_phase c.args.histories.now 0) (rw (own, coupling) at is0))
    (added c.driven-2.result (of_phase c.args.histories.now 1) c.driven-2.ensures.bound c.requires.histories.second ∙ ap (λ z. z +ℤ of_phase c.args.histories.now 1) (rw (own, coupling) at is1))
    (added c.driven-3.result (of_phase c.args.histories.now 2) c.driven-3.ensures.bound c.requires.histories.third ∙ ap (λ z. z +ℤ of_phase c.args.histories.now 2) (rw (own, coupling) at is2))
