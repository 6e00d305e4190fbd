use Rattle.std.proofs.Common.{◌≡◌, ◌∙◌, ap, ℕ, ℤ, pos, ◌*ℤ◌, ◌-ℤ◌, unsigned_abs, FitsSigned, nat_le, arith, rules}
use mir.Syntax.{w64, w128}
use Rattle.std.proofs.lemmas.Int.{ints, to_z-of_z}
use Rattle.emtp_fix.proofs.Wide.{fits}
use Rattle.emtp_audit.proofs.values.is_time.Goals as goal

pub returns : goal.returns
returns c =
    let unit : FitsSigned w64 c.args.unit = c.ranges.unit in
    let step : FitsSigned w64 c.args.step = c.ranges.step in
    let first : FitsSigned w64 c.args.first = c.ranges.first in
    let stamp : FitsSigned w64 c.args.stamp = c.ranges.stamp in
    let between : FitsSigned w64 (c.args.stamp -ℤ c.args.first) = search rules in
    let counted : FitsSigned w64 c.from.result = search rules in
    let shown_fits : FitsSigned w128 c.times-shown.result = fits c.times-shown.result (omega (arith, c.times-shown.ensures.bound)) in
    let due_fits : FitsSigned w128 c.times-due.result = fits c.times-due.result (omega (arith, c.times-due.ensures.bound)) in
    let shown = simp to_z-of_z at c.times-shown.ensures.value in
    let due = simp to_z-of_z at c.times-due.ensures.value in
    let far = simp to_z-of_z at c.apart.ensures in
    let own = simp to_z-of_z at c.unsigned_abs.ensures.value in
    let steps : c.from.result ≡ pos c.args.steps = omega (arith, ints, c.from.ensures) in
    ap (λ (n : ℕ). nat_le n c.from-2.result) (far ∙ ap (λ (x : ℤ). unsigned_abs (x -ℤ c.times-due.result)) shown ∙ ap (λ (x : ℤ). unsigned_abs ((c.args.stamp -ℤ c.args.first) *ℤ c.args.unit -ℤ x)) (due ∙ ap (λ (k : ℤ). k *ℤ c.args.step) steps))
    ∙ ap (nat_le (unsigned_abs ((c.args.stamp -ℤ c.args.first) *ℤ c.args.unit -ℤ pos c.args.steps *ℤ c.args.step))) (c.from-2.ensures ∙ own)
