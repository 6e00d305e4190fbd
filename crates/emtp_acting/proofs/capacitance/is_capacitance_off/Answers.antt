use Rattle.std.proofs.Common.{◌≡◌, ◌≢◌, ◌∙◌, ap, Bool, true, false, ℤ, pos, FitsSigned, arith, rules, refl}
use Rattle.std.proofs.lemmas.Bool.Decides.{Decides-int_eq}
use Rattle.std.specs.Ordering.{int_eq}
use mir.Syntax.{w64, w128}
use Rattle.std.proofs.lemmas.Int.{ints, to_z-of_z}
use Rattle.emtp_acting.specs.Capacitance.{capacitance_is_off, is_off}
use Rattle.emtp_case.specs.Branch.{capacitor_impedance}
use Rattle.emtp_acting.proofs.capacitance.is_capacitance_off.Goals as goal

apart : (x : ℤ) → x ≢ pos 0 → int_eq x (pos 0) ≡ false
apart x some = either (int_eq x (pos 0)) refl
  where
    either : (b : Bool) → int_eq x (pos 0) ≡ b → int_eq x (pos 0) ≡ false
    either true e = absurd (some ((Decides-int_eq x (pos 0)).0 e))
    either false e = e

there : (dt x : ℤ) → int_eq x (pos 0) ≡ false → is_off dt (capacitor_impedance dt x) x ≡ capacitance_is_off dt x
there dt x none = rw none refl

pub returns-then-b-ne0 : goal.returns-then-b-ne0
returns-then-b-ne0 c =
    let x = c.args.b.now.c in
    let dt : FitsSigned w64 c.args.dt = c.ranges.dt in
    let cap : FitsSigned w64 x = search rules in
    let dt' : FitsSigned w128 c.args.dt = search rules in
    let cap' : FitsSigned w128 x = search rules in
    let zc : FitsSigned w128 c.capacitor_impedance.result = search rules in
    let zc_is = simp to_z-of_z at c.capacitor_impedance.ensures.value in
    let is = simp to_z-of_z at c.is_off.ensures in
    let none : int_eq x (pos 0) ≡ false = apart x (λ e. omega (arith, ints, c.if-b-ne0.true, e)) in
    is ∙ ap (λ (z : ℤ). is_off c.args.dt z x) zc_is ∙ there c.args.dt x none
