use Rattle.std.proofs.Common.{◌≡◌, ◌∙◌, ap, sym, true, ℤ, FitsSigned, rules, refl}
use mir.Syntax.{w64, w128}
use Rattle.std.proofs.lemmas.Int.{to_z-of_z}
use Rattle.emtp_acting.specs.Clean.{is_clean, is_clean_at, is_inductance}
use Rattle.emtp_case.specs.Branch.{series_impedance}
use Rattle.emtp_case.specs.declared.branch.Lumped.{Lumped}
use Rattle.emtp_acting.proofs.clean.is_clean.Goals as goal

there : (dt time : ℤ) (x : Lumped) (l : ℤ) → is_inductance l ≡ true → is_clean_at time (series_impedance dt x.r l x.c) l ≡ is_clean dt time x l
there dt time x l may = rw may refl

pub returns-then-is_inductance : goal.returns-then-is_inductance
returns-then-is_inductance c =
    let b = c.args.b.now in
    let dt : FitsSigned w64 c.args.dt = c.ranges.dt in
    let time : FitsSigned w64 c.args.time = c.ranges.time in
    let l : FitsSigned w64 c.args.l = c.ranges.l in
    let r : FitsSigned w64 b.r = search rules in
    let cap : FitsSigned w64 b.c = search rules in
    let z : FitsSigned w128 c.series_impedance.result = search rules in
    let z_is = simp to_z-of_z at c.series_impedance.ensures in
    let is = simp to_z-of_z at c.is_clean_at.ensures in
    let may = simp to_z-of_z at c.is_inductance.ensures.value in
    is ∙ ap (λ (z : ℤ). is_clean_at c.args.time z c.args.l) z_is ∙ there c.args.dt c.args.time b c.args.l (sym may ∙ c.if-is_inductance.true)
