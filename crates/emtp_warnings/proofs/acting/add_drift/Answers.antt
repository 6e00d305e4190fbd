use Rattle.std.proofs.Common.{◌∙◌, sym, FitsSigned, rules}
use mir.Syntax.{w64}
use Rattle.std.proofs.lemmas.Int.{to_z-of_z}
use Rattle.emtp_warnings.proofs.Drifting.{drift-added, no_drift-added}
use Rattle.emtp_warnings.proofs.acting.add_drift.Goals as goal

pub returns-in_ok-add_found : goal.returns-in_ok-add_found
returns-in_ok-add_found c =
    let b = c.args.b.now in
    let dt : FitsSigned w64 c.args.dt = c.ranges.dt in
    let time : FitsSigned w64 c.args.time = c.ranges.time in
    let l : FitsSigned w64 b.l = search rules in
    let made = simp to_z-of_z at c.of-f.ensures.value in
    let does = simp to_z-of_z at c.drifts_in.ensures.value in
    let r = c.resistance.ensures.value in
    let d = simp to_z-of_z at c.drift.ensures in
    let clean = simp to_z-of_z at c.clean_inductance.ensures in
    let fits_r : FitsSigned w64 c.resistance.result = search rules in
    let fits_d : FitsSigned w64 c.drift.result = search rules in
    let row = simp to_z-of_z at c.line_row.ensures in
    drift-added c.args.dt c.args.time b c.of-f.result c.resistance.result c.drift.result c.clean_inductance.result c.line_row.result made (sym does ∙ c.if-drifts_in.true) r d clean row c.in_ok-add_found.ensures

pub returns-else-drifts_in : goal.returns-else-drifts_in
returns-else-drifts_in c =
    let dt : FitsSigned w64 c.args.dt = c.ranges.dt in
    let time : FitsSigned w64 c.args.time = c.ranges.time in
    let made = simp to_z-of_z at c.of-f.ensures.value in
    let never = simp to_z-of_z at c.drifts_in.ensures.value in
    no_drift-added c.args.dt c.args.time c.args.b.now c.of-f.result made (sym never ∙ c.if-drifts_in.false)
