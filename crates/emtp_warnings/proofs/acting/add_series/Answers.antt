use Rattle.std.proofs.Common.{FitsSigned}
use mir.Syntax.{w64}
use Rattle.std.proofs.lemmas.Int.{to_z-of_z}
use Rattle.emtp_warnings.proofs.Adding.{then}
use Rattle.emtp_warnings.proofs.acting.add_series.Goals as goal

pub returns : goal.returns
returns c =
    let dt : FitsSigned w64 c.args.dt = c.ranges.dt in
    let time : FitsSigned w64 c.args.time = c.ranges.time in
    let drift = simp to_z-of_z at c.in_ok-add_drift.ensures in
    let resistance = simp to_z-of_z at c.in_ok-add_resistance.ensures in
    let capacitance = simp to_z-of_z at c.in_ok-add_capacitance.ensures in
    then (then drift resistance) capacitance
