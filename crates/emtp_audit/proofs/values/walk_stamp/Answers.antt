use Rattle.std.proofs.Common.{FitsSigned}
use mir.Syntax.{w64}
use Rattle.std.proofs.lemmas.Int.{to_z-of_z}
use Rattle.emtp_audit.specs.Dat.{stamp_is}
use Rattle.emtp_audit.proofs.Walking.{walks-one}
use Rattle.emtp_audit.proofs.values.walk_stamp.Goals as goal

pub returns-clause-walks : goal.returns-clause-walks
returns-clause-walks c =
    let step : FitsSigned w64 c.args.step = c.ranges.step in
    let unit : FitsSigned w64 c.args.unit = c.ranges.unit in
    let first : FitsSigned w64 c.args.first = c.ranges.first in
    let is = simp to_z-of_z at c.stamp_cause.ensures in
    walks-one c.args.fields.now c.take.new.self c.in_ok-field.field.now (stamp_is c.args.step c.args.unit c.args.first c.args.steps) c.stamp_cause.result c.judge.result c.in_ok-field.ensures.ok is c.judge.ensures
