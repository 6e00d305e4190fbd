use Rattle.std.proofs.Common.{FitsSigned}
use mir.Syntax.{w64}
use Rattle.std.proofs.lemmas.Int.{to_z-of_z}
use Rattle.emtp_audit.specs.Dat.{state_is}
use Rattle.emtp_audit.proofs.Walking.{walks-one}
use Rattle.emtp_audit.proofs.values.walk_state.Goals as goal

pub returns-clause-walks : goal.returns-clause-walks
returns-clause-walks c =
    let value : FitsSigned w64 c.args.value = c.ranges.value in
    let is = simp to_z-of_z at c.state_cause.ensures in
    walks-one c.args.fields.now c.take.new.self c.in_ok-field.field.now (state_is c.args.value) c.state_cause.result c.judge.result c.in_ok-field.ensures.ok is c.judge.ensures
