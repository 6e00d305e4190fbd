use mir.Syntax.{w64}
use Rattle.std.proofs.Common.{FitsSigned, rules}
use Rattle.std.proofs.lemmas.Int.{to_z-of_z}
use Rattle.emtp_sense.proofs.ControlJudging.{device_values_few}
use Rattle.emtp_sense.proofs.control_sense.card_history_values.Goals as goal

pub returns-clause-few : goal.returns-clause-few
returns-clause-few c =
    let dt : FitsSigned w64 c.args.dt = c.ranges.dt in
    let a : FitsSigned w64 c.args.card.now.a = search rules in
    let is = simp to_z-of_z at c.history_values.ensures in
    rw is (device_values_few c.args.dt c.args.card.now.code c.args.card.now.a c.requires.a)
