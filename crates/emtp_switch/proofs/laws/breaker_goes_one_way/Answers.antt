use Rattle.emtp_case.specs.StepRecord.{latest, switch_state_at}
use Rattle.emtp_switch.specs.Groups.{switch_at}
use Rattle.emtp_switch.specs.States.{view_of}
use Rattle.emtp_switch.proofs.Breakers.{moves_on}
use Rattle.emtp_switch.proofs.laws.breaker_goes_one_way.Goals as goal

pub returns : goal.returns
returns c = λ H.
    let p = c.args.case.now.parts in
    let s = c.args.switch in
    let x = switch_at p.switches s in
    moves_on x.kind (view_of p H x s) (switch_state_at s (latest H)) c.requires.breaker
