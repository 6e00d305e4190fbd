use Rattle.std.proofs.Common.{sym}
use Rattle.emtp_walk.proofs.ControlNames.{source_name}
use Rattle.emtp_walk.proofs.ControlSounding.{one_more_source}
use Rattle.emtp_walk.proofs.control_steps.tacs_source_step.Goals as goal

pub returns-in_ok-push-in-Ok-clause-sound : goal.returns-in_ok-push-in-Ok-clause-sound
returns-in_ok-push-in-Ok-clause-sound c =
    let line = c.args.line.now in
    let card = c.in-Ok.card in
    rw c.in_ok-push-in-Ok.ensures.ok
    (one_more_source c.args.deck.now card c.requires.whole (record { name = source_name line.number line.bytes.now card (sym c.in-Ok.ensures.value); numbers = c.in-Ok.ensures.numbers }))
