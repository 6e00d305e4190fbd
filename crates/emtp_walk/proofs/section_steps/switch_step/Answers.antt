use Rattle.emtp_netcards.specs.held.SwitchCard.{HasSwitchNumbers}
use Rattle.emtp_walk.proofs.Sounding.{pushed}
use Rattle.emtp_walk.proofs.section_steps.switch_step.Goals as goal

pub returns-in_ok-push-in-Ok-clause-sound : goal.returns-in_ok-push-in-Ok-clause-sound
returns-in_ok-push-in-Ok-clause-sound c =
    let whole = c.requires.whole in
    record {
      run = whole.run;
      control = whole.control;
      branches = whole.branches;
      switches = rw c.in_ok-push-in-Ok.ensures.ok (pushed HasSwitchNumbers c.args.deck.now.switches _ whole.switches c.in-Ok.ensures.numbers);
      sources = whole.sources;
    }
