use Rattle.emtp_netcards.specs.held.SourceCard.{HasSourceCardNumbers}
use Rattle.emtp_walk.proofs.Sounding.{pushed}
use Rattle.emtp_walk.proofs.section_steps.source_step.Goals as goal

pub returns-in_ok-push-in-Ok-clause-sound : goal.returns-in_ok-push-in-Ok-clause-sound
returns-in_ok-push-in-Ok-clause-sound c =
    let whole = c.requires.whole in
    record {
      run = whole.run;
      control = whole.control;
      branches = whole.branches;
      switches = whole.switches;
      sources = rw c.in_ok-push-in-Ok.ensures.ok (pushed HasSourceCardNumbers c.args.deck.now.sources _ whole.sources c.in-Ok.ensures.numbers);
    }
