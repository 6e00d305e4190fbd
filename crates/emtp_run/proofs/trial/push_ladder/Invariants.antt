use Rattle.std.proofs.Common.{◌≡◌, ◌++◌}
use Rattle.emtp_run.specs.TrialDeck.{ladder_cards}
use Rattle.emtp_run.proofs.trial.push_ladder.Given as goal

abbrev pub invariant-loop-section : goal.invariant-loop-section
invariant-loop-section l = l.cards.items ≡ l.initial.cards.items ++ ladder_cards l.section
