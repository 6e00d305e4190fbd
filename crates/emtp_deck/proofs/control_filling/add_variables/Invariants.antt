use Rattle.std.proofs.Common.{◌≡◌, take}
use Rattle.emtp_deck.proofs.control_filling.add_variables.Given as goal

abbrev pub invariant-loop-at : goal.invariant-loop-at
invariant-loop-at l = l.draft.parts ≡ record l.initial.draft.parts { vars = take l.at l.variables.keys }
