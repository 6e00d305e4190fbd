use Rattle.std.proofs.Common.{◌≡◌, ◌++◌, take}
use Rattle.std.specs.Prelude.{map}
use Rattle.emtp_deck.specs.ControlFilling.{block_of}
use Rattle.emtp_deck.proofs.control_filling.add_blocks.Given as goal

abbrev pub invariant-loop-entry : goal.invariant-loop-entry
invariant-loop-entry l = l.draft.parts ≡ record l.initial.draft.parts { blocks = l.initial.draft.parts.blocks ++ map (block_of l.variables.keys) (take l.entry-index l.entries) }
