use Rattle.std.proofs.Common.{map, take}
use Rattle.emtp_listing.specs.ControlLines.{input_entry}
use Rattle.emtp_listing.specs.Lines.{all_separated}
use Rattle.emtp_listing.specs.Puts.{Puts}
use Rattle.emtp_listing.proofs.control.put_each_input.Given as goal

abbrev pub invariant-loop-input : goal.invariant-loop-input
invariant-loop-input l = Puts l.initial.out.items (all_separated (map (input_entry l.parts.vars) (take l.input-index l.inputs))) l.out.items
