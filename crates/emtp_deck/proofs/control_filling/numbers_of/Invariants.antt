use Rattle.std.proofs.Common.{◌≡◌, take}
use Rattle.std.specs.Prelude.{map}
use Rattle.emtp_sense.specs.Variables.{variable_number}
use Rattle.emtp_deck.proofs.control_filling.numbers_of.Given as goal

abbrev pub invariant-loop-name : goal.invariant-loop-name
invariant-loop-name l = l.numbers ≡ map (variable_number l.variables.keys) (take l.name-index l.names)
