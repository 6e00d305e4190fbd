use Rattle.std.proofs.Common.{◌≡◌, fold, take}
use Rattle.emtp_sense.specs.Variables.{with_extra_name}
use Rattle.emtp_sense.proofs.variables.add_extras.Given as goal

abbrev pub invariant-loop-entry : goal.invariant-loop-entry
invariant-loop-entry l = l.names.keys ≡ fold with_extra_name l.initial.names.keys (take l.entry-index l.entries)
