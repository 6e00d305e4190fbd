use Rattle.std.proofs.Common.{◌≡◌, fold, take}
use Rattle.emtp_sense.specs.Names.{with_entry_names}
use Rattle.emtp_sense.proofs.names.add_branch_names.Given as goal

abbrev pub invariant-loop-entry : goal.invariant-loop-entry
invariant-loop-entry l = l.nodes.keys ≡ fold with_entry_names l.initial.nodes.keys (take l.entry-index l.entries)
