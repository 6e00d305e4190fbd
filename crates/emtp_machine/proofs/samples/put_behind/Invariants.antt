use Rattle.std.proofs.Common.{◌≡◌, ◌++◌, take}
use Rattle.std.specs.Vec.{SameBlock}
use Rattle.emtp_machine.proofs.samples.put_behind.Given as goal

abbrev pub invariant-loop-value : goal.invariant-loop-value
invariant-loop-value l = record {
  items : l.all.items ≡ l.initial.all.items ++ take l.value-index l.values;
  block : SameBlock l.initial.all l.all;
}
