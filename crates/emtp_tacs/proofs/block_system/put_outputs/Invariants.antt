use Rattle.std.proofs.Common.{◌≡◌}
use Rattle.emtp_case.specs.held.Control.{AreKnown}
use Rattle.emtp_tacs.specs.Step.{with_outputs}
use Rattle.emtp_tacs.proofs.block_system.put_outputs.Given as goal

abbrev pub invariant-loop-at : goal.invariant-loop-at
invariant-loop-at l = record {
  known : AreKnown l.case.parts l.values;
  value : l.values ≡ with_outputs l.case.parts l.x l.at l.fn.values;
}
