use Rattle.std.proofs.Common.{◌≡◌, ◌++◌}
use Rattle.emtp_phasor_text.specs.Texts.{node_lines}
use Rattle.emtp_phasor_text.proofs.texts.put_nodes.Given as goal

abbrev pub invariant-loop-at : goal.invariant-loop-at
invariant-loop-at l = l.text.items ≡ l.initial.text.items ++ node_lines l.names l.volts l.at
