use Rattle.std.proofs.Common.{◌≡◌, ◌++◌}
use Rattle.emtp_deck.specs.Outputs.{node_channels}
use Rattle.emtp_deck.proofs.outputs.ask_nodes.Given as goal

abbrev pub invariant-loop-at : goal.invariant-loop-at
invariant-loop-at l = l.outputs ≡ l.initial.outputs ++ node_channels l.at
