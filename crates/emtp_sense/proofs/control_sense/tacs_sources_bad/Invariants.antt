use Rattle.emtp_case.specs.declared.limit.TheConstants.{MOST_CONTROL_CARDS}
use Rattle.std.proofs.Common.{◌≡◌, ◌≤◌, drop}
use Rattle.emtp_sense.specs.ControlSense.{tacs_sources_bad}
use Rattle.emtp_sense.proofs.control_sense.tacs_sources_bad.Given as goal

abbrev pub invariant-loop-card : goal.invariant-loop-card
invariant-loop-card l = record {
  same : tacs_sources_bad l.names.nodes.keys l.switches l.names.variables.keys l.first 0 l.cards ≡ tacs_sources_bad l.names.nodes.keys l.switches l.names.variables.keys l.first l.at (drop l.card-index l.cards);
  few : l.at ≤ MOST_CONTROL_CARDS;
}
