use Rattle.std.proofs.Common.{◌≡◌, take}
use Rattle.std.specs.Prelude.{map}
use Rattle.emtp_deck.specs.ControlFilling.{tacs_source_of}
use Rattle.emtp_deck.proofs.control_filling.add_tacs_sources.Given as goal

abbrev pub invariant-loop-card : goal.invariant-loop-card
invariant-loop-card l = record {
  parts : l.filling.draft.parts ≡ record l.initial.filling.draft.parts { tacs_sources = map (tacs_source_of l.initial.filling.nodes.keys l.switches l.initial.filling.variables.keys) (take l.card-index l.cards) };
  nodes : l.filling.nodes.keys ≡ l.initial.filling.nodes.keys;
  variables : l.filling.variables.keys ≡ l.initial.filling.variables.keys;
  asked : l.filling.asked ≡ l.initial.filling.asked;
}
