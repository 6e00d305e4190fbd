use Rattle.std.proofs.Common.{◌∙◌}
use Rattle.emtp_sense.proofs.CardNames.{case_few, case_names}
use Rattle.emtp_sense.specs.Names.{known_nodes}
use Rattle.emtp_deck.proofs.reading.sensible_case.Goals as goal

pub new-requires-clause-few : goal.new-requires-clause-few
new-requires-clause-few c = rw c.requires.nodes (case_few (known_nodes c.args.deck.now c.args.place.now))

pub new-requires-clause-names : goal.new-requires-clause-names
new-requires-clause-names c = rw c.requires.nodes (case_names c.args.deck.now c.args.place.now c.requires.sound c.requires.whole)

pub take_deck-requires-clause-empty : goal.take_deck-requires-clause-empty
take_deck-requires-clause-empty c = rw c.in_ok-filling.ensures.nodes c.in_ok-filling.ensures.ok

pub take_deck-requires-clause-nodes : goal.take_deck-requires-clause-nodes
take_deck-requires-clause-nodes c = c.in_ok-filling.ensures.nodes ∙ c.requires.nodes
