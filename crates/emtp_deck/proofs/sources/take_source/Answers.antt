use Rattle.std.proofs.Common.{◌∙◌, sym}
use Rattle.emtp_deck.proofs.Judging.{sensible_source}
use Rattle.emtp_deck.proofs.sources.take_source.Goals as goal

pub add_source-requires-clause-room : goal.add_source-requires-clause-room
add_source-requires-clause-room c =
    (sensible_source c.args.filling.now.draft.parts c.args.card.now c.in-Some-node.node c.find_node-node.result c.in-Some-node.is (sym c.source_fault.ensures ∙ c.in_default.is)).room

pub add_source-requires-clause-first : goal.add_source-requires-clause-first
add_source-requires-clause-first c =
    (sensible_source c.args.filling.now.draft.parts c.args.card.now c.in-Some-node.node c.find_node-node.result c.in-Some-node.is (sym c.source_fault.ensures ∙ c.in_default.is)).first

pub add_source-requires-clause-driver : goal.add_source-requires-clause-driver
add_source-requires-clause-driver c =
    rw c.requires.filling.variables ((sensible_source c.args.filling.now.draft.parts c.args.card.now c.in-Some-node.node c.find_node-node.result c.in-Some-node.is (sym c.source_fault.ensures ∙ c.in_default.is)).driver)
