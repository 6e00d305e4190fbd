use Rattle.std.proofs.Common.{◌∙◌, ap, sym}
use Rattle.emtp_sense.specs.Names.{case_nodes}
use Rattle.emtp_deck.proofs.reading.deck_case.Goals as goal

pub sensible_case-requires-clause-accepted : goal.sensible_case-requires-clause-accepted
sensible_case-requires-clause-accepted c =
    let names = c.in_ok-names.ensures in
    record {
      few = rw (names.nodes, names.variables) at (sym c.has_too_many.ensures ∙ c.if-has_too_many.false);
      control = rw (names.nodes, names.variables) at (sym c.control_bad.ensures ∙ c.in_default.is);
    }

pub sensible_case-requires-clause-nodes : goal.sensible_case-requires-clause-nodes
sensible_case-requires-clause-nodes c = c.keep_case_nodes.ensures.nodes ∙ ap case_nodes c.in_ok-names.ensures.nodes

pub sensible_case-requires-clause-variables : goal.sensible_case-requires-clause-variables
sensible_case-requires-clause-variables c = c.keep_case_nodes.ensures.variables ∙ c.in_ok-names.ensures.variables
