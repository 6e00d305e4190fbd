use Rattle.std.proofs.Common.{◌≡◌, drop}
use Rattle.emtp_listing.specs.ExpressionText.{texts_of}
use Rattle.emtp_listing.proofs.expression.put_nodes.Given as goal

abbrev pub invariant-loop-node : goal.invariant-loop-node
invariant-loop-node l =
    texts_of l.parts.vars l.formula.vars l.formula.expr l.initial.texts ≡ texts_of l.parts.vars l.formula.vars (drop l.node-index l.formula.expr) l.texts
