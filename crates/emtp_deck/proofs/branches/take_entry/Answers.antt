use Rattle.std.proofs.Common.{arith, subst, sym}
use Rattle.emtp_deck.specs.held.Filling.{Makes, made_of}
use Rattle.emtp_deck.proofs.Growing.{own_points, one_taken, line_taken}
use Rattle.emtp_deck.proofs.branches.take_entry.Goals as goal

pub take_one-requires-clause-nodes : goal.take_one-requires-clause-nodes
take_one-requires-clause-nodes c = rw c.in-Single.is at c.requires.nodes

pub take_one-requires-clause-points : goal.take_one-requires-clause-points
take_one-requires-clause-points c =
    own_points c.args.filling.now.draft.parts.run c.args.points.now c.in-Single.card c.in-Single.first c.in-Single.count _ (omega arith) (rw c.in-Single.is at c.requires.entry)

pub take_line-requires-clause-nodes : goal.take_line-requires-clause-nodes
take_line-requires-clause-nodes c = rw c.in-Trio.is at c.requires.nodes

pub returns-in-Single-clause-value : goal.returns-in-Single-clause-value
returns-in-Single-clause-value c =
    let m = made_of c.args.filling.now in
    subst (λ r. Makes c.take_one.result r (made_of c.take_one.new.filling))
    (sym (one_taken c.args.points.now m c.in-Single.card c.in-Single.first c.in-Single.count _ c.args.entry.now c.in-Single.is (omega arith))) c.take_one.ensures.value

pub returns-in-Trio-clause-value : goal.returns-in-Trio-clause-value
returns-in-Trio-clause-value c =
    let m = made_of c.args.filling.now in
    subst (λ r. Makes c.take_line.result r (made_of c.take_line.new.filling))
    (sym (line_taken c.args.points.now m c.in-Trio.zero c.in-Trio.positive c.in-Trio.third c.args.entry.now c.in-Trio.is)) c.take_line.ensures.value
