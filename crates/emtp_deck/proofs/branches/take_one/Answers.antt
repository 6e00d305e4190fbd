use Rattle.std.proofs.Common.{◌∙◌, subst, sym}
use Rattle.emtp_deck.specs.held.Filling.{made_of}
use Rattle.emtp_sense.specs.held.Naming.{HasEndNodes}
use Rattle.emtp_deck.proofs.Sensing.{takable}
use Rattle.emtp_deck.proofs.branches.take_one.Goals as goal

pub add_one-requires : goal.add_one-requires
add_one-requires c =
    let before = c.requires in
    let card = c.args.card.now in
    let there = subst (λ ns. HasEndNodes ns card.from card.to) before.filling.nodes before.nodes in
    let fine = takable (made_of c.args.filling.now) card before.numbers.ends there (sym c.first_fault.ensures ∙ c.in-None.is) in
    record {
      filling = before.filling;
      taken = c.taken_by-taken.ensures;
      sensible = fine.sensible;
      room = fine.room;
      single = before.single;
      numbers = before.numbers;
      points = before.points;
    }
