use Rattle.std.proofs.Common.{◌∙◌, subst, sym}
use Rattle.emtp_deck.specs.held.Filling.{made_of}
use Rattle.emtp_sense.specs.held.Naming.{HasTrioNodes}
use Rattle.emtp_deck.proofs.Sensing.{line_takable}
use Rattle.emtp_deck.proofs.branches.take_line.Goals as goal

pub add_line-requires : goal.add_line-requires
add_line-requires c =
    let before = c.requires in
    let zero' = c.args.zero.now in
    let positive = c.args.positive.now in
    let third = c.args.third.now in
    let there = subst (λ ns. HasTrioNodes ns zero' positive third) before.filling.nodes before.nodes in
    let fine = line_takable (made_of c.args.filling.now) zero' positive third before.trio.zero_numbers.ends before.trio.positive_numbers.ends before.third.ends there (sym c.line_fault.ensures ∙ c.in-None.is) in
    record { filling = before.filling; taken = c.taken_by_pair-taken.ensures; sensible = fine.sensible; room = fine.room; trio = before.trio }
