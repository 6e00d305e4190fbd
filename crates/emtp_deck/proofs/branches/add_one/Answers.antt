use Rattle.std.proofs.Common.{◌≡◌, ◌+◌, length, refl}
use Rattle.emtp_deck.specs.Branches.{branch_channels, card_history, with_single}
use Rattle.emtp_deck.specs.held.Filling.{made_of}
use Rattle.emtp_deck.proofs.Growing.{made_by, one_more_filling}
use Rattle.emtp_deck.proofs.Keeping.{on_ok}
use Rattle.emtp_deck.proofs.branches.add_one.Goals as goal

pub returns : goal.returns
returns c =
    let f = c.args.filling.now in
    let p = f.draft.parts in
    let card = c.args.card.now in
    let points = c.args.points.now in
    let parts = c.in_ok-add_single.ensures.ok in
    let sum : f.history + c.card_history-history.result ≡ f.history + card_history 1 p card = rw (c.card_history-history.ensures.value, c.requires.taken.numbers_are) refl in
    record {
      ok = on_ok c.ask_branch.result (λ asked. made_by (made_of f) c.add_single.new.draft.parts (with_single points p card) c.ask_branch.new.asked (branch_channels (length p.branches) card) parts (rw c.len-at.ensures at asked)) c.ask_branch.ensures.ok;
      err = c.ask_branch.ensures.err;
      filling = on_ok c.ask_branch.result (λ asked. (one_more_filling f c.add_single.new.draft c.ask_branch.new.asked (f.history + c.card_history-history.result) points card c.requires.filling c.requires.single c.requires.sensible c.requires.room parts c.in_ok-add_single.ensures.history sum (rw c.len-at.ensures at asked)).filling) c.ask_branch.ensures.ok;
      run = on_ok c.ask_branch.result (λ asked. (one_more_filling f c.add_single.new.draft c.ask_branch.new.asked (f.history + c.card_history-history.result) points card c.requires.filling c.requires.single c.requires.sensible c.requires.room parts c.in_ok-add_single.ensures.history sum (rw c.len-at.ensures at asked)).run) c.ask_branch.ensures.ok;
      nodes = refl;
    }
