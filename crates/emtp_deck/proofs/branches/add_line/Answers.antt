use Rattle.std.proofs.Common.{◌≡◌, ◌+◌, ◌∙◌, ap, length, refl}
use Rattle.emtp_case.specs.HistoryValues.{history_values_of}
use Rattle.emtp_deck.specs.Branches.{with_phases}
use Rattle.emtp_deck.specs.Copies.{modes_for, numbers_behind}
use Rattle.emtp_deck.specs.held.Branches.{line_channels}
use Rattle.emtp_deck.specs.held.Filling.{made_of}
use Rattle.emtp_deck.proofs.Growing.{line_more_filling, line_parts, made_by}
use Rattle.emtp_deck.proofs.Keeping.{on_ok}
use Rattle.emtp_deck.proofs.Modes.{has_modes, line_values}
use Rattle.emtp_deck.proofs.branches.add_line.Goals as goal

pub add_phases-requires : goal.add_phases-requires
add_phases-requires c =
    let f = c.args.filling.now in
    let s = c.requires.sensible in
    record {
      room = s.room;
      a = rw c.phase_for-a.ensures s.zero_ends;
      b = rw c.phase_for-b.ensures s.positive_ends;
      c = rw c.phase_for-c.ensures s.third_ends;
      numbers = has_modes f.draft.parts c.args.zero.now c.args.positive.now c.args.third.now c.args.taken.now c.requires.taken c.requires.trio f.draft.fits.network.trios f.draft.fits.network.branches s;
    }

pub returns : goal.returns
returns c =
    let f = c.args.filling.now in
    let p = f.draft.parts in
    let zero' = c.args.zero.now in
    let positive = c.args.positive.now in
    let third = c.args.third.now in
    let taken = c.args.taken.now in
    let t = c.requires.taken in
    let parts = c.in_ok-add_phases.ensures.ok ∙ line_parts p zero' positive third taken c.phase_for-a.result c.phase_for-b.result c.phase_for-c.result t c.phase_for-a.ensures c.phase_for-b.ensures c.phase_for-c.ensures in
    let m = has_modes p zero' positive third taken t c.requires.trio f.draft.fits.network.trios f.draft.fits.network.branches c.requires.sensible in
    let same : modes_for (numbers_behind p zero') (numbers_behind p positive) ≡ modes_for taken.zero_sequence.numbers taken.positive_sequence.numbers =
    rw (t.zero_taken.numbers_are, t.positive_taken.numbers_are) refl
    in
    let are = same ∙ m.are in
    let values = line_values p zero' positive taken t in
    let counted = c.in_ok-add_phases.ensures.history ∙ ap (λ n. history_values_of p + n) values in
    let sum = ap (λ n. f.history + n) (c.taken_history-history.ensures.value ∙ values) in
    record {
      ok = on_ok c.ask_line.result (λ asked. made_by (made_of f) c.add_phases.new.draft.parts (with_phases p zero' positive third) c.ask_line.new.asked (line_channels (length p.branches) zero' positive third) parts (rw c.len-at.ensures at asked)) c.ask_line.ensures.ok;
      err = c.ask_line.ensures.err;
      filling = on_ok c.ask_line.result (λ asked. (line_more_filling f c.add_phases.new.draft c.ask_line.new.asked (f.history + c.taken_history-history.result) zero' positive third m.modes c.requires.filling are c.requires.room parts counted sum (rw c.len-at.ensures at asked)).filling) c.ask_line.ensures.ok;
      run = on_ok c.ask_line.result (λ asked. (line_more_filling f c.add_phases.new.draft c.ask_line.new.asked (f.history + c.taken_history-history.result) zero' positive third m.modes c.requires.filling are c.requires.room parts counted sum (rw c.len-at.ensures at asked)).run) c.ask_line.ensures.ok;
      nodes = refl;
    }
