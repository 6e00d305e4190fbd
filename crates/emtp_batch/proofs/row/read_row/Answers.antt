use Rattle.std.proofs.Common.{◌∙◌, sym, ap, subst, arith, length, Ok, refl, length-append, [], ◌∷◌, All}
use Rattle.std.proofs.lemmas.List.Elements.{All-append, All-cons, All-nil}
use Rattle.emtp_batch.specs.Items.{items_of}
use Rattle.emtp_batch.specs.Row.{row_times}
use Rattle.emtp_batch.specs.Table.{on_line}
use Rattle.emtp_batch.specs.held.Row.{AreTimesInRange}
use Rattle.emtp_batch.proofs.Rows.{row_ends, row_exceeds, row_starts, row_step, row_stops}
use Rattle.emtp_batch.proofs.row.read_row.Goals as goal

pub loop-card-init : goal.loop-card-init
loop-card-init c =
    let none = (c.in_ok-times.ensures {u = tt}).items in
    record {
      all = row_starts _ _ none;
      place = refl;
      count = ap length none;
      in_range = subst (All AreTimesInRange) (sym none) (All-nil AreTimesInRange);
    }

pub read_pair-requires-clause-at : goal.read_pair-requires-clause-at
read_pair-requires-clause-at c = omega (arith, c.loop-card.invariant.place)

pub read_pair-requires-clause-card : goal.read_pair-requires-clause-card
read_pair-requires-clause-card c = c.requires.cards c.loop-card.card-index _ c.loop-card-test.true

pub overflow_add-at : goal.overflow_add-at
overflow_add-at c = omega (arith, c.loop-card.invariant.place)

pub loop-card-preserved : goal.loop-card-preserved
loop-card-preserved c =
    let was = c.loop-card.invariant in
    let old = c.loop-card.times.items in
    let pushed = (c.in_ok-push-in-Ok.ensures {u = tt}).items in
    record {
      all =
          row_step old c.push.new.self.items c.loop-card.at c.args.cards.now c.loop-card.card-index _ (items_of c.loop-card.rest.now) (items_of c.in-Ok.after.now) c.in-Ok.pair _ c.loop-card-test.true
          c.in-Ok.ensures.ok c.in-Ok.ensures.rest pushed was.all;
      place = omega (arith, was.place);
      count = ap length pushed ∙ omega (arith, was.count, length-append old (c.in-Ok.pair ∷ []));
      in_range = subst (All AreTimesInRange) (sym pushed) (All-append AreTimesInRange old (c.in-Ok.pair ∷ []) was.in_range (All-cons AreTimesInRange c.in-Ok.pair [] c.in-Ok.ensures.in_range (All-nil AreTimesInRange)));
    }

pub returns-in-Err-clause-bad : goal.returns-in-Err-clause-bad
unfolding row_times
returns-in-Err-clause-bad c =
    ap (on_line c.args.line)
    (row_stops c.loop-card.times.items c.loop-card.at c.args.cards.now c.loop-card.card-index _ (items_of c.loop-card.rest.now) c.in-Err.item _ c.loop-card-test.true c.in-Err.ensures.err c.loop-card.invariant.all)

pub returns-in-None-clause-ok : goal.returns-in-None-clause-ok
unfolding row_times
returns-in-None-clause-ok c =
    row_ends c.loop-card.times.items c.loop-card.at c.args.cards.now c.loop-card.card-index (items_of c.loop-card.rest.now) _ c.loop-card-test.false c.in-None.ensures c.loop-card.invariant.all
    ∙ ap Ok (sym c.from_vec.ensures)

pub returns-in-None-clause-fits : goal.returns-in-None-clause-fits
returns-in-None-clause-fits c =
    let was = c.loop-card.invariant in
    record {
      count_is = ap length c.from_vec.ensures ∙ omega (arith, was.count, c.loop-card-test.false, c.loop-card.auto.card-index-end);
      in_range = subst (All AreTimesInRange) (sym c.from_vec.ensures) was.in_range;
    }

pub returns-in-Some-clause-bad : goal.returns-in-Some-clause-bad
unfolding row_times
returns-in-Some-clause-bad c =
    ap (on_line c.args.line)
    (row_exceeds c.loop-card.times.items c.loop-card.at c.args.cards.now c.loop-card.card-index (items_of c.loop-card.rest.now) _ _ _ c.loop-card-test.false c.in-Some.ensures c.loop-card.invariant.all)
