use Rattle.std.proofs.Common.{◌≡◌, length, ap, sym, ◌∙◌, arith}
use Rattle.std.proofs.lemmas.Result.{on_ok_weaker, IfErr-weaker}
use Rattle.emtp_elim.specs.held.Finished.{AreAllFinished}
use Rattle.emtp_tail.proofs.GivenRows.{length-rows_in}
use Rattle.emtp_tail.specs.held.Good.{Good}
use Rattle.emtp_tail.proofs.kept.Kept.solve.Goals as goal

pub solve-requires-clause-full : goal.solve-requires-clause-full
solve-requires-clause-full c =
    let inside = c.self.inside in
    let count : length inside.done.rows ≡ length c.args.self.now.rows =
    sym (length-rows_in inside.size (length inside.done.rows) inside.given.items) ∙ ap (λ (v : Good). length v.rows) c.self.view_is in
    let sized : inside.size ≡ c.args.self.now.size = ap (λ (v : Good). v.size) c.self.view_is in
    count ∙ c.requires.all ∙ sym sized ∙ sym c.self.invariant.same_size

pub returns-clause-solved : goal.returns-clause-solved
returns-clause-solved c =
    let inside = c.self.inside in
    let count = length-rows_in inside.size (length inside.done.rows) inside.given.items in
    let rows_are = ap (λ (v : Good). v.rows) c.self.view_is in
    let all : AreAllFinished c.args.self.now.rows inside.done.rows = record {
      all = rw (← rows_are) (sym count);
      finished = rw (← rows_are) c.self.invariant.finished;
    } in
    on_ok_weaker c.solve.result (λ solves. solves.outcome_is c.args.self.now.rows all) c.solve.ensures.solved

pub returns-clause-fault : goal.returns-clause-fault
returns-clause-fault c =
    let inside = c.self.inside in
    let count = length-rows_in inside.size (length inside.done.rows) inside.given.items in
    let rows_are = ap (λ (v : Good). v.rows) c.self.view_is in
    let all : AreAllFinished c.args.self.now.rows inside.done.rows = record {
      all = rw (← rows_are) (sym count);
      finished = rw (← rows_are) c.self.invariant.finished;
    } in
    IfErr-weaker c.solve.result _ _ (λ fault solves. solves.outcome_is c.args.self.now.rows all) c.solve.ensures.fault

pub returns-clause-row : goal.returns-clause-row
returns-clause-row c =
    let sized : c.self.inside.size ≡ c.args.self.now.size = ap (λ (v : Good). v.size) c.self.view_is in
    IfErr-weaker c.solve.result _ _ (λ fault inside. omega (arith, inside, sized, c.self.invariant.same_size)) c.solve.ensures.row
