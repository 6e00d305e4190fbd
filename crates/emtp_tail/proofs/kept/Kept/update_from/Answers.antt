use Rattle.std.proofs.Common.{◌≡◌, ◌≤◌, ℕ, List, ◌∷◌, length, ap, ◌∙◌, arith}
use Rattle.std.proofs.lemmas.List.{take_all}
use Rattle.std.proofs.lemmas.Result.{IfErr-weaker, on_ok_weaker}
use Rattle.emtp_tail.specs.held.Good.{Good}
use Rattle.emtp_tail.proofs.GivenRows.{length-rows_in}
use Rattle.emtp_tail.proofs.Redoing.{first_change_law, lent}
use Rattle.emtp_tail.proofs.kept.Kept.update_from.Goals as goal

pub redo-requires-clause-first : goal.redo-requires-clause-first
redo-requires-clause-first g c =
    let inside = c.self.inside in
    let rows = g.R.Rows.matrix c.args.rows.now in
    let sized : inside.size ≡ length rows = ap (λ (v : Good). v.size) c.self.view_is ∙ c.requires.size in
    let rows_are = rw sized at (ap (λ (v : Good). v.rows) c.self.view_is) in
    let count = length-rows_in inside.size (length inside.done.rows) inside.given.items in
    let long : length c.args.self.now.rows ≤ length rows = omega (arith, count, sized, c.self.invariant.within, ap (λ (v : Good). length v.rows) c.self.view_is) in
    rw (c.deref_mut.ensures.value, rows_are, c.requires.first) (first_change_law c.args.self.now.rows rows long)

pub returns-clause-ends : goal.returns-clause-ends
returns-clause-ends g c =
    IfErr-weaker c.redo.result _ _ (λ fault is right. c.row_fault_ends_systems.ensures (g.R.Rows.matrix c.args.rows.now) right fault is) c.redo.ensures.fault

pub returns-clause-prefix : goal.returns-clause-prefix
returns-clause-prefix g c =
    let rows = g.R.Rows.matrix c.args.rows.now in
    let sized : c.self.inside.size ≡ length rows = ap (λ (v : Good). v.size) c.self.view_is ∙ c.requires.size in
    let whole = lent c.self.inside.given.len c.redo.new.given c.self.inside.given.items (omega (arith, c.deref_mut.ensures.len)) in
    IfErr-weaker c.redo.result _ _ (λ fault prefix. rw (sized, whole, prefix.count) prefix.given_first) c.redo.ensures.prefix

pub returns-clause-fault : goal.returns-clause-fault
returns-clause-fault g c = c.redo.ensures.fault

pub returns-clause-fault_ticks : goal.returns-clause-fault_ticks
returns-clause-fault_ticks g c = c.redo.ensures.fault_ticks

pub returns-clause-ticks : goal.returns-clause-ticks
returns-clause-ticks g c = rw c.requires.size c.redo.ensures.ticks

pub redo-requires-clause-kept : goal.redo-requires-clause-kept
redo-requires-clause-kept g c =
    let sized : c.self.inside.size ≡ length (g.R.Rows.matrix c.args.rows.now) = ap (λ (v : Good). v.size) c.self.view_is ∙ c.requires.size in
    rw (c.deref_mut.ensures.value, c.deref_mut-2.ensures.value, ← sized) c.self.invariant

pub invariant_of-self : goal.invariant_of-self
invariant_of-self g c =
    let m = c.self.inside in
    let sized : m.size ≡ length (g.R.Rows.matrix c.args.rows.now) = ap (λ (v : Good). v.size) c.self.view_is ∙ c.requires.size in
    let given = lent m.given.len c.redo.new.given m.given.items (omega (arith, c.deref_mut.ensures.len)) in
    let work = lent m.work.len c.redo.new.work m.work.items (omega (arith, c.deref_mut-2.ensures.len)) in
    rw (sized, given, work) c.redo.ensures.kept

pub returns-clause-finished : goal.returns-clause-finished
returns-clause-finished g c = (invariant_of-self g c).finished

pub returns-clause-rows : goal.returns-clause-rows
returns-clause-rows g c =
    let rows = g.R.Rows.matrix c.args.rows.now in
    let sized : c.self.inside.size ≡ length rows = ap (λ (v : Good). v.size) c.self.view_is ∙ c.requires.size in
    let whole = lent c.self.inside.given.len c.redo.new.given c.self.inside.given.items (omega (arith, c.deref_mut.ensures.len)) in
    on_ok_weaker c.redo.result (λ redone. rw (sized, whole, redone.count) (redone.given_first ∙ take_all (length rows) rows (omega arith))) c.redo.ensures.redone

pub returns-clause-capacities : goal.returns-clause-capacities
returns-clause-capacities g c =
    let m = c.self.inside in
    ap (λ (done : List ℕ). m.given.cap ∷ m.work.cap ∷ done) c.redo.ensures.capacities ∙ ap (λ (v : Good). v.capacities) c.self.view_is
