use Rattle.std.proofs.Common.{◌≡◌, ◌∙◌, sym, ap, subst, length, Ok, Err}
use Rattle.std.proofs.lemmas.List.{with_items_is}
use Rattle.emtp_blocks.proofs.OneByOne.{all_small}
use Rattle.emtp_blocks.specs.held.BlockRows.{AreUnknowns}
use Rattle.emtp_blocks.specs.System.{matrix, right}
use Rattle.emtp_case.specs.declared.case.Parts.{Parts}
use Rattle.emtp_elim.specs.Outcome.{outcome}
use Rattle.emtp_fix.specs.declared.limit.TheConstants.{LARGEST_VALUE}
use Rattle.emtp_tacs.specs.Step.{range_fault}
use Rattle.emtp_tacs.proofs.Systems.{rows_are, rows_size, solve_ends}
use Rattle.emtp_tacs.proofs.block_system.BlockSystem.find_outputs.Goals as goal

pub solve-requires-clause-all : goal.solve-requires-clause-all
solve-requires-clause-all c = ap length c.requires.rows ∙ rows_size c.args.case.now.parts c.args.self.now.blocks c.requires.holds.case_is ∙ sym c.requires.holds.kept_size

pub returns-in-Ok-clause-small : goal.returns-in-Ok-clause-small
returns-in-Ok-clause-small c =
    let whole = with_items_is c.args.self.now.x c.solve.new.x (c.solve.auto.x ∙ c.deref_mut-3.ensures.len) in
    let sized : length c.solve.new.x ≡ length c.args.case.now.parts.blocks = c.solve.auto.x ∙ ap length c.deref_mut-3.ensures.value ∙ c.requires.holds.x in
    subst (AreUnknowns c.args.case.now.parts) (sym whole) (record { one_each = sized; small = all_small LARGEST_VALUE c.solve.new.x (λ i below. c.in-Ok.ensures.within i) })

pub returns-in-Ok-clause-finds : goal.returns-in-Ok-clause-finds
returns-in-Ok-clause-finds c = λ H stands.
    let case = c.args.case.now.parts in
    let known = c.args.values.now in
    let whole = with_items_is c.args.self.now.x c.solve.new.x (c.solve.auto.x ∙ c.deref_mut-3.ensures.len) in
    let given = c.history.ensures.value H stands ∙ ap (λ (p : Parts). right p H known) c.requires.holds.case_is in
    let read = c.deref_mut-2.ensures.value ∙ with_items_is c.args.self.now.right c.history.new.rhs (c.history.auto.rhs ∙ c.deref_mut.ensures.len) ∙ given in
    let rows = c.requires.rows ∙ rows_are case c.args.self.now.blocks H c.requires.holds.case_is stands in
    sym (ap (λ m. outcome m c.deref_mut-2.result.now) rows ∙ ap (outcome (matrix case H)) read) ∙ c.in-Ok.ensures.solved ∙ ap Ok (sym whole)

pub returns-in-Err-clause-finds : goal.returns-in-Err-clause-finds
returns-in-Err-clause-finds c = λ H stands.
    let case = c.args.case.now.parts in
    let known = c.args.values.now in
    let given = c.history.ensures.value H stands ∙ ap (λ (p : Parts). right p H known) c.requires.holds.case_is in
    let read = c.deref_mut-2.ensures.value ∙ with_items_is c.args.self.now.right c.history.new.rhs (c.history.auto.rhs ∙ c.deref_mut.ensures.len) ∙ given in
    let rows = c.requires.rows ∙ rows_are case c.args.self.now.blocks H c.requires.holds.case_is stands in
    let is = sym (ap (λ m. outcome m c.deref_mut-2.result.now) rows ∙ ap (outcome (matrix case H)) read) ∙ c.in-Err.ensures.fault in
    solve_ends case H known c.in-Err.fault is ∙ ap (λ n. Err (range_fault n)) (sym c.block_var.ensures.value) ∙ ap Err (sym c.range_fault.ensures)
