use Rattle.emtp_case.specs.declared.limit.TheConstants.{MOST_HISTORY_VALUES}
use mir.Syntax.{w64}
use Rattle.std.proofs.Common.{◌≡◌, ◌∙◌, ◌+◌, ◌≤◌, FitsSigned, ap, arith, length, rules, subst, sym}
use Rattle.std.proofs.lemmas.Int.{to_z-of_z}
use Rattle.emtp_case.specs.HistoryValues.{history_values_of}
use Rattle.emtp_case.specs.declared.case.Parts.{Parts}
use Rattle.emtp_case.specs.declared.run_data.RunData.{RunData}
use Rattle.emtp_deck.specs.ControlFilling.{with_extra}
use Rattle.emtp_sense.specs.ControlSense.{entry_history_values}
use Rattle.emtp_deck.proofs.ControlAdding.{extra_more, fold_next, next_history, next_sum, room_for, sum_front, sum_next}
use Rattle.emtp_deck.proofs.control_filling.add_extras.Goals as goal

pub add_extra-requires-clause-history : goal.add_extra-requires-clause-history
add_extra-requires-clause-history c =
    let inv = c.loop-entry.invariant in
    let x = c.entry-item.result in
    let front = sum_front (entry_history_values c.args.draft.now.parts.run.dt) c.args.entries.now c.loop-entry.entry-index x c.entry-item.is c.loop-entry-test.true in
    let room = room_for (history_values_of c.loop-entry.draft.parts) (history_values_of c.args.draft.now.parts) c.loop-entry.history _ (entry_history_values c.args.draft.now.parts.run.dt x) _ inv.history inv.sum front c.requires.history in
    subst (λ (r : RunData). history_values_of c.loop-entry.draft.parts + entry_history_values r.dt x ≤ MOST_HISTORY_VALUES) (sym inv.run) room

pub loop-entry-preserved : goal.loop-entry-preserved
loop-entry-preserved c =
    let inv = c.loop-entry.invariant in
    let vs = c.args.variables.now.keys in
    let pts = c.args.points.now in
    let x = c.entry-item.result in
    let ok = c.in_ok-add_extra.ensures.ok in
    let more = extra_more vs pts c.loop-entry.draft.parts x in
    let step : c.add_extra.new.draft.parts.run ≡ c.loop-entry.draft.parts.run = ap (λ (p : Parts). p.run) ok ∙ more.run in
    let fits : FitsSigned w64 c.add_extra.new.draft.parts.run.dt = search rules in
    let value = simp to_z-of_z at c.entry_history_values-history.ensures.value in
    let here = value ∙ ap (λ (r : RunData). entry_history_values r.dt x) step in
    let first = value ∙ ap (λ (r : RunData). entry_history_values r.dt x) (step ∙ inv.run) in
    let next = sum_next (entry_history_values c.args.draft.now.parts.run.dt) c.args.entries.now c.loop-entry.entry-index x c.entry-item.is c.loop-entry-test.true in
    record {
      same = ok ∙ ap (λ (p : Parts). with_extra vs pts p x) inv.same ∙ sym (fold_next (with_extra vs pts) c.args.draft.now.parts c.args.entries.now c.loop-entry.entry-index x c.entry-item.is c.loop-entry-test.true);
      vars = ap (λ (p : Parts). p.vars) ok ∙ more.vars ∙ inv.vars;
      run = step ∙ inv.run;
      room = omega (arith, ap (λ (p : Parts). length p.extras) ok, more.room, inv.room);
      sum = next_sum c.loop-entry.history _ _ c.entry_history_values-history.result _ inv.sum first next;
      history = next_history _ (history_values_of c.loop-entry.draft.parts) (history_values_of c.args.draft.now.parts) c.loop-entry.history _ c.entry_history_values-history.result c.in_ok-add_extra.ensures.history inv.history here;
    }
