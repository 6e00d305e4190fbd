use mir.Syntax.{w64}
use Rattle.std.proofs.Common.{◌+◌, arith, drop, sym, ap, ◌∙◌, to_z, of_z}
use Rattle.std.proofs.lemmas.Int.{to_z-of_z}
use Rattle.emtp_fix.specs.Chain.{unless}
use Rattle.emtp_sense.specs.ControlSense.{extra_bad, judge_extras}
use Rattle.emtp_sense.proofs.ControlJudging.{extra_fine, extras_here, extras_next}
use Rattle.emtp_sense.proofs.control_sense.judge_extras.Goals as goal

pub loop-entry-preserved : goal.loop-entry-preserved
loop-entry-preserved c =
    let dt = to_z w64 (of_z w64 c.args.dt) in
    let variables = c.args.variables.now.keys in
    let at = c.loop-entry.at in
    let first = c.args.first + at in
    let x = c.entry-item.result in
    let sum = c.entry_history_values-history.ensures.value in
    let none = sym c.extra_bad.ensures ∙ c.in_default.is in
    let fine = extra_fine variables dt at first c.loop-entry.history x (ap (λ n. extra_bad variables at first (c.loop-entry.history + n) x) (sym sum) ∙ none) in
    record {
      same = c.loop-entry.invariant.same ∙ extras_next variables dt c.args.first at c.loop-entry.history (c.loop-entry.history + c.entry_history_values-history.result) c.args.entries.now c.loop-entry.entry-index x c.entry-item.is c.loop-entry-test.true (ap (λ n. c.loop-entry.history + n) sum) none;
      few = omega (arith, fine.room);
      history = rw sum (fine.total c.loop-entry.invariant.history);
    }

pub returns-in-Some-clause-value : goal.returns-in-Some-clause-value
returns-in-Some-clause-value c =
    let dt = to_z w64 (of_z w64 c.args.dt) in
    let variables = c.args.variables.now.keys in
    let at = c.loop-entry.at in
    let sum = c.loop-entry.history + c.entry_history_values-history.result in
    let es = c.args.entries.now in
    sym (ap (λ d. judge_extras variables d c.args.first 0 0 es) (sym (to_z-of_z w64 c.args.dt c.ranges.dt)) ∙ c.loop-entry.invariant.same
    ∙ extras_here variables dt c.args.first at c.loop-entry.history sum es c.loop-entry.entry-index c.entry-item.result c.entry-item.is c.loop-entry-test.true (ap (λ n. c.loop-entry.history + n) c.entry_history_values-history.ensures.value)
    ∙ ap (λ b. unless b (λ bad. bad) (judge_extras variables dt c.args.first (at + 1) sum (drop (c.loop-entry.entry-index + 1) es))) (sym c.extra_bad.ensures ∙ c.in-Some.is))
