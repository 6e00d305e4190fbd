use Rattle.std.proofs.Common.{◌≡◌, ◌∙◌, ◌+◌, ◌<◌, ap, sym, subst, get_or, length, slice_get, Some, Ok, Err, true, ℕ, arith}
use Rattle.std.proofs.lemmas.Option.{slice_get-get_or}
use Rattle.emtp_tacs.specs.held.Stages.{Reaches}
use Rattle.emtp_tacs.specs.Step.{extra_at, group_of, in_turn, is_in_pass}
use Rattle.emtp_tacs.proofs.Folds.{pass_ends, pass_more, pass_skips}
use Rattle.emtp_tacs.proofs.extras.compute_extras.Goals as goal
use Rattle.emtp_tacs.proofs.extras.compute_extras.Goals.{then-is_in_pass+in-Ok, else-is_in_pass}

pub returns-in-Err-clause-cards : goal.returns-in-Err-clause-cards
returns-in-Err-clause-cards c = λ H s long so_far.
    let case = c.args.pass.case.now.parts in
    let at = c.loop-at.at in
    let r = c.index-as_slice-at.result in
    let read : r ≡ get_or case.extras at r = rw c.as_slice.ensures at c.index-as_slice-at.is in
    let within : at < length case.extras = omega (arith, c.loop-at-test.true, c.len-at-end.ensures) in
    let here : slice_get case.extras at ≡ Some r = slice_get-get_or case.extras at r within ∙ ap Some (sym read) in
    let in_pass : is_in_pass c.args.pass.early (group_of r) ≡ true = sym (ap (is_in_pass c.args.pass.early) c.group_of.ensures) ∙ sym c.is_in_pass.ensures ∙ c.if-is_in_pass.true in
    pass_ends case H c.args.pass.early (at + 1) (length case.extras) c.compute_extra.new.values c.compute_extra.new.values c.compute_extra.new.devices c.compute_extra.new.devices c.in-Err.fault s (omega arith)
    (pass_more case H c.args.pass.early at (Err c.in-Err.fault) c.loop-at.values c.compute_extra.new.values c.loop-at.devices c.compute_extra.new.devices r s here in_pass (λ t so. c.in-Err.ensures.card H c.args.pass.early r t long here in_pass so) (c.loop-at.invariant.reaches H s long so_far))

pub loop-at-preserved : goal.loop-at-preserved
loop-at-preserved c =
    let case = c.args.pass.case.now.parts in
    let at = c.loop-at.at in
    let r = c.index-as_slice-at.result in
    let read : r ≡ get_or case.extras at r = rw c.as_slice.ensures at c.index-as_slice-at.is in
    let within : at < length case.extras = omega (arith, c.loop-at-test.true, c.len-at-end.ensures) in
    let here : slice_get case.extras at ≡ Some r = slice_get-get_or case.extras at r within ∙ ap Some (sym read) in
    let pass_is = sym (ap (is_in_pass c.args.pass.early) c.group_of.ensures) ∙ sym c.is_in_pass.ensures in
    elim c.if-is_in_pass.branch [
      | then-is_in_pass+in-Ok w ↦ rw (w.devices-is, w.values-is) (record {
        same = w.in-Ok.ensures.same;
        known = w.in-Ok.ensures.values;
        capacities = w.in-Ok.ensures.capacities ∙ c.loop-at.invariant.capacities;
        reaches = λ H s long so_far. pass_more case H c.args.pass.early at (Ok tt) c.loop-at.values w.compute_extra.new.values c.loop-at.devices w.compute_extra.new.devices r s here (pass_is ∙ w.if-is_in_pass.true) (λ t so. w.in-Ok.ensures.card H c.args.pass.early r t long here (pass_is ∙ w.if-is_in_pass.true) so) (c.loop-at.invariant.reaches H s long so_far);
      })
      | else-is_in_pass w ↦ rw (w.devices-is, w.values-is) (record {
        same = c.loop-at.invariant.same;
        known = c.loop-at.invariant.known;
        capacities = c.loop-at.invariant.capacities;
        reaches = λ H s long so_far. pass_skips case H c.args.pass.early at c.loop-at.values c.loop-at.devices r s here (pass_is ∙ w.if-is_in_pass.false) (c.loop-at.invariant.reaches H s long so_far);
      })
    ]

pub returns-in-Err-clause-capacities : goal.returns-in-Err-clause-capacities
returns-in-Err-clause-capacities c = c.in-Err.ensures.capacities ∙ c.loop-at.invariant.capacities

pub returns-clause-capacities : goal.returns-clause-capacities
returns-clause-capacities c = c.loop-at.invariant.capacities

pub returns-clause-cards : goal.returns-clause-cards
returns-clause-cards c = λ H s long so_far.
    let case = c.args.pass.case.now.parts in
    let all : c.loop-at.at ≡ length case.extras = omega (arith, c.loop-at-test.false, c.loop-at.auto.at-end, c.len-at-end.ensures) in
    subst (λ (n : ℕ). Reaches (Ok tt) case H c.args.pass.early n c.loop-at.values c.loop-at.devices (in_turn (extra_at case H c.args.pass.early) n s)) all (c.loop-at.invariant.reaches H s long so_far)
