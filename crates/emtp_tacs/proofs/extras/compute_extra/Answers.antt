use Rattle.std.proofs.Common.{◌≡◌, ◌∙◌, ◌+◌, ap, sym, subst, get_or, to_z, of_z, Result, Err}
use mir.Syntax.{w64}
use Rattle.std.proofs.lemmas.Option.{get_or_from_slice_get}
use Rattle.emtp_case.specs.held.Control.{var_of}
use Rattle.emtp_fix.proofs.Wide.{through_64}
use Rattle.emtp_tacs.specs.held.Stages.{Reaches}
use Rattle.emtp_tacs.specs.Step.{SoFar}
use Rattle.emtp_tacs.specs.declared.fault.TacsFault.{TacsFault}
use Rattle.emtp_tacs.proofs.Folds.{card_out, card_reaches}
use Rattle.emtp_tacs.proofs.extras.compute_extra.Goals as goal

pub returns-in-Ok-clause-card : goal.returns-in-Ok-clause-card
returns-in-Ok-clause-card c = λ H early e s long here in_pass so_far.
    let case = c.args.pass.case.now.parts in
    let at = c.args.at in
    let r = c.index-as_slice-at.result in
    let read : r ≡ get_or case.extras at r = rw c.as_slice.ensures at c.index-as_slice-at.is in
    let is : r ≡ e = read ∙ get_or_from_slice_get case.extras at e r here in
    let var = c.variable_of-var.ensures ∙ ap var_of is in
    let value : to_z w64 (of_z w64 c.in-Ok.value) ≡ c.in-Ok.value = through_64 _ c.in-Ok.ensures.small in
    rw value (card_reaches case H early at c.args.pass.step c.args.values.now c.args.devices.now c.value_of.new.devices s e c.variable_of-var.result c.in-Ok.value here in_pass var c.requires.same long (λ x is. c.in-Ok.ensures.value.device x is) (λ x is. (c.in-Ok.ensures.value.formula x is).0) (λ x is. c.in-Ok.ensures.value.formula_same x is) so_far)

pub returns-in-Err-clause-card : goal.returns-in-Err-clause-card
returns-in-Err-clause-card c = λ H early e s long here in_pass so_far.
    let case = c.args.pass.case.now.parts in
    let at = c.args.at in
    let r = c.index-as_slice-at.result in
    let read : r ≡ get_or case.extras at r = rw c.as_slice.ensures at c.index-as_slice-at.is in
    let is : r ≡ e = read ∙ get_or_from_slice_get case.extras at e r here in
    let var = c.variable_of-var.ensures ∙ ap var_of is in
    let out = card_out case H early at c.args.pass.step c.args.values.now c.args.devices.now c.value_of.new.devices s e c.variable_of-var.result c.in-Err.field-0 here in_pass var c.requires.same long (λ x is. c.in-Err.ensures.value.device x is) (λ x is. c.in-Err.ensures.value.formula x is) so_far in
    subst (λ (d : Result SoFar TacsFault). Reaches (Err c.range_fault.result) case H early (at + 1) c.args.values.now c.value_of.new.devices d) (sym out) c.range_fault.ensures
