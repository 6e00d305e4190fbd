use Rattle.std.proofs.Common.{◌≡◌, ◌∙◌, ◌<◌, ◌≤◌, ap, sym, subst, refl, get_or, length, slice_get, unsigned_abs, true, false, Bool, List, ℕ, ℤ, Option, Some, None, Result, Ok, Err, IfOk}
use Rattle.std.proofs.lemmas.Bool.{false≢true}
use Rattle.std.proofs.lemmas.Option.{slice_get-get_or}
use Rattle.emtp_case.specs.held.Control.{AreKnown, IsExtra}
use Rattle.emtp_case.specs.held.Sizes.{sizes_of}
use Rattle.emtp_case.specs.declared.case.Parts.{Parts}
use Rattle.emtp_case.specs.declared.control.Device.{Device}
use Rattle.emtp_case.specs.declared.control.Extra.{Extra}
use Rattle.emtp_case.specs.declared.control.Extra.TheVariants.{Device as OfDevice, Formula as OfFormula}
use Rattle.emtp_case.specs.declared.control.Formula.{Formula}
use Rattle.emtp_expr.specs.held.Value.{Evaluates}
use Rattle.emtp_fix.specs.declared.limit.OutOfRange.{OutOfRange}
use Rattle.emtp_fix.specs.declared.limit.TheConstants.{LARGEST_VALUE}
use Rattle.emtp_tacs.specs.Step.{formula_value}
use Rattle.emtp_tacs.proofs.extras.value_of.Goals as goal

-- the card that was read stands at its place
here : (extras seen : List Extra) (at : ℕ) (e : Extra) → at < length extras → seen ≡ extras → e ≡ get_or seen at e → slice_get extras at ≡ Some e
here extras seen at e within same read = slice_get-get_or extras at e within ∙ ap Some (sym (read ∙ ap (λ (xs : List Extra). get_or xs at e) same))

-- what is a device is no formula, and a formula is one only
abbrev is_formula : Option Extra → Bool
is_formula None = false
is_formula (Some (OfDevice x)) = false
is_formula (Some (OfFormula x)) = true

one_kind : (o : Option Extra) (x : Device) (y : Formula) → o ≡ Some (OfDevice x) → o ≡ Some (OfFormula y) → ⊥
one_kind o x y device formula = false≢true (ap is_formula (sym device ∙ formula))

abbrev formula_or : Formula → Option Extra → Formula
formula_or x None = x
formula_or x (Some (OfDevice y)) = x
formula_or x (Some (OfFormula y)) = y

small : (r : Result ℤ OutOfRange) (defined : Option ℤ) → Evaluates r defined → IfOk r (λ y. unsigned_abs y ≤ LARGEST_VALUE)
small (Ok y) defined is = is.1
small (Err e) defined is = tt

pub formula_value-requires-clause-names : goal.formula_value-requires-clause-names
formula_value-requires-clause-names c =
    c.requires.names c.args.at c.in-Formula.formula (here c.args.pass.case.now.parts.extras c.as_slice.result.now c.args.at c.index-as_slice-at.result c.requires.at c.as_slice.ensures c.index-as_slice-at.is ∙ ap Some c.in-Formula.is)

pub formula_value-requires-clause-values : goal.formula_value-requires-clause-values
formula_value-requires-clause-values c = c.requires.values

pub step-requires-clause-device : goal.step-requires-clause-device
step-requires-clause-device c =
    (c.in-Device.field-0, ap (λ (p : Parts). slice_get p.extras c.args.at) c.requires.same ∙ here c.args.pass.case.now.parts.extras c.as_slice.result.now c.args.at c.index-as_slice-at.result c.requires.at c.as_slice.ensures c.index-as_slice-at.is ∙ ap Some c.in-Device.is)

pub step-requires-clause-values : goal.step-requires-clause-values
step-requires-clause-values c = subst (λ (p : Parts). AreKnown p c.args.values.now) (sym c.requires.same) c.requires.values

pub returns-in-Device-clause-same : goal.returns-in-Device-clause-same
returns-in-Device-clause-same c = c.step.ensures.moves.case ∙ c.requires.same

pub returns-in-Formula-clause-same : goal.returns-in-Formula-clause-same
returns-in-Formula-clause-same c = c.requires.same

pub formula_value-requires-clause-formula : goal.formula_value-requires-clause-formula
formula_value-requires-clause-formula c =
    let case = c.args.pass.case.now.parts in
    let r = c.index-as_slice-at.result in
    let read : get_or case.extras c.args.at r ≡ r = sym (rw c.as_slice.ensures at c.index-as_slice-at.is) in
    subst (IsExtra (sizes_of case) case.points) (read ∙ c.in-Formula.is) (c.args.pass.case.now.fits.draft.control.extras c.args.at r c.requires.at)

pub returns-in-Device-clause-small : goal.returns-in-Device-clause-small
returns-in-Device-clause-small c = c.step.ensures.small

pub returns-in-Device-clause-value : goal.returns-in-Device-clause-value
returns-in-Device-clause-value c =
    let there = here c.args.pass.case.now.parts.extras c.as_slice.result.now c.args.at c.index-as_slice-at.result c.requires.at c.as_slice.ensures c.index-as_slice-at.is ∙ ap Some c.in-Device.is in
    record {
      device = λ x is. c.step.ensures.moves;
      formula = λ x is. absurd (one_kind (slice_get c.args.pass.case.now.parts.extras c.args.at) c.in-Device.field-0 x there is);
      formula_same = λ x is. absurd (one_kind (slice_get c.args.pass.case.now.parts.extras c.args.at) c.in-Device.field-0 x there is);
    }

pub returns-in-Formula-clause-small : goal.returns-in-Formula-clause-small
returns-in-Formula-clause-small c = small c.formula_value.result (formula_value c.args.values.now c.in-Formula.formula) c.formula_value.ensures

pub returns-in-Formula-clause-value : goal.returns-in-Formula-clause-value
returns-in-Formula-clause-value c =
    let there = here c.args.pass.case.now.parts.extras c.as_slice.result.now c.args.at c.index-as_slice-at.result c.requires.at c.as_slice.ensures c.index-as_slice-at.is ∙ ap Some c.in-Formula.is in
    record {
      device = λ x is. absurd (one_kind (slice_get c.args.pass.case.now.parts.extras c.args.at) x c.in-Formula.formula is there);
      formula = λ x is.
          let same : c.in-Formula.formula ≡ x = ap (formula_or x) (sym there ∙ is) in
          subst (λ (f : Formula). Evaluates c.formula_value.result (formula_value c.args.values.now f)) same c.formula_value.ensures;
      formula_same = λ x is. refl;
    }
