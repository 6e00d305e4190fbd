use Rattle.std.proofs.Common.{◌≡◌, ◌∙◌, ◌<◌, ◌≤◌, ap, subst, get_or, inl, inr, length, slice_get, Some, ℕ, arith}
use Rattle.std.proofs.lemmas.Bool.{cases_eq}
use Rattle.std.proofs.lemmas.Grind.{common_steps}
use Rattle.std.proofs.lemmas.Option.{get_or_from_slice_get, slice_get_within}
use Rattle.emtp_case.specs.declared.control.Extra.TheVariants.{Formula as OfFormula}
use Rattle.emtp_tacs.proofs.variables.most_names.Goals as goal

pub loop-extra-preserved : goal.loop-extra-preserved
loop-extra-preserved c = λ at x below is.
    let extras = c.args.case.now.parts.extras in
    let i = c.loop-extra.extra-index in
    let e = c.extra-item.result in
    elim (cases_eq at i) [
      | inl q ↦
          let read : e ≡ get_or extras i e = rw c.as_slice-extra-items.ensures at c.extra-item.is in
          let card : e ≡ OfFormula x = read ∙ get_or_from_slice_get extras i (OfFormula x) e (subst (λ (j : ℕ). slice_get extras j ≡ Some (OfFormula x)) q is) in
          grind (arith, common_steps, c.names_of.ensures x card, c.max-most.ensures)
      | inr ne ↦ let before : length x.vars ≤ c.loop-extra.most = c.loop-extra.invariant at x (omega arith) is in grind (arith, common_steps, before, c.max-most.ensures)
    ]

pub returns : goal.returns
returns c = λ names long at x is.
    let extras = c.args.case.now.parts.extras in
    let within : at < length extras = slice_get_within extras at (OfFormula x) is in
    omega (arith, long, c.loop-extra.invariant at x (omega (arith, within, c.loop-extra-test.false, ap length c.as_slice-extra-items.ensures)) is)
