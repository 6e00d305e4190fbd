use Rattle.std.proofs.Common.{◌≡◌, ◌≢◌, ◌∙◌, ◌<◌, FitsSigned, ap, arith, get_or, get_or-set_other, get_or-set_same, inl, inr, length, of_z, rules, slice_index, to_z}
use mir.Syntax.{w64, w128}
use Rattle.std.proofs.lemmas.Bool.{cases_eq}
use Rattle.std.proofs.lemmas.Int.{to_z-of_z}
use Rattle.std.proofs.lemmas.List.{get_or_default}
use Rattle.emtp_case.specs.declared.row_kind.RowKind.TheVariants.{Ground, Kcl}
use Rattle.emtp_elim.specs.Matrix.{item}
use Rattle.emtp_net.specs.held.Rights.{row_value}
use Rattle.emtp_rows.specs.Nodal.{kind_at}
use Rattle.emtp_net.proofs.right.set_rows.Goals as goal

pub loop-i-preserved : goal.loop-i-preserved
loop-i-preserved c =
    let i = c.loop-i.i in
    let out = c.args.out.now in
    let new = c.row_value.result in
    let inside : i < length c.loop-i.out = omega (arith, c.loop-i-test.true, c.requires.kinds, c.loop-i.auto.out) in
    let wide : FitsSigned w128 new = search rules in
    let sum : FitsSigned w128 (item c.loop-i.out i) = search rules in
    let voltage : FitsSigned w64 c.voltage.result = search rules in
    let is = simp to_z-of_z at c.row_value.ensures in
    let written : to_z w128 (of_z w128 new) ≡ row_value (item out i) (item c.args.values.now (slice_index c.args.places.now i)) (kind_at c.args.kinds.now i)
    = to_z-of_z w128 new wide ∙ is ∙ ap (λ x. row_value x c.voltage.result (get_or c.args.kinds.now i Kcl)) (c.loop-i.invariant.later i (omega arith)) ∙ ap (λ x. row_value (item out i) x (get_or c.args.kinds.now i Kcl)) c.voltage.ensures
    ∙ ap (row_value (item out i) (item c.args.values.now (slice_index c.args.places.now i))) (get_or_default c.args.kinds.now i Kcl Ground c.loop-i-test.true) in
    record {
      set = λ j below. elim (cases_eq j i) [
        | inl here ↦ rw (here, get_or-set_same) written
        | inr other ↦ rw get_or-set_other (c.loop-i.invariant.set j (omega (arith, other, below)))
      ];
      later = λ j from. let other : j ≢ i = omega (arith, from) in rw get_or-set_other (c.loop-i.invariant.later j (omega (arith, from)));
    }
