use Rattle.std.proofs.Common.{◌≡◌, ◌∙◌, ap, get_or, inl, inr, arith}
use Rattle.std.proofs.Math.Nat.{min-eq_left, min-le_left, min-le_right}
use Rattle.std.proofs.lemmas.Bool.{cases_eq}
use Rattle.std.proofs.lemmas.List.{get_or_default}
use Rattle.emtp_case.specs.declared.row_kind.RowKind.TheVariants.{Ground, Kcl}
use Rattle.emtp_rows.specs.Nodal.{kind_at}
use Rattle.emtp_rows.proofs.touched.touched_by_kinds.Goals as goal

pub loop-k-preserved : goal.loop-k-preserved
loop-k-preserved c =
    let old = c.args.old.now in
    let new = c.args.new.now in
    let n = c.loop-k.k in
    let left = min-le_left c.loop-k.least c.touched_by_kind.result in
    let right = min-le_right c.loop-k.least c.touched_by_kind.result in
    record {
      agrees = λ i k below there. elim (cases_eq k n) [
        | inl last ↦
            let here = c.touched_by_kind.ensures.agrees i (omega (arith, below, c.min-least.ensures, right)) in
            let old_is : kind_at old n ≡ get_or old n Kcl = get_or_default old n Ground Kcl (omega (arith, c.loop-k-test.true, c.requires)) in
            let new_is : kind_at new n ≡ get_or new n Kcl = get_or_default new n Ground Kcl c.loop-k-test.true in
            rw (last, old_is, new_is) here
        | inr earlier ↦ c.loop-k.invariant.agrees i k (omega (arith, below, c.min-least.ensures, left)) (omega (arith, there, earlier))
      ];
      same = λ same.
          let so_far = c.loop-k.invariant.same same in
          let here = c.touched_by_kind.ensures.same (ap (λ kinds. get_or kinds n Kcl) same) in
          c.min-least.ensures ∙ min-eq_left (omega (arith, so_far, here)) ∙ so_far;
    }
