use Rattle.std.proofs.Common.{◌≡◌, ◌∙◌, ◌<◌, ap, length, inl, inr, arith}
use Rattle.std.proofs.lemmas.Bool.{cases_lt}
use Rattle.std.proofs.lemmas.List.{get_or_default}
use Rattle.emtp_case.specs.declared.row_kind.RowKind.TheVariants.{Ground, Kcl}
use Rattle.emtp_rows.specs.Nodal.{kind_at}
use Rattle.emtp_rows.specs.held.Touched.{tied_row}
use Rattle.emtp_net.proofs.sums.has_ties.Goals as goal

pub loop-k-preserved : goal.loop-k-preserved
loop-k-preserved c = λ j below.
    let kinds = c.args.kinds.now in
    let k = c.loop-k.k in
    let inside : k < length kinds = omega (arith, c.loop-k-test.true) in
    let row : c.tied_row-to.result ≡ tied_row kinds (kind_at kinds k) = c.tied_row-to.ensures ∙ ap (tied_row kinds) (get_or_default kinds k Kcl Ground inside) in
    elim (cases_lt j k) [
      | inl earlier ↦ c.loop-k.invariant j earlier
      | inr last ↦
          let same : j ≡ k = omega (arith, below, last) in
          rw same (omega (arith, row, c.if-to-kinds.false))
    ]

pub returns-then-to-kinds : goal.returns-then-to-kinds
returns-then-to-kinds c = λ off. absurd (cc)

pub returns : goal.returns
returns c = λ off j inside.
    let end : c.loop-k.k ≡ length c.args.kinds.now = omega arith in
    c.loop-k.invariant j (omega (arith, inside, end))
