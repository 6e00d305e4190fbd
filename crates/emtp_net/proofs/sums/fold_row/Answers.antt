use Rattle.std.proofs.Common.{◌≡◌, ◌==◌, ◌∙◌, ◌<◌, ap, arith, false, get_or-set_other, get_or-set_same, inl, inr, length, of_z, refl, sym, to_z, true}
use mir.Syntax.{w128}
use Rattle.std.proofs.lemmas.Bool.{cases_eq}
use Rattle.std.proofs.lemmas.Int.{ints}
use Rattle.std.proofs.lemmas.List.{get_or_default}
use Rattle.emtp_case.specs.declared.row_kind.RowKind.TheVariants.{Ground, Kcl}
use Rattle.emtp_elim.specs.Matrix.{item}
use Rattle.emtp_fix.proofs.Wide.{through}
use Rattle.emtp_net.proofs.Folding.{tie_is_plain}
use Rattle.emtp_case.proofs.RowsOfNodes.{is_number, isnt_number}
use Rattle.emtp_rows.specs.Nodal.{kind_at}
use Rattle.emtp_rows.specs.held.Touched.{tied_row}
use Rattle.emtp_net.proofs.sums.fold_row.Goals as goal

pub add_to-requires-clause-amount : goal.add_to-requires-clause-amount
add_to-requires-clause-amount c =
    let kinds = c.args.kinds.now in
    let row : c.tied_row-to.result ≡ tied_row kinds (kind_at kinds c.args.k) = c.tied_row-to.ensures ∙ ap (tied_row kinds) (get_or_default kinds c.args.k Kcl Ground c.requires.there) in
    let small = c.requires.amount (tie_is_plain kinds (kind_at kinds c.args.k) (omega (arith, row, c.if-to-kinds.true))) in
    rw (through (item c.args.sums.now c.args.k) (omega (arith, small))) (omega (arith, small))

pub returns-then-to-kinds : goal.returns-then-to-kinds
returns-then-to-kinds c = λ j below.
    let kinds = c.args.kinds.now in
    let sums = c.args.sums.now in
    let k = c.args.k in
    let to = c.tied_row-to.result in
    let row : to ≡ tied_row kinds (kind_at kinds k) = c.tied_row-to.ensures ∙ ap (tied_row kinds) (get_or_default kinds k Kcl Ground c.requires.there) in
    let small = c.requires.amount (tie_is_plain kinds (kind_at kinds k) (omega (arith, row, c.if-to-kinds.true))) in
    let read : to_z w128 (of_z w128 (item sums k)) ≡ item sums k = through (item sums k) (omega (arith, small)) in
    let inside : to < length sums = omega (arith, c.if-to-kinds.true, c.requires.each) in
    elim (cases_eq j to) [
      | inl here ↦
          let on : (tied_row kinds (kind_at kinds k) == j) ≡ true = is_number (tied_row kinds (kind_at kinds k)) j (sym row ∙ sym here) in
          rw (on, c.add_to.ensures, here, get_or-set_same, read) refl
      | inr other ↦
          let off : (tied_row kinds (kind_at kinds k) == j) ≡ false = isnt_number (tied_row kinds (kind_at kinds k)) j (λ e. other (sym e ∙ sym row)) in
          rw (off, c.add_to.ensures, get_or-set_other) (omega (arith, ints))
    ]
