-- What is true of the steps of a network.
use Rattle.std.proofs.Common.{◌≡◌, ◌∙◌, sym, ap, subst, ℕ, ◌+◌, ◌<◌, ◌≤◌, List, ◌∷◌, length, get_or, Bool, unsigned_abs, nat_lt, None, Ok, pos, inl, inr, arith}
use Rattle.std.specs.List.{range_with_len}
use Rattle.std.proofs.lemmas.Bool.{cases_lt, lt-ltb, true≢false}
use Rattle.std.proofs.lemmas.List.FromFn.{get_or-range_with_len, length-range_with_len}
use Rattle.emtp_case.proofs.Places.{position-None}
use Rattle.emtp_case.specs.NodeRows.{node_at}
use Rattle.emtp_case.specs.StepRecord.{StepRecord}
use Rattle.emtp_case.specs.declared.case.Parts.{Parts}
use Rattle.emtp_fix.proofs.Chaining.{same_ok, then_ok, unless_ok}
use Rattle.emtp_fix.specs.Chain.{◌>>=◌}
use Rattle.emtp_rows.proofs.NodalRows.{length-nodal_matrix}
use Rattle.emtp_tail.proofs.RedoneRows.{none_redone as same_redone, rows_next_most, rows_of_run}
use Rattle.emtp_rows.specs.Nodal.{Nodal, nodal_matrix}
use Rattle.emtp_net.specs.Part.{NetworkPart, voltages_of}
use Rattle.emtp_net.specs.Redone.{net_redone, step_redone}
use Rattle.emtp_net.specs.held.Redone.{net_ticks, step_ticks}
use Rattle.emtp_net.specs.Residual.{residual_of}
use Rattle.emtp_net.specs.Step.{balanced, first_unbalanced, moved, network_part, solution, switched, untied}
use Rattle.emtp_net.specs.System.{conductances, couplings, kinds_of, matrix, nodal}
use Rattle.emtp_net.specs.declared.fault.NetFault.TheVariants.{Residual}

-- ---- residuals

-- a step that is made is balanced
made_balanced : (case : Parts) (H : List StepRecord) (part : NetworkPart) → network_part case H ≡ Ok part → first_unbalanced case H part.branches ≡ None
unfolding network_part
made_balanced case H part made =
    let one = then_ok (untied case H) (λ none. solution case H >>= (λ x. moved case H (voltages_of case x) >>= (λ part. switched case part >>= (λ within. balanced case H within)))) part made in
    let two = then_ok (solution case H) (λ x. moved case H (voltages_of case x) >>= (λ part. switched case part >>= (λ within. balanced case H within))) part one.2 in
    let three = then_ok (moved case H (voltages_of case two.0)) (λ part. switched case part >>= (λ within. balanced case H within)) part two.2 in
    let four = then_ok (switched case three.0) (λ within. balanced case H within) part three.2 in
    let found = unless_ok (first_unbalanced case H four.0.branches) (λ i. Residual (node_at case i) (pos (residual_of case H four.0.branches i))) (Ok four.0) part four.2 in
    subst (λ (p : NetworkPart). first_unbalanced case H p.branches ≡ None) (same_ok four.0 part found.1) found.0

pub residual_small : (case : Parts) (H : List StepRecord) (part : NetworkPart) → network_part case H ≡ Ok part → (row : ℕ) → row < length case.nodes → residual_of case H part.branches row ≤ unsigned_abs case.run.tolerance
residual_small case H part made row below =
    let n = length case.nodes in
    let limit = unsigned_abs case.run.tolerance in
    let test : ℕ → Bool = λ i. nat_lt limit (residual_of case H part.branches i) in
    let off = position-None test (range_with_len 0 n) (made_balanced case H part made) row 0 (omega (arith, below, length-range_with_len 0 n)) in
    let at : get_or (range_with_len 0 n) row 0 ≡ row = omega (arith, get_or-range_with_len 0 n row 0 below) in
    elim (cases_lt limit (residual_of case H part.branches row)) [
      | inl above ↦ absurd (true≢false (sym (lt-ltb limit (residual_of case H part.branches row) above) ∙ sym (ap test at) ∙ off))
      | inr fine ↦ fine
    ]

-- ---- ticks

-- a step ticks at most once for each row
pub most_ticks : (case : Parts) (H : List StepRecord) → step_ticks case H ≤ length case.nodes
most_ticks case H = rows_next_most (length case.nodes) (matrix case) H

-- the ticks are those of one matrix and the rows redone, once a step is made
pub ticks_of_run : (case : Parts) (r s : StepRecord) (past : List StepRecord) → net_ticks case (r ∷ s ∷ past) ≡ length case.nodes + net_redone case (r ∷ s ∷ past)
ticks_of_run case r s past = rows_of_run (length case.nodes) (matrix case) r s past

-- with the same conductances and kinds the matrix is the same
pub none_redone : (case : Parts) (r s : StepRecord) (past : List StepRecord) → conductances case (r ∷ s ∷ past) ≡ conductances case (s ∷ past) → kinds_of case (r ∷ s ∷ past) ≡ kinds_of case (s ∷ past) → step_redone case (r ∷ s ∷ past) ≡ 0
none_redone case r s past own kinds =
    let same : nodal case (r ∷ s ∷ past) ≡ nodal case (s ∷ past) = ap (λ g. record { case = case; own = g; coupling = couplings case; kinds = kinds_of case (r ∷ s ∷ past) }) own ∙ ap (λ k. record { case = case; own = conductances case (s ∷ past); coupling = couplings case; kinds = k }) kinds in
    same_redone (length case.nodes) (matrix case) r s past (length-nodal_matrix (nodal case (s ∷ past))) (ap (λ (n : Nodal). nodal_matrix n) same)
