-- What a steady state was made of, and how its rows balance.
use Rattle.std.proofs.Common.{◌≡◌, ◌∙◌, sym, ap, subst, ℕ, zero, suc, ◌<◌, ◌≤◌, ℤ, max, unsigned_abs, nat_lt, Bool, true, false, List, length, get_or, None, Result, Ok, Err, IfOk, inl, inr, arith}
use Rattle.std.specs.List.{range_with_len}
use Rattle.std.proofs.lemmas.Bool.{cases_eq, cases_lt, lt-ltb, true≢false}
use Rattle.std.proofs.lemmas.List.FromFn.{get_or-range_with_len, length-range_with_len}
use Rattle.emtp_fix.proofs.Chaining.{same_ok, then_ok, unless_ok}
use Rattle.emtp_fix.specs.Chain.{◌>>=◌}
use Rattle.emtp_case.proofs.Places.{position-None}
use Rattle.emtp_case.specs.NodeRows.{group_sum, kind_at, node_at}
use Rattle.emtp_case.specs.declared.case.Parts.{Parts}
use Rattle.emtp_case.specs.declared.row_kind.RowKind.{RowKind}
use Rattle.emtp_case.specs.declared.row_kind.RowKind.TheVariants.{Ground, Kcl, Source, Sum, Tie}
use Rattle.emtp_admittance.specs.Impedance.{ports_of}
use Rattle.emtp_admittance.specs.declared.admittance.TwoPort.{TwoPort}
use Rattle.emtp_phasor.specs.Balance.{IsBalanced, IsRowBalanced}
use Rattle.emtp_phasor.specs.Steady.{State, balanced_residuals, doubled_solution, first_flow_out, first_residual_above, greatest_below, leaving_node, residual_in, resting_kinds, row_residual, steady, untied_at_rest, within}
use Rattle.emtp_phasor.specs.Volts.{phasors_of}
use Rattle.emtp_phasor.specs.declared.ending.Ending.{Ending}
use Rattle.emtp_phasor.specs.declared.phasor.Phasor.{Phasor}

pub made_of : (case : Parts) (freq : ℤ) (s : State) → steady case freq ≡ Ok s
    → (x : List ℤ) × (s.volts ≡ phasors_of case x) × (first_residual_above case (ports_of case freq) s.volts ≡ None)
    × (s.residual ≡ greatest_below (length case.nodes) (row_residual case (ports_of case freq) s.volts))
unfolding steady
made_of case freq s made =
    let ports = ports_of case freq in
    let one = then_ok (untied_at_rest case) (λ none. doubled_solution case freq >>= (λ x. within case ports (phasors_of case x) >>= (λ volts. balanced_residuals case ports volts))) s made in
    let two = then_ok (doubled_solution case freq) (λ x. within case ports (phasors_of case x) >>= (λ volts. balanced_residuals case ports volts)) s one.2 in
    let three = then_ok (within case ports (phasors_of case two.0)) (λ volts. balanced_residuals case ports volts) s two.2 in
    let flow = unless_ok (first_flow_out case ports (phasors_of case two.0)) _ (Ok (phasors_of case two.0)) three.0 three.1 in
    let four = unless_ok (first_residual_above case ports three.0) _ (Ok _) s three.2 in
    let whole = same_ok _ s four.1 in
    let same : three.0 ≡ s.volts = ap (λ (s : State). s.volts) whole in
    let greatest : greatest_below (length case.nodes) (row_residual case ports three.0) ≡ s.residual = ap (λ (s : State). s.residual) whole in (
      two.0,
      sym same ∙ sym (same_ok (phasors_of case two.0) three.0 flow.1),
      subst (λ v. first_residual_above case ports v ≡ None) same four.0,
      sym (subst (λ v. greatest_below (length case.nodes) (row_residual case ports v) ≡ s.residual) same greatest),
    )

pub row_small : (case : Parts) (ports : List TwoPort) (volts : List Phasor) (row : ℕ) → first_residual_above case ports volts ≡ None → row < length case.nodes → row_residual case ports volts row ≤ unsigned_abs case.run.tolerance
row_small case ports volts row none below =
    let n = length case.nodes in
    let limit = unsigned_abs case.run.tolerance in
    let test : ℕ → Bool = λ i. nat_lt limit (row_residual case ports volts i) in
    let off = position-None test (range_with_len 0 n) none row 0 (omega (arith, below, length-range_with_len 0 n)) in
    let at : get_or (range_with_len 0 n) row 0 ≡ row = omega (arith, get_or-range_with_len 0 n row 0 below) in
    elim (cases_lt limit (row_residual case ports volts row)) [
      | inl above ↦ absurd (true≢false (sym (lt-ltb limit (row_residual case ports volts row) above) ∙ sym (ap test at) ∙ off))
      | inr fine ↦ fine
    ]

-- ---- the greatest of some numbers

greatest_least : (f : ℕ → ℕ) (n k : ℕ) → k < n → f k ≤ greatest_below n f
greatest_least f zero k below = absurd (omega (arith, below))
greatest_least f (suc n) k below = elim (cases_eq k n) [
  | inl last ↦ omega (arith, ap f last)
  | inr other ↦ omega (arith, greatest_least f n k (omega (arith, below, other)))
]

greatest_most : (f : ℕ → ℕ) (n most : ℕ) → ((k : ℕ) → k < n → f k ≤ most) → greatest_below n f ≤ most
greatest_most f zero most each = omega arith
greatest_most f (suc n) most each = omega (arith, each n (omega arith), greatest_most f n most (λ k below. each k (omega (arith, below))))

-- ---- rows

row_balanced : (case : Parts) (ports : List TwoPort) (volts : List Phasor) (most row : ℕ) (kind : RowKind) → residual_in case ports volts row kind ≤ most → IsRowBalanced case ports volts most row kind
row_balanced case ports volts most row Kcl small =
    let node = node_at case row in
    let greater : max (unsigned_abs (leaving_node case ports volts false node)) (unsigned_abs (leaving_node case ports volts true node)) ≤ most = small in
    record { real = omega (arith, greater); imaginary = omega (arith, greater) }
row_balanced case ports volts most row Sum small =
    let kinds = resting_kinds case in
    let greater : max (unsigned_abs (group_sum case kinds row (leaving_node case ports volts false))) (unsigned_abs (group_sum case kinds row (leaving_node case ports volts true))) ≤ most = small in
    record { real = omega (arith, greater); imaginary = omega (arith, greater) }
row_balanced case ports volts most row (Tie other) small = tt
row_balanced case ports volts most row Ground small = tt
row_balanced case ports volts most row Source small = tt

pub balanced : (case : Parts) (freq : ℤ) (r : Result State Ending) → steady case freq ≡ r → IfOk r (IsBalanced case freq)
balanced case freq (Ok s) is =
    let made = made_of case freq s is in
    let ports = ports_of case freq in
    let residual = row_residual case ports s.volts in
    let n = length case.nodes in
    record {
      rows = λ row below. row_balanced case ports s.volts s.residual row (kind_at (resting_kinds case) row)
          (omega (arith, greatest_least residual n row below, made.3));
      residual = omega (arith, greatest_most residual n (unsigned_abs case.run.tolerance) (λ row below. row_small case ports s.volts row made.2 below), made.3);
    }
balanced case freq (Err e) is = tt
