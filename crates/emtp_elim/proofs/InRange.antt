-- Rows, right sides and unknowns that stay in range, entry by entry, and the faults of the others.
use Rattle.std.proofs.Common.{◌≡◌, ◌≢◌, ◌⊎◌, ◌∙◌, sym, ℕ, suc, ◌<◌, ◌≤◌, ℤ, pos, unsigned_abs, Bool, true, false, List, length, if◌then◌else◌, Option, Some, None, refl, ap, inl, inr, arith}
use Rattle.std.specs.Bool.{Decides}
use Rattle.std.specs.Prelude.{nat_eq}
use Rattle.std.proofs.lemmas.Bool.Decides.{Decides-and, Decides-or, Decides-ltb, Decides-like, Decides-below_and}
use Rattle.std.proofs.lemmas.Int.{ints}
use Rattle.std.proofs.lemmas.Bool.{cases_lt, le-leb, lt-leb, leb-true, eq-eqb, ne_eqb, cond-true, cond-false, false_from_ne_true, true≢false}
use Rattle.emtp_fix.specs.Limit.{is_within}
use Rattle.emtp_fix.specs.declared.limit.TheConstants.{LARGEST_ENTRY, LARGEST_RATIO, LARGEST_VALUE}
use Rattle.emtp_elim.specs.Matrix.{Matrix, item, row_of, entry}
use Rattle.emtp_elim.specs.Elimination.{ratio, stage, stage_right, solution}
use Rattle.emtp_elim.specs.Fault.{each_below, is_ratio_in_range, is_right_in_range, is_row_in_range, is_stage_in_range, pivot, right_fault, row_fault, unknown_fault}
use Rattle.emtp_elim.specs.held.Fault.{IsGoodRight, IsGoodRow}
use Rattle.emtp_elim.specs.declared.fault.RowCause.TheVariants.{Range, ZeroPivot}
use Rattle.emtp_elim.specs.declared.fault.RowFault.{RowFault}
use Rattle.emtp_elim.specs.declared.fault.SolveFault.{SolveFault}

below-Decides : (p : ℕ → Bool) (P : ℕ → Type 0) → ((k : ℕ) → Decides (p k) (P k)) → (n : ℕ) → Decides (each_below n p) ((k : ℕ) → k < n → P k)
below-Decides p P each n = Decides-below_and p P (λ m. each_below m p) each refl (λ m. refl) n

within-Decides : (limit : ℕ) (z : ℤ) → Decides (is_within limit z) (unsigned_abs z ≤ limit)
within-Decides limit z = (leb-true _ _, le-leb _ _)

-- ---- rows

-- the entries of row i from its diagonal's stage back, and its ratios
pub record StaysInRange (rows : Matrix) (i : ℕ) : Type 0 where
  pub entries : (k j : ℕ) → k ≤ i → k ≤ j → j < length (row_of rows i) → unsigned_abs (entry (stage rows k) i j) ≤ LARGEST_ENTRY
  pub ratios : (k : ℕ) → k < i → unsigned_abs (ratio (stage rows k) k i) ≤ LARGEST_RATIO

row-Decides : (rows : Matrix) (i : ℕ) → Decides (is_row_in_range rows i) (StaysInRange rows i)
row-Decides rows i =
    let stages = below-Decides (is_stage_in_range rows i) (λ k. (j : ℕ) → j < length (row_of rows i) → (j < k) ⊎ (unsigned_abs (entry (stage rows k) i j) ≤ LARGEST_ENTRY))
    (λ k. below-Decides _ _ (λ j. Decides-or _ _ (Decides-ltb j k) (within-Decides LARGEST_ENTRY (entry (stage rows k) i j))) (length (row_of rows i))) (suc i) in
    let ratios = below-Decides (is_ratio_in_range rows i) (λ k. unsigned_abs (ratio (stage rows k) k i) ≤ LARGEST_RATIO) (λ k. within-Decides LARGEST_RATIO (ratio (stage rows k) k i)) i in
    Decides-like (is_row_in_range rows i) (λ both. record {
      entries = λ k j low from_on inside. elim (both.0 k (omega arith) j inside) [
        | inl before ↦ absurd (omega arith)
        | inr fine ↦ fine
      ];
      ratios = both.1;
    }) (λ fine. (
      λ k low j inside. elim (cases_lt j k) [
        | inl before ↦ inl before
        | inr from_on ↦ inr (fine.entries k j (omega arith) from_on inside)
      ],
      fine.ratios,
    )) (Decides-and _ _ stages ratios)

pub row_fault-none : (rows : Matrix) (i : ℕ) → StaysInRange rows i → pivot rows i ≢ pos 0 → IsGoodRow rows i
unfolding row_fault
row_fault-none rows i fine nonzero =
    cond-true (is_row_in_range rows i) _ _ ((row-Decides rows i).1 fine)
    ∙ cond-false _ _ _ (ne_eqb (unsigned_abs (pivot rows i)) 0 (λ e. nonzero (omega (arith, ints, e))))

-- a good row stays in range, with a pivot
pub row_fault-fine : (rows : Matrix) (i : ℕ) → IsGoodRow rows i → StaysInRange rows i × (pivot rows i ≢ pos 0)
unfolding row_fault
row_fault-fine rows i good = by (is_row_in_range rows i) (nat_eq (unsigned_abs (pivot rows i)) 0) refl refl good
  where
    by : (in_range none : Bool) → is_row_in_range rows i ≡ in_range → nat_eq (unsigned_abs (pivot rows i)) 0 ≡ none
        → (let o : Option RowFault = if in_range then (if none then Some (record { row = i; cause = ZeroPivot }) else None) else Some (record { row = i; cause = Range }) in o) ≡ None
        → StaysInRange rows i × (pivot rows i ≢ pos 0)
    by false none fine zero_pivot e = absurd (cc)
    by true true fine zero_pivot e = absurd (cc)
    by true false fine zero_pivot e = ((row-Decides rows i).0 fine, λ z. true≢false (sym (eq-eqb (unsigned_abs (pivot rows i)) 0 (ap unsigned_abs z)) ∙ zero_pivot))

pub row_fault-range : (rows : Matrix) (i : ℕ) → ¬ StaysInRange rows i → row_fault rows i ≡ Some (record { row = i; cause = Range })
unfolding row_fault
row_fault-range rows i out =
    cond-false (is_row_in_range rows i) _ _ (false_from_ne_true (is_row_in_range rows i) (λ e. out ((row-Decides rows i).0 e)))

pub row_fault-pivot : (rows : Matrix) (i : ℕ) → StaysInRange rows i → pivot rows i ≡ pos 0 → row_fault rows i ≡ Some (record { row = i; cause = ZeroPivot })
unfolding row_fault
row_fault-pivot rows i fine zero_pivot =
    cond-true (is_row_in_range rows i) _ _ ((row-Decides rows i).1 fine)
    ∙ cond-true _ _ _ (eq-eqb (unsigned_abs (pivot rows i)) 0 (ap unsigned_abs zero_pivot))

-- ---- right sides and unknowns

-- the right side of row i, from its start to its last subtraction
abbrev pub RightStaysInRange : Matrix → List ℤ → ℕ → Type 0
RightStaysInRange rows right i = (k : ℕ) → k ≤ i → unsigned_abs (item (stage_right rows right k) i) ≤ LARGEST_VALUE

right-Decides : (rows : Matrix) (right : List ℤ) (i : ℕ) → Decides (is_right_in_range rows right i) (RightStaysInRange rows right i)
right-Decides rows right i = Decides-like _ (λ fine k low. fine k (omega arith)) (λ fine k low. fine k (omega arith))
    (below-Decides _ (λ k. unsigned_abs (item (stage_right rows right k) i) ≤ LARGEST_VALUE) (λ k. within-Decides LARGEST_VALUE (item (stage_right rows right k) i)) (suc i))

pub right_fault-none : (rows : Matrix) (right : List ℤ) (i : ℕ) → RightStaysInRange rows right i → IsGoodRight rows right i
unfolding right_fault
right_fault-none rows right i fine = cond-true _ _ _ ((right-Decides rows right i).1 fine)

pub right_fault-some : (rows : Matrix) (right : List ℤ) (i : ℕ) → ¬ RightStaysInRange rows right i → right_fault rows right i ≡ Some (record { row = i })
unfolding right_fault
right_fault-some rows right i out = cond-false (is_right_in_range rows right i) _ _ (false_from_ne_true (is_right_in_range rows right i) (λ e. out ((right-Decides rows right i).0 e)))

pub unknown_fault-none : (rows : Matrix) (right : List ℤ) (i : ℕ) → unsigned_abs (item (solution rows right) i) ≤ LARGEST_VALUE → unknown_fault rows right i ≡ None
unfolding unknown_fault
unknown_fault-none rows right i fine = cond-true _ _ _ (le-leb _ _ fine)

pub unknown_fault-some : (rows : Matrix) (right : List ℤ) (i : ℕ) → LARGEST_VALUE < unsigned_abs (item (solution rows right) i) → unknown_fault rows right i ≡ Some (record { row = i })
unfolding unknown_fault
unknown_fault-some rows right i out = cond-false _ _ _ (lt-leb _ _ out)

-- an unknown without a fault is in range
pub unknown_fault-small : (rows : Matrix) (right : List ℤ) (i : ℕ) → unknown_fault rows right i ≡ None → unsigned_abs (item (solution rows right) i) ≤ LARGEST_VALUE
unfolding unknown_fault
unknown_fault-small rows right i none = by (is_within LARGEST_VALUE (item (solution rows right) i)) refl none
  where
    by : (b : Bool) → is_within LARGEST_VALUE (item (solution rows right) i) ≡ b → (let o : Option SolveFault = if b then None else Some (record { row = i }) in o) ≡ None → unsigned_abs (item (solution rows right) i) ≤ LARGEST_VALUE
    by true is fine = leb-true _ _ is
    by false is fine = absurd (cc)
