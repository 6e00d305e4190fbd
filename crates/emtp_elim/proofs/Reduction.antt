-- The right sides, one row after another.
use Rattle.emtp_fix.specs.declared.limit.TheConstants.{LARGEST_VALUE}
use Rattle.std.proofs.Common.{◌≡◌, ◌≢◌, ℕ, zero, suc, ◌+◌, ◌<◌, ◌≤◌, ℤ, unsigned_abs, List, length, slice_set, ap, sym, ◌∙◌, inl, inr, arith}
use Rattle.std.proofs.lemmas.List.{get_or-set_same, get_or-set_other}
use Rattle.std.proofs.lemmas.Bool.{cases_eq}
use Rattle.emtp_elim.specs.Matrix.{Matrix, item, row_of}
use Rattle.emtp_elim.specs.Elimination.{stage_right}
use Rattle.emtp_elim.specs.held.Fault.{IsRightFault}
use Rattle.emtp_elim.proofs.InRange.{right_fault-none, right_fault-some}
use Rattle.emtp_elim.specs.held.Finished.{AreAllFinished}
use Rattle.emtp_elim.specs.held.Substitution.{partial_right, AreReduced}
use Rattle.emtp_elim.proofs.Stages.{right_start, right_later}

-- the first n right sides are reduced
pub record AreReducedUpTo (done : Matrix) (given : List ℤ) (n : ℕ) (right : List ℤ) : Type 0 where
  pub small : (h : ℕ) → h < n → unsigned_abs (item right h) ≤ LARGEST_VALUE
  pub reduced : (rows : Matrix) → AreAllFinished rows done → AreReduced rows given n right

-- a right side on its way is that of the stage
partial_is : (rows done : Matrix) (given right : List ℤ) (i : ℕ) → AreAllFinished rows done → i < length done → length given ≡ length done
    → AreReduced rows given i right → (k : ℕ) → k ≤ i
    → partial_right (item given i) (row_of done i) right k ≡ item (stage_right rows given k) i
partial_is rows done given right i all inside same was zero low = ap (λ r. item r i) (sym (right_start rows given))
partial_is rows done given right i all inside same was (suc k) low =
    rw (
      partial_is rows done given right i all inside same was k (omega arith),
      (all.finished.finished i inside).ratios k low,
      was.reduced k low,
    ) (sym (right_later rows given k i low (omega arith)))

pub reduced_more : (done : Matrix) (given right : List ℤ) (i : ℕ) (v : ℤ) → AreReducedUpTo done given i right → i < length done → length given ≡ length done
    → length right ≡ length given → v ≡ partial_right (item given i) (row_of done i) right i
    → ((k : ℕ) → k ≤ i → unsigned_abs (partial_right (item given i) (row_of done i) right k) ≤ LARGEST_VALUE)
    → AreReducedUpTo done given (i + 1) (slice_set right i v)
reduced_more done given right i v was inside same same_right v_is small =
    let in_right : i < length right = omega arith in
    record {
      small = λ h low. elim (cases_eq h i) [
        | inl here ↦ rw (here, get_or-set_same, v_is) (small i (omega arith))
        | inr other ↦ rw get_or-set_other (was.small h (omega arith))
      ];
      reduced = λ rows all.
          let old = was.reduced rows all in
          let is_stage = partial_is rows done given right i all inside same old in
          record {
            reduced = λ h low. elim (cases_eq h i) [
              | inl here ↦ rw (here, get_or-set_same) (v_is ∙ is_stage i (omega arith))
              | inr other ↦ rw get_or-set_other (old.reduced h (omega arith))
            ];
            in_range = λ h low. elim (cases_eq h i) [
              | inl here ↦ rw here (right_fault-none rows given i (λ k below. rw (← is_stage k (omega arith)) (small k (omega arith))))
              | inr other ↦ old.in_range h (omega arith)
            ];
          };
    }

pub right_fault : (done : Matrix) (given right : List ℤ) (i k : ℕ) → AreReducedUpTo done given i right → i < length done → length given ≡ length done
    → k ≤ i → LARGEST_VALUE < unsigned_abs (partial_right (item given i) (row_of done i) right k)
    → (rows : Matrix) → AreAllFinished rows done → IsRightFault rows given i
right_fault done given right i k was inside same low out rows all =
    let old = was.reduced rows all in
    let large = rw (partial_is rows done given right i all inside same old k low) at out in
    record {
      within = omega (arith, all.all);
      earlier = old.in_range;
      is = right_fault-some rows given i (λ in_range. omega (arith, large, in_range k low));
    }
