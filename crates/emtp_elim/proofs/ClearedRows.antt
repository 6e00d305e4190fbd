-- A row from which one column is cleared: it is lessened by a multiple of the row above, entry by entry.
use Rattle.emtp_fix.specs.declared.limit.TheConstants.{LARGEST_ENTRY, LARGEST_RATIO}
use Rattle.std.proofs.Common.{◌≡◌, ◌≢◌, ℕ, ◌+◌, ◌<◌, ◌≤◌, ℤ, pos, unsigned_abs, List, length, slice_set, slice_index, to_z, of_z, refl, sym, ◌∙◌, inl, inr, arith}
use mir.Syntax.{w128}
use Rattle.std.proofs.lemmas.List.{get_or-set_same, get_or-set_other}
use Rattle.std.proofs.lemmas.Bool.{cases_eq}
use Rattle.emtp_fix.proofs.Wide.{through}
use Rattle.emtp_elim.specs.Matrix.{item}
use Rattle.emtp_elim.specs.Elimination.{less_product, quotient}
use Rattle.emtp_elim.specs.held.Clearing.{IsClearedRow}
use Rattle.emtp_elim.specs.held.Stored.{dense_row, AreEntries, IsStoredRow}
use Rattle.emtp_elim.proofs.Entries.{LacksColumn, cases_column}
use Rattle.emtp_elim.proofs.Products.{less_product-zero_left, less_product-zero_right, quotient-zero}

-- the columns of the entries before place e are done, the others are as they were
pub record IsLessenedUpTo (m : ℤ) (columns : List ℕ) (first e : ℕ) (old above new : List ℤ) : Type 0 where
  pub done : (d : ℕ) → first ≤ d → d < e → item new (slice_index columns d) ≡ less_product (item old (slice_index columns d)) m (item above (slice_index columns d))
  pub within : (d : ℕ) → first ≤ d → d < e → unsigned_abs (item new (slice_index columns d)) ≤ LARGEST_ENTRY
  pub rest : (j : ℕ) → LacksColumn columns first e j → item new j ≡ item old j

-- the column of the next entry is as it was
lessened_here : {m : ℤ} {from size : ℕ} {columns : List ℕ} {values : List ℤ} {first e last : ℕ} {old above new : List ℤ}
    → AreEntries above from size columns values first last → IsLessenedUpTo m columns first e old above new → e < last
    → item new (slice_index columns e) ≡ item old (slice_index columns e)
lessened_here {columns = columns} {e = e} entries was inside =
    was.rest (slice_index columns e) (λ d low high same. omega (arith, entries.rising d e low high inside))

pub lessened_small : {m : ℤ} {size : ℕ} {columns : List ℕ} {values : List ℤ} {first e last : ℕ} {old above new : List ℤ} (k : ℕ)
    → AreEntries above (k + 1) size columns values first last → IsLessenedUpTo m columns first e old above new → first ≤ e → e < last
    → ((j : ℕ) → k ≤ j → unsigned_abs (item old j) ≤ LARGEST_ENTRY) → unsigned_abs (item new (slice_index columns e)) ≤ LARGEST_ENTRY
lessened_small {columns = columns} {e = e} k entries was low_e inside small =
    rw (lessened_here entries was inside) (small (slice_index columns e) (omega (arith, entries.low e low_e inside)))

-- the next entry, as the code computes it
pub lessened_next : {m : ℤ} {size : ℕ} {columns : List ℕ} {values : List ℤ} {first e last : ℕ} {old above new : List ℤ} (k : ℕ) (p v : ℤ)
    → AreEntries above (k + 1) size columns values first last → IsLessenedUpTo m columns first e old above new → first ≤ e → e < last
    → ((j : ℕ) → k ≤ j → unsigned_abs (item old j) ≤ LARGEST_ENTRY) → ((j : ℕ) → k ≤ j → unsigned_abs (item above j) ≤ LARGEST_ENTRY) → unsigned_abs m ≤ LARGEST_RATIO
    → p ≡ item values e → v ≡ less_product (to_z w128 (of_z w128 (item new (slice_index columns e)))) (to_z w128 (of_z w128 m)) (to_z w128 (of_z w128 p))
    → v ≡ less_product (item old (slice_index columns e)) m (item above (slice_index columns e))
lessened_next {m = m} {columns = columns} {e = e} {old = old} {above = above} {new = new} k p v entries was low_e inside small small_above small_m p_is v_is =
    let j = slice_index columns e in
    let here = lessened_here entries was inside in
    let low : k ≤ j = omega (arith, entries.low e low_e inside) in
    let same_old : to_z w128 (of_z w128 (item new j)) ≡ item old j = rw here (through (item old j) (omega (arith, small j low))) in
    let same_m : to_z w128 (of_z w128 m) ≡ m = through m (omega arith) in
    let same_p : to_z w128 (of_z w128 p) ≡ item above j = rw (p_is, entries.value_is e low_e inside) (through (item above j) (omega (arith, small_above j low))) in
    rw (same_old, same_m, same_p) at v_is

-- one entry more
pub lessened_more : {m : ℤ} {from size : ℕ} {columns : List ℕ} {values : List ℤ} {first e last : ℕ} {old above new : List ℤ} (v : ℤ)
    → AreEntries above from size columns values first last → IsLessenedUpTo m columns first e old above new → first ≤ e → e < last → size ≤ length new
    → v ≡ less_product (item old (slice_index columns e)) m (item above (slice_index columns e)) → unsigned_abs v ≤ LARGEST_ENTRY
    → IsLessenedUpTo m columns first (e + 1) old above (slice_set new (slice_index columns e) v)
lessened_more {columns = columns} {e = e} {new = new} v entries was low_e inside long v_is fine =
    let in_row : slice_index columns e < length new = omega (arith, entries.high e low_e inside) in
    record {
      done = λ d low high. elim (cases_eq d e) [
        | inl here ↦ rw (here, get_or-set_same) v_is
        | inr earlier ↦
            let other : slice_index columns d ≢ slice_index columns e = omega (arith, entries.rising d e low (omega arith) inside) in
            rw get_or-set_other (was.done d low (omega arith))
      ];
      within = λ d low high. elim (cases_eq d e) [
        | inl here ↦ rw (here, get_or-set_same) fine
        | inr earlier ↦
            let other : slice_index columns d ≢ slice_index columns e = omega (arith, entries.rising d e low (omega arith) inside) in
            rw get_or-set_other (was.within d low (omega arith))
      ];
      rest = λ j none.
          let other : j ≢ slice_index columns e = λ same. none e low_e (omega arith) (sym same) in
          rw get_or-set_other (was.rest j (λ d low high. none d low (omega arith)));
    }

-- all entries are done, and the ratio is put in its place
pub cleared_lessened : {m : ℤ} {columns : List ℕ} {values : List ℤ} {first last : ℕ} {old above new : List ℤ} (k : ℕ)
    → AreEntries above (k + 1) (length old) columns values first last → IsLessenedUpTo m columns first last old above new
    → ((j : ℕ) → k ≤ j → unsigned_abs (item old j) ≤ LARGEST_ENTRY) → m ≡ quotient (item old k) (item above k) → unsigned_abs m ≤ LARGEST_RATIO → k < length new
    → IsClearedRow k old above (slice_set new k m)
cleared_lessened {m = m} {columns = columns} {first = first} {last = last} {old = old} {new = new} k entries was small ratio_is small_m inside =
    let other : (j : ℕ) → j ≢ k → item (slice_set new k m) j ≡ item new j = λ j away. rw get_or-set_other refl in
    let before : (j : ℕ) → j ≤ k → item new j ≡ item old j = λ j low. was.rest j (λ d from_on below same. omega (arith, entries.low d from_on below)) in
    record {
      before = λ j low. other j (omega arith) ∙ before j (omega arith);
      ratio_is = rw get_or-set_same ratio_is;
      after = λ j low in_row. other j (omega arith) ∙ rw get_or-set_same (elim (cases_column columns first last j) [
        | inl (d, from_on, below, is) ↦ rw (← is) (was.done d from_on below)
        | inr none ↦ rw (entries.others j (omega arith) in_row none) (was.rest j none ∙ sym (less_product-zero_right (item old j) m))
      ]);
      ratio_within = rw get_or-set_same small_m;
      within = λ j low in_row. rw (other j (omega arith)) (elim (cases_column columns first last j) [
        | inl (d, from_on, below, is) ↦ rw (← is) (was.within d from_on below)
        | inr none ↦ rw (was.rest j none) (small j (omega arith))
      ]);
    }

-- where the column is clear already, nothing is to be done
pub cleared_nothing : (k : ℕ) (old above : List ℤ) → item old k ≡ pos 0 → ((j : ℕ) → k ≤ j → unsigned_abs (item old j) ≤ LARGEST_ENTRY)
    → IsClearedRow k old above old
cleared_nothing k old above clear small = record {
  before = λ j h. refl;
  ratio_is = rw (clear, quotient-zero) refl;
  after = λ j low high. rw clear (sym (less_product-zero_left (item old j) (item above j)));
  ratio_within = rw clear (omega arith);
  within = λ j low high. small j (omega arith);
}

-- the ratio as the code computes it
pub ratio_read : {size k : ℕ} {columns : List ℕ} {values : List ℤ} {first pivot last : ℕ} (work : List ℤ) (p r : ℤ) → IsStoredRow size k columns values first pivot last
    → unsigned_abs (item work k) ≤ LARGEST_ENTRY → p ≡ item values pivot → r ≡ quotient (to_z w128 (of_z w128 (item work k))) (to_z w128 (of_z w128 p))
    → r ≡ quotient (item work k) (item (dense_row size columns values first last) k)
ratio_read {size = size} {k = k} {columns = columns} {values = values} {first = first} {last = last} work p r row small read e =
    let above = dense_row size columns values first last in
    let same_work : to_z w128 (of_z w128 (item work k)) ≡ item work k = through (item work k) (omega arith) in
    let same_above : to_z w128 (of_z w128 p) ≡ item above k = rw (read, row.pivot_is) (through (item above k) (omega (arith, row.finished.entries k (omega arith)))) in
    rw (same_work, same_above) at e
