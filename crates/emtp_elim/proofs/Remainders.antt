-- What is left of a right side, later entry by later entry.
use Rattle.std.proofs.Common.{◌≡◌, ℕ, suc, ◌+◌, ◌-◌, ◌*◌, ◌^◌, ◌<◌, ◌≤◌, ℤ, pos, refl, ◌+ℤ◌, ◌-ℤ◌, ◌*ℤ◌, unsigned_abs, List, FitsSigned, to_z, of_z, drop, slice_index, ap, ◌∙◌, arith}
use mir.Syntax.{w128}
use Rattle.std.proofs.lemmas.List.{get_or-drop}
use Rattle.std.proofs.lemmas.Int.{ints}
use Rattle.emtp_fix.proofs.Wide.{abs-mul-le, fits, through}
use Rattle.emtp_fix.specs.declared.limit.TheConstants.{LARGEST_ENTRY, LARGEST_VALUE, LARGEST_WIDE}
use Rattle.emtp_elim.specs.Matrix.{item, products}
use Rattle.emtp_elim.specs.held.Stored.{dense_row, AreEntries, IsStoredRow}
use Rattle.emtp_elim.specs.declared.limit.TheConstants.{MOST_ROWS}
use Rattle.emtp_elim.proofs.KeptRows.{entry_small}
use Rattle.emtp_elim.proofs.Entries.{IsAt, at_start, at_entry, at_next, stands_still}

-- the products of the columns after k and before h
abbrev pub later_products : ℕ → List ℤ → List ℤ → ℕ → ℤ
later_products k row x h = products (drop (k + 1) row) (drop (k + 1) x) (h - (k + 1))

products_more : (k : ℕ) (row x : List ℤ) (j : ℕ) → k + 1 ≤ j → later_products k row x (suc j) ≡ later_products k row x j +ℤ item row j *ℤ item x j
products_more k row x j low =
    let one_more : suc j - (k + 1) ≡ suc (j - (k + 1)) = omega arith in
    let place : k + 1 + (j - (k + 1)) ≡ j = omega arith in
    let entry_is : item (drop (k + 1) row) (j - (k + 1)) ≡ item row j = get_or-drop (k + 1) row (j - (k + 1)) (pos 0) ∙ ap (item row) place in
    let x_is : item (drop (k + 1) x) (j - (k + 1)) ≡ item x j = get_or-drop (k + 1) x (j - (k + 1)) (pos 0) ∙ ap (item x) place in
    rw (one_more, entry_is, x_is) refl

-- over numbers that are 0 nothing is added
products_still : (k size : ℕ) (row x : List ℤ) (columns : List ℕ) (values : List ℤ) (first e last a b : ℕ) → AreEntries row (k + 1) size columns values first last
    → IsAt columns first e last a → IsAt columns first e last b → k + 1 ≤ a → a ≤ b → b ≤ size → later_products k row x b ≡ later_products k row x a
products_still k size row x columns values first e last a b entries at_a at_b from_a low high =
    stands_still (later_products k row x) row (k + 1) size columns values first e last a b entries at_a at_b from_a low high (λ j from_on clear.
    let product : pos 0 *ℤ item x j ≡ pos 0 = omega (arith, ints) in
    products_more k row x j from_on ∙ rw (clear, product) (omega (arith, ints)))

-- the products of row k's later entries before place e are taken away: those of the columns before h, for each h up to
-- the next entry
pub record IsRemainder (right : ℤ) (k size : ℕ) (row x : List ℤ) (columns : List ℕ) (first e last : ℕ) (left : ℤ) : Type 0 where
  pub value_is : (h : ℕ) → k < h → h ≤ size → IsAt columns first e last h → left ≡ right *ℤ pos (10 ^ 12) -ℤ later_products k row x h
  pub bound : unsigned_abs left ≤ 10 ^ 30 + (e - first) * 10 ^ 35

pub remainder_start : (right : ℤ) (k size : ℕ) (row x : List ℤ) (columns : List ℕ) (values : List ℤ) (first last : ℕ)
    → AreEntries row (k + 1) size columns values first last → unsigned_abs right ≤ LARGEST_VALUE → IsRemainder right k size row x columns first first last (right *ℤ pos (10 ^ 12))
remainder_start right k size row x columns values first last entries small = record {
  value_is = λ h low inside at.
      let none : k + 1 - (k + 1) ≡ 0 = omega arith in
      let start : later_products k row x (k + 1) ≡ pos 0 = rw none refl in
      rw (products_still k size row x columns values first first last (k + 1) h entries (at_start row (k + 1) size columns values first last (k + 1) entries entries.low) at (omega arith) (omega arith) inside, start) (omega (arith, ints));
  bound = omega (arith, abs-mul-le right (pos (10 ^ 12)) (10 ^ 18) (10 ^ 12) small (omega arith));
}

remainder_more : (right : ℤ) (k size : ℕ) (row x : List ℤ) (columns : List ℕ) (values : List ℤ) (first e last : ℕ) (left : ℤ)
    → AreEntries row (k + 1) size columns values first last → IsRemainder right k size row x columns first e last left → first ≤ e → e < last
    → unsigned_abs (item values e *ℤ item x (slice_index columns e)) ≤ LARGEST_ENTRY * LARGEST_VALUE
    → IsRemainder right k size row x columns first (e + 1) last (left -ℤ item values e *ℤ item x (slice_index columns e))
remainder_more right k size row x columns values first e last left entries was low_e inside small =
    let j = slice_index columns e in
    let above : k + 1 ≤ j = entries.low e low_e inside in
    let was_value = was.value_is j (omega arith) (omega (arith, entries.high e low_e inside)) (at_entry row (k + 1) size columns values first e last entries low_e inside) in
    let more : later_products k row x (suc j) ≡ later_products k row x j +ℤ item values e *ℤ item x j = rw (entries.value_is e low_e inside) (products_more k row x j above) in
    record {
      value_is = λ h low in_size at.
          let past : j < h = at.before e low_e (omega arith) in
          rw (products_still k size row x columns values first (e + 1) last (suc j) h entries (at_next row (k + 1) size columns values first e last entries low_e inside) at (omega arith) (omega arith) in_size, more) (omega (arith, ints, was_value));
      bound = omega (arith, ints, was.bound, small);
    }

-- the same as the code computes it: a row has at most `MOST_ROWS` entries, so what is left stays far from the limits of 128 bits
pub remainder_read : {right : ℤ} {k size : ℕ} {x : List ℤ} {columns : List ℕ} {values : List ℤ} {first pivot e last : ℕ} {left : ℤ} (p q : ℤ)
    → IsStoredRow size k columns values first pivot last → IsRemainder right k size (dense_row size columns values first last) x columns (pivot + 1) e last left → size ≤ MOST_ROWS
    → pivot + 1 ≤ e → e < last → unsigned_abs (item x (slice_index columns e)) ≤ LARGEST_VALUE → p ≡ item values e → q ≡ item x (slice_index columns e)
    → FitsSigned w128 (left -ℤ to_z w128 (of_z w128 (p *ℤ q)))
    × IsRemainder right k size (dense_row size columns values first last) x columns (pivot + 1) (e + 1) last (to_z w128 (of_z w128 (left -ℤ to_z w128 (of_z w128 (p *ℤ q)))))
remainder_read {k = k} {x = x} {columns = columns} {values = values} {pivot = pivot} {e = e} {left = left} p q row was few low_e inside small_x p_is q_is =
    let product = item values e *ℤ item x (slice_index columns e) in
    let small = abs-mul-le (item values e) (item x (slice_index columns e)) (10 ^ 17) (10 ^ 18) (entry_small e row (omega arith) inside) small_x in
    let same_product : to_z w128 (of_z w128 product) ≡ product = through product (omega (arith, small)) in
    let bound : unsigned_abs (left -ℤ product) ≤ LARGEST_WIDE = omega (arith, ints, small, was.bound, row.later.few) in
    rw (p_is, q_is, same_product) (fits (left -ℤ product) bound, rw (through (left -ℤ product) bound) (remainder_more _ k _ _ x columns values (pivot + 1) e _ left row.later was low_e inside small))
