-- The matrices of the tests keep the law of rows.
use Rattle.std.proofs.Common.{◌≡◌, ◌≢◌, ℕ, ◌+◌, ◌*◌, ◌^◌, ◌<◌, ◌≤◌, nat_lt, ℤ, pos, List, [], length, slice_range, replicate, length-set, sym, ◌∙◌, inl, inr, arith}
use Rattle.std.proofs.lemmas.List.{length-replicate, get_or-replicate, get_or_past, get_or-set_same, get_or-set_other}
use Rattle.std.proofs.lemmas.List.Edits.{length-between, get_or-between}
use Rattle.std.proofs.lemmas.List.FromFn.{length-map-range_with_len, get_or-map-range_with_len}
use Rattle.std.proofs.lemmas.Nat.{row_fits}
use Rattle.std.proofs.lemmas.Bool.{cases_eq, cases_lt, cond-true, cond-false, lt-ltb, le-ltb}
use Rattle.emtp_elim.specs.Matrix.{item, row_of}
use Rattle.emtp_elim.specs.held.Matrix.{AreWithin}
use Rattle.emtp_elim.specs.held.Rows.{IsLawful}
use Rattle.emtp_tests_numbers.specs.Tables.{unit_row, table_rows}

pub length-table_rows : (size fixed : ℕ) (cells : List ℤ) → length (table_rows size fixed cells) ≡ size
length-table_rows size fixed cells = length-map-range_with_len _ 0 size

pub row_of-table_rows_fixed : (size fixed : ℕ) (cells : List ℤ) (i : ℕ) → i < size → i < fixed → row_of (table_rows size fixed cells) i ≡ unit_row size i
row_of-table_rows_fixed size fixed cells i h first =
    get_or-map-range_with_len _ 0 size i i [] h (omega arith) ∙ cond-true (nat_lt i fixed) _ _ (lt-ltb i fixed first)

pub row_of-table_rows : (size fixed : ℕ) (cells : List ℤ) (i : ℕ) → i < size → fixed ≤ i
    → row_of (table_rows size fixed cells) i ≡ slice_range cells (i * size) (i * size + size)
row_of-table_rows size fixed cells i h later =
    get_or-map-range_with_len _ 0 size i i [] h (omega arith) ∙ cond-false (nat_lt i fixed) _ _ (le-ltb i fixed later)

length-unit_row : (n i : ℕ) → length (unit_row n i) ≡ n
length-unit_row n i = length-set (replicate n (pos 0)) i (pos (10 ^ 12)) ∙ length-replicate n (pos 0)

unit_row-own : (n i : ℕ) → i < n → item (unit_row n i) i ≡ pos (10 ^ 12)
unit_row-own n i h = get_or-set_same (replicate n (pos 0)) i (pos (10 ^ 12)) (pos 0) (omega (arith, length-replicate n (pos 0)))

unit_row-other : (n i j : ℕ) → j ≢ i → item (unit_row n i) j ≡ pos 0
unit_row-other n i j other = get_or-set_other (replicate n (pos 0)) i j (pos (10 ^ 12)) (pos 0) other ∙ elim (cases_lt j n) [
  | inl inside ↦ get_or-replicate n j (pos 0) (pos 0) inside
  | inr outside ↦ get_or_past (replicate n (pos 0)) j (pos 0) (omega (arith, length-replicate n (pos 0)))
]

unit_row_within : (n i : ℕ) → i < n → AreWithin (10 ^ 26) (unit_row n i)
unit_row_within n i h j = elim (cases_eq j i) [
  | inl here ↦ rw (here, unit_row-own n i h) (omega arith)
  | inr other ↦ rw (unit_row-other n i j other) (omega arith)
]

part_within : (cells : List ℤ) (at size : ℕ) → at + size ≤ length cells → AreWithin (10 ^ 26) cells → AreWithin (10 ^ 26) (slice_range cells at (at + size))
part_within cells at size room small j = elim (cases_lt j size) [
  | inl inside ↦ rw (get_or-between cells at (at + size) j (pos 0) (omega arith)) (small (at + j))
  | inr outside ↦ rw (get_or_past (slice_range cells at (at + size)) j (pos 0) (omega (arith, length-between cells at (at + size) room))) (omega arith)
]

pub lawful_table : (size fixed : ℕ) (cells : List ℤ) → size ≤ 1000 → fixed ≤ size → length cells ≡ size * size → AreWithin (10 ^ 26) cells
    → IsLawful (table_rows size fixed cells) fixed
lawful_table size fixed cells few fixed_first square small =
    let count = length-table_rows size fixed cells in
    let room : (i : ℕ) → i < size → i * size + size ≤ length cells = λ i h. omega (arith, row_fits i size size size h (omega arith)) in
    record {
      few = omega (arith, count);
      square = λ i h. elim (cases_lt i fixed) [
        | inl first ↦ rw (row_of-table_rows_fixed size fixed cells i (omega (arith, count)) first) (length-unit_row size i ∙ sym count)
        | inr later ↦ rw (row_of-table_rows size fixed cells i (omega (arith, count)) later) (omega (arith, length-between cells (i * size) (i * size + size) (room i (omega (arith, count))), count))
      ];
      fixed_first = omega (arith, count);
      units = λ i first. record {
        own = rw (row_of-table_rows_fixed size fixed cells i (omega arith) first) (unit_row-own size i (omega arith));
        others = λ j other. rw (row_of-table_rows_fixed size fixed cells i (omega arith) first) (unit_row-other size i j other);
      };
      limit = λ i j. elim (cases_lt i size) [
        | inl inside ↦ elim (cases_lt i fixed) [
          | inl first ↦ rw (row_of-table_rows_fixed size fixed cells i inside first) (unit_row_within size i inside j)
          | inr later ↦ rw (row_of-table_rows size fixed cells i inside later) (part_within cells (i * size) size (room i inside) small j)
        ]
        | inr outside ↦ rw (get_or_past (table_rows size fixed cells) i [] (omega (arith, count))) (omega arith)
      ];
    }
