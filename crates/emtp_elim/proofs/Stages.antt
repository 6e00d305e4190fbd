-- One more column cleared, entry by entry.
use Rattle.std.proofs.Common.{◌≡◌, ℕ, zero, suc, ◌+◌, ◌<◌, ◌≤◌, nat_lt, if◌then◌else◌, ℤ, pos, List, [], length, refl, ap, sym, ◌∙◌, inl, inr, arith}
use Rattle.std.proofs.lemmas.List.{get_or_past}
use Rattle.std.proofs.lemmas.List.FromFn.{length-map-range_with_len, get_or-map-range_with_len}
use Rattle.std.proofs.lemmas.Bool.{cases_lt}
use Rattle.std.proofs.lemmas.Bool.Decides.{nat_tests}
use Rattle.emtp_elim.specs.Matrix.{Matrix, item, row_of, entry}
use Rattle.emtp_elim.specs.Elimination.{less_product, ratio, stage, stage_right}

pub length-stage : (rows : Matrix) (k : ℕ) → length (stage rows k) ≡ length rows
unfolding stage
length-stage rows zero = refl
length-stage rows (suc k) = length-map-range_with_len _ 0 (length (stage rows k)) ∙ length-stage rows k

pub width-stage : (rows : Matrix) (k i : ℕ) → i < length rows → length (row_of (stage rows k) i) ≡ length (row_of rows i)
unfolding stage
width-stage rows zero i h = refl
width-stage rows (suc k) i h =
    ap length (get_or-map-range_with_len _ 0 (length (stage rows k)) i i [] (rw length-stage h) (omega arith)) ∙ length-map-range_with_len _ 0 (length (row_of (stage rows k) i)) ∙ width-stage rows k i h

entry_next : (rows : Matrix) (k i j : ℕ) → i < length rows → j < length (row_of rows i) → entry (stage rows (suc k)) i j
    ≡ (if nat_lt k i then (if nat_lt k j then less_product (entry (stage rows k) i j) (ratio (stage rows k) k i) (entry (stage rows k) k j) else pos 0) else entry (stage rows k) i j)
unfolding stage
entry_next rows k i j h w =
    ap (λ row. item row j) (get_or-map-range_with_len _ 0 (length (stage rows k)) i i [] (rw length-stage h) (omega arith))
    ∙ get_or-map-range_with_len _ 0 (length (row_of (stage rows k) i)) j j (pos 0) (rw (width-stage rows k i h) w) (omega arith)

pub entry_later : (rows : Matrix) (k i j : ℕ) → k < i → k < j → i < length rows → j < length (row_of rows i)
    → entry (stage rows (suc k)) i j ≡ less_product (entry (stage rows k) i j) (ratio (stage rows k) k i) (entry (stage rows k) k j)
entry_later rows k i j low_i low_j h w = entry_next rows k i j h w ∙ grind (arith, nat_tests)

pub entry_stays : (rows : Matrix) (k i j : ℕ) → i ≤ k → i < length rows → j < length (row_of rows i)
    → entry (stage rows (suc k)) i j ≡ entry (stage rows k) i j
entry_stays rows k i j low h w = entry_next rows k i j h w ∙ grind (arith, nat_tests)

pub entry_start : (rows : Matrix) (i j : ℕ) → entry (stage rows 0) i j ≡ entry rows i j
unfolding stage
entry_start rows i j = refl

-- a row that was reached is left alone
pub entry_settled : (rows : Matrix) (i j n : ℕ) → i < length rows → j < length (row_of rows i)
    → entry (stage rows (i + n)) i j ≡ entry (stage rows i) i j
entry_settled rows i j zero h w = ap (λ k. entry (stage rows k) i j) (omega arith)
entry_settled rows i j (suc n) h w =
    let e : i + suc n ≡ suc (i + n) = omega arith in
    ap (λ k. entry (stage rows k) i j) e ∙ entry_stays rows (i + n) i j (omega arith) h w ∙ entry_settled rows i j n h w

-- each stage of a row depends on it and the rows above it alone
pub entry_same : (a b : Matrix) (n : ℕ) → n ≤ length a → n ≤ length b → ((h : ℕ) → h < n → row_of a h ≡ row_of b h)
    → (k h j : ℕ) → h < n → entry (stage a k) h j ≡ entry (stage b k) h j
entry_same a b n in_a in_b same zero h j p = entry_start a h j ∙ ap (λ row. item row j) (same h p) ∙ sym (entry_start b h j)
entry_same a b n in_a in_b same (suc k) h j p =
    let width : length (row_of a h) ≡ length (row_of b h) = ap length (same h p) in
    let long_a : h < length a = omega arith in
    let long_b : h < length b = omega arith in
    elim (cases_lt j (length (row_of a h))) [
      | inl inside ↦ elim (cases_lt k h) [
        | inl later ↦ entry_next a k h j long_a inside
            ∙ rw (entry_same a b n in_a in_b same k h j p, entry_same a b n in_a in_b same k h k p, entry_same a b n in_a in_b same k k k (omega arith), entry_same a b n in_a in_b same k k j (omega arith))
            (sym (entry_next b k h j long_b (omega arith)))
        | inr stays ↦ entry_stays a k h j stays long_a inside ∙ entry_same a b n in_a in_b same k h j p ∙ sym (entry_stays b k h j stays long_b (omega arith))
      ]
      | inr outside ↦ get_or_past _ j (pos 0) (omega (arith, width-stage a (suc k) h long_a))
          ∙ sym (get_or_past _ j (pos 0) (omega (arith, width-stage b (suc k) h long_b)))
    ]

-- ---- the right side

pub length-stage_right : (rows : Matrix) (right : List ℤ) (k : ℕ) → length (stage_right rows right k) ≡ length right
unfolding stage_right
length-stage_right rows right zero = refl
length-stage_right rows right (suc k) = length-map-range_with_len _ 0 (length (stage_right rows right k)) ∙ length-stage_right rows right k

pub right_start : (rows : Matrix) (right : List ℤ) → stage_right rows right 0 ≡ right
unfolding stage_right
right_start rows right = refl

right_next : (rows : Matrix) (right : List ℤ) (k i : ℕ) → i < length right → item (stage_right rows right (suc k)) i
    ≡ (if nat_lt k i then less_product (item (stage_right rows right k) i) (ratio (stage rows k) k i) (item (stage_right rows right k) k) else item (stage_right rows right k) i)
unfolding stage_right
right_next rows right k i h = get_or-map-range_with_len _ 0 (length (stage_right rows right k)) i i (pos 0) (rw length-stage_right h) (omega arith)

pub right_later : (rows : Matrix) (right : List ℤ) (k i : ℕ) → k < i → i < length right
    → item (stage_right rows right (suc k)) i ≡ less_product (item (stage_right rows right k) i) (ratio (stage rows k) k i) (item (stage_right rows right k) k)
right_later rows right k i low h = right_next rows right k i h ∙ grind (arith, nat_tests)

pub right_stays : (rows : Matrix) (right : List ℤ) (k i : ℕ) → i ≤ k → i < length right
    → item (stage_right rows right (suc k)) i ≡ item (stage_right rows right k) i
right_stays rows right k i low h = right_next rows right k i h ∙ grind (arith, nat_tests)

-- a right side that was reached is left alone
pub right_settled : (rows : Matrix) (right : List ℤ) (i n : ℕ) → i < length right
    → item (stage_right rows right (i + n)) i ≡ item (stage_right rows right i) i
right_settled rows right i zero h = ap (λ k. item (stage_right rows right k) i) (omega arith)
right_settled rows right i (suc n) h =
    let e : i + suc n ≡ suc (i + n) = omega arith in
    ap (λ k. item (stage_right rows right k) i) e ∙ right_stays rows right (i + n) i (omega arith) h ∙ right_settled rows right i n h
