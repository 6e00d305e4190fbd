-- The unknowns of a triangular system, from the last row back.
use Rattle.emtp_fix.specs.declared.limit.TheConstants.{LARGEST_VALUE}
use Rattle.std.proofs.Common.{◌≡◌, ◌≢◌, ℕ, zero, suc, ◌+◌, ◌-◌, ◌*◌, ◌^◌, ◌<◌, ◌≤◌, ℤ, pos, ◌-ℤ◌, ◌*ℤ◌, unsigned_abs, List, [], ◌∷◌, length, drop, slice_set, length-set, to_z, of_z, refl, ap, sym, ◌∙◌, inl, inr, arith}
use mir.Syntax.{w128}
use Rattle.std.proofs.lemmas.List.{get_or-drop, get_or-set_same, get_or-set_other, get_or_past, drop_more, drop-set-lt, drop_all}
use Rattle.std.proofs.lemmas.Bool.{cases_eq, cases_lt}
use Rattle.emtp_fix.specs.Rounding.{near}
use Rattle.emtp_fix.proofs.Wide.{through}
use Rattle.emtp_elim.specs.Matrix.{Matrix, item, row_of, entry, products}
use Rattle.emtp_elim.specs.held.Matrix.{AreWithin}
use Rattle.emtp_elim.specs.Elimination.{unknown, last_unknowns}
use Rattle.emtp_elim.specs.held.Stored.{dense_row, IsStoredRow}
use Rattle.emtp_elim.specs.held.Substitution.{IsLastFault}

pub length-last_unknowns : (rows : Matrix) (right : List ℤ) (n : ℕ) → length (last_unknowns rows right n) ≡ n
unfolding last_unknowns
length-last_unknowns rows right zero = refl
length-last_unknowns rows right (suc n) = ap suc (length-last_unknowns rows right n)

pub last_unknowns-more : (rows : Matrix) (right : List ℤ) (n : ℕ)
    → last_unknowns rows right (suc n) ≡ unknown rows right (length rows - suc n) (last_unknowns rows right n) ∷ last_unknowns rows right n
unfolding last_unknowns
last_unknowns-more rows right n = refl

pub last_unknowns-none : (rows : Matrix) (right : List ℤ) → last_unknowns rows right 0 ≡ []
unfolding last_unknowns
last_unknowns-none rows right = refl

-- the later unknowns stand in the list of all
drop-last_unknowns : (rows : Matrix) (right : List ℤ) (n e : ℕ) → drop e (last_unknowns rows right (n + e)) ≡ last_unknowns rows right n
drop-last_unknowns rows right n zero = let same : n + zero ≡ n = omega arith in ap (last_unknowns rows right) same
drop-last_unknowns rows right n (suc e) =
    let same : n + suc e ≡ suc (n + e) = omega arith in
    rw (same, last_unknowns-more) (drop-last_unknowns rows right n e)

-- the unknowns of the rows from k on are found
pub record AreFound (rows : Matrix) (right : List ℤ) (k : ℕ) (x : List ℤ) : Type 0 where
  pub within : k ≤ length rows
  pub found : drop k x ≡ last_unknowns rows right (length rows - k)
  pub small : (h : ℕ) → k ≤ h → unsigned_abs (item x h) ≤ LARGEST_VALUE

pub found_none : (rows : Matrix) (right x : List ℤ) (n : ℕ) → n ≡ length rows → length x ≡ length rows → AreFound rows right n x
found_none rows right x n n_is same = record {
  within = omega arith;
  found = let none : length rows - n ≡ 0 = omega arith in drop_all n x (omega arith) ∙ sym (rw (none, last_unknowns-none) refl);
  small = λ h low. rw (get_or_past x h (pos 0) (omega arith)) (omega arith);
}

-- the value of the next unknown, as the code computes it
pub next_read : {size k : ℕ} {columns : List ℕ} {values : List ℤ} {first pivot last : ℕ} {rows : Matrix} {right x : List ℤ} {n : ℕ} (left p v : ℤ)
    → IsStoredRow size k columns values first pivot last → dense_row size columns values first last ≡ row_of rows k → AreFound rows right n x → n ≡ k + 1 → size ≡ length rows → length x ≡ size
    → left ≡ item right k *ℤ pos (10 ^ 12) -ℤ products (drop (k + 1) (dense_row (length x) columns values first last)) (drop (k + 1) x) (length x - (k + 1)) → unsigned_abs left ≤ 16 * 10 ^ 37
    → p ≡ item values pivot → v ≡ near (to_z w128 (of_z w128 left)) p → v ≡ unknown rows right k (last_unknowns rows right (length rows - n))
next_read {k = k} {rows = rows} {right = right} {x = x} {n = n} left p v row row_is was n_is same long left_is small p_is v_is =
    let later_is : drop (k + 1) x ≡ last_unknowns rows right (length rows - n) = ap (λ m. drop m x) (sym n_is) ∙ was.found in
    let count : length (last_unknowns rows right (length rows - n)) ≡ length x - (k + 1) = length-last_unknowns rows right (length rows - n) ∙ omega arith in
    let after : suc k ≡ k + 1 = omega arith in
    let same_left : to_z w128 (of_z w128 left) ≡ left = through left (omega arith) in
    rw (same_left, p_is, row.pivot_is, row_is) at v_is ∙ rw (count, after, ← later_is) (ap (λ z. near z (entry rows k k)) (rw (long, row_is, ← long) at left_is))

pub found_more : (rows : Matrix) (right x : List ℤ) (n k : ℕ) (v : ℤ) → AreFound rows right n x → n ≡ k + 1 → k < length rows → length x ≡ length rows
    → v ≡ unknown rows right k (last_unknowns rows right (length rows - n)) → unsigned_abs v ≤ LARGEST_VALUE → AreFound rows right k (slice_set x k v)
found_more rows right x n k v was n_is inside same v_next small =
    let in_x : k < length x = omega arith in
    let one_more : length rows - k ≡ suc (length rows - n) = omega arith in
    let place : length rows - suc (length rows - n) ≡ k = omega arith in
    let rest : drop (k + 1) (slice_set x k v) ≡ last_unknowns rows right (length rows - n) =
    drop-set-lt (k + 1) x k v (omega arith) ∙ ap (λ m. drop m x) (sym n_is) ∙ was.found in
    record {
      within = omega arith;
      found = drop_more (slice_set x k v) k (pos 0) (omega (arith, length-set x k v)) ∙ rw (one_more, last_unknowns-more, place, rest, get_or-set_same) (ap (λ z. z ∷ last_unknowns rows right (length rows - n)) v_next);
      small = λ h low. elim (cases_eq h k) [
        | inl here ↦ rw (here, get_or-set_same) small
        | inr other ↦ rw get_or-set_other (was.small h (omega arith))
      ];
    }

pub found_fault : (rows : Matrix) (right x : List ℤ) (n k : ℕ) (v : ℤ) → AreFound rows right n x → n ≡ k + 1 → k < length rows → length x ≡ length rows
    → v ≡ unknown rows right k (last_unknowns rows right (length rows - n)) → LARGEST_VALUE < unsigned_abs v → IsLastFault rows right k
found_fault rows right x n k v was n_is inside same v_next large =
    let all = last_unknowns rows right (length rows) in
    let split_n : length rows - n + n ≡ length rows = omega arith in
    let from_n : drop n all ≡ last_unknowns rows right (length rows - n) = rw split_n at (drop-last_unknowns rows right (length rows - n) n) in
    let split_k : suc (length rows - n) + k ≡ length rows = omega arith in
    let from_k : drop k all ≡ last_unknowns rows right (suc (length rows - n)) = rw split_k at (drop-last_unknowns rows right (suc (length rows - n)) k) in
    let place : length rows - suc (length rows - n) ≡ k = omega arith in
    let here : item all k ≡ v =
    (ap (item all) (omega arith) ∙ sym (get_or-drop k all 0 (pos 0)) ∙ rw (from_k, last_unknowns-more, place) (sym v_next)) in
    record {
      within = inside;
      later = λ h low high.
          let split_h : n + (h - n) ≡ h = omega arith in
          let same_h : item all h ≡ item x h = sym (ap (item all) split_h) ∙ sym (get_or-drop n all (h - n) (pos 0)) ∙ rw (from_n, ← was.found) (get_or-drop n x (h - n) (pos 0)) ∙ ap (item x) split_h in
          rw same_h (was.small h (omega arith));
      out = rw here large;
    }

-- and the places of the others still have their right sides
pub record AreFoundInPlace (rows : Matrix) (right : List ℤ) (k : ℕ) (x : List ℤ) : Type 0 where
  pub found : AreFound rows right k x
  pub rest : (h : ℕ) → h < k → item x h ≡ item right h

pub in_place_small : (rows : Matrix) (right x : List ℤ) (k : ℕ) → AreFoundInPlace rows right k x → AreWithin LARGEST_VALUE right → AreWithin LARGEST_VALUE x
in_place_small rows right x k was small = λ h. elim (cases_lt h k) [
  | inl before ↦ rw (was.rest h before) (small h)
  | inr there ↦ was.found.small h there
]

pub in_place_more : (rows : Matrix) (right x : List ℤ) (n k : ℕ) (v : ℤ) → AreFoundInPlace rows right n x → n ≡ k + 1 → AreFound rows right k (slice_set x k v)
    → AreFoundInPlace rows right k (slice_set x k v)
in_place_more rows right x n k v was n_is found = record {
  found = found;
  rest = λ h low. let other : h ≢ k = omega arith in rw get_or-set_other (was.rest h (omega arith));
}
