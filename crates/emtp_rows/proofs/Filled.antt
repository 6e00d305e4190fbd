-- How large the numbers of a row may be while it is filled, and entries that are added one by one.
use Rattle.emtp_case.specs.declared.limit.TheConstants.{MOST_NODES}
use Rattle.std.proofs.Common.{◌≡◌, ◌∙◌, sym, ap, ℕ, ◌+◌, ◌^◌, ◌<◌, ◌≤◌, ◌==◌, ℤ, pos, neg_ℤ, ◌+ℤ◌, ◌-ℤ◌, unsigned_abs, Bool, true, false, if◌then◌else◌, List, [], All, length, length-take-le, take, slice_set, slice_index_or, get_or-set_same, get_or-set_other, inl, inr, arith}
use Rattle.std.proofs.lemmas.Bool.{cases_eq, cases_lt, cases_Bool}
use Rattle.std.proofs.lemmas.Int.{ints}
use Rattle.std.proofs.lemmas.List.{get_or_past}
use Rattle.std.proofs.lemmas.List.Elements.{All-get_or}
use Rattle.emtp_fix.specs.declared.limit.TheConstants.{LARGEST_ENTRY, PICO}
use Rattle.emtp_elim.specs.Matrix.{item}
use Rattle.emtp_case.specs.declared.row_kind.RowKind.{RowKind}
use Rattle.emtp_rows.specs.declared.term.Amount.{Amount}
use Rattle.emtp_rows.specs.declared.term.Amount.TheVariants.{Own, Turned, Mutual}
use Rattle.emtp_rows.specs.declared.term.Term.{Term}
use Rattle.emtp_case.specs.Sums.{sum_below, total}
use Rattle.emtp_rows.specs.Nodal.{is_member, unit}
use Rattle.emtp_rows.specs.held.Terms.{amount_of, in_column, IsSmall, AreRowTerms}
use Rattle.emtp_case.proofs.RowsOfNodes.{is_number, isnt_number}
use Rattle.emtp_case.proofs.Sums.{total_small, sum_below_small, sum_below-more}

-- a number of a list of small ones, or 0 past its end
pub item_small : (xs : List ℤ) (i : ℕ) → All IsSmall xs → unsigned_abs (item xs i) ≤ LARGEST_ENTRY
item_small xs i small = elim (cases_lt i (length xs)) [
  | inl below ↦ All-get_or IsSmall xs i (pos 0) below small
  | inr past ↦ rw (get_or_past xs i (pos 0) past) (omega (arith, ints))
]

pub amount_small : (own coupling : List ℤ) (a : Amount) → All IsSmall own → All IsSmall coupling → unsigned_abs (amount_of own coupling a) ≤ LARGEST_ENTRY
amount_small own coupling (Own b) small small' = item_small own b small
amount_small own coupling (Turned b) small small' = omega (arith, ints, item_small own b small)
amount_small own coupling (Mutual t) small small' = item_small coupling t small'

pub in_column_small : (own coupling : List ℤ) (j : ℕ) → All IsSmall own → All IsSmall coupling → (t : Term) → unsigned_abs (in_column own coupling j t) ≤ LARGEST_ENTRY
in_column_small own coupling j small small' t = elim (cases_Bool (t.column == j)) [
  | inl here ↦ rw here (amount_small own coupling t.amount small small')
  | inr off ↦ rw off (omega (arith, ints))
]

-- the terms of a row stay far from the limits
pub row_total_small : (own coupling : List ℤ) (j : ℕ) (terms : List Term) → All IsSmall own → All IsSmall coupling → length terms ≤ 15000 → unsigned_abs (total (in_column own coupling j) terms) ≤ 10 ^ 22
row_total_small own coupling j terms small small' few = omega (arith, total_small (in_column own coupling j) LARGEST_ENTRY (in_column_small own coupling j small small') terms)

-- so do the first ones
pub part_total_small : (own coupling : List ℤ) (j i : ℕ) (terms : List Term) → All IsSmall own → All IsSmall coupling → length terms ≤ 15000 → i ≤ length terms → unsigned_abs (total (in_column own coupling j) (take i terms)) ≤ 10 ^ 22
part_total_small own coupling j i terms small small' few within = row_total_small own coupling j (take i terms) small small' (omega (arith, length-take-le i terms within))

-- and those of a group
member_small : (own coupling : List ℤ) (kinds : List RowKind) (rows : List (List Term)) (i j k : ℕ) → All IsSmall own → All IsSmall coupling → length (slice_index_or rows k []) ≤ 15000
    → unsigned_abs (if is_member kinds i k then total (in_column own coupling j) (slice_index_or rows k []) else pos 0) ≤ 10 ^ 22
member_small own coupling kinds rows i j k small small' few = elim (cases_Bool (is_member kinds i k)) [
  | inl is ↦ rw is (row_total_small own coupling j (slice_index_or rows k []) small small' few)
  | inr off ↦ rw off (omega (arith, ints))
]

pub group_small : (own coupling : List ℤ) (kinds : List RowKind) (rows : List (List Term)) (i j n nodes branches trios : ℕ) → All IsSmall own → All IsSmall coupling → AreRowTerms nodes branches trios rows → n ≤ length rows → length rows ≤ MOST_NODES
    → unsigned_abs (sum_below n (λ k. if is_member kinds i k then total (in_column own coupling j) (slice_index_or rows k []) else pos 0)) ≤ 10 ^ 25
group_small own coupling kinds rows i j n nodes branches trios small small' terms within few =
    omega (arith, sum_below_small n (λ k. if is_member kinds i k then total (in_column own coupling j) (slice_index_or rows k []) else pos 0) (10 ^ 22) (λ k below. member_small own coupling kinds rows i j k small small' (terms k (omega (arith, below))).0))

-- one number is added in its column
pub column_more : (own coupling : List ℤ) (out : List ℤ) (t : Term) (j : ℕ) (a : ℤ) → t.column < length out → a ≡ amount_of own coupling t.amount
    → item (slice_set out t.column (item out t.column +ℤ a)) j ≡ item out j +ℤ in_column own coupling j t
column_more own coupling out t j a inside is = elim (cases_eq j t.column) [
  | inl same ↦
      let here : (t.column == j) ≡ true = is_number t.column j (sym same) in
      rw (here, same, get_or-set_same) (ap (λ x. item out t.column +ℤ x) is)
  | inr ne ↦
      let off : (t.column == j) ≡ false = isnt_number t.column j (λ e. ne (sym e)) in
      rw (off, get_or-set_other) (nothing (item out j))
]
  where
    nothing : (x : ℤ) → x ≡ x +ℤ pos 0
    nothing x = omega (arith, ints)

-- an amount in one column of a row of zeros, and then one in another
pub unit_set : (out : List ℤ) (i j : ℕ) → i < length out → j < length out → ((k : ℕ) → k < length out → item out k ≡ pos 0) → item (slice_set out i (item out i +ℤ PICO)) j ≡ unit i j
unit_set out i j inside below zeros = elim (cases_eq j i) [
  | inl same ↦
      let here : (i == j) ≡ true = is_number i j (sym same) in
      let zero = zeros i inside in
      rw (here, same, get_or-set_same) (omega (arith, ints, zero))
  | inr ne ↦
      let off : (i == j) ≡ false = isnt_number i j (λ e. ne (sym e)) in
      rw (off, get_or-set_other) (zeros j below)
]

pub tie_set : (out : List ℤ) (i row j : ℕ) → row < length out → j < length out → ((k : ℕ) → k < length out → item out k ≡ unit i k) → item (slice_set out row (item out row +ℤ neg_ℤ PICO)) j ≡ unit i j -ℤ unit row j
tie_set out i row j inside below units = elim (cases_eq j row) [
  | inl same ↦
      let here : (row == j) ≡ true = is_number row j (sym same) in
      let at = units row inside in
      rw (here, same, get_or-set_same) (omega (arith, ints, at))
  | inr ne ↦
      let off : (row == j) ≡ false = isnt_number row j (λ e. ne (sym e)) in
      rw (off, get_or-set_other) (omega (arith, ints, units j below))
]

-- one row of a group more
pub group_more : (own coupling : List ℤ) (kinds : List RowKind) (rows : List (List Term)) (i j k : ℕ) (before after : ℤ) (member : Bool) (terms : List Term) → member ≡ is_member kinds i k → terms ≡ slice_index_or rows k []
    → before ≡ sum_below k (λ k. if is_member kinds i k then total (in_column own coupling j) (slice_index_or rows k []) else pos 0)
    → after ≡ before +ℤ (if member then total (in_column own coupling j) terms else pos 0)
    → after ≡ sum_below (k + 1) (λ k. if is_member kinds i k then total (in_column own coupling j) (slice_index_or rows k []) else pos 0)
group_more own coupling kinds rows i j k before after member terms is are so_far added =
    let F : ℕ → ℤ = λ k. if is_member kinds i k then total (in_column own coupling j) (slice_index_or rows k []) else pos 0 in
    let here : (if member then total (in_column own coupling j) terms else pos 0) ≡ F k = ap (λ b. if b then total (in_column own coupling j) terms else pos 0) is ∙ ap (λ ts. if is_member kinds i k then total (in_column own coupling j) ts else pos 0) are in
    added ∙ ap (λ x. before +ℤ x) here ∙ ap (λ x. x +ℤ F k) so_far ∙ sym (sum_below-more k F)
