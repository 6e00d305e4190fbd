-- The rows that are tied to a sum, added to it one after the other.
use Rattle.emtp_case.specs.declared.limit.TheConstants.{MOST_NODES}
use Rattle.std.proofs.Common.{◌≡◌, ◌∙◌, sym, ap, ℕ, zero, suc, ◌+◌, ◌*◌, ◌^◌, ◌<◌, ◌≤◌, ◌==◌, ◌||◌, ◌&&◌, ℤ, pos, ◌+ℤ◌, unsigned_abs, Bool, true, false, if◌then◌else◌, List, length, slice_set, get_or-set_same, get_or-set_other, refl, inl, inr, arith}
use Rattle.std.proofs.lemmas.Bool.{cases_Bool, cases_eq, cases_lt, true≢false}
use Rattle.std.proofs.lemmas.Int.{ints}
use Rattle.emtp_case.specs.declared.row_kind.RowKind.{RowKind}
use Rattle.emtp_case.specs.declared.row_kind.RowKind.TheVariants.{Kcl, Sum, Tie, Ground, Source}
use Rattle.emtp_elim.specs.Matrix.{item}
use Rattle.emtp_net.specs.held.Sums.{AreUntied, IsFolded, group_total, tied_to}
use Rattle.emtp_case.proofs.RowsOfNodes.{is_number, isnt_number}
use Rattle.emtp_case.proofs.Sums.{sum_below-more, sum_below_same, sum_below_small}
use Rattle.emtp_rows.specs.Nodal.{is_tie_to, kind_at}
use Rattle.emtp_case.specs.Sums.{sum_below}
use Rattle.emtp_rows.specs.held.Touched.{is_sum, tied_row}
use Rattle.emtp_net.proofs.Nodes.{nothing}
use Rattle.emtp_switch.proofs.Flows.{sum_below-none}

-- ---- which rows are tied to a sum

-- a row that is no sum has no rows tied to it
not_into : (kinds : List RowKind) (j : ℕ) (kind : RowKind) → j < length kinds → is_sum (kind_at kinds j) ≡ false → (tied_row kinds kind == j) ≡ false
not_into kinds j Kcl below plain = isnt_number (length kinds) j (λ e. omega (arith, below, e))
not_into kinds j Sum below plain = isnt_number (length kinds) j (λ e. omega (arith, below, e))
not_into kinds j (Tie to) below plain = elim (cases_Bool (is_sum (kind_at kinds to))) [
  | inl summed ↦ rw summed (isnt_number to j (λ e. true≢false (sym summed ∙ ap (λ n. is_sum (kind_at kinds n)) e ∙ plain)))
  | inr off ↦ rw off (isnt_number (length kinds) j (λ e. omega (arith, below, e)))
]
not_into kinds j Ground below plain = isnt_number (length kinds) j (λ e. omega (arith, below, e))
not_into kinds j Source below plain = isnt_number (length kinds) j (λ e. omega (arith, below, e))

-- a row is tied to a sum where its kind says so
tied_is : (kinds : List RowKind) (j : ℕ) (kind : RowKind) → j < length kinds → kind_at kinds j ≡ Sum → (tied_row kinds kind == j) ≡ is_tie_to j kind
tied_is kinds j Kcl below sum = isnt_number (length kinds) j (λ e. omega (arith, below, e))
tied_is kinds j Sum below sum = isnt_number (length kinds) j (λ e. omega (arith, below, e))
tied_is kinds j (Tie to) below sum = elim (cases_eq to j) [
  | inl same ↦ rw (same, sum) refl
  | inr ne ↦ rw (isnt_number to j ne) (elim (cases_Bool (is_sum (kind_at kinds to))) [
    | inl summed ↦ rw summed (isnt_number to j ne)
    | inr off ↦ rw off (isnt_number (length kinds) j (λ e. omega (arith, below, e)))
  ])
]
tied_is kinds j Ground below sum = isnt_number (length kinds) j (λ e. omega (arith, below, e))
tied_is kinds j Source below sum = isnt_number (length kinds) j (λ e. omega (arith, below, e))

-- the kind of a row that is tied to a sum is no sum
pub tie_is_plain : (kinds : List RowKind) (kind : RowKind) → tied_row kinds kind < length kinds → is_sum kind ≡ false
tie_is_plain kinds Kcl tied = refl
tie_is_plain kinds Sum tied = absurd (omega (arith, tied))
tie_is_plain kinds (Tie to) tied = refl
tie_is_plain kinds Ground tied = refl
tie_is_plain kinds Source tied = refl

-- ---- sums

-- what one place gives
sum_one : (n j : ℕ) (f : ℕ → ℤ) → j < n → sum_below n (λ k. if k == j then f k else pos 0) ≡ f j
sum_one zero j f below = absurd (omega (arith, below))
sum_one (suc n) j f below = elim (cases_eq n j) [
  | inl same ↦
      let before = sum_below-none n (λ k. if k == j then f k else pos 0) (λ k under. rw (isnt_number k j (λ e. omega (arith, under, same, e))) refl) in
      let here : (if n == j then f n else pos 0) ≡ f j = rw (is_number n j same) (ap f same) in
      omega (arith, ints, before, here)
  | inr ne ↦
      let before = sum_one n j f (omega (arith, below, ne)) in
      let here : (if n == j then f n else pos 0) ≡ pos 0 = rw (isnt_number n j ne) refl in
      omega (arith, ints, before, here)
]

either : (p q : Bool) (x : ℤ) → (p && q) ≡ false → (if p || q then x else pos 0) ≡ (if p then x else pos 0) +ℤ (if q then x else pos 0)
either true true x apart = absurd (cc)
either true false x apart = omega (arith, ints)
either false true x apart = omega (arith, ints)
either false false x apart = refl

sum_split : (n : ℕ) (p q : ℕ → Bool) (f : ℕ → ℤ) → ((k : ℕ) → k < n → (p k && q k) ≡ false)
    → sum_below n (λ k. if p k || q k then f k else pos 0) ≡ sum_below n (λ k. if p k then f k else pos 0) +ℤ sum_below n (λ k. if q k then f k else pos 0)
sum_split zero p q f apart = refl
sum_split (suc n) p q f apart =
    let here = either (p n) (q n) (f n) (apart n (omega arith)) in
    let before = sum_split n p q f (λ k below. apart k (omega (arith, below))) in
    omega (arith, ints, here, before)

-- the sum of a group is that of its row and of the rows that are tied to it
pub group_is : (kinds : List RowKind) (f : ℕ → ℤ) (j : ℕ) → j < length kinds → kind_at kinds j ≡ Sum → group_total kinds f j ≡ f j +ℤ sum_below (length kinds) (λ k. if tied_to kinds j k then f k else pos 0)
group_is kinds f j below sum =
    let n = length kinds in
    let own = is_own_tie kinds j sum in
    let split = sum_split n (λ k. k == j) (λ k. is_tie_to j (kind_at kinds k)) f (λ k under. apart kinds j k own) in
    let one = sum_one n j f below in
    let tied : sum_below n (λ k. if tied_to kinds j k then f k else pos 0) ≡ sum_below n (λ k. if is_tie_to j (kind_at kinds k) then f k else pos 0) =
    sum_below_same n (λ k. if tied_to kinds j k then f k else pos 0) (λ k. if is_tie_to j (kind_at kinds k) then f k else pos 0) (λ k under. ap (λ b. if b then f k else pos 0) (tied_is kinds j (kind_at kinds k) below sum)) in
    split ∙ ap (λ x. x +ℤ sum_below n (λ k. if is_tie_to j (kind_at kinds k) then f k else pos 0)) one ∙ ap (λ x. f j +ℤ x) (sym tied)
  where
    is_own_tie : (kinds : List RowKind) (j : ℕ) → kind_at kinds j ≡ Sum → is_tie_to j (kind_at kinds j) ≡ false
    is_own_tie kinds j sum = rw sum refl

    apart : (kinds : List RowKind) (j k : ℕ) → is_tie_to j (kind_at kinds j) ≡ false → ((k == j) && is_tie_to j (kind_at kinds k)) ≡ false
    apart kinds j k own = elim (cases_eq k j) [
      | inl same ↦ rw (is_number k j same, same) own
      | inr ne ↦ rw (isnt_number k j ne) refl
    ]

-- and where no row is tied, that of its row alone
pub untied_total : (kinds : List RowKind) (f : ℕ → ℤ) (j : ℕ) → AreUntied kinds → j < length kinds → kind_at kinds j ≡ Sum → group_total kinds f j ≡ f j
untied_total kinds f j untied below sum =
    let F : ℕ → ℤ = λ k. if tied_to kinds j k then f k else pos 0 in
    let none : sum_below (length kinds) F ≡ pos 0 = sum_below-none (length kinds) F off in
    let whole = group_is kinds f j below sum in
    omega (arith, ints, whole, none)
  where
    off : (k : ℕ) → k < length kinds → (if tied_to kinds j k then f k else pos 0) ≡ pos 0
    off k inside =
        let apart : tied_to kinds j k ≡ false = isnt_number (tied_row kinds (kind_at kinds k)) j (λ e. omega (arith, e, below, untied k inside)) in
        rw apart refl

-- ---- one row after the other

pub folded_none : (kinds : List RowKind) (sums : List ℤ) → IsFolded kinds 0 sums sums
folded_none kinds sums = record { sums = λ j below. omega (arith, ints); size = refl }

-- a row that is no sum is as before
pub folded_plain : (kinds : List RowKind) (n : ℕ) (old new : List ℤ) (j : ℕ) → length kinds ≡ length old → IsFolded kinds n old new → j < length old → is_sum (kind_at kinds j) ≡ false → item new j ≡ item old j
folded_plain kinds n old new j each folded below plain =
    let none = sum_below-none n (λ k. if tied_to kinds j k then item old k else pos 0) (λ k under. rw (not_into kinds j (kind_at kinds k) (omega (arith, below, each)) plain) refl) in
    omega (arith, ints, folded.sums j below, none)

pub folded_more : (kinds : List RowKind) (k : ℕ) (old mid new : List ℤ) → length kinds ≡ length old → k < length old → length new ≡ length mid → IsFolded kinds k old mid
    → ((j : ℕ) → j < length mid → item new j ≡ item mid j +ℤ (if tied_to kinds j k then item mid k else pos 0)) → IsFolded kinds (k + 1) old new
folded_more kinds k old mid new each inside long folded added = record {
  sums = λ j below.
      let more = sum_below-more k (λ k. if tied_to kinds j k then item old k else pos 0) in
      let here = added j (omega (arith, below, folded.size)) in
      let same : (if tied_to kinds j k then item mid k else pos 0) ≡ (if tied_to kinds j k then item old k else pos 0) = part_same j (omega (arith, below, each)) in
      omega (arith, ints, folded.sums j below, more, here, same);
  size = long ∙ folded.size;
}
  where
    untied : (j : ℕ) → j < length kinds → length kinds ≤ tied_row kinds (kind_at kinds k) → (if tied_to kinds j k then item mid k else pos 0) ≡ (if tied_to kinds j k then item old k else pos 0)
    untied j below past =
        let off : tied_to kinds j k ≡ false = isnt_number (tied_row kinds (kind_at kinds k)) j (λ e. omega (arith, e, past, below)) in
        rw off refl

    part_same : (j : ℕ) → j < length kinds → (if tied_to kinds j k then item mid k else pos 0) ≡ (if tied_to kinds j k then item old k else pos 0)
    part_same j below = elim (cases_lt (tied_row kinds (kind_at kinds k)) (length kinds)) [
      | inl tied ↦ ap (λ x. if tied_to kinds j k then x else pos 0) (folded_plain kinds k old mid k each folded inside (tie_is_plain kinds (kind_at kinds k) tied))
      | inr past ↦ untied j below past
    ]

-- how large the sums may be
pub folded_small : (kinds : List RowKind) (n j : ℕ) (old new : List ℤ) → IsFolded kinds n old new → j < length old → n ≤ length old → length old ≤ MOST_NODES → ((j : ℕ) → j < length old → unsigned_abs (item old j) ≤ 2 * 10 ^ 34) → unsigned_abs (item new j) ≤ 4 * 10 ^ 37
folded_small kinds n j old new folded below within few small =
    let most = sum_below_small n (λ k. if tied_to kinds j k then item old k else pos 0) (2 * 10 ^ 34) (λ k under. part (tied_to kinds j k) (item old k) (small k (omega (arith, under, within)))) in
    omega (arith, ints, folded.sums j below, most, small j below)
  where
    part : (b : Bool) (x : ℤ) → unsigned_abs x ≤ 2 * 10 ^ 34 → unsigned_abs (if b then x else pos 0) ≤ 2 * 10 ^ 34
    part true x small = small
    part false x small = omega (arith, ints)

-- an amount in the row that it is tied to
pub row_folded : (kinds : List RowKind) (k to j : ℕ) (sums : List ℤ) (amount : ℤ) → to ≡ tied_row kinds (kind_at kinds k) → to < length sums → amount ≡ item sums k → item (slice_set sums to (item sums to +ℤ amount)) j ≡ item sums j +ℤ (if tied_to kinds j k then item sums k else pos 0)
row_folded kinds k to j sums amount is there read = elim (cases_eq j to) [
  | inl same ↦
      let here : tied_to kinds j k ≡ true = is_number (tied_row kinds (kind_at kinds k)) j (sym is ∙ sym same) in
      let set : item (slice_set sums to (item sums to +ℤ amount)) to ≡ item sums to +ℤ amount = get_or-set_same sums to (item sums to +ℤ amount) (pos 0) there in
      rw (here, same) (set ∙ ap (λ x. item sums to +ℤ x) read)
  | inr ne ↦
      let off : tied_to kinds j k ≡ false = isnt_number (tied_row kinds (kind_at kinds k)) j (λ e. ne (sym e ∙ sym is)) in
      let set : item (slice_set sums to (item sums to +ℤ amount)) j ≡ item sums j = get_or-set_other sums to j (item sums to +ℤ amount) (pos 0) ne in
      let none : item sums j ≡ item sums j +ℤ pos 0 = omega (arith, ints) in
      rw off (set ∙ none)
]

pub row_alone : (kinds : List RowKind) (k to j : ℕ) (sums : List ℤ) → to ≡ tied_row kinds (kind_at kinds k) → length sums ≤ to → j < length sums → item sums j ≡ item sums j +ℤ (if tied_to kinds j k then item sums k else pos 0)
row_alone kinds k to j sums is past below =
    let off : tied_to kinds j k ≡ false = isnt_number (tied_row kinds (kind_at kinds k)) j (λ e. omega (arith, e, is, past, below)) in
    rw off (nothing (item sums j))
