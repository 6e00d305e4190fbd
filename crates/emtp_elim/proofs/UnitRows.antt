-- Unknowns that elimination finds exactly: of a row that has 1 in its own column and nothing else, and of a row that is tied
-- to another one.
use Rattle.std.proofs.Common.{◌≡◌, ◌≢◌, ◌∙◌, ◌⊎◌, inl, inr, ◌+◌, ◌-◌, ◌<◌, ◌≤◌, ◌^◌, ℕ, zero, suc, ℤ, pos, neg_ℤ, ◌+ℤ◌, ◌-ℤ◌, ◌*ℤ◌, List, drop, length, refl, ap, sym, arith}
use Rattle.std.proofs.Math.IntN.{*ℤ_comm}
use Rattle.std.proofs.lemmas.Bool.{cases_eq}
use Rattle.std.proofs.lemmas.Int.{ints}
use Rattle.std.proofs.lemmas.List.{get_or-drop}
use Rattle.emtp_fix.proofs.Quotients.{near-exact, near-mul_neg, near-times_zero, near-zero_times}
use Rattle.emtp_fix.specs.Rounding.{near}
use Rattle.emtp_fix.specs.declared.limit.TheConstants.{PICO}
use Rattle.emtp_elim.specs.held.Rows.{IsUnitRow}
use Rattle.emtp_elim.specs.Matrix.{Matrix, entry, item, products, row_of}
use Rattle.emtp_elim.specs.held.Matrix.{IsSquare}
use Rattle.emtp_elim.specs.Elimination.{last_unknowns, less_product, quotient, ratio, solution, stage, stage_right, unknown}
use Rattle.emtp_elim.proofs.Stages.{entry_later, entry_settled, entry_start, length-stage, right_later, right_settled, right_start}
use Rattle.emtp_elim.proofs.Unknowns.{last_unknowns-more, length-last_unknowns}

-- ---- products with 1

times_pico : (x : ℤ) → near (x *ℤ PICO) PICO ≡ x
times_pico x = near-exact x (10 ^ 12) (omega arith)

by_nothing : (a p : ℤ) → less_product a (pos 0) p ≡ a
by_nothing a p = omega (arith, ints, near-zero_times p PICO)

of_nothing : (a m : ℤ) → less_product a m (pos 0) ≡ a
of_nothing a m = omega (arith, ints, near-times_zero m PICO)

by_minus_one : (a v : ℤ) → less_product a (neg_ℤ PICO) v ≡ a +ℤ v
by_minus_one a v =
    let part : near (neg_ℤ PICO *ℤ v) PICO ≡ neg_ℤ v = ap (λ z. near z PICO) (*ℤ_comm (neg_ℤ PICO) v) ∙ near-mul_neg v PICO PICO ∙ ap neg_ℤ (times_pico v) in
    omega (arith, ints, part)

-- ---- rows that stay as they are

-- column k of row i holds nothing, or row k has nothing behind its pivot
abbrev pub IsLight : Matrix → ℕ → ℕ → Type 0
IsLight rows i k = (entry rows i k ≡ pos 0) ⊎ ((j : ℕ) → k < j → j < length rows → entry (stage rows k) k j ≡ pos 0)

wide : (rows : Matrix) (i j : ℕ) → IsSquare rows → i < length rows → j < length rows → j < length (row_of rows i)
wide rows i j square inside within = omega (arith, square i inside, within)

no_ratio : (rows : Matrix) (k i : ℕ) → entry (stage rows k) i k ≡ pos 0 → ratio (stage rows k) k i ≡ pos 0
no_ratio rows k i none = ap (λ a. quotient a (entry (stage rows k) k k)) none ∙ near-zero_times PICO (entry (stage rows k) k k)

pub keeps : (rows : Matrix) (i m : ℕ) → IsSquare rows → i < length rows → m ≤ i → ((k : ℕ) → k < m → IsLight rows i k) → (j : ℕ) → m ≤ j → j < length rows → entry (stage rows m) i j ≡ entry rows i j
keeps rows i zero square inside low light j from_on within = entry_start rows i j
keeps rows i (suc k) square inside low light j from_on within =
    let before = keeps rows i k square inside (omega (arith, low)) (λ h less. light h (omega (arith, less))) in
    entry_later rows k i j (omega (arith, low)) (omega (arith, from_on)) inside (wide rows i j square inside within)
    ∙ elim (light k (omega arith)) [
      | inl none ↦
          ap (λ m. less_product (entry (stage rows k) i j) m (entry (stage rows k) k j)) (no_ratio rows k i (before k (omega arith) (omega (arith, low, inside)) ∙ none))
          ∙ by_nothing (entry (stage rows k) i j) (entry (stage rows k) k j)
      | inr bare ↦
          ap (λ p. less_product (entry (stage rows k) i j) (ratio (stage rows k) k i) p) (bare j (omega (arith, from_on)) within)
          ∙ of_nothing (entry (stage rows k) i j) (ratio (stage rows k) k i)
    ]
    ∙ before j (omega (arith, from_on)) within

pub right_keeps : (rows : Matrix) (right : List ℤ) (i m : ℕ) → IsSquare rows → length right ≡ length rows → i < length rows → m ≤ i → ((k : ℕ) → k < m → entry rows i k ≡ pos 0)
    → item (stage_right rows right m) i ≡ item right i
right_keeps rows right i zero square same inside low none = ap (λ r. item r i) (right_start rows right)
right_keeps rows right i (suc k) square same inside low none =
    let here = keeps rows i k square inside (omega (arith, low)) (λ h less. inl (none h (omega (arith, less)))) k (omega arith) (omega (arith, low, inside)) in
    right_later rows right k i (omega (arith, low)) (omega (arith, same, inside))
    ∙ ap (λ m. less_product (item (stage_right rows right k) i) m (item (stage_right rows right k) k)) (no_ratio rows k i (here ∙ none k (omega arith)))
    ∙ by_nothing (item (stage_right rows right k) i) (item (stage_right rows right k) k)
    ∙ right_keeps rows right i k square same inside (omega (arith, low)) (λ h less. none h (omega (arith, less)))

-- ---- unit rows and tie rows

-- a row that says that its unknown is that of row r
pub record IsTieRow (rows : Matrix) (i r : ℕ) : Type 0 where
  pub own : entry rows i i ≡ PICO
  pub other : entry rows i r ≡ neg_ℤ PICO
  pub apart : r ≢ i
  pub rest : (j : ℕ) → j ≢ i → j ≢ r → j < length rows → entry rows i j ≡ pos 0

unit_light : (rows : Matrix) (i : ℕ) → i < length rows → IsUnitRow rows i → (k : ℕ) → k < i → IsLight rows i k
unit_light rows i inside unit k less = inl (unit.others k (omega (arith, less)))

unit_stays : (rows : Matrix) (i : ℕ) → IsSquare rows → i < length rows → IsUnitRow rows i → (j : ℕ) → i ≤ j → j < length rows → entry (stage rows i) i j ≡ entry rows i j
unit_stays rows i square inside unit = keeps rows i i square inside (omega arith) (unit_light rows i inside unit)

bare : (rows : Matrix) (r : ℕ) → IsSquare rows → r < length rows → IsUnitRow rows r → (j : ℕ) → r < j → j < length rows → entry (stage rows r) r j ≡ pos 0
bare rows r square inside unit j after within = unit_stays rows r square inside unit j (omega (arith, after)) within ∙ unit.others j (omega (arith, after))

tie_light : (rows : Matrix) (i r : ℕ) → IsSquare rows → i < length rows → IsTieRow rows i r → (r < i → IsUnitRow rows r) → (k : ℕ) → k < i → IsLight rows i k
tie_light rows i r square inside tie above k less = elim (cases_eq k r) [
  | inl e ↦
      let before : r < i = omega (arith, e, less) in
      inr (λ j after within. ap (λ n. entry (stage rows n) n j) e ∙ bare rows r square (omega (arith, before, inside)) (above before) j (omega (arith, e, after)) within)
  | inr ne ↦ inl (tie.rest k (omega (arith, less)) ne (omega (arith, less, inside)))
]

-- the right side of a row that is tied to an earlier one with nothing but a 1 is that one's, once its column is cleared
minus_one : (rows : Matrix) (i r : ℕ) → IsSquare rows → i < length rows → r < i → IsUnitRow rows r → IsTieRow rows i r → ratio (stage rows r) r i ≡ neg_ℤ PICO
minus_one rows i r square inside before unit tie =
    let there = keeps rows i r square inside (omega (arith, before)) (λ k less. inl (tie.rest k (omega (arith, less, before)) (omega (arith, less)) (omega (arith, less, before, inside)))) r (omega arith) (omega (arith, before, inside)) in
    let pivot = unit_stays rows r square (omega (arith, before, inside)) unit r (omega arith) (omega (arith, before, inside)) in
    ap (λ a. quotient a (entry (stage rows r) r r)) (there ∙ tie.other) ∙ ap (quotient (neg_ℤ PICO)) (pivot ∙ unit.own) ∙ times_pico (neg_ℤ PICO)

tie_right : (rows : Matrix) (right : List ℤ) (i r m : ℕ) → IsSquare rows → length right ≡ length rows → i < length rows → IsUnitRow rows r → IsTieRow rows i r → r < m → m ≤ i
    → item (stage_right rows right m) i ≡ item right i +ℤ item right r
tie_right rows right i r zero square same inside unit tie past low = absurd (omega (arith, past))
tie_right rows right i r (suc k) square same inside unit tie past low = elim (cases_eq k r) [
  | inl e ↦
      let before : r < i = omega (arith, e, low) in
      ap (λ n. item (stage_right rows right (suc n)) i) e
      ∙ right_later rows right r i before (omega (arith, same, inside))
      ∙ ap (λ m. less_product (item (stage_right rows right r) i) m (item (stage_right rows right r) r)) (minus_one rows i r square inside before unit tie)
      ∙ by_minus_one (item (stage_right rows right r) i) (item (stage_right rows right r) r)
      ∙ ap (λ x. x +ℤ item (stage_right rows right r) r) (right_keeps rows right i r square same inside (omega (arith, before)) (λ h less. tie.rest h (omega (arith, less, before)) (omega (arith, less)) (omega (arith, less, before, inside))))
      ∙ ap (λ x. item right i +ℤ x) (right_keeps rows right r r square same (omega (arith, before, inside)) (omega arith) (λ h less. unit.others h (omega (arith, less))))
  | inr ne ↦
      let here = keeps rows i k square inside (omega (arith, low)) (λ h less. tie_light rows i r square inside tie (λ b. unit) h (omega (arith, less, low))) k (omega arith) (omega (arith, low, inside)) in
      right_later rows right k i (omega (arith, low)) (omega (arith, same, inside))
      ∙ ap (λ m. less_product (item (stage_right rows right k) i) m (item (stage_right rows right k) k)) (no_ratio rows k i (here ∙ tie.rest k (omega (arith, low)) ne (omega (arith, low, inside))))
      ∙ by_nothing (item (stage_right rows right k) i) (item (stage_right rows right k) k)
      ∙ tie_right rows right i r k square same inside unit tie (omega (arith, past, ne)) (omega (arith, low))
]

-- ---- unknowns

later_item : (rows : Matrix) (right : List ℤ) (m n all at t : ℕ) → all ≡ m + n → at ≡ m + t → item (last_unknowns rows right all) at ≡ item (last_unknowns rows right n) t
later_item rows right zero n all at t e h =
    let same : all ≡ n = omega (arith, e) in
    let there : at ≡ t = omega (arith, h) in
    ap (λ k. item (last_unknowns rows right k) at) same ∙ ap (item (last_unknowns rows right n)) there
later_item rows right (suc m) n all at t e h =
    let same : all ≡ suc (m + n) = omega (arith, e) in
    let there : at ≡ suc (m + t) = omega (arith, h) in
    ap (λ k. item (last_unknowns rows right k) at) same ∙ ap (item (last_unknowns rows right (suc (m + n)))) there
    ∙ ap (λ l. item l (suc (m + t))) (last_unknowns-more rows right (m + n))
    ∙ later_item rows right m n (m + n) (m + t) t refl refl

products_none : (xs ys : List ℤ) (n : ℕ) → ((t : ℕ) → t < n → item xs t ≡ pos 0) → products xs ys n ≡ pos 0
products_none xs ys zero none = refl
products_none xs ys (suc n) none =
    let last : item xs n *ℤ item ys n ≡ pos 0 = ap (λ a. a *ℤ item ys n) (none n (omega arith)) ∙ *ℤ_comm (pos 0) (item ys n) ∙ nothing (item ys n) in
    omega (arith, ints, last, products_none xs ys n (λ t less. none t (omega (arith, less))))
  where
    nothing : (y : ℤ) → y *ℤ pos 0 ≡ pos 0
    nothing y = omega (arith, ints)

products_one : (xs ys : List ℤ) (n t : ℕ) (a : ℤ) → t < n → item xs t ≡ a → ((u : ℕ) → u ≢ t → u < n → item xs u ≡ pos 0) → products xs ys n ≡ a *ℤ item ys t
products_one xs ys zero t a below is none = absurd (omega (arith, below))
products_one xs ys (suc n) t a below is none = elim (cases_eq n t) [
  | inl e ↦
      let last : item xs n *ℤ item ys n ≡ a *ℤ item ys t = ap (λ k. item xs k *ℤ item ys k) e ∙ ap (λ z. z *ℤ item ys t) is in
      omega (arith, ints, last, products_none xs ys n (λ u less. none u (omega (arith, less, e)) (omega (arith, less))))
  | inr ne ↦
      let last : item xs n *ℤ item ys n ≡ pos 0 = ap (λ z. z *ℤ item ys n) (none n ne (omega arith)) ∙ *ℤ_comm (pos 0) (item ys n) ∙ nothing (item ys n) in
      omega (arith, ints, last, products_one xs ys n t a (omega (arith, below, ne)) is (λ u apart less. none u apart (omega (arith, less))))
]
  where
    nothing : (y : ℤ) → y *ℤ pos 0 ≡ pos 0
    nothing y = omega (arith, ints)

-- the later unknowns of row i
abbrev later_of : Matrix → List ℤ → ℕ → List ℤ
later_of rows right i = last_unknowns (stage rows (length rows)) (stage_right rows right (length rows)) (length rows - suc i)

solved_at : (rows : Matrix) (right : List ℤ) (i : ℕ) → i < length rows → item (solution rows right) i ≡ unknown (stage rows (length rows)) (stage_right rows right (length rows)) i (later_of rows right i)
solved_at rows right i inside =
    let n = length rows in
    let done = stage rows n in
    let given = stage_right rows right n in
    let left = n - suc i in
    let split : n ≡ i + suc left = omega (arith, inside) in
    let here : i ≡ i + 0 = omega arith in
    let place : length done - suc left ≡ i = omega (arith, inside, length-stage rows n) in
    later_item done given i (suc left) n i 0 split here
    ∙ ap (λ l. item l 0) (last_unknowns-more done given left)
    ∙ ap (λ k. unknown done given k (last_unknowns done given left)) place

later_at : (rows : Matrix) (right : List ℤ) (i t : ℕ) → i < length rows → item (later_of rows right i) t ≡ item (solution rows right) (suc i + t)
later_at rows right i t inside =
    let n = length rows in
    let split : n ≡ suc i + (n - suc i) = omega (arith, inside) in
    sym (later_item (stage rows n) (stage_right rows right n) (suc i) (n - suc i) n (suc i + t) t split refl)

-- an entry of a finished row, behind the later columns that are dropped
done_entry : (rows : Matrix) (i j : ℕ) → IsSquare rows → i < length rows → j < length rows → entry (stage rows (length rows)) i j ≡ entry (stage rows i) i j
done_entry rows i j square inside within =
    let all : length rows ≡ i + (length rows - i) = omega (arith, inside) in
    ap (λ n. entry (stage rows n) i j) all ∙ entry_settled rows i j (length rows - i) inside (wide rows i j square inside within)

done_right : (rows : Matrix) (right : List ℤ) (i : ℕ) → length right ≡ length rows → i < length rows → item (stage_right rows right (length rows)) i ≡ item (stage_right rows right i) i
done_right rows right i same inside =
    let all : length rows ≡ i + (length rows - i) = omega (arith, inside) in
    ap (λ n. item (stage_right rows right n) i) all ∙ right_settled rows right i (length rows - i) (omega (arith, same, inside))

behind : (rows : Matrix) (i t : ℕ) → item (drop (suc i) (row_of (stage rows (length rows)) i)) t ≡ entry (stage rows (length rows)) i (suc i + t)
behind rows i t = get_or-drop (suc i) (row_of (stage rows (length rows)) i) t (pos 0)

-- a row whose pivot is 1, once its products are known
unknown_is : (rows : Matrix) (right : List ℤ) (i : ℕ) (c p z : ℤ) → i < length rows
    → item (stage_right rows right (length rows)) i ≡ c → entry (stage rows (length rows)) i i ≡ PICO
    → products (drop (suc i) (row_of (stage rows (length rows)) i)) (later_of rows right i) (length (later_of rows right i)) ≡ p
    → c *ℤ PICO -ℤ p ≡ z *ℤ PICO → item (solution rows right) i ≡ z
unknown_is rows right i c p z inside given pivot sum e =
    let n = length rows in
    solved_at rows right i inside
    ∙ ap (near (item (stage_right rows right n) i *ℤ PICO -ℤ products (drop (suc i) (row_of (stage rows n) i)) (later_of rows right i) (length (later_of rows right i)))) pivot
    ∙ ap (λ x. near (x *ℤ PICO -ℤ products (drop (suc i) (row_of (stage rows n) i)) (later_of rows right i) (length (later_of rows right i))) PICO) given
    ∙ ap (λ x. near (c *ℤ PICO -ℤ x) PICO) sum
    ∙ ap (λ x. near x PICO) e
    ∙ times_pico z

-- the unknown of a row with nothing but its own column is its right side
pub unit_solved : (rows : Matrix) (right : List ℤ) (i : ℕ) → IsSquare rows → length right ≡ length rows → i < length rows → IsUnitRow rows i → item (solution rows right) i ≡ item right i
unit_solved rows right i square same inside unit =
    let n = length rows in
    let c = item right i in
    unknown_is rows right i c (pos 0) c inside
    (done_right rows right i same inside ∙ right_keeps rows right i i square same inside (omega arith) (λ k less. unit.others k (omega (arith, less))))
    (done_entry rows i i square inside inside ∙ unit_stays rows i square inside unit i (omega arith) inside ∙ unit.own)
    (products_none (drop (suc i) (row_of (stage rows n) i)) (later_of rows right i) (length (later_of rows right i)) (λ t less.
    let within : suc i + t < n = omega (arith, less, inside, length-last_unknowns (stage rows n) (stage_right rows right n) (n - suc i)) in
    behind rows i t ∙ done_entry rows i (suc i + t) square inside within ∙ bare rows i square inside unit (suc i + t) (omega arith) within))
    (omega (arith, ints))

-- that of a row which is tied to a later row is that row's unknown, where its right side is 0
pub later_tie : (rows : Matrix) (right : List ℤ) (i r : ℕ) → IsSquare rows → length right ≡ length rows → i < length rows → i < r → r < length rows → IsTieRow rows i r → item right i ≡ pos 0
    → item (solution rows right) i ≡ item (solution rows right) r
later_tie rows right i r square same inside after within tie none =
    let n = length rows in
    let z = item (solution rows right) r in
    let light : (k : ℕ) → k < i → IsLight rows i k = tie_light rows i r square inside tie (λ b. absurd (omega (arith, b, after))) in
    let stays = keeps rows i i square inside (omega arith) light in
    let t = r - suc i in
    let at_r : suc i + t ≡ r = omega (arith, after) in
    let size = length-last_unknowns (stage rows n) (stage_right rows right n) (n - suc i) in
    let sum : products (drop (suc i) (row_of (stage rows n) i)) (later_of rows right i) (length (later_of rows right i)) ≡ neg_ℤ PICO *ℤ z =
    products_one (drop (suc i) (row_of (stage rows n) i)) (later_of rows right i) (length (later_of rows right i)) t (neg_ℤ PICO) (omega (arith, size, after, within))
    (behind rows i t ∙ ap (entry (stage rows n) i) at_r ∙ done_entry rows i r square inside within ∙ stays r (omega (arith, after)) within ∙ tie.other)
    (λ u apart less.
    let here : suc i + u < n = omega (arith, less, size, inside) in
    behind rows i u ∙ done_entry rows i (suc i + u) square inside here ∙ stays (suc i + u) (omega arith) here ∙ tie.rest (suc i + u) (omega arith) (λ e. apart (omega (arith, e, at_r))) here)
    ∙ ap (λ x. neg_ℤ PICO *ℤ x) (later_at rows right i t inside ∙ ap (item (solution rows right)) at_r) in
    unknown_is rows right i (pos 0) (neg_ℤ PICO *ℤ z) z inside
    (done_right rows right i same inside ∙ right_keeps rows right i i square same inside (omega arith) (λ k less. tie.rest k (omega (arith, less)) (omega (arith, less, after)) (omega (arith, less, inside))) ∙ none)
    (done_entry rows i i square inside inside ∙ stays i (omega arith) inside ∙ tie.own)
    sum
    (omega (arith, ints))

-- and that of a row which is tied to an earlier row with nothing but its own column
pub earlier_tie : (rows : Matrix) (right : List ℤ) (i r : ℕ) → IsSquare rows → length right ≡ length rows → i < length rows → r < i → IsUnitRow rows r → IsTieRow rows i r → item right i ≡ pos 0
    → item (solution rows right) i ≡ item (solution rows right) r
earlier_tie rows right i r square same inside before unit tie none =
    let n = length rows in
    let c = item right r in
    let light : (k : ℕ) → k < i → IsLight rows i k = tie_light rows i r square inside tie (λ b. unit) in
    let stays = keeps rows i i square inside (omega arith) light in
    let given : item (stage_right rows right i) i ≡ c = tie_right rows right i r i square same inside unit tie before (omega arith) ∙ ap (λ x. x +ℤ c) none ∙ nothing c in
    unknown_is rows right i c (pos 0) c inside
    (done_right rows right i same inside ∙ given)
    (done_entry rows i i square inside inside ∙ stays i (omega arith) inside ∙ tie.own)
    (products_none (drop (suc i) (row_of (stage rows n) i)) (later_of rows right i) (length (later_of rows right i)) (λ t less.
    let within : suc i + t < n = omega (arith, less, inside, length-last_unknowns (stage rows n) (stage_right rows right n) (n - suc i)) in
    behind rows i t ∙ done_entry rows i (suc i + t) square inside within ∙ stays (suc i + t) (omega arith) within ∙ tie.rest (suc i + t) (omega arith) (omega (arith, before)) within))
    (omega (arith, ints))
    ∙ sym (unit_solved rows right r square same (omega (arith, before, inside)) unit)
  where
    nothing : (x : ℤ) → pos 0 +ℤ x ≡ x
    nothing x = omega (arith, ints)
