-- The chain of a block, link by link.
use Rattle.std.proofs.Common.{◌≡◌, ◌≢◌, ◌∙◌, sym, ap, to_z, of_z, Bool, true, false, ◌&&◌, ℕ, zero, suc, ◌+◌, ◌*◌, ◌^◌, ◌<◌, ◌≤◌, ℤ, pos, ◌+ℤ◌, ◌-ℤ◌, unsigned_abs, List, length, slice_set, get_or-set_same, get_or-set_other, inl, inr, add-one, refl, arith}
use mir.Syntax.{w128}
use Rattle.std.proofs.lemmas.Bool.{cases_eq}
use Rattle.std.proofs.lemmas.Bool.Decides.{nat_tests}
use Rattle.std.proofs.lemmas.Int.{ints}
use Rattle.emtp_elim.specs.Matrix.{item}
use Rattle.emtp_fix.proofs.Wide.{through}
use Rattle.emtp_fix.specs.Limit.{is_within}
use Rattle.emtp_blocks.specs.Block.{carried, chain_number, each_within}
use Rattle.emtp_blocks.specs.held.Block.{IsKept}
use Rattle.emtp_case.specs.declared.control.BlockState.{BlockState}

pub chain_number_small : (s : BlockState) (j : ℕ) → IsKept s → unsigned_abs (chain_number s.chain j) ≤ 10 ^ 36
chain_number_small s zero kept = omega (arith, ints)
chain_number_small s (suc j) kept = kept.chain_small j

pub carried_small : (s : BlockState) (j : ℕ) → IsKept s → unsigned_abs (carried s.errors s.chain j) ≤ j * (3 * 10 ^ 36)
carried_small s zero kept = omega (arith, ints)
carried_small s (suc j) kept =
    let before = carried_small s j kept in
    let y = kept.chain_small j in
    let e = kept.errors_small j in
    let y' = chain_number_small s j kept in
    omega (arith, ints, before, y, e, y')

pub carried-more : (es ys : List ℤ) (j : ℕ) → carried es ys (j + 1) ≡ ((item ys j +ℤ chain_number ys j) -ℤ item es j) +ℤ carried es ys j
carried-more es ys j = rw add-one refl

pub chain_number-more : (ys : List ℤ) (j : ℕ) → chain_number ys (j + 1) ≡ item ys j
chain_number-more ys j = rw add-one refl

-- what is kept goes to bits and is read again
pub chain_through : (s : BlockState) (j : ℕ) → IsKept s → to_z w128 (of_z w128 (item s.chain j)) ≡ item s.chain j
chain_through s j kept = through (item s.chain j) (omega (arith, kept.chain_small j))

pub error_through : (s : BlockState) (j : ℕ) → IsKept s → to_z w128 (of_z w128 (item s.errors j)) ≡ item s.errors j
error_through s j kept = through (item s.errors j) (omega (arith, kept.errors_small j))

pub carried_through : (s : BlockState) (j : ℕ) (result : ℤ) → IsKept s → j ≤ 7 → result ≡ carried s.errors s.chain j → to_z w128 (of_z w128 result) ≡ result
carried_through s j result kept few is = through result (omega (arith, few, ap unsigned_abs is, carried_small s j kept))

-- one link more, as the code computes it
pub carried_next : (s : BlockState) (j : ℕ) (before-carried before result : ℤ) → IsKept s → before-carried ≡ carried s.errors s.chain j → before ≡ chain_number s.chain j
    → result ≡ ((to_z w128 (of_z w128 (item s.chain j)) +ℤ before) -ℤ to_z w128 (of_z w128 (item s.errors j))) +ℤ before-carried → result ≡ carried s.errors s.chain (j + 1)
carried_next s j before-carried before result kept so_far last is =
    is ∙ ap (λ y. ((y +ℤ before) -ℤ to_z w128 (of_z w128 (item s.errors j))) +ℤ before-carried) (chain_through s j kept) ∙ ap (λ e. ((item s.chain j +ℤ before) -ℤ e) +ℤ before-carried) (error_through s j kept)
    ∙ ap (λ b. ((item s.chain j +ℤ b) -ℤ item s.errors j) +ℤ before-carried) last ∙ ap (λ h. ((item s.chain j +ℤ chain_number s.chain j) -ℤ item s.errors j) +ℤ h) so_far ∙ sym (carried-more s.errors s.chain j)

-- a list that is filled place by place
pub set_done : (f : ℕ → ℤ) (xs : List ℤ) (j : ℕ) (v : ℤ) → j < length xs → v ≡ f j → ((i : ℕ) → i < j → item xs i ≡ f i) → (i : ℕ) → i < j + 1 → item (slice_set xs j v) i ≡ f i
set_done f xs j v inside is before i below = elim (cases_eq i j) [
  | inl same ↦ rw (same, get_or-set_same) is
  | inr ne ↦ rw get_or-set_other (before i (omega (arith, below, ne)))
]

pub set_small : (limit : ℕ) (xs : List ℤ) (j : ℕ) (v : ℤ) → j < length xs → unsigned_abs v ≤ limit → ((i : ℕ) → unsigned_abs (item xs i) ≤ limit) → (i : ℕ) → unsigned_abs (item (slice_set xs j v) i) ≤ limit
set_small limit xs j v inside is before i = elim (cases_eq i j) [
  | inl same ↦ rw (same, get_or-set_same) is
  | inr ne ↦ rw get_or-set_other (before i)
]

pub set_past : (xs : List ℤ) (j : ℕ) (v : ℤ) → ((i : ℕ) → j ≤ i → item xs i ≡ pos 0) → (i : ℕ) → j + 1 ≤ i → item (slice_set xs j v) i ≡ pos 0
set_past xs j v before i below =
    let ne : i ≢ j = λ e. absurd (omega (arith, below, e)) in
    rw get_or-set_other (before i (omega (arith, below)))

-- each test fails at the same place
pub each_false : (limit : ℕ) (xs : List ℤ) (j n : ℕ) → j < n → is_within limit (item xs j) ≡ false → each_within limit xs n ≡ false
each_false limit xs j zero below out = absurd (omega (arith, below))
each_false limit xs j (suc n) below out = elim (cases_eq j n) [
  | inl same ↦ rw (sym same, out) (and_false (each_within limit xs j))
  | inr ne ↦ rw (each_false limit xs j n (omega (arith, below, ne)) out) refl
]
  where
    and_false : (b : Bool) → (b && false) ≡ false
    and_false true = refl
    and_false false = refl

pub each_same : (limit : ℕ) (xs ys : List ℤ) (n : ℕ) → ((j : ℕ) → j < n → item xs j ≡ item ys j) → each_within limit xs n ≡ each_within limit ys n
each_same limit xs ys zero same = refl
each_same limit xs ys (suc n) same =
    let here : item xs n ≡ item ys n = same n (omega arith) in
    let before : each_within limit xs n ≡ each_within limit ys n = each_same limit xs ys n (λ j below. same j (omega (arith, below))) in
    ap (λ b. b && is_within limit (item xs n)) before ∙ ap (λ z. each_within limit ys n && is_within limit z) here

pub each_small : (limit : ℕ) (xs : List ℤ) (n : ℕ) → each_within limit xs n ≡ true → (j : ℕ) → j < n → unsigned_abs (item xs j) ≤ limit
each_small limit xs zero all j below = absurd (omega (arith, below))
each_small limit xs (suc n) all j below = elim (cases_eq j n) [
  | inl same ↦ rw same (within_small limit (item xs n) (second _ _ all))
  | inr ne ↦ each_small limit xs n (first _ _ all) j (omega (arith, below, ne))
]
  where
    first : (a b : Bool) → (a && b) ≡ true → a ≡ true
    first true b e = refl
    first false b e = e

    second : (a b : Bool) → (a && b) ≡ true → b ≡ true
    second true b e = e
    second false b e = grind (arith, e)

    within_small : (limit : ℕ) (z : ℤ) → is_within limit z ≡ true → unsigned_abs z ≤ limit
    within_small limit z e = grind (arith, nat_tests)

chain_number_same : (ys ys' : List ℤ) (order j : ℕ) → ((i : ℕ) → i < order → item ys i ≡ item ys' i) → j ≤ order → chain_number ys j ≡ chain_number ys' j
chain_number_same ys ys' order zero same within = refl
chain_number_same ys ys' order (suc j) same within = same j (omega (arith, within))

pub carried_same : (es ys es' ys' : List ℤ) (order j : ℕ) → ((i : ℕ) → i < order → item es i ≡ item es' i) → ((i : ℕ) → i < order → item ys i ≡ item ys' i) → j ≤ order → carried es ys j ≡ carried es' ys' j
carried_same es ys es' ys' order zero same same' within = refl
carried_same es ys es' ys' order (suc j) same same' within =
    let before = carried_same es ys es' ys' order j same same' (omega (arith, within)) in
    let y : chain_number ys (suc j) ≡ chain_number ys' (suc j) = chain_number_same ys ys' order (suc j) same' within in
    let y' = chain_number_same ys ys' order j same' (omega (arith, within)) in
    let e : item es j ≡ item es' j = same j (omega (arith, within)) in
    omega (arith, ints, before, y, y', e)

pub set_first : (limit : ℕ) (xs : List ℤ) (j : ℕ) (v : ℤ) → j < length xs → unsigned_abs v ≤ limit → ((i : ℕ) → i < j → unsigned_abs (item xs i) ≤ limit) → (i : ℕ) → i < j + 1 → unsigned_abs (item (slice_set xs j v) i) ≤ limit
set_first limit xs j v inside is before i below = elim (cases_eq i j) [
  | inl same ↦ rw (same, get_or-set_same) is
  | inr ne ↦ rw get_or-set_other (before i (omega (arith, below, ne)))
]
