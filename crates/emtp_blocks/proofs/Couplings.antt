-- The row of a block, input by input.
use Rattle.emtp_fix.specs.declared.limit.TheConstants.{LARGEST_COEFFICIENT}
use Rattle.std.proofs.Common.{◌≡◌, ◌≢◌, sym, ap, ℕ, ◌*◌, ◌^◌, ◌<◌, ◌≤◌, ◌==◌, ℤ, pos, neg_ℤ, ◌+ℤ◌, unsigned_abs, Bool, true, false, if◌then◌else◌, List, Option, Some, None, length, take, length-take-le, slice_set, get_or-set_same, get_or-set_other, inl, inr, arith}
use Rattle.std.proofs.lemmas.Bool.{cases_eq, cases_lt}
use Rattle.std.proofs.lemmas.Bool.Decides.{nat_tests}
use Rattle.std.proofs.lemmas.Int.{ints}
use Rattle.std.proofs.lemmas.List.{get_or_past}
use Rattle.emtp_case.specs.declared.control.Input.{Input}
use Rattle.emtp_elim.specs.Matrix.{item}
use Rattle.emtp_case.specs.Sums.{total}
use Rattle.emtp_blocks.specs.System.{signed, coupling_by}
use Rattle.emtp_case.proofs.Sums.{total_small}

pub is_number : (a b : ℕ) → a ≡ b → (a == b) ≡ true
is_number a b e = grind (arith, nat_tests)

pub isnt_number : (a b : ℕ) → a ≢ b → (a == b) ≡ false
isnt_number a b e = grind (arith, nat_tests)

-- an amount is added in the column of one block
pub column_more : (k : ℤ) (i : Input) (out : List ℤ) (m j : ℕ) (a : ℤ) → m < length out → a ≡ signed i (neg_ℤ k) → item (slice_set out m (item out m +ℤ a)) j ≡ item out j +ℤ coupling_by k j i (Some m)
column_more k i out m j a inside is = elim (cases_eq j m) [
  | inl same ↦
      let here : (m == j) ≡ true = is_number m j (sym same) in
      rw (here, same, get_or-set_same) (ap (λ x. item out m +ℤ x) is)
  | inr ne ↦
      let off : (m == j) ≡ false = isnt_number m j (λ e. ne (sym e)) in
      rw (off, get_or-set_other) (nothing (item out j))
]
  where
    nothing : (x : ℤ) → x ≡ x +ℤ pos 0
    nothing x = omega (arith, ints)

signed_small : (b : Bool) (z : ℤ) (limit : ℕ) → unsigned_abs z ≤ limit → unsigned_abs (if b then neg_ℤ z else z) ≤ limit
signed_small true z limit small = omega (arith, ints, small)
signed_small false z limit small = small

choose_small : (b : Bool) (z : ℤ) (limit : ℕ) → unsigned_abs z ≤ limit → unsigned_abs (if b then z else pos 0) ≤ limit
choose_small true z limit small = small
choose_small false z limit small = omega (arith, ints)

pub coupling_small : (k : ℤ) (j : ℕ) (i : Input) (p : Option ℕ) → unsigned_abs k ≤ LARGEST_COEFFICIENT → unsigned_abs (coupling_by k j i p) ≤ LARGEST_COEFFICIENT
coupling_small k j i None small = omega (arith, ints)
coupling_small k j i (Some m) small = choose_small (m == j) _ (10 ^ 18) (signed_small i.minus (neg_ℤ k) (10 ^ 18) (omega (arith, ints, small)))

pub couplings_small : (k : ℤ) (j : ℕ) (place : ℕ → Option ℕ) (inputs : List Input) → unsigned_abs k ≤ LARGEST_COEFFICIENT → length inputs ≤ 5 → unsigned_abs (total (λ n. coupling_by k j n (place n.var)) inputs) ≤ 5 * 10 ^ 18
couplings_small k j place inputs small few = omega (arith, few, total_small (λ (n : Input). coupling_by k j n (place n.var)) (10 ^ 18) (λ n. coupling_small k j n (place n.var) small) inputs)

-- a row while it is filled
pub part_small : (k : ℤ) (place : ℕ → Option ℕ) (inputs : List Input) (at : ℕ) (start out : List ℤ) → unsigned_abs k ≤ LARGEST_COEFFICIENT → length inputs ≤ 5 → at ≤ length inputs → ((j : ℕ) → unsigned_abs (item start j) ≤ 10 ^ 12)
    → ((j : ℕ) → j < length out → item out j ≡ item start j +ℤ total (λ n. coupling_by k j n (place n.var)) (take at inputs)) → (j : ℕ) → unsigned_abs (item out j) ≤ 10 ^ 26
part_small k place inputs at start out small few within first is j = elim (cases_lt j (length out)) [
  | inl below ↦ let sum = couplings_small k j place (take at inputs) small (omega (arith, few, length-take-le at inputs within, within)) in omega (arith, ints, is j below, first j, sum)
  | inr past ↦ rw (get_or_past out j (pos 0) past) (omega (arith, ints))
]
