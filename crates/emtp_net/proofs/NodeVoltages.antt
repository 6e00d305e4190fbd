-- Voltages by node.
use Rattle.std.proofs.Common.{◌≡◌, ◌≢◌, ◌∙◌, sym, ℕ, zero, suc, ◌+◌, ◌<◌, ◌≤◌, ℤ, pos, unsigned_abs, All, get_or, List, ◌∷◌, length, map, slice_set, get_or-set_same, get_or-set_other, inl, inr, arith}
use Rattle.std.specs.List.{range_with_len}
use Rattle.std.proofs.lemmas.Bool.{cases_eq}
use Rattle.std.proofs.lemmas.List.{ext_get_or}
use Rattle.std.proofs.lemmas.List.FromFn.{length-map-range_with_len, get_or-map-range_with_len}
use Rattle.std.proofs.lemmas.Int.{ints}
use Rattle.std.proofs.lemmas.List.Elements.{All-cons, All-map}
use Rattle.emtp_elim.specs.Matrix.{item}
use Rattle.emtp_elim.specs.held.Matrix.{AreWithin}
use Rattle.emtp_fix.specs.declared.limit.TheConstants.{LARGEST_VALUE}
use Rattle.emtp_case.specs.declared.case.Parts.{Parts}
use Rattle.emtp_case.proofs.RowsOfNodes.{IsRowOf, row_at_is}
use Rattle.emtp_net.specs.Part.{voltages_of}
use Rattle.emtp_rows.specs.held.Touched.{row_at}

pub row_is_at : (case : Parts) (n row : ℕ) → IsRowOf case n row → row_at case n ≡ row
row_is_at case n row is = row_at_is case n row is.within is.there

pub voltages_more : (case : Parts) (x out : List ℤ) (at : ℕ) (v : ℤ) → at + 1 < length out → v ≡ item x (row_at case (at + 1)) → ((k : ℕ) → k < at → item out (k + 1) ≡ item x (row_at case (k + 1)))
    → (k : ℕ) → k < at + 1 → item (slice_set out (at + 1) v) (k + 1) ≡ item x (row_at case (k + 1))
voltages_more case x out at v inside is before k below = elim (cases_eq k at) [
  | inl same ↦ rw (same, get_or-set_same) is
  | inr ne ↦ let off : k + 1 ≢ at + 1 = λ e. ne (omega (arith, e)) in rw get_or-set_other (before k (omega (arith, below, ne)))
]

pub voltages_all : (case : Parts) (x out : List ℤ) → length out ≡ length case.nodes + 1 → item out 0 ≡ pos 0 → ((k : ℕ) → k < length case.nodes → item out (k + 1) ≡ item x (row_at case (k + 1))) → out ≡ voltages_of case x
unfolding voltages_of
voltages_all case x out long ground each =
    let f : ℕ → ℤ = λ n. item x (row_at case n) in
    let size = length-map-range_with_len f 1 (length case.nodes) in
    ext_get_or (pos 0) out (pos 0 ∷ map f (range_with_len 1 (length case.nodes))) (omega (arith, long, size)) (λ k below. at_place case f out k below long ground each)
  where
    at_place : (case : Parts) (f : ℕ → ℤ) (out : List ℤ) (k : ℕ) → k < length out → length out ≡ length case.nodes + 1 → item out 0 ≡ pos 0 → ((k : ℕ) → k < length case.nodes → item out (k + 1) ≡ f (k + 1)) → item out k ≡ item (pos 0 ∷ map f (range_with_len 1 (length case.nodes))) k
    at_place case f out zero below long ground each = ground
    at_place case f out (suc k) below long ground each =
        let inside : k < length case.nodes = omega (arith, below, long) in
        let e : k + 1 ≡ suc k = omega arith in
        let here = each k inside in
        rw e at here ∙ sym (get_or-map-range_with_len f 1 (length case.nodes) k (suc k) (pos 0) inside (omega arith))

-- the voltages are as small as the unknowns
pub voltages_small : (case : Parts) (x : List ℤ) → AreWithin LARGEST_VALUE x → All (λ v. unsigned_abs v ≤ LARGEST_VALUE) (voltages_of case x)
unfolding voltages_of
voltages_small case x small =
    let ground : unsigned_abs (pos 0) ≤ LARGEST_VALUE = omega (arith, ints) in
    All-cons (λ v. unsigned_abs v ≤ LARGEST_VALUE) (pos 0) (map (λ n. item x (row_at case n)) (range_with_len 1 (length case.nodes))) ground
    (All-map (λ v. unsigned_abs v ≤ LARGEST_VALUE) (λ n. item x (row_at case n)) (range_with_len 1 (length case.nodes)) (λ k d inside. small (row_at case (get_or (range_with_len 1 (length case.nodes)) k d))))
