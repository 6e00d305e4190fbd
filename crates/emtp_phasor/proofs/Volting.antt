-- Voltages by node.
use Rattle.std.proofs.Common.{◌≡◌, ◌≢◌, ◌∙◌, sym, ℕ, zero, suc, ◌+◌, ◌*◌, ◌<◌, ℤ, All, get_or, List, ◌∷◌, drop, length, map, slice_set, get_or-set_same, get_or-set_other, refl, inl, inr, arith}
use Rattle.std.specs.List.{range_with_len}
use Rattle.std.proofs.lemmas.Bool.{cases_eq}
use Rattle.std.proofs.lemmas.List.{ext_get_or, length-map}
use Rattle.std.proofs.lemmas.List.FromFn.{length-map-range_with_len, get_or-map-range_with_len}
use Rattle.std.proofs.lemmas.Int.{ints}
use Rattle.std.proofs.lemmas.List.Elements.{All-cons, All-map}
use Rattle.emtp_elim.specs.held.Matrix.{AreWithin}
use Rattle.emtp_fix.specs.declared.limit.TheConstants.{LARGEST_VALUE}
use Rattle.emtp_case.specs.declared.case.Parts.{Parts}
use Rattle.emtp_case.specs.RowOrder.{order_of}
use Rattle.emtp_case.proofs.NodeOrder.{length-order_of}
use Rattle.emtp_case.proofs.RowsOfNodes.{IsRowOf}
use Rattle.emtp_case.specs.NodeRows.{row_at}
use Rattle.emtp_case.proofs.RowsOfNodes.{row_at_is}
use Rattle.emtp_phasor.specs.Steady.{resting_kinds}
use Rattle.emtp_phasor.specs.Volts.{nothing, volt_at, volt_in, phasors_of}
use Rattle.emtp_phasor.specs.held.Volts.{IsVolt}
use Rattle.emtp_phasor.specs.declared.phasor.Phasor.{Phasor}

-- ---- voltages

pub row_is_at : (case : Parts) (n row : ℕ) → IsRowOf case n row → row_at case n ≡ row
row_is_at case n row is = row_at_is case n row is.within is.there

pub voltages_more : (case : Parts) (x : List ℤ) (out : List Phasor) (at : ℕ) (v : Phasor) → at + 1 < length out → v ≡ volt_in x (row_at case (at + 1)) → ((k : ℕ) → k < at → volt_at out (k + 1) ≡ volt_in x (row_at case (k + 1)))
    → (k : ℕ) → k < at + 1 → volt_at (slice_set out (at + 1) v) (k + 1) ≡ volt_in x (row_at case (k + 1))
voltages_more case x out at v inside is before k below = elim (cases_eq k at) [
  | inl same ↦ rw (same, get_or-set_same) is
  | inr ne ↦ let off : k + 1 ≢ at + 1 = λ e. ne (omega (arith, e)) in rw get_or-set_other (before k (omega (arith, below, ne)))
]

pub voltages_all : (case : Parts) (x : List ℤ) (out : List Phasor) → length out ≡ length case.nodes + 1 → volt_at out 0 ≡ nothing → ((k : ℕ) → k < length case.nodes → volt_at out (k + 1) ≡ volt_in x (row_at case (k + 1))) → out ≡ phasors_of case x
unfolding phasors_of
voltages_all case x out long ground each =
    let f : ℕ → Phasor = λ n. volt_in x (row_at case n) in
    let size = length-map-range_with_len f 1 (length case.nodes) in
    ext_get_or nothing out (nothing ∷ map f (range_with_len 1 (length case.nodes))) (omega (arith, long, size)) (λ k below. at_place case f out k below long ground each)
  where
    at_place : (case : Parts) (f : ℕ → Phasor) (out : List Phasor) (k : ℕ) → k < length out → length out ≡ length case.nodes + 1 → volt_at out 0 ≡ nothing → ((k : ℕ) → k < length case.nodes → volt_at out (k + 1) ≡ f (k + 1)) → volt_at out k ≡ volt_at (nothing ∷ map f (range_with_len 1 (length case.nodes))) k
    at_place case f out zero below long ground each = ground
    at_place case f out (suc k) below long ground each =
        let inside : k < length case.nodes = omega (arith, below, long) in
        let e : k + 1 ≡ suc k = omega arith in
        let here = each k inside in
        rw e at here ∙ sym (get_or-map-range_with_len f 1 (length case.nodes) k (suc k) nothing inside (omega arith))

-- the voltages are as small as the unknowns
pub voltages_small : (case : Parts) (x : List ℤ) → AreWithin LARGEST_VALUE x → All IsVolt (phasors_of case x)
unfolding phasors_of
voltages_small case x small =
    let ground : IsVolt nothing = record { re = omega (arith, ints); im = omega (arith, ints) } in
    All-cons IsVolt nothing (map (λ n. volt_in x (row_at case n)) (range_with_len 1 (length case.nodes))) ground
    (All-map IsVolt (λ n. volt_in x (row_at case n)) (range_with_len 1 (length case.nodes)) (λ k d inside. record { re = small (2 * row_at case (get_or (range_with_len 1 (length case.nodes)) k d)); im = small (2 * row_at case (get_or (range_with_len 1 (length case.nodes)) k d) + 1) }))

pub length-voltages_of : (case : Parts) (x : List ℤ) → length (phasors_of case x) ≡ length case.nodes + 1
unfolding phasors_of
length-voltages_of case x = omega (arith, length-map-range_with_len (λ n. volt_in x (row_at case n)) 1 (length case.nodes))

-- that of ground comes first
pub voltages_behind_ground : (case : Parts) (x : List ℤ) → phasors_of case x ≡ nothing ∷ drop 1 (phasors_of case x)
unfolding phasors_of
voltages_behind_ground case x = refl

-- ---- kinds

pub kinds_size : (case : Parts) → length (resting_kinds case) ≡ length case.nodes
kinds_size case = length-map (order_of case).nodes _ ∙ length-order_of case
