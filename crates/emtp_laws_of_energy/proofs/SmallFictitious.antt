-- How large the fictitious resistance of a series branch is.
use Rattle.std.proofs.Common.{◌≡◌, ◌≢◌, ◌+◌, ◌*◌, ◌^◌, ◌≤◌, ℕ, ℤ, pos, ◌-ℤ◌, ◌*ℤ◌, ◌≤ℤ◌, unsigned_abs, slice_get, Some, ap, subst, arith}
use Rattle.std.proofs.lemmas.Int.{ints, unsigned_abs-mul}
use Rattle.std.proofs.lemmas.Nat.{mul-le}
use Rattle.std.proofs.lemmas.Option.{slice_get_within, get_or_from_slice_get}
use Rattle.emtp_case.specs.held.Branch.{IsBranch, IsLumped}
use Rattle.emtp_case.specs.held.Case.{IsCase}
use Rattle.emtp_case.specs.held.Sizes.{sizes_of}
use Rattle.emtp_case.specs.declared.branch.Branch.TheVariants.{Lumped as OfLumped}
use Rattle.emtp_case.specs.declared.branch.Lumped.{Lumped}
use Rattle.emtp_case.specs.declared.case.Parts.{Parts}
use Rattle.emtp_fix.proofs.Nearest.{near-rest}
use Rattle.emtp_fix.specs.declared.limit.TheConstants.{ATTO}
use Rattle.emtp_laws_of_energy.specs.Series.{IsSmallFictitious, conducted_fictitious, conductance_of, impedance_of}

-- n is g z, and p what it lacks of 10^18
square : (p g z n : ℕ) → 2 * p ≤ z → z ≤ 10 ^ 15 → n ≡ g * z → 10 ^ 18 ≤ n + p → 1999 * 10 ^ 15 * p ≤ g * (z * z)
square p g z n small most is near =
    let large : 9995 * 10 ^ 14 ≤ n = omega (arith, small, most, near) in
    let product : 9995 * 10 ^ 14 * (2 * p) ≤ n * z = mul-le (9995 * 10 ^ 14) (2 * p) n z large small in
    let same : n * z ≡ g * z * z = ap (λ (y : ℕ). y * z) is in
    omega (arith, product, same)

pub small : (dt : ℤ) (x : Lumped) → impedance_of dt x ≢ pos 0 → unsigned_abs (impedance_of dt x) ≤ 10 ^ 15 → IsSmallFictitious dt x
small dt x some most =
    let z = impedance_of dt x in
    let g = conductance_of dt x in
    let p = conducted_fictitious dt x in
    let half : 2 * unsigned_abs p ≤ unsigned_abs z = near-rest ATTO z some in
    record {
      of_impedance = half;
      of_square = square (unsigned_abs p) (unsigned_abs g) (unsigned_abs z) (unsigned_abs (g *ℤ z)) half most (unsigned_abs-mul g z) (lacks (g *ℤ z));
    }
  where
    lacks : (n : ℤ) → 10 ^ 18 ≤ unsigned_abs n + unsigned_abs (pos (10 ^ 18) -ℤ n)
    lacks n = omega (arith, ints)

pub series_fits : (case : Parts) (b : ℕ) (x : Lumped) → IsCase case → slice_get case.branches b ≡ Some (OfLumped x) → IsLumped case.run (sizes_of case) x
series_fits case b x h at =
    subst (IsBranch case.run (sizes_of case) case.points) (get_or_from_slice_get case.branches b (OfLumped x) (OfLumped x) at) (h.draft.network.branches b (OfLumped x) (slice_get_within case.branches b (OfLumped x) at))

pub case_small : (case : Parts) → IsCase case → (b : ℕ) (x : Lumped) → slice_get case.branches b ≡ Some (OfLumped x) → IsSmallFictitious case.run.dt x
case_small case fits b x at =
    let z = (series_fits case b x fits at).numbers.impedance in
    small case.run.dt x (above (impedance_of case.run.dt x) z.least) (below (impedance_of case.run.dt x) z.least z.most)
  where
    above : (z : ℤ) → pos 10 ≤ℤ z → z ≢ pos 0
    above z l e = omega (arith, ints, l, e)

    below : (z : ℤ) → pos 10 ≤ℤ z → z ≤ℤ pos (10 ^ 15) → unsigned_abs z ≤ 10 ^ 15
    below z l h = omega (arith, ints, l, h)
