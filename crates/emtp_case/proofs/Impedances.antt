-- The numbers that a step makes of a card's.
use Rattle.std.proofs.Common.{◌≡◌, ◌≢◌, ◌*◌, ◌^◌, ◌≤◌, ◌≤ℤ◌, ℤ, Bool, pos, negsuc, ◌*ℤ◌, unsigned_abs, true, false, refl, arith}
use Rattle.std.proofs.lemmas.Bool.Decides.{Decides-int_eq}
use Rattle.std.proofs.lemmas.Int.{ints}
use Rattle.std.proofs.lemmas.Nat.{mul-le}
use Rattle.std.specs.Ordering.{int_eq}
use Rattle.std.specs.Prelude.{if◌then◌else◌}
use Rattle.emtp_case.specs.Branch.{capacitor_impedance}
use Rattle.emtp_case.specs.held.Range.{IsBetween}
use Rattle.emtp_fix.specs.Rounding.{near}
use Rattle.emtp_fix.specs.declared.limit.TheConstants.{ATTO, LARGEST_ENTRY, LARGEST_IMPEDANCE, LEAST_IMPEDANCE}
use Rattle.emtp_fix.proofs.Quotients.{conductance-small, near-nonneg}

-- an absent capacitance has no impedance
pub capacitor-none : (dt : ℤ) → capacitor_impedance dt (pos 0) ≡ pos 0
unfolding capacitor_impedance
capacitor-none dt = refl

pub capacitor-some : (dt c : ℤ) → c ≢ pos 0 → capacitor_impedance dt c ≡ near (dt *ℤ pos (10 ^ 9)) (pos 2 *ℤ c)
unfolding capacitor_impedance
capacitor-some dt c some = either (int_eq c (pos 0)) (Decides-int_eq c (pos 0)).0
  where
    either : (none : Bool) → (none ≡ true → c ≡ pos 0) → (if none then pos 0 else near (dt *ℤ pos (10 ^ 9)) (pos 2 *ℤ c)) ≡ near (dt *ℤ pos (10 ^ 9)) (pos 2 *ℤ c)
    either true is = absurd (some (is refl))
    either false is = refl

-- the product of two numbers above 0
pub product_range : (a b : ℤ) → IsBetween 1 (10 ^ 13) a → IsBetween 1 (10 ^ 18) b → IsBetween 1 (10 ^ 31) (a *ℤ b)
product_range (pos a) (pos b) h k =
    let most : a * b ≤ 10 ^ 13 * 10 ^ 18 = mul-le a b (10 ^ 13) (10 ^ 18) (omega (arith, ints, h.most)) (omega (arith, ints, k.most)) in
    let least : 1 * 1 ≤ a * b = mul-le 1 1 a b (omega (arith, ints, h.least)) (omega (arith, ints, k.least)) in
    record { least = omega (arith, ints, least); most = omega (arith, ints, most) }
product_range (negsuc a) b h k = absurd (omega (arith, ints, h.least))
product_range (pos a) (negsuc b) h k = absurd (omega (arith, ints, k.least))

-- the conductance in pS of an impedance in its range
pub conductance_range : (z : ℤ) → IsBetween LEAST_IMPEDANCE LARGEST_IMPEDANCE z → IsBetween 0 LARGEST_ENTRY (near ATTO z)
conductance_range z h =
    let small : unsigned_abs (near ATTO z) ≤ LARGEST_ENTRY = conductance-small z (omega (arith, ints, h.least)) in
    let least : pos 0 ≤ℤ near ATTO z = near-nonneg ATTO z (omega (arith, ints)) (omega (arith, ints, h.least)) in
    record { least = least; most = omega (arith, ints, small, least) }
