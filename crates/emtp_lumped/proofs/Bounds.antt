-- Bounds on what a companion is made of.
use Rattle.emtp_case.specs.held.RunData.{IsTimeStep}
use Rattle.emtp_fix.specs.declared.limit.TheConstants.{LARGEST_CAPACITANCE, LARGEST_INDUCTANCE}
use Rattle.std.proofs.Common.{◌≡◌, ◌*◌, ◌^◌, ℤ, pos, ◌+ℤ◌, ◌*ℤ◌, ◌≤ℤ◌, refl, arith}
use Rattle.std.proofs.lemmas.Int.{ints}
use Rattle.std.specs.Ordering.{int_eq}
use Rattle.std.specs.Prelude.{if◌then◌else◌, Bool, true, false}
use Rattle.emtp_case.specs.Branch.{inductor_impedance, capacitor_impedance, series_impedance}
use Rattle.emtp_case.specs.held.Branch.{HasSeriesNumbers}
use Rattle.emtp_case.specs.held.Range.{IsBetween}
use Rattle.emtp_case.specs.declared.branch.Lumped.{Lumped}
use Rattle.emtp_fix.specs.Rounding.{near}
use Rattle.emtp_case.proofs.Impedances.{conductance_range}
use Rattle.emtp_fix.proofs.Quotients.{near-nonneg}
use Rattle.emtp_lumped.specs.Companion.{companion_of}
use Rattle.emtp_lumped.specs.held.Companion.{IsCompanion}

inductor-nonneg : (dt l : ℤ) → IsTimeStep dt → IsBetween 0 LARGEST_INDUCTANCE l → pos 0 ≤ℤ inductor_impedance dt l
inductor-nonneg dt l h h' = near-nonneg (pos (2 * 10 ^ 9) *ℤ l) dt (omega (arith, ints, h'.least)) (omega (arith, ints, h.least))

capacitor-nonneg : (dt c : ℤ) → IsTimeStep dt → IsBetween 0 LARGEST_CAPACITANCE c → pos 0 ≤ℤ capacitor_impedance dt c
unfolding capacitor_impedance
capacitor-nonneg dt c h h' = either (int_eq c (pos 0))
  where
    either : (none : Bool) → pos 0 ≤ℤ (if none then pos 0 else near (dt *ℤ pos (10 ^ 9)) (pos 2 *ℤ c))
    either true = omega (arith, ints)
    either false = near-nonneg (dt *ℤ pos (10 ^ 9)) (pos 2 *ℤ c) (omega (arith, ints, h.least)) (omega (arith, ints, h'.least))

-- the numbers of a companion are in range: the parts of an impedance are no larger than the whole
pub companion-fits : (dt : ℤ) (b : Lumped) → IsTimeStep dt → HasSeriesNumbers dt b.r b.l b.c → IsCompanion (companion_of dt b)
companion-fits dt b step h =
    let whole : series_impedance dt b.r b.l b.c ≡ b.r +ℤ inductor_impedance dt b.l +ℤ capacitor_impedance dt b.c = refl in
    let inductor = inductor-nonneg dt b.l step h.inductance in
    let capacitor = capacitor-nonneg dt b.c step h.capacitance in
    record {
      conductance = conductance_range (series_impedance dt b.r b.l b.c) (record { least = h.impedance.least; most = h.impedance.most });
      inductor = record { least = inductor; most = omega (arith, ints, whole, h.impedance.most, h.resistance.least, inductor, capacitor) };
      capacitor = record { least = capacitor; most = omega (arith, ints, whole, h.impedance.most, h.resistance.least, inductor, capacitor) };
    }
