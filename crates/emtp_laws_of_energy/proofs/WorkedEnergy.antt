-- A step of an inductance without a voltage, by the definitions.
use Rattle.std.proofs.Common.{◌≡◌, ℤ, pos, refl}
use Rattle.std.specs.Prelude.{Some}
use Rattle.emtp_case.specs.Branch.{capacitor_impedance}
use Rattle.emtp_case.specs.declared.branch.Lumped.{Lumped}
use Rattle.emtp_case.specs.declared.branch.LumpedState.{LumpedState}
use Rattle.emtp_fix.specs.Rounding.{near, near_abs}
use Rattle.emtp_lumped.specs.Companion.{companion_of}
use Rattle.emtp_lumped.specs.Step.{next_state}

-- an inductance alone, in nH
abbrev inductance : ℤ → Lumped
inductance l = record { line = 1; «from» = 1; to = 0; r = pos 0; l = l; c = pos 0 }

-- .179 A in 5.6 H, which 1,000 V left there, grow by 1,146 nA in 1 us: by 2 g r i, r being -35.84 ohm

before : LumpedState
before = record { current = pos 179146939; v_l = pos 6417600000; v_c = pos 0; history_voltage = pos 2006452134400000 }

after : LumpedState
after = record { current = pos 179148085; v_l = pos 6417600000; v_c = pos 0; history_voltage = pos 2006464969600000 }

grown : next_state (companion_of (pos 1000000) (inductance (pos 5600000000))) before (pos 0) ≡ Some after
unfolding next_state near near_abs capacitor_impedance before after
grown = refl
