-- A resistance that alone leads from a node to ground, in the units of a case: uohm, nV, nA. In these 1 uohm nA is 10^-6 nV.
use Rattle.std.specs.Prelude.{◌≡◌, ◌≢◌, ◌≤◌, ◌+◌, ◌*◌, ◌^◌, ◌∷◌, [], ◌-ℤ◌, ◌*ℤ◌, ℕ, ℤ, pos, false, unsigned_abs, List, Some, slice_get}
use Rattle.emtp_case.specs.RowOrder.{has_source}
use Rattle.emtp_case.specs.StepRecord.{StepRecord, voltage_at}
use Rattle.emtp_case.specs.declared.branch.Branch.{Branch}
use Rattle.emtp_case.specs.declared.branch.Branch.TheVariants.{Lumped as OfLumped}
use Rattle.emtp_case.specs.declared.branch.Lumped.{Lumped}
use Rattle.emtp_case.specs.declared.case.Parts.{Parts}
use Rattle.emtp_net.specs.System.{sources_into}
use Rattle.emtp_switch.specs.Kinds.{is_branch_at}

-- the branch at place b is a resistance from node n to ground, no other branch ends at the node, no voltage source feeds it, and
-- the case has no switches
pub record LeadsAlone (case : Parts) (b n : ℕ) (x : Lumped) : Type 0 where
  pub there : slice_get case.branches b ≡ Some (OfLumped x)
  pub no_inductance : x.l ≡ pos 0
  pub no_capacitance : x.c ≡ pos 0
  pub at_node : x.from ≡ n
  pub to_ground : x.to ≡ 0
  pub off_ground : n ≢ 0
  pub alone : (k : ℕ) (y : Branch) → k ≢ b → slice_get case.branches k ≡ Some y → is_branch_at n y ≡ false
  pub free : has_source case n ≡ false
  pub no_switches : case.switches ≡ []

-- by how much V exceeds R I, in uohm nA
abbrev pub excess_over_ohms : ℤ → ℤ → ℤ → ℤ
excess_over_ohms r v i = pos (10 ^ 6) *ℤ v -ℤ r *ℤ i

-- It is at most R times the tolerance, 0.5 nA and 0.5 pS |V|: what the sum of the currents and the current itself leave, and what
-- the conductance rounds.
abbrev pub HasOhmsVoltage : ℕ → ℤ → ℤ → ℤ → Type 0
HasOhmsVoltage tolerance r v i =
    2 * 10 ^ 12 * unsigned_abs (excess_over_ohms r v i)
    ≤ unsigned_abs r * (10 ^ 12 + 2 * 10 ^ 12 * tolerance + unsigned_abs v)

-- so it is in the last record of a run, with the currents that the sources bring in its step; record 0 is rest
abbrev pub ObeysOhm : Parts → ℕ → Lumped → List StepRecord → Type 0
ObeysOhm case n x [] = Unit {0}
ObeysOhm case n x (r ∷ []) = Unit {0}
ObeysOhm case n x (r ∷ s ∷ past) =
    HasOhmsVoltage (unsigned_abs case.run.tolerance) x.r (voltage_at n r) (sources_into case (s ∷ past) n)
