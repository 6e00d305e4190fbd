-- A case of one series branch, and the impedance that its source sees.
use Rattle.std.specs.Prelude.{◌≡◌, ◌≤◌, ℕ, ◌+◌, ◌*◌, ◌^◌, ℤ, pos, ◌-ℤ◌, ◌*ℤ◌, unsigned_abs, [], ◌∷◌, ◌⊎◌}
use Rattle.emtp_case.specs.NodeRows.{kind_at, row_at}
use Rattle.emtp_case.specs.declared.branch.Branch.TheVariants.{Lumped as OfLumped}
use Rattle.emtp_case.specs.declared.branch.Lumped.{Lumped}
use Rattle.emtp_case.specs.declared.case.Parts.{Parts}
use Rattle.emtp_case.specs.declared.row_kind.RowKind.TheVariants.{Kcl}
use Rattle.emtp_admittance.specs.Impedance.{angular_frequency, capacitive_reactance, inductive_reactance}
use Rattle.emtp_phasor.specs.Steady.{resting_kinds}

-- the only branch stands between a node and ground, and Kirchhoff's current law of this node alone is a row: no closed switch
-- joins it with another node
pub record IsBranchToGround (case : Parts) (b : Lumped) (n : ℕ) : Type 0 where
  pub alone : case.branches ≡ OfLumped b ∷ []
  pub ends : ((b.from ≡ n) × (b.to ≡ 0)) ⊎ ((b.from ≡ 0) × (b.to ≡ n))
  pub own_row : kind_at (resting_kinds case) (row_at case n) ≡ Kcl

-- X at a frequency, in micro-ohm
abbrev pub reactance_at : ℤ → Lumped → ℤ
reactance_at freq b = inductive_reactance (angular_frequency freq) b.l -ℤ capacitive_reactance (angular_frequency freq) b.c

-- how far each part of the impedance re + j im that is seen may be from that of R + jX, in 10^-9 ohm, times 2 * 10^18 A, with A
-- the amplitude. Over that it is half a nano-ohm, and |R| + |X| times the tolerance and half a nA over A, and |R| + |X| times
-- half a pS times the magnitudes that are seen and 1 nano-ohm
abbrev pub sight_bound : ℤ → ℤ → ℤ → ℤ → ℤ → ℤ → ℕ
sight_bound r x tolerance amplitude re im =
    10 ^ 18 * unsigned_abs amplitude
    + (unsigned_abs r + unsigned_abs x)
    * (10 ^ 21 * (2 * unsigned_abs tolerance + 1) + (unsigned_abs re + unsigned_abs im + 1) * unsigned_abs amplitude)

-- re + j im, in 10^-9 ohm, is R + jX, in micro-ohm, within that bound
pub record IsSeen (r x tolerance amplitude re im : ℤ) : Type 0 where
  pub resistance : 2 * 10 ^ 18 * unsigned_abs (re -ℤ pos 1000 *ℤ r) * unsigned_abs amplitude
      ≤ sight_bound r x tolerance amplitude re im
  pub reactance : 2 * 10 ^ 18 * unsigned_abs (im -ℤ pos 1000 *ℤ x) * unsigned_abs amplitude
      ≤ sight_bound r x tolerance amplitude re im
