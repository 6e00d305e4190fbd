-- An end of a three-phase line in the units of a case: impedances in micro-ohm, conductances in pS, voltages in nV, currents in
-- nA. A list of three numbers has one a phase.
use Rattle.std.specs.Prelude.{◌≤◌, ◌<◌, ◌+◌, ◌*◌, ◌^◌, ◌+ℤ◌, ◌-ℤ◌, ◌*ℤ◌, ℕ, ℤ, unsigned_abs, List}
use Rattle.emtp_fix.specs.declared.limit.TheConstants.{PICO}
use Rattle.emtp_line.specs.Phases.{of_phase}

-- the sum of three phases, and by how much one of them exceeds another
abbrev pub together : List ℤ → ℤ
together xs = of_phase xs 0 +ℤ of_phase xs 1 +ℤ of_phase xs 2

abbrev pub apart : List ℤ → ℕ → ℕ → ℤ
apart xs p q = of_phase xs p -ℤ of_phase xs q

-- by how much 1e12 times what currents i have beside history currents j exceeds the conductance g times a voltage v, in pS nV
abbrev pub excess_current : ℤ → ℤ → ℤ → ℤ → ℤ
excess_current g v j i = PICO *ℤ (i -ℤ j) -ℤ g *ℤ v

-- All phases together have the conductance g0, within 1 pS times the sum of their voltages and 1.5 nA; any two of them have
-- between them g1, within 1 pS times the difference of their voltages and 1 nA.
pub record MeetsBoth (g0 g1 : ℤ) (v j i : List ℤ) : Type 0 where
  pub all : 2 * unsigned_abs (excess_current g0 (together v) (together j) (together i)) ≤ 2 * unsigned_abs (together v) + 3 * 10 ^ 12
  pub two : (p q : ℕ) → p < 3 → q < 3
      → unsigned_abs (excess_current g1 (apart v p q) (apart j p q) (apart i p q)) ≤ unsigned_abs (apart v p q) + 10 ^ 12
