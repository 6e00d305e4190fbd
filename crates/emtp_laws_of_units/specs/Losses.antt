-- A line with losses, in the units of its card: impedances in micro-ohm, conductances in pS, voltages in nV, currents and waves
-- in nA. Nothing is divided.
use Rattle.std.specs.Prelude.{◌≡◌, ◌≤◌, ◌+◌, ◌*◌, ◌^◌, ◌+ℤ◌, ◌-ℤ◌, ◌*ℤ◌, ℕ, ℤ, pos, unsigned_abs, Some, slice_get}
use Rattle.emtp_case.specs.StepRecord.{StepRecord, line_at, voltage_at}
use Rattle.emtp_case.specs.declared.branch.Branch.TheVariants.{Line as OfLine}
use Rattle.emtp_case.specs.declared.branch.Line.{Line}
use Rattle.emtp_case.specs.declared.case.Parts.{Parts}
use Rattle.emtp_fix.specs.Rounding.{near}
use Rattle.emtp_fix.specs.declared.limit.TheConstants.{ATTO, PICO}

-- R/4, which stands at each end, and Zc + R/4, the impedance of an end
abbrev pub quarter : Line → ℤ
quarter x = near x.r (pos 4)

abbrev pub end_impedance : Line → ℤ
end_impedance x = x.zc +ℤ quarter x

-- v/(Zc + R/4), the part of an end's current that its voltage makes
abbrev pub by_voltage : Line → ℤ → ℤ
by_voltage x v = near (near ATTO (end_impedance x) *ℤ v) PICO

-- by how much Zc + R/4 times what the wave w of an end has beside its voltage exceeds (Zc - R/4) i, in micro-ohm nA
abbrev pub excess_sent : Line → ℤ → ℤ → ℤ → ℤ
excess_sent x v i w = end_impedance x *ℤ (w -ℤ by_voltage x v) -ℤ (x.zc -ℤ quarter x) *ℤ i

-- It is at most Zc + R/4 times half a nA and 5e-13 of the current: what the share of the current and its product round.
abbrev pub SendsWave : Line → ℤ → ℤ → ℤ → Type 0
SendsWave x v i w = 2 * 10 ^ 12 * unsigned_abs (excess_sent x v i w) ≤ unsigned_abs (end_impedance x) * (10 ^ 12 + unsigned_abs i)

-- by how much Zc + R/4 times what comes to an end exceeds Zc times the wave that left the other one and R/4 times its own
abbrev pub excess_received : Line → ℤ → ℤ → ℤ → ℤ → ℤ
excess_received x v i far own = end_impedance x *ℤ (by_voltage x v -ℤ i) -ℤ (x.zc *ℤ far +ℤ quarter x *ℤ own)

-- It is at most Zc + R/4 times 1 nA and 5e-13 of the difference of both waves: what the shares and both products round.
abbrev pub ReceivesWaves : Line → ℤ → ℤ → ℤ → ℤ → Type 0
ReceivesWaves x v i far own =
    2 * 10 ^ 12 * unsigned_abs (excess_received x v i far own) ≤ unsigned_abs (end_impedance x) * (2 * 10 ^ 12 + unsigned_abs (far -ℤ own))

-- the branch at place b is this line, and its travel time is k time steps
pub record TravelsFor (case : Parts) (b : ℕ) (x : Line) (k : ℕ) : Type 0 where
  pub there : slice_get case.branches b ≡ Some (OfLine x)
  pub travels : x.delay ≡ pos k *ℤ case.run.dt

-- in the one record the waves left the ends; in the other one each end sends its own wave and receives those
pub record MixesWaves (b : ℕ) (x : Line) (leaves comes : StepRecord) : Type 0 where
  pub sent_from : SendsWave x (voltage_at x.from comes) (line_at b comes).from_current (line_at b comes).from_wave
  pub sent_to : SendsWave x (voltage_at x.to comes) (line_at b comes).to_current (line_at b comes).to_wave
  pub received_from : ReceivesWaves x (voltage_at x.from comes) (line_at b comes).from_current (line_at b leaves).to_wave (line_at b leaves).from_wave
  pub received_to : ReceivesWaves x (voltage_at x.to comes) (line_at b comes).to_current (line_at b leaves).from_wave (line_at b leaves).to_wave
