-- The numbers that a line, or a mode of a three-phase line, has in all steps.
use Rattle.std.specs.Prelude.{◌%◌, ◌-ℤ◌, ◌*ℤ◌, unsigned_abs, pos, ℤ}
use Rattle.emtp_case.specs.Branch.{line_impedance}
use Rattle.emtp_case.specs.HistoryValues.{travel_steps}
use Rattle.emtp_case.specs.declared.branch.Line.{Line}
use Rattle.emtp_fix.specs.Rounding.{near}
use Rattle.emtp_fix.specs.declared.limit.TheConstants.{ATTO, PICO}
use Rattle.emtp_line.specs.declared.mode.Mode.{Mode}

-- a = (1 + h)/2, the part of the other end's wave that arrives
abbrev pub far_share_of : ℤ → ℤ → ℤ
far_share_of zc r = near (zc *ℤ PICO) (line_impedance zc r)

-- g = 1/(Zc + R/4), h = (Zc - R/4)/(Zc + R/4), a and b = 1 - a, and the travel time in whole steps and a rest
abbrev pub mode_of : ℤ → ℤ → ℤ → ℤ → Mode
mode_of dt zc r delay = record {
  conductance = near ATTO (line_impedance zc r);
  attenuation = near ((zc -ℤ near r (pos 4)) *ℤ PICO) (line_impedance zc r);
  far_share = far_share_of zc r;
  near_share = PICO -ℤ far_share_of zc r;
  steps = travel_steps dt delay;
  rest = pos (unsigned_abs delay % unsigned_abs dt);
  dt = dt;
}

-- the numbers of a single line
abbrev pub mode_of_line : ℤ → Line → Mode
mode_of_line dt x = mode_of dt x.zc x.r x.delay
