-- One step of the waves of one mode, in whole numbers (Dommel 1969; the losses at the ends and in the middle: EMTP
-- Theory Book). Lists of waves go newest first: the wave of the last record stands at place 0.
use Rattle.std.specs.Prelude.{◌-◌, ◌+ℤ◌, ◌-ℤ◌, ◌*ℤ◌, neg_ℤ, ℤ, List, Option, Some}
use Rattle.emtp_fix.specs.Limit.{in_range, ◌>>=◌}
use Rattle.emtp_fix.specs.Rounding.{near}
use Rattle.emtp_fix.specs.declared.limit.TheConstants.{PICO}
use Rattle.emtp_hist.specs.History.{value_before}
use Rattle.emtp_line.specs.declared.mode.Mode.{Mode}

-- between the waves of two records, as far from the newer one as the rest of the travel time makes
abbrev pub between : Mode → ℤ → ℤ → ℤ
between m newer older = newer +ℤ near (m.rest *ℤ (older -ℤ newer)) m.dt

-- p, the wave that left an end one travel time before the next step
abbrev pub past_wave : Mode → List ℤ → ℤ
past_wave m waves = between m (value_before waves (m.steps - 1)) (value_before waves m.steps)

-- I = -a*p(other end) - b*p(own end), the history current of an end in the next step
abbrev pub history_of : Mode → List ℤ → List ℤ → ℤ
history_of m other own = neg_ℤ (near (m.far_share *ℤ past_wave m other) PICO) -ℤ near (m.near_share *ℤ past_wave m own) PICO

-- i = g*v + I, the current into the line at an end
abbrev pub current_of : Mode → ℤ → ℤ → ℤ
current_of m history v = near (m.conductance *ℤ v) PICO +ℤ history

-- w = g*v + h*i, the wave that leaves an end
abbrev pub wave_of : Mode → ℤ → ℤ → ℤ
wave_of m v i = near (m.conductance *ℤ v) PICO +ℤ near (m.attenuation *ℤ i) PICO

-- current and wave of an end; none where one of them is out of range
unfoldable pub end_of : Mode → ℤ → ℤ → Option (ℤ × ℤ)
end_of m history v = do
  i ← in_range (current_of m history v)
  w ← in_range (wave_of m v i)
  Some (i, w)
