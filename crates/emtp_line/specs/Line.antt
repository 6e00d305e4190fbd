-- One step of a single line. `past` is what the records keep of it, newest first.
use Rattle.std.specs.Prelude.{ℤ, List, map, Option, Some}
use Rattle.emtp_case.specs.declared.branch.LineState.{LineState}
use Rattle.emtp_fix.specs.Limit.{◌>>=◌}
use Rattle.emtp_line.specs.Wave.{history_of, end_of}
use Rattle.emtp_line.specs.declared.mode.Mode.{Mode}

-- the waves that left the ends
abbrev pub from_waves : List LineState → List ℤ
from_waves past = map (λ (s : LineState). s.from_wave) past

abbrev pub to_waves : List LineState → List ℤ
to_waves past = map (λ (s : LineState). s.to_wave) past

-- the history currents of the next step at `from` and at `to`
abbrev pub line_histories : Mode → List LineState → ℤ × ℤ
line_histories m past = (history_of m (to_waves past) (from_waves past), history_of m (from_waves past) (to_waves past))

-- what a record keeps at these history currents and voltages of both ends; none where a number is out of range
unfoldable pub line_state : Mode → ℤ × ℤ → ℤ → ℤ → Option LineState
line_state m histories v w = do
  from ← end_of m histories.0 v
  to ← end_of m histories.1 w
  Some (record { from_current = from.0; to_current = to.0; from_wave = from.1; to_wave = to.1 })

-- what the next record keeps at the voltages v of `from` and w of `to`
abbrev pub next_state : Mode → List LineState → ℤ → ℤ → Option LineState
next_state m past v w = line_state m (line_histories m past) v w
