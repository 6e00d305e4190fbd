-- What is held of the waves of one mode between two steps.
use Rattle.std.specs.Prelude.{◌≡◌, ◌+◌, ◌≤◌, ◌^◌, ◌∷◌, [], unsigned_abs, pos, take, List, ℤ}
use Rattle.emtp_hist.specs.held.History.{Past, Remembers}
use Rattle.emtp_line.specs.held.Mode.{IsMode}
use Rattle.emtp_line.specs.Wave.{history_of}
use Rattle.emtp_line.specs.declared.mode.Mode.{Mode}
use Rattle.emtp_line.specs.declared.waves.Waves.{Waves}

-- both rings reach back one travel time, and the history currents are far below the limits of 128 bits
pub record IsWaves (x : Waves) : Type 0 where
  pub mode : IsMode x.mode
  pub from_depth : x.from.depth ≡ x.mode.steps + 1
  pub to_depth : x.to.depth ≡ x.mode.steps + 1
  pub from_small : unsigned_abs x.from_history ≤ 10 ^ 20
  pub to_small : unsigned_abs x.to_history ≤ 10 ^ 20

-- the rings remember these waves of the ends, newest first, and the history currents are those that they make
pub record WavesStand (x : Waves) (from to : List ℤ) : Type 0 where
  pub from_waves : Remembers x.from from
  pub to_waves : Remembers x.to to
  pub from_history : x.from_history ≡ history_of x.mode to from
  pub to_history : x.to_history ≡ history_of x.mode from to

-- the ring of an end in record 0, whose wave is 0
abbrev pub ring_at_rest : Mode → Past
ring_at_rest m = record { depth = m.steps + 1; values = take (m.steps + 1) (pos 0 ∷ []) }

abbrev pub waves_at_rest : Mode → Waves
waves_at_rest m = record { mode = m; from = ring_at_rest m; to = ring_at_rest m; from_history = pos 0; to_history = pos 0 }
