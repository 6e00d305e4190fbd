-- Words for the laws of lines.
use Rattle.std.specs.Prelude.{◌≡◌, ◌+◌, ◌-◌, ◌+ℤ◌, pos, slice_index_or, List, ℕ, ℤ}
use Rattle.emtp_case.specs.StepRecord.{no_line}
use Rattle.emtp_case.specs.declared.branch.LineState.{LineState}
use Rattle.emtp_fix.specs.declared.limit.TheConstants.{PICO}
use Rattle.emtp_hist.specs.History.{value_before}
use Rattle.emtp_line.specs.Line.{from_waves, to_waves}
use Rattle.emtp_line.specs.Phases.{Modes, of_phase}
use Rattle.emtp_line.specs.declared.mode.Mode.{Mode}

-- no wave was ever on the line
pub record IsAtRest (past : List LineState) : Type 0 where
  pub from : (k : ℕ) → value_before (from_waves past) k ≡ pos 0
  pub to : (k : ℕ) → value_before (to_waves past) k ≡ pos 0

-- nothing of an end's own wave comes back, and all of the other end's arrives
pub record IsLossless (m : Mode) : Type 0 where
  pub attenuation : m.attenuation ≡ PICO
  pub far_share : m.far_share ≡ PICO
  pub near_share : m.near_share ≡ pos 0

-- what the records keep of a step that many steps before the next one
abbrev pub steps_before : ℕ → List LineState → LineState
steps_before k past = slice_index_or past (k - 1) no_line

-- two pasts have the same waves one travel time before the next step, and one step before that
pub record MeetAtTravelTime (m : Mode) (past other : List LineState) : Type 0 where
  pub newer : steps_before m.steps past ≡ steps_before m.steps other
  pub older : steps_before (m.steps + 1) past ≡ steps_before (m.steps + 1) other

-- both sequences have this mode
abbrev pub alike : Mode → Modes
alike m = record { zero_sequence = m; positive = m }

-- the numbers of the three phases cancel
abbrev pub Cancel : List ℤ → Type 0
Cancel xs = of_phase xs 0 +ℤ of_phase xs 1 +ℤ of_phase xs 2 ≡ pos 0
