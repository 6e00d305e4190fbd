-- What is held of one series branch.
use Rattle.std.specs.Prelude.{◌≡◌, ◌≤◌, ◌*◌, ◌^◌, ℕ, ℤ, pos, unsigned_abs, Some}
use Rattle.emtp_case.specs.StepRecord.{no_lumped}
use Rattle.emtp_case.specs.declared.branch.LumpedState.{LumpedState}
use Rattle.emtp_lumped.specs.held.Companion.{IsCompanion}
use Rattle.emtp_lumped.specs.Step.{history_current_of, next_state}
use Rattle.emtp_lumped.specs.held.Step.{IsInRange}
use Rattle.emtp_lumped.specs.declared.companion.Companion.{Companion}
use Rattle.emtp_lumped.specs.declared.held.HeldBranch.{HeldBranch}
use Rattle.emtp_lumped.specs.declared.overflowing.NextStep.{NextStep}

abbrev pub held_at_rest : Companion → HeldBranch
held_at_rest c = record { companion = c; state = no_lumped; kept_history = pos 0 }

-- what is kept of a history current: the current itself where it is at most 2^61 in magnitude, else a number above that
pub record IsKeptHistory (c : Companion) (s : LumpedState) (kept : ℤ) : Type 0 where
  pub far : unsigned_abs kept ≤ 2 ^ 62
  pub is : unsigned_abs kept ≤ 2 ^ 61 → kept ≡ history_current_of c s

-- its numbers are in range, and its history current is theirs
pub record IsHeld (h : HeldBranch) : Type 0 where
  pub companion : IsCompanion h.companion
  pub state : IsInRange h.state
  pub history : IsKeptHistory h.companion h.state h.kept_history

-- a step without a test: where its overflow word is 0, so was the one before, and it is the next state at this voltage, in
-- range, with its history current, which is never large
pub record IsNextStep (c : Companion) (old : LumpedState) (v : ℤ) (before : ℕ) (next : NextStep) : Type 0 where
  pub value : next.overflow ≡ 0 → next_state c old v ≡ Some next.state
  pub range : next.overflow ≡ 0 → IsInRange next.state
  pub history : next.overflow ≡ 0 → next.history_current ≡ history_current_of c next.state
  pub small : unsigned_abs next.history_current ≤ 13 * 10 ^ 17
  pub overflow : next.overflow ≡ 0 → before ≡ 0
