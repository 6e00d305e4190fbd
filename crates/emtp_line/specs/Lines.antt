-- The states of lines in the records, newest first, and the three-phase line of a branch.
use Rattle.std.specs.Prelude.{◌+◌, [], ℕ, List, map, slice_index_or}
use Rattle.emtp_case.specs.Branch.{first_of_trio}
use Rattle.emtp_case.specs.StepRecord.{StepRecord, line_at, phase_state_at}
use Rattle.emtp_case.specs.declared.branch.LineState.{LineState}
use Rattle.emtp_case.specs.declared.branch.PhaseState.{PhaseState}
use Rattle.emtp_case.specs.declared.branch.Trio.{Trio}
use Rattle.emtp_case.specs.declared.case.Parts.{Parts}

-- ---- records

abbrev pub no_trio : Trio
no_trio = record { first = 0; zc = []; r = []; delay = [] }

abbrev pub trio_of : Parts → ℕ → Trio
trio_of case t = slice_index_or case.trios t no_trio

-- what the records keep of a line, and of the three phases of a three-phase line, newest first
abbrev pub states_of : ℕ → List StepRecord → List LineState
states_of b H = map (line_at b) H

abbrev pub phase_states_of : Parts → ℕ → List StepRecord → ℕ → List PhaseState
phase_states_of case t H p = map (phase_state_at (first_of_trio case.trios t + p)) H
