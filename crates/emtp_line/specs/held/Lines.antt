-- What the lines of a case stand for, and how a step moves them. No clause of the program reaches it.
use Rattle.std.specs.Prelude.{◌≡◌, ◌≢◌, ◌<◌, ◌∷◌, [], ◌++◌, ℕ, ℤ, List, All, length, map, pos, slice_get, slice_index_or, Option, Some, None, Result, Ok, Err, IfOk, IfErr, OnErr}
use Rattle.std.specs.List.{concat}
use Rattle.emtp_case.specs.held.Branch.{HasLineNumbers}
use Rattle.emtp_case.specs.StepRecord.{StepRecord}
use Rattle.emtp_case.specs.declared.branch.Branch.{Branch}
use Rattle.emtp_case.specs.declared.branch.Branch.TheVariants.{Lumped as OfLumped, Line as OfLine, Pseudo as OfPseudo, Phase as OfPhase}
use Rattle.emtp_case.specs.declared.branch.Line.{Line}
use Rattle.emtp_case.specs.declared.branch.LineState.{LineState}
use Rattle.emtp_case.specs.declared.branch.Phase.{Phase}
use Rattle.emtp_case.specs.declared.branch.PhaseState.{PhaseState}
use Rattle.emtp_case.specs.declared.case.Parts.{Parts}
use Rattle.emtp_fix.specs.declared.limit.OutOfRange.{OutOfRange}
use Rattle.emtp_line.specs.held.Held.{IsHeld, LineStands, IsHeldTrio, TrioStands, held_at_rest, held_modes, newest, newest_phase, trio_at_rest, currents_of, with_states}
use Rattle.emtp_line.specs.Line.{line_histories, next_state}
use Rattle.emtp_line.specs.Mode.{mode_of_line}
use Rattle.emtp_line.specs.Phases.{modes_of, phase_from_history, phase_to_history}
use Rattle.emtp_line.specs.held.Phases.{next_phases}
use Rattle.emtp_line.specs.declared.held.HeldLine.{HeldLine}
use Rattle.emtp_line.specs.declared.held_trio.HeldTrio.{HeldTrio}
use Rattle.emtp_line.specs.declared.mode.Mode.{Mode}
use Rattle.emtp_line.specs.declared.phase_states.PhaseRange.{PhaseRange}
use Rattle.emtp_line.specs.declared.waves.Waves.{Waves}
use Rattle.emtp_line.specs.Lines.{no_trio, trio_of, states_of, phase_states_of}

-- what a contract sees: the case, what is held of each branch, what is held of each three-phase line, and the capacities of
-- the lists that a step writes
pub record Lining : Type 0 where
  pub case : Parts
  pub lines : List HeldLine
  pub trios : List HeldTrio
  pub capacities : List ℕ

-- the capacities of the rings of the waves
abbrev pub rings_of : Waves → List ℕ
rings_of x = x.from.depth ∷ x.to.depth ∷ []

abbrev pub line_rings : HeldLine → List ℕ
line_rings x = rings_of x.waves

abbrev pub trio_rings : HeldTrio → List ℕ
trio_rings x = rings_of x.zero_sequence ++ line_rings x.first ++ line_rings x.second ++ line_rings x.third

-- the capacities of the list of lines and of that of three-phase lines, and those of the rings of each
abbrev pub capacities_of : ℕ → ℕ → List HeldLine → List HeldTrio → List ℕ
capacities_of n m lines trios = n ∷ m ∷ concat (map line_rings lines) ++ concat (map trio_rings trios)

-- a branch of a case is this line, or this phase
abbrev pub IsLineAt : Parts → ℕ → Line → Type 0
IsLineAt case b x = slice_get case.branches b ≡ Some (OfLine x)

abbrev pub IsPhaseAt : Parts → ℕ → Phase → Type 0
IsPhaseAt case b x = slice_get case.branches b ≡ Some (OfPhase x)

-- it is one of both
abbrev pub HasWaves : Option Branch → Type 0
HasWaves None = ⊥
HasWaves (Some (OfLumped b)) = ⊥
HasWaves (Some (OfLine b)) = Unit {0}
HasWaves (Some (OfPseudo b)) = ⊥
HasWaves (Some (OfPhase b)) = Unit {0}

-- the numbers of a branch without waves: they are never read
abbrev pub no_mode : Mode
no_mode = record {
  conductance = pos 0;
  attenuation = pos 0;
  far_share = pos 0;
  near_share = pos 0;
  steps = 1;
  rest = pos 0;
  dt = pos 1;
}

abbrev pub line_held : List HeldLine → ℕ → HeldLine
line_held lines b = slice_index_or lines b (held_at_rest no_mode)

abbrev pub trio_held : List HeldTrio → ℕ → HeldTrio
trio_held trios t = slice_index_or trios t (trio_at_rest (pos 1) no_trio)

-- at a line the value stands for what the records keep of it
pub record StandsAt (s : Lining) (b : ℕ) (past : List LineState) : Type 0 where
  pub there : b < length s.lines
  pub stands : LineStands (line_held s.lines b) past

-- at a three-phase line for what they keep of its phases
pub record TrioStandsAt (s : Lining) (t : ℕ) (past : ℕ → List PhaseState) : Type 0 where
  pub there : t < length s.trios
  pub stands : TrioStands (trio_held s.trios t) past

-- the value stands for the records
pub record StandsFor (s : Lining) (H : List StepRecord) : Type 0 where
  pub lines : (b : ℕ) (x : Line) → IsLineAt s.case b x → StandsAt s b (states_of b H)
  pub trios : (t : ℕ) → t < length s.case.trios → TrioStandsAt s t (phase_states_of s.case t H)

-- two currents are those of the ends of the line at a place, by what it stands for
abbrev pub AreLineEnds : Lining → ℕ → (Line → List LineState → ℤ × ℤ) → ℤ × ℤ → Type 0
AreLineEnds s b of_line ends =
    (x : Line) (past : List LineState) → IsLineAt s.case b x → StandsAt s b past → ends ≡ of_line x past

-- or of the phase at it
abbrev pub ArePhaseEnds : Lining → ℕ → (Phase → (ℕ → List PhaseState) → ℤ × ℤ) → ℤ × ℤ → Type 0
ArePhaseEnds s b of_phase ends =
    (x : Phase) (past : ℕ → List PhaseState) → IsPhaseAt s.case b x → TrioStandsAt s x.trio past
    → ends ≡ of_phase x past

-- the history currents of the next step
abbrev pub line_history_currents : Parts → Line → List LineState → ℤ × ℤ
line_history_currents case x past = line_histories (mode_of_line case.run.dt x) past

abbrev pub phase_history_currents : Parts → Phase → (ℕ → List PhaseState) → ℤ × ℤ
phase_history_currents case x past = (
  phase_from_history (modes_of case.run.dt (trio_of case x.trio)) (past 0) (past x.phase),
  phase_to_history
      (modes_of case.run.dt (trio_of case x.trio)) (past 0) (past x.phase),
)

-- the currents of the last record
abbrev pub line_end_currents : Line → List LineState → ℤ × ℤ
line_end_currents x past = ((newest past).from_current, (newest past).to_current)

abbrev pub phase_end_currents : Phase → (ℕ → List PhaseState) → ℤ × ℤ
phase_end_currents x past = ((newest_phase (past x.phase)).from_current, (newest_phase (past x.phase)).to_current)

-- a line moved by one step: its next state's current is the answer, and this state is the newest
pub record HasMoved (new : Lining) (branch : ℕ) (past : List LineState) (next : Option LineState) (i : ℤ) : Type 0 where
  pub state : LineState
  pub is : next ≡ Some state
  pub current : i ≡ state.from_current
  pub stands : StandsAt new branch (state ∷ past)

-- The whole of a call that takes the voltages of its ends into one line. On Ok the line moved, whatever past it stood
-- for; an Err comes exactly where there is no next state, and changes nothing. No list takes memory.
pub record Moves (old new : Lining) (branch : ℕ) (v w : ℤ) (result : Result ℤ OutOfRange) : Type 0 where
  pub case : new.case ≡ old.case
  pub capacities : new.capacities ≡ old.capacities
  pub moved : (x : Line) (past : List LineState) → IsLineAt old.case branch x → StandsAt old branch past
      → IfOk result (HasMoved new branch past (next_state (mode_of_line old.case.run.dt x) past v w))
  pub out : (x : Line) (past : List LineState) → IsLineAt old.case branch x → StandsAt old branch past
      → OnErr result (next_state (mode_of_line old.case.run.dt x) past v w ≡ None)
  pub others : (b : ℕ) (past : List LineState) → b ≢ branch → StandsAt old b past → StandsAt new b past
  pub trios : (t : ℕ) (past : ℕ → List PhaseState) → TrioStandsAt old t past → TrioStandsAt new t past
  pub same : OnErr result (new ≡ old)

-- the same of a three-phase line
pub record TrioHasMoved (new : Lining) (trio : ℕ) (past : ℕ → List PhaseState)
    (next : Result (List PhaseState) PhaseRange) (i : List ℤ) : Type 0 where
  pub states : List PhaseState
  pub is : next ≡ Ok states
  pub currents : i ≡ currents_of states
  pub stands : TrioStandsAt new trio (with_states states past)

-- And of a call that takes the voltages of all of its ends into one three-phase line. An Err names the first phase that
-- is out of range.
pub record TrioMoves (old new : Lining) (trio : ℕ) (v w : List ℤ) (result : Result (List ℤ) PhaseRange) : Type 0 where
  pub case : new.case ≡ old.case
  pub capacities : new.capacities ≡ old.capacities
  pub moved : (past : ℕ → List PhaseState) → TrioStandsAt old trio past
      → IfOk result (TrioHasMoved new trio past
      (next_phases (modes_of old.case.run.dt (trio_of old.case trio)) past v w))
  pub out : (past : ℕ → List PhaseState) → TrioStandsAt old trio past
      → IfErr result (λ fault. next_phases (modes_of old.case.run.dt (trio_of old.case trio)) past v w ≡ Err fault)
  pub others : (t : ℕ) (past : ℕ → List PhaseState) → t ≢ trio → TrioStandsAt old t past → TrioStandsAt new t past
  pub lines : (b : ℕ) (past : List LineState) → StandsAt old b past → StandsAt new b past
  pub same : OnErr result (new ≡ old)
  pub phase : IfErr result (λ fault. fault.phase < 3)

-- the numbers that the mode of a single line needs
abbrev pub HasMode : ℤ → Branch → Type 0
HasMode dt (OfLumped b) = Unit {0}
HasMode dt (OfLine b) = HasLineNumbers dt b.zc b.r b.delay
HasMode dt (OfPseudo b) = Unit {0}
HasMode dt (OfPhase b) = Unit {0}

abbrev pub mode_at : ℤ → Branch → Mode
mode_at dt (OfLumped b) = no_mode
mode_at dt (OfLine b) = mode_of_line dt b
mode_at dt (OfPseudo b) = no_mode
mode_at dt (OfPhase b) = no_mode

-- a branch of record 0
abbrev pub rest_at : ℤ → Branch → HeldLine
rest_at dt b = held_at_rest (mode_at dt b)

-- what the lists keep of the case
pub record IsLining (case : Parts) (lines : List HeldLine) (trios : List HeldTrio) : Type 0 where
  pub one_each : length lines ≡ length case.branches
  pub one_each_trio : length trios ≡ length case.trios
  pub modes : (b : ℕ) (x : Line) → IsLineAt case b x → (line_held lines b).waves.mode ≡ mode_of_line case.run.dt x
  pub trio_modes : (t : ℕ) → t < length case.trios → held_modes (trio_held trios t) ≡ modes_of case.run.dt (trio_of case t)
  pub lines_fit : All IsHeld lines
  pub trios_fit : All IsHeldTrio trios
