-- Taking the voltages into one branch after the other.
use Rattle.std.specs.Prelude.{◌≡◌, ◌+◌, ◌<◌, ◌≤◌, ◌∷◌, ℕ, ℤ, if◌then◌else◌, nat_lt, List, length, slice_get, IsSome, MatchResult, Option, Some, None, Result}
use Rattle.emtp_case.specs.Branch.{first_of_trio}
use Rattle.emtp_case.specs.StepRecord.{StepRecord, branch_current_at, line_at, phase_state_at}
use Rattle.emtp_case.specs.declared.branch.Branch.{Branch}
use Rattle.emtp_case.specs.declared.branch.Branch.TheVariants.{Lumped as OfLumped, Line as OfLine, Pseudo as OfPseudo, Phase as OfPhase}
use Rattle.emtp_case.specs.declared.branch.Line.{Line}
use Rattle.emtp_case.specs.declared.branch.Lumped.{Lumped}
use Rattle.emtp_case.specs.declared.branch.Phase.{Phase}
use Rattle.emtp_case.specs.declared.branch.Pseudo.{Pseudo}
use Rattle.emtp_case.specs.declared.case.Parts.{Parts}
use Rattle.emtp_elim.specs.Matrix.{item}
use Rattle.emtp_line.specs.Lines as lined
use Rattle.emtp_line.specs.held.Lines as held_lined
use Rattle.emtp_lumped.specs.Lumps as lumped
use Rattle.emtp_lumped.specs.held.Lumps as held_lumped
use Rattle.emtp_pseudo.specs.Pseudos as pseudo
use Rattle.emtp_pseudo.specs.held.Pseudos as held_pseudo
use Rattle.emtp_net.specs.held.Branches.{StandsFor}
use Rattle.emtp_net.specs.Part.{brought_by, state_at, states_at}
use Rattle.emtp_net.specs.declared.branches.Branches.{Branches}

-- a record that may follow: its voltages are these, and its branches what the laws make of them
pub record IsNext (case : Parts) (H : List StepRecord) (vs : List ℤ) (r : StepRecord) : Type 0 where
  pub voltages : r.voltages ≡ vs
  pub branches : r.branches ≡ states_at case H vs

-- the place at which a branch moves: its own, and for the phases of a three-phase line that of phase 0
abbrev pub head_by : Parts → ℕ → Option Branch → ℕ
head_by case b None = b
head_by case b (Some (OfLumped x)) = b
head_by case b (Some (OfLine x)) = b
head_by case b (Some (OfPseudo x)) = b
head_by case b (Some (OfPhase x)) = first_of_trio case.trios x.trio

abbrev pub head_at : Parts → ℕ → ℕ
head_at case b = head_by case b (slice_get case.branches b)

-- the records of what moves at place b, once the places below n have moved
abbrev pub upto : ℕ → ℕ → StepRecord → List StepRecord → List StepRecord
upto n b r H = if nat_lt b n then r ∷ H else H

-- what moves at places below n stands for the next record too
pub record StandsUpTo (s : Branches) (case : Parts) (H : List StepRecord) (r : StepRecord) (n : ℕ) : Type 0 where
  pub lumps : (b : ℕ) (x : Lumped) → held_lumped.IsSeries case b x
      → held_lumped.StandsAt s.lumps b (lumped.states_of b (upto n b r H))
  pub lines : (b : ℕ) (x : Line) → held_lined.IsLineAt case b x → held_lined.StandsAt s.lines b (lined.states_of b (upto n b r H))
  pub trios : (t : ℕ) → t < length case.trios
      → held_lined.TrioStandsAt s.lines t (lined.phase_states_of case t (upto n (first_of_trio case.trios t) r H))
  pub pseudos : (b : ℕ) (x : Pseudo) → held_pseudo.IsPseudoAt case b x
      → held_pseudo.StandsAt s.pseudos b (pseudo.moments_of x b (upto n b r H))

-- each branch that moves at a place below n is in range
abbrev pub AreInRange : Parts → List StepRecord → List ℤ → ℕ → Type 0
AreInRange case H vs n = (b : ℕ) → b < length case.branches → head_at case b < n → IsSome (state_at case H vs b)

-- the branch at a place is the first one out of range
pub record IsFirstOut (case : Parts) (H : List StepRecord) (vs : List ℤ) (at : ℕ) : Type 0 where
  pub there : at < length case.branches
  pub none : state_at case H vs at ≡ None
  pub earlier : (b : ℕ) → b < at → IsSome (state_at case H vs b)

-- the currents of series branches and pseudo-nonlinear ones below n are those of the record
pub record AreCurrents (case : Parts) (currents : List ℤ) (r : StepRecord) (n : ℕ) : Type 0 where
  pub lumps : (b : ℕ) (x : Lumped) → b < n → held_lumped.IsSeries case b x → item currents b ≡ branch_current_at b r
  pub pseudos : (b : ℕ) (x : Pseudo) → b < n → held_pseudo.IsPseudoAt case b x → item currents b ≡ branch_current_at b r

-- What moves at one place, on Ok with the branch current: it stands for one record more, and is in range. An error is the
-- first branch out of range from this place on, of those that move here.
pub record HasMoved (s t : Branches) (case : Parts) (H : List StepRecord) (vs : List ℤ) (at : ℕ) (i : ℤ) : Type 0 where
  pub stands : (r : StepRecord) → IsNext case H vs r → StandsUpTo s case H r at → StandsUpTo t case H r (at + 1)
  pub in_range : (b : ℕ) → b < length case.branches → head_at case b ≡ at → IsSome (state_at case H vs b)
  pub lumped : (x : Lumped) (r : StepRecord) → IsNext case H vs r → held_lumped.IsSeries case at x → i ≡ branch_current_at at r
  pub pseudo : (x : Pseudo) (r : StepRecord) → IsNext case H vs r → held_pseudo.IsPseudoAt case at x → i ≡ branch_current_at at r

pub record HasStopped (case : Parts) (H : List StepRecord) (vs : List ℤ) (at k : ℕ) : Type 0 where
  pub later : at ≤ k
  pub there : k < length case.branches
  pub none : state_at case H vs k ≡ None
  pub earlier : (b : ℕ) → at ≤ b → b < k → IsSome (state_at case H vs b)

-- the branches stand for the records as far as they moved
abbrev pub StandsBefore : Branches → Parts → List StepRecord → List ℤ → ℕ → Type 0
StandsBefore s case H vs at = (r : StepRecord) → IsNext case H vs r → StandsUpTo s case H r at

-- All branches moved: each is in range, and they stand for one more record, whose currents these are.
pub record HaveMoved (s : Branches) (currents : List ℤ) (case : Parts) (H : List StepRecord) (vs : List ℤ) : Type 0 where
  pub in_range : (b : ℕ) → b < length case.branches → IsSome (state_at case H vs b)
  pub stands : (r : StepRecord) → IsNext case H vs r → StandsFor s (r ∷ H)
  pub are_currents : (r : StepRecord) → IsNext case H vs r → AreCurrents case currents r (length case.branches)

-- the branch current of a line, and of a phase, is the one into its first end
pub record AreLineCurrents (case : Parts) (r : StepRecord) : Type 0 where
  pub lines : (b : ℕ) (x : Line) → held_lined.IsLineAt case b x → branch_current_at b r ≡ (line_at b r).from_current
  pub phases : (b : ℕ) (x : Phase) → held_lined.IsPhaseAt case b x → branch_current_at b r ≡ (phase_state_at b r).from_current

-- ---- what each call answers and leaves, for all records for which the branches stood

-- the branch at a place takes the voltages
abbrev pub MovesAt : Result ℤ ℕ → Parts → List ℤ → ℕ → Branches → Branches → Type 0
MovesAt result case vs at s t =
    (H : List StepRecord) → StandsBefore s case H vs at → MatchResult result (HasMoved s t case H vs at) (HasStopped case H vs at)

-- all branches take them; an error is the first one out of range
abbrev pub MovesAll : Result (Unit {0}) ℕ → Parts → List ℤ → List ℤ → Branches → Branches → Type 0
MovesAll result case vs currents s t =
    (H : List StepRecord) → StandsFor s H → MatchResult result (λ u. HaveMoved t currents case H vs) (IsFirstOut case H vs)

-- the current of the branch at a place in the last record
abbrev pub IsCurrentAt : ℤ → Branches → Parts → List ℤ → ℕ → Type 0
IsCurrentAt i s case currents at =
    (r : StepRecord) (past : List StepRecord) → StandsFor s (r ∷ past)
    → AreCurrents case currents r (length case.branches) → AreLineCurrents case r
    → i ≡ branch_current_at at r

-- what the branch at a place brings to its two nodes, once all branches moved to a record
abbrev pub IsBroughtAt : ℤ × ℤ → Branches → Parts → List ℤ → ℕ → Type 0
IsBroughtAt ends s case currents at =
    (H : List StepRecord) (vs : List ℤ) (r : StepRecord) → IsNext case H vs r → HaveMoved s currents case H vs
    → ends ≡ brought_by (slice_get r.branches at)
