-- What the series branches of a case stand for, and how a step moves them. No clause of the program reaches it.
use Rattle.std.specs.Prelude.{◌≡◌, ◌≢◌, ◌<◌, ◌∷◌, ℕ, ℤ, List, All, length, pos, slice_get, slice_index_or, Option, Some, Result, IfOk, OnErr, None}
use Rattle.emtp_case.specs.held.Branch.{HasSeriesNumbers}
use Rattle.emtp_case.specs.StepRecord.{StepRecord}
use Rattle.emtp_case.specs.declared.branch.Branch.{Branch}
use Rattle.emtp_case.specs.declared.branch.Branch.TheVariants.{Lumped as OfLumped, Line as OfLine, Pseudo as OfPseudo, Phase as OfPhase}
use Rattle.emtp_case.specs.declared.branch.Lumped.{Lumped}
use Rattle.emtp_case.specs.declared.branch.LumpedState.{LumpedState}
use Rattle.emtp_case.specs.declared.case.Parts.{Parts}
use Rattle.emtp_fix.specs.declared.limit.OutOfRange.{OutOfRange}
use Rattle.emtp_lumped.specs.Companion.{companion_of}
use Rattle.emtp_lumped.specs.held.Held.{held_at_rest, IsHeld}
use Rattle.emtp_lumped.specs.declared.companion.Companion.{Companion}
use Rattle.emtp_lumped.specs.declared.held.HeldBranch.{HeldBranch}
use Rattle.emtp_lumped.specs.Lumps.{newest, states_of, next_of}

-- what a contract sees: the case, what is held of each branch, and the capacities of the lists that a step writes
pub record Lumping : Type 0 where
  pub case : Parts
  pub held : List HeldBranch
  pub capacities : List ℕ

-- a branch of a case is this series branch
abbrev pub IsSeries : Parts → ℕ → Lumped → Type 0
IsSeries case b x = slice_get case.branches b ≡ Some (OfLumped x)

-- the companion of a branch that is no series branch: it is never read
abbrev pub no_companion : Companion
no_companion = record { conductance = pos 0; inductor = pos 0; capacitor = pos 0 }

-- the branch at a place; a branch at rest where there is none
abbrev pub branch_at : List HeldBranch → ℕ → HeldBranch
branch_at held b = slice_index_or held b (held_at_rest no_companion)

-- at a branch the value stands for what the records keep of it, newest first
pub record StandsAt (s : Lumping) (b : ℕ) (past : List LumpedState) : Type 0 where
  pub there : b < length s.held
  pub latest : (branch_at s.held b).state ≡ newest past

-- the value stands for the records
abbrev pub StandsFor : Lumping → List StepRecord → Type 0
StandsFor s H = (b : ℕ) (x : Lumped) → IsSeries s.case b x → StandsAt s b (states_of b H)

-- A branch moved by one step: there is a next state, its current is the answer, and it is the newest of what the value
-- stands for.
pub record HasMoved (new : Lumping) (branch : ℕ) (past : List LumpedState) (next : Option LumpedState) (i : ℤ) : Type 0 where
  pub state : LumpedState
  pub is : next ≡ Some state
  pub current : i ≡ state.current
  pub stands : StandsAt new branch (state ∷ past)

-- The whole of a call that takes a branch voltage into one branch. On Ok the branch moved, whatever past it stood for; an
-- Err comes exactly where there is no next state, and changes nothing. No list takes memory.
pub record Moves (old new : Lumping) (branch : ℕ) (v : ℤ) (result : Result ℤ OutOfRange) : Type 0 where
  pub case : new.case ≡ old.case
  pub capacities : new.capacities ≡ old.capacities
  pub moved : (x : Lumped) (past : List LumpedState) → IsSeries old.case branch x → StandsAt old branch past
      → IfOk result (HasMoved new branch past (next_of old.case x past v))
  pub out : (x : Lumped) (past : List LumpedState) → IsSeries old.case branch x → StandsAt old branch past
      → OnErr result (next_of old.case x past v ≡ None)
  pub others : (b : ℕ) (past : List LumpedState) → b ≢ branch → StandsAt old b past → StandsAt new b past
  pub same : OnErr result (new ≡ old)

-- the numbers that the companion of a branch needs
abbrev pub HasNumbers : ℤ → Branch → Type 0
HasNumbers dt (OfLumped b) = HasSeriesNumbers dt b.r b.l b.c
HasNumbers dt (OfLine b) = Unit {0}
HasNumbers dt (OfPseudo b) = Unit {0}
HasNumbers dt (OfPhase b) = Unit {0}

-- a branch of record 0
abbrev pub rest_at : ℤ → Branch → HeldBranch
rest_at dt (OfLumped b) = held_at_rest (companion_of dt b)
rest_at dt (OfLine b) = held_at_rest no_companion
rest_at dt (OfPseudo b) = held_at_rest no_companion
rest_at dt (OfPhase b) = held_at_rest no_companion

-- what the list keeps of the case
pub record IsLumping (case : Parts) (held : List HeldBranch) : Type 0 where
  pub one_each : length held ≡ length case.branches
  pub companions : (b : ℕ) (x : Lumped) → IsSeries case b x → (branch_at held b).companion ≡ companion_of case.run.dt x
  pub fit : All IsHeld held
