-- What the pseudo-nonlinear branches of a case stand for, and how a step moves them. No clause of the program reaches it.
use Rattle.std.specs.Prelude.{◌≡◌, ◌≢◌, ◌<◌, ◌∷◌, ℕ, ℤ, List, length, pos, slice_get, slice_index_or, Option, Some, None, Result, IfOk, OnErr, false}
use Rattle.emtp_case.specs.Branch.{origin}
use Rattle.emtp_case.specs.StepRecord.{StepRecord}
use Rattle.emtp_case.specs.declared.branch.Branch.TheVariants.{Pseudo as OfPseudo}
use Rattle.emtp_case.specs.declared.branch.Pseudo.{Pseudo}
use Rattle.emtp_case.specs.declared.branch.PseudoState.{PseudoState}
use Rattle.emtp_case.specs.declared.case.Parts.{Parts}
use Rattle.emtp_fix.specs.declared.limit.OutOfRange.{OutOfRange}
use Rattle.emtp_pseudo.specs.Moment.{moment_at}
use Rattle.emtp_pseudo.specs.held.Held.{IsHeld, IsHeldAtRest}
use Rattle.emtp_pseudo.specs.Step.{moment_at_rest}
use Rattle.emtp_pseudo.specs.declared.held.HeldBranch.{HeldBranch}
use Rattle.emtp_pseudo.specs.declared.moment.Moment.{Moment}
use Rattle.emtp_pseudo.specs.Pseudos.{moments_of, newest, next_of}

-- what a contract sees: the case, what is held of each branch, and the capacities of the lists that a step writes
pub record HeldPseudos : Type 0 where
  pub case : Parts
  pub held : List HeldBranch
  pub capacities : List ℕ

-- a branch of a case is this pseudo-nonlinear one
abbrev pub IsPseudoAt : Parts → ℕ → Pseudo → Type 0
IsPseudoAt case b x = slice_get case.branches b ≡ Some (OfPseudo x)

-- what is held of a branch of another kind: it is never read
abbrev pub no_branch : HeldBranch
no_branch = record {
  card = record { line = 0; «from» = 0; to = 0; reactor = false; first = 0; count = 0 };
  moment = moment_at_rest;
  segment = record { conductance = pos 0; base = origin; rise = origin; upper = None; lower = None };
  word = 0;
  history_current = pos 0;
}

abbrev pub branch_at : List HeldBranch → ℕ → HeldBranch
branch_at held b = slice_index_or held b no_branch

-- at a branch the value stands for what the records say of it, newest first
pub record StandsAt (s : HeldPseudos) (b : ℕ) (past : List Moment) : Type 0 where
  pub there : b < length s.held
  pub latest : (branch_at s.held b).moment ≡ newest past

-- the value stands for the records
abbrev pub StandsFor : HeldPseudos → List StepRecord → Type 0
StandsFor s H = (b : ℕ) (x : Pseudo) → IsPseudoAt s.case b x → StandsAt s b (moments_of x b H)

-- A branch moved by one step at a branch voltage: there is a next state, its current is the answer, and with the voltage it
-- is the newest of what the value stands for.
pub record HasMoved (new : HeldPseudos) (branch : ℕ) (past : List Moment) (v : ℤ) (next : Option PseudoState)
    (i : ℤ) : Type 0 where
  pub state : PseudoState
  pub is : next ≡ Some state
  pub current : i ≡ state.current
  pub stands : StandsAt new branch (moment_at v state ∷ past)

-- The whole of a call that takes a branch voltage into one branch. On Ok the branch moved, whatever past it stood for; an
-- Err comes exactly where there is no next state, and changes nothing. No list takes memory.
pub record Moves (old new : HeldPseudos) (branch : ℕ) (v : ℤ) (result : Result ℤ OutOfRange) : Type 0 where
  pub case : new.case ≡ old.case
  pub capacities : new.capacities ≡ old.capacities
  pub moved : (x : Pseudo) (past : List Moment) → IsPseudoAt old.case branch x → StandsAt old branch past
      → IfOk result (HasMoved new branch past v (next_of old.case x past v))
  pub out : (x : Pseudo) (past : List Moment) → IsPseudoAt old.case branch x → StandsAt old branch past
      → OnErr result (next_of old.case x past v ≡ None)
  pub others : (b : ℕ) (past : List Moment) → b ≢ branch → StandsAt old b past → StandsAt new b past
  pub same : OnErr result (new ≡ old)

-- what the list keeps of the case
pub record AreHeld (case : Parts) (held : List HeldBranch) : Type 0 where
  pub one_each : length held ≡ length case.branches
  pub fit : (b : ℕ) (x : Pseudo) → IsPseudoAt case b x → IsHeld case x (branch_at held b)

-- the first n branches as record 0 has them
pub record AreHeldAtRest (case : Parts) (n : ℕ) (held : List HeldBranch) : Type 0 where
  pub count : length held ≡ n
  pub each : (b : ℕ) (x : Pseudo) → b < n → IsPseudoAt case b x → IsHeldAtRest case x (branch_at held b)
