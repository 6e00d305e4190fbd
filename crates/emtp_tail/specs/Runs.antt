-- Whole runs of calls on a kept factor: what may be answered, and what is good afterwards.
use Rattle.std.specs.Prelude.{◌≡◌, ◌<◌, ℕ, ◌+◌, ℤ, List, [], ◌∷◌, length, take, vec_len, Ok, Err}
use Rattle.emtp_elim.specs.Matrix.{Matrix}
use Rattle.emtp_elim.specs.held.Fault.{IsRowFault, IsGoodMatrix}
use Rattle.emtp_elim.specs.held.Finished.{AreFinished}
use Rattle.emtp_elim.specs.Outcome.{outcome}
use Rattle.emtp_elim.specs.declared.fault.PlainFault.{PlainFault}
use Rattle.emtp_tail.specs.Good.{first_change}
use Rattle.emtp_tail.specs.held.Good.{Good}
use Rattle.emtp_tail.specs.declared.runs.Call.{Call}
use Rattle.emtp_tail.specs.declared.runs.Call.TheVariants.{Update, Solve}
use Rattle.emtp_tail.specs.declared.runs.Reply.{Reply}
use Rattle.emtp_tail.specs.declared.runs.Reply.TheVariants.{Redone, Faulty, Solved, TooLarge, NotReady}

-- the matrix or right side of the call has this size
abbrev pub FitsSize : {R : Type 0} → (R → Matrix) → ℕ → Call R → Type 0
FitsSize matrix size (Update rows) = length (matrix rows) ≡ size
FitsSize matrix size (Solve right) = vec_len right ≡ size

-- full elimination of the good rows, which are all, ends so with this right side
abbrev pub SolvesTo : Good → List ℤ → Reply → Type 0
SolvesTo kept right (Solved x) = (length kept.rows ≡ kept.size) × (outcome kept.rows right ≡ Ok x)
SolvesTo kept right (TooLarge fault) = (length kept.rows ≡ kept.size) × (outcome kept.rows right ≡ Err (PlainFault.Solve fault))
SolvesTo kept right (Redone first) = ⊥
SolvesTo kept right (Faulty fault) = ⊥
SolvesTo kept right NotReady = ⊥

-- these rows are good, of so many
abbrev pub HasGood : ℕ → Matrix → Good → Type 0
HasGood size rows kept = (kept.size ≡ size) × (kept.rows ≡ rows) × AreFinished rows kept.done

-- with these rows good and so many ticks made, the call may be answered so, and then those rows are good and so many
-- ticks are made
abbrev pub Step : {R : Type 0} → (R → Matrix) → Good → ℕ → Call R → Reply → Good → ℕ → Type 0
-- a matrix without a fault is good as a whole, and each row from the first changed one on ticks
Step matrix old before (Update rows) (Redone first) new after =
    IsGoodMatrix (matrix rows) × (first ≡ first_change old.rows (matrix rows)) × HasGood old.size (matrix rows) new
    × (after + first ≡ before + old.size)
-- one with a fault is good up to it, and the faulty row ticks too
Step matrix old before (Update rows) (Faulty fault) new after =
    IsRowFault (matrix rows) fault.row fault.cause × HasGood old.size (take fault.row (matrix rows)) new
    × (after + first_change old.rows (matrix rows) ≡ before + fault.row + 1)
-- a right side is solved for as full elimination does
Step matrix old before (Solve right) (Solved x) new after = SolvesTo old right.items (Solved x) × (new ≡ old) × (after ≡ before)
Step matrix old before (Solve right) (TooLarge fault) new after =
    SolvesTo old right.items (TooLarge fault) × (new ≡ old) × (after ≡ before)
-- unless rows are missing
Step matrix old before (Solve right) NotReady new after = (length old.rows < old.size) × (new ≡ old) × (after ≡ before)
-- nothing else is answered
Step matrix old before (Update rows) (Solved x) new after = ⊥
Step matrix old before (Update rows) (TooLarge fault) new after = ⊥
Step matrix old before (Update rows) NotReady new after = ⊥
Step matrix old before (Solve right) (Redone first) new after = ⊥
Step matrix old before (Solve right) (Faulty fault) new after = ⊥

-- the calls may be answered so, one after another
abbrev pub Run : {R : Type 0} → (R → Matrix) → Good → ℕ → List (Call R) → List Reply → Good → ℕ → Type 0
Run matrix old before [] [] new after = (new ≡ old) × (after ≡ before)
Run matrix old before (call ∷ calls) (reply ∷ replies) new after =
    (mid : Good) × (ticks : ℕ) × Step matrix old before call reply mid ticks × Run matrix mid ticks calls replies new after
Run matrix old before [] (reply ∷ replies) new after = ⊥
Run matrix old before (call ∷ calls) [] new after = ⊥
