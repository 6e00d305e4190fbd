-- What the block rows of a case stand for.
use Rattle.std.specs.Prelude.{◌≡◌, ℕ, ◌<◌, ◌≤◌, ◌∷◌, ℤ, pos, unsigned_abs, Bool, true, List, [], All, length, map, replicate, slice_get, slice_index_or, slice_set, IsSome, Option, Some, None, Result, Ok, Err}
use Rattle.std.specs.List.{range_with_len}
use Rattle.emtp_elim.specs.Matrix.{Matrix, item}
use Rattle.emtp_case.specs.StepRecord.{StepRecord}
use Rattle.emtp_case.specs.declared.control.BlockState.{BlockState}
use Rattle.emtp_case.specs.declared.case.Parts.{Parts}
use Rattle.emtp_case.specs.declared.control.Block.{Block}
use Rattle.emtp_case.specs.declared.control.Limiter.{Limiter}
use Rattle.emtp_case.specs.declared.control.Limiter.TheVariants.{Free}
use Rattle.emtp_case.specs.held.Control.{AreKnown}
use Rattle.emtp_blocks.specs.held.Block.{HasState, IsKept, IsLaw, IsLawOf}
use Rattle.emtp_blocks.specs.System.{block_of, control_matrix, first_out, next_at, output_at, outputs, state_at, states_after}
use Rattle.emtp_blocks.specs.declared.diagram.BlockDiagram.{BlockDiagram}
use Rattle.emtp_blocks.specs.declared.inputs.StepValues.{StepValues}
use Rattle.emtp_blocks.specs.declared.law.BlockLaw.{BlockLaw}
use Rattle.emtp_blocks.specs.declared.accepting.Accepted.{Accepted}
use Rattle.emtp_blocks.specs.declared.block_rows.BlockRange.{BlockRange}
use Rattle.emtp_fix.specs.declared.limit.TheConstants.{LARGEST_VALUE}

-- what a contract sees: the case, what is kept of each block, whether the last step moved a limiter, and the capacities of the
-- lists that a step writes
pub record Blocking : Type 0 where
  pub case : Parts
  pub states : List BlockState
  pub moved : Bool
  pub capacities : List ℕ

-- the matrix of the next step, as the rows give it
abbrev pub limiters_kept : List BlockState → List Limiter
limiters_kept states = map (λ (s : BlockState). s.limiter) states

abbrev pub rows_of_blocks : Blocking → Matrix
rows_of_blocks s = control_matrix s.case (limiters_kept s.states)

-- a block as nothing has happened to it
abbrev pub no_kept : BlockState
no_kept = record { limiter = Free; errors = []; chain = [] }

-- this is what the last record has of the block at a place
abbrev pub IsStateAt : Parts → BlockState → List StepRecord → ℕ → Type 0
IsStateAt case state H i = (b : Block) → slice_get case.blocks i ≡ Some b → HasState b.order state (state_at H i)

-- the block at a place is kept as the last record has it
abbrev pub StandsAt : Parts → List BlockState → List StepRecord → ℕ → Type 0
StandsAt case states H i = IsStateAt case (slice_index_or states i no_kept) H i

-- the value stands for the records
pub record StandsFor (s : Blocking) (H : List StepRecord) : Type 0 where
  pub one_each : length s.states ≡ length s.case.blocks
  pub blocks : (i : ℕ) → StandsAt s.case s.states H i

-- the blocks took the solved outputs xs: none is out of range, x has the recorded ones, and the value stands for the
-- records with any further one whose blocks are the next ones
pub record HaveAccepted (s : Blocking) (x : List ℤ) (H : List StepRecord) (known xs : List ℤ) : Type 0 where
  pub in_range : first_out s.case H known xs ≡ None
  pub recorded : x ≡ outputs s.case H known xs
  pub stands : (r : StepRecord) → r.blocks ≡ states_after s.case H known xs → StandsFor s (r ∷ H)

-- what accepting answers: that, or the first block that is out of range
abbrev pub Accepts : Result (Unit {0}) BlockRange → Blocking → List ℤ → List StepRecord → List ℤ → List ℤ
    → Type 0
Accepts (Ok u) s x H known xs = HaveAccepted s x H known xs
Accepts (Err e) s x H known xs = first_out s.case H known xs ≡ Some e.block

-- ---- what is held of the case

-- the place of a variable's block in a table by variable
abbrev pub place_in : List (Option ℕ) → ℕ → Option ℕ
place_in places v = slice_index_or places v None

abbrev pub places_of : Parts → List (Option ℕ)
places_of case = map (block_of case) (range_with_len 0 (length case.vars))

abbrev pub no_law : BlockLaw
no_law = record { numerators = []; denominators = []; sum = pos 0; gain = pos 0 }

-- the first laws are those of the blocks
abbrev pub AreLaws : Parts → List BlockLaw → ℕ → Type 0
AreLaws case laws n = (i : ℕ) (b : Block) → i < n → slice_get case.blocks i ≡ Some b
    → IsLawOf case.run.dt b (slice_index_or laws i no_law)

-- the table has the block of each variable, and the laws are those of the blocks, in range
pub record IsDiagramOf (case : Parts) (places : List (Option ℕ)) (laws : List BlockLaw) : Type 0 where
  pub places_are : places ≡ places_of case
  pub law_each : length laws ≡ length case.blocks
  pub laws_are : AreLaws case laws (length case.blocks)
  pub laws_fit : All IsLaw laws

abbrev pub IsDiagram : BlockDiagram → Type 0
IsDiagram diagram = IsDiagramOf diagram.case.now.parts diagram.places.now diagram.laws.now

pub record IsHeld (case : Parts) (places : List (Option ℕ)) (laws : List BlockLaw) (states : List BlockState) (out : List ℤ)
    : Type 0 where
  pub diagram : IsDiagramOf case places laws
  pub state_each : length states ≡ length case.blocks
  pub states_fit : All IsKept states
  pub out_each : length out ≡ length case.blocks

-- ---- one block of the system

-- a block after a step: its output and what is kept of it
pub record BlockAfter : Type 0 where
  pub output : ℤ
  pub state : BlockState

-- this is the next state of the block at a place, where there is one
abbrev pub IsNextAt : Parts → BlockState → List StepRecord → List ℤ → List ℤ → ℕ → Type 0
IsNextAt case state H known xs i = (s : BlockState) (b : Block) → next_at case H known xs i ≡ Some s
    → slice_get case.blocks i ≡ Some b → HasState b.order state s

-- it is in range, and both are what the definition says
abbrev pub Gives : BlockAfter → Parts → List StepRecord → List ℤ → List ℤ → ℕ → Type 0
Gives a case H known xs i =
    (IsSome (next_at case H known xs i)) × (a.output ≡ output_at case H known xs i) × IsNextAt case a.state H known xs i

-- One block took the solved outputs: no other state moved, and for every list of records that it was kept for it is kept
-- as the definition says.
pub record HasTaken (case : Parts) (old new : List BlockState) (known xs : List ℤ) (at : ℕ) (a : Accepted) : Type 0 where
  pub state : BlockState
  pub states : new ≡ slice_set old at state
  pub same : a.same ≡ true → (slice_index_or old at no_kept).limiter ≡ state.limiter
  pub kept : IsKept state
  pub small : unsigned_abs a.output ≤ LARGEST_VALUE
  pub gives : (H : List StepRecord) → StandsAt case old H at
      → Gives (record { output = a.output; state = state }) case H known xs at

-- for no list of records that it was kept for it is in range
abbrev pub IsOut : Parts → List BlockState → List ℤ → List ℤ → ℕ → Type 0
IsOut case old known xs at = (H : List StepRecord) → StandsAt case old H at → next_at case H known xs at ≡ None

-- one number a block, each in range
pub record AreUnknowns (case : Parts) (xs : List ℤ) : Type 0 where
  pub one_each : length xs ≡ length case.blocks
  pub small : All (λ v. unsigned_abs v ≤ LARGEST_VALUE) xs

-- one value a variable and one solved output a block, each in range
pub record AreStepValues (case : Parts) (values : StepValues) : Type 0 where
  pub known : AreKnown case values.known.now
  pub solved : AreUnknowns case values.solved.now

-- ---- all blocks

-- the limiter of each block stands where it stood
abbrev pub KeepsLimiters : List BlockState → List BlockState → Type 0
KeepsLimiters old new = (i : ℕ) → i < length old
    → (slice_index_or old i no_kept).limiter ≡ (slice_index_or new i no_kept).limiter

-- each block before n is in range, puts out what the definition says, and is kept as it says
pub record AreAccepted (case : Parts) (states : List BlockState) (out : List ℤ) (H : List StepRecord) (known xs : List ℤ)
    (n : ℕ) : Type 0 where
  pub in_range : (i : ℕ) → i < n → IsSome (next_at case H known xs i)
  pub outputs_are : (i : ℕ) → i < n → item out i ≡ output_at case H known xs i
  pub states_are : (i : ℕ) (s : BlockState) (b : Block) → i < n → next_at case H known xs i ≡ Some s
      → slice_get case.blocks i ≡ Some b → HasState b.order (slice_index_or states i no_kept) s

abbrev pub AcceptsAll : Result (Unit {0}) BlockRange → Parts → List BlockState → List ℤ → List StepRecord → List ℤ
    → List ℤ → Type 0
AcceptsAll (Ok u) case states out H known xs = AreAccepted case states out H known xs (length case.blocks)
AcceptsAll (Err e) case states out H known xs = first_out case H known xs ≡ Some e.block

-- a block at rest
pub record IsAtRest (kept : BlockState) : Type 0 where
  pub free : kept.limiter ≡ Free
  pub no_errors : kept.errors ≡ replicate 8 (pos 0)
  pub no_chain : kept.chain ≡ replicate 8 (pos 0)
