-- The limits of a block's output, each where there is one, and of its variable in the records of a run; how the numbers of its
-- chain go from step to step; the blocks that no other one reaches.
use Rattle.std.specs.Prelude.{◌≡◌, ◌≤ℤ◌, ◌+ℤ◌, ◌-ℤ◌, [], ◌∷◌, ℕ, suc, ℤ, All, IsSome, IfSome, List, Option, Some, None, Ok, map, slice_get}
use Rattle.emtp_blocks.specs.Block.{chain_number, held, limit_of, limits_of, next_state, output_of, unlimited_output}
use Rattle.emtp_blocks.specs.System.{block_of, free_right, matrix, right, state_at}
use Rattle.emtp_case.specs.StepRecord.{StepRecord, is_closed}
use Rattle.emtp_case.specs.declared.case.Parts.{Parts}
use Rattle.emtp_case.specs.declared.control.Block.{Block}
use Rattle.emtp_case.specs.declared.control.BlockState.{BlockState}
use Rattle.emtp_case.specs.declared.control.Input.{Input}
use Rattle.emtp_case.specs.declared.control.Limiter.{Limiter}
use Rattle.emtp_case.specs.declared.control.Limiter.TheVariants.{Free, AtHigh, AtLow}
use Rattle.emtp_elim.specs.Elimination.{solution}
use Rattle.emtp_elim.specs.Matrix.{item}
use Rattle.emtp_tacs.specs.Step.{Measured, SoFar, known_before}

-- low is at most high, where there are both
abbrev pub AreOrderedLimits : Option ℤ → Option ℤ → Type 0
AreOrderedLimits low high = IfSome low (λ (a : ℤ). IfSome high (λ (b : ℤ). a ≤ℤ b))

-- a block that is at a limit has this limit
abbrev pub HasItsLimit : Option ℤ → Option ℤ → Limiter → Type 0
HasItsLimit low high Free = Unit {0}
HasItsLimit low high AtHigh = IsSome high
HasItsLimit low high AtLow = IsSome low

-- an output between the limits that there are
pub record IsWithinLimits (low high : Option ℤ) (x : ℤ) : Type 0 where
  pub at_least : IfSome low (λ (a : ℤ). a ≤ℤ x)
  pub at_most : IfSome high (λ (b : ℤ). x ≤ℤ b)

-- what the control measures in the network's part of a record
abbrev pub measured_in : StepRecord → Measured
measured_in r = record { voltages = r.voltages; currents = r.switch_currents; closed = map is_closed r.switch_states }

-- The variable of a block lies between the block's limits in the record that follows the others, where low is at most high. A
-- named limit has the value that was known before the blocks of this step.
pub record KeepsLimits (case : Parts) (past : List StepRecord) (r : StepRecord) (b : Block) : Type 0 where
  pub known : SoFar
  pub is : known_before case past (measured_in r) ≡ Ok known
  pub within : AreOrderedLimits (limit_of known.values b.low) (limit_of known.values b.high)
      → IsWithinLimits (limit_of known.values b.low) (limit_of known.values b.high) (item r.values b.var)

-- so do those of all blocks in the last record of a run, after the ones before it; in record 0 all is 0
abbrev pub AreLimitsKept : Parts → List StepRecord → Type 0
AreLimitsKept case [] = Unit {0}
AreLimitsKept case (r ∷ []) = Unit {0}
AreLimitsKept case (r ∷ s ∷ past) = (i : ℕ) (b : Block) → slice_get case.blocks i ≡ Some b → KeepsLimits case (s ∷ past) r b

-- Over a step, number j + 1 of a block's chain rises by what number j is more than the error of power j, at the beginning and at
-- the end of the step; number 0 is 0.
abbrev pub RisesByTheRule : BlockState → ℕ → BlockState → Type 0
RisesByTheRule old j new =
    chain_number new.chain (suc j) -ℤ chain_number old.chain (suc j)
    ≡ (chain_number new.chain j -ℤ item new.errors j) +ℤ (chain_number old.chain j -ℤ item old.errors j)

-- no limit changes the output of a step
abbrev pub IsUnchanged : ℤ → Block → List ℤ → BlockState → ℤ → ℤ → Type 0
IsUnchanged dt b known old solved s = output_of (limits_of known b) old.limiter solved ≡ unlimited_output dt b old solved s

-- number j + 1 of a block's chain goes by the rule in each step; the last one where no limit changes the output
abbrev pub GoesByTheRule : ℤ → Block → ℕ → Type 0
GoesByTheRule dt b j =
    (known : List ℤ) (old : BlockState) (solved s : ℤ) → (suc j ≡ b.order → IsUnchanged dt b known old solved s)
    → IfSome (next_state dt b (limits_of known b) old solved s) (RisesByTheRule old j)

-- A block that no other one reaches within a step: it is at a limit, or none of its inputs is the output of a block.
abbrev pub StandsAlone : Parts → Block → Limiter → Type 0
StandsAlone case b Free = All (λ (i : Input). block_of case i.var ≡ None) b.inputs
StandsAlone case b AtHigh = Unit {0}
StandsAlone case b AtLow = Unit {0}

-- the output that elimination finds for the block at place i
abbrev pub solved_output : Parts → List StepRecord → List ℤ → ℕ → ℤ
solved_output case H known i = item (solution (matrix case H) (right case H known)) i

-- the block at place i has the output of its card, where it stands alone: k s + h, or its limit
abbrev pub IsExactAlone : Parts → List StepRecord → List ℤ → ℕ → Type 0
IsExactAlone case H known i =
    (b : Block) → slice_get case.blocks i ≡ Some b → StandsAlone case b (state_at H i).limiter
    → solved_output case H known i
    ≡ held (limits_of known b) (state_at H i).limiter (free_right case known (state_at H i) b)
