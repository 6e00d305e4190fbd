-- The blocks of a case together: their matrix, their right side, and what the next record keeps of them. `known` has one
-- value a variable: that of the step where it is computed before the blocks, else that of the last record.
use Rattle.std.specs.Prelude.{ℕ, ◌==◌, ℤ, pos, neg_ℤ, ◌+ℤ◌, ◌*ℤ◌, if◌then◌else◌, List, length, map, position, slice_get, slice_index_or, Option, Some, None, unwrap_or, is_none}
use Rattle.std.specs.List.{range_with_len}
use Rattle.emtp_elim.specs.Matrix.{Matrix, item, list_of, matrix_of}
use Rattle.emtp_case.specs.Control.{step_gain}
use Rattle.emtp_case.specs.StepRecord.{StepRecord, block_at, latest, no_block}
use Rattle.emtp_case.specs.declared.control.BlockState.{BlockState}
use Rattle.emtp_case.specs.declared.case.Parts.{Parts}
use Rattle.emtp_case.specs.declared.control.Block.{Block}
use Rattle.emtp_case.specs.declared.control.Input.{Input}
use Rattle.emtp_case.specs.declared.control.Limiter.{Limiter}
use Rattle.emtp_case.specs.declared.control.Limiter.TheVariants.{Free, AtHigh, AtLow}
use Rattle.emtp_fix.specs.Rounding.{near}
use Rattle.emtp_case.specs.Sums.{total}
use Rattle.emtp_blocks.specs.Block.{held, limits_of, next_state, output_of, past_output}
use Rattle.emtp_fix.specs.declared.limit.TheConstants.{PICO}

-- ---- inputs

-- the block whose output a variable is
abbrev pub block_of : Parts → ℕ → Option ℕ
block_of case v = position (λ (b : Block). b.var == v) case.blocks

-- an input with its sign
abbrev pub signed : Input → ℤ → ℤ
signed i z = if i.minus then neg_ℤ z else z

-- what an input brings before the blocks are solved: nothing where it is a block's output
abbrev pub outside_by : List ℤ → Input → Option ℕ → ℤ
outside_by known i None = signed i (item known i.var)
outside_by known i (Some j) = pos 0

-- s0, the sum of the inputs that aren't outputs of blocks
abbrev pub outside_sum : (ℕ → Option ℕ) → List ℤ → List Input → ℤ
outside_sum place known inputs = total (λ i. outside_by known i (place i.var)) inputs

-- what an input of block `at` brings: the recorded x of that block itself, the solved one of another block, else the known
-- value
abbrev pub inside_by : List ℤ → List ℤ → ℕ → ℤ → Input → Option ℕ → ℤ
inside_by known xs at x i None = signed i (item known i.var)
inside_by known xs at x i (Some j) = signed i (if j == at then x else item xs j)

-- s, the sum of the inputs
abbrev pub input_sum : (ℕ → Option ℕ) → List ℤ → List ℤ → ℕ → ℤ → List Input → ℤ
input_sum place known xs at x inputs = total (λ i. inside_by known xs at x i (place i.var)) inputs

-- what an input brings into column j of a free block's row: less k where it is block j's output
abbrev pub coupling_by : ℤ → ℕ → Input → Option ℕ → ℤ
coupling_by k j i None = pos 0
coupling_by k j i (Some m) = if m == j then signed i (neg_ℤ k) else pos 0

-- ---- the matrix and the right side

abbrev pub unit : ℕ → ℕ → ℤ
unit i j = if i == j then PICO else pos 0

abbrev pub row_entry : (ℕ → Option ℕ) → ℤ → List Input → Limiter → ℕ → ℕ → ℤ
row_entry place k inputs Free i j = unit i j +ℤ total (λ n. coupling_by k j n (place n.var)) inputs
row_entry place k inputs AtHigh i j = unit i j
row_entry place k inputs AtLow i j = unit i j

abbrev pub entry_by : Parts → List Limiter → ℕ → ℕ → Option Block → ℤ
entry_by case limiters i j None = pos 0
entry_by case limiters i j (Some b) =
    row_entry (block_of case) (step_gain case.run.dt b) b.inputs (slice_index_or limiters i Free) i j

-- the matrix of the blocks, in card order: a function of the case and of where the limiters stand
unfoldable pub control_matrix : Parts → List Limiter → Matrix
control_matrix case limiters = matrix_of (length case.blocks) (λ i j. entry_by case limiters i j (slice_get case.blocks i))

-- what the last record keeps of a block
abbrev pub state_at : List StepRecord → ℕ → BlockState
state_at H i = block_at i (latest H)

-- where the limiters of the last record stand
abbrev pub limiters_of : Parts → List StepRecord → List Limiter
limiters_of case H = map (λ i. (state_at H i).limiter) (range_with_len 0 (length case.blocks))

-- the matrix of the next step
abbrev pub matrix : Parts → List StepRecord → Matrix
matrix case H = control_matrix case (limiters_of case H)

-- k*s0 + h, what the right side of a free block is
abbrev pub free_right : Parts → List ℤ → BlockState → Block → ℤ
free_right case known s b =
    near (step_gain case.run.dt b *ℤ outside_sum (block_of case) known b.inputs) PICO +ℤ past_output b.order s.errors s.chain

abbrev pub right_by : Parts → List StepRecord → List ℤ → ℕ → Option Block → ℤ
right_by case H known i None = pos 0
right_by case H known i (Some b) = held (limits_of known b) (state_at H i).limiter (free_right case known (state_at H i) b)

-- the right side of the next step: the limit of this step where a block is at one
unfoldable pub right : Parts → List StepRecord → List ℤ → List ℤ
right case H known = list_of (length case.blocks) (λ i. right_by case H known i (slice_get case.blocks i))

-- ---- the next record

-- the recorded x of a block, from the solved ones
abbrev pub output_by : List StepRecord → List ℤ → List ℤ → ℕ → Option Block → ℤ
output_by H known xs i None = pos 0
output_by H known xs i (Some b) = output_of (limits_of known b) (state_at H i).limiter (item xs i)

abbrev pub output_at : Parts → List StepRecord → List ℤ → List ℤ → ℕ → ℤ
output_at case H known xs i = output_by H known xs i (slice_get case.blocks i)

-- what the next record keeps of a block; none where it is out of range
abbrev pub next_by : Parts → List StepRecord → List ℤ → List ℤ → ℕ → Option Block → Option BlockState
next_by case H known xs i None = None
next_by case H known xs i (Some b) =
    next_state case.run.dt b (limits_of known b) (state_at H i) (item xs i)
    (input_sum (block_of case) known xs i (output_by H known xs i (Some b)) b.inputs)

abbrev pub next_at : Parts → List StepRecord → List ℤ → List ℤ → ℕ → Option BlockState
next_at case H known xs i = next_by case H known xs i (slice_get case.blocks i)

-- the first block that is out of range
abbrev pub first_out : Parts → List StepRecord → List ℤ → List ℤ → Option ℕ
first_out case H known xs = position (λ i. is_none (next_at case H known xs i)) (range_with_len 0 (length case.blocks))

-- the outputs and what is kept of the blocks, where none is out of range
unfoldable pub outputs : Parts → List StepRecord → List ℤ → List ℤ → List ℤ
outputs case H known xs = list_of (length case.blocks) (output_at case H known xs)

unfoldable pub states_after : Parts → List StepRecord → List ℤ → List ℤ → List BlockState
states_after case H known xs = map (λ i. unwrap_or (next_at case H known xs i) no_block) (range_with_len 0 (length case.blocks))
