-- Beside `StepRecord`: what values hold for their proofs, and what premises say. No clause of the program reaches it.
use Rattle.emtp_case.specs.declared.control.Limiter.{Limiter}
use Rattle.std.specs.Prelude.{◌-◌, pos, slice_index_or, ℕ, ℤ}
use Rattle.emtp_case.specs.StepRecord.{StepRecord, block_at}

abbrev pub limiter_at : ℕ → StepRecord → Limiter
limiter_at block r = (block_at block r).limiter

-- E(j), from j = 0
abbrev pub error_at : ℕ → ℕ → StepRecord → ℤ
error_at j block r = slice_index_or (block_at block r).errors j (pos 0)

-- Y(j), from j = 1
abbrev pub chain_at : ℕ → ℕ → StepRecord → ℤ
chain_at j block r = slice_index_or (block_at block r).chain (j - 1) (pos 0)
