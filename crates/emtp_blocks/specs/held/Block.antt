-- Beside `Block`: what values hold for their proofs, and what premises say. No clause of the program reaches it.
use Rattle.std.specs.Prelude.{◌≡◌, ℕ, ◌*◌, ◌^◌, ◌<◌, ◌≤◌, ℤ, unsigned_abs, Option, Some, None}
use Rattle.emtp_elim.specs.Matrix.{item}
use Rattle.emtp_case.specs.Control.{numerator_of, denominator_of, coefficient_sum, step_gain}
use Rattle.emtp_case.specs.declared.control.BlockState.{BlockState}
use Rattle.emtp_case.specs.declared.control.Block.{Block}
use Rattle.emtp_case.specs.declared.control.Limiter.{Limiter}
use Rattle.emtp_blocks.specs.Block.{output_of}
use Rattle.emtp_blocks.specs.declared.law.BlockLaw.{BlockLaw}
use Rattle.emtp_fix.specs.declared.limit.TheConstants.{LARGEST_COEFFICIENT, LARGEST_VALUE}
use Rattle.emtp_blocks.specs.declared.limits.Limits.{Limits}
use Rattle.emtp_blocks.specs.declared.next.Signals.{Signals}
use Rattle.emtp_blocks.specs.declared.next.TheConstants.{LARGEST_CHAIN}

-- the coefficients of a block
pub record IsLawOf (dt : ℤ) (b : Block) (law : BlockLaw) : Type 0 where
  pub numerators : (j : ℕ) → 1 ≤ b.order → j ≤ b.order → item law.numerators j ≡ numerator_of dt b j
  pub denominators : (j : ℕ) → 1 ≤ b.order → j ≤ b.order → item law.denominators j ≡ denominator_of dt b j
  pub sum : law.sum ≡ coefficient_sum dt b b.order
  pub gain : law.gain ≡ step_gain dt b

-- they are in range
pub record IsLaw (law : BlockLaw) : Type 0 where
  pub numerators_small : (j : ℕ) → unsigned_abs (item law.numerators j) ≤ LARGEST_VALUE
  pub denominators_small : (j : ℕ) → unsigned_abs (item law.denominators j) ≤ LARGEST_VALUE
  pub sum_small : unsigned_abs law.sum ≤ 8 * LARGEST_COEFFICIENT
  pub gain_small : unsigned_abs law.gain ≤ LARGEST_VALUE

-- a block of this order is kept as a record has it
pub record HasState (order : ℕ) (kept : BlockState) (s : BlockState) : Type 0 where
  pub limiter_is : kept.limiter ≡ s.limiter
  pub errors_are : (j : ℕ) → j < order → item kept.errors j ≡ item s.errors j
  pub chain_is : (j : ℕ) → j < order → item kept.chain j ≡ item s.chain j

-- what is kept is in range
pub record IsKept (kept : BlockState) : Type 0 where
  pub errors_small : (j : ℕ) → unsigned_abs (item kept.errors j) ≤ 2 * 10 ^ 35
  pub chain_small : (j : ℕ) → unsigned_abs (item kept.chain j) ≤ LARGEST_CHAIN

-- the numbers of a block in a step are in range, and the recorded output is what the limits make of the solved one
pub record AreSignals (limits : Limits) (limiter : Limiter) (signals : Signals) : Type 0 where
  pub sum : unsigned_abs signals.sum ≤ 8 * 10 ^ 18
  pub solved : unsigned_abs signals.solved ≤ LARGEST_VALUE
  pub output : unsigned_abs signals.output ≤ LARGEST_VALUE
  pub limited : signals.output ≡ output_of limits limiter signals.solved

-- the code's answer is the definition's
abbrev pub Keeps : ℕ → Option BlockState → Option BlockState → Type 0
Keeps order None None = Unit {0}
Keeps order None (Some s) = ⊥
Keeps order (Some kept) None = ⊥
Keeps order (Some kept) (Some s) = HasState order kept s
