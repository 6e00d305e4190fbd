-- The recorded output of a block lies between its limits.
use Rattle.std.proofs.Common.{◌≡◌, ◌&&◌, ◌^◌, ◌≤ℤ◌, ℕ, ℤ, pos, if◌then◌else◌, Bool, true, false, List, slice_get, Option, Some, None, IsSome, IfSome, unwrap_or, refl, ap, sym, subst, arith}
use Rattle.std.proofs.lemmas.Int.{ints}
use Rattle.emtp_case.specs.declared.control.Limiter.{Limiter}
use Rattle.emtp_case.specs.declared.control.Limiter.TheVariants.{Free, AtHigh, AtLow}
use Rattle.emtp_case.specs.StepRecord.{StepRecord}
use Rattle.emtp_case.specs.declared.case.Parts.{Parts}
use Rattle.emtp_case.specs.declared.control.BlockState.{BlockState}
use Rattle.emtp_case.specs.declared.control.Bound.{Bound}
use Rattle.emtp_case.specs.declared.control.Bound.TheVariants.{Fixed, Named, None as NoBound}
use Rattle.emtp_elim.specs.Matrix.{item}
use Rattle.emtp_fix.specs.Limit.{is_within}
use Rattle.emtp_fix.specs.declared.limit.TheConstants.{LARGEST_VALUE}
use Rattle.emtp_blocks.specs.Block.{each_within, held, input_of, is_above, is_below, kept_of, limit_of, limits_of, next_state, output_of, unlimited_output}
use Rattle.emtp_blocks.specs.System.{output_at, output_by, state_at}
use Rattle.emtp_case.specs.declared.control.Block.{Block}
use Rattle.emtp_laws.specs.Control.{AreOrderedLimits, HasItsLimit, IsWithinLimits}

not_above : (o : Option ℤ) (z : ℤ) → is_above o z ≡ false → IfSome o (λ (x : ℤ). z ≤ℤ x)
not_above None z e = tt
not_above (Some x) z e = grind (arith, ints)

not_below : (o : Option ℤ) (z : ℤ) → is_below o z ≡ false → IfSome o (λ (x : ℤ). x ≤ℤ z)
not_below None z e = tt
not_below (Some x) z e = grind (arith, ints)

at_high : (low high : Option ℤ) → IfSome low (λ (a : ℤ). IfSome high (λ (b : ℤ). a ≤ℤ b)) → IsSome high → IsWithinLimits low high (unwrap_or high (pos 0))
at_high low None ordered some = absurd (cc)
at_high None (Some b) ordered some = record { at_least = tt; at_most = omega (arith, ints) }
at_high (Some a) (Some b) ordered some = record { at_least = ordered; at_most = omega (arith, ints) }

at_low : (low high : Option ℤ) → IfSome low (λ (a : ℤ). IfSome high (λ (b : ℤ). a ≤ℤ b)) → IsSome low → IsWithinLimits low high (unwrap_or low (pos 0))
at_low None high ordered some = absurd (cc)
at_low (Some a) None ordered some = record { at_least = omega (arith, ints); at_most = tt }
at_low (Some a) (Some b) ordered some = record { at_least = omega (arith, ints); at_most = ordered }

above_some : (o : Option ℤ) (z : ℤ) → is_above o z ≡ true → IsSome o
above_some None z e = absurd (cc)
above_some (Some x) z e = refl

below_some : (o : Option ℤ) (z : ℤ) → is_below o z ≡ true → IsSome o
below_some None z e = absurd (cc)
below_some (Some x) z e = refl

free_within : (known : List ℤ) (b : Block) (z : ℤ) (above below : Bool) → AreOrderedLimits (limit_of known b.low) (limit_of known b.high) → is_above (limit_of known b.high) z ≡ above → is_below (limit_of known b.low) z ≡ below
    → IsWithinLimits (limit_of known b.low) (limit_of known b.high) (held (limits_of known b) (if above then AtHigh else if below then AtLow else Free) z)
free_within known b z true below ordered is_over is_under = at_high (limit_of known b.low) (limit_of known b.high) ordered (above_some (limit_of known b.high) z is_over)
free_within known b z false true ordered is_over is_under = at_low (limit_of known b.low) (limit_of known b.high) ordered (below_some (limit_of known b.low) z is_under)
free_within known b z false false ordered is_over is_under = record { at_least = not_below (limit_of known b.low) z is_under; at_most = not_above (limit_of known b.high) z is_over }

pub output_within : (known : List ℤ) (b : Block) (limiter : Limiter) (solved : ℤ) → AreOrderedLimits (limit_of known b.low) (limit_of known b.high) → HasItsLimit (limit_of known b.low) (limit_of known b.high) limiter
    → IsWithinLimits (limit_of known b.low) (limit_of known b.high) (output_of (limits_of known b) limiter solved)
output_within known b Free solved ordered has = free_within known b solved (is_above (limit_of known b.high) solved) (is_below (limit_of known b.low) solved) ordered refl refl
output_within known b AtHigh solved ordered has = at_high (limit_of known b.low) (limit_of known b.high) ordered has
output_within known b AtLow solved ordered has = at_low (limit_of known b.low) (limit_of known b.high) ordered has

-- ---- a step of the blocks

pub step_within : (case : Parts) (H : List StepRecord) (known xs : List ℤ) (i : ℕ) (b : Block) → slice_get case.blocks i ≡ Some b → AreOrderedLimits (limit_of known b.low) (limit_of known b.high)
    → HasItsLimit (limit_of known b.low) (limit_of known b.high) (state_at H i).limiter → IsWithinLimits (limit_of known b.low) (limit_of known b.high) (output_at case H known xs i)
step_within case H known xs i b is ordered has =
    subst (IsWithinLimits (limit_of known b.low) (limit_of known b.high)) (sym (ap (output_by H known xs i) is)) (output_within known b (state_at H i).limiter (item xs i) ordered has)

-- ---- where a limiter stands after a step

-- a bound that gives a limit once gives one always
still_some : (known later : List ℤ) (bound : Bound) → IsSome (limit_of known bound) → IsSome (limit_of later bound)
still_some known later NoBound some = some
still_some known later (Fixed x) some = refl
still_some known later (Named v) some = refl

stands : (known later : List ℤ) (b : Block) (z : ℤ) (above below : Bool) → is_above (limit_of known b.high) z ≡ above → is_below (limit_of known b.low) z ≡ below
    → HasItsLimit (limit_of later b.low) (limit_of later b.high) (if above then AtHigh else if below then AtLow else Free)
stands known later b z true below is_over is_under = still_some known later b.high (above_some (limit_of known b.high) z is_over)
stands known later b z false true is_over is_under = still_some known later b.low (below_some (limit_of known b.low) z is_under)
stands known later b z false false is_over is_under = tt

pub limit_there : (dt : ℤ) (b : Block) (known later : List ℤ) (old : BlockState) (solved s : ℤ) → IfSome (next_state dt b (limits_of known b) old solved s) (λ (new : BlockState). HasItsLimit (limit_of later b.low) (limit_of later b.high) new.limiter)
unfolding next_state
limit_there dt b known later old solved s =
    let z = unlimited_output dt b old solved s in
    let new = kept_of dt b (limits_of known b) old (input_of b s) (output_of (limits_of known b) old.limiter solved) z in
    kept (is_within LARGEST_VALUE (input_of b s) && each_within (10 ^ 36) new.chain b.order) new (stands known later b z (is_above (limit_of known b.high) z) (is_below (limit_of known b.low) z) refl refl)
  where
    kept : (t : Bool) (new : BlockState) → HasItsLimit (limit_of later b.low) (limit_of later b.high) new.limiter → IfSome (if t then Some new else None) (λ (x : BlockState). HasItsLimit (limit_of later b.low) (limit_of later b.high) x.limiter)
    kept true new h = h
    kept false new h = tt
