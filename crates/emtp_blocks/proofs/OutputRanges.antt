-- The outputs that blocks are recorded with are in range.
use Rattle.std.proofs.Common.{◌≡◌, subst, ℕ, ℤ, pos, All, List, length, get_or, slice_get, Option, Some, None, IfSome, unwrap_or, refl, arith}
use Rattle.std.specs.List.{range_with_len}
use Rattle.std.proofs.lemmas.List.Elements.{All-map}
use Rattle.std.proofs.lemmas.Option.{get_or_from_slice_get, slice_get_within}
use Rattle.emtp_case.specs.held.Case.{IsControl}
use Rattle.emtp_case.specs.held.Control.{IsBlock, IsBound}
use Rattle.emtp_case.specs.held.Sizes.{sizes_of}
use Rattle.emtp_case.specs.StepRecord.{StepRecord}
use Rattle.emtp_case.specs.declared.case.Parts.{Parts}
use Rattle.emtp_case.specs.declared.control.Block.{Block}
use Rattle.emtp_case.specs.declared.control.Bound.{Bound}
use Rattle.emtp_case.specs.declared.control.Bound.TheVariants.{Fixed, Named, None as NoBound}
use Rattle.emtp_case.specs.declared.control.Limiter.{Limiter}
use Rattle.emtp_case.specs.declared.control.Limiter.TheVariants.{AtHigh, AtLow, Free}
use Rattle.emtp_elim.specs.Matrix.{item}
use Rattle.emtp_elim.specs.held.Matrix.{AreWithin}
use Rattle.emtp_fix.proofs.Ranges.{IsSmall, item_small}
use Rattle.emtp_fix.specs.declared.limit.TheConstants.{LARGEST_VALUE}
use Rattle.emtp_blocks.specs.Block.{held, limit_of, limiter_for, limits_of, output_of}
use Rattle.emtp_blocks.specs.System.{output_at, output_by, outputs, state_at}
use Rattle.emtp_blocks.specs.declared.limits.Limits.{Limits}

limit_small : (case : Parts) (known : List ℤ) (bound : Bound) → IsBound (sizes_of case) bound → All IsSmall known → IfSome (limit_of known bound) IsSmall
limit_small case known NoBound fits small = tt
limit_small case known (Fixed x) fits small = fits
limit_small case known (Named v) fits small = item_small known v small

default_small : (o : Option ℤ) → IfSome o IsSmall → IsSmall (unwrap_or o (pos 0))
default_small None small = omega arith
default_small (Some x) small = small

held_small : (limits : Limits) (limiter : Limiter) (z : ℤ) → IfSome limits.low IsSmall → IfSome limits.high IsSmall → IsSmall z → IsSmall (held limits limiter z)
held_small limits Free z low high small = small
held_small limits AtHigh z low high small = default_small limits.high high
held_small limits AtLow z low high small = default_small limits.low low

output_small : (limits : Limits) (limiter : Limiter) (z : ℤ) → IfSome limits.low IsSmall → IfSome limits.high IsSmall → IsSmall z → IsSmall (output_of limits limiter z)
output_small limits Free z low high small = held_small limits (limiter_for limits z) z low high small
output_small limits AtHigh z low high small = held_small limits AtHigh z low high small
output_small limits AtLow z low high small = held_small limits AtLow z low high small

pub outputs_small : (case : Parts) (H : List StepRecord) (known xs : List ℤ) → IsControl case → All IsSmall known → AreWithin LARGEST_VALUE xs → All IsSmall (outputs case H known xs)
unfolding outputs
outputs_small case H known xs control small within = All-map IsSmall (output_at case H known xs) (range_with_len 0 (length case.blocks)) (λ k d below.
    let i = get_or (range_with_len 0 (length case.blocks)) k d in
    by i (slice_get case.blocks i) refl)
  where
    by : (i : ℕ) (o : Option Block) → slice_get case.blocks i ≡ o → IsSmall (output_by H known xs i o)
    by i None there = omega arith
    by i (Some b) there =
        let fits : IsBlock case.run (sizes_of case) b = subst (IsBlock case.run (sizes_of case)) (get_or_from_slice_get case.blocks i b b there) (control.blocks i b (slice_get_within case.blocks i b there)) in
        output_small (limits_of known b) (state_at H i).limiter (item xs i) (limit_small case known b.low fits.low small) (limit_small case known b.high fits.high small) (within i)
