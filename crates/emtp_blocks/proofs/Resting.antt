-- The blocks at rest.
use Rattle.std.proofs.Common.{◌≡◌, sym, ap, subst, ℕ, ◌<◌, pos, List, [], ◌∷◌, All, length, replicate, get_or, inl, inr, arith}
use Rattle.std.proofs.lemmas.Bool.{cases_lt}
use Rattle.std.proofs.lemmas.Int.{ints}
use Rattle.std.proofs.lemmas.List.{get_or-replicate, get_or_past, length-replicate}
use Rattle.std.proofs.lemmas.Option.{slice_get_within}
use Rattle.emtp_case.specs.StepRecord.{no_block, rest_of}
use Rattle.emtp_case.specs.declared.control.BlockState.{BlockState}
use Rattle.emtp_case.specs.declared.case.Parts.{Parts}
use Rattle.emtp_elim.specs.Matrix.{item}
use Rattle.emtp_blocks.specs.held.Block.{HasState, IsKept}
use Rattle.emtp_blocks.specs.held.BlockRows.{IsAtRest, StandsAt, no_kept}
use Rattle.emtp_blocks.specs.System.{state_at}

zero_at : (n j : ℕ) → item (replicate n (pos 0)) j ≡ pos 0
zero_at n j = elim (cases_lt j n) [
  | inl below ↦ get_or-replicate n j (pos 0) (pos 0) below
  | inr past ↦ get_or_past (replicate n (pos 0)) j (pos 0) (omega (arith, past, length-replicate n (pos 0)))
]

pub rest_kept : (k : BlockState) → IsAtRest k → IsKept k
rest_kept k is = record {
  errors_small = λ j. rw is.no_errors (rw (zero_at 8 j) (omega (arith, ints)));
  chain_small = λ j. rw is.no_chain (rw (zero_at 8 j) (omega (arith, ints)));
}

pub stands_at_rest : (case : Parts) (states : List BlockState) → length states ≡ length case.blocks → All IsAtRest states → (i : ℕ) → StandsAt case states (rest_of case ∷ []) i
stands_at_rest case states long rest i = λ b here.
    let below : i < length case.blocks = slice_get_within case.blocks i b here in
    let is = rest i no_kept (omega (arith, below, long)) in
    let kept : state_at (rest_of case ∷ []) i ≡ no_block = get_or-replicate (length case.blocks) i no_block no_block below in
    let P : BlockState → Type 0 = λ s. HasState b.order (get_or states i no_kept) s in
    subst P (sym kept) (record {
      limiter_is = is.free;
      errors_are = λ j inside. ap (λ xs. item xs j) is.no_errors;
      chain_is = λ j inside. ap (λ xs. item xs j) is.no_chain;
    })
