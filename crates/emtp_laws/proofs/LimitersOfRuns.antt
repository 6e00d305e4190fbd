-- In a run a limiter stands only at a limit that its block has.
use Rattle.std.proofs.Common.{◌≡◌, ◌∙◌, ℕ, ℤ, false, List, [], ◌∷◌, length, slice_get, slice_index_or, Option, Some, None, IfSome, unwrap_or, Result, Ok, Err, refl, ap, sym, subst, arith}
use Rattle.std.proofs.lemmas.List.{get_or-replicate}
use Rattle.std.proofs.lemmas.List.FromFn.{get_or-map-range_with_len}
use Rattle.std.proofs.lemmas.Option.{slice_get_within}
use Rattle.emtp_blocks.specs.Block.{limit_of}
use Rattle.emtp_blocks.specs.System.{block_of, first_out, input_sum, next_at, next_by, output_at, output_by, state_at, states_after}
use Rattle.emtp_blocks.specs.System as system
use Rattle.emtp_case.specs.StepRecord.{StepRecord, no_block, rest_of}
use Rattle.emtp_case.specs.declared.case.Parts.{Parts}
use Rattle.emtp_case.specs.declared.control.Block.{Block}
use Rattle.emtp_case.specs.declared.control.BlockState.{BlockState}
use Rattle.emtp_elim.specs.Matrix.{item}
use Rattle.emtp_elim.specs.Outcome.{outcome}
use Rattle.emtp_elim.specs.declared.fault.PlainFault.{PlainFault}
use Rattle.emtp_fix.proofs.Chaining.{same_ok, then_ok}
use Rattle.emtp_laws.proofs.LimitedOutputs.{limit_there, step_within}
use Rattle.emtp_laws.specs.Control.{AreOrderedLimits, HasItsLimit, IsWithinLimits}
use Rattle.emtp_machine.proofs.Chains.{chain}
use Rattle.emtp_machine.specs.Laws.{records_upto}
use Rattle.emtp_machine.specs.held.Laws.{IsChain}
use Rattle.emtp_machine.specs.Next.{joined, measured_of, next, record_of, with_control}
use Rattle.emtp_net.specs.Part.{NetworkPart}
use Rattle.emtp_net.specs.Step.{network_part}
use Rattle.emtp_net.specs.declared.fault.NetFault.{NetFault}
use Rattle.emtp_tacs.specs.Part.{ControlPart}
use Rattle.emtp_tacs.specs.Step.{Measured, Solved, accepted, blocks, control_step, extras, known_before, solved_by}
use Rattle.emtp_tacs.specs.declared.fault.TacsFault.{TacsFault}

-- ---- what the blocks leave in a record

-- the states of the blocks are those of a step, from some known values and solved outputs
record AreLeft (case : Parts) (H : List StepRecord) (states : List BlockState) : Type 0 where
  known : List ℤ
  solved : List ℤ
  are : states ≡ states_after case H known solved

accepted_left : (case : Parts) (H : List StepRecord) (known xs : List ℤ) (out : Option ℕ) (s : Solved) → accepted case H known xs out ≡ Ok s → AreLeft case H s.blocks
accepted_left case H known xs (Some i) s e = absurd (cc)
accepted_left case H known xs None s e = record { known = known; solved = xs; are = sym (ap (λ (t : Solved). t.blocks) (same_ok _ s e)) }

solved_left : (case : Parts) (H : List StepRecord) (known : List ℤ) (o : Result (List ℤ) PlainFault) (s : Solved) → solved_by case H known o ≡ Ok s → AreLeft case H s.blocks
solved_left case H known (Err fault) s e = absurd (cc)
solved_left case H known (Ok xs) s e = accepted_left case H known xs (first_out case H known xs) s e

step_left : (case : Parts) (H : List StepRecord) (m : Measured) (part : ControlPart) → control_step case H m ≡ Ok part → AreLeft case H part.blocks
unfolding control_step
step_left case H m part e =
    let known = then_ok (known_before case H m) _ part e in
    let solved = then_ok (blocks case H known.0.values) _ part known.2 in
    let last = then_ok (extras case H false (record known.0 { values = solved.0.values })) _ part solved.2 in
    let same : solved.0.blocks ≡ part.blocks = ap (λ (p : ControlPart). p.blocks) (same_ok _ part last.2) in
    subst (AreLeft case H) same (solved_left case H known.0.values (outcome (system.matrix case H) (system.right case H known.0.values)) solved.0 solved.1)

joined_left : (case : Parts) (H : List StepRecord) (network : NetworkPart) (r : StepRecord) (q : Result ControlPart TacsFault) → control_step case H (measured_of network) ≡ q → joined case network q ≡ Ok r → AreLeft case H r.blocks
joined_left case H network r (Ok part) is e =
    let same : record_of network part ≡ r = same_ok _ r e in
    subst (AreLeft case H) (ap (λ (x : StepRecord). x.blocks) same) (step_left case H (measured_of network) part is)
joined_left case H network r (Err fault) is e = absurd (cc)

record_left : (case : Parts) (H : List StepRecord) (r : StepRecord) (p : Result NetworkPart NetFault) → with_control case H p ≡ Ok r → AreLeft case H r.blocks
record_left case H r (Ok network) e = joined_left case H network r (control_step case H (measured_of network)) refl e
record_left case H r (Err fault) e = absurd (cc)

next_left : (case : Parts) (H : List StepRecord) (r : StepRecord) → next case H ≡ Ok r → AreLeft case H r.blocks
unfolding next
next_left case H r e = record_left case H r (network_part case H) e

-- ---- the limiter of a block

abbrev pub StandsRight : List ℤ → Block → BlockState → Type 0
StandsRight later b s = HasItsLimit (limit_of later b.low) (limit_of later b.high) s.limiter

kept_right : (later : List ℤ) (b : Block) (o : Option BlockState) → IfSome o (StandsRight later b) → StandsRight later b (unwrap_or o no_block)
kept_right later b None h = tt
kept_right later b (Some s) h = h

state_right : (case : Parts) (H : List StepRecord) (known xs later : List ℤ) (i : ℕ) (b : Block) → slice_get case.blocks i ≡ Some b → StandsRight later b (slice_index_or (states_after case H known xs) i no_block)
unfolding states_after
state_right case H known xs later i b is =
    let made : ℕ → BlockState = λ k. unwrap_or (next_at case H known xs k) no_block in
    let s = input_sum (block_of case) known xs i (output_by H known xs i (Some b)) b.inputs in
    let at : slice_index_or (states_after case H known xs) i no_block ≡ unwrap_or (next_by case H known xs i (Some b)) no_block =
    get_or-map-range_with_len made 0 (length case.blocks) i i no_block (slice_get_within case.blocks i b is) (omega arith)
    ∙ ap (λ (o : Option Block). unwrap_or (next_by case H known xs i o) no_block) is in
    subst (StandsRight later b) (sym at) (kept_right later b (next_by case H known xs i (Some b)) (limit_there case.run.dt b known later (state_at H i) (item xs i) s))

next_right : (case : Parts) (H : List StepRecord) (r : StepRecord) (later : List ℤ) (i : ℕ) (b : Block) → slice_get case.blocks i ≡ Some b → next case H ≡ Ok r → StandsRight later b (slice_index_or r.blocks i no_block)
next_right case H r later i b is e =
    let left = next_left case H r e in
    subst (λ (states : List BlockState). StandsRight later b (slice_index_or states i no_block)) (sym left.are) (state_right case H left.known left.solved later i b is)

-- ---- a run

rest_right : (case : Parts) (later : List ℤ) (i : ℕ) (b : Block) → slice_get case.blocks i ≡ Some b → StandsRight later b (slice_index_or (rest_of case).blocks i no_block)
rest_right case later i b is =
    subst (StandsRight later b) (sym (get_or-replicate (length case.blocks) i no_block no_block (slice_get_within case.blocks i b is))) tt

pub chain_right : (case : Parts) (H : List StepRecord) (later : List ℤ) (i : ℕ) (b : Block) → slice_get case.blocks i ≡ Some b → IsChain case H → StandsRight later b (state_at H i)
chain_right case [] later i b at is = absurd is
chain_right case (r ∷ []) later i b at is = subst (λ (x : StepRecord). StandsRight later b (slice_index_or x.blocks i no_block)) (sym is) (rest_right case later i b at)
chain_right case (r ∷ s ∷ past) later i b at is = next_right case (s ∷ past) r later i b at is.0

pub run_within : (case : Parts) (n : ℕ) (known xs : List ℤ) (i : ℕ) (b : Block) → slice_get case.blocks i ≡ Some b → AreOrderedLimits (limit_of known b.low) (limit_of known b.high)
    → IsWithinLimits (limit_of known b.low) (limit_of known b.high) (output_at case (records_upto case n) known xs i)
run_within case n known xs i b at ordered = step_within case (records_upto case n) known xs i b at ordered (chain_right case (records_upto case n) known i b at (chain case n))
