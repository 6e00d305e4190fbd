-- In each record of a run the variables of the blocks lie between their limits.
use Rattle.std.proofs.Common.{◌≡◌, ◌∙◌, ◌≤◌, ℕ, ℤ, false, List, [], ◌∷◌, length, slice_get, Some, Result, Ok, Err, refl, ap, sym, subst, arith}
use Rattle.std.proofs.lemmas.List.{length-replicate}
use Rattle.emtp_blocks.specs.Block.{limit_of}
use Rattle.emtp_blocks.specs.System as system
use Rattle.emtp_case.specs.held.Case.{IsCase}
use Rattle.emtp_case.specs.held.Control.{IsBlock, var_of}
use Rattle.emtp_case.specs.held.Sizes.{sizes_of}
use Rattle.emtp_case.specs.StepRecord.{StepRecord, latest}
use Rattle.emtp_case.specs.declared.case.Parts.{Parts}
use Rattle.emtp_case.specs.declared.control.Block.{Block}
use Rattle.emtp_elim.specs.Outcome.{outcome}
use Rattle.emtp_fix.proofs.Chaining.{same_ok, then_ok}
use Rattle.emtp_laws.proofs.LimitedOutputs.{step_within}
use Rattle.emtp_laws.proofs.LimitersOfRuns.{chain_right}
use Rattle.emtp_laws.proofs.VariablesOfBlocks.{as_many, extras_leave, known_count, outputs_count, solved_outputs, variable_is_output}
use Rattle.emtp_laws.specs.Control.{AreLimitsKept, IsWithinLimits, KeepsLimits}
use Rattle.emtp_machine.proofs.Chains.{chain}
use Rattle.emtp_machine.specs.Laws.{records_upto}
use Rattle.emtp_machine.specs.held.Laws.{IsChain}
use Rattle.emtp_machine.specs.Next.{joined, measured_of, next, record_of, with_control}
use Rattle.emtp_net.specs.Part.{NetworkPart}
use Rattle.emtp_net.specs.Step.{network_part}
use Rattle.emtp_net.specs.declared.fault.NetFault.{NetFault}
use Rattle.emtp_tacs.proofs.SixVariables.{read_all}
use Rattle.emtp_tacs.specs.Part.{ControlPart}
use Rattle.emtp_tacs.specs.Step.{Measured, SoFar, blocks, completed, control_step, extras, known_before}
use Rattle.emtp_tacs.specs.declared.fault.TacsFault.{TacsFault}
use Rattle.emtp_fix.specs.Chain.{◌>>=◌}

-- ---- each record has as many values as there are variables

part_count : (case : Parts) (H : List StepRecord) (m : Measured) (part : ControlPart) → length (latest H).values ≡ length case.vars → 6 ≤ length case.vars → control_step case H m ≡ Ok part → length part.values ≡ length case.vars
unfolding control_step
part_count case H m part count six made =
    let first = then_ok (known_before case H m) (λ (k : SoFar). blocks case H k.values >>= completed case H k) part made in
    let solved = then_ok (blocks case H first.0.values) (completed case H first.0) part first.2 in
    let last = then_ok (extras case H false (record first.0 { values = solved.0.values })) (λ (l : SoFar). Ok (record { values = l.values; blocks = solved.0.blocks; devices = l.devices })) part solved.2 in
    let out = solved_outputs case H first.0.values (outcome (system.matrix case H) (system.right case H first.0.values)) solved.0 solved.1 in
    ap (λ (p : ControlPart). length p.values) (sym (same_ok _ part last.2))
    ∙ extras_leave (length {A = ℤ}) case H false (record first.0 { values = solved.0.values }) last.0 (λ n e at. as_many (var_of e)) last.1
    ∙ ap (length {A = ℤ}) out.are
    ∙ outputs_count case (system.outputs case H first.0.values out.solved) (length case.blocks) first.0.values
    ∙ known_count case H m first.0 count six first.1

control_count : (case : Parts) (H : List StepRecord) (network : NetworkPart) (r : StepRecord) (q : Result ControlPart TacsFault) → length (latest H).values ≡ length case.vars → 6 ≤ length case.vars → control_step case H (measured_of network) ≡ q → joined case network q ≡ Ok r → length r.values ≡ length case.vars
control_count case H network r (Ok part) count six is e =
    let same : record_of network part ≡ r = same_ok _ r e in
    ap (λ (x : StepRecord). length x.values) (sym same) ∙ part_count case H (measured_of network) part count six is
control_count case H network r (Err fault) count six is e = absurd (cc)

record_count : (case : Parts) (H : List StepRecord) (r : StepRecord) (p : Result NetworkPart NetFault) → length (latest H).values ≡ length case.vars → 6 ≤ length case.vars → with_control case H p ≡ Ok r → length r.values ≡ length case.vars
record_count case H r (Ok network) count six e = control_count case H network r (control_step case H (measured_of network)) count six refl e
record_count case H r (Err fault) count six e = absurd (cc)

next_count : (case : Parts) (H : List StepRecord) (r : StepRecord) → length (latest H).values ≡ length case.vars → 6 ≤ length case.vars → next case H ≡ Ok r → length r.values ≡ length case.vars
unfolding next
next_count case H r count six e = record_count case H r (network_part case H) count six e

chain_count : (case : Parts) (H : List StepRecord) → 6 ≤ length case.vars → IsChain case H → length (latest H).values ≡ length case.vars
chain_count case [] six is = absurd is
chain_count case (r ∷ []) six is = ap (λ (x : StepRecord). length x.values) is ∙ length-replicate (length case.vars) _
chain_count case (r ∷ s ∷ past) six is = next_count case (s ∷ past) r (chain_count case (s ∷ past) six is.1) six is.0

-- ---- a step of a run

part_kept : (case : Parts) (H : List StepRecord) (network : NetworkPart) (part : ControlPart) (i : ℕ) (b : Block) → IsCase case → IsChain case H → length (latest H).values ≡ length case.vars → slice_get case.blocks i ≡ Some b
    → control_step case H (measured_of network) ≡ Ok part → KeepsLimits case H (record_of network part) b
unfolding control_step
part_kept case H network part i b fits run count at made =
    let first = then_ok (known_before case H (measured_of network)) (λ (k : SoFar). blocks case H k.values >>= completed case H k) part made in
    let known = first.0 in
    let out = variable_is_output case H (measured_of network) known part i b fits count first.1 made at in
    record {
      known = known;
      is = first.1;
      within = λ ordered. subst (IsWithinLimits (limit_of known.values b.low) (limit_of known.values b.high)) (sym out.1) (step_within case H known.values out.0 i b at ordered (chain_right case H known.values i b at run));
    }

control_kept : (case : Parts) (H : List StepRecord) (network : NetworkPart) (r : StepRecord) (q : Result ControlPart TacsFault) (i : ℕ) (b : Block) → IsCase case → IsChain case H → length (latest H).values ≡ length case.vars → slice_get case.blocks i ≡ Some b
    → control_step case H (measured_of network) ≡ q → joined case network q ≡ Ok r → KeepsLimits case H r b
control_kept case H network r (Ok part) i b fits run count at is e =
    let same : record_of network part ≡ r = same_ok _ r e in
    subst (λ (x : StepRecord). KeepsLimits case H x b) same (part_kept case H network part i b fits run count at is)
control_kept case H network r (Err fault) i b fits run count at is e = absurd (cc)

record_kept : (case : Parts) (H : List StepRecord) (r : StepRecord) (p : Result NetworkPart NetFault) (i : ℕ) (b : Block) → IsCase case → IsChain case H → length (latest H).values ≡ length case.vars → slice_get case.blocks i ≡ Some b → with_control case H p ≡ Ok r → KeepsLimits case H r b
record_kept case H r (Ok network) i b fits run count at e = control_kept case H network r (control_step case H (measured_of network)) i b fits run count at refl e
record_kept case H r (Err fault) i b fits run count at e = absurd (cc)

next_kept : (case : Parts) (H : List StepRecord) (r : StepRecord) (i : ℕ) (b : Block) → IsCase case → IsChain case H → slice_get case.blocks i ≡ Some b → next case H ≡ Ok r → KeepsLimits case H r b
unfolding next
next_kept case H r i b fits run at e =
    let card = read_all (IsBlock case.run (sizes_of case)) case.blocks i b fits.draft.control.blocks at in
    let six : 6 ≤ length case.vars = omega (arith, card.own, card.there) in
    record_kept case H r (network_part case H) i b fits run (chain_count case H six run) at e

chain_kept : (case : Parts) (H : List StepRecord) → IsCase case → IsChain case H → AreLimitsKept case H
chain_kept case [] fits is = tt
chain_kept case (r ∷ []) fits is = tt
chain_kept case (r ∷ s ∷ past) fits is = λ i b at. next_kept case (s ∷ past) r i b fits is.1 at is.0

pub run_keeps_limits : (case : Parts) (n : ℕ) → IsCase case → AreLimitsKept case (records_upto case n)
run_keeps_limits case n fits = chain_kept case (records_upto case n) fits (chain case n)
