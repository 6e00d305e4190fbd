-- The numbers of all records of a run, and of its samples, are in range.
use Rattle.std.proofs.Common.{◌≡◌, ◌∙◌, ap, subst, inl, inr, ℕ, zero, suc, ◌+◌, ◌*◌, ◌/◌, ◌%◌, ◌<◌, ◌≤◌, ℤ, pos, ◌-ℤ◌, Bool, true, false, if◌then◌else◌, All, List, [], ◌∷◌, length, get_or, map, slice_index, replicate, Option, Some, None, Result, Ok, Err, refl, arith}
use Rattle.std.proofs.Math.Nat.{le-div_iff_mul-le, suc-mul}
use Rattle.std.proofs.lemmas.Bool.{cases_eq}
use Rattle.std.proofs.lemmas.Int.{ints, clamps}
use Rattle.std.proofs.lemmas.List.Elements.{All-append, All-cons, All-head, All-map, All-nil, All-replicate, All-tail}
use Rattle.emtp_case.specs.Branch.{from_of, to_of}
use Rattle.emtp_case.specs.held.Case.{IsCase}
use Rattle.emtp_case.specs.RunData.{samples_of}
use Rattle.emtp_case.specs.held.RunData.{IsRun}
use Rattle.emtp_case.specs.StepRecord.{StepRecord, before_start, branch_at_rest, current_of, is_closed, latest, rest_of, switch_state_at, voltage_at}
use Rattle.emtp_case.specs.declared.branch.Branch.{Branch}
use Rattle.emtp_case.specs.declared.branch.Branch.TheVariants.{Line as OfLine, Lumped as OfLumped, Phase as OfPhase, Pseudo as OfPseudo}
use Rattle.emtp_case.specs.declared.case.Parts.{Parts}
use Rattle.emtp_case.specs.declared.channel.Channel.{Channel}
use Rattle.emtp_case.specs.declared.channel.Channel.TheVariants.{BranchCurrent, BranchVoltage, NodeVoltage, Status, SwitchCurrent, SwitchVoltage, Tacs}
use Rattle.emtp_case.specs.declared.switch.Switch.{Switch}
use Rattle.emtp_fix.proofs.Ranges.{IsSmall, item_small}
use Rattle.emtp_net.proofs.PartRanges.{IsPartInRange, part_small}
use Rattle.emtp_net.specs.Part.{NetworkPart}
use Rattle.emtp_net.specs.Step.{network_part}
use Rattle.emtp_net.specs.declared.fault.NetFault.{NetFault}
use Rattle.emtp_tacs.proofs.ValueRanges.{part_small as values_small}
use Rattle.emtp_tacs.specs.Part.{ControlPart}
use Rattle.emtp_tacs.specs.Step.{control_step}
use Rattle.emtp_tacs.specs.declared.fault.TacsFault.{TacsFault}
use Rattle.emtp_machine.proofs.Histories.{count, some_records}
use Rattle.emtp_machine.proofs.SampleRecords.{AreOf, last, running}
use Rattle.emtp_machine.proofs.Sampling.{none_yet, passed, taken}
use Rattle.emtp_machine.specs.Channels.{channel_value, sample_of, samples_in, within_range}
use Rattle.emtp_machine.specs.History.{History, advanced, after_step, history, history_upto, samples}
use Rattle.emtp_machine.specs.Laws.{records_upto}
use Rattle.emtp_machine.specs.Next.{Fault, joined, measured_of, next, record_of, with_control}
use Rattle.emtp_machine.specs.Ranges.{AreSamplesInRange, IsRecordInRange}
use Rattle.emtp_machine.specs.declared.end.End.{End}

-- ---- rest

rest_current : (b : Branch) → IsSmall (current_of (branch_at_rest b))
rest_current (OfLumped b) = omega arith
rest_current (OfLine b) = omega arith
rest_current (OfPseudo b) = omega arith
rest_current (OfPhase b) = omega arith

-- some zeros
zeros_small : (n : ℕ) → All IsSmall (replicate n (pos 0))
zeros_small n = All-replicate IsSmall n (pos 0) (omega arith)

rest_small : (case : Parts) → IsRecordInRange (rest_of case)
rest_small case = record {
  voltages = zeros_small (length case.nodes + 1);
  branch_currents = All-map IsSmall current_of (map branch_at_rest case.branches) (All-map (λ s. IsSmall (current_of s)) branch_at_rest case.branches (λ k d below. rest_current (get_or case.branches k d)));
  switch_currents = zeros_small (length case.switches);
  values = zeros_small (length case.vars);
}

-- ---- one step

joined_small : (part : NetworkPart) (control : ControlPart) (r : StepRecord) → IsPartInRange part → All IsSmall control.values → (let made : Result StepRecord Fault = Ok (record_of part control) in made) ≡ Ok r → IsRecordInRange r
joined_small part control r small values is =
    let same : record_of part control ≡ r = cc in
    subst IsRecordInRange same (record { voltages = small.voltages; branch_currents = small.branch_currents; switch_currents = small.switch_currents; values = values })

next_small : (case : Parts) (H : List StepRecord) (r : StepRecord) → IsCase case → length H ≤ case.run.steps → IsRecordInRange (latest H) → next case H ≡ Ok r → IsRecordInRange r
unfolding next
next_small case H r is few before made = by (network_part case H) refl made
  where
    by_control : (part : NetworkPart) (q : Result ControlPart TacsFault) → network_part case H ≡ Ok part → control_step case H (measured_of part) ≡ q → joined case part q ≡ Ok r → IsRecordInRange r
    by_control part (Ok control) network steps made =
        joined_small part control r (part_small case H part network) (values_small case H (measured_of part) control is.draft.run is.draft.control few before.values steps) made
    by_control part (Err fault) network steps made = absurd (cc)

    by : (p : Result NetworkPart NetFault) → network_part case H ≡ p → with_control case H p ≡ Ok r → IsRecordInRange r
    by (Ok part) network made = by_control part (control_step case H (measured_of part)) network refl made
    by (Err fault) network made = absurd (cc)

-- ---- all records

after_small : (case : Parts) (n : ℕ) (made : Result StepRecord Fault) → IsCase case → suc n ≤ case.run.steps → (history_upto case n).end ≡ None → All IsRecordInRange (records_upto case n) → next case (records_upto case n) ≡ made
    → All IsRecordInRange (after_step (history_upto case n) made).records
after_small case n (Ok r) is few running small made =
    let long = count case n running in
    let newest : IsRecordInRange (latest (records_upto case n)) = small 0 before_start (omega (arith, some_records case n)) in
    All-cons IsRecordInRange r (records_upto case n) (next_small case (records_upto case n) r is (omega (arith, long, few)) newest made) small
after_small case n (Err fault) is few running small made = small

advanced_small : (case : Parts) (n : ℕ) (end : Option End) → IsCase case → suc n ≤ case.run.steps → (history_upto case n).end ≡ end → All IsRecordInRange (records_upto case n) → All IsRecordInRange (advanced case (history_upto case n) end).records
advanced_small case n None is few ends small = after_small case n (next case (records_upto case n)) is few ends small refl
advanced_small case n (Some end) is few ends small = small

pub records_small : (case : Parts) (n : ℕ) → IsCase case → n ≤ case.run.steps → All IsRecordInRange (records_upto case n)
unfolding history_upto
records_small case zero is few = All-cons IsRecordInRange (rest_of case) [] (rest_small case) (All-nil IsRecordInRange)
records_small case (suc n) is few = advanced_small case n (history_upto case n).end is few refl (records_small case n is (omega (arith, few)))

-- ---- samples

within_small : (x : ℤ) → IsSmall (within_range x)
within_small x = omega (arith, ints, clamps)

status_small : (closed : Bool) → IsSmall (if closed then pos 1 else pos 0)
status_small true = omega arith
status_small false = omega arith

channel_small : (case : Parts) (r : StepRecord) (c : Channel) → IsRecordInRange r → IsSmall (channel_value case r c)
channel_small case r (NodeVoltage n) small = item_small r.voltages n small.voltages
channel_small case r (BranchCurrent b) small = item_small (map current_of r.branches) b small.branch_currents
channel_small case r (BranchVoltage b) small = within_small (voltage_at (slice_index (map from_of case.branches) b) r -ℤ voltage_at (slice_index (map to_of case.branches) b) r)
channel_small case r (SwitchCurrent s) small = item_small r.switch_currents s small.switch_currents
channel_small case r (SwitchVoltage s) small =
    within_small (voltage_at (slice_index (map (λ (x : Switch). x.from) case.switches) s) r -ℤ voltage_at (slice_index (map (λ (x : Switch). x.to) case.switches) s) r)
channel_small case r (Tacs v) small = item_small r.values v small.values
channel_small case r (Status s) small = status_small (is_closed (switch_state_at s r))

sample_small : (case : Parts) (r : StepRecord) → IsRecordInRange r → All IsSmall (sample_of case r)
sample_small case r small = All-map IsSmall (channel_value case r) case.channels (λ k d below. channel_small case r (get_or case.channels k d) small)

samples_small : (case : Parts) (H : List StepRecord) → All IsRecordInRange H → All (All IsSmall) (samples_in case H)
samples_small case [] small = rw (none_yet case) (All-nil (All IsSmall))
samples_small case (r ∷ past) small =
    let before = samples_small case past (All-tail IsRecordInRange r past small) in
    let one = All-cons (All IsSmall) (sample_of case r) [] (sample_small case r (All-head IsRecordInRange r past small)) (All-nil (All IsSmall)) in
    elim (cases_eq (length past % case.run.every) 0) [
      | inl due ↦ rw (taken case r past due) (All-append (All IsSmall) (samples_in case past) (sample_of case r ∷ []) before one)
      | inr due ↦ rw (passed case r past due) before
    ]

-- ---- how many samples there are

-- so many steps have one record more at most
count_after : (h : History) (made : Result StepRecord Fault) (n : ℕ) → length h.records ≤ n + 1 → length (after_step h made).records ≤ suc n + 1
count_after h (Ok r) n few = omega (arith, few)
count_after h (Err fault) n few = omega (arith, few)

count_advanced : (case : Parts) (h : History) (end : Option End) (n : ℕ) → length h.records ≤ n + 1 → length (advanced case h end).records ≤ suc n + 1
count_advanced case h None n few = count_after h (next case h.records) n few
count_advanced case h (Some end) n few = omega (arith, few)

most_records : (case : Parts) (n : ℕ) → length (records_upto case n) ≤ n + 1
unfolding history_upto
most_records case zero = omega arith
most_records case (suc n) = count_advanced case (history_upto case n) (history_upto case n).end n (most_records case n)

-- each every-th one of so many records
at_most : (taken made every steps : ℕ) → 1 ≤ every → taken * every ≤ made + every → made ≤ steps → taken ≤ steps / every + 1
at_most zero made every steps some most few = omega arith
at_most (suc k) made every steps some most few =
    let whole : suc k * every ≡ k * every + every = suc-mul k every in
    let below : k * every ≤ steps = omega (arith, whole, most, few) in
    let above : zero < every = omega (arith, some) in
    let within : k ≤ steps / every = (le-div_iff_mul-le {k = every} {x = k} {y = steps} above).1 below in
    omega (arith, within)

few_samples : (case : Parts) → IsRun case.run → length (samples case (history case)) ≤ samples_of case.run
few_samples case run =
    let last = last case case.run.steps in
    let are : AreOf case last.m (samples_in case (records_upto case last.m)) = running case run.some_every last.m last.none in
    let made : length (history case).records ≡ last.m + 1 = ap length last.same ∙ count case last.m last.none in
    let few : last.m ≤ case.run.steps = omega (arith, made, most_records case case.run.steps) in
    rw last.same (at_most (length (samples_in case (records_upto case last.m))) last.m case.run.every case.run.steps run.some_every are.counted.most few)

pub samples_in_range : (case : Parts) → IsCase case → AreSamplesInRange case (samples case (history case))
samples_in_range case is = record {
  few = few_samples case is.draft.run;
  small = samples_small case (history case).records (records_small case case.run.steps is (omega arith));
}
