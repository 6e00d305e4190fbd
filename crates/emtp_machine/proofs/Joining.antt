-- A step of the network and the control's after it, together.
use Rattle.std.proofs.Common.{◌≡◌, ◌∙◌, ap, subst, inr, ℕ, ◌+◌, ◌-◌, ◌≤◌, ℤ, List, [], ◌∷◌, Bool, false, true, Result, Ok, Err, refl, arith}
use Rattle.std.specs.Prelude.{Contains}
use Rattle.std.proofs.lemmas.List.Elements.{Contains-get_or}
use Rattle.emtp_case.specs.StepRecord.{StepRecord}
use Rattle.emtp_case.specs.declared.case.Parts.{Parts}
use Rattle.emtp_machine.specs.Machine.{IsNamed}
use Rattle.emtp_machine.specs.held.Controlled.{IsOf, StandsFor, StepsTo, Stops}
use Rattle.emtp_machine.specs.History.{end_at, next_redone, redone_by}
use Rattle.emtp_machine.specs.held.History.{next_ticks, ticks_by}
use Rattle.emtp_machine.specs.Next.{control_cause, control_fault, joined, measured_of, network_fault, next, node_name, record_of, variable_name, with_control}
use Rattle.emtp_machine.specs.declared.controlled.ControlledNetwork.{ControlledNetwork}
use Rattle.emtp_machine.specs.declared.end.End.{End}
use Rattle.emtp_net.specs.held.Fault.{IsNode}
use Rattle.emtp_net.specs.held.Network.{Net, StandsFor as NetworkStandsFor, StepsTo as NetworkStepsTo}
use Rattle.emtp_net.specs.Part.{NetworkPart}
use Rattle.emtp_net.specs.held.Part.{network_of}
use Rattle.emtp_net.specs.Redone.{net_redone, step_redone}
use Rattle.emtp_net.specs.held.Redone.{step_ticks}
use Rattle.emtp_net.specs.held.Stages.{step_adds}
use Rattle.emtp_net.specs.Step.{network_part}
use Rattle.emtp_net.specs.declared.fault.NetFault.{NetFault}
use Rattle.emtp_net.specs.declared.fault.NetFault.TheVariants.{Range, Residual, Tied, ZeroPivot}
use Rattle.emtp_tacs.specs.Part.{ControlPart}
use Rattle.emtp_tacs.specs.Redone.{control_redone, control_step_redone}
use Rattle.emtp_tacs.specs.held.Redone.{control_step_ticks}
use Rattle.emtp_tacs.specs.held.Stages.{NamesVariable}
use Rattle.emtp_tacs.specs.Step.{Measured, control_step}
use Rattle.emtp_tacs.specs.held.Tacs.{HeldControl, StandsFor as ControlStandsFor, StepsTo as ControlStepsTo}
use Rattle.emtp_tacs.specs.declared.fault.TacsFault.{TacsFault}

-- ---- the network refuses a step

redone-cause : (case : Parts) (fault : NetFault) (H : List StepRecord) → step_adds fault case H ≡ redone_by (network_fault case fault).cause case H
redone-cause case (Tied node) H = refl
redone-cause case (ZeroPivot node) H = refl
redone-cause case (Range node) H = refl
redone-cause case (Residual node x) H = refl

next_refused : (case : Parts) (H : List StepRecord) (fault : NetFault) → network_part case H ≡ Err fault → next case H ≡ Err (network_fault case fault)
unfolding next
next_refused case H fault is = ap (with_control case H) is

refused_by : (case : Parts) (s : ControlledNetwork) (step : ℕ) (H : List StepRecord) (fault : NetFault) (end : End) → network_part case H ≡ Err fault
    → s.network.redone ≡ net_redone s.network.case H + step_adds fault s.network.case H → IsOf case s → ControlStandsFor s.control H → end ≡ end_at step (network_fault case fault) → StepsTo (Err end) case s step H (next case H)
refused_by case s step H fault end is redone of_case control end_is =
    let network : s.network.redone ≡ net_redone case H + step_adds fault case H = subst (λ (c : Parts). s.network.redone ≡ net_redone c H + step_adds fault c H) of_case.network redone in
    let other : s.control.redone ≡ control_redone case H = subst (λ (c : Parts). s.control.redone ≡ control_redone c H) of_case.control control.redone in
    let stops : Stops case s step H end (network_fault case fault) = record {
      end_is = end_is;
      redone_is = omega (arith, network, other, redone-cause case fault H);
    } in
    rw (next_refused case H fault is) stops

-- the step of the network ended, and so does that of both
pub refused : (case : Parts) (s : ControlledNetwork) (step : ℕ) (H : List StepRecord) (e : NetFault) (end : End) (p : Result NetworkPart NetFault) → network_part case H ≡ p → NetworkStepsTo (Err e) s.network H p → IsOf case s → ControlStandsFor s.control H
    → end ≡ end_at step (network_fault case e) → StepsTo (Err end) case s step H (next case H)
refused case s step H e end (Ok part) is stops of_case control end_is = absurd stops
refused case s step H e end (Err fault) is stops of_case control end_is =
    refused_by case s step H fault end is stops.1 of_case control (end_is ∙ ap (λ (f : NetFault). end_at step (network_fault case f)) stops.0)

-- ---- the network makes a step

-- the network stands for the records and any further one with this part
abbrev pub Made : Net → List StepRecord → NetworkPart → Type 0
Made network H part = (r : StepRecord) → network_of r ≡ part → NetworkStandsFor network (r ∷ H)

-- a record with a network's part
abbrev some_record : NetworkPart → StepRecord
some_record part = record_of part (record { values = []; blocks = []; devices = [] })

-- what the control reads is the network's part of this step
abbrev pub shown : Net → Measured
shown network = record { voltages = network.voltages; currents = network.switch_currents; closed = network.closed }

-- the three lists that the control is given
pub shown_by : (network : Net) (voltages currents : List ℤ) (closed : List Bool) → voltages ≡ network.voltages → currents ≡ network.switch_currents → closed ≡ network.closed → record { voltages = voltages; currents = currents; closed = closed } ≡ shown network
shown_by network voltages currents closed one two three =
    ap (λ (xs : List ℤ). record { voltages = xs; currents = currents; closed = closed }) one
    ∙ ap (λ (xs : List ℤ). record { voltages = network.voltages; currents = xs; closed = closed }) two
    ∙ ap (λ (xs : List Bool). record { voltages = network.voltages; currents = network.switch_currents; closed = xs }) three

shown_is : (network : Net) (H : List StepRecord) (part : NetworkPart) → Made network H part → shown network ≡ measured_of part
shown_is network H part made =
    let stands = made (some_record part) refl in
    ap (λ (xs : List ℤ). record { voltages = xs; currents = network.switch_currents; closed = network.closed }) stands.voltages
    ∙ ap (λ (xs : List ℤ). record { voltages = part.voltages; currents = xs; closed = network.closed }) stands.switch_currents
    ∙ ap (λ (xs : List Bool). record { voltages = part.voltages; currents = part.switch_currents; closed = xs }) stands.closed

redone_after : (network : Net) (H : List StepRecord) (part : NetworkPart) → Made network H part → network.redone ≡ net_redone network.case H + step_redone network.case H
redone_after network H part made = (made (some_record part) refl).redone

next_joined : (case : Parts) (H : List StepRecord) (part : NetworkPart) (q : Result ControlPart TacsFault) → network_part case H ≡ Ok part → control_step case H (measured_of part) ≡ q → next case H ≡ joined case part q
unfolding next
next_joined case H part q is answer = ap (with_control case H) is ∙ ap (joined case part) answer

-- the control makes its step too: there is the next record
both_made : (case : Parts) (s : ControlledNetwork) (step : ℕ) (H : List StepRecord) (part : NetworkPart) (q : Result ControlPart TacsFault) → network_part case H ≡ Ok part → control_step case H (measured_of part) ≡ q → Made s.network H part
    → ControlStepsTo (Ok tt) s.control H q → StepsTo (Ok tt) case s step H (next case H)
both_made case s step H part (Ok control) is answer made steps =
    let stands : StandsFor s (record_of part control ∷ H) = record { network = made (record_of part control) refl; control = steps (record_of part control) refl } in
    rw (next_joined case H part (Ok control) is answer) stands
both_made case s step H part (Err fault) is answer made steps = absurd steps

control-cause : (case : Parts) (pivot : Bool) (H : List StepRecord) → redone_by (control_cause pivot) case H ≡ next_redone case H
control-cause case false H = refl
control-cause case true H = refl

-- the control ends the step
control_ended : (case : Parts) (s : ControlledNetwork) (step : ℕ) (H : List StepRecord) (part : NetworkPart) (e : TacsFault) (end : End) (q : Result ControlPart TacsFault) → network_part case H ≡ Ok part → control_step case H (measured_of part) ≡ q → Made s.network H part
    → ControlStepsTo (Err e) s.control H q → IsOf case s → end ≡ end_at step (control_fault case e) → StepsTo (Err end) case s step H (next case H)
control_ended case s step H part e end (Ok control) is answer made stops of_case end_is = absurd stops
control_ended case s step H part e end (Err fault) is answer made stops of_case end_is =
    let network : s.network.redone ≡ net_redone case H + step_redone case H = subst (λ (c : Parts). s.network.redone ≡ net_redone c H + step_redone c H) of_case.network (redone_after s.network H part made) in
    let other : s.control.redone ≡ control_redone case H + control_step_redone case H = subst (λ (c : Parts). s.control.redone ≡ control_redone c H + control_step_redone c H) of_case.control stops.1 in
    let halts : Stops case s step H end (control_fault case fault) = record {
      end_is = end_is ∙ ap (λ (f : TacsFault). end_at step (control_fault case f)) stops.0;
      redone_is = omega (arith, network, other, control-cause case fault.pivot H);
    } in
    rw (next_joined case H part (Err fault) is answer) halts

-- what the control answers, at what it read
answer_at : (case : Parts) (network : Net) (control now : HeldControl) (H : List StepRecord) (part : NetworkPart) (result : Result (Unit {0}) TacsFault) → control.case ≡ case → Made network H part
    → ControlStepsTo result now H (control_step control.case H (shown network)) → ControlStepsTo result now H (control_step case H (measured_of part))
answer_at case network control now H part result of_case made steps =
    subst (λ (m : Measured). ControlStepsTo result now H (control_step case H m)) (shown_is network H part made)
    (subst (λ (c : Parts). ControlStepsTo result now H (control_step c H (shown network))) of_case steps)

-- both made their step
pub steps_made : (case : Parts) (s : ControlledNetwork) (control : HeldControl) (step : ℕ) (H : List StepRecord) (p : Result NetworkPart NetFault) → network_part case H ≡ p → NetworkStepsTo (Ok tt) s.network H p → control.case ≡ case
    → ControlStepsTo (Ok tt) s.control H (control_step control.case H (shown s.network)) → StepsTo (Ok tt) case s step H (next case H)
steps_made case s control step H (Ok part) is made of_case steps = both_made case s step H part (control_step case H (measured_of part)) is refl made (answer_at case s.network control s.control H part (Ok tt) of_case made steps)
steps_made case s control step H (Err fault) is made of_case steps = absurd made

-- the network made its step, and the control ended
pub steps_ended : (case : Parts) (s : ControlledNetwork) (control : HeldControl) (step : ℕ) (H : List StepRecord) (e : TacsFault) (end : End) (p : Result NetworkPart NetFault) → network_part case H ≡ p → NetworkStepsTo (Ok tt) s.network H p → control.case ≡ case
    → ControlStepsTo (Err e) s.control H (control_step control.case H (shown s.network)) → IsOf case s → end ≡ end_at step (control_fault case e) → StepsTo (Err end) case s step H (next case H)
steps_ended case s control step H e end (Ok part) is made of_case stops both end_is = control_ended case s step H part e end (control_step case H (measured_of part)) is refl made (answer_at case s.network control s.control H part (Err e) of_case made stops) both end_is
steps_ended case s control step H e end (Err fault) is made of_case stops both end_is = absurd made

-- ---- rows eliminated

-- a step that ties two known voltages eliminates no row, and no step more than its matrix from the first changed row on
ticks_at_most : (case : Parts) (H : List StepRecord) (fault : NetFault) (before after : ℕ) → network_part case H ≡ Err fault → after ≤ before + step_ticks case H → ((node : ℕ) → network_part case H ≡ Err (Tied node) → after ≡ before)
    → after ≤ before + ticks_by (network_fault case fault).cause case H
ticks_at_most case H (Tied node) before after is most tied = omega (arith, tied node is)
ticks_at_most case H (ZeroPivot node) before after is most tied = most
ticks_at_most case H (Range node) before after is most tied = most
ticks_at_most case H (Residual node x) before after is most tied = most

pub refused_ticks : (case : Parts) (network : Net) (H : List StepRecord) (e : NetFault) (end : End) (step before after : ℕ) (p : Result NetworkPart NetFault) → network_part case H ≡ p → NetworkStepsTo (Err e) network H p
    → after ≤ before + step_ticks case H → ((node : ℕ) → network_part case H ≡ Err (Tied node) → after ≡ before) → end ≡ end_at step (network_fault case e) → after ≤ before + ticks_by end.cause case H
refused_ticks case network H e end step before after (Ok part) is stops most tied end_is = absurd stops
refused_ticks case network H e end step before after (Err fault) is stops most tied end_is =
    let cause = ap (λ (x : End). x.cause) end_is ∙ ap (λ (f : NetFault). (network_fault case f).cause) stops.0 in
    rw cause (ticks_at_most case H fault before after is most tied)

control_ticks_by : (case : Parts) (pivot : Bool) (H : List StepRecord) → ticks_by (control_cause pivot) case H ≡ next_ticks case H
control_ticks_by case false H = refl
control_ticks_by case true H = refl

pub ended_ticks : (case : Parts) (H : List StepRecord) (e : TacsFault) (end : End) (step before between after : ℕ) → between ≡ before + step_ticks case H → after ≤ between + control_step_ticks case H → end ≡ end_at step (control_fault case e)
    → after ≤ before + ticks_by end.cause case H
ended_ticks case H e end step before between after first second end_is =
    let cause = ap (λ (x : End). x.cause) end_is ∙ refl in
    rw cause (omega (arith, first, second, control_ticks_by case e.pivot H))

-- ---- names

pub node_named : (case : Parts) (node : ℕ) → IsNode case node → Contains case.nodes (node_name case node)
node_named case node is = Contains-get_or case.nodes (node - 1) [] (omega (arith, is.low, is.high))

pub variable_named : (case : Parts) (fault : TacsFault) → NamesVariable case fault → IsNamed case (variable_name case fault.var)
variable_named case fault is = inr (Contains-get_or case.vars fault.var [] is)
