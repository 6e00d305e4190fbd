-- The chain of a steady state, link by link.
use Rattle.std.proofs.Common.{◌≡◌, ℕ, ℤ, List, Some, Result, Ok, Err, IfOk, IfErr, OnOk, None, refl}
use Rattle.emtp_elim.specs.Outcome.{outcome}
use Rattle.emtp_case.specs.EndNames.{node_of_switch}
use Rattle.emtp_case.specs.held.EndNames.{IsNode}
use Rattle.emtp_case.specs.RowOrder.{order_of}
use Rattle.emtp_case.specs.StepRecord.{rest_of}
use Rattle.emtp_case.specs.declared.case.Parts.{Parts}
use Rattle.emtp_switch.specs.Groups.{tied_of}
use Rattle.emtp_admittance.specs.Impedance.{ports_of}
use Rattle.emtp_phasor.specs.Steady.{State, ending_at, doubled_system, steady_right, doubled_solution, steady}
use Rattle.emtp_phasor.specs.held.Steady.{AreGood, IsSteady, judged_volts}
use Rattle.emtp_phasor.specs.held.Ending.{EndsSteady}
use Rattle.emtp_phasor.specs.Volts.{phasors_of}
use Rattle.emtp_admittance.specs.declared.admittance.TwoPort.{TwoPort}
use Rattle.emtp_machine.specs.declared.end.Cause.TheVariants.{Tied}
use Rattle.emtp_phasor.specs.declared.ending.Ending.{Ending}
use Rattle.emtp_phasor.specs.declared.phasor.Phasor.{Phasor}

-- a fault of the elimination ends it
pub steady_fault : (case : Parts) (freq : ℤ) (e : Ending) → tied_of case.switches (order_of case) (rest_of case).switch_states ≡ None → doubled_solution case freq ≡ Err e → steady case freq ≡ Err e
unfolding steady
steady_fault case freq e free fault = rw (free, fault) refl

-- else it is what is made of the voltages
pub steady_from : (case : Parts) (freq : ℤ) (x : List ℤ) (ports : List TwoPort) (volts : List Phasor) (r : Result State Ending) → tied_of case.switches (order_of case) (rest_of case).switch_states ≡ None → outcome (doubled_system case freq) (steady_right case) ≡ Ok x
    → ports ≡ ports_of case freq → volts ≡ phasors_of case x → judged_volts case ports volts ≡ r → steady case freq ≡ r
unfolding steady
steady_from case freq x ports volts r free solved are is judges =
    let known = rw (are, is) at judges in
    rw (free, solved) known

-- the same of the two answers
pub good_from : (case : Parts) (freq : ℤ) (x : List ℤ) (ports : List TwoPort) (volts : List Phasor) (result : Result ℤ Ending) → tied_of case.switches (order_of case) (rest_of case).switch_states ≡ None → outcome (doubled_system case freq) (steady_right case) ≡ Ok x
    → ports ≡ ports_of case freq → volts ≡ phasors_of case x → IfOk result (λ g. AreGood case ports volts g) → IfOk result (λ g. IsSteady case freq volts g)
good_from case freq x ports volts (Ok g) free solved are is good = (steady_from case freq x ports volts _ free solved are is good.0, good.1)
good_from case freq x ports volts (Err e) free solved are is good = good

pub fault_from : (case : Parts) (freq : ℤ) (x : List ℤ) (ports : List TwoPort) (volts : List Phasor) (result : Result ℤ Ending) → tied_of case.switches (order_of case) (rest_of case).switch_states ≡ None → outcome (doubled_system case freq) (steady_right case) ≡ Ok x
    → ports ≡ ports_of case freq → volts ≡ phasors_of case x → IfErr result (λ e. judged_volts case ports volts ≡ Err e) → IfErr result (λ e. steady case freq ≡ Err e)
fault_from case freq x ports volts (Ok g) free solved are is fault = fault
fault_from case freq x ports volts (Err e) free solved are is fault = steady_from case freq x ports volts _ free solved are is fault

-- two known voltages that are tied end it
pub steady_tied : (case : Parts) (freq : ℤ) (switch : ℕ) (e : Ending) → tied_of case.switches (order_of case) (rest_of case).switch_states ≡ Some switch → e ≡ ending_at (node_of_switch case switch) Tied → steady case freq ≡ Err e
unfolding steady
steady_tied case freq switch e tied is = rw (tied, is) refl

-- what holds anyway holds of a good answer
pub on_ok : {A B : Type 0} (r : Result A B) (P : Type 0) → P → OnOk r P
on_ok (Ok x) P p = p
on_ok (Err e) P p = tt

-- an end and its node
pub ends_steady : (case : Parts) (freq : ℤ) (r : Result ℤ Ending) → IfErr r (λ e. steady case freq ≡ Err e) → IfErr r (λ e. IsNode case e.node) → IfErr r (EndsSteady case freq)
ends_steady case freq (Ok g) is node = tt
ends_steady case freq (Err e) is node = record { is = is; node = node }
