use Rattle.std.proofs.Common.{◌≡◌, ◌∙◌, ap, sym, subst, refl, length, ℕ, ◌+◌, ◌++◌, ◌≤◌, List, Ok, Err, arith}
use Rattle.emtp_case.specs.declared.case.Parts.{Parts}
use Rattle.emtp_machine.proofs.Joining.{ended_ticks, refused, refused_ticks, shown_by, steps_ended, steps_made}
use Rattle.emtp_net.specs.held.Network.{StandsWith as NetworkStandsWith, StepsTo as NetworkStepsTo}
use Rattle.emtp_net.specs.held.Redone.{step_ticks}
use Rattle.emtp_net.specs.Step.{network_part}
use Rattle.emtp_net.specs.declared.fault.NetFault.TheVariants.{Tied}
use Rattle.emtp_tacs.specs.held.Redone.{control_step_ticks}
use Rattle.emtp_tacs.specs.Step.{Measured, control_step}
use Rattle.emtp_tacs.specs.held.Tacs.{StepsTo as ControlStepsTo}
use Rattle.emtp_machine.proofs.controlled.ControlledNetwork.step.Goals as goal

both_stay : {ns ns' cs cs' : List ℕ} → ns' ≡ ns → cs' ≡ cs → ns' ++ cs' ≡ ns ++ cs
both_stay {ns' = ns'} {cs = cs} network control = ap (λ (xs : List ℕ). ns' ++ xs) control ∙ ap (λ (xs : List ℕ). xs ++ cs) network

pub returns-in-Err-clause-step : goal.returns-in-Err-clause-step
returns-in-Err-clause-step g c = λ H stands.
    let case = c.args.case.now.parts in
    let both : NetworkStandsWith c.args.self.now.network c.values.result.now H = record { network = stands.network; control = c.values.ensures.value ∙ stands.control.values } in
    let answer = subst (λ (p : Parts). NetworkStepsTo (Err c.in-Err.fault) c.step.new.self H (network_part p H)) c.requires.case.network (c.in-Err.ensures.step H both) in
    refused case (record { network = c.step.new.self; control = c.args.self.now.control }) c.args.step H c.in-Err.fault c.network_end.result (network_part case H) refl answer
    (record { network = c.step.ensures.counts.case ∙ c.requires.case.network; control = c.requires.case.control }) stands.control c.network_end.ensures.value

pub returns-in-Err-clause-most : goal.returns-in-Err-clause-most
returns-in-Err-clause-most g c = λ H stands.
    let case = c.args.case.now.parts in
    let both : NetworkStandsWith c.args.self.now.network c.values.result.now H = record { network = stands.network; control = c.values.ensures.value ∙ stands.control.values } in
    let answer = subst (λ (p : Parts). NetworkStepsTo (Err c.in-Err.fault) c.step.new.self H (network_part p H)) c.requires.case.network (c.in-Err.ensures.step H both) in
    let most = subst (λ (p : Parts). c.step.new.steps ≤ c.args.steps.now + step_ticks p H) c.requires.case.network (c.step.ensures.ticks H both).most in
    let tied = λ (node : ℕ) (so : network_part case H ≡ Err (Tied node)). (c.step.ensures.ticks H both).tied node (subst (λ (p : Parts). network_part p H ≡ Err (Tied node)) (sym c.requires.case.network) so) in
    refused_ticks case c.step.new.self H c.in-Err.fault c.network_end.result c.args.step c.args.steps.now c.step.new.steps (network_part case H) refl answer most tied c.network_end.ensures.value

pub returns-in-Ok-clause-step : goal.returns-in-Ok-clause-step
returns-in-Ok-clause-step g c = λ H stands.
    let case = c.args.case.now.parts in
    let control = c.args.self.now.control in
    let both : NetworkStandsWith c.args.self.now.network c.values.result.now H = record { network = stands.network; control = c.values.ensures.value ∙ stands.control.values } in
    let answer = subst (λ (p : Parts). NetworkStepsTo (Ok tt) c.step.new.self H (network_part p H)) c.requires.case.network (c.in_default.ensures.step H both) in
    let lists = shown_by c.step.new.self c.voltages.result.now c.currents.result.now c.closed.result.now c.voltages.ensures.value c.currents.ensures.value c.closed.ensures.value in
    let steps = subst (λ (m : Measured). ControlStepsTo (Ok tt) c.step-2.new.self H (control_step control.case H m)) lists (c.in-Ok.ensures.step H stands.control) in
    steps_made case (record { network = c.step.new.self; control = c.step-2.new.self }) control c.args.step H (network_part case H) refl answer c.requires.case.control steps

pub returns-in-Err-step-clause-step : goal.returns-in-Err-step-clause-step
returns-in-Err-step-clause-step g c = λ H stands.
    let case = c.args.case.now.parts in
    let control = c.args.self.now.control in
    let both : NetworkStandsWith c.args.self.now.network c.values.result.now H = record { network = stands.network; control = c.values.ensures.value ∙ stands.control.values } in
    let answer = subst (λ (p : Parts). NetworkStepsTo (Ok tt) c.step.new.self H (network_part p H)) c.requires.case.network (c.in_default.ensures.step H both) in
    let lists = shown_by c.step.new.self c.voltages.result.now c.currents.result.now c.closed.result.now c.voltages.ensures.value c.currents.ensures.value c.closed.ensures.value in
    let stops = subst (λ (m : Measured). ControlStepsTo (Err c.in-Err-step.fault) c.step-2.new.self H (control_step control.case H m)) lists (c.in-Err-step.ensures.step H stands.control) in
    steps_ended case (record { network = c.step.new.self; control = c.step-2.new.self }) control c.args.step H c.in-Err-step.fault c.control_end.result (network_part case H) refl answer c.requires.case.control stops
    (record { network = c.step.ensures.counts.case ∙ c.requires.case.network; control = c.step-2.ensures.counts.case ∙ c.requires.case.control }) c.control_end.ensures.value

pub returns-in-Ok-clause-ticks : goal.returns-in-Ok-clause-ticks
returns-in-Ok-clause-ticks g c = λ H stands.
    let both : NetworkStandsWith c.args.self.now.network c.values.result.now H = record { network = stands.network; control = c.values.ensures.value ∙ stands.control.values } in
    let first = subst (λ (p : Parts). c.step.new.steps ≡ c.args.steps.now + step_ticks p H) c.requires.case.network (c.in_default.ensures.ticks H both).made in
    let second = subst (λ (p : Parts). c.step-2.new.steps ≡ c.step.new.steps + control_step_ticks p H) c.requires.case.control (c.in-Ok.ensures.ticks H stands.control).made in
    omega (arith, first, second)

pub returns-in-Err-step-clause-most : goal.returns-in-Err-step-clause-most
returns-in-Err-step-clause-most g c = λ H stands.
    let both : NetworkStandsWith c.args.self.now.network c.values.result.now H = record { network = stands.network; control = c.values.ensures.value ∙ stands.control.values } in
    let first = subst (λ (p : Parts). c.step.new.steps ≡ c.args.steps.now + step_ticks p H) c.requires.case.network (c.in_default.ensures.ticks H both).made in
    let second = subst (λ (p : Parts). c.step-2.new.steps ≤ c.step.new.steps + control_step_ticks p H) c.requires.case.control (c.step-2.ensures.ticks H stands.control).most in
    ended_ticks c.args.case.now.parts H c.in-Err-step.fault c.control_end.result c.args.step c.args.steps.now c.step.new.steps c.step-2.new.steps first second c.control_end.ensures.value

pub returns-in-Err-clause-capacities : goal.returns-in-Err-clause-capacities
returns-in-Err-clause-capacities g c = ap (λ (ns : List ℕ). ns ++ c.args.self.now.control.capacities) c.step.ensures.capacities

pub returns-in-Ok-clause-capacities : goal.returns-in-Ok-clause-capacities
returns-in-Ok-clause-capacities g c = both_stay c.step.ensures.capacities c.step-2.ensures.capacities

pub returns-in-Err-step-clause-capacities : goal.returns-in-Err-step-clause-capacities
returns-in-Err-step-clause-capacities g c = both_stay c.step.ensures.capacities c.step-2.ensures.capacities

pub returns-in-Ok-clause-case : goal.returns-in-Ok-clause-case
returns-in-Ok-clause-case g c = record { network = c.step.ensures.counts.case ∙ c.requires.case.network; control = c.step-2.ensures.counts.case ∙ c.requires.case.control }

pub returns-in-Err-step-clause-case : goal.returns-in-Err-step-clause-case
returns-in-Err-step-clause-case g c = record { network = c.step.ensures.counts.case ∙ c.requires.case.network; control = c.step-2.ensures.counts.case ∙ c.requires.case.control }

pub returns-in-Err-clause-case : goal.returns-in-Err-clause-case
returns-in-Err-clause-case g c = record { network = c.step.ensures.counts.case ∙ c.requires.case.network; control = c.requires.case.control }

pub step-requires-2-clause-measured : goal.step-requires-2-clause-measured
step-requires-2-clause-measured g c =
    let same : c.step.new.self.case ≡ c.args.self.now.control.case = c.step.ensures.counts.case ∙ c.requires.case.network ∙ sym c.requires.case.control in
    record {
      voltages = c.voltages.ensures.each ∙ ap (λ (p : Parts). length p.nodes + 1) same;
      currents = c.currents.ensures.each ∙ ap (λ (p : Parts). length p.switches) same;
      closed = c.closed.ensures.each ∙ ap (λ (p : Parts). length p.switches) same;
    }
