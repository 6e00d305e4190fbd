use Rattle.std.proofs.Common.{◌∙◌, ap, subst}
use Rattle.emtp_case.specs.declared.case.Parts.{Parts}
use Rattle.emtp_machine.specs.held.Machine.{Progress}
use Rattle.emtp_machine.proofs.Machines.{steps_of}
use Rattle.emtp_machine.proofs.Ticks.{run-all, run-most, whole_history}
use Rattle.emtp_machine.proofs.SampleRecords.{are_of}
use Rattle.emtp_machine.specs.Laws.{SamplesBalance}
use Rattle.emtp_machine.proofs.machine.Machine.run.Goals as goal

pub returns-clause-rows : goal.returns-clause-rows
returns-clause-rows g c = λ fresh.
    let m = c.self.inside in
    let some = steps_of c.args.self.now c.steps.self m.case.now.parts m.made m.end c.steps.invariant.same_case c.self.view_is m.case.now.fits.draft.run.some_steps in
    run-all c.args.self.now c.steps.self c.args.steps.now c.steps.steps m.case.now.parts m.made m.end c.steps.invariant.ticked c.steps.invariant.same_case c.steps-test.ensures.over (whole_history c.args.self.now.case some) c.self.view_is c.self.invariant.ended fresh

pub returns-clause-most : goal.returns-clause-most
returns-clause-most g c = λ fresh.
    let m = c.self.inside in
    let some = steps_of c.args.self.now c.steps.self m.case.now.parts m.made m.end c.steps.invariant.same_case c.self.view_is m.case.now.fits.draft.run.some_steps in
    run-most c.args.self.now c.steps.self c.args.steps.now c.steps.steps c.steps.invariant.ticked c.steps.invariant.same_case c.steps-test.ensures.over (whole_history c.args.self.now.case some) fresh

pub returns-clause-balance : goal.returns-clause-balance
returns-clause-balance g c =
    let case = c.self.inside.case.now in
    subst (λ (p : Parts). SamplesBalance p) (ap (λ (q : Progress). q.case) c.self.view_is ∙ c.steps.invariant.same_case) (are_of case.parts case.fits.draft.run.some_every)
