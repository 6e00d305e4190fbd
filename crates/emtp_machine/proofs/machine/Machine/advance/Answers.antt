use Rattle.std.proofs.Common.{◌∙◌, ap, sym, length}
use Rattle.emtp_machine.proofs.Machines.{ends, has_room, is_left, is_running, may_step, passes, takes, written}
use Rattle.emtp_machine.proofs.Ticks.{ticks-ended, ticks-made}
use Rattle.emtp_machine.specs.History.{history_upto}
use Rattle.emtp_machine.specs.held.Machine.{tried_of}
use Rattle.emtp_machine.proofs.machine.Machine.advance.Goals as goal

pub step-requires-clause-left : goal.step-requires-clause-left
step-requires-clause-left g c =
    let m = c.self.inside in
    let case = m.case.now.parts in
    let none = is_running c.args.self.now case m.made m.end c.self.view_is c.requires.running c.self.invariant.ended in
    let left = is_left c.args.self.now case m.made m.end c.self.view_is none c.requires.left in
    may_step case m.made m.end m.network m.row.items m.samples none c.self.invariant left

pub take_sample-requires-clause-room : goal.take_sample-requires-clause-room
take_sample-requires-clause-room g c =
    let m = c.self.inside in
    let case = m.case.now.parts in
    let none = is_running c.args.self.now case m.made m.end c.self.view_is c.requires.running c.self.invariant.ended in
    let left = is_left c.args.self.now case m.made m.end c.self.view_is none c.requires.left in
    has_room case m.made m.row.items m.samples (history_upto case (tried_of m.made m.end)) c.self.invariant.samples_are c.if-self-case-eq0.true m.case.now.fits.draft.run.some_every left

pub invariant_of-self : goal.invariant_of-self
invariant_of-self g c =
    let m = c.self.inside in
    let case = m.case.now.parts in
    let none = is_running c.args.self.now case m.made m.end c.self.view_is c.requires.running c.self.invariant.ended in
    let left = is_left c.args.self.now case m.made m.end c.self.view_is none c.requires.left in
    let width = c.take_sample.ensures.width ∙ ap length c.deref_mut.ensures.value in
    let row = written c.take_sample.new.row m.row.items m.row.len (sym m.row.ok.0) width in
    let machine = takes case m.made m.end m.network c.step.new.self m.row.items c.take_sample.new.row m.samples c.take_sample.new.samples none c.self.invariant m.case.now.fits.draft.run.some_every left c.step.ensures.case c.in-Ok.ensures.step c.if-self-case-eq0.true width c.take_sample.ensures.samples in
    rw row machine

pub invariant_of-self-else-self-case-eq0 : goal.invariant_of-self-else-self-case-eq0
invariant_of-self-else-self-case-eq0 g c =
    let m = c.self.inside in
    let case = m.case.now.parts in
    let none = is_running c.args.self.now case m.made m.end c.self.view_is c.requires.running c.self.invariant.ended in
    let left = is_left c.args.self.now case m.made m.end c.self.view_is none c.requires.left in
    passes case m.made m.end m.network c.step.new.self m.row.items m.samples none c.self.invariant left c.step.ensures.case c.in-Ok.ensures.step c.if-self-case-eq0.false

pub invariant_of-self-in-Err : goal.invariant_of-self-in-Err
invariant_of-self-in-Err g c =
    let m = c.self.inside in
    let case = m.case.now.parts in
    let none = is_running c.args.self.now case m.made m.end c.self.view_is c.requires.running c.self.invariant.ended in
    let left = is_left c.args.self.now case m.made m.end c.self.view_is none c.requires.left in
    ends case m.made m.end m.network c.step.new.self m.row.items m.samples c.in-Err.end none c.self.invariant left c.step.ensures.case c.in-Err.ensures.step c.in-Err.ensures.number c.in-Err.ensures.named

pub returns-then-self-case-eq0-clause-ticks : goal.returns-then-self-case-eq0-clause-ticks
returns-then-self-case-eq0-clause-ticks g c =
    let m = c.self.inside in
    let case = m.case.now.parts in
    let none = is_running c.args.self.now case m.made m.end c.self.view_is c.requires.running c.self.invariant.ended in
    ticks-made c.args.self.now case m.made m.end m.network c.step.new.self m.row.items m.samples c.args.steps.now c.step.new.steps c.self.view_is none c.self.invariant c.in-Ok.ensures.step c.in-Ok.ensures.ticks

pub returns-else-self-case-eq0-clause-ticks : goal.returns-else-self-case-eq0-clause-ticks
returns-else-self-case-eq0-clause-ticks g c =
    let m = c.self.inside in
    let case = m.case.now.parts in
    let none = is_running c.args.self.now case m.made m.end c.self.view_is c.requires.running c.self.invariant.ended in
    ticks-made c.args.self.now case m.made m.end m.network c.step.new.self m.row.items m.samples c.args.steps.now c.step.new.steps c.self.view_is none c.self.invariant c.in-Ok.ensures.step c.in-Ok.ensures.ticks

pub returns-in-Err-clause-ticks : goal.returns-in-Err-clause-ticks
returns-in-Err-clause-ticks g c =
    let m = c.self.inside in
    let case = m.case.now.parts in
    let none = is_running c.args.self.now case m.made m.end c.self.view_is c.requires.running c.self.invariant.ended in
    ticks-ended c.args.self.now case m.made m.end m.network c.step.new.self m.row.items m.samples c.args.steps.now c.step.new.steps c.in-Err.end c.self.view_is none c.self.invariant c.in-Err.ensures.step c.in-Err.ensures.most
