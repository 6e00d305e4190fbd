use Rattle.std.proofs.Common.{◌≢◌, ◌∙◌, ap, is_some, None}
use Rattle.emtp_machine.proofs.Machines.{over-ended}
use Rattle.emtp_machine.proofs.machine.Machine.is_over.Goals as goal

pub returns-then-is_some-clause-over : goal.returns-then-is_some-clause-over
returns-then-is_some-clause-over c =
    let m = c.self.inside in
    let some : m.end ≢ None = λ none. let wrong = c.is_some.ensures ∙ ap is_some none in cc in
    let over = over-ended c.args.self.now m.case.now.parts m.network m.row.items m.samples m.made m.end c.self.view_is c.self.invariant some in
    rw c.if-is_some.true over
