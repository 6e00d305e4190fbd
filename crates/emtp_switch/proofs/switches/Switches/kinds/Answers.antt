use Rattle.std.proofs.Common.{◌∙◌, ◌<◌, ◌≤◌, length, sym, subst}
use Rattle.emtp_case.specs.held.RowKinds.{AreKinds}
use Rattle.emtp_switch.specs.held.Switching.{Switching}
use Rattle.emtp_switch.proofs.RowKinds.{kinds_are, tied_there}
use Rattle.emtp_switch.proofs.switches.Switches.kinds.Goals as goal

pub returns-in-None-clause-are : goal.returns-in-None-clause-are
returns-in-None-clause-are c = λ few.
    let s = c.self.inside in
    let kept = c.self.invariant in
    subst (λ (x : Switching). AreKinds (length x.case.nodes) x.rows.fixed c.copy_from_slice.new.self) c.self.view_is
    (kinds_are s.case.now.parts s.order s.plan s.states.items c.copy_from_slice.new.self kept.plan_is (sym kept.groups_are.tied ∙ c.in-None.is)
    (subst (λ (x : Switching). x.rows.fixed ≤ length x.case.nodes) (sym c.self.view_is) few) (c.copy_from_slice.ensures.after ∙ c.deref.ensures.value ∙ kept.groups_are.kinds))

pub returns-in-Some-clause-there : goal.returns-in-Some-clause-there
returns-in-Some-clause-there c =
    let s = c.self.inside in
    let kept = c.self.invariant in
    subst (λ (x : Switching). c.in-Some.switch < length x.case.switches) c.self.view_is (tied_there s.case.now.parts s.order s.states.items c.in-Some.switch kept.states_size (sym kept.groups_are.tied ∙ c.in-Some.is))
