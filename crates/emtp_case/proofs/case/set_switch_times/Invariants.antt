use Rattle.emtp_case.proofs.SwitchTimes.{AreSetUpTo}
use Rattle.emtp_case.proofs.case.set_switch_times.Given as goal

abbrev pub invariant-loop-at : goal.invariant-loop-at
invariant-loop-at l = AreSetUpTo l.at l.next l.initial.switches l.switches l.times
