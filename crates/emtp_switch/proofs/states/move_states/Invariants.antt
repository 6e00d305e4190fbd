use Rattle.emtp_switch.specs.held.Switching.{AreKept, AreLatest}
use Rattle.emtp_switch.proofs.Moving.{AreMoved}
use Rattle.emtp_switch.proofs.states.move_states.Given as goal

abbrev pub invariant-loop-s : goal.invariant-loop-s
invariant-loop-s l = AreMoved l.case.parts (λ H. AreKept l.initial.states l.before H × AreLatest l.step l.last.voltages.now l.last.currents.now l.last.values.now H) l.initial.states l.states l.s l.changed
