use Rattle.std.specs.Prelude.{◌≡◌, map, take}
use Rattle.emtp_case.specs.StepRecord.{starting_state}
use Rattle.emtp_case.specs.declared.switch.Switch.{Switch}
use Rattle.emtp_switch.proofs.switches.starting_states.Given as goal

abbrev pub invariant-loop-switch : goal.invariant-loop-switch
invariant-loop-switch l = l.states.items ≡ map (λ (s : Switch). starting_state s.kind) (take l.switch-index l.case.parts.switches)
