use Rattle.std.proofs.Common.{◌≡◌, ℕ, ◌<◌, slice_index_or, false}
use Rattle.emtp_case.specs.StepRecord.{is_closed}
use Rattle.emtp_case.specs.declared.switch.SwitchState.TheVariants.{Waiting}
use Rattle.emtp_switch.proofs.switches.mark_closed.Given as goal

abbrev pub invariant-loop-s : goal.invariant-loop-s
invariant-loop-s l = (k : ℕ) → k < l.s → slice_index_or l.out k false ≡ is_closed (slice_index_or l.states k Waiting)
