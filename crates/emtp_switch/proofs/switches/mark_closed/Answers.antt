use Rattle.std.proofs.Common.{◌∙◌, sym, map, false, arith}
use Rattle.std.proofs.lemmas.List.{ext_get_or, get_or-map, length-map}
use Rattle.emtp_case.specs.StepRecord.{is_closed}
use Rattle.emtp_case.specs.declared.switch.SwitchState.TheVariants.{Waiting}
use Rattle.emtp_switch.proofs.switches.mark_closed.Goals as goal

pub returns : goal.returns
returns c =
    let states = c.args.states.now in
    ext_get_or false c.loop-s.out (map is_closed states) (omega (arith, length-map states is_closed))
    (λ k below. c.loop-s.invariant k (omega arith) ∙ sym (get_or-map is_closed states k Waiting false (omega arith)))
