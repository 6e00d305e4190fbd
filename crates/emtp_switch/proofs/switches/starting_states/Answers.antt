use Rattle.std.proofs.Common.{◌∙◌, ap, length, sym, arith}
use Rattle.std.proofs.lemmas.List.{map_more, take_all}
use Rattle.std.specs.Prelude.{◌++◌, ◌∷◌, [], map, take}
use Rattle.emtp_case.specs.StepRecord.{starting_state}
use Rattle.emtp_case.specs.declared.switch.Switch.{Switch}
use Rattle.emtp_switch.proofs.switches.starting_states.Goals as goal

pub loop-switch-preserved : goal.loop-switch-preserved
loop-switch-preserved c =
    let xs = c.args.case.now.parts.switches in
    let at = c.loop-switch.switch-index in
    let inside = rw c.as_slice-switch-items.ensures at c.loop-switch-test.true in
    c.in_ok-push.ensures.items ∙ ap (λ l. l ++ c.starting_state.result ∷ []) c.loop-switch.invariant
    ∙ ap (λ x. map (λ (s : Switch). starting_state s.kind) (take at xs) ++ x ∷ []) (rw c.as_slice-switch-items.ensures at c.starting_state.ensures)
    ∙ sym (map_more (λ (s : Switch). starting_state s.kind) xs at _ inside)

pub returns : goal.returns
returns c =
    c.loop-switch.invariant
    ∙ ap (map (λ (s : Switch). starting_state s.kind)) (take_all c.loop-switch.switch-index c.args.case.now.parts.switches (omega (arith, c.loop-switch-test.false, ap length c.as_slice-switch-items.ensures)))
