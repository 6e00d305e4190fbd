use Rattle.std.proofs.Common.{◌∙◌, sym, ap, ◌-◌, ◌++◌, ◌≤◌, drop, length, arith}
use Rattle.std.proofs.lemmas.List.{append-nil, length-drop}
use Rattle.emtp_phasor_text.proofs.Pieces.{no_resonance}
use Rattle.emtp_phasor_text.proofs.texts.put_resonances.Goals as goal

pub returns : goal.returns
returns c =
    let left = drop (c.loop-at.at - 2) c.args.lines.now in
    let few : length left ≤ 2 = omega (arith, length-drop (c.loop-at.at - 2) c.args.lines.now, c.loop-at-test.false) in
    sym (append-nil c.loop-at.text.items) ∙ ap (λ r. c.loop-at.text.items ++ r) (sym (no_resonance left few)) ∙ c.loop-at.invariant
