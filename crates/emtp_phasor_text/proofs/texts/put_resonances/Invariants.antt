use Rattle.std.proofs.Common.{◌≡◌, ◌++◌, ◌-◌, drop}
use Rattle.emtp_phasor_text.specs.Texts.{resonance_lines}
use Rattle.emtp_phasor_text.proofs.texts.put_resonances.Given as goal

-- those so far and those of the lines that are left, with the two before them, are all
abbrev pub invariant-loop-at : goal.invariant-loop-at
invariant-loop-at l = l.text.items ++ resonance_lines (drop (l.at - 2) l.lines) ≡ l.fn.text.items ++ resonance_lines l.lines
