use Rattle.std.proofs.Common.{◌≡◌, ◌++◌, drop}
use Rattle.emtp_phasor_text.specs.Texts.{scan_line_texts}
use Rattle.emtp_phasor_text.proofs.texts.put_lines.Given as goal

-- the lines so far and those that are left are all lines
abbrev pub invariant-loop-line : goal.invariant-loop-line
invariant-loop-line l = l.text.items ++ scan_line_texts (drop l.line-index l.lines) ≡ l.fn.text.items ++ scan_line_texts l.lines
