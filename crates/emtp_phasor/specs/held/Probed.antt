-- What is scanned, and its lines.
use Rattle.std.specs.Prelude.{ℤ, List, Some}
use Rattle.emtp_admittance.specs.Refusals.{judged_frequency}
use Rattle.emtp_admittance.specs.held.Probes.{IsProbe}
use Rattle.emtp_phasor.specs.Scanning.{answer_by, scan_lines}
use Rattle.emtp_phasor.specs.held.Scanning.{IsScan}
use Rattle.emtp_phasor.specs.declared.line.ScanAnswer.{ScanAnswer}
use Rattle.emtp_phasor.specs.declared.line.ScanLine.{ScanLine}
use Rattle.emtp_phasor.specs.declared.scanning.Probed.{Probed}

-- the source stands in the case, and the frequencies are few
pub record IsProbed (s : Probed) : Type 0 where
  pub probe : IsProbe s.case.now.parts s.probe.now
  pub span : IsScan s.span.first s.span.last s.span.by

-- the answer at a frequency
abbrev pub probed_answer : Probed → ℤ → ScanAnswer
probed_answer s freq = answer_by s.case.now.parts s.probe.now (judged_frequency s.case.now.parts (Some freq))

-- the lines of all frequencies
abbrev pub probed_lines : Probed → List ScanLine
probed_lines s = scan_lines s.case.now.parts s.probe.now s.span.first s.span.last s.span.by
