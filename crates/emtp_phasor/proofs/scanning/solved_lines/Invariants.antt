use Rattle.emtp_phasor.specs.held.HeldLines.{HasLines}
use Rattle.emtp_phasor.proofs.scanning.solved_lines.Given as goal

abbrev pub invariant-loop-k : goal.invariant-loop-k
invariant-loop-k g l = HasLines l.probed.case.now.parts l.probed.probe.now l.probed.span.first l.probed.span.by l.system l.lines.items l.k
