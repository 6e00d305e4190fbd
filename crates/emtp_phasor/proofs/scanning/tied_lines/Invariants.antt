use Rattle.std.proofs.Common.{◌≡◌, map}
use Rattle.std.specs.List.{range_with_len}
use Rattle.emtp_phasor.specs.Scanning.{frequency_at, line_at}
use Rattle.emtp_phasor.proofs.scanning.tied_lines.Given as goal

abbrev pub invariant-loop-k : goal.invariant-loop-k
invariant-loop-k l = l.lines.items ≡ map (λ k. line_at l.probed.case.now.parts l.probed.probe.now (frequency_at l.probed.span.first l.probed.span.by k)) (range_with_len 0 l.k)
