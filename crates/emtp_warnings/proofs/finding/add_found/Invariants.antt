use Rattle.std.proofs.Common.{take}
use Rattle.emtp_warnings.specs.AddsTo.{AddsTo}
use Rattle.emtp_warnings.specs.Finding.{found}
use Rattle.emtp_warnings.proofs.finding.add_found.Given as goal

abbrev pub invariant-loop-cause : goal.invariant-loop-cause
invariant-loop-cause l = AddsTo l.initial.out.items (found (take l.cause-index l.rows)) l.out.items
