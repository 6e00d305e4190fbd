use Rattle.std.proofs.Common.{flat_map, take}
use Rattle.emtp_warnings.specs.AddsTo.{AddsTo}
use Rattle.emtp_warnings.specs.RecordWarnings.{source_warnings}
use Rattle.emtp_warnings.proofs.records.add_sources.Given as goal

abbrev pub invariant-loop-source : goal.invariant-loop-source
invariant-loop-source l = AddsTo l.initial.out.items (flat_map (source_warnings l.last) (take l.source-index l.sources)) l.out.items
