use Rattle.std.proofs.Common.{flat_map, take}
use Rattle.emtp_warnings.specs.AddsTo.{AddsTo}
use Rattle.emtp_warnings.specs.RecordWarnings.{switch_warnings}
use Rattle.emtp_warnings.proofs.records.add_switches.Given as goal

abbrev pub invariant-loop-switch : goal.invariant-loop-switch
invariant-loop-switch l = AddsTo l.initial.out.items (flat_map (switch_warnings l.case.parts) (take l.switch-index l.case.parts.switches)) l.out.items
