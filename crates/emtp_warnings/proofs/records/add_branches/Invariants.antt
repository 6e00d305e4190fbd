use Rattle.std.proofs.Common.{flat_map, take}
use Rattle.emtp_warnings.specs.AddsTo.{AddsTo}
use Rattle.emtp_warnings.specs.RecordWarnings.{branch_warnings}
use Rattle.emtp_warnings.proofs.records.add_branches.Given as goal

abbrev pub invariant-loop-branch : goal.invariant-loop-branch
invariant-loop-branch l = AddsTo l.initial.out.items (flat_map (branch_warnings l.case.parts) (take l.branch-index l.case.parts.branches)) l.out.items
