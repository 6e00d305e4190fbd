use Rattle.std.proofs.Common.{take}
use Rattle.emtp_listing.specs.Lines.{grouped, lines_text}
use Rattle.emtp_listing.specs.NetworkLines.{branch_group}
use Rattle.emtp_listing.specs.Puts.{Puts}
use Rattle.emtp_listing.proofs.sections.put_branches.Given as goal

abbrev pub invariant-loop-branch : goal.invariant-loop-branch
invariant-loop-branch l = Puts l.initial.out.items (lines_text (grouped (branch_group l.parts.nodes l.parts.points) (take l.branch-index l.parts.branches))) l.out.items
