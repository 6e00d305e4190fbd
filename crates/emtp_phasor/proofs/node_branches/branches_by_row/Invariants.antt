use Rattle.std.proofs.Common.{◌≡◌, map}
use Rattle.std.specs.List.{range_with_len}
use Rattle.emtp_case.specs.NodeRows.{node_at}
use Rattle.emtp_phasor.specs.held.HeldBranches.{branches_at}
use Rattle.emtp_phasor.proofs.node_branches.branches_by_row.Given as goal

abbrev pub invariant-loop-row : goal.invariant-loop-row
invariant-loop-row l = l.rows.items ≡ map (λ i. branches_at l.case.parts (node_at l.case.parts i)) (range_with_len 0 l.row)
