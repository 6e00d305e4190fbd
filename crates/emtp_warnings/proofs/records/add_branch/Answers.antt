use Rattle.std.proofs.Common.{ap, ℕ}
use Rattle.emtp_warnings.proofs.Recording.{branch-added}
use Rattle.emtp_warnings.proofs.records.add_branch.Goals as goal

pub returns : goal.returns
returns c =
    branch-added c.args.case.now.parts c.args.branch.now c.line.result c.ends-from.result.0 c.ends-from.result.1
    c.line.ensures (ap (λ (ends : ℕ × ℕ). ends.0) c.ends-from.ensures) (ap (λ (ends : ℕ × ℕ). ends.1) c.ends-from.ensures)
    c.in_ok-add_ends.ensures c.in_ok-add_values.ensures c.in_ok-add_acting.ensures
