use Rattle.emtp_phasor.proofs.SingleBranches.{single_branch_seen}
use Rattle.emtp_phasor.proofs.laws.single_branch_is_seen_as_r_and_x.Goals as goal

pub returns : goal.returns
returns c = single_branch_seen
