use Rattle.std.proofs.Common.{refl}
use Rattle.emtp_net.proofs.Ending.{branch_ends}
use Rattle.emtp_net.proofs.branches.Branches.accept.Goals as goal

pub returns-in-Ok-clause-moves : goal.returns-in-Ok-clause-moves
returns-in-Ok-clause-moves c = λ H stands. c.in-Ok.ensures.moves H stands

pub returns-in-Err-clause-moves : goal.returns-in-Err-clause-moves
returns-in-Err-clause-moves c = λ H stands voltages.
    record { is = branch_ends c.args.case.now.parts H c.args.voltages.now c.in-Err.at c.branch_name.result voltages (c.in-Err.ensures.moves H stands) c.branch_name.ensures.value; adds = refl }
