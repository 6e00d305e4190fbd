use Rattle.emtp_deck_laws.proofs.WalkedFront.{front_decides}
use Rattle.emtp_deck_laws.proofs.faults.lines_behind_a_fault_do_not_matter.Goals as goal

pub returns : goal.returns
returns c = front_decides
