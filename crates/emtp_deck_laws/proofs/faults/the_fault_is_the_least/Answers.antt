use Rattle.emtp_deck_laws.proofs.DeckFaults.{accepted_without, refused_for_the_least}
use Rattle.emtp_deck_laws.proofs.JudgedLines.{judged_rise}
use Rattle.emtp_deck_laws.proofs.faults.the_fault_is_the_least.Goals as goal

pub returns : goal.returns
returns c = record { order = judged_rise; refused = refused_for_the_least; accepted = accepted_without }
