use Rattle.emtp_deck_laws.proofs.RefusedSwitches.{refused_switch}
use Rattle.emtp_deck_laws.proofs.faults.a_switch_card_is_refused_for_its_least_fault.Goals as goal

pub returns : goal.returns
returns c = refused_switch
