use Rattle.emtp_laws_of_commands.proofs.RowsOfBatches.{row_is_run_of_cards}
use Rattle.emtp_laws_of_commands.proofs.rows.row_is_the_run_of_the_cards_with_its_times.Goals as goal

pub returns : goal.returns
returns c = row_is_run_of_cards
