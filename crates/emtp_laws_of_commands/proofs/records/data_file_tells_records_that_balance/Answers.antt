use Rattle.std.proofs.Common.{◌+◌, take}
use Rattle.emtp_card.specs.declared.cards.TheConstants.{MAX_BYTES}
use Rattle.emtp_laws_of_commands.proofs.AcceptedBytes.{bytes_are_case}
use Rattle.emtp_laws_of_commands.proofs.WrittenRuns.{data_tells}
use Rattle.emtp_laws_of_commands.proofs.records.data_file_tells_records_that_balance.Goals as goal

pub returns : goal.returns
returns c names files text p made e there is came = data_tells p (bytes_are_case (take (MAX_BYTES + 1) text) p is) names files text made e there is came
