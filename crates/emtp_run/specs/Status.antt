-- The number that the program exits with.
use Rattle.std.specs.Prelude.{ℕ}
use Rattle.emtp_run.specs.declared.status.Status.{Status}
use Rattle.emtp_run.specs.declared.status.Status.TheVariants.{Done, Usage, BadCard, Ended, ReadFault, WriteFault, NoMemory, Refused, Differs, BadRow}

abbrev pub exit_code : Status → ℕ
exit_code Done = 0
exit_code Usage = 1
exit_code BadCard = 2
exit_code Ended = 3
exit_code ReadFault = 4
exit_code WriteFault = 5
exit_code NoMemory = 6
exit_code Refused = 7
exit_code Differs = 8
exit_code BadRow = 9
