-- How a call ends that tells of the run of a case.
use Rattle.std.specs.Prelude.{List, Option, Some, None, ℕ}
use Rattle.emtp_assess.specs.Telling.{judged_of}
use Rattle.emtp_assess.specs.declared.words.Question.{Question}
use Rattle.emtp_inspect.specs.Showing.{RefusesWords, Shows}
use Rattle.emtp_io.specs.Cabinet.{CabinetState}
use Rattle.emtp_run.specs.declared.status.Status.{Status}

-- by what the words ask for: a file is read and what its bytes give is told, or the words don't fit
abbrev pub Assesses : Option (Question × List ℕ) → Status → CabinetState → CabinetState → Type 0
Assesses None status old new = RefusesWords status old new
Assesses (Some a) status old new = Shows (judged_of a.0) a.1 status old new
