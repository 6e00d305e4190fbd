-- What a call does, by its words.
use Rattle.std.specs.Prelude.{List, Option, Some, None, ℕ}
use Rattle.emtp_inspect.specs.AfterRun.{TellsAfter}
use Rattle.emtp_inspect.specs.Asking.{PastRun}
use Rattle.emtp_inspect.specs.Showing.{ShowsOrExplains}
use Rattle.emtp_inspect.specs.declared.words.Wanted.{Wanted}
use Rattle.emtp_io.specs.Cabinet.{CabinetState}
use Rattle.emtp_run.specs.declared.status.Status.{Status}

-- it tells what the status of a run means, or of a file what is asked, or what words of a note mean
abbrev pub Inspects : Option PastRun → Option (Wanted × List ℕ) → Option (List ℕ) → Status → CabinetState → CabinetState → Type 0
Inspects None asked meaning status old new = ShowsOrExplains asked meaning status old new
Inspects (Some run) asked meaning status old new = TellsAfter run.status run.note run.words status old new
