-- Beside `Command`: what values hold for their proofs, and what premises say. No clause of the program reaches it.
use Rattle.std.specs.Prelude.{List, Option, IfSome, IsTrue, All}
use Rattle.emtp_case.specs.declared.case.Parts.{Parts}
use Rattle.emtp_io.specs.Cabinet.{CabinetState}
use Rattle.emtp_machine.specs.Laws.{EndsWithin, SamplesBalance}
use Rattle.emtp_run.specs.Outcome.{HasRun, IsComplete}
use Rattle.emtp_run.specs.held.Outcome.{Ends}
use Rattle.emtp_run.specs.Words.{Task}
use Rattle.emtp_run.specs.declared.status.Status.{Status}
use Rattle.emtp_run.specs.Command.{outcome_for, cases_for, CreatesInTurn, OpensNothing, OpensOnce, TakesWithin}

-- what is promised of each case that is run
pub record HoldsOfRuns (cases : List Parts) : Type 0 where
  pub balance : All SamplesBalance cases
  pub names : All EndsWithin cases

-- what is promised of a call that asks for this, whatever it answers
pub record IsAnswered (task : Option Task) (status : Status) (old new : CabinetState) : Type 0 where
  pub unopened : OpensNothing task status old new
  pub opened : OpensOnce task status old new
  pub created : CreatesInTurn task status old new
  pub taken : IsTrue old.nature.tells → TakesWithin task status old new
  pub runs : IsTrue old.nature.tells → HasRun status → HoldsOfRuns (cases_for task old.nature.files)
  pub ends : Ends status (outcome_for task old.nature.files) old new
  pub complete : IsTrue old.nature.tells → IfSome (outcome_for task old.nature.files) (IsComplete status old new)
