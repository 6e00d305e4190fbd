-- What is true of every run, in the field's words.
use Rattle.std.specs.Prelude.{◌≡◌, ◌*◌, ◌<◌, ◌≤◌, ℕ, ℤ, List, [], length, slice_index_or, unsigned_abs, IfSome}
use Rattle.emtp_case.specs.StepRecord.{StepRecord, latest}
use Rattle.emtp_case.specs.declared.case.Parts.{Parts}
use Rattle.emtp_net.specs.Residual.{residual}
use Rattle.emtp_machine.specs.Channels.{sample_of}
use Rattle.emtp_machine.specs.History.{history, history_upto, samples}
use Rattle.emtp_machine.specs.Machine.{IsEnd}

-- in the last of the records the currents at each node, or at each group of nodes, add up to 0 within the tolerance. They are
-- those of the branch laws. A row that says no current equation (its node's voltage is known, or another's) has residual 0.
abbrev pub IsBalanced : Parts → List StepRecord → Type 0
IsBalanced case H = (row : ℕ) → row < length case.nodes → residual case H row ≤ unsigned_abs case.run.tolerance

-- the records up to step n
abbrev pub records_upto : Parts → ℕ → List StepRecord
records_upto case n = (history_upto case n).records

-- sample k has the values of record k times `every`, and in that record each row balances
pub record IsSampleOf (case : Parts) (rows : List (List ℤ)) (k : ℕ) : Type 0 where
  pub values : slice_index_or rows k [] ≡ sample_of case (latest (records_upto case (k * case.run.every)))
  pub balanced : IsBalanced case (records_upto case (k * case.run.every))

-- each sample of a case's run is that of a record in which each row balances
pub record SamplesBalance (case : Parts) : Type 0 where
  pub each : (k : ℕ) → k < length (samples case (history case)) → IsSampleOf case (samples case (history case)) k

-- where a case's run ends early, the end names a step of the run and a node or variable of the case
abbrev pub EndsWithin : Parts → Type 0
EndsWithin case = IfSome (history case).end (IsEnd case)
