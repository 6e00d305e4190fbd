-- The records of a case from rest on, and the end of a run that stops early. Nothing but the case is in them.
use Rattle.std.specs.Prelude.{ℕ, zero, suc, ◌+◌, ℤ, List, [], ◌∷◌, length, Option, Some, None, Result, Ok, Err}
use Rattle.emtp_case.specs.StepRecord.{StepRecord, rest_of}
use Rattle.emtp_case.specs.declared.case.Parts.{Parts}
use Rattle.emtp_net.specs.Redone.{net_redone, step_redone}
use Rattle.emtp_tacs.specs.Redone.{control_redone, control_step_redone}
use Rattle.emtp_machine.specs.Channels.{samples_in}
use Rattle.emtp_machine.specs.Next.{Fault, next}
use Rattle.emtp_machine.specs.declared.end.Cause.{Cause}
use Rattle.emtp_machine.specs.declared.end.Cause.TheVariants.{Range, Residual, TacsPivot, TacsRange, Tied, ZeroPivot}
use Rattle.emtp_machine.specs.declared.end.End.{End}

-- the records, newest first and rest last, and the end of a step after them
pub record History : Type 0 where
  pub records : List StepRecord
  pub end : Option End

-- the end of a step, which has as many records behind it
abbrev pub end_at : ℕ → Fault → End
end_at step fault = record { step = step; name = fault.name; cause = fault.cause; measured = fault.measured }

-- the record of a step, or its end
abbrev pub after_step : History → Result StepRecord Fault → History
after_step h (Ok r) = record h { records = r ∷ h.records }
after_step h (Err fault) = record h { end = Some (end_at (length h.records) fault) }

-- one step more; after its end a history stays
abbrev pub advanced : Parts → History → Option End → History
advanced case h None = after_step h (next case h.records)
advanced case h (Some end) = h

-- the history up to step n
unfoldable pub history_upto : Parts → ℕ → History
history_upto case zero = record { records = rest_of case ∷ []; end = None }
history_upto case (suc n) = advanced case (history_upto case n) (history_upto case n).end

-- the history of a case: all its steps, or those before its end
abbrev pub history : Parts → History
history case = history_upto case case.run.steps

-- the samples of a history
abbrev pub samples : Parts → History → List (List ℤ)
samples case h = samples_in case h.records

-- ---- rows redone

-- the rows of the network's matrix and of the control's that the steps of the records redid
abbrev pub rows_redone : Parts → List StepRecord → ℕ
rows_redone case H = net_redone case H + control_redone case H

-- those that the next step redoes
abbrev pub next_redone : Parts → List StepRecord → ℕ
next_redone case H = step_redone case H + control_step_redone case H

-- the rows that the step of an end redoes: none where the switches tie two known voltages, since no matrix is made; those
-- of the network alone where the control wasn't reached
abbrev pub redone_by : Cause → Parts → List StepRecord → ℕ
redone_by Tied case H = 0
redone_by ZeroPivot case H = step_redone case H
redone_by Range case H = step_redone case H
redone_by Residual case H = step_redone case H
redone_by TacsPivot case H = next_redone case H
redone_by TacsRange case H = next_redone case H

abbrev pub redone_in : Option End → Parts → List StepRecord → ℕ
redone_in None case H = 0
redone_in (Some end) case H = redone_by end.cause case H

-- the rows redone from the second step on, those of the end's step among them
abbrev pub redone : Parts → History → ℕ
redone case h = rows_redone case h.records + redone_in h.end case h.records
