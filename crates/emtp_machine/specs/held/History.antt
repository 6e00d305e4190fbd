-- Beside `History`: what values hold for their proofs, and what premises say. No clause of the program reaches it.
use Rattle.std.specs.Prelude.{ℕ, ◌+◌, List, length, Option, Some, None}
use Rattle.emtp_case.specs.StepRecord.{StepRecord}
use Rattle.emtp_case.specs.declared.case.Parts.{Parts}
use Rattle.emtp_net.specs.held.Redone.{net_ticks, step_ticks}
use Rattle.emtp_tacs.specs.held.Redone.{control_step_ticks, control_ticks}
use Rattle.emtp_machine.specs.declared.end.Cause.{Cause}
use Rattle.emtp_machine.specs.declared.end.Cause.TheVariants.{Range, Residual, TacsPivot, TacsRange, Tied, ZeroPivot}
use Rattle.emtp_machine.specs.declared.end.End.{End}
use Rattle.emtp_machine.specs.History.{History, history, redone}

-- the rows of both matrices that the steps of the records eliminated
abbrev pub rows_eliminated : Parts → List StepRecord → ℕ
rows_eliminated case H = net_ticks case H + control_ticks case H

-- those that the next step eliminates
abbrev pub next_ticks : Parts → List StepRecord → ℕ
next_ticks case H = step_ticks case H + control_step_ticks case H

-- the most rows that the step of an end eliminates
abbrev pub ticks_by : Cause → Parts → List StepRecord → ℕ
ticks_by Tied case H = 0
ticks_by ZeroPivot case H = step_ticks case H
ticks_by Range case H = step_ticks case H
ticks_by Residual case H = step_ticks case H
ticks_by TacsPivot case H = next_ticks case H
ticks_by TacsRange case H = next_ticks case H

abbrev pub ticks_in : Option End → Parts → List StepRecord → ℕ
ticks_in None case H = 0
ticks_in (Some end) case H = ticks_by end.cause case H

-- the rows eliminated in all steps; at most so many where the history has an end
abbrev pub ticks : Parts → History → ℕ
ticks case h = rows_eliminated case h.records + ticks_in h.end case h.records

-- the rows that a whole run eliminates: all of the first step, and then those redone; at most so many where the run ends early
abbrev pub rows_of_run : Parts → ℕ
rows_of_run case = length case.nodes + length case.blocks + redone case (history case)
