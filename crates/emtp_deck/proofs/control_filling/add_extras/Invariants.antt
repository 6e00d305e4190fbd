use Rattle.std.proofs.Common.{◌≡◌, ◌+◌, take, fold, length}
use Rattle.std.specs.List.{sum_by}
use Rattle.emtp_case.specs.HistoryValues.{history_values_of}
use Rattle.emtp_deck.specs.ControlFilling.{with_extra}
use Rattle.emtp_sense.specs.ControlSense.{entry_history_values}
use Rattle.emtp_deck.proofs.control_filling.add_extras.Given as goal

abbrev pub invariant-loop-entry : goal.invariant-loop-entry
invariant-loop-entry l = record {
  same : l.draft.parts ≡ fold (with_extra l.variables.keys l.points) l.initial.draft.parts (take l.entry-index l.entries);
  vars : l.draft.parts.vars ≡ l.initial.draft.parts.vars;
  run : l.draft.parts.run ≡ l.initial.draft.parts.run;
  room : length l.draft.parts.extras ≡ length l.initial.draft.parts.extras + l.entry-index;
  sum : l.history ≡ sum_by (entry_history_values l.initial.draft.parts.run.dt) (take l.entry-index l.entries);
  history : history_values_of l.draft.parts ≡ history_values_of l.initial.draft.parts + l.history;
}
