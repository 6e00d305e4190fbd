-- The texts that the run of a case leaves.
use Rattle.std.specs.Prelude.{ℕ, ◌-◌, List, length}
use Rattle.emtp_case.specs.declared.case.Parts.{Parts}
use Rattle.emtp_machine.specs.History.{History, redone, samples}
use Rattle.emtp_run.specs.Note.{note_by}
use Rattle.emtp_run.specs.Summary.{trial_summary}

-- the note of a case's history; rest is no step
abbrev pub run_note : Parts → History → List ℕ
run_note case h = note_by h.end (length h.records - 1) (length (samples case h)) (redone case h)

-- the summary of the trial of a number
abbrev pub trial_text : ℕ → Parts → History → List ℕ
trial_text number case h =
    trial_summary number h.end (length h.records - 1) (redone case h) (samples case h) (length case.channels)
