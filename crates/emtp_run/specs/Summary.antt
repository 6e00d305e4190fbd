-- The one line that a trial leaves.
use Rattle.std.specs.Prelude.{ℕ, ◌==◌, if◌then◌else◌, List, ◌++◌, length, Option, Some, None, codes, decimal}
use Rattle.std.specs.Fmt.{signed_decimal}
use Rattle.std.specs.Prelude.{ℤ}
use Rattle.emtp_machine.specs.Samples.{greatest, total_of}
use Rattle.emtp_run.specs.Note.{done_text, ended_note}
use Rattle.emtp_machine.specs.declared.end.End.{End}

-- the greatest magnitude of the first channel, or 0 where there is none
abbrev pub peak_of : List (List ℤ) → ℕ → ℕ
peak_of rows channels = if channels == 0 then 0 else greatest rows 0 (length rows)

-- the peak, and the sum of all values
unfoldable pub sums_text : List (List ℤ) → ℕ → List ℕ
sums_text rows channels =
    codes " PEAK " ++ decimal (peak_of rows channels) ++ codes " SUM "
    ++ signed_decimal (total_of rows channels (length rows)) ++ codes "\n"

unfoldable pub trial_head : ℕ → List ℕ
trial_head number = codes "TRIAL " ++ decimal number

-- of the trial of a number, by its end or none, its steps, the redone rows, and the samples of so many channels
unfoldable pub trial_summary : ℕ → Option End → ℕ → ℕ → List (List ℤ) → ℕ → List ℕ
trial_summary number None steps redone rows channels =
    trial_head number ++ done_text steps (length rows) redone ++ sums_text rows channels
trial_summary number (Some end) steps redone rows channels = trial_head number ++ codes " " ++ ended_note end (length rows) redone
