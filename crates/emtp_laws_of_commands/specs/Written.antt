-- The data file of a run, beside the run's records.
use Rattle.std.specs.Fmt.{signed_decimal}
use Rattle.std.specs.Prelude.{◌≡◌, ℕ, ◌+◌, ◌*◌, ◌<◌, ◌≤◌, ℤ, pos, ◌-ℤ◌, ◌*ℤ◌, unsigned_abs, false, if◌then◌else◌, List, [], ◌∷◌, ◌++◌, length, slice_index_or, codes, decimal}
use Rattle.emtp_case.specs.StepRecord.{StepRecord, latest}
use Rattle.emtp_case.specs.declared.case.Parts.{Parts}
use Rattle.emtp_comtrade.specs.Record.{end_of_line, is_status_at, joined, multiplier_at, state_at}
use Rattle.emtp_machine.specs.Channels.{sample_of}
use Rattle.emtp_machine.specs.History.{history, samples}
use Rattle.emtp_machine.specs.Laws.{IsBalanced, records_upto}

-- the samples of the run of a case, and how many they are
abbrev pub sampled : Parts → List (List ℤ)
sampled case = samples case (history case)

abbrev pub sample_count : Parts → ℕ
sample_count case = length (sampled case)

-- the records up to that of sample k, and what the channel at a place has in this one
abbrev pub records_of_sample : Parts → ℕ → List StepRecord
records_of_sample case k = records_upto case (k * case.run.every)

abbrev pub recorded : Parts → ℕ → ℕ → ℤ
recorded case k place = slice_index_or (sample_of case (latest (records_of_sample case k))) place (pos 0)

-- the multiplier that the configuration gives the channel at a place, in 1e-9
abbrev pub told_multiplier : Parts → ℕ → ℕ
told_multiplier case place = multiplier_at (sampled case) place

-- the line of sample k with these raw values: its number from 1, its time stamp from 0, the raw values of the analog channels,
-- and the states of the others
abbrev pub line_with : Parts → (ℕ → ℕ → ℤ) → ℕ → List ℕ
line_with case raw k =
    decimal (k + 1) ++ codes "," ++ decimal k
    ++ joined (length case.channels) (λ place. if is_status_at case place then [] else codes "," ++ signed_decimal (raw k place))
    ++ joined (length case.channels) (state_at case (sampled case) k)
    ++ end_of_line

-- These bytes tell the records of a case's run: a line a sample, in which each analog channel lies within half its multiplier of
-- its value in the sample's record; and in this record the currents at each node or group balance.
pub record TellsRecords (case : Parts) (bytes : List ℕ) : Type 0 where
  -- what stands for a channel in a sample
  pub raw : ℕ → ℕ → ℤ
  pub lines : bytes ≡ joined (sample_count case) (line_with case raw) ++ 26 ∷ []
  pub near : (k place : ℕ) → k < sample_count case → place < length case.channels → is_status_at case place ≡ false
      → 2 * unsigned_abs (recorded case k place -ℤ raw k place *ℤ pos (told_multiplier case place)) ≤ told_multiplier case place
  pub balanced : (k : ℕ) → k < sample_count case → IsBalanced case (records_of_sample case k)
