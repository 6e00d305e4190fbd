-- The data file of a run tells its records within half a multiplier, and they balance.
use Rattle.std.proofs.Common.{◌≡◌, ◌∙◌, sym, subst, refl, ℕ, ◌+◌, ◌*◌, ◌<◌, ◌≤◌, ℤ, pos, ◌-ℤ◌, ◌*ℤ◌, unsigned_abs, false, List, [], ◌∷◌, ◌++◌, length, take, slice_get, slice_index_or, Option, Some, IsSomeAnd, Ok}
use Rattle.emtp_audit.proofs.AuditSame.{are-held}
use Rattle.emtp_card.specs.declared.cards.TheConstants.{MAX_BYTES}
use Rattle.emtp_case.specs.held.Case.{IsCase}
use Rattle.emtp_case.specs.declared.case.Parts.{Parts}
use Rattle.emtp_comtrade.specs.Record.{dat_line, dat_text, is_status_at, joined, raw_at}
use Rattle.emtp_fix.specs.Rounding.{near}
use Rattle.emtp_io.specs.Writes.{Written}
use Rattle.emtp_io.specs.declared.cabinet.Output.TheVariants.{Dat}
use Rattle.emtp_machine.proofs.RecordRanges.{samples_in_range}
use Rattle.emtp_machine.proofs.SampleRecords.{are_of}
use Rattle.emtp_machine.specs.History.{history}
use Rattle.emtp_machine.specs.Laws.{SamplesBalance}
use Rattle.emtp_machine.specs.Samples.{value_at}
use Rattle.emtp_run.specs.Command.{outcome}
use Rattle.emtp_run.specs.Outcome.{Outcome, ran, record_writes}
use Rattle.emtp_run.specs.Reading.{deck}
use Rattle.emtp_run.specs.Words.{Run, RunFiles, fits}
use Rattle.emtp_laws_of_commands.specs.Files.{run_words}
use Rattle.emtp_laws_of_commands.specs.Written.{TellsRecords, line_with, recorded, sample_count, sampled, told_multiplier}
use Rattle.emtp_laws_of_commands.proofs.AuditedRuns.{run_made, some_same}

-- the raw values as the data file has them: multiples of the channel's multiplier
raw_of : Parts → ℕ → ℕ → ℤ
raw_of p k place = near (value_at (sampled p) k place) (pos (told_multiplier p place))

lines_are : (p : Parts) → dat_text p (sampled p) ≡ joined (sample_count p) (line_with p (raw_of p)) ++ 26 ∷ []
unfolding dat_text dat_line raw_at raw_of
lines_are p = refl

pub run_tells : (p : Parts) → IsCase p → TellsRecords p (dat_text p (sampled p))
unfolding raw_of
run_tells p is = record { raw = raw_of p; lines = lines_are p; near = close; balanced = λ k there. (of_run.each k there).balanced }
  where
    of_run : SamplesBalance p
    of_run = are_of p is.draft.run.some_every

    held : (k place : ℕ) → k < sample_count p → place < length p.channels → is_status_at p place ≡ false
        → 2 * unsigned_abs (value_at (sampled p) k place -ℤ raw_of p k place *ℤ pos (told_multiplier p place)) ≤ told_multiplier p place
    held k place there place_there analog = (are-held p (sampled p) (samples_in_range p is) k place there place_there analog).close

    close : (k place : ℕ) → k < sample_count p → place < length p.channels → is_status_at p place ≡ false
        → 2 * unsigned_abs (recorded p k place -ℤ raw_of p k place *ℤ pos (told_multiplier p place)) ≤ told_multiplier p place
    close k place there place_there analog =
        subst (λ (row : List ℤ). 2 * unsigned_abs (slice_index_or row place (pos 0) -ℤ raw_of p k place *ℤ pos (told_multiplier p place)) ≤ told_multiplier p place)
        (of_run.each k there).values (held k place there place_there analog)

-- the second of the outputs is the data file, and tells them
pub data_tells : (p : Parts) → IsCase p → (f : RunFiles) (files : List ℕ → Option (List ℕ)) (text : List ℕ) (made : Outcome) → fits (run_words f) ≡ Some (Run f) → files f.case ≡ Some text → deck (take (MAX_BYTES + 1) text) ≡ Ok p
    → outcome (run_words f) files ≡ Some made → IsSomeAnd (slice_get made.writes 1) (λ (w : Written). (w.out ≡ Dat) × (w.name ≡ f.dat) × TellsRecords p w.bytes)
data_tells p fits_case f files text made e there is came =
    let same : made ≡ ran p (record_writes f p (history p)) = some_same made (ran p (record_writes f p (history p))) (sym came ∙ run_made f files text p e there is) in
    subst (λ (o : Outcome). IsSomeAnd (slice_get o.writes 1) (λ (w : Written). (w.out ≡ Dat) × (w.name ≡ f.dat) × TellsRecords p w.bytes)) (sym same) (refl, refl, run_tells p fits_case)
