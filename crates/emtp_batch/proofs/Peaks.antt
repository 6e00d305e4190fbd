-- The peaks of channels are in the range of their samples.
use Rattle.std.proofs.Common.{◌+◌, ◌<◌, ◌≤◌, ◌⊎◌, ℕ, zero, suc, ℤ, pos, Bool, true, false, List, [], ◌∷◌, All, ap, arith, inl, inr, length, unsigned_abs}
use Rattle.std.proofs.lemmas.Bool.{cases_lt}
use Rattle.std.proofs.lemmas.List.{get_or_past}
use Rattle.std.proofs.lemmas.Int.{ints}
use Rattle.std.proofs.lemmas.List.Elements.{All-cons, All-nil}
use Rattle.std.specs.Prelude.{if◌then◌else◌, slice_index_or}
use Rattle.emtp_case.specs.Channel.{is_status}
use Rattle.emtp_case.specs.declared.case.Parts.{Parts}
use Rattle.emtp_case.specs.declared.channel.Channel.{Channel}
use Rattle.emtp_fix.specs.declared.limit.TheConstants.{LARGEST_VALUE}
use Rattle.emtp_machine.specs.History.{history, samples}
use Rattle.emtp_machine.specs.Samples.{greatest, value_at}
use Rattle.emtp_batch.specs.Laws.{IsPeak}
use Rattle.emtp_batch.specs.Report.{peak_of_channel, peaks_from, report_of}

abbrev IsSmall : ℤ → Type 0
IsSmall v = unsigned_abs v ≤ LARGEST_VALUE

item_small : (xs : List ℤ) (k : ℕ) → All IsSmall xs → unsigned_abs (slice_index_or xs k (pos 0)) ≤ LARGEST_VALUE
item_small xs k small = by (cases_lt k (length xs))
  where
    by : (k < length xs) ⊎ (length xs ≤ k) → unsigned_abs (slice_index_or xs k (pos 0)) ≤ LARGEST_VALUE
    by (inr past) = omega (arith, ap unsigned_abs (get_or_past xs k (pos 0) past))
    by (inl within) = small k (pos 0) within

value_small : (rows : List (List ℤ)) (sample channel : ℕ) → All (All IsSmall) rows → unsigned_abs (value_at rows sample channel) ≤ LARGEST_VALUE
value_small rows sample channel small = by (cases_lt sample (length rows))
  where
    by : (sample < length rows) ⊎ (length rows ≤ sample) → unsigned_abs (value_at rows sample channel) ≤ LARGEST_VALUE
    by (inr past) = omega (arith, ap (λ row. unsigned_abs (slice_index_or row channel (pos 0))) (get_or_past rows sample [] past))
    by (inl within) = item_small (slice_index_or rows sample []) channel (small sample [] within)

pub greatest_small : (rows : List (List ℤ)) (channel n : ℕ) → All (All (λ (v : ℤ). unsigned_abs v ≤ LARGEST_VALUE)) rows → greatest rows channel n ≤ LARGEST_VALUE
greatest_small rows channel zero small = omega arith
greatest_small rows channel (suc n) small = omega (arith, greatest_small rows channel n small, value_small rows n channel small)

-- the peaks of all channels
pub peaks_within : (rows : List (List ℤ)) (place : ℕ) (channels : List Channel) → All (All (λ (v : ℤ). unsigned_abs v ≤ LARGEST_VALUE)) rows → All IsPeak (peaks_from rows place channels)
peaks_within rows place [] small = All-nil IsPeak
peaks_within rows place (channel ∷ more) small = by (is_status channel) (peaks_within rows (place + 1) more small)
  where
    here : IsPeak (peak_of_channel rows place)
    here = record { low = omega (arith, ints); high = greatest_small rows place (length rows) small }

    by : (b : Bool) → All IsPeak (peaks_from rows (place + 1) more) → All IsPeak (if b then peaks_from rows (place + 1) more else peak_of_channel rows place ∷ peaks_from rows (place + 1) more)
    by true later = later
    by false later = All-cons IsPeak (peak_of_channel rows place) (peaks_from rows (place + 1) more) here later

pub report_within : (case : Parts) → All (All (λ (v : ℤ). unsigned_abs v ≤ LARGEST_VALUE)) (samples case (history case)) → All IsPeak (report_of case).peaks
unfolding report_of
report_within case small = peaks_within (samples case (history case)) 0 case.channels small
