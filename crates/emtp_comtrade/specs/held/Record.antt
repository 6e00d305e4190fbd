-- Beside `Record`: what values hold for their proofs, and what premises say. No clause of the program reaches it.
use Rattle.std.specs.Prelude.{◌≡◌, ℕ, ◌+◌, ◌^◌, ◌<◌, ◌≤◌, ℤ, pos, false, List, length, slice_index_or}
use Rattle.emtp_case.specs.declared.case.Parts.{Parts}
use Rattle.emtp_machine.specs.Samples.{greatest}
use Rattle.emtp_comtrade.specs.declared.data.Sheet.{Sheet}
use Rattle.emtp_comtrade.specs.held.Multiplier.{IsMultiplier}
use Rattle.emtp_comtrade.specs.Record.{is_status_at, analog_before, multiplier_at}

-- the multipliers of the analog channels below a place, in order, and 1 after them
pub record MultipliersBelow (p : Parts) (samples : List (List ℤ)) (n : ℕ) (multipliers : List ℤ) : Type 0 where
  pub analog : (place : ℕ) → place < n → is_status_at p place ≡ false
      → slice_index_or multipliers (analog_before p place) (pos 0) ≡ pos (multiplier_at samples place)
  pub after : (c : ℕ) → analog_before p n ≤ c → c < 64 → slice_index_or multipliers c (pos 0) ≡ pos 1
  pub least : (place : ℕ) → place < n → is_status_at p place ≡ false
      → IsMultiplier (greatest samples place (length samples)) (multiplier_at samples place)

-- the multipliers of the analog channels, in order, and 1 after them
abbrev pub AreMultipliers : Parts → List (List ℤ) → List ℤ → Type 0
AreMultipliers p samples multipliers = MultipliersBelow p samples (length p.channels) multipliers

-- the samples are of the channels of the case, and these are their multipliers
pub record IsSheet (sheet : Sheet) : Type 0 where
  pub channels : sheet.samples.now.channels ≡ length sheet.case.now.parts.channels
  pub multipliers : AreMultipliers sheet.case.now.parts sheet.samples.now.rows sheet.multipliers.now

-- the greatest magnitudes of the channels in the first n samples, and of those below k in one more
pub record AreGreatest (rows : List (List ℤ)) (channels n k : ℕ) (magnitudes : List ℕ) : Type 0 where
  pub raised : (place : ℕ) → place < k → slice_index_or magnitudes place 0 ≡ greatest rows place (n + 1)
  pub left : (place : ℕ) → k ≤ place → place < channels → slice_index_or magnitudes place 0 ≡ greatest rows place n
  pub small : (place : ℕ) → place < channels → slice_index_or magnitudes place 0 ≤ 2 ^ 63
