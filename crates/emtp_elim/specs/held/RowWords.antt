-- The words of the ratios of finished rows.
use Rattle.std.specs.Prelude.{◌≡◌, ◌≢◌, ℕ, ◌*◌, ◌+◌, ◌-◌, ◌/◌, ◌^◌, ◌<◌, ◌≤◌, ℤ, List, length, slice_index_or, true, false, unsigned_abs}
use Rattle.emtp_fix.specs.held.Ratio.{IsRatioWord}
use Rattle.emtp_elim.specs.Matrix.{item}
use Rattle.emtp_elim.specs.declared.row_words.RowWords.{RowWords}

-- the ratios from place `first` on and before `pivot` are below 2, and have their words from place `from` on
pub record HaveWords (values words : List ℤ) (first pivot from : ℕ) : Type 0 where
  pub small : (e : ℕ) → first ≤ e → e < pivot → unsigned_abs (item values e) < 2 * 10 ^ 12
  pub word_is : (e : ℕ) → first ≤ e → e < pivot → IsRatioWord (item values e) (item words (from + (e - first)))

-- there is room for the words of `size` rows
pub record HasRoom (size : ℕ) (words : RowWords) : Type 0 where
  pub has_words : length words.has_words.items ≡ size
  pub ratio_words : length words.ratio_words.items ≡ size * size / 2
  pub dividers : length words.dividers.items ≡ size

-- where row i has its words they are those of its ratios, from place `first` on and before `pivot`
abbrev pub AreWordsOf : ℕ → List ℤ → ℕ → ℕ → RowWords → Type 0
AreWordsOf i values first pivot words =
    slice_index_or words.has_words.items i false ≡ true → HaveWords values words.ratio_words.items first pivot (i * i / 2)

-- the words of row i are put, and those of earlier rows stay
pub record KeepsWords (size i : ℕ) (values : List ℤ) (first pivot : ℕ) (old new : RowWords) : Type 0 where
  pub room : HasRoom size new
  pub words : AreWordsOf i values first pivot new
  pub others : (h : ℕ) → h ≢ i → slice_index_or new.has_words.items h false ≡ slice_index_or old.has_words.items h false
  pub earlier : (w : ℕ) → w < i * i / 2 → item new.ratio_words.items w ≡ item old.ratio_words.items w
