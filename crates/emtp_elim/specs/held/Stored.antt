-- Finished rows as they are kept: of each row the numbers that are not 0, side by side, with their columns.
use Rattle.std.specs.Prelude.{◌≡◌, ℕ, zero, suc, ◌*◌, ◌+◌, ◌-◌, ◌<◌, ◌≤◌, ◌≢◌, nat_eq, ℤ, pos, List, length, slice_index, if◌then◌else◌}
use Rattle.emtp_elim.specs.Matrix.{Matrix, item, list_of, rows_of}
use Rattle.emtp_elim.specs.held.Clearing.{IsFinishedRow}
use Rattle.emtp_elim.specs.held.RowWords.{AreWordsOf, HasRoom}
use Rattle.emtp_elim.specs.declared.row_words.RowWords.{RowWords}
use Rattle.emtp_elim.specs.declared.limit.TheConstants.{MOST_ROWS}

-- the number that the n entries from place `first` on have in column j, or 0 where they have none
abbrev pub number_in : List ℕ → List ℤ → ℕ → ℕ → ℕ → ℤ
number_in columns values first zero j = pos 0
number_in columns values first (suc n) j =
    if nat_eq (slice_index columns (first + n)) j then item values (first + n) else number_in columns values first n j

-- the row of `size` numbers that has the entries from place `first` on and before `last`
unfoldable pub dense_row : ℕ → List ℕ → List ℤ → ℕ → ℕ → List ℤ
dense_row size columns values first last = list_of size (number_in columns values first (last - first))

-- the first rows, whose entries begin at these places and stand side by side
abbrev pub rows_kept : ℕ → ℕ → List ℕ → List ℕ → List ℤ → Matrix
rows_kept size count starts columns values =
    rows_of count (λ i. dense_row size columns values (slice_index starts i) (slice_index starts (i + 1)))

-- the entries from place `first` on and before `last` are numbers of the row, in rising columns, and its other numbers
-- from column `from` on and before `upto` are 0
pub record AreEntries (row : List ℤ) (from upto : ℕ) (columns : List ℕ) (values : List ℤ) (first last : ℕ) : Type 0 where
  pub order : first ≤ last
  pub few : last + from ≤ first + upto
  pub low : (e : ℕ) → first ≤ e → e < last → from ≤ slice_index columns e
  pub high : (e : ℕ) → first ≤ e → e < last → slice_index columns e < upto
  pub rising : (d e : ℕ) → first ≤ d → d < e → e < last → slice_index columns d < slice_index columns e
  pub value_is : (e : ℕ) → first ≤ e → e < last → item values e ≡ item row (slice_index columns e)
  pub others : (j : ℕ) → from ≤ j → j < upto → ((e : ℕ) → first ≤ e → e < last → slice_index columns e ≢ j) → item row j ≡ pos 0

-- the entries of the row are put from place `first` on, and those before it stay
pub record Packs (row : List ℤ) (from upto : ℕ) (columns new_columns : List ℕ) (values new_values : List ℤ)
    (first last : ℕ) : Type 0 where
  pub entries : AreEntries row from upto new_columns new_values first last
  pub same_columns : (e : ℕ) → e < first → slice_index new_columns e ≡ slice_index columns e
  pub same_values : (e : ℕ) → e < first → item new_values e ≡ item values e

-- row i of `size` numbers is kept as a finished one from place `first` on and before `last`: its ratios, then its pivot,
-- then the entries after it
pub record IsStoredRow (size i : ℕ) (columns : List ℕ) (values : List ℤ) (first pivot last : ℕ) : Type 0 where
  pub finished : IsFinishedRow size i (dense_row size columns values first last)
  pub in_columns : last ≤ length columns
  pub in_values : last ≤ length values
  pub ratios : AreEntries (dense_row size columns values first last) 0 i columns values first pivot
  pub pivot_within : pivot < last
  pub pivot_is : item values pivot ≡ item (dense_row size columns values first last) i
  pub later : AreEntries (dense_row size columns values first last) (i + 1) size columns values (pivot + 1) last

-- there is room for `size` rows, and the first ones are kept as finished
pub record AreStored (size count : ℕ) (starts pivots columns : List ℕ) (values : List ℤ) (words : RowWords) : Type 0 where
  pub few : size ≤ MOST_ROWS
  pub within : count ≤ size
  pub room_starts : length starts ≡ size + 1
  pub room_pivots : length pivots ≡ size
  pub room_columns : length columns ≡ size * size
  pub room_values : length values ≡ size * size
  pub room_words : HasRoom size words
  pub used : (i : ℕ) → i ≤ count → slice_index starts i ≤ i * size
  pub rising : (h i : ℕ) → h ≤ i → i ≤ count → slice_index starts h ≤ slice_index starts i
  pub each : (i : ℕ) → i < count
      → IsStoredRow size i columns values (slice_index starts i) (slice_index pivots i) (slice_index starts (i + 1))
  pub words_are : (i : ℕ) → i < count → AreWordsOf i values (slice_index starts i) (slice_index pivots i) words
