-- A finished row as the work on later rows and right sides sees it.
use Rattle.std.specs.Prelude.{◌≡◌, ◌≤◌, ◌+◌, ℕ, ℤ, List, length, true}
use Rattle.emtp_elim.specs.held.RowWords.{HaveWords}
use Rattle.emtp_elim.specs.held.Stored.{dense_row, IsStoredRow}
use Rattle.emtp_elim.specs.declared.row.FinishedRow.{FinishedRow}

-- the numbers of a row, of which there are `size`
abbrev pub numbers : ℕ → FinishedRow → List ℤ
numbers size row = dense_row size row.columns.now row.values.now row.first row.last

-- it is row i of `size` numbers, and finished
abbrev pub IsRow : ℕ → ℕ → FinishedRow → Type 0
IsRow size i row = IsStoredRow size i row.columns.now row.values.now row.first row.pivot row.last

-- where row i has words, they are those of its ratios
pub record HasWords (i : ℕ) (row : FinishedRow) : Type 0 where
  pub room : row.words_from + i ≤ length row.ratio_words.now
  pub words : row.has_words ≡ true → HaveWords row.values.now row.ratio_words.now row.first row.pivot row.words_from
