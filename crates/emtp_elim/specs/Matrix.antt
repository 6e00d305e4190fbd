-- Matrices of whole numbers, each the list of its rows.
use Rattle.std.specs.Prelude.{ℕ, zero, suc, ℤ, pos, ◌+ℤ◌, ◌*ℤ◌, List, [], map, slice_index_or}
use Rattle.std.specs.List.{range_with_len}
pub use Rattle.emtp_fix.specs.Items.{item}

abbrev pub Matrix : Type 0
Matrix = List (List ℤ)

-- a row, which is empty past the last one
abbrev pub row_of : Matrix → ℕ → List ℤ
row_of rows i = slice_index_or rows i []

-- the number in row i and column j, or 0 outside the matrix
abbrev pub entry : Matrix → ℕ → ℕ → ℤ
entry rows i j = item (row_of rows i) j

-- the list of the n numbers that f gives
abbrev pub list_of : ℕ → (ℕ → ℤ) → List ℤ
list_of n f = map f (range_with_len 0 n)

-- the matrix of the n rows that f gives
abbrev pub rows_of : ℕ → (ℕ → List ℤ) → Matrix
rows_of n f = map f (range_with_len 0 n)

-- the matrix of n rows and n columns whose entries f gives
abbrev pub matrix_of : ℕ → (ℕ → ℕ → ℤ) → Matrix
matrix_of n f = rows_of n (λ i. list_of n (f i))

-- the first n products of two lists, place by place, added up
abbrev pub products : List ℤ → List ℤ → ℕ → ℤ
products xs ys zero = pos 0
products xs ys (suc n) = products xs ys n +ℤ item xs n *ℤ item ys n
