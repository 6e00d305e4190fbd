-- Gauss's elimination from the first row on, without exchange of rows, in whole numbers. One number of each product
-- is in units of 1e-12, and each product and quotient is rounded to the nearest whole number.
use Rattle.std.specs.Prelude.{ℕ, zero, suc, ◌-◌, nat_lt, ℤ, pos, ◌-ℤ◌, ◌*ℤ◌, List, [], ◌∷◌, length, drop, if◌then◌else◌}
use Rattle.emtp_fix.specs.Rounding.{near}
use Rattle.emtp_fix.specs.declared.limit.TheConstants.{PICO}
use Rattle.emtp_elim.specs.Matrix.{Matrix, item, row_of, entry, list_of, rows_of, products}

-- a less the product of m and p
abbrev pub less_product : ℤ → ℤ → ℤ → ℤ
less_product a m p = a -ℤ near (m *ℤ p) PICO

-- a / p
abbrev pub quotient : ℤ → ℤ → ℤ
quotient a p = near (a *ℤ PICO) p

-- by how much of row k row i is to be lessened
abbrev pub ratio : Matrix → ℕ → ℕ → ℤ
ratio rows k i = quotient (entry rows i k) (entry rows k k)

-- column k is cleared from every later row
abbrev pub cleared : ℕ → Matrix → Matrix
cleared k rows = rows_of (length rows) (λ i. list_of (length (row_of rows i)) (λ j.
    if nat_lt k i then (if nat_lt k j then less_product (entry rows i j) (ratio rows k i) (entry rows k j) else pos 0)
    else entry rows i j))

-- the matrix once the first k columns have been cleared
unfoldable pub stage : Matrix → ℕ → Matrix
stage rows zero = rows
stage rows (suc k) = cleared k (stage rows k)

-- the same work on the right side
abbrev pub cleared_right : ℕ → Matrix → List ℤ → List ℤ
cleared_right k rows right = list_of (length right) (λ i.
    if nat_lt k i then less_product (item right i) (ratio rows k i) (item right k) else item right i)

-- the right side once the first k columns have been cleared
unfoldable pub stage_right : Matrix → List ℤ → ℕ → List ℤ
stage_right rows right zero = right
stage_right rows right (suc k) = cleared_right k (stage rows k) (stage_right rows right k)

-- the unknown of row k of a triangular system, from those of the later rows
abbrev pub unknown : Matrix → List ℤ → ℕ → List ℤ → ℤ
unknown rows right k later =
    near (item right k *ℤ PICO -ℤ products (drop (suc k) (row_of rows k)) later (length later)) (entry rows k k)

-- the last n unknowns of a triangular system, from the last row back
unfoldable pub last_unknowns : Matrix → List ℤ → ℕ → List ℤ
last_unknowns rows right zero = []
last_unknowns rows right (suc n) =
    unknown rows right (length rows - suc n) (last_unknowns rows right n) ∷ last_unknowns rows right n

-- all unknowns
abbrev pub solution : Matrix → List ℤ → List ℤ
solution rows right = last_unknowns (stage rows (length rows)) (stage_right rows right (length rows)) (length rows)
