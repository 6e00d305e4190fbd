-- Beside `Matrix`: what values hold for their proofs, and what premises say. No clause of the program reaches it.
use Rattle.std.specs.Prelude.{◌≡◌, ℕ, ◌<◌, ◌≤◌, ℤ, neg_ℤ, unsigned_abs, List, length, map}
use Rattle.emtp_fix.specs.Items.{item}
use Rattle.emtp_elim.specs.Matrix.{Matrix, row_of}

-- the numbers with the opposite signs
abbrev pub opposites : List ℤ → List ℤ
opposites xs = map neg_ℤ xs

-- each row has as many entries as there are rows
abbrev pub IsSquare : Matrix → Type 0
IsSquare rows = (i : ℕ) → i < length rows → length (row_of rows i) ≡ length rows

-- no number of the list exceeds the limit in magnitude
abbrev pub AreWithin : ℕ → List ℤ → Type 0
AreWithin limit xs = (i : ℕ) → unsigned_abs (item xs i) ≤ limit
