-- One column cleared from a row, by the finished row whose pivot stands there.
use Rattle.std.specs.Prelude.{◌≡◌, ◌≢◌, ◌⊎◌, ℕ, ◌<◌, ◌≤◌, ℤ, pos, unsigned_abs, List, length}
use Rattle.emtp_fix.specs.declared.limit.TheConstants.{LARGEST_ENTRY, LARGEST_RATIO}
use Rattle.emtp_elim.specs.Matrix.{item}
use Rattle.emtp_elim.specs.Elimination.{less_product, quotient}

-- what holds of the numbers of finished row i: ratios, then entries, and a pivot
pub record IsFinishedRow (size i : ℕ) (row : List ℤ) : Type 0 where
  pub length_is : length row ≡ size
  pub ratios : (j : ℕ) → j < i → unsigned_abs (item row j) ≤ LARGEST_RATIO
  pub entries : (j : ℕ) → i ≤ j → unsigned_abs (item row j) ≤ LARGEST_ENTRY
  pub nonzero : item row i ≢ pos 0

-- an entry after column k leaves its range when m times the row above is taken away
abbrev pub LeavesRange : ℤ → ℕ → List ℤ → List ℤ → Type 0
LeavesRange m k old above =
    (j : ℕ) × (k < j) × (j < length old) × (LARGEST_ENTRY < unsigned_abs (less_product (item old j) m (item above j)))

-- column k has been cleared: the ratio stands in its place, and neither it nor an entry left its range
pub record IsClearedRow (k : ℕ) (old above new : List ℤ) : Type 0 where
  pub before : (j : ℕ) → j < k → item new j ≡ item old j
  pub ratio_is : item new k ≡ quotient (item old k) (item above k)
  pub after : (j : ℕ) → k < j → j < length old → item new j ≡ less_product (item old j) (item new k) (item above j)
  pub ratio_within : unsigned_abs (item new k) ≤ LARGEST_RATIO
  pub within : (j : ℕ) → k < j → j < length old → unsigned_abs (item new j) ≤ LARGEST_ENTRY

-- the ratio or an entry leaves its range when column k is cleared
abbrev pub LeavesRangeAt : ℕ → List ℤ → List ℤ → Type 0
LeavesRangeAt k old above =
    (LARGEST_RATIO < unsigned_abs (quotient (item old k) (item above k)))
    ⊎ LeavesRange (quotient (item old k) (item above k)) k old above
