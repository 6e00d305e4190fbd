-- The first row in which two matrices differ.
use Rattle.std.specs.Prelude.{ℕ, suc, [], ◌∷◌, if◌then◌else◌}
use Rattle.std.specs.Cmp.Lexicographic.{pointwise}
use Rattle.std.specs.Ordering.{int_eq}
use Rattle.emtp_elim.specs.Matrix.{Matrix}

-- the first row in which a new matrix differs from the old rows, or the number of old rows where none does
unfoldable pub first_change : Matrix → Matrix → ℕ
first_change [] new = 0
first_change (row ∷ old) [] = 0
first_change (row ∷ old) (other ∷ new) = if pointwise int_eq row other then suc (first_change old new) else 0
