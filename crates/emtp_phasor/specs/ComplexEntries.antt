-- The doubled matrix, read as one of complex numbers.
use Rattle.std.specs.Prelude.{◌≡◌, ℕ, ◌+◌, ◌*◌, neg_ℤ}
use Rattle.emtp_elim.specs.Matrix.{entry}
use Rattle.emtp_phasor.specs.Doubled.{Doubled, doubled_matrix}

-- where the network's row r meets its column c, the doubled matrix has g and -b over b and g
pub record IsComplexAt (s : Doubled) (r c : ℕ) : Type 0 where
  pub real : entry (doubled_matrix s) (2 * r + 1) (2 * c + 1) ≡ entry (doubled_matrix s) (2 * r) (2 * c)
  pub imaginary : entry (doubled_matrix s) (2 * r) (2 * c + 1) ≡ neg_ℤ (entry (doubled_matrix s) (2 * r + 1) (2 * c))
