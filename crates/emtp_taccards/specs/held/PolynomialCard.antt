-- Beside `PolynomialCard`: what values hold for their proofs, and what premises say. No clause of the program reaches it.
use Rattle.std.specs.Prelude.{All, List, pos, slice_index_or, ℕ, ℤ, ◌≤◌}
use Rattle.emtp_case.specs.held.Control.{HasWay}
use Rattle.emtp_netcards.specs.held.Fields.{IsSmall}

-- the coefficients of a card: each in its range, and in range while the bilinear rule takes it
pub record IsPolynomial (dt : ℤ) (order : ℕ) (card : List ℤ) : Type 0 where
  pub small : All IsSmall card
  pub way : (power : ℕ) → power ≤ order → HasWay dt (slice_index_or card power (pos 0)) power
