-- Beside `Groups`: what values hold for their proofs, and what premises say. No clause of the program reaches it.
use Rattle.emtp_case.specs.RowOrder.{Rows}
use Rattle.emtp_case.specs.declared.switch.Switch.{Switch}
use Rattle.std.specs.List.{Contains}
use Rattle.std.specs.Prelude.{◌≡◌, ◌≢◌, ◌<◌, List, slice_index, ℕ}
use Rattle.emtp_switch.specs.Groups.{from_at, to_at, known_nodes}

-- all switches end at nodes below n
pub record EndWithin (switches : List Switch) (n : ℕ) : Type 0 where
  pub from_there : (s : ℕ) → from_at switches s < n
  pub to_there : (s : ℕ) → to_at switches s < n

-- two nodes with a known voltage are in one group
pub record KnownMeet (rows : Rows) (labels : List ℕ) : Type 0 where
  pub one : ℕ
  pub other : ℕ
  pub one_known : Contains (known_nodes rows) one
  pub other_known : Contains (known_nodes rows) other
  pub apart : one ≢ other
  pub together : slice_index labels one ≡ slice_index labels other
