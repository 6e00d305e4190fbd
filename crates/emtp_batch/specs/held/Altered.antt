-- Beside `Altered`: what values hold for their proofs, and what premises say. No clause of the program reaches it.
use Rattle.std.specs.Prelude.{◌≡◌, ℕ, ◌≤◌, List, [], ◌∷◌, length, take, count_by}
use Rattle.emtp_case.specs.Switch.{is_time_switch}
use Rattle.emtp_case.specs.declared.case.Parts.{Parts}
use Rattle.emtp_batch.specs.declared.table.Row.{Row}
use Rattle.emtp_batch.specs.Altered.{altered}

-- how many entries a row has
abbrev pub time_switches : Parts → ℕ
time_switches case = count_by is_time_switch case.switches

-- the case as the rows leave it: with the times of the last one
abbrev pub after_rows : Parts → List Row → Parts
after_rows case [] = case
after_rows case (row ∷ []) = altered case row
after_rows case (row ∷ next ∷ more) = after_rows case (next ∷ more)

-- the case as some of the rows leave it, or as it was
pub record IsAfterSome (case : Parts) (rows : List Row) (now : Parts) : Type 0 where
  pub count : ℕ
  pub few : count ≤ length rows
  pub is : now ≡ after_rows case (take count rows)
