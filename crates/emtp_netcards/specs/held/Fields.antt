-- Beside `Fields`: what values hold for their proofs, and what premises say. No clause of the program reaches it.
use Rattle.std.specs.Prelude.{◌≡◌, IfSome, ℕ, ◌^◌, ◌≤◌, ℤ, unsigned_abs, false, List, Option}
use Rattle.emtp_case.specs.held.Name.{IsName}
use Rattle.emtp_case.specs.held.Sizes.{Sizes}
use Rattle.emtp_netcards.specs.Fields.{is_same_name}

abbrev pub IsSmall : ℤ → Type 0
IsSmall value = unsigned_abs value ≤ 10 ^ 18

-- the two ends of a card are names of nodes or ground, and differ
pub record AreEndNames (a b : Option (List ℕ)) : Type 0 where
  pub from_name : IfSome a IsName
  pub to_name : IfSome b IsName
  pub apart : is_same_name a b ≡ false

-- the sizes of a case with one variable, which stands for that of a name that isn't resolved
abbrev pub one_variable : Sizes
one_variable = record { nodes = 0; branches = 0; trios = 0; switches = 0; vars = 1 }
