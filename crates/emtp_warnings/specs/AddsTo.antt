-- A list that grows.
use Rattle.std.specs.Prelude.{◌≡◌, ◌++◌, List}

-- what was added behind a list
pub record AddsTo {X : Type 0} (old more new : List X) : Type 0 where
  pub is : new ≡ old ++ more
