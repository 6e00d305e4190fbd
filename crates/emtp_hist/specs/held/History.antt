-- What a history shows, and the pushes that it stands for. No clause of the program reaches it.
use Rattle.std.specs.Prelude.{◌≡◌, ℕ, ℤ, List, take}

-- how many pushes a history looks back on, which is the capacity of its ring, and the values that it holds, newest first
pub record Past : Type 0 where
  pub depth : ℕ
  pub values : List ℤ

-- the history remembers these pushes, newest first: it holds the newest ones, as many as its depth
abbrev pub Remembers : Past → List ℤ → Type 0
Remembers past pushes = past.values ≡ take past.depth pushes
