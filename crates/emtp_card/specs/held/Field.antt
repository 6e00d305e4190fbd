-- Beside `Field`: what values hold for their proofs, and what premises say. No clause of the program reaches it.
use Rattle.std.specs.Prelude.{◌≡◌, ℕ, List, All}

abbrev pub IsBlank : List ℕ → Type 0
IsBlank bytes = All (λ byte. byte ≡ 32) bytes
