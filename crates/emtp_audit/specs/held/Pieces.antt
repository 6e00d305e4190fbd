-- Lines that are made of pieces.
use Rattle.std.specs.Prelude.{◌≡◌, ℕ, List, [], ◌∷◌, ◌++◌}
use Rattle.emtp_card.specs.Lines.{lines_of}

-- a piece and the end of its line
abbrev pub ended : List ℕ → List ℕ
ended piece = piece ++ 13 ∷ 10 ∷ []

-- a text makes these lines, whatever stands after it
abbrev pub IsLines : List ℕ → List (List ℕ) → Type 0
IsLines text lines = (rest : List ℕ) → lines_of (text ++ rest) ≡ lines ++ lines_of rest
