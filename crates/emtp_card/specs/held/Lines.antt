-- Beside `Lines`: what values hold for their proofs, and what premises say. No clause of the program reaches it.
use Rattle.std.specs.Prelude.{◌≡◌, ◌≢◌, ℕ, ◌+◌, ◌-◌, ◌<◌, ◌≤◌, false, List, [], ◌∷◌, ◌++◌, length, slice_index_or, All, Option, Some, None}
use Rattle.std.specs.Str.Lines.{strip_carriage_return}
use Rattle.emtp_card.specs.declared.reason.Why.{Why}
use Rattle.emtp_card.specs.Lines.{lines_of, is_newline, fault_of_byte}

-- a text without the one CR at its end, if it has one
abbrev pub without_return : List ℕ → List ℕ
without_return bytes = strip_carriage_return bytes

abbrev pub HasNoNewline : List ℕ → Type 0
HasNoNewline bytes = All (λ byte. is_newline byte ≡ false) bytes

-- what the lines are, piece by piece
pub record SplitsIntoLines (bytes : List ℕ) : Type 0 where
  pub none : bytes ≡ [] → lines_of bytes ≡ []
  pub ended : (piece rest : List ℕ) → HasNoNewline piece → bytes ≡ piece ++ 10 ∷ rest
      → lines_of bytes ≡ without_return piece ∷ lines_of rest
  pub last : HasNoNewline bytes → bytes ≢ [] → lines_of bytes ≡ bytes ∷ []

-- the fault at a place of a line, counted from 0
abbrev pub fault_at : List ℕ → ℕ → Option Why
fault_at line place = fault_of_byte (place + 1) (slice_index_or line place 32)

abbrev pub IsFaultless : List ℕ → Type 0
IsFaultless line = (place : ℕ) → place < length line → fault_at line place ≡ None

-- a column, counted from 1, has this fault, and no column before it has one
pub record IsFirstFault (line : List ℕ) (column : ℕ) (why : Why) : Type 0 where
  pub some : 1 ≤ column
  pub within : column ≤ length line
  pub here : fault_at line (column - 1) ≡ Some why
  pub before : (place : ℕ) → place + 1 < column → fault_at line place ≡ None
