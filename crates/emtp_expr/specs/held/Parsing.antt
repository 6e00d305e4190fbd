-- Beside `Parsing`: what values hold for their proofs, and what premises say. No clause of the program reaches it.
use Rattle.std.specs.Prelude.{◌≡◌, ℕ, ◌+◌, List, drop, Result, Ok, Err}
use Rattle.emtp_expr.specs.Words.{words_from}
use Rattle.emtp_expr.specs.declared.fault.ExprFault.{ExprFault}
use Rattle.emtp_expr.specs.declared.fault.ExprFault.TheVariants.{Column, NoMemory}
use Rattle.emtp_expr.specs.declared.reading.Reading.{Reading}
use Rattle.emtp_expr.specs.Parsing.{Progress, progress, read_words}

-- a fact of the column, where a fault has one
abbrev pub IfColumn : ExprFault → (ℕ → Type 0) → Type 0
IfColumn (Column column) fact = fact column
IfColumn NoMemory fact = Unit {0}

-- what is left to read at a place of a text
unfoldable pub read_on : List ℕ → Reading → List (List ℕ) → ℕ → Result Progress ℕ
read_on text reading names at = read_words (progress reading names) (words_from 0 (at + 1) (drop at text))

-- the word at a place was taken: so many bytes on, the rest is to be read; or it was the fault
abbrev pub Advances : Result ℕ ExprFault → List ℕ → ℕ → Reading → List (List ℕ) → Reading → List (List ℕ) → Type 0
Advances (Ok count) text at old old_names new new_names = read_on text old old_names at ≡ read_on text new new_names (at + count)
Advances (Err (Column column)) text at old old_names new new_names = read_on text old old_names at ≡ Err column
Advances (Err NoMemory) text at old old_names new new_names = Unit {0}
