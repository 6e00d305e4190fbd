-- Beside `Reading`: what values hold for their proofs, and what premises say. No clause of the program reaches it.
use Rattle.std.specs.Prelude.{◌≡◌, Bool, true, false, Option, Some, None, Result, Ok, Err}
use Rattle.emtp_expr.specs.declared.reading.Reading.{Reading}

-- what a call that takes a word tells, and what it leaves, are those of the definition
abbrev pub Takes : {E : Type 0} → Result Bool E → Reading → Option Reading → Type 0
Takes (Ok true) next defined = defined ≡ Some next
Takes (Ok false) next defined = defined ≡ None
Takes (Err e) next defined = Unit {0}

-- a fact where the word was taken
abbrev pub IfTaken : {E : Type 0} → Result Bool E → Type 0 → Type 0
IfTaken (Ok true) fact = fact
IfTaken (Ok false) fact = Unit {0}
IfTaken (Err e) fact = Unit {0}
