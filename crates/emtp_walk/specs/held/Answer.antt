-- Beside `Answer`: what values hold for their proofs, and what premises say. No clause of the program reaches it.
use Rattle.std.specs.Prelude.{◌≡◌, Result, Ok, Err}
use Rattle.emtp_card.specs.declared.reason.Bad.{Bad}
use Rattle.emtp_card.specs.declared.reason.Refused.{Refused}
use Rattle.emtp_card.specs.declared.reason.Refused.TheVariants.{Bad as OfBad, NoMemory}

-- a refused card, and this holds of it
abbrev pub IfBad : Refused → (Bad → Type 0) → Type 0
IfBad (OfBad bad) P = P bad
IfBad NoMemory P = Unit {0}

-- only memory was wanting
abbrev pub IsWant : Refused → Type 0
IsWant refused = refused ≡ NoMemory

-- a call that leaves something behind answers as its definition does, and leaves what that gives
abbrev pub Leaves : {A B : Type 0} → Result A Refused → Result (B × A) Bad → B → Type 0
Leaves (Ok x) defined left = defined ≡ Ok (left, x)
Leaves (Err (OfBad bad)) defined left = defined ≡ Err bad
Leaves (Err NoMemory) defined left = Unit {0}

-- a call that leaves nothing behind
abbrev pub Answers : {A : Type 0} → Result A Refused → Result A Bad → Type 0
Answers (Ok x) defined = defined ≡ Ok x
Answers (Err (OfBad bad)) defined = defined ≡ Err bad
Answers (Err NoMemory) defined = Unit {0}
