-- What may fail, stage after stage, up to the first error.
use Rattle.std.specs.Prelude.{Option, Some, None, Result, Ok, Err}

-- what is there goes on, an error stays: 'do' chains results by it
infixl 10 ◌>>=◌
abbrev pub ◌>>=◌ : {A B E : Type 0} → Result A E → (A → Result B E) → Result B E
(Ok x) >>= f = f x
(Err e) >>= f = Err e

-- the error of what is there, and else the answer
abbrev pub unless : {X A E : Type 0} → Option X → (X → E) → Result A E → Result A E
unless None error answer = answer
unless (Some x) error answer = Err (error x)
