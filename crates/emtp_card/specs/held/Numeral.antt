-- Beside `Numeral`: what values hold for their proofs, and what premises say. No clause of the program reaches it.
use Rattle.std.specs.Prelude.{ℕ, ◌<◌, List, All, unsigned_abs}
use Rattle.std.specs.Char.{IsAsciiDigit}
use Rattle.emtp_card.specs.Decimal.{Decimal}
use Rattle.emtp_card.specs.declared.numeral.Numeral.{Numeral}
use Rattle.emtp_card.specs.Numeral.{composed}

abbrev pub AreDigits : List ℕ → Type 0
AreDigits bytes = All IsAsciiDigit bytes

-- the decimal that a spelled number means, as the code takes it apart
abbrev pub meaning_of : Numeral → Decimal
meaning_of n = composed n.negative n.whole.now n.fraction.now n.exponent

-- its parts are digits, and its power has at most three of them
pub record IsNumeral (n : Numeral) : Type 0 where
  pub whole : AreDigits n.whole.now
  pub fraction : AreDigits n.fraction.now
  pub exponent : unsigned_abs n.exponent < 1000
