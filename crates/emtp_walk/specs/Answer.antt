-- Of two refusals the first, and what comes next unless a card is refused.
use Rattle.std.specs.Prelude.{Result, None, Option, Some}
use Rattle.emtp_card.specs.declared.reason.Bad.{Bad}
pub use Rattle.emtp_fix.specs.Chain.{◌>>=◌}

-- the first of two refusals
abbrev pub first_bad : Option Bad → Option Bad → Option Bad
first_bad (Some bad) other = Some bad
first_bad None other = other

-- what comes next, unless the card is refused; 'do' says the same
abbrev pub go_on : {A B : Type 0} → (A → Result B Bad) → Result A Bad → Result B Bad
go_on f read = read >>= f
