-- Texts that are a name or a number by their rules, whatever stands behind them.
use Rattle.std.specs.Prelude.{◌≡◌, ◌⊎◌, ◌≤◌, ◌+◌, ◌==◌, ◌||◌, ℕ, true, List, [], ◌∷◌, ◌++◌, length, Option, Some, None, IfSome}
use Rattle.std.specs.Char.{is_ascii_digit, is_ascii_alphabetic, is_ascii_alphanumeric}
use Rattle.std.specs.List.{list_all}
use Rattle.emtp_expr.specs.Words.{dotted, number_length}

-- ---- names

-- a letter and up to five letters or digits
pub record AreNameBytes (letter : ℕ) (others : List ℕ) : Type 0 where
  pub begins : is_ascii_alphabetic letter ≡ true
  pub goes_on : list_all is_ascii_alphanumeric others ≡ true
  pub few : length others ≤ 5

abbrev pub IsNameText : List ℕ → Type 0
IsNameText [] = ⊥
IsNameText (letter ∷ others) = AreNameBytes letter others

-- ---- numbers

-- a power of ten: its letter, its sign and its digits
pub record Power : Type 0 where
  pub letter : ℕ
  pub sign : List ℕ
  pub digits : List ℕ

-- + or -, or none
abbrev pub IsSign : List ℕ → Type 0
IsSign [] = Unit {0}
IsSign (byte ∷ []) = ((byte == 43) || (byte == 45)) ≡ true
IsSign (byte ∷ other ∷ bytes) = ⊥

-- E or D, a sign or none, and one to three digits
pub record IsPower (p : Power) : Type 0 where
  pub letter : ((p.letter == 69) || (p.letter == 68)) ≡ true
  pub sign : IsSign p.sign
  pub digits : list_all is_ascii_digit p.digits ≡ true
  pub some : 1 ≤ length p.digits
  pub few : length p.digits ≤ 3

-- the digits before a point, those after it where there is one, and a power where there is one
pub record NumberParts : Type 0 where
  pub whole : List ℕ
  pub fraction : Option (List ℕ)
  pub power : Option Power

-- a part, with what stands behind it
abbrev pub text_from_power : Option Power → List ℕ → List ℕ
text_from_power None behind = behind
text_from_power (Some p) behind = p.letter ∷ (p.sign ++ (p.digits ++ behind))

abbrev pub text_from_point : Option (List ℕ) → List ℕ → List ℕ
text_from_point None behind = behind
text_from_point (Some digits) behind = 46 ∷ (digits ++ behind)

abbrev pub number_text : NumberParts → List ℕ → List ℕ
number_text x behind = x.whole ++ text_from_point x.fraction (text_from_power x.power behind)

-- how many bytes a part has
abbrev pub power_size : Option Power → ℕ
power_size None = 0
power_size (Some p) = 1 + (length p.sign + length p.digits)

abbrev pub fraction_size : Option (List ℕ) → ℕ
fraction_size None = 0
fraction_size (Some digits) = 1 + length digits

abbrev pub number_size : NumberParts → ℕ
number_size x = length x.whole + fraction_size x.fraction + power_size x.power

-- digits with at most one point and at least one digit, and a power or none
pub record IsNumber (x : NumberParts) : Type 0 where
  pub whole : list_all is_ascii_digit x.whole ≡ true
  pub fraction : IfSome x.fraction (λ digits. list_all is_ascii_digit digits ≡ true)
  pub some : (1 ≤ length x.whole) ⊎ (2 ≤ fraction_size x.fraction)
  pub power : IfSome x.power IsPower

-- its point isn't that of a dotted word
abbrev pub HasOwnPoint : NumberParts → List ℕ → Type 0
HasOwnPoint x behind = IfSome x.fraction (λ digits. dotted (46 ∷ (digits ++ text_from_power x.power behind)) ≡ None)

-- the number that is taken of the text is no shorter
abbrev pub IsTakenWhole : NumberParts → List ℕ → Type 0
IsTakenWhole x behind = number_size x ≤ number_length (number_text x behind)
