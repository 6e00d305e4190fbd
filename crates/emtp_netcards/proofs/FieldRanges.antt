-- What fields hold that aren't refused.
use Rattle.std.proofs.Common.{◌≡◌, ap, subst, refl, ℕ, suc, zero, ◌+◌, ◌-◌, ◌≤◌, ℤ, pos, negsuc, ◌≤ℤ◌, int_lt, Bool, true, false, ◌||◌, List, [], ◌∷◌, length, drop, Option, Some, None, Result, Ok, Err, IfSome, if◌then◌else◌, cond, arith}
use Rattle.std.proofs.lemmas.Int.{ints}
use Rattle.std.proofs.lemmas.List.{length-take}
use Rattle.std.specs.Int.{int_max, int_min}
use Rattle.std.specs.List.{list_all, list_any}
use Rattle.std.specs.Ordering.{int_eq}
use Rattle.emtp_card.specs.Fault.{filled_with, required}
use Rattle.emtp_card.specs.Field.{columns, field_of, filled, trimmed, without_leading, without_trailing}
use Rattle.emtp_card.specs.Lines.{fault_of_line, is_blank}
use Rattle.emtp_card.specs.Name.{is_comma, name_field, named}
use Rattle.emtp_card.specs.Number.{held_field, held_in, in_range, number_field, number_in, present, unless_blank}
use Rattle.emtp_card.specs.NumberField.{held_of, held_or, number_of, number_or, required_of}
use Rattle.emtp_card.specs.held.Number.{IsWithin}
use Rattle.emtp_card.specs.declared.number_field.NumberField.{NumberField}
use Rattle.emtp_card.specs.declared.reason.Why.{Why}
use Rattle.emtp_card.specs.declared.reason.Why.TheVariants.{BadName, OutOfUnitRange}
use Rattle.emtp_card.proofs.Names.{field_is_name}
use Rattle.emtp_case.specs.held.Name.{IsName}
use Rattle.emtp_netcards.specs.Fields.{needed}
use Rattle.emtp_netcards.proofs.Readings.{field_of_column}

-- ---- numbers

range_is : (low high value : ℤ) (x : ℤ) → in_range low high (Ok value) ≡ Ok x → IsWithin low high x
range_is low high value x e = by (int_lt value low) (int_lt high value) refl refl e
  where
    by : (below above : Bool) → int_lt value low ≡ below → int_lt high value ≡ above → (if below || above then Err OutOfUnitRange else Ok value) ≡ Ok x → IsWithin low high x
    by true above b a e = absurd (cc)
    by false true b a e = absurd (cc)
    by false false b a e = let is : value ≡ x = cc in subst (IsWithin low high) is (record { least = omega (arith, ints, b); most = omega (arith, ints, a) })

within : (low high : ℤ) (read : Result ℤ Why) (x : ℤ) → in_range low high read ≡ Ok x → IsWithin low high x
within low high (Ok value) x e = range_is low high value x e
within low high (Err why) x e = absurd (cc)

pub not_zero : (t : ℤ) → int_eq t (pos 0) ≡ false → pos 0 ≤ℤ t → pos 1 ≤ℤ t
not_zero (pos zero) e h = absurd (cc)
not_zero (pos (suc n)) e h = omega (arith, ints)
not_zero (negsuc n) e h = absurd (omega (arith, ints, h))

present_is : (P : ℤ → Type 0) (read : Result ℤ Why) (field : Option ℤ) → ((x : ℤ) → read ≡ Ok x → P x) → present read ≡ Ok field → IfSome field P
present_is P (Ok x) field all e = let is : Some x ≡ field = cc in subst (λ f. IfSome f P) is (all x refl)
present_is P (Err why) field all e = absurd (cc)

unless_is : (P : ℤ → Type 0) (text : List ℕ) (read : Result ℤ Why) (field : Option ℤ) → ((x : ℤ) → read ≡ Ok x → P x) → unless_blank text read ≡ Ok field → IfSome field P
unless_is P [] read field all e = let is : None ≡ field = cc in subst (λ f. IfSome f P) is tt
unless_is P (byte ∷ bytes) read field all e = present_is P read field all e

pub number_within : (line : List ℕ) (first last : ℕ) (scale low high : ℤ) (field : Option ℤ) → number_field line first last scale low high ≡ Ok field → IfSome field (IsWithin low high)
unfolding number_field
number_within line first last scale low high field e = unless_is (IsWithin low high) (field_of line first last) _ field (within low high (number_in scale (field_of line first last))) e

held_is : (low high value : ℤ) → low ≤ℤ high → IsWithin low high (int_max low (int_min value high))
held_is low high value h = inner (int_lt high value) refl
  where
    outer : (m : ℤ) → m ≤ℤ high → (below : Bool) → int_lt m low ≡ below → IsWithin low high (cond below low m)
    outer m most true b = record { least = omega (arith, ints); most = h }
    outer m most false b = record { least = omega (arith, ints, b); most = most }

    inner : (above : Bool) → int_lt high value ≡ above → IsWithin low high (int_max low (cond above high value))
    inner true a = outer high (omega (arith, ints)) (int_lt high low) refl
    inner false a = outer value (omega (arith, ints, a)) (int_lt value low) refl

held : (low high : ℤ) (read : Result ℤ Why) (x : ℤ) → low ≤ℤ high → held_in low high read ≡ Ok x → IsWithin low high x
held low high (Ok value) x h e = let is : int_max low (int_min value high) ≡ x = cc in subst (IsWithin low high) is (held_is low high value h)
held low high (Err why) x h e = absurd (cc)

pub held_within : (line : List ℕ) (first last : ℕ) (scale low high : ℤ) (field : Option ℤ) → low ≤ℤ high → held_field line first last scale low high ≡ Ok field → IfSome field (IsWithin low high)
unfolding held_field
held_within line first last scale low high field h e = unless_is (IsWithin low high) (field_of line first last) _ field (λ x. held low high (number_in scale (field_of line first last)) x h) e

-- a blank that means a value of the range
pub filled_is : {A : Type 0} (P : A → Type 0) (blank : A) (read : Result (Option A) Why) (x : A) → P blank → ((field : Option A) → read ≡ Ok field → IfSome field P) → filled_with blank read ≡ Ok x → P x
filled_is P blank (Ok None) x base all e = let is : blank ≡ x = cc in subst P is base
filled_is P blank (Ok (Some y)) x base all e = let is : y ≡ x = cc in subst P is (all (Some y) refl)
filled_is P blank (Err why) x base all e = absurd (cc)

-- ---- names

leading-short : (bytes : List ℕ) → length (without_leading bytes) ≤ length bytes
leading-short [] = omega arith
leading-short (byte ∷ bytes) = by (is_blank byte) (leading-short bytes)
  where
    by : (blank : Bool) → length (without_leading bytes) ≤ length bytes → length (if blank then without_leading bytes else byte ∷ bytes) ≤ length (byte ∷ bytes)
    by true h = omega (arith, h)
    by false h = omega arith

trailing-short : (bytes : List ℕ) → length (without_trailing bytes) ≤ length bytes
trailing-short [] = omega arith
trailing-short (byte ∷ bytes) = by (list_all is_blank (byte ∷ bytes)) (trailing-short bytes)
  where
    by : (blank : Bool) → length (without_trailing bytes) ≤ length bytes → length (if blank then [] else byte ∷ without_trailing bytes) ≤ length (byte ∷ bytes)
    by true h = omega arith
    by false h = omega (arith, h)

trimmed-short : (bytes : List ℕ) → length (trimmed bytes) ≤ length bytes
unfolding trimmed
trimmed-short bytes = omega (arith, leading-short (without_trailing bytes), trailing-short bytes)

columns-short : (line : List ℕ) (first : ℕ) → length (columns line first (first + 5)) ≤ 6
unfolding columns
columns-short line first = omega (arith, length-take (first + 5 + 1 - first) (drop (first - 1) (filled line)))

pub name_is : (line : List ℕ) (first : ℕ) (field : Option (List ℕ)) → fault_of_line line ≡ None → name_field line first ≡ Ok field → IfSome field IsName
unfolding name_field
name_is line first field whole e = by (list_any is_comma (columns line first (first + 5))) refl (field_of line first (first + 5)) refl e
  where
    by : (comma : Bool) → list_any is_comma (columns line first (first + 5)) ≡ comma → (text : List ℕ) → text ≡ field_of line first (first + 5) → (if comma then Err BadName else Ok (named text)) ≡ Ok field → IfSome field IsName
    by true c text t e = absurd (cc)
    by false c [] t e = let is : None ≡ field = cc in subst (λ f. IfSome f IsName) is tt
    by false c (byte ∷ bytes) t e =
        let short : length (byte ∷ bytes) ≤ 6 = omega (arith, ap length t, trimmed-short (columns line first (first + 5)), columns-short line first) in
        let is : Some (byte ∷ bytes) ≡ field = cc in
        subst (λ f. IfSome f IsName) is (field_is_name line first (byte ∷ bytes) t (λ n. absurd (cc)) short c whole)

-- a field that can't be blank
pub required_is : {A : Type 0} (P : A → Type 0) (read : Result (Option A) Why) (x : A) → ((field : Option A) → read ≡ Ok field → IfSome field P) → required read ≡ Ok x → P x
required_is P (Ok None) x all e = absurd (cc)
required_is P (Ok (Some y)) x all e = let is : y ≡ x = cc in subst P is (all (Some y) refl)
required_is P (Err why) x all e = absurd (cc)

pub needed_is : (P : List ℕ → Type 0) (read : Result (Option (List ℕ)) Why) (x : List ℕ) → ((field : Option (List ℕ)) → read ≡ Ok field → IfSome field P) → needed read ≡ Ok x → P x
needed_is P (Ok None) x all e = absurd (cc)
needed_is P (Ok (Some y)) x all e = let is : y ≡ x = cc in subst P is (all (Some y) refl)
needed_is P (Err why) x all e = absurd (cc)

pub needed_name : (line : List ℕ) (first : ℕ) (x : List ℕ) → fault_of_line line ≡ None → needed (name_field line first) ≡ Ok x → IsName x
needed_name line first x whole e = needed_is IsName (name_field line first) x (λ field. name_is line first field whole) e

-- ---- number fields by name

pub number_is : (f : NumberField) (line : List ℕ) (number : Option ℤ) → number_of f line ≡ Ok number → IfSome number (IsWithin f.low f.high)
number_is f line number e = number_within line f.first f.last f.scale f.low f.high number (field_of_column f.first _ number e)

pub number_or_is : (f : NumberField) (blank : ℤ) (line : List ℕ) (x : ℤ) → IsWithin f.low f.high blank → number_or f blank line ≡ Ok x → IsWithin f.low f.high x
number_or_is f blank line x base e =
    filled_is (IsWithin f.low f.high) blank (number_field line f.first f.last f.scale f.low f.high) x base (number_within line f.first f.last f.scale f.low f.high) (field_of_column f.first _ x e)

pub required_within : (f : NumberField) (line : List ℕ) (x : ℤ) → required_of f line ≡ Ok x → IsWithin f.low f.high x
required_within f line x e =
    required_is (IsWithin f.low f.high) (number_field line f.first f.last f.scale f.low f.high) x (number_within line f.first f.last f.scale f.low f.high) (field_of_column f.first _ x e)

pub held_of_is : (f : NumberField) (line : List ℕ) (number : Option ℤ) → f.low ≤ℤ f.high → held_of f line ≡ Ok number → IfSome number (IsWithin f.low f.high)
held_of_is f line number order e = held_within line f.first f.last f.scale f.low f.high number order (field_of_column f.first _ number e)

pub held_or_is : (f : NumberField) (blank : ℤ) (line : List ℕ) (x : ℤ) → IsWithin f.low f.high blank → held_or f blank line ≡ Ok x → IsWithin f.low f.high x
held_or_is f blank line x base e =
    let order : f.low ≤ℤ f.high = omega (arith, ints, base.least, base.most) in
    filled_is (IsWithin f.low f.high) blank (held_field line f.first f.last f.scale f.low f.high) x base (λ number. held_within line f.first f.last f.scale f.low f.high number order) (field_of_column f.first _ x e)
