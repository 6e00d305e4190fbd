-- A name that is no fault is that of a variable.
use Rattle.std.proofs.Common.{Bool, List, None, Option, Some, [], arith, cond, false, length, ltb, not, refl, true, unwrap_or, ℕ, ◌+◌, ◌<◌, ◌∷◌, ◌≡◌, subst}
use Rattle.std.proofs.lemmas.Bool.Decides.{nat_tests}
use Rattle.std.proofs.lemmas.List.Elements.{All-cons, All-nil}
use Rattle.std.specs.List.{list_any, position_or_len}
use Rattle.std.specs.Option.{ForSome}
use Rattle.std.specs.Prelude.{All, if◌then◌else◌, is_some, option_map, position, ◌||◌}
use Rattle.std.specs.Str.{bytes_eq}
use Rattle.emtp_card.specs.declared.fault.Fault.{Fault}
use Rattle.emtp_card.specs.declared.reason.Why.TheVariants.{UnknownName}
use Rattle.emtp_sense.specs.ControlSense.{first_fault, inputs_sense, is_unknown}
use Rattle.emtp_sense.specs.held.ControlSensible.{AreKnownInputs, IsKnown}
use Rattle.emtp_sense.specs.Variables.{unknown_name, variable_number}

below : (a b : ℕ) → ltb a b ≡ true → a < b
below a b e = grind (arith, nat_tests)

place_within : (p : List ℕ → Bool) (xs : List (List ℕ)) → is_some (position p xs) ≡ true → unwrap_or (position p xs) (length xs) < length xs
place_within p xs =
    let place = position_or_len p xs in
    elim (ltb place (length xs)) as (λ t. ltb place (length xs) ≡ t → is_some (cond t (Some place) None) ≡ true → unwrap_or (cond t (Some place) None) (length xs) < length xs) [
      | true ↦ λ is h. below place (length xs) is
      | false ↦ λ is h. absurd (cc)
    ] refl

known : (is : Bool) (f : Fault) → if◌then◌else◌ {A = Option Fault} is None (Some f) ≡ None → is ≡ true
known true f e = refl
known false f e = absurd (cc)

pub known_name : (variables : List (List ℕ)) (column : ℕ) (name : Option (List ℕ)) → unknown_name variables column name ≡ None → IsKnown variables name
known_name variables column None e x is = absurd (cc)
known_name variables column (Some name) e x is =
    let same : name ≡ x = cc in
    subst (λ n. variable_number variables n < length variables) same
    (place_within (bytes_eq name) variables (known (is_some (position (bytes_eq name) variables)) (record { column = column; why = UnknownName }) e))

-- the number of a name that may be there
pub known_number : (variables : List (List ℕ)) (name : Option (List ℕ)) → IsKnown variables name → ForSome (option_map (variable_number variables) name) (λ v. v < length variables)
known_number variables None h v is = absurd (cc)
known_number variables (Some name) h v is =
    let same : variable_number variables name ≡ v = cc in
    subst (λ n. n < length variables) same (h name refl)

-- ---- several names

neither : (a b : Option Fault) → first_fault a b ≡ None → (a ≡ None) × (b ≡ None)
neither None b e = (refl, e)
neither (Some a) b e = absurd (cc)

pub known_inputs : (variables : List (List ℕ)) (column : ℕ) (inputs : List (Option (Bool × List ℕ))) → inputs_sense variables column inputs ≡ None → AreKnownInputs variables inputs
known_inputs variables column [] e = All-nil (λ (i : Option (Bool × List ℕ)). IsKnown variables (option_map (λ (x : Bool × List ℕ). x.1) i))
known_inputs variables column (input ∷ inputs) e =
    let none = neither (unknown_name variables column (option_map (λ (i : Bool × List ℕ). i.1) input)) (inputs_sense variables (column + 8) inputs) e in
    All-cons (λ (i : Option (Bool × List ℕ)). IsKnown variables (option_map (λ (x : Bool × List ℕ). x.1) i)) input inputs
    (known_name variables column (option_map (λ (i : Bool × List ℕ). i.1) input) none.0) (known_inputs variables (column + 8) inputs none.1)

pub known_names : (variables names : List (List ℕ)) → list_any (is_unknown variables) names ≡ false → All (λ n. variable_number variables n < length variables) names
known_names variables [] e = All-nil (λ n. variable_number variables n < length variables)
known_names variables (name ∷ names) e = go (is_some (position (bytes_eq name) variables)) refl e (λ h. known_names variables names h)
  where
    go : (is : Bool) → is_some (position (bytes_eq name) variables) ≡ is → (not is || list_any (is_unknown variables) names) ≡ false
        → (list_any (is_unknown variables) names ≡ false → All (λ n. variable_number variables n < length variables) names) → All (λ n. variable_number variables n < length variables) (name ∷ names)
    go true h e behind = All-cons (λ n. variable_number variables n < length variables) name names (place_within (bytes_eq name) variables h) (behind e)
    go false h e behind = absurd (cc)
