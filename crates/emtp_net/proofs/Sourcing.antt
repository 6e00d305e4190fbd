-- What sources bring.
use Rattle.std.proofs.Common.{◌≡◌, ◌∙◌, sym, ap, ℕ, ◌+◌, ◌*◌, ◌^◌, ◌<◌, ◌≤◌, ◌==◌, ◌&&◌, ℤ, pos, ◌+ℤ◌, unsigned_abs, Bool, true, false, not, if◌then◌else◌, nat_lt, cond, List, length, map, take, get_or, option_map, unwrap_or, Some, None, refl, inl, inr, arith}
use Rattle.std.specs.List.{find, position, position_or_len}
use Rattle.std.proofs.lemmas.Bool.{cases_lt}
use Rattle.std.proofs.lemmas.Bool.Decides.{nat_tests}
use Rattle.std.proofs.lemmas.Int.{ints}
use Rattle.std.proofs.lemmas.List.{get_or-map, get_or_past, length-map}
use Rattle.std.proofs.lemmas.List.Folds.{find_at}
use Rattle.std.proofs.lemmas.List.Sums.{prefix_len-le-length}
use Rattle.std.proofs.lemmas.Option.{slice_get-get_or, slice_get_past}
use Rattle.emtp_case.specs.declared.source.Source.{Source}
use Rattle.emtp_case.specs.declared.source.Shape.TheVariants.{Step}
use Rattle.emtp_elim.specs.Matrix.{item}
use Rattle.emtp_net.specs.held.Rights.{brought}
use Rattle.emtp_case.proofs.Sums.{total-more}

-- ---- current sources

by_tests : (a b : Bool) (x : ℤ) → (if b then (if a then x else pos 0) else pos 0) ≡ (if a && b then x else pos 0)
by_tests true true x = refl
by_tests true false x = refl
by_tests false true x = refl
by_tests false false x = refl

-- one source more
pub source_more : (f : Source → ℤ) (sources : List Source) (i n : ℕ) (d : Source) (value start before after amount : ℤ) → i < length sources → value ≡ f (get_or sources i d) → amount ≡ (if (get_or sources i d).current then value else pos 0)
    → before ≡ start +ℤ brought f n (take i sources) → after ≡ before +ℤ (if (get_or sources i d).node == n then amount else pos 0) → after ≡ start +ℤ brought f n (take (i + 1) sources)
source_more f sources i n d value start before after amount inside is_value is so_far added =
    let F : Source → ℤ = λ s. if s.current && (s.node == n) then f s else pos 0 in
    let s = get_or sources i d in
    let here : (if s.node == n then amount else pos 0) ≡ F s = ap (λ a. if s.node == n then a else pos 0) (is ∙ ap (λ v. if s.current then v else pos 0) is_value) ∙ by_tests s.current (s.node == n) (f s) in
    let more = total-more F sources i d inside in
    omega (arith, ints, here, more, so_far, added)

pub source_small : (b : Bool) (start before after amount : ℤ) (i : ℕ) → unsigned_abs amount ≤ 10 ^ 19 → unsigned_abs before ≤ unsigned_abs start + i * 10 ^ 19 → after ≡ before +ℤ (if b then amount else pos 0) → unsigned_abs after ≤ unsigned_abs start + (i + 1) * 10 ^ 19
source_small true start before after amount i small bound added = omega (arith, ints, small, bound, added)
source_small false start before after amount i small bound added = omega (arith, ints, small, bound, added)

-- ---- voltage sources

-- a place that was found, and none
pub place_found : {X : Type 0} (p : X → Bool) (xs : List X) (at : ℕ) → position p xs ≡ Some at → at ≡ position_or_len p xs
place_found p xs at found = elim (cases_lt (position_or_len p xs) (length xs)) [
  | inl inside ↦ some_same at (position_or_len p xs) (sym found ∙ here (position_or_len p xs) (length xs) inside)
  | inr past ↦ absurd (none_some at (sym (nowhere (position_or_len p xs) (length xs) past) ∙ found))
]
  where
    some_same : (a b : ℕ) → Some a ≡ Some b → a ≡ b
    some_same a b e = cc

    none_some : (a : ℕ) → None ≡ Some a → ⊥
    none_some a e = cc

    here : (k n : ℕ) → k < n → cond (nat_lt k n) (Some k) None ≡ Some k
    here k n below = grind (arith, nat_tests)

    nowhere : (k n : ℕ) → n ≤ k → cond (nat_lt k n) (Some k) None ≡ None
    nowhere k n past = grind (arith, nat_tests)

pub place_missing : {X : Type 0} (p : X → Bool) (xs : List X) → position p xs ≡ None → length xs ≡ position_or_len p xs
place_missing p xs missing = elim (cases_lt (position_or_len p xs) (length xs)) [
  | inl inside ↦ absurd (none_some (position_or_len p xs) (sym missing ∙ here (position_or_len p xs) (length xs) inside))
  | inr past ↦ omega (arith, past, prefix_len-le-length (λ x. not (p x)) xs)
]
  where
    none_some : (a : ℕ) → None ≡ Some a → ⊥
    none_some a e = cc

    here : (k n : ℕ) → k < n → cond (nat_lt k n) (Some k) None ≡ Some k
    here k n below = grind (arith, nat_tests)

-- the value of the source that stands there, or 0
pub voltage_is : (f : Source → ℤ) (p : Source → Bool) (sources : List Source) → item (map f sources) (position_or_len p sources) ≡ unwrap_or (option_map f (find p sources)) (pos 0)
voltage_is f p sources = elim (cases_lt (position_or_len p sources) (length sources)) [
  | inl inside ↦ found sources inside
  | inr past ↦ get_or_past (map f sources) (position_or_len p sources) (pos 0) (omega (arith, past, length-map sources f)) ∙ sym (ap (λ o. unwrap_or (option_map f o) (pos 0)) (find_at p sources ∙ slice_get_past sources (position_or_len p sources) past))
]
  where
    blank : Source
    blank = record { line = 0; node = 0; current = false; shape = Step; amplitude = pos 0; start = pos 0; stop = None }

    found : (sources : List Source) → position_or_len p sources < length sources → item (map f sources) (position_or_len p sources) ≡ unwrap_or (option_map f (find p sources)) (pos 0)
    found sources inside =
        let at = position_or_len p sources in
        get_or-map f sources at blank (pos 0) inside ∙ sym (ap (λ o. unwrap_or (option_map f o) (pos 0)) (find_at p sources ∙ slice_get-get_or sources at blank inside))
