-- The numbers of nodes by their names.
use Rattle.std.proofs.Common.{◌≡◌, ◌∙◌, sym, ap, subst, ℕ, zero, suc, ◌+◌, ◌<◌, ◌≤◌, Bool, true, false, not, cond, ltb, eqb, Option, Some, None, unwrap_or, List, [], ◌∷◌, ◌++◌, length, take, get_or, refl, arith, length-append}
use Rattle.std.specs.Prelude.{All, IfSome, ◌||◌, if◌then◌else◌}
use Rattle.std.specs.List.{position_or_len, list_any}
use Rattle.std.specs.Str.{bytes_eq}
use Rattle.std.proofs.lemmas.Bool.Decides.{nat_tests}
use Rattle.std.proofs.lemmas.Slice.Eq.{bytes_eq-Decides}
use Rattle.std.proofs.lemmas.Bool.{ltb-false}
use Rattle.std.proofs.lemmas.List.Elements.{All-append, All-cons, All-nil}
use Rattle.std.proofs.lemmas.List.Sums.{prefix_len-le-length}
use Rattle.std.proofs.lemmas.List.Folds.{position_or_len_push}
use Rattle.std.proofs.lemmas.List.{take-append-le}
use Rattle.std.proofs.Math.Seq.{take-length}
use Rattle.emtp_case.specs.held.Name.{IsName}
use Rattle.emtp_case.specs.held.Range.{AreEnds}
use Rattle.emtp_sense.specs.Names.{node_number, with_name}
use Rattle.emtp_sense.specs.held.Naming.{Continues}
use Rattle.emtp_netcards.specs.Fields.{is_same_name}
use Rattle.emtp_netcards.specs.held.Fields.{AreEndNames}

place_of : List (List ℕ) → List ℕ → ℕ
place_of nodes name = position_or_len (bytes_eq name) nodes

number_is : (nodes : List (List ℕ)) (name : List ℕ) → node_number nodes (Some name) ≡ place_of nodes name + 1
unfolding place_of
number_is nodes name =
    let place = position_or_len (bytes_eq name) nodes in
    let within = prefix_len-le-length (λ node. not (bytes_eq name node)) nodes in
    elim (ltb place (length nodes)) as (λ t. ltb place (length nodes) ≡ t → unwrap_or (cond t (Some place) None) (length nodes) + 1 ≡ place + 1) [
      | true ↦ λ _. refl
      | false ↦ λ past. let beyond = ltb-false place (length nodes) past in omega arith
    ] refl

same_bytes : (a b : List ℕ) → bytes_eq a b ≡ true → a ≡ b
same_bytes a b h = (bytes_eq-Decides a b).0 h

first_passes : (p : List ℕ → Bool) (xs : List (List ℕ)) → position_or_len p xs < length xs → p (get_or xs (position_or_len p xs) []) ≡ true
first_passes p [] below = absurd (omega arith)
first_passes p (x ∷ xs) below = go (p x) refl below (λ h. first_passes p xs h)
  where
    go : (b : Bool) → p x ≡ b → cond (not b) (1 + position_or_len p xs) 0 < suc (length xs) → (position_or_len p xs < length xs → p (get_or xs (position_or_len p xs) []) ≡ true)
        → p (get_or (x ∷ xs) (cond (not b) (1 + position_or_len p xs) 0) []) ≡ true
    go true h below behind = h
    go false h below behind =
        let next : 1 + position_or_len p xs ≡ suc (position_or_len p xs) = omega arith in
        rw next (behind (omega arith))

any_first : (p : List ℕ → Bool) (xs : List (List ℕ)) → list_any p xs ≡ true → position_or_len p xs < length xs
any_first p [] e = cc
any_first p (x ∷ xs) e = go (p x) refl e (λ h. any_first p xs h)
  where
    go : (b : Bool) → p x ≡ b → (b || list_any p xs) ≡ true → (list_any p xs ≡ true → position_or_len p xs < length xs) → cond (not b) (1 + position_or_len p xs) 0 < suc (length xs)
    go true h e behind = omega arith
    go false h e behind = let less = behind e in omega arith

named_there : (nodes : List (List ℕ)) (name : List ℕ) → place_of nodes name < length nodes → name ≡ get_or nodes (place_of nodes name) []
unfolding place_of
named_there nodes name among = same_bytes name _ (first_passes (bytes_eq name) nodes among)

pick_place : (a b c : ℕ) → a < b → cond (eqb a b) c a ≡ a
pick_place a b c less = grind (arith, nat_tests)

pick_within : (a b : ℕ) → a ≤ b → cond (eqb a b) (b + 0) a < b + 1
pick_within a b within = grind (arith, nat_tests)

push_keeps : (nodes : List (List ℕ)) (x name : List ℕ) → place_of nodes name < length nodes → place_of (nodes ++ x ∷ []) name ≡ place_of nodes name
unfolding place_of
push_keeps nodes x name among = position_or_len_push (bytes_eq name) nodes x ∙ pick_place (position_or_len (bytes_eq name) nodes) (length nodes) _ among

push_has : (nodes : List (List ℕ)) (name : List ℕ) → place_of (nodes ++ name ∷ []) name < length (nodes ++ name ∷ [])
unfolding place_of
push_has nodes name =
    let place = position_or_len_push (bytes_eq name) nodes name in
    let own : bytes_eq name name ≡ true = (bytes_eq-Decides name name).1 refl in
    let within = pick_within (position_or_len (bytes_eq name) nodes) (length nodes) (prefix_len-le-length (λ node. not (bytes_eq name node)) nodes) in
    omega (arith, rw own at place, within, length-append nodes (name ∷ []))

none_first : (p : List ℕ → Bool) (xs : List (List ℕ)) → list_any p xs ≡ false → position_or_len p xs ≡ length xs
none_first p [] e = refl
none_first p (x ∷ xs) e = go (p x) refl e (λ h. none_first p xs h)
  where
    go : (b : Bool) → p x ≡ b → (b || list_any p xs) ≡ false → (list_any p xs ≡ false → position_or_len p xs ≡ length xs) → cond (not b) (1 + position_or_len p xs) 0 ≡ suc (length xs)
    go true h e behind = cc
    go false h e behind = let same = behind e in omega arith

pick_last : (a b : ℕ) → a ≡ b → cond (eqb a b) (b + 0) a ≡ b
pick_last a b same = grind (arith, nat_tests)

push_last : (nodes : List (List ℕ)) (name : List ℕ) → list_any (bytes_eq name) nodes ≡ false → place_of (nodes ++ name ∷ []) name ≡ length nodes
unfolding place_of
push_last nodes name none =
    let place = position_or_len_push (bytes_eq name) nodes name in
    let own : bytes_eq name name ≡ true = (bytes_eq-Decides name name).1 refl in
    (rw own at place) ∙ pick_last (position_or_len (bytes_eq name) nodes) (length nodes) (none_first (bytes_eq name) nodes none)

keeps_number : (nodes : List (List ℕ)) (x : List ℕ) (y : Option (List ℕ)) → node_number nodes y ≤ length nodes → node_number (nodes ++ x ∷ []) y ≡ node_number nodes y
keeps_number nodes x None k = refl
keeps_number nodes x (Some y) k =
    number_is (nodes ++ x ∷ []) y ∙ ap (λ n. n + 1) (push_keeps nodes x y (omega (arith, number_is nodes y))) ∙ sym (number_is nodes y)

-- ---- the first names

front_place : (p : List ℕ → Bool) (n : ℕ) (xs : List (List ℕ)) → position_or_len p (take n xs) < length (take n xs) → position_or_len p xs ≡ position_or_len p (take n xs)
front_place p zero xs below = absurd (omega arith)
front_place p (suc n) [] below = absurd (omega arith)
front_place p (suc n) (x ∷ xs) below = go (p x) refl below (λ h. front_place p n xs h)
  where
    go : (b : Bool) → p x ≡ b → cond (not b) (1 + position_or_len p (take n xs)) 0 < suc (length (take n xs)) → (position_or_len p (take n xs) < length (take n xs) → position_or_len p xs ≡ position_or_len p (take n xs))
        → cond (not b) (1 + position_or_len p xs) 0 ≡ cond (not b) (1 + position_or_len p (take n xs)) 0
    go true h below behind = refl
    go false h below behind = ap (λ k. 1 + k) (behind (omega arith))

front_keeps : (names : List (List ℕ)) (n : ℕ) (name : List ℕ) → place_of (take n names) name < length (take n names) → place_of names name ≡ place_of (take n names) name
unfolding place_of
front_keeps names n name among = front_place (bytes_eq name) n names among

-- a number that is there among the first names is that among all
pub same_number : (names : List (List ℕ)) (n : ℕ) (x : Option (List ℕ)) → node_number (take n names) x ≤ length (take n names) → node_number names x ≡ node_number (take n names) x
same_number names n None k = refl
same_number names n (Some x) k =
    number_is names x ∙ ap (λ m. m + 1) (front_keeps names n x (omega (arith, number_is (take n names) x))) ∙ sym (number_is (take n names) x)

-- ---- one name more

-- the list after a name, by whether it was there
abbrev after : List (List ℕ) → List ℕ → Bool → List (List ℕ)
after nodes x is = if is then nodes else nodes ++ x ∷ []

record IsNamed (nodes new : List (List ℕ)) (x : Option (List ℕ)) : Type 0 where
  longer : length nodes ≤ length new
  front : take (length nodes) new ≡ nodes
  known : node_number new x ≤ length new
  few : (m : ℕ) → length nodes ≤ m → node_number new x ≤ m → length new ≤ m
  more : length new ≤ length nodes + 1
  keeps : (y : Option (List ℕ)) → node_number nodes y ≤ length nodes → node_number new y ≡ node_number nodes y
  names : All IsName nodes → IfSome x IsName → All IsName new

named_by : (nodes : List (List ℕ)) (x : List ℕ) (is : Bool) → list_any (bytes_eq x) nodes ≡ is → IsNamed nodes (after nodes x is) (Some x)
unfolding place_of
named_by nodes x true h =
    let among = any_first (bytes_eq x) nodes h in
    record {
      longer = omega arith;
      front = take-length nodes;
      known = omega (arith, number_is nodes x, among);
      few = λ m a b. a;
      more = omega arith;
      keeps = λ y k. refl;
      names = λ all name. all;
    }
named_by nodes x false h = record {
  longer = omega (arith, length-append nodes (x ∷ []));
  front = take-append-le (length nodes) nodes (x ∷ []) (omega arith) ∙ take-length nodes;
  known = omega (arith, number_is (nodes ++ x ∷ []) x, push_has nodes x);
  few = λ m a b. omega (arith, number_is (nodes ++ x ∷ []) x, push_last nodes x h, length-append nodes (x ∷ []), b);
  more = omega (arith, length-append nodes (x ∷ []));
  keeps = λ y k. keeps_number nodes x y k;
  names = λ all name. All-append IsName nodes (x ∷ []) all (All-cons IsName x [] name (All-nil IsName));
}

named : (nodes : List (List ℕ)) (x : Option (List ℕ)) → IsNamed nodes (with_name nodes x) x
named nodes None = record {
  longer = omega arith;
  front = take-length nodes;
  known = omega arith;
  few = λ m a b. a;
  more = omega arith;
  keeps = λ y k. refl;
  names = λ all name. all;
}
named nodes (Some x) = named_by nodes x (list_any (bytes_eq x) nodes) refl

-- ---- the names of some cards

-- two names that differ have two numbers
differ : (nodes : List (List ℕ)) (a b : Option (List ℕ)) → is_same_name a b ≡ false → node_number nodes a ≤ length nodes → node_number nodes b ≤ length nodes → node_number nodes a ≡ node_number nodes b → ⊥
differ nodes None None e ka kb same = cc
differ nodes None (Some b) e ka kb same = omega (arith, number_is nodes b, same)
differ nodes (Some a) None e ka kb same = omega (arith, number_is nodes a, same)
differ nodes (Some a) (Some b) e ka kb same =
    let places : place_of nodes a ≡ place_of nodes b = omega (arith, number_is nodes a, number_is nodes b, same) in
    let one : a ≡ b = named_there nodes a (omega (arith, number_is nodes a)) ∙ ap (λ k. get_or nodes k []) places ∙ sym (named_there nodes b (omega (arith, number_is nodes b))) in
    let yes : bytes_eq a b ≡ true = (bytes_eq-Decides a b).1 one in
    cc

take_take : (i j : ℕ) (zs : List (List ℕ)) → i ≤ j → take i (take j zs) ≡ take i zs
take_take zero j zs l = refl
take_take (suc i) zero zs l = absurd (omega arith)
take_take (suc i) (suc j) [] l = refl
take_take (suc i) (suc j) (z ∷ zs) l = ap (λ ys. z ∷ ys) (take_take i j zs (omega arith))

front : (xs ys zs : List (List ℕ)) → length xs ≤ length ys → take (length xs) ys ≡ xs → take (length ys) zs ≡ ys → take (length xs) zs ≡ xs
front xs ys zs l h h' = sym (take_take (length xs) (length ys) zs l) ∙ ap (take (length xs)) h' ∙ h

abbrev pub with_names : List (List ℕ) → List (Option (List ℕ)) → List (List ℕ)
with_names nodes [] = nodes
with_names nodes (x ∷ xs) = with_names (with_name nodes x) xs

-- each of some names
abbrev pub Each : (Option (List ℕ) → Type 0) → List (Option (List ℕ)) → Type 0
Each P [] = Unit {0}
Each P (x ∷ xs) = P x × Each P xs

-- the nodes after these names: no number changes, and each name has one
pub record AreNamed (nodes new : List (List ℕ)) (xs : List (Option (List ℕ))) : Type 0 where
  pub continues : Continues nodes new
  pub known : Each (λ x. node_number new x ≤ length new) xs
  pub few : (m : ℕ) → length nodes ≤ m → Each (λ x. node_number new x ≤ m) xs → length new ≤ m
  pub more : length new ≤ length nodes + length xs
  pub keeps : (y : Option (List ℕ)) → node_number nodes y ≤ length nodes → node_number new y ≡ node_number nodes y
  pub names : All IsName nodes → Each (λ x. IfSome x IsName) xs → All IsName new

pub all_named : (nodes : List (List ℕ)) (xs : List (Option (List ℕ))) → AreNamed nodes (with_names nodes xs) xs
all_named nodes [] = record {
  continues = record { longer = omega arith; front = take-length nodes };
  known = tt;
  few = λ m a b. a;
  more = omega arith;
  keeps = λ y k. refl;
  names = λ all each. all;
}
all_named nodes (x ∷ xs) =
    let one = named nodes x in
    let next = with_name nodes x in
    let rest = all_named next xs in
    let same : node_number (with_names next xs) x ≡ node_number next x = rest.keeps x one.known in
    record {
      continues = record {
        longer = omega (arith, one.longer, rest.continues.longer);
        front = front nodes next (with_names next xs) one.longer one.front rest.continues.front;
      };
      known = (omega (arith, same, one.known, rest.continues.longer), rest.known);
      few = λ m a b. rest.few m (one.few m a (subst (λ n. n ≤ m) same b.0)) b.1;
      more = omega (arith, one.more, rest.more);
      keeps = λ y k. let here = one.keeps y k in rest.keeps y (omega (arith, here, k, one.longer)) ∙ here;
      names = λ all each. rest.names (one.names all each.0) each.1;
    }

-- two ends that are known and differ
pub ends_of : (nodes : List (List ℕ)) (a b : Option (List ℕ)) → AreEndNames a b → node_number nodes a ≤ length nodes → node_number nodes b ≤ length nodes → AreEnds (length nodes) (node_number nodes a) (node_number nodes b)
ends_of nodes a b names ka kb = record { from_there = ka; to_there = kb; apart = differ nodes a b names.apart ka kb }
