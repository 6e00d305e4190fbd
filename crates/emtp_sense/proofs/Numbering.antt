-- The numbers of the variables that cards define, none of which has the name of another.
use Rattle.std.proofs.Common.{List, Option, Some, [], ap, arith, fold, length, refl, subst, suc, sym, zero, ℕ, ◌++◌, ◌+◌, ◌==◌, ◌∙◌, ◌∷◌, ◌≡◌, ◌≤◌}
use Rattle.std.proofs.lemmas.List.Sums.{sum_by-append}
use Rattle.std.specs.List.{range_with_len}
use Rattle.std.specs.Prelude.{All, IfSome, count_by, if◌then◌else◌, map}
use Rattle.std.specs.Str.{bytes_eq}
use Rattle.emtp_case.proofs.Defined.{once_in_row}
use Rattle.emtp_case.specs.held.Case.{DefinesEach}
use Rattle.emtp_case.specs.held.Control.{var_of}
use Rattle.emtp_case.specs.declared.case.Parts.{Parts}
use Rattle.emtp_case.specs.declared.control.Block.{Block}
use Rattle.emtp_case.specs.declared.source.Source.{Source}
use Rattle.emtp_sense.proofs.Naming.{Each, all_named, with_names}
use Rattle.emtp_sense.specs.Names.{node_number, with_name}
use Rattle.emtp_sense.specs.Variables.{variable_number}
use Rattle.indexmap.specs.IndexSet.{insert_key}

-- ---- the list of names

abbrev pub options_of : {A : Type 0} → (A → List ℕ) → List A → List (Option (List ℕ))
options_of f [] = []
options_of f (x ∷ xs) = Some (f x) ∷ options_of f xs

pub folded : {A : Type 0} (f : A → List ℕ) (names : List (List ℕ)) (xs : List A) → fold (λ ns x. insert_key bytes_eq ns (f x)) names xs ≡ with_names names (options_of f xs)
folded f names [] = refl
folded f names (x ∷ xs) = folded f (insert_key bytes_eq names (f x)) xs

pub in_two : (names : List (List ℕ)) (xs ys : List (Option (List ℕ))) → with_names names (xs ++ ys) ≡ with_names (with_names names xs) ys
in_two names [] ys = refl
in_two names (x ∷ xs) ys = in_two (with_name names x) xs ys

pub options_length : {A : Type 0} (f : A → List ℕ) (xs : List A) → length (options_of f xs) ≡ length xs
options_length f [] = refl
options_length f (x ∷ xs) = ap suc (options_length f xs)

pub each_front : (P : Option (List ℕ) → Type 0) (xs ys : List (Option (List ℕ))) → Each P (xs ++ ys) → Each P xs
each_front P [] ys h = tt
each_front P (x ∷ xs) ys h = (h.0, each_front P xs ys h.1)

pub each_rest : (P : Option (List ℕ) → Type 0) (xs ys : List (Option (List ℕ))) → Each P (xs ++ ys) → Each P ys
each_rest P [] ys h = h
each_rest P (x ∷ xs) ys h = each_rest P xs ys h.1

pub each_two : (P : Option (List ℕ) → Type 0) (xs ys : List (Option (List ℕ))) → Each P xs → Each P ys → Each P (xs ++ ys)
each_two P [] ys h k = k
each_two P (x ∷ xs) ys h k = (h.0, each_two P xs ys h.1 k)

pub each_of : {A : Type 0} (f : A → List ℕ) (P : List ℕ → Type 0) (xs : List A) → All (λ x. P (f x)) xs → Each (λ x. IfSome x P) (options_of f xs)
each_of f P [] all = tt
each_of f P (x ∷ xs) all = (all 0 x (omega arith), each_of f P xs (λ k d lt. all (suc k) d (omega arith)))

-- ---- cards that define one variable each

-- the numbers of these names are no less than those of a row from a number on
abbrev pub AreAbove : {A : Type 0} → (A → List ℕ) → List (List ℕ) → ℕ → List A → Type 0
AreAbove f variables next [] = Unit {0}
AreAbove f variables next (x ∷ xs) = (next ≤ variable_number variables (f x)) × AreAbove f variables (next + 1) xs

-- and are those of the row
abbrev pub AreInRow : {A : Type 0} → (A → List ℕ) → List (List ℕ) → ℕ → List A → Type 0
AreInRow f variables next [] = Unit {0}
AreInRow f variables next (x ∷ xs) = (variable_number variables (f x) ≡ next) × AreInRow f variables (next + 1) xs

pub record IsRow {A : Type 0} (f : A → List ℕ) (names variables : List (List ℕ)) (xs : List A) : Type 0 where
  pub row : AreInRow f variables (length names) xs
  pub longer : length (with_names names (options_of f xs)) ≡ length names + length xs

-- the variables begin with the names and these
pub in_row : {A : Type 0} (f : A → List ℕ) (names variables : List (List ℕ)) (xs : List A) (more : List (Option (List ℕ))) → variables ≡ with_names (with_names names (options_of f xs)) more → AreAbove f variables (length names) xs → IsRow f names variables xs
in_row f names variables [] more is h = record { row = tt; longer = omega arith }
in_row f names variables (x ∷ xs) more is h =
    let one = all_named names (Some (f x) ∷ []) in
    let next = with_name names (Some (f x)) in
    let rest = all_named next (options_of f xs ++ more) in
    let same : variables ≡ with_names next (options_of f xs ++ more) = is ∙ sym (in_two next (options_of f xs) more) in
    let kept : node_number (with_names next (options_of f xs ++ more)) (Some (f x)) ≡ node_number next (Some (f x)) = rest.keeps (Some (f x)) one.known.0 in
    let number : node_number variables (Some (f x)) ≡ node_number next (Some (f x)) = rw same kept in
    let last : node_number next (Some (f x)) ≡ length names + 1 = omega (arith, number, h.0, one.known.0, one.more) in
    let long : length next ≡ length names + 1 = omega (arith, last, one.known.0, one.more) in
    let behind = in_row f next variables xs more is (subst (λ n. AreAbove f variables n xs) (sym long) h.1) in
    record {
      row = (omega (arith, number, last), subst (λ n. AreInRow f variables n xs) long behind.row);
      longer = omega (arith, behind.longer, long);
    }

-- ---- how often a number is that of a card

pub row_is : {A : Type 0} (f : A → List ℕ) (variables : List (List ℕ)) (next : ℕ) (xs : List A) → AreInRow f variables next xs → map (λ x. variable_number variables (f x)) xs ≡ range_with_len next (length xs)
row_is f variables next [] h = refl
row_is f variables next (x ∷ xs) h = rw h.0 (ap (λ ns. next ∷ ns) (row_is f variables (next + 1) xs h.1))

range_two : (a m n : ℕ) → range_with_len a m ++ range_with_len (a + m) n ≡ range_with_len a (m + n)
range_two a zero n =
    let here : a + 0 ≡ a = omega arith in
    let none : 0 + n ≡ n = omega arith in
    rw (here, none) refl
range_two a (suc m) n =
    let next : a + suc m ≡ (a + 1) + m = omega arith in
    let more : suc m + n ≡ suc (m + n) = omega arith in
    rw (next, more) (ap (λ (xs : List ℕ). a ∷ xs) (range_two (a + 1) m n))

times_in_two : (v : ℕ) (xs ys : List ℕ) → count_by (λ d. d == v) (xs ++ ys) ≡ count_by (λ d. d == v) xs + count_by (λ d. d == v) ys
times_in_two v xs ys = sum_by-append (λ d. if d == v then 1 else 0) xs ys

swapped : (v : ℕ) (xs ys zs : List ℕ) → count_by (λ d. d == v) (ys ++ xs ++ zs) ≡ count_by (λ d. d == v) (xs ++ ys ++ zs)
swapped v xs ys zs = omega (arith, times_in_two v (ys ++ xs) zs, times_in_two v ys xs, times_in_two v (xs ++ ys) zs, times_in_two v xs ys)

-- the blocks, the sources and the supplemental cards define the variables from 6 on, one after another
pub defined_once : (p : Parts) (blocks sources extras : ℕ) → map (λ (b : Block). b.var) p.blocks ≡ range_with_len 6 blocks → map (λ (s : Source). s.node) p.tacs_sources ≡ range_with_len (6 + blocks) sources
    → map var_of p.extras ≡ range_with_len (6 + (blocks + sources)) extras → 6 + (blocks + sources + extras) ≡ length p.vars → DefinesEach p
defined_once p blocks sources extras b s x size v low high =
    let row : range_with_len 6 blocks ++ range_with_len (6 + blocks) sources ++ range_with_len (6 + (blocks + sources)) extras ≡ range_with_len 6 (blocks + sources + extras) =
    ap (λ (xs : List ℕ). xs ++ range_with_len (6 + (blocks + sources)) extras) (range_two 6 blocks sources) ∙ range_two 6 (blocks + sources) extras in
    rw (b, s, x) (swapped v (range_with_len 6 blocks) (range_with_len (6 + blocks) sources) (range_with_len (6 + (blocks + sources)) extras)
    ∙ ap (count_by (λ d. d == v)) row ∙ once_in_row (blocks + sources + extras) 6 v low (omega (arith, size)))
