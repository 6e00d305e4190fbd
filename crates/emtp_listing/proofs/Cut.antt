-- A text is taken apart at a mark that its pieces don't have.
use Rattle.std.proofs.Common.{◌≡◌, ◌≢◌, ◌++◌, ◌∙◌, sym, ap, refl, arith, ◌<◌, ◌==◌, Bool, true, false, not, List, [], ◌∷◌, ℕ, suc, length, get_or, drop}
use Rattle.std.specs.Prelude.{◌&&◌}
use Rattle.std.specs.List.{list_all}
use Rattle.std.proofs.lemmas.Bool.Decides.{nat_tests}
use Rattle.std.proofs.lemmas.List.Folds.{list_all-append}
use Rattle.emtp_listing.specs.Law.{IsFree, AllFree}
use Rattle.emtp_listing.specs.Lines.{all_separated, lines_text}

-- nothing, or the mark and more
abbrev pub Begins : ℕ → List ℕ → Type 0
Begins b [] = Unit {0}
Begins b (x ∷ xs) = x ≡ b

pub and_first : (a b : Bool) → (a && b) ≡ true → a ≡ true
and_first true b h = refl
and_first false b h = h

pub and_rest : (a b : Bool) → (a && b) ≡ true → b ≡ true
and_rest true b h = h
and_rest false b h = absurd (cc)

pub and_both : (a b : Bool) → a ≡ true → b ≡ true → (a && b) ≡ true
and_both a b h k = ap (λ t. t && b) h ∙ k

pub free-both : (b : ℕ) (xs ys : List ℕ) → IsFree b xs → IsFree b ys → IsFree b (xs ++ ys)
free-both b xs ys f g = list_all-append (λ x. not (x == b)) xs ys ∙ and_both _ _ f g

pub free-head : (b y : ℕ) (ys : List ℕ) → IsFree b (y ∷ ys) → y ≢ b
free-head b y ys free = other b y (and_first (not (y == b)) (list_all (λ x. not (x == b)) ys) free)
  where
    other : (b y : ℕ) → not (y == b) ≡ true → y ≢ b
    other b y h = grind (arith, nat_tests)

pub free-tail : (b y : ℕ) (ys : List ℕ) → IsFree b (y ∷ ys) → IsFree b ys
free-tail b y ys free = and_rest (not (y == b)) (list_all (λ x. not (x == b)) ys) free

head-same : (x y : ℕ) (xs ys : List ℕ) → x ∷ xs ≡ y ∷ ys → x ≡ y
head-same x y xs ys e = ap (λ (l : List ℕ). get_or l 0 0) e

tail-same : (x y : ℕ) (xs ys : List ℕ) → x ∷ xs ≡ y ∷ ys → xs ≡ ys
tail-same x y xs ys e = ap (λ (l : List ℕ). drop 1 l) e

none-some : {X : Type 0} (y : X) (ys : List X) → [] ≡ y ∷ ys → ⊥
none-some y ys e = let l : 0 ≡ suc (length ys) = ap length e in omega (arith, l)

pub cut : (b : ℕ) (xs ys s t : List ℕ) → IsFree b xs → IsFree b ys → Begins b s → Begins b t → xs ++ s ≡ ys ++ t → (xs ≡ ys) × (s ≡ t)
cut b [] [] s t f g h k e = (refl, e)
cut b [] (y ∷ ys) [] t f g h k e = absurd (none-some y (ys ++ t) e)
cut b [] (y ∷ ys) (x ∷ s) t f g h k e = absurd (free-head b y ys g (sym (head-same x y s (ys ++ t) e) ∙ h))
cut b (x ∷ xs) [] s [] f g h k e = absurd (none-some x (xs ++ s) (sym e))
cut b (x ∷ xs) [] s (y ∷ t) f g h k e = absurd (free-head b x xs f (head-same x y (xs ++ s) t e ∙ k))
cut b (x ∷ xs) (y ∷ ys) s t f g h k e =
    let rest = cut b xs ys s t (free-tail b x xs f) (free-tail b y ys g) h k (tail-same x y (xs ++ s) (ys ++ t) e) in
    (ap (λ (z : ℕ). z ∷ xs) (head-same x y (xs ++ s) (ys ++ t) e) ∙ ap (λ (zs : List ℕ). y ∷ zs) rest.0, rest.1)

separated-begins : (entries : List (List ℕ)) → Begins 44 (all_separated entries)
separated-begins [] = tt
separated-begins (f ∷ fs) = refl

-- entries that have no comma are known by their text
pub entries-same : (xs ys : List (List ℕ)) → AllFree 44 xs → AllFree 44 ys → all_separated xs ≡ all_separated ys → xs ≡ ys
entries-same [] [] f g e = refl
entries-same [] (y ∷ ys) f g e = absurd (none-some 44 (32 ∷ (y ++ all_separated ys)) e)
entries-same (x ∷ xs) [] f g e = absurd (none-some 44 (32 ∷ (x ++ all_separated xs)) (sym e))
entries-same (x ∷ xs) (y ∷ ys) f g e =
    let parts = cut 44 x y (all_separated xs) (all_separated ys) f.0 g.0 (separated-begins xs) (separated-begins ys) (ap (λ (l : List ℕ). drop 2 l) e) in
    ap (λ (z : List ℕ). z ∷ xs) parts.0 ∙ ap (λ (zs : List (List ℕ)). y ∷ zs) (entries-same xs ys f.1 g.1 parts.1)

-- a front that has no comma, and entries
pub fronts-same : (a b : List ℕ) (xs ys : List (List ℕ)) → IsFree 44 a → IsFree 44 b → AllFree 44 xs → AllFree 44 ys → a ++ all_separated xs ≡ b ++ all_separated ys → (a ≡ b) × (xs ≡ ys)
fronts-same a b xs ys f g h k e =
    let parts = cut 44 a b (all_separated xs) (all_separated ys) f g (separated-begins xs) (separated-begins ys) e in
    (parts.0, entries-same xs ys h k parts.1)

-- lines that have no LF are known by their text
pub lines-same : (xs ys : List (List ℕ)) → AllFree 10 xs → AllFree 10 ys → lines_text xs ≡ lines_text ys → xs ≡ ys
lines-same [] [] f g e = refl
lines-same [] (y ∷ ys) f g e = absurd (nothing y (lines_text ys) e)
  where
    nothing : (y t : List ℕ) → [] ≡ y ++ 10 ∷ t → ⊥
    nothing [] t e = none-some 10 t e
    nothing (x ∷ y) t e = none-some x (y ++ 10 ∷ t) e
lines-same (x ∷ xs) [] f g e = absurd (nothing x (lines_text xs) (sym e))
  where
    nothing : (y t : List ℕ) → [] ≡ y ++ 10 ∷ t → ⊥
    nothing [] t e = none-some 10 t e
    nothing (x ∷ y) t e = none-some x (y ++ 10 ∷ t) e
lines-same (x ∷ xs) (y ∷ ys) f g e =
    let parts = cut 10 x y (10 ∷ lines_text xs) (10 ∷ lines_text ys) f.0 g.0 refl refl e in
    ap (λ (z : List ℕ). z ∷ xs) parts.0 ∙ ap (λ (zs : List (List ℕ)). y ∷ zs) (lines-same xs ys f.1 g.1 (ap (λ (l : List ℕ). drop 1 l) parts.1))

pub free-entries : (b : ℕ) (entries : List (List ℕ)) → b < 32 → AllFree b entries → IsFree b (all_separated entries)
free-entries b [] low all = refl
free-entries b (f ∷ fs) low all = and_both _ _ (comma b low) (and_both _ _ (blank b low) (free-both b f (all_separated fs) all.0 (free-entries b fs low all.1)))
  where
    comma : (b : ℕ) → b < 32 → not (44 == b) ≡ true
    comma b h = grind (arith, nat_tests)

    blank : (b : ℕ) → b < 32 → not (32 == b) ≡ true
    blank b h = grind (arith, nat_tests)
