-- Lists of lines: free of a mark, and known item by item.
use Rattle.std.proofs.Common.{◌≡◌, ◌++◌, ◌∙◌, sym, ap, refl, arith, ◌+◌, ◌<◌, ◌≤◌, List, [], ◌∷◌, ℕ, suc, length, map, get_or, drop, append_assoc}
use Rattle.std.specs.Prelude.{All}
use Rattle.std.proofs.lemmas.List.Elements.{All-head, All-tail}
use Rattle.emtp_listing.specs.Law.{IsFree, AllFree}
use Rattle.emtp_listing.specs.Lines.{grouped, numbered}

-- two lists, one behind the other, are known where the first ones are as long
pub front-same : {X : Type 0} (a b s t : List X) → length a ≡ length b → a ++ s ≡ b ++ t → (a ≡ b) × (s ≡ t)
front-same [] [] s t long e = (refl, e)
front-same [] (y ∷ b) s t long e = absurd (omega (arith, long))
front-same (x ∷ a) [] s t long e = absurd (omega (arith, long))
front-same {X} (x ∷ a) (y ∷ b) s t long e =
    let rest = front-same a b s t (omega (arith, long)) (ap (λ (l : List X). drop 1 l) e) in
    let first : x ≡ y = ap (λ (l : List X). get_or l 0 x) e in
    (ap (λ (z : X). z ∷ a) first ∙ ap (λ (zs : List X). y ∷ zs) rest.0, rest.1)

pub cons-same : {X : Type 0} (x y : X) (xs ys : List X) → x ≡ y → xs ≡ ys → x ∷ xs ≡ y ∷ ys
cons-same {X} x y xs ys e f = ap (λ (z : X). z ∷ xs) e ∙ ap (λ (zs : List X). y ∷ zs) f

pub all-free : (b : ℕ) (xs ys : List (List ℕ)) → AllFree b xs → AllFree b ys → AllFree b (xs ++ ys)
all-free b [] ys f g = g
all-free b (x ∷ xs) ys f g = (f.0, all-free b xs ys f.1 g)

pub map-length : {A B : Type 0} (f : A → B) (xs : List A) → length (map f xs) ≡ length xs
map-length f [] = refl
map-length f (x ∷ xs) = ap suc (map-length f xs)

pub map-free : {X : Type 0} (b : ℕ) (f : X → List ℕ) (P : X → Type 0) → ((x : X) → P x → IsFree b (f x)) → (xs : List X) → All P xs → AllFree b (map f xs)
map-free b f P each [] all = tt
map-free b f P each (x ∷ xs) all = (each x (All-head P x xs all), map-free b f P each xs (All-tail P x xs all))

pub map-same : {X : Type 0} (f : X → List ℕ) (P Q : X → Type 0) → ((x y : X) → P x → Q y → f x ≡ f y → x ≡ y)
    → (xs ys : List X) → All P xs → All Q ys → map f xs ≡ map f ys → xs ≡ ys
map-same f P Q each [] [] ps qs e = refl
map-same f P Q each [] (y ∷ ys) ps qs e = let l : 0 ≡ suc (length (map f ys)) = ap length e in absurd (omega (arith, l))
map-same f P Q each (x ∷ xs) [] ps qs e = let l : suc (length (map f xs)) ≡ 0 = ap length e in absurd (omega (arith, l))
map-same f P Q each (x ∷ xs) (y ∷ ys) ps qs e =
    let first = each x y (All-head P x xs ps) (All-head Q y ys qs) (ap (λ (l : List (List ℕ)). get_or l 0 []) e) in
    let rest = map-same f P Q each xs ys (All-tail P x xs ps) (All-tail Q y ys qs) (ap (λ (l : List (List ℕ)). drop 1 l) e) in
    cons-same x y xs ys first rest

-- ---- numbered

pub numbered-length : {X : Type 0} (f : ℕ → X → List ℕ) (n : ℕ) (xs : List X) → length (numbered f n xs) ≡ length xs
numbered-length f n [] = refl
numbered-length f n (x ∷ xs) = ap suc (numbered-length f (suc n) xs)

pub numbered-free : {X : Type 0} (b top : ℕ) (f : ℕ → X → List ℕ) (P : X → Type 0) → ((n : ℕ) (x : X) → n < top → P x → IsFree b (f n x))
    → (n : ℕ) (xs : List X) → n + length xs ≤ top → All P xs → AllFree b (numbered f n xs)
numbered-free b top f P each n [] few all = tt
numbered-free b top f P each n (x ∷ xs) few all = (each n x (omega (arith, few)) (All-head P x xs all), numbered-free b top f P each (suc n) xs (omega (arith, few)) (All-tail P x xs all))

pub numbered-same : {X : Type 0} (top : ℕ) (f g : ℕ → X → List ℕ) (P Q : X → Type 0) → ((n : ℕ) (x y : X) → n < top → P x → Q y → f n x ≡ g n y → x ≡ y)
    → (n : ℕ) (xs ys : List X) → n + length xs ≤ top → All P xs → All Q ys → numbered f n xs ≡ numbered g n ys → xs ≡ ys
numbered-same top f g P Q each n [] [] few ps qs e = refl
numbered-same top f g P Q each n [] (y ∷ ys) few ps qs e = let l : 0 ≡ suc (length (numbered g (suc n) ys)) = ap length e in absurd (omega (arith, l))
numbered-same top f g P Q each n (x ∷ xs) [] few ps qs e = let l : suc (length (numbered f (suc n) xs)) ≡ 0 = ap length e in absurd (omega (arith, l))
numbered-same top f g P Q each n (x ∷ xs) (y ∷ ys) few ps qs e =
    let first = each n x y (omega (arith, few)) (All-head P x xs ps) (All-head Q y ys qs) (ap (λ (l : List (List ℕ)). get_or l 0 []) e) in
    let rest = numbered-same top f g P Q each (suc n) xs ys (omega (arith, few)) (All-tail P x xs ps) (All-tail Q y ys qs) (ap (λ (l : List (List ℕ)). drop 1 l) e) in
    cons-same x y xs ys first rest

-- ---- grouped

pub grouped-free : {X : Type 0} (b : ℕ) (f : X → List (List ℕ)) (P : X → Type 0) → ((x : X) → P x → AllFree b (f x)) → (xs : List X) → All P xs → AllFree b (grouped f xs)
grouped-free b f P each [] all = tt
grouped-free b f P each (x ∷ xs) all = all-free b (f x) (grouped f xs) (each x (All-head P x xs all)) (grouped-free b f P each xs (All-tail P x xs all))

-- Groups of lines, with more lines behind them, where the lines of an item and what is behind them tell the item and a
-- part of it that stands elsewhere.
pub grouped-same : {X Z : Type 0} (f g : X → List (List ℕ)) (u v : X → Z) (P Q : X → Type 0)
    → ((x y : X) (s t : List (List ℕ)) → P x → Q y → f x ++ s ≡ g y ++ t → (x ≡ y) × ((u x ≡ v y) × (s ≡ t)))
    → (xs ys : List X) (s t : List (List ℕ)) → length xs ≡ length ys → All P xs → All Q ys → grouped f xs ++ s ≡ grouped g ys ++ t
    → (xs ≡ ys) × ((map u xs ≡ map v ys) × (s ≡ t))
grouped-same f g u v P Q each [] [] s t long ps qs e = (refl, (refl, e))
grouped-same f g u v P Q each [] (y ∷ ys) s t long ps qs e = absurd (omega (arith, long))
grouped-same f g u v P Q each (x ∷ xs) [] s t long ps qs e = absurd (omega (arith, long))
grouped-same f g u v P Q each (x ∷ xs) (y ∷ ys) s t long ps qs e =
    let first = each x y (grouped f xs ++ s) (grouped g ys ++ t) (All-head P x xs ps) (All-head Q y ys qs)
    (sym (append_assoc (f x) (grouped f xs) s) ∙ e ∙ append_assoc (g y) (grouped g ys) t) in
    let rest = grouped-same f g u v P Q each xs ys s t (omega (arith, long)) (All-tail P x xs ps) (All-tail Q y ys qs) first.1.1 in
    (cons-same x y xs ys first.0 rest.0, (cons-same (u x) (v y) (map u xs) (map v ys) first.1.0 rest.1.0, rest.1.1))
