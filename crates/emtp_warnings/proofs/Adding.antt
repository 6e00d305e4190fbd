-- Lists to which parts are added, one after the other.
use Rattle.std.proofs.Common.{◌≡◌, ◌++◌, ◌∙◌, ◌+◌, ◌<◌, sym, ap, List, [], ◌∷◌, ℕ, append_assoc, append-nil, take, length, get_or}
use Rattle.std.specs.Prelude.{flat_map}
use Rattle.std.proofs.lemmas.Grind.{flat_map-append}
use Rattle.std.proofs.lemmas.List.{take_more}
use Rattle.emtp_warnings.specs.AddsTo.{AddsTo}

-- one part
pub one : {X : Type 0} {old new a : List X} → new ≡ old ++ a → AddsTo old a new
one e = record { is = e }

-- nothing
pub nothing : {X : Type 0} (old : List X) → AddsTo old [] old
nothing old = record { is = sym (append-nil old) }

-- first a part, then the others
pub then : {X : Type 0} {old one new a b : List X} → AddsTo old a one → AddsTo one b new → AddsTo old (a ++ b) new
then {X} {old} {one} {new} {a} {b} first more = record { is = more.is ∙ ap (λ (t : List X). t ++ b) first.is ∙ append_assoc old a b }

-- the same part, written otherwise
pub rewritten : {X : Type 0} {old new a b : List X} → b ≡ a → AddsTo old b new → AddsTo old a new
rewritten {X} {old} e add = record { is = add.is ∙ ap (λ (t : List X). old ++ t) e }

-- one item more

flat_map-more : {X Y : Type 0} (f : X → List Y) (xs : List X) (i : ℕ) (d : X) → i < length xs → flat_map f (take (i + 1) xs) ≡ flat_map f (take i xs) ++ f (get_or xs i d)
flat_map-more {X} {Y} f xs i d less =
    ap (flat_map f) (take_more xs i d less) ∙ flat_map-append f (take i xs) (get_or xs i d ∷ [])
    ∙ ap (λ (t : List Y). flat_map f (take i xs) ++ t) (append-nil (f (get_or xs i d)))

pub item-more : {X Y : Type 0} {old a new : List Y} (f : X → List Y) (xs : List X) (i : ℕ) (d : X) → i < length xs
    → AddsTo old (flat_map f (take i xs)) a → AddsTo a (f (get_or xs i d)) new → AddsTo old (flat_map f (take (i + 1) xs)) new
item-more f xs i d less front item = rewritten (sym (flat_map-more f xs i d less)) (then front item)
