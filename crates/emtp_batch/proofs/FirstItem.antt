-- The first item of a text.
use Rattle.std.proofs.Common.{◌≡◌, ◌≢◌, ◌∙◌, sym, ap, ℕ, ◌==◌, Bool, true, false, cond, not, List, [], ◌∷◌, length, take_while, drop, arith, refl}
use Rattle.std.proofs.lemmas.Bool.Decides.{nat_tests}
use Rattle.std.proofs.lemmas.List.Sums.{take_while-cons}
use Rattle.emtp_card.specs.Field.{without_leading}
use Rattle.emtp_card.specs.Lines.{is_blank}
use Rattle.emtp_batch.specs.Items.{items_of, first_with}

-- a byte of an item
abbrev pub is_kept : ℕ → Bool
is_kept byte = not (is_blank byte)

-- the bytes up to a blank, and the items of the rest
abbrev pub from_first : List ℕ → List (List ℕ)
from_first text = take_while is_kept text ∷ items_of (drop (length (take_while is_kept text)) text)

-- the same of a text that begins with a byte of an item
abbrev from_more : ℕ → List ℕ → List (List ℕ)
from_more byte bytes = (byte ∷ take_while is_kept bytes) ∷ items_of (drop (length (take_while is_kept bytes)) bytes)

kept_while : (byte : ℕ) (bytes : List ℕ) → is_blank byte ≡ false → take_while is_kept (byte ∷ bytes) ≡ byte ∷ take_while is_kept bytes
kept_while byte bytes h = take_while-cons is_kept byte bytes ∙ ap (λ b. cond (not b) (byte ∷ take_while is_kept bytes) []) h

blank_while : (byte : ℕ) (bytes : List ℕ) → is_blank byte ≡ true → take_while is_kept (byte ∷ bytes) ≡ []
blank_while byte bytes h = take_while-cons is_kept byte bytes ∙ ap (λ b. cond (not b) (byte ∷ take_while is_kept bytes) []) h

kept_first : (byte : ℕ) (bytes : List ℕ) → is_blank byte ≡ false → from_first (byte ∷ bytes) ≡ from_more byte bytes
kept_first byte bytes h = ap (λ front. front ∷ items_of (drop (length front) (byte ∷ bytes))) (kept_while byte bytes h)

first_item : (byte : ℕ) (bytes : List ℕ) → is_blank byte ≡ false → items_of (byte ∷ bytes) ≡ from_more byte bytes
unfolding items_of
first_item byte [] h = rw h refl
first_item byte (next ∷ more) h = by (is_blank next) refl (first_item next more)
  where
    by : (b : Bool) → is_blank next ≡ b → (is_blank next ≡ false → items_of (next ∷ more) ≡ from_more next more) → items_of (byte ∷ next ∷ more) ≡ from_more byte (next ∷ more)
    by true blank later =
        let made : items_of (byte ∷ next ∷ more) ≡ (byte ∷ []) ∷ items_of (next ∷ more) = rw (h, blank) refl in
        made ∙ sym (ap (λ front. (byte ∷ front) ∷ items_of (drop (length front) (next ∷ more))) (blank_while next more blank))
    by false kept later =
        let made : items_of (byte ∷ next ∷ more) ≡ first_with byte (items_of (next ∷ more)) = rw (h, kept) refl in
        made ∙ ap (first_with byte) (later kept) ∙ sym (ap (λ front. (byte ∷ front) ∷ items_of (drop (length front) (next ∷ more))) (kept_while next more kept))

pub items_found : (text : List ℕ) → without_leading text ≢ [] → items_of text ≡ from_first (without_leading text)
unfolding items_of
items_found [] some = absurd (some refl)
items_found (byte ∷ bytes) some = by (is_blank byte) refl (items_found bytes)
  where
    by : (b : Bool) → is_blank byte ≡ b → (without_leading bytes ≢ [] → items_of bytes ≡ from_first (without_leading bytes)) → items_of (byte ∷ bytes) ≡ from_first (without_leading (byte ∷ bytes))
    by true blank later = let left = rw blank at some in rw blank (later left)
    by false kept later =
        let stays : without_leading (byte ∷ bytes) ≡ byte ∷ bytes = rw kept refl in
        first_item byte bytes kept ∙ sym (kept_first byte bytes kept) ∙ ap from_first (sym stays)

pub items_none : (text : List ℕ) → without_leading text ≡ [] → items_of text ≡ []
unfolding items_of
items_none [] none = refl
items_none (byte ∷ bytes) none = by (is_blank byte) refl (items_none bytes)
  where
    by : (b : Bool) → is_blank byte ≡ b → (without_leading bytes ≡ [] → items_of bytes ≡ []) → items_of (byte ∷ bytes) ≡ []
    by true blank later = let left = rw blank at none in rw blank (later left)
    by false kept later = let left : byte ∷ bytes ≡ [] = rw kept at none in absurd (omega (arith, ap length left))

pub nothing_left : (bytes : List ℕ) → (length bytes == 0) ≡ true → bytes ≡ []
nothing_left [] h = refl
nothing_left (byte ∷ bytes) h = absurd (grind (arith, nat_tests))

pub something_left : (bytes : List ℕ) → (length bytes == 0) ≡ false → bytes ≢ []
something_left bytes h none = let zero : (length bytes == 0) ≡ true = rw none refl in absurd (grind arith)
