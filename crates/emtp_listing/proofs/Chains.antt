-- A text to which pieces are put, one after the other.
use Rattle.std.proofs.Common.{◌≡◌, ◌++◌, ◌∙◌, sym, ap, List, [], ◌∷◌, ℕ, append_assoc, append-nil, refl}
use Rattle.emtp_listing.specs.Lines.{all_separated, lines_text}
use Rattle.emtp_listing.specs.Puts.{Puts}

-- one piece
pub one : {old new a : List ℕ} → new ≡ old ++ a → Puts old a new
one e = record { is = e }

-- first a piece, then the others
pub then : {old one new a b : List ℕ} → Puts old a one → Puts one b new → Puts old (a ++ b) new
then {old} {one} {new} {a} {b} first more = record { is = more.is ∙ ap (λ (t : List ℕ). t ++ b) first.is ∙ append_assoc old a b }

-- the last piece of a list
pub last : {old new a : List ℕ} → Puts old a new → Puts old (a ++ []) new
last {old} {new} {a} put = record { is = put.is ∙ ap (λ (t : List ℕ). old ++ t) (sym (append-nil a)) }

-- nothing
pub nothing : (old : List ℕ) → Puts old [] old
nothing old = record { is = sym (append-nil old) }

-- the same text, written otherwise
pub retext : {old new a b : List ℕ} → b ≡ a → Puts old b new → Puts old a new
retext {old} e put = record { is = put.is ∙ ap (λ (t : List ℕ). old ++ t) e }

pub reword : {old new v w : List ℕ} → v ≡ w → Puts old (44 ∷ 32 ∷ v) new → Puts old (44 ∷ 32 ∷ w) new
reword {old} {new} {v} {w} e put = record { is = put.is ∙ ap (λ (t : List ℕ). old ++ 44 ∷ 32 ∷ t) e }

-- lines, and entries, of two lists

pub lines_text-both : (xs ys : List (List ℕ)) → lines_text (xs ++ ys) ≡ lines_text xs ++ lines_text ys
lines_text-both [] ys = refl
lines_text-both (x ∷ xs) ys =
    ap (λ (t : List ℕ). x ++ 10 ∷ t) (lines_text-both xs ys) ∙ sym (append_assoc x (10 ∷ lines_text xs) (lines_text ys))

pub separated-both : (xs ys : List (List ℕ)) → all_separated (xs ++ ys) ≡ all_separated xs ++ all_separated ys
separated-both [] ys = refl
separated-both (x ∷ xs) ys =
    ap (λ (t : List ℕ). (44 ∷ 32 ∷ x) ++ t) (separated-both xs ys) ∙ sym (append_assoc (44 ∷ 32 ∷ x) (all_separated xs) (all_separated ys))

pub lines_then : {old one new : List ℕ} (xs ys : List (List ℕ)) → Puts old (lines_text xs) one → Puts one (lines_text ys) new → Puts old (lines_text (xs ++ ys)) new
lines_then xs ys first more = retext (sym (lines_text-both xs ys)) (then first more)

pub entries_then : {old one new : List ℕ} (xs ys : List (List ℕ)) → Puts old (all_separated xs) one → Puts one (all_separated ys) new → Puts old (all_separated (xs ++ ys)) new
entries_then xs ys first more = retext (sym (separated-both xs ys)) (then first more)

-- a line, and the end of it
pub ended : {old one new line : List ℕ} → Puts old line one → Puts one (10 ∷ []) new → Puts old (line ++ 10 ∷ []) new
ended {old} {one} {new} {line} put end = then put end
