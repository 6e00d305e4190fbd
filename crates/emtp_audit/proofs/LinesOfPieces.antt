-- The lines of a text that is made of pieces.
use Rattle.std.proofs.Common.{◌≡◌, ◌++◌, ◌∙◌, sym, ap, ℕ, ◌-◌, ◌==◌, false, cond, List, [], ◌∷◌, take, length, get_or, refl, arith, append_assoc, length-append}
use Rattle.std.specs.Str.Lines.{strip_carriage_return}
use Rattle.std.proofs.lemmas.List.Elements.{All-append, All-cons, All-nil}
use Rattle.emtp_card.specs.Lines.{lines_of, is_newline}
use Rattle.emtp_card.specs.held.Lines.{HasNoNewline}
use Rattle.emtp_audit.specs.held.Pieces.{ended, IsLines}
use Rattle.emtp_card.proofs.Splitting.{lines_by_pieces}

-- a CR at the end is taken away
strip-return : (piece : List ℕ) → strip_carriage_return (piece ++ 13 ∷ []) ≡ piece
strip-return piece =
    let count : length (piece ++ 13 ∷ []) - 1 ≡ length piece = omega (arith, length-append piece (13 ∷ [])) in
    let last : get_or (piece ++ 13 ∷ []) (length (piece ++ 13 ∷ []) - 1) 0 ≡ 13 =
    ap (λ (k : ℕ). get_or (piece ++ 13 ∷ []) k 0) count ∙ last_of piece in
    let front : take (length (piece ++ 13 ∷ []) - 1) (piece ++ 13 ∷ []) ≡ piece =
    ap (λ (k : ℕ). take k (piece ++ 13 ∷ [])) count ∙ front_of piece in
    ap (λ (b : ℕ). cond (b == 13) (take (length (piece ++ 13 ∷ []) - 1) (piece ++ 13 ∷ [])) (piece ++ 13 ∷ [])) last ∙ front
  where
    last_of : (xs : List ℕ) → get_or (xs ++ 13 ∷ []) (length xs) 0 ≡ 13
    last_of [] = refl
    last_of (x ∷ xs) = last_of xs

    front_of : (xs : List ℕ) → take (length xs) (xs ++ 13 ∷ []) ≡ xs
    front_of [] = refl
    front_of (x ∷ xs) = ap (λ (ys : List ℕ). x ∷ ys) (front_of xs)

pub lines-piece : (piece : List ℕ) → HasNoNewline piece → IsLines (ended piece) (piece ∷ [])
lines-piece piece none rest =
    ap lines_of (append_assoc piece (13 ∷ 10 ∷ []) rest ∙ sym (append_assoc piece (13 ∷ []) (10 ∷ rest)))
    ∙ (lines_by_pieces ((piece ++ 13 ∷ []) ++ 10 ∷ rest)).ended (piece ++ 13 ∷ []) rest (All-append (λ byte. is_newline byte ≡ false) piece (13 ∷ []) none (All-cons (λ byte. is_newline byte ≡ false) 13 [] refl (All-nil (λ byte. is_newline byte ≡ false)))) refl
    ∙ ap (λ (l : List ℕ). l ∷ lines_of rest) (strip-return piece)

pub lines-none : IsLines [] []
lines-none rest = refl

pub lines-both : (a b : List ℕ) (x y : List (List ℕ)) → IsLines a x → IsLines b y → IsLines (a ++ b) (x ++ y)
lines-both a b x y first second rest =
    ap lines_of (append_assoc a b rest)
    ∙ first (b ++ rest)
    ∙ ap (λ (ls : List (List ℕ)). x ++ ls) (second rest)
    ∙ sym (append_assoc x y (lines_of rest))
