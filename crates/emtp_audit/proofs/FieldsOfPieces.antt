-- The fields of a line that is made of pieces.
use Rattle.std.proofs.Common.{◌≡◌, ◌++◌, ◌∙◌, sym, ap, ℕ, true, false, cond, List, [], ◌∷◌, map, refl, append_assoc, append-nil}
use Rattle.std.specs.Prelude.{All}
use Rattle.std.specs.List.{slice_split, onto_first}
use Rattle.std.proofs.lemmas.List.Splits.{slice_split_none, slice_split_at, slice_split-cons_yes, slice_split-cons_no}
use Rattle.std.proofs.lemmas.List.Elements.{All-append, All-cons}
use Rattle.emtp_card.specs.Name.{is_comma}
use Rattle.emtp_card.specs.Lines.{is_newline}
use Rattle.emtp_card.specs.held.Lines.{HasNoNewline}
use Rattle.emtp_card.specs.Field.{trimmed}
use Rattle.emtp_audit.specs.Rules.{comma_fields}

abbrev pub HasNoComma : List ℕ → Type 0
HasNoComma bytes = All (λ byte. is_comma byte ≡ false) bytes

-- a comma parts what stands before it from what stands after it
pub split-comma : (front tail : List ℕ) → slice_split is_comma (front ++ 44 ∷ tail) ≡ slice_split is_comma front ++ slice_split is_comma tail
split-comma [] tail = slice_split-cons_yes is_comma 44 tail refl
split-comma (byte ∷ front) tail = elim (is_comma byte) as (λ t. is_comma byte ≡ t → slice_split is_comma (byte ∷ (front ++ 44 ∷ tail)) ≡ slice_split is_comma (byte ∷ front) ++ slice_split is_comma tail) [
  | true ↦ λ e.
      slice_split-cons_yes is_comma byte (front ++ 44 ∷ tail) e
      ∙ ap (λ (ps : List (List ℕ)). [] ∷ ps) (split-comma front tail)
      ∙ sym (ap (λ (ps : List (List ℕ)). ps ++ slice_split is_comma tail) (slice_split-cons_yes is_comma byte front e))
  | false ↦ λ e.
      slice_split-cons_no is_comma byte (front ++ 44 ∷ tail) e
      ∙ ap (onto_first byte) (split-comma front tail)
      ∙ onto_some byte front (slice_split is_comma tail)
      ∙ sym (ap (λ (ps : List (List ℕ)). ps ++ slice_split is_comma tail) (slice_split-cons_no is_comma byte front e))
] refl
  where
    onto : (b : ℕ) (p : List ℕ) (ps qs : List (List ℕ)) → onto_first b ((p ∷ ps) ++ qs) ≡ onto_first b (p ∷ ps) ++ qs
    onto b p ps qs = refl

    onto_some : (b : ℕ) (xs : List ℕ) (qs : List (List ℕ)) → onto_first b (slice_split is_comma xs ++ qs) ≡ onto_first b (slice_split is_comma xs) ++ qs
    onto_some b [] qs = refl
    onto_some b (x ∷ xs) qs = elim (is_comma x) as (λ t. onto_first b (cond t ([] ∷ slice_split is_comma xs) (onto_first x (slice_split is_comma xs)) ++ qs) ≡ onto_first b (cond t ([] ∷ slice_split is_comma xs) (onto_first x (slice_split is_comma xs))) ++ qs) [
      | true ↦ refl
      | false ↦ elim (slice_split is_comma xs) as (λ ps. onto_first b (onto_first x ps ++ qs) ≡ onto_first b (onto_first x ps) ++ qs) [ [] ↦ refl | p ∷ ps ↦ refl ]
    ]

-- a text after a line makes these fields more
abbrev pub AddsFields : List ℕ → List (List ℕ) → Type 0
AddsFields tail fields = (front : List ℕ) → slice_split is_comma (front ++ tail) ≡ slice_split is_comma front ++ fields

pub fields-none : AddsFields [] []
fields-none front = ap (slice_split is_comma) (append-nil front) ∙ sym (append-nil (slice_split is_comma front))

-- a comma and a piece
pub fields-piece : (piece : List ℕ) → HasNoComma piece → AddsFields (44 ∷ piece) (piece ∷ [])
fields-piece piece none front = split-comma front piece ∙ ap (λ (ps : List (List ℕ)). slice_split is_comma front ++ ps) (slice_split_none is_comma piece none)

pub fields-both : (a b : List ℕ) (x y : List (List ℕ)) → AddsFields a x → AddsFields b y → AddsFields (a ++ b) (x ++ y)
fields-both a b x y first second front =
    ap (slice_split is_comma) (sym (append_assoc front a b))
    ∙ second (front ++ a)
    ∙ ap (λ (ps : List (List ℕ)). ps ++ y) (first front)
    ∙ append_assoc (slice_split is_comma front) x y

-- the first piece of a line, and the fields that follow it
pub fields-line : (piece tail : List ℕ) (fields : List (List ℕ)) → HasNoComma piece → AddsFields tail fields → comma_fields (piece ++ tail) ≡ trimmed piece ∷ map trimmed fields
unfolding comma_fields
fields-line piece tail fields none adds =
    ap (map trimmed) (adds piece ∙ ap (λ (ps : List (List ℕ)). ps ++ fields) (slice_split_none is_comma piece none))

-- ---- pieces that are joined by commas

-- neither a comma nor an end of line stands in a piece
pub record IsPiece (piece : List ℕ) : Type 0 where
  pub no_comma : HasNoComma piece
  pub one_line : HasNoNewline piece

abbrev pub ArePieces : List (List ℕ) → Type 0
ArePieces [] = Unit {0}
ArePieces (piece ∷ pieces) = IsPiece piece × ArePieces pieces

abbrev pub with_commas : List ℕ → List (List ℕ) → List ℕ
with_commas piece [] = piece
with_commas piece (next ∷ pieces) = piece ++ 44 ∷ with_commas next pieces

split-pieces : (piece : List ℕ) (pieces : List (List ℕ)) → ArePieces (piece ∷ pieces) → slice_split is_comma (with_commas piece pieces) ≡ piece ∷ pieces
split-pieces piece [] are = slice_split_none is_comma piece are.0.no_comma
split-pieces piece (next ∷ pieces) are =
    slice_split_at is_comma piece 44 (with_commas next pieces) are.0.no_comma refl
    ∙ ap (λ (ps : List (List ℕ)). piece ∷ ps) (split-pieces next pieces are.1)

-- the fields of such a line are its pieces
pub fields-pieces : (piece : List ℕ) (pieces : List (List ℕ)) → ArePieces (piece ∷ pieces) → comma_fields (with_commas piece pieces) ≡ map trimmed (piece ∷ pieces)
unfolding comma_fields
fields-pieces piece pieces are = ap (map trimmed) (split-pieces piece pieces are)

pub one_line-pieces : (piece : List ℕ) (pieces : List (List ℕ)) → ArePieces (piece ∷ pieces) → HasNoNewline (with_commas piece pieces)
one_line-pieces piece [] are = are.0.one_line
one_line-pieces piece (next ∷ pieces) are =
    All-append (λ byte. is_newline byte ≡ false) piece (44 ∷ with_commas next pieces) are.0.one_line
    (All-cons (λ byte. is_newline byte ≡ false) 44 (with_commas next pieces) refl (one_line-pieces next pieces are.1))
