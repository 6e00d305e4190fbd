-- The first line of a text, and what stands after it.
use Rattle.std.proofs.Common.{◌≡◌, ◌≢◌, ◌++◌, ◌∙◌, ap, ℕ, suc, ◌+◌, ◌<◌, ◌≤◌, ◌==◌, true, false, cond, List, [], ◌∷◌, Some, None, length, take, drop, position, ltb, refl, arith}
use Rattle.std.proofs.lemmas.Bool.Decides.{nat_tests}
use Rattle.std.proofs.lemmas.Bool.{ltb-false}
use Rattle.std.proofs.lemmas.List.Quantifiers.{position-Some}
use Rattle.std.proofs.lemmas.List.Sums.{position_or_len_is, fails_before_first}
use Rattle.std.proofs.lemmas.List.Splits.{slice_split_first, slice_split_none, slice_split_at}
use Rattle.std.specs.List.{slice_split, onto_first, before_first, after_first, position_or_len}
use Rattle.std.specs.Str.Lines.{lines_of_parts, strip_carriage_return}
use Rattle.emtp_card.specs.Lines.{lines_of, is_newline}
use Rattle.emtp_card.specs.held.Lines.{without_return, HasNoNewline, SplitsIntoLines}

-- where the first LF is
pub found_is : (xs : List ℕ) (place : ℕ) → position is_newline xs ≡ Some place → (place < length xs) × (position_or_len is_newline xs ≡ place)
found_is xs place h =
    let found = position-Some is_newline xs place 0 h in
    (found.0, position_or_len_is is_newline xs place 0 (omega (arith, found.0)) found.2 (λ _. found.1))

-- no LF at all
pub none_is : (xs : List ℕ) → position is_newline xs ≡ None → length xs ≤ position_or_len is_newline xs
none_is xs h =
    let first = position_or_len is_newline xs in
    elim (ltb first (length xs)) as (λ t. ltb first (length xs) ≡ t → cond t (Some first) None ≡ None → length xs ≤ first) [
      | true ↦ λ below e. absurd (cc)
      | false ↦ λ past _. ltb-false first (length xs) past
    ] refl h

-- a part before another one is a line without its carriage return
lines_cons : (x : List ℕ) (ys : List ℕ) → lines_of_parts (x ∷ slice_split is_newline ys) ≡ strip_carriage_return x ∷ lines_of_parts (slice_split is_newline ys)
lines_cons x [] = refl
lines_cons x (y ∷ ys) = elim (is_newline y) as (λ t. lines_of_parts (x ∷ cond t ([] ∷ slice_split is_newline ys) (onto_first y (slice_split is_newline ys))) ≡ strip_carriage_return x ∷ lines_of_parts (cond t ([] ∷ slice_split is_newline ys) (onto_first y (slice_split is_newline ys)))) [
  | true ↦ refl
  | false ↦ elim (slice_split is_newline ys) as (λ ps. lines_of_parts (x ∷ onto_first y ps) ≡ strip_carriage_return x ∷ lines_of_parts (onto_first y ps)) [ [] ↦ refl | q ∷ qs ↦ refl ]
]

-- a line that an LF ends
pub first_line : (xs : List ℕ) (place : ℕ) → position is_newline xs ≡ Some place → lines_of xs ≡ strip_carriage_return (take place xs) ∷ lines_of (drop (place + 1) xs)
unfolding lines_of
first_line xs place h =
    let found = found_is xs place h in
    let below : position_or_len is_newline xs < length xs = omega (arith, found.0, found.1) in
    ap lines_of_parts (slice_split_first is_newline xs 0 below)
    ∙ lines_cons (before_first is_newline xs) (after_first is_newline xs)
    ∙ ap (λ k. strip_carriage_return (take k xs) ∷ lines_of (drop (k + 1) xs)) found.1

-- a last piece, which is a line where it isn't empty
pub last_line : (xs : List ℕ) → position is_newline xs ≡ None → lines_of xs ≡ cond (length xs == 0) [] (xs ∷ [])
unfolding lines_of
last_line xs h = ap lines_of_parts (slice_split_none is_newline xs (λ k d below. fails_before_first is_newline xs k d (omega (arith, none_is xs h, below))))

pub lines_of-nil : lines_of [] ≡ []
unfolding lines_of
lines_of-nil = refl

last_piece : (bytes : List ℕ) → HasNoNewline bytes → bytes ≢ [] → lines_of bytes ≡ bytes ∷ []
unfolding lines_of
last_piece [] none some = absurd (some refl)
last_piece (byte ∷ bytes) none some = ap lines_of_parts (slice_split_none is_newline (byte ∷ bytes) none) ∙ ap (λ t. cond t [] ((byte ∷ bytes) ∷ [])) (not_zero (length bytes))
  where
    not_zero : (n : ℕ) → (suc n == 0) ≡ false
    not_zero n = grind (arith, nat_tests)

ended_piece : (piece rest : List ℕ) → HasNoNewline piece → lines_of (piece ++ 10 ∷ rest) ≡ without_return piece ∷ lines_of rest
unfolding lines_of
ended_piece piece rest none = ap lines_of_parts (slice_split_at is_newline piece 10 rest none refl) ∙ lines_cons piece rest

-- the lines, piece by piece
pub lines_by_pieces : (bytes : List ℕ) → SplitsIntoLines bytes
lines_by_pieces bytes = record {
  none = λ e. ap lines_of e ∙ lines_of-nil;
  ended = λ piece rest none is. ap lines_of is ∙ ended_piece piece rest none;
  last = last_piece bytes;
}
