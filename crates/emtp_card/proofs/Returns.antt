-- A CR before an LF: the lines are the same without it.
use Rattle.std.proofs.Common.{◌≡◌, ◌∙◌, sym, ap, ℕ, suc, ◌-◌, ◌==◌, Bool, true, false, cond, List, [], ◌∷◌, ◌++◌, take, length, length-append, refl, arith}
use Rattle.std.specs.Prelude.{slice_index}
use Rattle.std.proofs.Math.Seq.{get_or-append_seam, take-append_seam}
use Rattle.std.proofs.lemmas.Bool.Decides.{nat_tests}
use Rattle.std.proofs.lemmas.List.{append-nil, append_assoc, length-take}
use Rattle.std.proofs.lemmas.List.Elements.{All-append, All-cons, All-nil}
use Rattle.emtp_card.specs.Lines.{is_newline, lines_of}
use Rattle.emtp_card.specs.held.Lines.{HasNoNewline, without_return}
use Rattle.emtp_card.proofs.Splitting.{lines_by_pieces}

-- whether a text ends with CR
abbrev ends_with_return : List ℕ → Bool
ends_with_return [] = false
ends_with_return (byte ∷ []) = byte == 13
ends_with_return (byte ∷ next ∷ bytes) = ends_with_return (next ∷ bytes)

-- it is what its last byte says
last_says : (bytes : List ℕ) → (slice_index bytes (length bytes - 1) == 13) ≡ ends_with_return bytes
last_says [] = refl
last_says (byte ∷ []) = refl
last_says (byte ∷ next ∷ bytes) = ap (λ n. slice_index (byte ∷ next ∷ bytes) n == 13) (one_less (length bytes)) ∙ last_says (next ∷ bytes)
  where
    one_less : (n : ℕ) → suc (suc n) - 1 ≡ suc (suc n - 1)
    one_less n = omega arith

newline : (byte : ℕ) → is_newline byte ≡ true → byte ≡ 10
newline byte h = grind (arith, nat_tests)

-- a text that isn't changed ends with no CR
kept_ends : (bytes : List ℕ) → without_return bytes ≡ bytes → ends_with_return bytes ≡ false
kept_ends bytes same = by_test bytes (ends_with_return bytes) refl (sym (ap (λ t. cond t (take (length bytes - 1) bytes) bytes) (last_says bytes)) ∙ same)
  where
    shorter : (bytes : List ℕ) → ends_with_return bytes ≡ true → take (length bytes - 1) bytes ≡ bytes → ends_with_return bytes ≡ false
    shorter [] ends same = refl
    shorter (byte ∷ bytes) ends same = let long = ap length same in let cut = length-take (length (byte ∷ bytes) - 1) (byte ∷ bytes) in absurd (omega (arith, long, cut))

    by_test : (bytes : List ℕ) (t : Bool) → ends_with_return bytes ≡ t → cond t (take (length bytes - 1) bytes) bytes ≡ bytes → ends_with_return bytes ≡ false
    by_test bytes true ends same = shorter bytes ends same
    by_test bytes false ends same = ends

ends_kept : (bytes : List ℕ) → ends_with_return bytes ≡ false → without_return bytes ≡ bytes
ends_kept bytes h = ap (λ t. cond t (take (length bytes - 1) bytes) bytes) (last_says bytes ∙ h)

-- the CR that is put behind a text is dropped
return_dropped : (bytes : List ℕ) → without_return (bytes ++ 13 ∷ []) ≡ bytes
return_dropped bytes =
    let whole = bytes ++ 13 ∷ [] in
    let place : length whole - 1 ≡ length bytes = omega (arith, length-append bytes (13 ∷ [])) in
    ap (λ n. cond (slice_index whole n == 13) (take n whole) whole) place
    ∙ ap (λ b. cond (b == 13) (take (length bytes) whole) whole) (get_or-append_seam bytes 13 [] 0)
    ∙ take-append_seam bytes (13 ∷ [])

-- what stands at the end decides
end_decides : (front : List ℕ) (byte : ℕ) (bytes : List ℕ) → ends_with_return (front ++ byte ∷ bytes) ≡ ends_with_return (byte ∷ bytes)
end_decides [] byte bytes = refl
end_decides (first ∷ []) byte bytes = refl
end_decides (first ∷ second ∷ front) byte bytes = end_decides (second ∷ front) byte bytes

rest_ends : (front : List ℕ) (byte : ℕ) (bytes : List ℕ) → ends_with_return (front ++ byte ∷ bytes) ≡ false → ends_with_return bytes ≡ false
rest_ends front byte [] h = refl
rest_ends front byte (next ∷ bytes) h = sym (end_decides front byte (next ∷ bytes)) ∙ h

longer : (piece : List ℕ) (byte : ℕ) → HasNoNewline piece → is_newline byte ≡ false → HasNoNewline (piece ++ byte ∷ [])
longer piece byte none other = All-append (λ b. is_newline b ≡ false) piece (byte ∷ []) none (All-cons (λ b. is_newline b ≡ false) byte [] other (All-nil (λ b. is_newline b ≡ false)))

-- the last line before the LF
last_piece : (piece after : List ℕ) → HasNoNewline piece → ends_with_return piece ≡ false → lines_of (piece ++ 13 ∷ 10 ∷ after) ≡ lines_of (piece ++ 10 ∷ after)
last_piece piece after none ends =
    (lines_by_pieces (piece ++ 13 ∷ 10 ∷ after)).ended (piece ++ 13 ∷ []) after (longer piece 13 none refl) (sym (append_assoc piece (13 ∷ []) (10 ∷ after)))
    ∙ ap (λ line. line ∷ lines_of after) (return_dropped piece ∙ sym (ends_kept piece ends))
    ∙ sym ((lines_by_pieces (piece ++ 10 ∷ after)).ended piece after none refl)

-- the lines are the same with more bytes before the LF, whatever piece of a line stands in front of them
abbrev AreSameWith : List ℕ → List ℕ → Type 0
AreSameWith more after = (piece : List ℕ) → HasNoNewline piece → ends_with_return (piece ++ more) ≡ false → lines_of (piece ++ (more ++ 13 ∷ 10 ∷ after)) ≡ lines_of (piece ++ (more ++ 10 ∷ after))

one_more : (byte : ℕ) (more after : List ℕ) → AreSameWith more after → (t : Bool) → is_newline byte ≡ t → AreSameWith (byte ∷ more) after
one_more byte more after rest true ended piece none ends =
    let is : byte ≡ 10 = newline byte ended in
    (lines_by_pieces (piece ++ (byte ∷ more ++ 13 ∷ 10 ∷ after))).ended piece (more ++ 13 ∷ 10 ∷ after) none (ap (λ b. piece ++ (b ∷ more ++ 13 ∷ 10 ∷ after)) is)
    ∙ ap (λ lines. without_return piece ∷ lines) (rest [] (All-nil (λ b. is_newline b ≡ false)) (rest_ends piece byte more ends))
    ∙ sym ((lines_by_pieces (piece ++ (byte ∷ more ++ 10 ∷ after))).ended piece (more ++ 10 ∷ after) none (ap (λ b. piece ++ (b ∷ more ++ 10 ∷ after)) is))
one_more byte more after rest false goes_on piece none ends =
    sym (ap lines_of (append_assoc piece (byte ∷ []) (more ++ 13 ∷ 10 ∷ after)))
    ∙ rest (piece ++ byte ∷ []) (longer piece byte none goes_on) (ap ends_with_return (append_assoc piece (byte ∷ []) more) ∙ ends)
    ∙ ap lines_of (append_assoc piece (byte ∷ []) (more ++ 10 ∷ after))

same_with : (more after : List ℕ) → AreSameWith more after
same_with [] after piece none ends = last_piece piece after none (ap ends_with_return (sym (append-nil piece)) ∙ ends)
same_with (byte ∷ more) after piece none ends = one_more byte more after (same_with more after) (is_newline byte) refl piece none ends

pub same-lines : (before after : List ℕ) → without_return before ≡ before → lines_of (before ++ 13 ∷ 10 ∷ after) ≡ lines_of (before ++ 10 ∷ after)
same-lines before after same = same_with before after [] (All-nil (λ b. is_newline b ≡ false)) (kept_ends before same)
