-- Whether a case is too long, told by the lines that were counted.
use Rattle.std.proofs.Common.{◌≡◌, ◌∙◌, sym, ap, ℕ, ◌+◌, ◌<◌, ◌≤◌, List, length, Option, Some, None, option_map, Bool, true, false, cond, nat_lt, count_by, take, refl, arith}
use Rattle.std.proofs.lemmas.Bool.Decides.{nat_tests}
use Rattle.emtp_card.specs.Lines.{lines_of, is_newline}
use Rattle.emtp_card.specs.Cards.{line_past_count, line_past_bytes, lesser_line, too_many_at, size_fault}
use Rattle.emtp_card.specs.declared.cards.TheConstants.{MAX_LINES, MAX_BYTES}

line_past_count_some : (bytes : List ℕ) → MAX_LINES < length (lines_of bytes) → line_past_count bytes ≡ Some (MAX_LINES + 1)
unfolding line_past_count
line_past_count_some bytes h = grind (arith, nat_tests)

line_past_count_none : (bytes : List ℕ) → length (lines_of bytes) ≤ MAX_LINES → line_past_count bytes ≡ None
unfolding line_past_count
line_past_count_none bytes h = grind (arith, nat_tests)

-- more lines than there may be: the first too many, or the line of the first byte too many
pub size_fault_by_count : (bytes : List ℕ) (far : Option ℕ) (first : ℕ) → MAX_LINES < length (lines_of bytes) → far ≡ line_past_bytes bytes
    → lesser_line (Some (MAX_LINES + 1)) far ≡ Some first → size_fault bytes ≡ Some (too_many_at first)
unfolding size_fault
size_fault_by_count bytes far first many by_bytes lesser =
    ap (λ o. option_map too_many_at (lesser_line o (line_past_bytes bytes))) (line_past_count_some bytes many)
    ∙ ap (λ o. option_map too_many_at (lesser_line (Some (MAX_LINES + 1)) o)) (sym by_bytes)
    ∙ ap (option_map too_many_at) lesser

-- no more lines than there may be: the bytes decide
pub size_fault_by_bytes : (bytes : List ℕ) (far : Option ℕ) → length (lines_of bytes) ≤ MAX_LINES → far ≡ line_past_bytes bytes → size_fault bytes ≡ option_map too_many_at far
unfolding size_fault
size_fault_by_bytes bytes far few by_bytes =
    ap (λ o. option_map too_many_at (lesser_line o (line_past_bytes bytes))) (line_past_count_none bytes few)
    ∙ ap (option_map too_many_at) (sym by_bytes)

-- no more bytes than there may be
at_most : (n : ℕ) → nat_lt MAX_BYTES n ≡ false → n ≤ MAX_BYTES
at_most n h = grind (arith, nat_tests)

pub few_bytes : (bytes : List ℕ) → line_past_bytes bytes ≡ None → length bytes ≤ MAX_BYTES
unfolding line_past_bytes
few_bytes bytes h = by_test bytes (nat_lt MAX_BYTES (length bytes)) refl h
  where
    by_test : (bytes : List ℕ) (t : Bool) → nat_lt MAX_BYTES (length bytes) ≡ t → cond t (Some (count_by is_newline (take MAX_BYTES bytes) + 1)) None ≡ None → length bytes ≤ MAX_BYTES
    by_test bytes true is e = absurd (cc)
    by_test bytes false is e = at_most (length bytes) is
