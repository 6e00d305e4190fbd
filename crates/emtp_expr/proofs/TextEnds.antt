-- Blanks at the end of a text: it spells the same expression without them.
use Rattle.std.proofs.Common.{◌≡◌, ◌∙◌, sym, ap, ℕ, zero, suc, ◌+◌, ◌-◌, ◌==◌, ◌≤◌, Bool, true, false, ◌&&◌, ◌||◌, cond, List, [], ◌∷◌, ◌++◌, take, drop, length, Option, Some, refl, arith}
use Rattle.std.specs.Prelude.{nat_lt, nat_eq, is_none, pos, take_while}
use Rattle.std.specs.Char.{is_ascii_digit, is_ascii_alphabetic, is_ascii_alphanumeric}
use Rattle.std.specs.List.{list_all, prefix_len, starts_with}
use Rattle.std.proofs.lemmas.List.{take-append-le}
use Rattle.std.proofs.lemmas.List.Sums.{prefix_len-le-length}
use Rattle.emtp_card.specs.Field.{trimmed, without_leading, without_trailing}
use Rattle.emtp_card.specs.Lines.{is_blank}
use Rattle.emtp_card.specs.Number.{in_limit, number_in, read_number_of}
use Rattle.emtp_card.proofs.Blanks.{blanks-first, blanks-rest, drop-blanks, is_blank_means, take-blanks, without_trailing-append}
use Rattle.emtp_card.proofs.LineEnds.{begins-alike, is_word, part_behind, trailing-behind}
use Rattle.emtp_fix.specs.declared.limit.TheConstants.{LARGEST_VALUE}
use Rattle.emtp_expr.specs.Number.{number_read, number_word}
use Rattle.emtp_expr.specs.Parsing.{and_then, begin, end_column, end_from, expression_of, finished, read_words}
use Rattle.emtp_expr.specs.Words.{Placed, begun_with, digit_count, dotted, dotted_words, exponent_length, fraction_length, letter_count, mantissa_length, mark, name_length, name_word, number_length, placed, power_length, sign_length, taken, word_at, word_or, words_from, words_of}
use Rattle.emtp_expr.specs.declared.words.Taken.{Taken}
use Rattle.emtp_expr.specs.declared.words.Word.{Word}
use Rattle.emtp_expr.proofs.Scanning.{blank_here}

-- ---- bytes in front

prefix_alike : (p : ℕ → Bool) → p 32 ≡ false → (bytes blanks : List ℕ) → list_all is_blank blanks ≡ true → prefix_len p (bytes ++ blanks) ≡ prefix_len p bytes
prefix_alike p out [] [] h = refl
prefix_alike p out [] (byte ∷ blanks) h = ap (λ t. cond t (1 + prefix_len p blanks) 0) (ap p (is_blank_means byte (blanks-first byte blanks h)) ∙ out)
prefix_alike p out (byte ∷ bytes) blanks h = ap (λ n. cond (p byte) (1 + n) 0) (prefix_alike p out bytes blanks h)

front_alike : (p : ℕ → Bool) → p 32 ≡ false → (bytes blanks : List ℕ) → list_all is_blank blanks ≡ true → take_while p (bytes ++ blanks) ≡ take_while p bytes
front_alike p out bytes blanks h =
    ap (λ n. take n (bytes ++ blanks)) (prefix_alike p out bytes blanks h)
    ∙ take-append-le (prefix_len p bytes) bytes blanks (prefix_len-le-length p bytes)

digits_alike : (bytes blanks : List ℕ) → list_all is_blank blanks ≡ true → digit_count (bytes ++ blanks) ≡ digit_count bytes
digits_alike bytes blanks h = ap length (front_alike is_ascii_digit refl bytes blanks h)

letters_alike : (bytes blanks : List ℕ) → list_all is_blank blanks ≡ true → letter_count (bytes ++ blanks) ≡ letter_count bytes
letters_alike bytes blanks h = ap length (front_alike is_ascii_alphanumeric refl bytes blanks h)

-- ---- words in front

and_parts : (s t : Bool) → (s && t) ≡ true → (s ≡ true) × (t ≡ true)
and_parts true t h = (refl, h)
and_parts false t h = absurd (cc)

begun_alike : (table : List (List ℕ × Word)) (bytes blanks : List ℕ) → list_all (λ (entry : List ℕ × Word). is_word entry.0) table ≡ true → list_all is_blank blanks ≡ true → begun_with table (bytes ++ blanks) ≡ begun_with table bytes
begun_alike [] bytes blanks words h = refl
begun_alike (entry ∷ table) bytes blanks words h =
    let parts = and_parts (is_word entry.0) (list_all (λ (e : List ℕ × Word). is_word e.0) table) words in
    let this = Some (taken entry.1 (length entry.0)) in
    ap (λ t. cond t this (begun_with table (bytes ++ blanks))) (begins-alike entry.0 bytes blanks parts.0 h)
    ∙ ap (λ r. cond (starts_with nat_eq bytes entry.0) this r) (begun_alike table bytes blanks parts.1 h)

dotted_alike : (bytes blanks : List ℕ) → list_all is_blank blanks ≡ true → dotted (bytes ++ blanks) ≡ dotted bytes
unfolding dotted
dotted_alike bytes blanks h = begun_alike dotted_words bytes blanks refl h

fraction_alike : (bytes blanks : List ℕ) → list_all is_blank blanks ≡ true → fraction_length (bytes ++ blanks) ≡ fraction_length bytes
unfolding fraction_length
fraction_alike [] [] h = refl
fraction_alike [] (byte ∷ blanks) h = ap (λ b. cond ((b == 46) && is_none (dotted (b ∷ blanks))) (1 + digit_count blanks) 0) (is_blank_means byte (blanks-first byte blanks h))
fraction_alike (byte ∷ bytes) blanks h =
    ap (λ d. cond ((byte == 46) && is_none d) (1 + digit_count (bytes ++ blanks)) 0) (dotted_alike (byte ∷ bytes) blanks h)
    ∙ ap (λ n. cond ((byte == 46) && is_none (dotted (byte ∷ bytes))) (1 + n) 0) (digits_alike bytes blanks h)

fraction_after : (n : ℕ) (bytes blanks : List ℕ) → list_all is_blank blanks ≡ true → fraction_length (drop n (bytes ++ blanks)) ≡ fraction_length (drop n bytes)
fraction_after n bytes blanks h =
    let behind = drop-blanks n bytes blanks h in
    ap fraction_length behind.whole_is ∙ fraction_alike (drop n bytes) behind.blanks behind.blank

mantissa_alike : (bytes blanks : List ℕ) → list_all is_blank blanks ≡ true → mantissa_length (bytes ++ blanks) ≡ mantissa_length bytes
unfolding mantissa_length
mantissa_alike bytes blanks h =
    let together : ℕ → ℕ → ℕ = λ n m. cond ((n == 0) && nat_lt m 2) 0 (n + m) in
    ap (λ n. together n (fraction_length (drop n (bytes ++ blanks)))) (digits_alike bytes blanks h)
    ∙ ap (together (digit_count bytes)) (fraction_after (digit_count bytes) bytes blanks h)

sign_alike : (bytes blanks : List ℕ) → list_all is_blank blanks ≡ true → sign_length (bytes ++ blanks) ≡ sign_length bytes
unfolding sign_length
sign_alike [] [] h = refl
sign_alike [] (byte ∷ blanks) h = ap (λ b. cond ((b == 43) || (b == 45)) 1 0) (is_blank_means byte (blanks-first byte blanks h))
sign_alike (byte ∷ bytes) blanks h = refl

power_alike : (bytes blanks : List ℕ) → list_all is_blank blanks ≡ true → power_length (bytes ++ blanks) ≡ power_length bytes
unfolding power_length
power_alike bytes blanks h =
    let together : ℕ → ℕ → ℕ = λ s d. cond (d == 0) 0 (s + d) in
    let behind = part_behind 3 (sign_length bytes) bytes blanks h in
    ap (λ s. together s (digit_count (take 3 (drop s (bytes ++ blanks))))) (sign_alike bytes blanks h)
    ∙ ap (together (sign_length bytes)) (ap digit_count behind.whole_is ∙ digits_alike (take 3 (drop (sign_length bytes) bytes)) behind.blanks behind.blank)

exponent_alike : (bytes blanks : List ℕ) → list_all is_blank blanks ≡ true → exponent_length (bytes ++ blanks) ≡ exponent_length bytes
unfolding exponent_length
exponent_alike [] [] h = refl
exponent_alike [] (byte ∷ blanks) h =
    let together : ℕ → ℕ = λ n. cond (n == 0) 0 (1 + n) in
    ap (λ b. cond ((b == 69) || (b == 68)) (together (power_length blanks)) 0) (is_blank_means byte (blanks-first byte blanks h))
exponent_alike (byte ∷ bytes) blanks h = ap (λ n. cond ((byte == 69) || (byte == 68)) (cond (n == 0) 0 (1 + n)) 0) (power_alike bytes blanks h)

exponent_after : (n : ℕ) (bytes blanks : List ℕ) → list_all is_blank blanks ≡ true → exponent_length (drop n (bytes ++ blanks)) ≡ exponent_length (drop n bytes)
exponent_after n bytes blanks h =
    let behind = drop-blanks n bytes blanks h in
    ap exponent_length behind.whole_is ∙ exponent_alike (drop n bytes) behind.blanks behind.blank

number_alike : (bytes blanks : List ℕ) → list_all is_blank blanks ≡ true → number_length (bytes ++ blanks) ≡ number_length bytes
unfolding number_length
number_alike bytes blanks h =
    let together : ℕ → ℕ → ℕ = λ n m. cond (n == 0) 0 (n + m) in
    ap (λ n. together n (exponent_length (drop n (bytes ++ blanks)))) (mantissa_alike bytes blanks h)
    ∙ ap (together (mantissa_length bytes)) (exponent_after (mantissa_length bytes) bytes blanks h)

name_alike : (bytes blanks : List ℕ) → list_all is_blank blanks ≡ true → name_length (bytes ++ blanks) ≡ name_length bytes
unfolding name_length
name_alike [] [] h = refl
name_alike [] (byte ∷ blanks) h = ap (λ b. cond (is_ascii_alphabetic b) (1 + letter_count (take 5 blanks)) 0) (is_blank_means byte (blanks-first byte blanks h))
name_alike (byte ∷ bytes) blanks h =
    let behind = take-blanks 5 bytes blanks h in
    ap (λ n. cond (is_ascii_alphabetic byte) (1 + n) 0) (ap letter_count behind.whole_is ∙ letters_alike (take 5 bytes) behind.blanks behind.blank)

-- a name is no longer than the text
take_within : (n : ℕ) (bytes : List ℕ) → length (take n bytes) ≤ length bytes
take_within zero bytes = omega arith
take_within (suc n) [] = omega arith
take_within (suc n) (byte ∷ bytes) = let rest = take_within n bytes in omega (arith, rest)

name_within : (bytes : List ℕ) → name_length bytes ≤ length bytes
unfolding name_length
name_within [] = omega arith
name_within (byte ∷ bytes) = by_test (is_ascii_alphabetic byte) (letter_count (take 5 bytes)) (length bytes) (omega (arith, take_within (prefix_len is_ascii_alphanumeric (take 5 bytes)) (take 5 bytes), take_within 5 bytes))
  where
    by_test : (t : Bool) (n m : ℕ) → n ≤ m → cond t (1 + n) 0 ≤ suc m
    by_test true n m h = omega arith
    by_test false n m h = omega arith

-- ---- the word in front

number_read_alike : (n : ℕ) (bytes blanks : List ℕ) → list_all is_blank blanks ≡ true → number_word (take n (bytes ++ blanks)) ≡ number_word (take n bytes)
unfolding read_number_of trimmed
number_read_alike n bytes blanks h =
    let behind = take-blanks n bytes blanks h in
    ap (λ t. number_read (in_limit (pos LARGEST_VALUE) (number_in (pos 9) (without_leading t)))) (ap without_trailing behind.whole_is ∙ without_trailing-append (take n bytes) behind.blanks behind.blank)

name_read_alike : (bytes blanks : List ℕ) → name_word (take (name_length bytes) (bytes ++ blanks)) ≡ name_word (take (name_length bytes) bytes)
name_read_alike bytes blanks = ap name_word (take-append-le (name_length bytes) bytes blanks (name_within bytes))

-- the word in front by what there is of each kind
abbrev word_by : Option Taken → ℕ → Word → ℕ → Word → Word → Taken
word_by d n number m name other = word_or d (cond (nat_lt 0 n) (taken number n) (cond (nat_lt 0 m) (taken name m) (taken other 1)))

word_alike : (byte : ℕ) (bytes blanks : List ℕ) → list_all is_blank blanks ≡ true → word_at (byte ∷ bytes ++ blanks) ≡ word_at (byte ∷ bytes)
unfolding word_at
word_alike byte bytes blanks h =
    let text = byte ∷ bytes in
    let whole = byte ∷ bytes ++ blanks in
    ap (λ d. word_by d (number_length whole) (number_word (take (number_length whole) whole)) (name_length whole) (name_word (take (name_length whole) whole)) (mark byte)) (dotted_alike text blanks h)
    ∙ ap (λ n. word_by (dotted text) n (number_word (take n whole)) (name_length whole) (name_word (take (name_length whole) whole)) (mark byte)) (number_alike text blanks h)
    ∙ ap (λ w. word_by (dotted text) (number_length text) w (name_length whole) (name_word (take (name_length whole) whole)) (mark byte)) (number_read_alike (number_length text) text blanks h)
    ∙ ap (λ m. word_by (dotted text) (number_length text) (number_word (take (number_length text) text)) m (name_word (take m whole)) (mark byte)) (name_alike text blanks h)
    ∙ ap (λ w. word_by (dotted text) (number_length text) (number_word (take (number_length text) text)) (name_length text) w (mark byte)) (name_read_alike text blanks)

-- ---- all words

no_words : (skip column : ℕ) (blanks : List ℕ) → list_all is_blank blanks ≡ true → words_from skip column blanks ≡ []
unfolding words_from
no_words zero column [] h = refl
no_words (suc skip) column [] h = refl
no_words (suc skip) column (byte ∷ blanks) h = no_words skip (column + 1) blanks (blanks-rest byte blanks h)
no_words zero column (byte ∷ blanks) h = blank_here column byte blanks (is_blank_means byte (blanks-first byte blanks h)) ∙ no_words zero (column + 1) blanks (blanks-rest byte blanks h)

words_alike : (skip column : ℕ) (bytes blanks : List ℕ) → list_all is_blank blanks ≡ true → words_from skip column (bytes ++ blanks) ≡ words_from skip column bytes
unfolding words_from
words_alike zero column [] blanks h = no_words zero column blanks h
words_alike (suc skip) column [] blanks h = no_words (suc skip) column blanks h
words_alike (suc skip) column (byte ∷ bytes) blanks h = words_alike skip (column + 1) bytes blanks h
words_alike zero column (byte ∷ bytes) blanks h =
    let word = word_at (byte ∷ bytes) in
    ap (λ (t : Taken). cond (byte == 32) (words_from zero (column + 1) (bytes ++ blanks)) (placed t.word column ∷ words_from (t.length - 1) (column + 1) (bytes ++ blanks))) (word_alike byte bytes blanks h)
    ∙ ap (λ (ws : List Placed). cond (byte == 32) ws (placed word.word column ∷ words_from (word.length - 1) (column + 1) (bytes ++ blanks))) (words_alike zero (column + 1) bytes blanks h)
    ∙ ap (λ (ws : List Placed). cond (byte == 32) (words_from zero (column + 1) bytes) (placed word.word column ∷ ws)) (words_alike (word.length - 1) (column + 1) bytes blanks h)

end_stays : (end column : ℕ) (blanks : List ℕ) → list_all is_blank blanks ≡ true → end_from end column blanks ≡ end
end_stays end column [] h = refl
end_stays end column (byte ∷ blanks) h =
    ap (λ b. end_from (cond (b == 32) end (column + 1)) (column + 1) blanks) (is_blank_means byte (blanks-first byte blanks h))
    ∙ end_stays end (column + 1) blanks (blanks-rest byte blanks h)

end_alike : (end column : ℕ) (bytes blanks : List ℕ) → list_all is_blank blanks ≡ true → end_from end column (bytes ++ blanks) ≡ end_from end column bytes
end_alike end column [] blanks h = end_stays end column blanks h
end_alike end column (byte ∷ bytes) blanks h = end_alike (cond (byte == 32) end (column + 1)) (column + 1) bytes blanks h

expression_alike : (bytes blanks : List ℕ) → list_all is_blank blanks ≡ true → expression_of (bytes ++ blanks) ≡ expression_of bytes
unfolding expression_of words_of
expression_alike bytes blanks h =
    ap (λ ws. and_then (finished (end_column (bytes ++ blanks))) (read_words begin ws)) (words_alike 0 1 bytes blanks h)
    ∙ ap (λ end. and_then (finished end) (read_words begin (words_from 0 1 bytes))) (end_alike 1 1 bytes blanks h)

expression-trailing : (text : List ℕ) → expression_of text ≡ expression_of (without_trailing text)
expression-trailing text =
    let behind = trailing-behind text in
    ap expression_of behind.whole_is ∙ expression_alike (without_trailing text) behind.blanks behind.blank

-- texts that are the same without the blanks at their ends
pub same-expression : (x y : List ℕ) → without_trailing x ≡ without_trailing y → expression_of x ≡ expression_of y
same-expression x y same = expression-trailing x ∙ ap expression_of same ∙ sym (expression-trailing y)
