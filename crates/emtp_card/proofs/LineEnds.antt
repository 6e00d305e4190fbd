-- Blanks at a line's end: what the readers of a line see of it is the same without them.
use Rattle.std.proofs.Common.{◌≡◌, ◌∙◌, sym, ap, subst, ℕ, zero, suc, ◌+◌, ◌-◌, Bool, true, false, ◌&&◌, ◌||◌, not, cond, List, [], ◌∷◌, ◌++◌, take, drop, Some, None, refl, arith}
use Rattle.std.specs.Prelude.{nat_lt, nat_eq, codes, slice_index_or, ℤ, Ok, Err}
use Rattle.std.proofs.lemmas.Bool.Decides.{nat_tests}
use Rattle.std.specs.List.{list_all, list_any, starts_with}
use Rattle.std.specs.Str.{bytes_eq}
use Rattle.std.proofs.lemmas.List.Folds.{list_all-append, list_any-append}
use Rattle.emtp_card.specs.Field.{columns, field_of, without_leading, without_trailing, trimmed}
use Rattle.emtp_card.specs.Lines.{fault_of_byte, fault_of_line, first_fault, first_of, is_blank, is_comment, is_section_end}
use Rattle.emtp_card.specs.Name.{is_comma, name_field, named}
use Rattle.emtp_card.specs.Number.{held_field, held_in, in_range, number_field, number_in, unless_blank}
use Rattle.emtp_card.specs.Whole.{whole_field, whole_in}
use Rattle.emtp_card.specs.declared.reason.Why.TheVariants.{BadName, PastColumn80}
use Rattle.emtp_card.proofs.Blanks.{BlanksBehind, blanks-first, blanks-rest, drop-blanks, is_blank_means, list_any-columns, none_blank, take-blanks, trimmed-held, without_trailing-append}

-- a text is what it is without its blanks at the end, with blanks after it
pub trailing-behind : (bytes : List ℕ) → BlanksBehind bytes (without_trailing bytes)
trailing-behind [] = record { blanks = []; blank = refl; whole_is = refl }
trailing-behind (byte ∷ bytes) = by_test byte bytes (list_all is_blank (byte ∷ bytes)) refl (trailing-behind bytes)
  where
    by_test : (byte : ℕ) (bytes : List ℕ) (t : Bool) → list_all is_blank (byte ∷ bytes) ≡ t → BlanksBehind bytes (without_trailing bytes) → BlanksBehind (byte ∷ bytes) (cond t [] (byte ∷ without_trailing bytes))
    by_test byte bytes true h rest = record { blanks = byte ∷ bytes; blank = h; whole_is = refl }
    by_test byte bytes false h rest = record { blanks = rest.blanks; blank = rest.blank; whole_is = ap (λ t. byte ∷ t) rest.whole_is }

-- ---- words in front

-- a word that doesn't end with a blank
abbrev pub is_word : List ℕ → Bool
is_word [] = true
is_word (byte ∷ []) = not (is_blank byte)
is_word (byte ∷ next ∷ bytes) = is_word (next ∷ bytes)

and_false : (t : Bool) → (t && false) ≡ false
and_false true = refl
and_false false = refl

and_true : (t : Bool) → (t && true) ≡ t
and_true true = refl
and_true false = refl

-- blanks begin with no such word
no_word : (first : ℕ) (word blanks : List ℕ) → is_word (first ∷ word) ≡ true → list_all is_blank blanks ≡ true → starts_with nat_eq blanks (first ∷ word) ≡ false
no_word first word [] h blank = refl
no_word first [] (byte ∷ blanks) h blank =
    let same : byte ≡ 32 = is_blank_means byte (blanks-first byte blanks blank) in
    ap (λ t. t && true) (other first byte same h)
  where
    other : (first byte : ℕ) → byte ≡ 32 → not (is_blank first) ≡ true → nat_eq first byte ≡ false
    other first byte e h = grind (arith, nat_tests)
no_word first (next ∷ word) (byte ∷ blanks) h blank = ap (λ t. nat_eq first byte && t) (no_word next word blanks h (blanks-rest byte blanks blank)) ∙ and_false (nat_eq first byte)

rest_is_word : (first : ℕ) (word : List ℕ) → is_word (first ∷ word) ≡ true → is_word word ≡ true
rest_is_word first [] h = refl
rest_is_word first (next ∷ word) h = h

pub begins-alike : (word bytes blanks : List ℕ) → is_word word ≡ true → list_all is_blank blanks ≡ true → starts_with nat_eq (bytes ++ blanks) word ≡ starts_with nat_eq bytes word
begins-alike [] bytes blanks h blank = refl
begins-alike (first ∷ word) [] blanks h blank = no_word first word blanks h blank
begins-alike (first ∷ word) (byte ∷ bytes) blanks h blank = ap (λ t. nat_eq first byte && t) (begins-alike word bytes blanks (rest_is_word first word h) blank)

-- ---- what a line is

-- `C` and blanks
comment_alike : (bytes blanks : List ℕ) → list_all is_blank blanks ≡ true → is_comment (bytes ++ blanks) ≡ is_comment bytes
unfolding is_comment
comment_alike [] [] h = refl
comment_alike [] (byte ∷ blanks) h = ap (λ b. bytes_eq (b ∷ blanks) (codes "C") || starts_with nat_eq (b ∷ blanks) (codes "C ")) (is_blank_means byte (blanks-first byte blanks h))
comment_alike (first ∷ []) [] h = refl
comment_alike (first ∷ []) (byte ∷ blanks) h =
    ap (λ b. bytes_eq (first ∷ b ∷ blanks) (codes "C") || starts_with nat_eq (first ∷ b ∷ blanks) (codes "C ")) (is_blank_means byte (blanks-first byte blanks h)) ∙ mark first
  where
    mark : (first : ℕ) → ((nat_eq first 67 && false) || (nat_eq 67 first && true)) ≡ ((nat_eq first 67 && true) || (nat_eq 67 first && false))
    mark first = grind (arith, nat_tests)
comment_alike (first ∷ second ∷ bytes) blanks h = refl

section_end_alike : (bytes blanks : List ℕ) → list_all is_blank blanks ≡ true → is_section_end (bytes ++ blanks) ≡ is_section_end bytes
unfolding is_section_end
section_end_alike bytes blanks h =
    let all : list_all is_blank (bytes ++ blanks) ≡ list_all is_blank bytes = list_all-append is_blank bytes blanks ∙ ap (λ t. list_all is_blank bytes && t) h ∙ and_true (list_all is_blank bytes) in
    ap (λ t. t || starts_with nat_eq (bytes ++ blanks) (codes "BLANK")) all
    ∙ ap (λ t. list_all is_blank bytes || t) (begins-alike (codes "BLANK") bytes blanks refl h)

-- a blank may stand in every column
blank_stands : (column byte : ℕ) → byte ≡ 32 → fault_of_byte column byte ≡ None
blank_stands column byte e = ap (fault_of_byte column) e ∙ by_test (nat_lt 80 column)
  where
    by_test : (t : Bool) → cond (t && false) (Some PastColumn80) None ≡ None
    by_test true = refl
    by_test false = refl

no_fault : (column : ℕ) (blanks : List ℕ) → list_all is_blank blanks ≡ true → first_fault column blanks ≡ None
no_fault column [] h = refl
no_fault column (byte ∷ blanks) h =
    ap (λ f. first_of f column (first_fault (column + 1) blanks)) (blank_stands column byte (is_blank_means byte (blanks-first byte blanks h)))
    ∙ no_fault (column + 1) blanks (blanks-rest byte blanks h)

first_fault-alike : (column : ℕ) (bytes blanks : List ℕ) → list_all is_blank blanks ≡ true → first_fault column (bytes ++ blanks) ≡ first_fault column bytes
first_fault-alike column [] blanks h = no_fault column blanks h
first_fault-alike column (byte ∷ bytes) blanks h = ap (first_of (fault_of_byte column byte) column) (first_fault-alike (column + 1) bytes blanks h)

fault_alike : (bytes blanks : List ℕ) → list_all is_blank blanks ≡ true → fault_of_line (bytes ++ blanks) ≡ fault_of_line bytes
unfolding fault_of_line
fault_alike bytes blanks h = first_fault-alike 1 bytes blanks h

-- ---- columns

no_byte : (blanks : List ℕ) (place : ℕ) → list_all is_blank blanks ≡ true → slice_index_or blanks place 32 ≡ 32
no_byte [] place h = refl
no_byte (byte ∷ blanks) zero h = is_blank_means byte (blanks-first byte blanks h)
no_byte (byte ∷ blanks) (suc place) h = no_byte blanks place (blanks-rest byte blanks h)

byte_alike : (bytes blanks : List ℕ) (place : ℕ) → list_all is_blank blanks ≡ true → slice_index_or (bytes ++ blanks) place 32 ≡ slice_index_or bytes place 32
byte_alike [] blanks place h = no_byte blanks place h
byte_alike (byte ∷ bytes) blanks zero h = refl
byte_alike (byte ∷ bytes) blanks (suc place) h = byte_alike bytes blanks place h

-- a part of the text, with blanks after it
pub part_behind : (count before : ℕ) (bytes blanks : List ℕ) → list_all is_blank blanks ≡ true → BlanksBehind (take count (drop before (bytes ++ blanks))) (take count (drop before bytes))
part_behind count before bytes blanks h =
    let dropped = drop-blanks before bytes blanks h in
    let taken = take-blanks count (drop before bytes) dropped.blanks dropped.blank in
    record { blanks = taken.blanks; blank = taken.blank; whole_is = ap (take count) dropped.whole_is ∙ taken.whole_is }

part_alike : (count before : ℕ) (bytes blanks : List ℕ) → list_all is_blank blanks ≡ true → without_trailing (take count (drop before (bytes ++ blanks))) ≡ without_trailing (take count (drop before bytes))
part_alike count before bytes blanks h =
    let behind = part_behind count before bytes blanks h in
    ap without_trailing behind.whole_is ∙ without_trailing-append (take count (drop before bytes)) behind.blanks behind.blank

text_alike : (bytes blanks : List ℕ) (first last : ℕ) → list_all is_blank blanks ≡ true → field_of (bytes ++ blanks) first last ≡ field_of bytes first last
unfolding trimmed
text_alike bytes blanks first last h =
    sym (trimmed-held (bytes ++ blanks) first last)
    ∙ ap without_leading (part_alike (last + 1 - first) (first - 1) bytes blanks h)
    ∙ trimmed-held bytes first last

comma_alike : (bytes blanks : List ℕ) (first last : ℕ) → list_all is_blank blanks ≡ true → list_any is_comma (columns (bytes ++ blanks) first last) ≡ list_any is_comma (columns bytes first last)
comma_alike bytes blanks first last h =
    let behind = part_behind (last + 1 - first) (first - 1) bytes blanks h in
    let held = take (last + 1 - first) (drop (first - 1) bytes) in
    list_any-columns is_comma refl (bytes ++ blanks) first last
    ∙ ap (list_any is_comma) behind.whole_is
    ∙ list_any-append is_comma held behind.blanks
    ∙ ap (λ t. list_any is_comma held || t) (none_blank is_comma refl behind.blanks behind.blank)
    ∙ or_false (list_any is_comma held)
    ∙ sym (list_any-columns is_comma refl bytes first last)
  where
    or_false : (t : Bool) → (t || false) ≡ t
    or_false true = refl
    or_false false = refl

name_alike : (bytes blanks : List ℕ) (first : ℕ) → list_all is_blank blanks ≡ true → name_field (bytes ++ blanks) first ≡ name_field bytes first
unfolding name_field
name_alike bytes blanks first h =
    ap (λ t. cond t (Err BadName) (Ok (named (field_of (bytes ++ blanks) first (first + 5))))) (comma_alike bytes blanks first (first + 5) h)
    ∙ ap (λ t. cond (list_any is_comma (columns bytes first (first + 5))) (Err BadName) (Ok (named t))) (text_alike bytes blanks first (first + 5) h)

-- ---- all that a reader sees of a line

-- two lines that no reader tells apart
pub record AreReadAlike (x y : List ℕ) : Type 0 where
  pub comment : is_comment x ≡ is_comment y
  pub section_end : is_section_end x ≡ is_section_end y
  pub fault : fault_of_line x ≡ fault_of_line y
  pub begins : (word : List ℕ) → is_word word ≡ true → starts_with nat_eq x word ≡ starts_with nat_eq y word
  pub byte : (place : ℕ) → slice_index_or x place 32 ≡ slice_index_or y place 32
  pub part : (count before : ℕ) → without_trailing (take count (drop before x)) ≡ without_trailing (take count (drop before y))
  pub text : (first last : ℕ) → field_of x first last ≡ field_of y first last
  pub number : (first last : ℕ) (scale low high : ℤ) → number_field x first last scale low high ≡ number_field y first last scale low high
  pub held : (first last : ℕ) (scale low high : ℤ) → held_field x first last scale low high ≡ held_field y first last scale low high
  pub whole : (first last : ℕ) → whole_field x first last ≡ whole_field y first last
  pub name : (first : ℕ) → name_field x first ≡ name_field y first

blanks_alike : (bytes blanks : List ℕ) → list_all is_blank blanks ≡ true → AreReadAlike (bytes ++ blanks) bytes
unfolding number_field held_field whole_field
blanks_alike bytes blanks h = record {
  comment = comment_alike bytes blanks h;
  section_end = section_end_alike bytes blanks h;
  fault = fault_alike bytes blanks h;
  begins = λ word is. begins-alike word bytes blanks is h;
  byte = λ place. byte_alike bytes blanks place h;
  part = λ count before. part_alike count before bytes blanks h;
  text = λ first last. text_alike bytes blanks first last h;
  number = λ first last scale low high. ap (λ t. unless_blank t (in_range low high (number_in scale t))) (text_alike bytes blanks first last h);
  held = λ first last scale low high. ap (λ t. unless_blank t (held_in low high (number_in scale t))) (text_alike bytes blanks first last h);
  whole = λ first last. ap (λ t. unless_blank t (whole_in t)) (text_alike bytes blanks first last h);
  name = λ first. name_alike bytes blanks first h;
}

-- a line and what it is without the blanks at its end
pub trailing-alike : (line : List ℕ) → AreReadAlike line (without_trailing line)
trailing-alike line =
    let behind = trailing-behind line in
    subst (λ t. AreReadAlike t (without_trailing line)) (sym behind.whole_is) (blanks_alike (without_trailing line) behind.blanks behind.blank)
