-- Blanks at the end of a text, and those that fill a line.
use Rattle.std.proofs.Common.{◌≡◌, ◌↔◌, ◌∙◌, sym, ap, ℕ, zero, suc, ◌+◌, ◌-◌, Bool, true, false, ◌&&◌, ◌||◌, cond, List, [], ◌∷◌, ◌++◌, take, drop, replicate, length, get_or, ◌<◌, ◌≤◌, ◌≢◌, refl, arith}
use Rattle.std.proofs.lemmas.Bool.Decides.{nat_tests}
use Rattle.std.proofs.lemmas.List.{take_more}
use Rattle.std.specs.List.{list_all, list_any}
use Rattle.std.proofs.lemmas.List.Folds.{list_all-append, list_any-append}
use Rattle.std.proofs.lemmas.List.Elements.{All-weaker}
use Rattle.std.proofs.lemmas.List.Sums.{AllPass-from_list_all, list_all-from_AllPass}
use Rattle.emtp_card.specs.Lines.{is_blank}
use Rattle.emtp_card.specs.Field.{without_leading, without_trailing, trimmed, columns, field_of}
use Rattle.emtp_card.specs.held.Field.{IsBlank}

-- what is all blank is cut off
pub without_trailing-blanks : (bytes : List ℕ) → list_all is_blank bytes ≡ true → without_trailing bytes ≡ []
without_trailing-blanks [] h = refl
without_trailing-blanks (byte ∷ bytes) h = ap (λ t. cond t [] (byte ∷ without_trailing bytes)) h

-- blanks after a text
pub without_trailing-append : (bytes blanks : List ℕ) → list_all is_blank blanks ≡ true → without_trailing (bytes ++ blanks) ≡ without_trailing bytes
without_trailing-append [] blanks h = without_trailing-blanks blanks h
without_trailing-append (byte ∷ bytes) blanks h =
    ap (λ t. cond (is_blank byte && t) [] (byte ∷ without_trailing (bytes ++ blanks))) (list_all-append is_blank bytes blanks ∙ ap (λ t. list_all is_blank bytes && t) h ∙ and_true (list_all is_blank bytes))
    ∙ ap (λ t. cond (list_all is_blank (byte ∷ bytes)) [] (byte ∷ t)) (without_trailing-append bytes blanks h)
  where
    and_true : (t : Bool) → (t && true) ≡ t
    and_true t = elim t as (λ t. (t && true) ≡ t) [ true ↦ refl | false ↦ refl ]

-- a last byte that is no blank
pub without_trailing-last : (bytes : List ℕ) (last : ℕ) → is_blank last ≡ false → without_trailing (bytes ++ last ∷ []) ≡ bytes ++ last ∷ []
without_trailing-last [] last h = ap (λ t. cond (t && true) [] (last ∷ [])) h
without_trailing-last (byte ∷ bytes) last h =
    ap (λ t. cond (is_blank byte && t) [] (byte ∷ without_trailing (bytes ++ last ∷ []))) (list_all-append is_blank bytes (last ∷ []) ∙ ap (λ t. list_all is_blank bytes && (t && true)) h ∙ and_false (list_all is_blank bytes))
    ∙ ap (λ t. cond t [] (byte ∷ without_trailing (bytes ++ last ∷ []))) (and_false (is_blank byte))
    ∙ ap (λ t. byte ∷ t) (without_trailing-last bytes last h)
  where
    and_false : (t : Bool) → (t && false) ≡ false
    and_false t = elim t as (λ t. (t && false) ≡ false) [ true ↦ refl | false ↦ refl ]

-- one byte more of a text
one_more : (bytes : List ℕ) (end : ℕ) → 0 < end → end ≤ length bytes → take end bytes ≡ take (end - 1) bytes ++ get_or bytes (end - 1) 0 ∷ []
one_more bytes end some within =
    let next : end ≡ (end - 1) + 1 = omega arith in
    ap (λ k. take k bytes) next ∙ take_more bytes (end - 1) 0 (omega arith)

-- a front that ends with a blank
pub cut_blank : (bytes : List ℕ) (end : ℕ) → 0 < end → end ≤ length bytes → get_or bytes (end - 1) 0 ≡ 32 → without_trailing (take (end - 1) bytes) ≡ without_trailing (take end bytes)
cut_blank bytes end some within blank =
    sym (ap without_trailing (one_more bytes end some within ∙ ap (λ b. take (end - 1) bytes ++ b ∷ []) blank) ∙ without_trailing-append (take (end - 1) bytes) (32 ∷ []) refl)

-- a front that doesn't
pub keep_last : (bytes : List ℕ) (end : ℕ) → 0 < end → end ≤ length bytes → get_or bytes (end - 1) 0 ≢ 32 → without_trailing (take end bytes) ≡ take end bytes
keep_last bytes end some within other =
    ap without_trailing (one_more bytes end some within)
    ∙ without_trailing-last (take (end - 1) bytes) (get_or bytes (end - 1) 0) (no_blank (get_or bytes (end - 1) 0) other)
    ∙ sym (one_more bytes end some within)
  where
    no_blank : (b : ℕ) → b ≢ 32 → is_blank b ≡ false
    no_blank b h = grind (arith, nat_tests)

-- a front without bytes
pub keep_none : (bytes : List ℕ) (end : ℕ) → end ≤ 0 → without_trailing (take end bytes) ≡ take end bytes
keep_none bytes end none =
    let here : end ≡ 0 = omega arith in
    ap (λ k. without_trailing (take k bytes)) here ∙ sym (ap (λ k. take k bytes) here)

-- the rest of a text with blanks after it is the rest with blanks after it
pub record BlanksBehind (whole bytes : List ℕ) : Type 0 where
  pub blanks : List ℕ
  pub blank : list_all is_blank blanks ≡ true
  pub whole_is : whole ≡ bytes ++ blanks

pub blanks-rest : (byte : ℕ) (bytes : List ℕ) → list_all is_blank (byte ∷ bytes) ≡ true → list_all is_blank bytes ≡ true
blanks-rest byte bytes h = elim (is_blank byte) as (λ t. (t && list_all is_blank bytes) ≡ true → list_all is_blank bytes ≡ true) [ true ↦ λ e. e | false ↦ λ e. absurd (cc) ] h

pub blanks-first : (byte : ℕ) (bytes : List ℕ) → list_all is_blank (byte ∷ bytes) ≡ true → is_blank byte ≡ true
blanks-first byte bytes h = elim (is_blank byte) as (λ t. (t && list_all is_blank bytes) ≡ true → t ≡ true) [ true ↦ λ _. refl | false ↦ λ e. e ] h

blanks-drop : (n : ℕ) (bytes : List ℕ) → list_all is_blank bytes ≡ true → list_all is_blank (drop n bytes) ≡ true
blanks-drop zero bytes h = h
blanks-drop (suc n) [] h = refl
blanks-drop (suc n) (byte ∷ bytes) h = blanks-drop n bytes (blanks-rest byte bytes h)

blanks-take : (n : ℕ) (bytes : List ℕ) → list_all is_blank bytes ≡ true → list_all is_blank (take n bytes) ≡ true
blanks-take zero bytes h = refl
blanks-take (suc n) [] h = refl
blanks-take (suc n) (byte ∷ bytes) h = ap (λ t. t && list_all is_blank (take n bytes)) (blanks-first byte bytes h) ∙ blanks-take n bytes (blanks-rest byte bytes h)

pub is_blank_means : (byte : ℕ) → is_blank byte ≡ true → byte ≡ 32
is_blank_means byte h = grind (arith, nat_tests)

pub none_blank : (p : ℕ → Bool) → p 32 ≡ false → (blanks : List ℕ) → list_all is_blank blanks ≡ true → list_any p blanks ≡ false
none_blank p passed [] h = refl
none_blank p passed (byte ∷ blanks) h =
    ap (λ b. p b || list_any p blanks) (is_blank_means byte (blanks-first byte blanks h))
    ∙ ap (λ t. t || list_any p blanks) passed
    ∙ none_blank p passed blanks (blanks-rest byte blanks h)

pub drop-blanks : (n : ℕ) (bytes blanks : List ℕ) → list_all is_blank blanks ≡ true → BlanksBehind (drop n (bytes ++ blanks)) (drop n bytes)
drop-blanks zero bytes blanks h = record { blanks = blanks; blank = h; whole_is = refl }
drop-blanks (suc n) [] blanks h = record { blanks = drop (suc n) blanks; blank = blanks-drop (suc n) blanks h; whole_is = refl }
drop-blanks (suc n) (byte ∷ bytes) blanks h = drop-blanks n bytes blanks h

pub take-blanks : (n : ℕ) (bytes blanks : List ℕ) → list_all is_blank blanks ≡ true → BlanksBehind (take n (bytes ++ blanks)) (take n bytes)
take-blanks zero bytes blanks h = record { blanks = []; blank = refl; whole_is = refl }
take-blanks (suc n) [] blanks h = record { blanks = take (suc n) blanks; blank = blanks-take (suc n) blanks h; whole_is = refl }
take-blanks (suc n) (byte ∷ bytes) blanks h =
    let after = take-blanks n bytes blanks h in
    record { blanks = after.blanks; blank = after.blank; whole_is = ap (λ t. byte ∷ t) after.whole_is }

-- the columns are what the line has of them, with blanks after
pub columns-held : (line : List ℕ) (first last : ℕ) → BlanksBehind (columns line first last) (take (last + 1 - first) (drop (first - 1) line))
unfolding columns
columns-held line first last =
    let dropped = drop-blanks (first - 1) line (replicate 80 32) refl in
    let taken = take-blanks (last + 1 - first) (drop (first - 1) line) dropped.blanks dropped.blank in
    record { blanks = taken.blanks; blank = taken.blank; whole_is = ap (take (last + 1 - first)) dropped.whole_is ∙ taken.whole_is }

-- so a test that no blank passes finds among them what it finds in the line
pub list_any-columns : (p : ℕ → Bool) → p 32 ≡ false → (line : List ℕ) (first last : ℕ) → list_any p (columns line first last) ≡ list_any p (take (last + 1 - first) (drop (first - 1) line))
list_any-columns p passed line first last =
    let after = columns-held line first last in
    let held = take (last + 1 - first) (drop (first - 1) line) in
    ap (list_any p) after.whole_is
    ∙ list_any-append p held after.blanks
    ∙ ap (λ t. list_any p held || t) (none_blank p passed after.blanks after.blank)
    ∙ or_false (list_any p held)
  where
    or_false : (t : Bool) → (t || false) ≡ t
    or_false t = elim t as (λ t. (t || false) ≡ t) [ true ↦ refl | false ↦ refl ]

-- so the field is what the line has of it, trimmed
pub trimmed-held : (line : List ℕ) (first last : ℕ) → trimmed (take (last + 1 - first) (drop (first - 1) line)) ≡ field_of line first last
unfolding trimmed
trimmed-held line first last =
    let after = columns-held line first last in
    sym (ap trimmed after.whole_is ∙ ap without_leading (without_trailing-append (take (last + 1 - first) (drop (first - 1) line)) after.blanks after.blank))

-- a trimmed text is empty exactly where the text is blank
and_both : (a b : Bool) → a ≡ true → b ≡ true → (a && b) ≡ true
and_both a b h k = ap (λ t. t && b) h ∙ k

blank_after : (bytes : List ℕ) → list_all is_blank (without_trailing bytes) ≡ true → list_all is_blank bytes ≡ true
blank_after [] h = refl
blank_after (byte ∷ bytes) h = by_test byte bytes (list_all is_blank (byte ∷ bytes)) refl h (blank_after bytes)
  where
    by_test : (byte : ℕ) (bytes : List ℕ) (t : Bool) → list_all is_blank (byte ∷ bytes) ≡ t → list_all is_blank (cond t [] (byte ∷ without_trailing bytes)) ≡ true → (list_all is_blank (without_trailing bytes) ≡ true → list_all is_blank bytes ≡ true) → list_all is_blank (byte ∷ bytes) ≡ true
    by_test byte bytes true all h rest = all
    by_test byte bytes false all h rest = and_both (is_blank byte) (list_all is_blank bytes) (blanks-first byte (without_trailing bytes) h) (rest (blanks-rest byte (without_trailing bytes) h))

blank_before : (bytes : List ℕ) → without_leading bytes ≡ [] → list_all is_blank bytes ≡ true
blank_before [] h = refl
blank_before (byte ∷ bytes) h = by_test byte bytes (is_blank byte) h (blank_before bytes)
  where
    by_test : (byte : ℕ) (bytes : List ℕ) (t : Bool) → cond t (without_leading bytes) (byte ∷ bytes) ≡ [] → (without_leading bytes ≡ [] → list_all is_blank bytes ≡ true) → (t && list_all is_blank bytes) ≡ true
    by_test byte bytes true h rest = rest h
    by_test byte bytes false h rest = absurd (cc)

pub trimmed-blank : (bytes : List ℕ) → (trimmed bytes ≡ []) ↔ IsBlank bytes
unfolding trimmed
trimmed-blank bytes = (
  λ h. All-weaker (λ b. is_blank b ≡ true) (λ b. b ≡ 32) is_blank_means bytes (AllPass-from_list_all is_blank bytes (blank_after bytes (blank_before (without_trailing bytes) h))),
  λ h. ap without_leading (without_trailing-blanks bytes (list_all-from_AllPass is_blank bytes (All-weaker (λ b. b ≡ 32) (λ b. is_blank b ≡ true) (λ b e. ap is_blank e) bytes h))),
)

-- a test that no blank passes finds nothing in a blank text
pub list_any-blank : (p : ℕ → Bool) → p 32 ≡ false → (bytes : List ℕ) → IsBlank bytes → list_any p bytes ≡ false
list_any-blank p passed bytes blank = none_blank p passed bytes (list_all-from_AllPass is_blank bytes (All-weaker (λ b. b ≡ 32) (λ b. is_blank b ≡ true) (λ b e. ap is_blank e) bytes blank))
