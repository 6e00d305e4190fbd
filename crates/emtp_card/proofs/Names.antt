-- A field that holds a name on a card without fault is a name of a case.
use Rattle.std.proofs.Common.{◌≡◌, ◌≢◌, ◌∙◌, sym, subst, ap, ℕ, suc, ◌+◌, ◌-◌, ◌≤◌, Bool, true, false, ◌&&◌, ◌||◌, not, cond, List, [], ◌∷◌, length, drop, replicate, All, Option, Some, None, refl, arith}
use Rattle.std.specs.Prelude.{slice_index_or, nat_lt, if◌then◌else◌}
use Rattle.std.proofs.lemmas.Bool.Decides.{nat_tests}
use Rattle.std.proofs.lemmas.List.Elements.{All-append, All-cons, All-drop, All-nil, All-replicate, All-take}
use Rattle.std.specs.List.{list_all, list_any}
use Rattle.emtp_case.specs.held.Name.{IsName, IsNameByte}
use Rattle.emtp_card.specs.Field.{columns, filled, trimmed, without_leading, without_trailing}
use Rattle.emtp_card.specs.Lines.{fault_of_byte, fault_of_line, first_fault, first_of, is_blank}
use Rattle.emtp_card.specs.Name.{is_comma}
use Rattle.emtp_card.specs.declared.reason.Why.{Why}
use Rattle.emtp_card.specs.declared.reason.Why.TheVariants.{ByteOutside, PastColumn80}

abbrev last_of : List ℕ → ℕ
last_of xs = slice_index_or xs (length xs - 1) 32

abbrev IsPrintable : ℕ → Type 0
IsPrintable b = (32 ≤ b) × (b ≤ 126)

-- ---- what all bytes are, those of the trimmed text are

first_has : (P : ℕ → Type 0) (byte : ℕ) (bytes : List ℕ) → All P (byte ∷ bytes) → P byte
first_has P byte bytes h = h 0 byte (omega arith)

rest_have : (P : ℕ → Type 0) (byte : ℕ) (bytes : List ℕ) → All P (byte ∷ bytes) → All P bytes
rest_have P byte bytes h = All-drop P 1 (byte ∷ bytes) h

leading-all : (P : ℕ → Type 0) (bytes : List ℕ) → All P bytes → All P (without_leading bytes)
leading-all P [] h = h
leading-all P (byte ∷ bytes) h = by_test (is_blank byte) (leading-all P bytes (rest_have P byte bytes h))
  where
    by_test : (t : Bool) → All P (without_leading bytes) → All P (cond t (without_leading bytes) (byte ∷ bytes))
    by_test true rest = rest
    by_test false rest = h

trailing-all : (P : ℕ → Type 0) (bytes : List ℕ) → All P bytes → All P (without_trailing bytes)
trailing-all P [] h = h
trailing-all P (byte ∷ bytes) h = by_test (list_all is_blank (byte ∷ bytes)) (trailing-all P bytes (rest_have P byte bytes h))
  where
    by_test : (t : Bool) → All P (without_trailing bytes) → All P (cond t [] (byte ∷ without_trailing bytes))
    by_test true rest = All-nil P
    by_test false rest = All-cons P byte (without_trailing bytes) (first_has P byte bytes h) rest

-- ---- its ends aren't blank

no_blank : (b : ℕ) → is_blank b ≡ false → b ≢ 32
no_blank b h = grind (arith, nat_tests)

leading-first : (bytes : List ℕ) → without_leading bytes ≢ [] → slice_index_or (without_leading bytes) 0 32 ≢ 32
leading-first [] some = absurd (some refl)
leading-first (byte ∷ bytes) some = by_test (is_blank byte) refl (leading-first bytes) some
  where
    by_test : (t : Bool) → is_blank byte ≡ t → (without_leading bytes ≢ [] → slice_index_or (without_leading bytes) 0 32 ≢ 32) → cond t (without_leading bytes) (byte ∷ bytes) ≢ [] → slice_index_or (cond t (without_leading bytes) (byte ∷ bytes)) 0 32 ≢ 32
    by_test true h rest s = rest s
    by_test false h rest s = no_blank byte h

some_more : (byte : ℕ) (bytes : List ℕ) → bytes ≢ [] → last_of (byte ∷ bytes) ≡ last_of bytes
some_more byte [] some = absurd (some refl)
some_more byte (b ∷ bs) some = let e : length (byte ∷ b ∷ bs) - 1 ≡ suc (length (b ∷ bs) - 1) = omega arith in ap (λ k. slice_index_or (byte ∷ b ∷ bs) k 32) e

leading-some : (bytes : List ℕ) → without_leading bytes ≢ [] → bytes ≢ []
leading-some [] some e = some refl
leading-some (byte ∷ bytes) some e = cc

leading-last : (bytes : List ℕ) → without_leading bytes ≢ [] → last_of (without_leading bytes) ≡ last_of bytes
leading-last [] some = refl
leading-last (byte ∷ bytes) some = by_test (is_blank byte) (leading-last bytes) some
  where
    by_test : (t : Bool) → (without_leading bytes ≢ [] → last_of (without_leading bytes) ≡ last_of bytes) → cond t (without_leading bytes) (byte ∷ bytes) ≢ [] → last_of (cond t (without_leading bytes) (byte ∷ bytes)) ≡ last_of (byte ∷ bytes)
    by_test true rest s = rest s ∙ sym (some_more byte bytes (leading-some bytes s))
    by_test false rest s = refl

trailing-blank : (bytes : List ℕ) → without_trailing bytes ≡ [] → list_all is_blank bytes ≡ true
trailing-blank [] h = refl
trailing-blank (byte ∷ bytes) h = by_test (list_all is_blank (byte ∷ bytes)) refl h
  where
    by_test : (t : Bool) → list_all is_blank (byte ∷ bytes) ≡ t → cond t [] (byte ∷ without_trailing bytes) ≡ [] → list_all is_blank (byte ∷ bytes) ≡ true
    by_test true e none = e
    by_test false e none = absurd (cc)

first_other : (byte : ℕ) (rest : Bool) → (is_blank byte && rest) ≡ false → rest ≡ true → byte ≢ 32
first_other byte rest h e = grind (arith, nat_tests)

trailing-last : (bytes : List ℕ) → without_trailing bytes ≢ [] → last_of (without_trailing bytes) ≢ 32
trailing-last [] some = absurd (some refl)
trailing-last (byte ∷ bytes) some = by_test (list_all is_blank (byte ∷ bytes)) refl (trailing-last bytes) some
  where
    by_rest : (rest : List ℕ) → without_trailing bytes ≡ rest → list_all is_blank (byte ∷ bytes) ≡ false → (without_trailing bytes ≢ [] → last_of (without_trailing bytes) ≢ 32) → last_of (byte ∷ rest) ≢ 32
    by_rest [] e h more = first_other byte (list_all is_blank bytes) h (trailing-blank bytes e)
    by_rest (b ∷ bs) e h more = subst (λ x. x ≢ 32) (sym (some_more byte (b ∷ bs) (λ no. cc))) (subst (λ xs. last_of xs ≢ 32) e (more (λ no. let same : b ∷ bs ≡ [] = sym e ∙ no in cc)))

    by_test : (t : Bool) → list_all is_blank (byte ∷ bytes) ≡ t → (without_trailing bytes ≢ [] → last_of (without_trailing bytes) ≢ 32) → cond t [] (byte ∷ without_trailing bytes) ≢ [] → last_of (cond t [] (byte ∷ without_trailing bytes)) ≢ 32
    by_test true e more s = absurd (s refl)
    by_test false e more s = by_rest (without_trailing bytes) refl e more

-- ---- the bytes of a line without fault

printable : (column byte : ℕ) → fault_of_byte column byte ≡ None → IsPrintable byte
printable column byte h = by_tests (nat_lt byte 32) (nat_lt 126 byte) refl refl h
  where
    by_tests : (low high : Bool) → nat_lt byte 32 ≡ low → nat_lt 126 byte ≡ high → (if low || high then Some ByteOutside else if nat_lt 80 column && not (is_blank byte) then Some PastColumn80 else None) ≡ None → IsPrintable byte
    by_tests true high l g e = cc
    by_tests false true l g e = cc
    by_tests false false l g e = (grind (arith, nat_tests), grind (arith, nat_tests))

faultless : (column : ℕ) (bytes : List ℕ) → first_fault column bytes ≡ None → All IsPrintable bytes
faultless column [] h = All-nil IsPrintable
faultless column (byte ∷ bytes) h = by_fault (fault_of_byte column byte) refl (faultless (column + 1) bytes) h
  where
    by_fault : (found : Option Why) → fault_of_byte column byte ≡ found → (first_fault (column + 1) bytes ≡ None → All IsPrintable bytes) → first_of found column (first_fault (column + 1) bytes) ≡ None → All IsPrintable (byte ∷ bytes)
    by_fault (Some why) e rest found = cc
    by_fault None e rest found = All-cons IsPrintable byte bytes (printable column byte e) (rest found)

blank_printable : IsPrintable 32
blank_printable = (omega arith, omega arith)

columns-printable : (line : List ℕ) (first last : ℕ) → fault_of_line line ≡ None → All IsPrintable (columns line first last)
unfolding columns fault_of_line
columns-printable line first last h =
    All-take IsPrintable (last + 1 - first) (drop (first - 1) (filled line))
    (All-drop IsPrintable (first - 1) (filled line) (All-append IsPrintable line (replicate 80 32) (faultless 1 line h) (All-replicate IsPrintable 80 32 blank_printable)))

-- ---- together

no_comma : (b : ℕ) → is_comma b ≡ false → IsPrintable b → IsNameByte b
no_comma b h p = (p.0, p.1, grind (arith, nat_tests))

or_first : (a b : Bool) → (a || b) ≡ false → a ≡ false
or_first true b h = absurd (cc)
or_first false b h = refl

or_second : (a b : Bool) → (a || b) ≡ false → b ≡ false
or_second true b h = absurd (cc)
or_second false b h = h

name_bytes : (bytes : List ℕ) → list_any is_comma bytes ≡ false → All IsPrintable bytes → All IsNameByte bytes
name_bytes [] h p = All-nil IsNameByte
name_bytes (byte ∷ bytes) h p =
    All-cons IsNameByte byte bytes (no_comma byte (or_first (is_comma byte) (list_any is_comma bytes) h) (first_has IsPrintable byte bytes p))
    (name_bytes bytes (or_second (is_comma byte) (list_any is_comma bytes) h) (rest_have IsPrintable byte bytes p))

some_length : (xs : List ℕ) → xs ≢ [] → 1 ≤ length xs
some_length [] s = absurd (s refl)
some_length (x ∷ xs) s = omega arith

trimmed-name : (bytes : List ℕ) → trimmed bytes ≢ [] → length (trimmed bytes) ≤ 6 → list_any is_comma bytes ≡ false → All IsPrintable bytes → IsName (trimmed bytes)
unfolding trimmed
trimmed-name bytes some short commas h =
    let trailing = without_trailing bytes in
    record {
      some = some_length (without_leading trailing) some;
      short = short;
      bytes = leading-all IsNameByte trailing (trailing-all IsNameByte bytes (name_bytes bytes commas h));
      first = leading-first trailing some;
      last = subst (λ b. b ≢ 32) (sym (leading-last trailing some)) (trailing-last bytes (leading-some trailing some));
    }

pub field_is_name : (line : List ℕ) (first : ℕ) (text : List ℕ) → text ≡ trimmed (columns line first (first + 5)) → text ≢ [] → length text ≤ 6 → list_any is_comma (columns line first (first + 5)) ≡ false → fault_of_line line ≡ None → IsName text
field_is_name line first text is some short commas whole =
    subst IsName (sym is) (trimmed-name (columns line first (first + 5)) (λ e. some (is ∙ e)) (subst (λ t. length t ≤ 6) is short) commas (columns-printable line first (first + 5) whole))
