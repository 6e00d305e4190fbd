-- Lines that agree under a ruler have the same fields, where the ruler marks all their columns.
use Rattle.std.proofs.Common.{◌≡◌, ◌∙◌, sym, ap, refl, ℕ, zero, suc, ◌+◌, ◌-◌, ◌<◌, ◌≤◌, Bool, true, false, List, [], ◌∷◌, take, drop, replicate, length, get_or, arith}
use Rattle.std.specs.Prelude.{nat_le, nat_lt, not, ◌&&◌, ℤ, Ok, Err, cond}
use Rattle.std.specs.List.{list_all, list_any}
use Rattle.std.proofs.lemmas.Bool.Decides.{nat_tests}
use Rattle.std.proofs.lemmas.List.{ext_get_or, get_or-take, get_or-drop, length-append, length-take, length-drop}
use Rattle.emtp_card.specs.Field.{byte_in, columns, field_of, filled, trimmed}
use Rattle.emtp_card.specs.Lines.{is_blank}
use Rattle.emtp_card.specs.Name.{is_comma, name_field, named}
use Rattle.emtp_card.specs.Number.{held_field, held_in, in_range, number_field, number_in, unless_blank}
use Rattle.emtp_card.specs.Whole.{whole_field, whole_in}
use Rattle.emtp_card.specs.declared.reason.Why.TheVariants.{BadName}
use Rattle.emtp_warnings.specs.Law.{AgreeUnder}

-- ---- one field

all_alike : (n place blank : ℕ) → get_or (replicate n blank) place blank ≡ blank
all_alike zero place blank = refl
all_alike (suc n) zero blank = refl
all_alike (suc n) (suc place) blank = all_alike n place blank

filled_byte : (line : List ℕ) (place : ℕ) → get_or (filled line) place 32 ≡ get_or line place 32
filled_byte [] place = all_alike 80 place 32
filled_byte (byte ∷ bytes) zero = refl
filled_byte (byte ∷ bytes) (suc place) = filled_byte bytes place

column_byte : (line : List ℕ) (first last k : ℕ) → 1 ≤ first → k < last + 1 - first → get_or (columns line first last) k 32 ≡ byte_in line (first + k)
unfolding columns
column_byte line first last k some within =
    let same : first - 1 + k ≡ first + k - 1 = omega arith in
    get_or-take (last + 1 - first) (drop (first - 1) (filled line)) k 32 within
    ∙ get_or-drop (first - 1) (filled line) k 32
    ∙ filled_byte line (first - 1 + k)
    ∙ ap (λ (place : ℕ). get_or line place 32) same

column_count : (line : List ℕ) (first last : ℕ) → 1 ≤ first → last ≤ 80 → length (columns line first last) ≡ last + 1 - first
unfolding columns
column_count line first last some few =
    let whole : length (filled line) ≡ length line + 80 = length-append line (replicate 80 32) in
    omega (arith, length-take (last + 1 - first) (drop (first - 1) (filled line)), length-drop (first - 1) (filled line), whole)

abbrev pub is_mark : ℕ → Bool
is_mark byte = not (is_blank byte)

-- a ruler marks all columns of a field
abbrev pub has_field : List ℕ → ℕ → ℕ → Bool
has_field ruler first last =
    nat_lt 0 first && (nat_le last 80 && (nat_le last (length ruler) && list_all is_mark (take (last + 1 - first) (drop (first - 1) ruler))))

left : (a b : Bool) → (a && b) ≡ true → a ≡ true
left true b e = refl
left false b e = e

right : (a b : Bool) → (a && b) ≡ true → b ≡ true
right true b e = e
right false b e = absurd (cc)

all_get : (p : ℕ → Bool) (bytes : List ℕ) (k : ℕ) → list_all p bytes ≡ true → k < length bytes → p (get_or bytes k 32) ≡ true
all_get p [] k all within = absurd (omega arith)
all_get p (byte ∷ bytes) zero all within = left (p byte) (list_all p bytes) all
all_get p (byte ∷ bytes) (suc k) all within = all_get p bytes k (right (p byte) (list_all p bytes) all) (omega arith)

no_blank : (b : Bool) → not b ≡ true → b ≡ false
no_blank true e = absurd (cc)
no_blank false e = refl

some_first : (first : ℕ) → nat_lt 0 first ≡ true → 1 ≤ first
some_first first e = grind (arith, nat_tests)

le_by : (a b : ℕ) → nat_le a b ≡ true → a ≤ b
le_by a b e = grind (arith, nat_tests)

pub marked_byte : (ruler : List ℕ) (first last k : ℕ) → 1 ≤ first → last ≤ length ruler → list_all is_mark (take (last + 1 - first) (drop (first - 1) ruler)) ≡ true → k < last + 1 - first
    → is_blank (byte_in ruler (first + k)) ≡ false
marked_byte ruler first last k some long all within =
    let count : length (take (last + 1 - first) (drop (first - 1) ruler)) ≡ last + 1 - first =
    omega (arith, length-take (last + 1 - first) (drop (first - 1) ruler), length-drop (first - 1) ruler) in
    let same : first - 1 + k ≡ first + k - 1 = omega arith in
    let here : get_or (take (last + 1 - first) (drop (first - 1) ruler)) k 32 ≡ byte_in ruler (first + k) =
    get_or-take (last + 1 - first) (drop (first - 1) ruler) k 32 within ∙ get_or-drop (first - 1) ruler k 32 ∙ ap (λ (place : ℕ). get_or ruler place 32) same in
    ap is_blank (sym here) ∙ no_blank (is_blank (get_or (take (last + 1 - first) (drop (first - 1) ruler)) k 32))
    (all_get is_mark (take (last + 1 - first) (drop (first - 1) ruler)) k all (omega arith))

module _ (ruler x y : List ℕ) (h : AgreeUnder ruler x y) where
  columns_between : (first last : ℕ) → 1 ≤ first → last ≤ 80 → last ≤ length ruler → list_all is_mark (take (last + 1 - first) (drop (first - 1) ruler)) ≡ true
      → columns x first last ≡ columns y first last
  columns_between first last some few long all =
      ext_get_or 32 (columns x first last) (columns y first last) (column_count x first last some few ∙ sym (column_count y first last some few))
      (λ k within.
      let inside : k < last + 1 - first = omega (arith, within, column_count x first last some few) in
      column_byte x first last k some inside
      ∙ h.marked (first + k) (omega arith) (marked_byte ruler first last k some long all inside)
      ∙ sym (column_byte y first last k some inside))

  pub columns_under : (first last : ℕ) → has_field ruler first last ≡ true → columns x first last ≡ columns y first last
  columns_under first last marks =
      let after_first = right (nat_lt 0 first) (nat_le last 80 && (nat_le last (length ruler) && list_all is_mark (take (last + 1 - first) (drop (first - 1) ruler)))) marks in
      let after_few = right (nat_le last 80) (nat_le last (length ruler) && list_all is_mark (take (last + 1 - first) (drop (first - 1) ruler))) after_first in
      columns_between first last
      (some_first first (left (nat_lt 0 first) (nat_le last 80 && (nat_le last (length ruler) && list_all is_mark (take (last + 1 - first) (drop (first - 1) ruler)))) marks))
      (le_by last 80 (left (nat_le last 80) (nat_le last (length ruler) && list_all is_mark (take (last + 1 - first) (drop (first - 1) ruler))) after_first))
      (le_by last (length ruler) (left (nat_le last (length ruler)) (list_all is_mark (take (last + 1 - first) (drop (first - 1) ruler))) after_few))
      (right (nat_le last (length ruler)) (list_all is_mark (take (last + 1 - first) (drop (first - 1) ruler))) after_few)

  pub text_under : (first last : ℕ) → has_field ruler first last ≡ true → field_of x first last ≡ field_of y first last
  text_under first last marks = ap trimmed (columns_under first last marks)

  pub number_under : (first last : ℕ) → has_field ruler first last ≡ true → (scale low high : ℤ) → number_field x first last scale low high ≡ number_field y first last scale low high
  unfolding number_field
  number_under first last marks scale low high =
      ap (λ (text : List ℕ). unless_blank text (in_range low high (number_in scale text))) (text_under first last marks)

  pub held_under : (first last : ℕ) → has_field ruler first last ≡ true → (scale low high : ℤ) → held_field x first last scale low high ≡ held_field y first last scale low high
  unfolding held_field
  held_under first last marks scale low high =
      ap (λ (text : List ℕ). unless_blank text (held_in low high (number_in scale text))) (text_under first last marks)

  pub whole_under : (first last : ℕ) → has_field ruler first last ≡ true → whole_field x first last ≡ whole_field y first last
  unfolding whole_field
  whole_under first last marks = ap (λ (text : List ℕ). unless_blank text (whole_in text)) (text_under first last marks)

  pub name_under : (first : ℕ) → has_field ruler first (first + 5) ≡ true → name_field x first ≡ name_field y first
  unfolding name_field
  name_under first marks =
      ap (λ (bytes : List ℕ). cond (list_any is_comma bytes) (Err BadName) (Ok (named (trimmed bytes)))) (columns_under first (first + 5) marks)

  pub byte_under : (column : ℕ) → 1 ≤ column → is_blank (byte_in ruler column) ≡ false → byte_in x column ≡ byte_in y column
  byte_under column some mark = h.marked column some mark
