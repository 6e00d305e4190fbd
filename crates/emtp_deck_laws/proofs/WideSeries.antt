-- A wide card of a series branch is read as the narrow one of its texts.
use Rattle.std.proofs.Common.{◌≡◌, ◌∙◌, ap, sym, refl, ℕ, ◌+◌, ◌^◌, ℤ, pos, Bool, true, false, List, Option, Some, None, Result, Ok, Err, if◌then◌else◌}
use Rattle.std.specs.List.{list_any}
use Rattle.emtp_card.specs.Fault.{filled_with}
use Rattle.emtp_card.specs.Field.{columns, field_of, trimmed}
use Rattle.emtp_card.specs.Name.{is_comma, name_field, named}
use Rattle.emtp_card.specs.Number.{in_range, number_field, number_in, unless_blank}
use Rattle.emtp_card.specs.Whole.{whole_field, whole_in}
use Rattle.emtp_card.specs.declared.fault.Fault.{Fault}
use Rattle.emtp_card.specs.declared.reason.Why.{Why}
use Rattle.emtp_card.specs.declared.reason.Why.TheVariants.{BadName}
use Rattle.emtp_netcards.specs.BranchCard.{copies_of, fields_of, kind_by, kind_field, own_values, read_values, values_of}
use Rattle.emtp_netcards.specs.Fields.{asked_field, asked_in, ends_field}
use Rattle.emtp_netcards.specs.Reading.{both, in_column}
use Rattle.emtp_netcards.specs.held.Reading.{judged}
use Rattle.emtp_netcards.specs.SeriesValues.{c_field, l_field, r_field, series_values}
use Rattle.emtp_netcards.specs.declared.branch_card.BranchKind.{BranchKind}
use Rattle.emtp_netcards.specs.declared.branch_card.BranchKind.TheVariants.{Series as SeriesKind}
use Rattle.emtp_netcards.specs.declared.branch_card.BranchValues.{BranchValues}
use Rattle.emtp_deck_laws.specs.WideCards.{HaveSameTexts, IsReadAlike}

-- ---- fields

-- whatever is read of one card is read of the other
abbrev Goes : {X : Type 0} → Result X Fault → Result X Fault → Type 0
Goes {X} one other = (x : X) → one ≡ Ok x → other ≡ Ok x

same_goes : {X : Type 0} (one other : Result X Fault) → one ≡ other → Goes one other
same_goes one other same x is = sym same ∙ is

-- a field that is read is read in any column
moved : {X : Type 0} (field : Result X Why) (first other : ℕ) → Goes (in_column first field) (in_column other field)
moved (Ok y) first other x is = is
moved (Err why) first other x is = absurd (cc)

pub name_same : (a b : List ℕ) (first : ℕ) → columns a first (first + 5) ≡ columns b first (first + 5) → name_field a first ≡ name_field b first
unfolding name_field
name_same a b first same = ap (λ bytes. if list_any is_comma bytes then Err BadName else Ok (named (trimmed bytes))) same

pub whole_same : (a b : List ℕ) (first last : ℕ) → columns a first last ≡ columns b first last → whole_field a first last ≡ whole_field b first last
unfolding whole_field
whole_same a b first last same = ap (λ bytes. unless_blank (trimmed bytes) (whole_in (trimmed bytes))) same

-- a field from 0 to 10^15 in its unit, of which a blank is 0
abbrev part_field : List ℕ → ℕ → ℕ → ℤ → Result ℤ Fault
part_field line first last scale = in_column first (filled_with (pos 0) (number_field line first last scale (pos 0) (pos (10 ^ 15))))

part_goes : (a b : List ℕ) (first last other_first other_last : ℕ) (scale : ℤ) → field_of a first last ≡ field_of b other_first other_last → Goes (part_field a first last scale) (part_field b other_first other_last scale)
unfolding number_field
part_goes a b first last other_first other_last scale same x is =
    let read : List ℕ → Result ℤ Why = λ text. filled_with (pos 0) (unless_blank text (in_range (pos 0) (pos (10 ^ 15)) (number_in scale text))) in
    ap (λ text. in_column other_first (read text)) (sym same) ∙ moved (read (field_of a first last)) first other_first x is

-- ---- a card

-- two cards, narrow or wide, with the same texts
record Alike (a : List ℕ) (wide_a : Bool) (b : List ℕ) (wide_b : Bool) : Type 0 where
  type : columns a 1 2 ≡ columns b 1 2
  from_name : columns a 3 8 ≡ columns b 3 8
  to_name : columns a 9 14 ≡ columns b 9 14
  copied_from : columns a 15 20 ≡ columns b 15 20
  copied_to : columns a 21 26 ≡ columns b 21 26
  r : Goes (r_field a wide_a) (r_field b wide_b)
  l : Goes (l_field a wide_a) (l_field b wide_b)
  c : Goes (c_field a wide_a) (c_field b wide_b)
  asked : columns a 80 80 ≡ columns b 80 80

parts_go : {X : Type 0} (r l c r' l' c' : Result ℤ Fault) (rule : ℤ × (ℤ × ℤ) → Result X Fault) → Goes r r' → Goes l l' → Goes c c' → Goes (judged (both r (both l c)) rule) (judged (both r' (both l' c')) rule)
parts_go (Ok x) (Ok y) (Ok z) r' l' c' rule go_r go_l go_c s is = rw (go_r x refl, go_l y refl, go_c z refl) is
parts_go (Ok x) (Ok y) (Err f) r' l' c' rule go_r go_l go_c s is = absurd (cc)
parts_go (Ok x) (Err f) (Ok z) r' l' c' rule go_r go_l go_c s is = absurd (cc)
parts_go (Ok x) (Err f) (Err g) r' l' c' rule go_r go_l go_c s is = absurd (cc)
parts_go (Err f) (Ok y) (Ok z) r' l' c' rule go_r go_l go_c s is = absurd (cc)
parts_go (Err f) (Ok y) (Err g) r' l' c' rule go_r go_l go_c s is = absurd (cc)
parts_go (Err f) (Err g) (Ok z) r' l' c' rule go_r go_l go_c s is = absurd (cc)
parts_go (Err f) (Err g) (Err h) r' l' c' rule go_r go_l go_c s is = absurd (cc)

series_goes : (a b : List ℕ) (wide_a wide_b : Bool) (dt : ℤ) → Alike a wide_a b wide_b → Goes (series_values a dt wide_a) (series_values b dt wide_b)
unfolding series_values
series_goes a b wide_a wide_b dt alike = parts_go (r_field a wide_a) (l_field a wide_a) (c_field a wide_a) (r_field b wide_b) (l_field b wide_b) (c_field b wide_b) _ alike.r alike.l alike.c

judged_goes : {X Y : Type 0} (one other : Result X Fault) (rule : X → Result Y Fault) → Goes one other → Goes (judged one rule) (judged other rule)
judged_goes (Ok x) other rule go y is = rw (go x refl) is
judged_goes (Err f) other rule go y is = absurd (cc)

read_goes : (a b : List ℕ) (wide_a wide_b : Bool) (dt : ℤ) → Alike a wide_a b wide_b → Goes (read_values a dt wide_a SeriesKind) (read_values b dt wide_b SeriesKind)
read_goes a b wide_a wide_b dt alike = judged_goes (series_values a dt wide_a) (series_values b dt wide_b) _ (series_goes a b wide_a wide_b dt alike)

own_goes : (a b : List ℕ) (wide_a wide_b : Bool) (dt : ℤ) (copies : Option (Option (List ℕ) × Option (List ℕ))) → Alike a wide_a b wide_b → Goes (own_values a dt wide_a SeriesKind copies) (own_values b dt wide_b SeriesKind copies)
own_goes a b wide_a wide_b dt None alike = read_goes a b wide_a wide_b dt alike
own_goes a b wide_a wide_b dt (Some names) alike = λ x is. is

copies_same : (a b : List ℕ) (kind : Result BranchKind Fault) → name_field a 15 ≡ name_field b 15 → name_field a 21 ≡ name_field b 21 → copies_of a kind ≡ copies_of b kind
unfolding copies_of
copies_same a b kind one other = rw (one, other) refl

copied_goes : {X : Type 0} (one other : Result X Fault) (rule rule' : BranchKind × X → Result BranchValues Fault) → one ≡ other → ((x : X) → Goes (rule (SeriesKind, x)) (rule' (SeriesKind, x)))
    → Goes (judged (both (Ok SeriesKind) one) rule) (judged (both (Ok SeriesKind) other) rule')
copied_goes (Ok x) other rule rule' same go v is = rw (sym same) (go x v is)
copied_goes (Err f) other rule rule' same go v is = absurd (cc)

values_go : (a b : List ℕ) (wide_a wide_b : Bool) (dt : ℤ) → Alike a wide_a b wide_b → Goes (values_of a dt wide_a (Ok SeriesKind)) (values_of b dt wide_b (Ok SeriesKind))
values_go a b wide_a wide_b dt alike =
    copied_goes (copies_of a (Ok SeriesKind)) (copies_of b (Ok SeriesKind)) _ _ (copies_same a b (Ok SeriesKind) (name_same a b 15 alike.copied_from) (name_same a b 21 alike.copied_to)) (λ copies. own_goes a b wide_a wide_b dt copies alike)

all_go : {X Y Z W : Type 0} (ends ends' : Result X Fault) (values values' : Result Y Fault) (asked asked' : Result Z Fault) (rule : X × (Y × Z) → Result W Fault)
    → ends ≡ ends' → Goes values values' → asked ≡ asked' → Goes (judged (both ends (both values asked)) rule) (judged (both ends' (both values' asked')) rule)
all_go (Ok x) ends' (Ok y) values' (Ok z) asked' rule same_ends go same_asked w is = rw (sym same_ends, go y refl, sym same_asked) is
all_go (Ok x) ends' (Ok y) values' (Err f) asked' rule same_ends go same_asked w is = absurd (cc)
all_go (Ok x) ends' (Err f) values' (Ok z) asked' rule same_ends go same_asked w is = absurd (cc)
all_go (Ok x) ends' (Err f) values' (Err g) asked' rule same_ends go same_asked w is = absurd (cc)
all_go (Err f) ends' (Ok y) values' (Ok z) asked' rule same_ends go same_asked w is = absurd (cc)
all_go (Err f) ends' (Ok y) values' (Err g) asked' rule same_ends go same_asked w is = absurd (cc)
all_go (Err f) ends' (Err g) values' (Ok z) asked' rule same_ends go same_asked w is = absurd (cc)
all_go (Err f) ends' (Err g) values' (Err h) asked' rule same_ends go same_asked w is = absurd (cc)

pub ends_same : (a b : List ℕ) → name_field a 3 ≡ name_field b 3 → name_field a 9 ≡ name_field b 9 → ends_field a ≡ ends_field b
unfolding ends_field
ends_same a b one other = rw (one, other) refl

card_goes : (number : ℕ) (a b : List ℕ) (wide_a wide_b : Bool) (dt : ℤ) → Alike a wide_a b wide_b → kind_field a ≡ Ok SeriesKind → Goes (fields_of number a dt wide_a) (fields_of number b dt wide_b)
unfolding fields_of
card_goes number a b wide_a wide_b dt alike series =
    let other : kind_field b ≡ Ok SeriesKind = ap kind_by (sym (whole_same a b 1 2 alike.type)) ∙ series in
    let asked : asked_field a ≡ asked_field b = ap asked_in (whole_same a b 80 80 alike.asked) in
    let ends = ends_same a b (name_same a b 3 alike.from_name) (name_same a b 9 alike.to_name) in
    rw (series, other) (all_go (ends_field a) (ends_field b) (values_of a dt wide_a (Ok SeriesKind)) (values_of b dt wide_b (Ok SeriesKind)) (in_column 80 (asked_field a)) (in_column 80 (asked_field b)) _ ends (values_go a b wide_a wide_b dt alike) (ap (in_column 80) asked))

pub narrow_is_wide : (narrow wide : List ℕ) → HaveSameTexts narrow wide → IsReadAlike narrow false wide true
narrow_is_wide narrow wide same number dt card series is = card_goes number narrow wide false true dt (record {
  type = same.type;
  from_name = same.from_name;
  to_name = same.to_name;
  copied_from = same.copied_from;
  copied_to = same.copied_to;
  r = part_goes narrow wide 27 32 27 42 (pos 6) same.resistance;
  l = part_goes narrow wide 33 38 43 58 (pos 6) same.inductance;
  c = part_goes narrow wide 39 44 59 74 (pos 9) same.capacitance;
  asked = same.asked;
}) series card is

pub wide_is_narrow : (narrow wide : List ℕ) → HaveSameTexts narrow wide → IsReadAlike wide true narrow false
wide_is_narrow narrow wide same number dt card series is = card_goes number wide narrow true false dt (record {
  type = sym same.type;
  from_name = sym same.from_name;
  to_name = sym same.to_name;
  copied_from = sym same.copied_from;
  copied_to = sym same.copied_to;
  r = part_goes wide narrow 27 42 27 32 (pos 6) (sym same.resistance);
  l = part_goes wide narrow 43 58 33 38 (pos 6) (sym same.inductance);
  c = part_goes wide narrow 59 74 39 44 (pos 9) (sym same.capacitance);
  asked = sym same.asked;
}) series card is
