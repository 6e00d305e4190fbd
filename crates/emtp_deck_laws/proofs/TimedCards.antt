-- Cards of time switches that are the same but for their times are read as such.
use Rattle.std.proofs.Common.{◌≡◌, ◌∙◌, ap, sym, subst, refl, ℕ, ◌+◌, ◌≤◌, ◌^◌, ℤ, pos, Bool, true, false, List, Option, None, Ok, take, drop, inl, inr, arith}
use Rattle.std.specs.Prelude.{◌⊎◌, codes, if◌then◌else◌}
use Rattle.std.specs.Str.{bytes_eq}
use Rattle.std.proofs.lemmas.List.{drop-drop, drop-take, take-take}
use Rattle.emtp_fix.proofs.Chaining.{same_ok, then_ok}
use Rattle.emtp_card.specs.Fault.{filled_with}
use Rattle.emtp_card.specs.Field.{columns, filled, trimmed}
use Rattle.emtp_card.specs.Lines.{fault_of_line}
use Rattle.emtp_card.specs.Number.{in_range, number_field, number_in, unless_blank}
use Rattle.emtp_card.specs.NumberField.{number_or}
use Rattle.emtp_card.specs.declared.number_field.NumberField.{NumberField}
use Rattle.emtp_case.specs.declared.switch.SwitchKind.{SwitchKind}
use Rattle.emtp_case.specs.declared.switch.SwitchKind.TheVariants.{Measuring, Time}
use Rattle.emtp_netcards.specs.Fields.{asked_field, asked_in, ends_field}
use Rattle.emtp_netcards.specs.Reading.{◌>>=◌, both, in_column}
use Rattle.emtp_netcards.specs.SwitchCard.{fields_of, is_measuring, kind_of, switch_card, time_kind, times_of, type_by, type_field, word_field}
use Rattle.emtp_netcards.specs.declared.switch_card.SwitchCard.{SwitchCard}
use Rattle.emtp_netcards.specs.declared.switch_card.SwitchType.TheVariants.{Time as TimeType}
use Rattle.emtp_netcards.proofs.Readings.{by, each_of, field_of_column}
use Rattle.emtp_deck_laws.specs.OtherTimes.{AreTimed}
use Rattle.emtp_deck_laws.proofs.WideSeries.{ends_same, name_same, whole_same}

-- ---- columns within those that are the same

part_of : (f : List ℕ) (i n m k : ℕ) → k ≤ m → take k (drop n (take (n + m) (drop i f))) ≡ take k (drop (i + n) f)
part_of f i n m k few = ap (take k) (drop-take n m (drop i f)) ∙ take-take k m (drop n (drop i f)) few ∙ ap (take k) (drop-drop n i f)

part_same : (f g : List ℕ) (i n m k : ℕ) → k ≤ m → take (n + m) (drop i f) ≡ take (n + m) (drop i g) → take k (drop (i + n) f) ≡ take k (drop (i + n) g)
part_same f g i n m k few same = sym (part_of f i n m k few) ∙ ap (λ bytes. take k (drop n bytes)) same ∙ part_of g i n m k few

-- the fields of a card of a time switch but for its times
record HasSameFields (x y : List ℕ) : Type 0 where
  type : columns x 1 2 ≡ columns y 1 2
  from_name : columns x 3 8 ≡ columns y 3 8
  to_name : columns x 9 14 ≡ columns y 9 14
  margin : columns x 35 44 ≡ columns y 35 44
  word : columns x 55 64 ≡ columns y 55 64
  asked : columns x 80 80 ≡ columns y 80 80

fields_same : (x y : List ℕ) → columns x 1 14 ≡ columns y 1 14 → columns x 35 80 ≡ columns y 35 80 → HasSameFields x y
unfolding columns
fields_same x y before behind = record {
  type = part_same (filled x) (filled y) 0 0 14 2 (omega arith) before;
  from_name = part_same (filled x) (filled y) 0 2 12 6 (omega arith) before;
  to_name = part_same (filled x) (filled y) 0 8 6 6 (omega arith) before;
  margin = part_same (filled x) (filled y) 34 0 46 10 (omega arith) behind;
  word = part_same (filled x) (filled y) 34 20 26 10 (omega arith) behind;
  asked = part_same (filled x) (filled y) 34 45 1 1 (omega arith) behind;
}

number_same : (f : NumberField) (blank : ℤ) (x y : List ℕ) → columns x f.first f.last ≡ columns y f.first f.last → number_or f blank x ≡ number_or f blank y
unfolding number_field
number_same f blank x y same =
    ap (λ bytes. in_column f.first (filled_with blank (unless_blank (trimmed bytes) (in_range f.low f.high (number_in f.scale (trimmed bytes)))))) same

-- ---- what opens and closes it

-- times of a switch, and other ones
pub record HaveTimes (one other : SwitchKind) : Type 0 where
  pub close : ℤ
  pub open_at : Option ℤ
  pub other_close : ℤ
  pub other_open_at : Option ℤ
  pub margin : ℤ
  pub one_is : one ≡ Time close open_at margin
  pub other_is : other ≡ Time other_close other_open_at margin

abbrev pub AreTimedKinds : SwitchKind → SwitchKind → Type 0
AreTimedKinds one other = (one ≡ other) ⊎ HaveTimes one other

-- the margin, in columns 35 to 44
abbrev margin_field : NumberField
margin_field = record { first = 35; last = 44; scale = pos 9; low = pos 0; high = pos (10 ^ 18) }

times_read : (line : List ℕ) (kind : SwitchKind) → times_of line ≡ Ok kind → (close : ℤ) × (open_at : Option ℤ) × (margin : ℤ) × (kind ≡ Time close open_at margin) × (number_or margin_field (pos 0) line ≡ Ok margin)
unfolding times_of
times_read line kind e =
    let margin = number_or margin_field (pos 0) line in
    let word = in_column 55 (word_field line) in
    let r = then_ok (both (both _ _) (both margin word)) _ kind e in
    let halves = each_of (both _ _) (both margin word) r.0 r.1 in
    let second = each_of margin word r.0.1 halves.1 in
    (r.0.0.0, r.0.0.1, r.0.1.0, sym (same_ok (Time r.0.0.0 r.0.0.1 r.0.1.0) kind r.2), second.0)

kinds_alike : (x y : List ℕ) (k l : SwitchKind) → HasSameFields x y → time_kind x ≡ Ok k → time_kind y ≡ Ok l → AreTimedKinds k l
kinds_alike x y k l fields = go (is_measuring x) (is_measuring y) (ap (λ bytes. bytes_eq (trimmed bytes) (codes "MEASURING")) fields.word)
  where
    go : (a b : Bool) → a ≡ b → (if a then Ok Measuring else times_of x) ≡ Ok k → (if b then Ok Measuring else times_of y) ≡ Ok l → AreTimedKinds k l
    go true true s e f = inl (sym (same_ok Measuring k e) ∙ same_ok Measuring l f)
    go false false s e f =
        let a = times_read x k e in
        let b = times_read y l f in
        let same : a.2 ≡ b.2 = same_ok a.2 b.2 (sym a.4 ∙ number_same margin_field (pos 0) x y fields.margin ∙ b.4) in
        inr (record { close = a.0; open_at = a.1; other_close = b.0; other_open_at = b.1; margin = a.2; one_is = a.3; other_is = b.3 ∙ ap (λ m. Time b.0 b.1 m) (sym same) })
    go true false s e f = absurd (cc)
    go false true s e f = absurd (cc)

-- ---- the card

-- two cards that are the same but for the times of a time switch
pub record IsTimedCard (one other : SwitchCard) : Type 0 where
  pub is : other ≡ record one { kind = other.kind }
  pub kinds : AreTimedKinds one.kind other.kind

abbrev card_made : ℕ → Option (List ℕ) × Option (List ℕ) → SwitchKind → ℕ → SwitchCard
card_made number ends kind asked = record { line = number; «from» = ends.0; to = ends.1; kind = kind; control = None; asked = asked }

abbrev made_by : ℕ → Option (List ℕ) × Option (List ℕ) → ℕ → SwitchKind × Option (List ℕ) → SwitchCard
made_by number ends asked kind = record { line = number; «from» = ends.0; to = ends.1; kind = kind.0; control = kind.1; asked = asked }

-- what is read of a card of a time switch
record IsRead (number : ℕ) (line : List ℕ) (card : SwitchCard) : Type 0 where
  ends : Option (List ℕ) × Option (List ℕ)
  kind : SwitchKind
  asked : ℕ
  ends_are : ends_field line ≡ Ok ends
  kind_is : time_kind line ≡ Ok kind
  asked_is : asked_field line ≡ Ok asked
  is : card ≡ card_made number ends kind asked

fields_read : (number : ℕ) (line : List ℕ) (card : SwitchCard) → type_field line ≡ Ok TimeType → fields_of number line ≡ Ok card → IsRead number line card
unfolding fields_of
fields_read number line card type e =
    let kind = in_column 1 (type_field line) >>= kind_of line in
    let asked = in_column 80 (asked_field line) in
    let r = then_ok (both (ends_field line) (both kind asked)) _ card e in
    let first = each_of (ends_field line) (both kind asked) r.0 r.1 in
    let second = each_of kind asked r.0.1 first.1 in
    let timed : kind_of line TimeType ≡ Ok r.0.1.0 = sym (ap (λ t. in_column 1 t >>= kind_of line) type) ∙ second.0 in
    let k = then_ok (time_kind line) _ r.0.1.0 timed in
    let pair : r.0.1.0 ≡ (k.0, None) = sym (same_ok (k.0, None) r.0.1.0 k.2) in
    record {
      ends = r.0.0;
      kind = k.0;
      asked = r.0.1.1;
      ends_are = first.0;
      kind_is = k.1;
      asked_is = field_of_column 80 (asked_field line) r.0.1.1 second.1;
      is = sym (same_ok (made_by number r.0.0 r.0.1.1 r.0.1.0) card r.2) ∙ ap (made_by number r.0.0 r.0.1.1) pair;
    }

-- the same in all but the kind
kind_alone : (number : ℕ) (ends others : Option (List ℕ) × Option (List ℕ)) (k l : SwitchKind) (asked also : ℕ) (card other : SwitchCard)
    → ends ≡ others → asked ≡ also → AreTimedKinds k l → card ≡ card_made number ends k asked → other ≡ card_made number others l also → IsTimedCard card other
kind_alone number ends others k l asked also card other same_ends same_asked kinds one two =
    let moved : other ≡ card_made number ends l asked = two ∙ ap (λ e. card_made number e l also) (sym same_ends) ∙ ap (λ a. card_made number ends l a) (sym same_asked) in
    subst (λ c. IsTimedCard c other) (sym one) (subst (λ c. IsTimedCard (card_made number ends k asked) c) (sym moved) (record { is = refl; kinds = kinds }))

read_alike : (number : ℕ) (x y : List ℕ) (card other : SwitchCard) → AreTimed x y → fields_of number x ≡ Ok card → fields_of number y ≡ Ok other → IsTimedCard card other
read_alike number x y card other timed e f =
    let fields = fields_same x y timed.before timed.behind in
    let type = sym (ap type_by (whole_same x y 1 2 fields.type)) ∙ timed.type in
    let a = fields_read number x card timed.type e in
    let b = fields_read number y other type f in
    let ends = ends_same x y (name_same x y 3 fields.from_name) (name_same x y 9 fields.to_name) in
    let asked = ap asked_in (whole_same x y 80 80 fields.asked) in
    kind_alone number a.ends b.ends a.kind b.kind a.asked b.asked card other
    (same_ok a.ends b.ends (sym a.ends_are ∙ ends ∙ b.ends_are))
    (same_ok a.asked b.asked (sym a.asked_is ∙ asked ∙ b.asked_is))
    (kinds_alike x y a.kind b.kind fields a.kind_is b.kind_is) a.is b.is

pub cards_alike : (number : ℕ) (x y : List ℕ) (card other : SwitchCard) → AreTimed x y → switch_card number x ≡ Ok card → switch_card number y ≡ Ok other → IsTimedCard card other
unfolding switch_card
cards_alike number x y card other timed e f =
    read_alike number x y card other timed (by number (fault_of_line x) (fields_of number x) card e) (by number (fault_of_line y) (fields_of number y) other f)
