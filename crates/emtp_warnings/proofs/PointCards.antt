-- Two lines without a faulty byte that agree under the ruler of one of them give the same points.
use Rattle.std.proofs.Common.{◌≡◌, ◌∙◌, sym, ap, refl, ℕ, Bool, true, false, List}
use Rattle.std.specs.Prelude.{ℤ, cond, Option, None, Result, Ok, Err}
use Rattle.emtp_card.specs.Lines.{fault_of_line, is_section_end}
use Rattle.emtp_card.specs.declared.fault.Fault.{Fault}
use Rattle.emtp_card.specs.declared.reason.Why.{Why}
use Rattle.emtp_case.specs.declared.branch.Point.{Point}
use Rattle.emtp_netcards.specs.PointCard.{ending_number, first_field, in_room, is_ending, is_number, next_point, next_read, point_after, points_end, second_field}
use Rattle.emtp_netcards.specs.held.PointCard.{point_card, point_of, point_read}
use Rattle.emtp_netcards.specs.Reading.{card_by, card_due}
use Rattle.emtp_netcards.specs.declared.point_card.PointScale.{PointScale}
use Rattle.emtp_netcards.specs.declared.point_card.PointScale.TheVariants.{Reactor, Resistor, Table, Times}
use Rattle.emtp_warnings.proofs.Agreeing.{has_field, number_under}
use Rattle.emtp_warnings.specs.Law.{AgreeUnder, AreFaultless}
use Rattle.emtp_warnings.specs.Marked.{point_ruler}
use Rattle.emtp_warnings.specs.Marked.{ends_points, is_last_card}
use Rattle.emtp_warnings.specs.declared.rulers.TheConstants.{ENDING, POINT}

one_way : {A : Type 0} (t : Bool) (a : A) → cond t a a ≡ a
one_way true a = refl
one_way false a = refl

-- the bytes of a card that is due aren't what refuses it
pub read_is : {A : Type 0} (number : ℕ) (line : List ℕ) (read : Result A Fault) → fault_of_line line ≡ None → card_due number line read ≡ card_by number None read
read_is number line read e =
    ap (λ (bytes : Option (ℕ × Why)). cond (is_section_end line) (card_by number None read) (card_by number bytes read)) e
    ∙ one_way (is_section_end line) (card_by number None read)

-- the card that ends points is known by its first field
ends_by : (number : ℕ) (ending : Bool) (first second : Result ℤ Fault) → is_last_card (card_by number None (cond ending (Ok None) (point_of first second))) ≡ true → ending ≡ true
ends_by number true first second e = refl
ends_by number false (Ok x) (Ok y) e = absurd (cc)
ends_by number false (Ok x) (Err f) e = absurd (cc)
ends_by number false (Err f) (Ok y) e = absurd (cc)
ends_by number false (Err f) (Err g) e = absurd (cc)

module _ (x y : List ℕ) (sound : AreFaultless x y) where
  first_same : (ruler : List ℕ) → AgreeUnder ruler x y → has_field ruler 1 16 ≡ true → (scale : PointScale) → first_field x scale ≡ first_field y scale
  first_same ruler h marks Resistor = simp (number_under ruler x y h 1 16 marks)
  first_same ruler h marks Reactor = simp (number_under ruler x y h 1 16 marks)
  first_same ruler h marks Table = simp (number_under ruler x y h 1 16 marks)
  first_same ruler h marks Times = simp (number_under ruler x y h 1 16 marks)

  second_same : AgreeUnder POINT.now x y → (scale : PointScale) → second_field x scale ≡ second_field y scale
  second_same h Resistor = simp (number_under POINT.now x y h 17 32 refl)
  second_same h Reactor = simp (number_under POINT.now x y h 17 32 refl)
  second_same h Table = simp (number_under POINT.now x y h 17 32 refl)
  second_same h Times = simp (number_under POINT.now x y h 17 32 refl)

  -- what the next card is, from what is read of it
  next_from : (number : ℕ) (scale : PointScale) (before : Option Point) (count : ℕ) (dt : ℤ) → next_read x scale before count dt ≡ next_read y scale before count dt
      → next_point number x scale before count dt ≡ next_point number y scale before count dt
  unfolding next_point
  next_from number scale before count dt read =
      read_is number x (next_read x scale before count dt) sound.one ∙ ap (card_by number None) read ∙ sym (read_is number y (next_read y scale before count dt) sound.other)

  next_same : (scale : PointScale) (before : Option Point) (count : ℕ) (dt : ℤ) → first_field x scale ≡ first_field y scale → second_field x scale ≡ second_field y scale
      → next_read x scale before count dt ≡ next_read y scale before count dt
  unfolding next_read
  next_same scale before count dt first second = simp (first, second)

  last_same : (scale : PointScale) (before : Option Point) (count : ℕ) (dt : ℤ) → is_ending x scale ≡ true → is_ending y scale ≡ true
      → next_read x scale before count dt ≡ next_read y scale before count dt
  unfolding next_read
  last_same scale before count dt ends ends' =
      ap (λ (b : Bool). cond b (points_end scale count) (in_room count (point_after scale before dt (first_field x scale) (second_field x scale)))) ends
      ∙ sym (ap (λ (b : Bool). cond b (points_end scale count) (in_room count (point_after scale before dt (first_field y scale) (second_field y scale)))) ends')

  point_by : (number : ℕ) (scale : PointScale) (before : Option Point) (count : ℕ) (dt : ℤ) (last : Bool) → ends_points number x scale ≡ last → AgreeUnder (point_ruler last) x y
      → next_point number x scale before count dt ≡ next_point number y scale before count dt
  unfolding point_card point_read
  point_by number scale before count dt true e h =
      let last = ap is_last_card (sym (read_is number x (point_read x scale) sound.one)) ∙ e in
      let ends = ends_by number (is_ending x scale) (first_field x scale) (second_field x scale) last in
      next_from number scale before count dt (last_same scale before count dt ends (ap (is_number (ending_number scale)) (sym (first_same ENDING.now h refl scale)) ∙ ends))
  point_by number scale before count dt false e h =
      next_from number scale before count dt (next_same scale before count dt (first_same POINT.now h refl scale) (second_same h scale))

  pub point_under : (number : ℕ) (scale : PointScale) (before : Option Point) (count : ℕ) (dt : ℤ) → AgreeUnder (point_ruler (ends_points number x scale)) x y
      → next_point number x scale before count dt ≡ next_point number y scale before count dt
  point_under number scale before count dt h = point_by number scale before count dt (ends_points number x scale) refl h
