-- What a point card keeps that isn't refused.
use Rattle.emtp_fix.proofs.Chaining.{then_ok}
use Rattle.std.proofs.Common.{◌≡◌, ap, subst, refl, ℕ, ◌^◌, ◌≤◌, ◌<◌, nat_le, nat_lt, ℤ, pos, int_le, Bool, true, false, List, Option, Some, None, Result, Ok, Err, IfSome, IfNone, if◌then◌else◌, arith}
use Rattle.std.proofs.lemmas.Bool.{leb-false, ltb-false}
use Rattle.std.proofs.lemmas.Int.{ints}
use Rattle.emtp_card.specs.Lines.{fault_of_line, is_section_end}
use Rattle.emtp_card.specs.NumberField.{number_of}
use Rattle.emtp_card.specs.held.Number.{IsWithin}
use Rattle.emtp_card.specs.declared.fault.Fault.{Fault}
use Rattle.emtp_card.specs.declared.number_field.NumberField.{NumberField}
use Rattle.emtp_card.specs.declared.reason.Bad.{Bad}
use Rattle.emtp_case.specs.Branch.{greatest_slope, least_slope, slope_of}
use Rattle.emtp_case.specs.held.Branch.{IsSegment}
use Rattle.emtp_case.specs.held.Range.{IsBetween}
use Rattle.emtp_case.specs.declared.branch.Point.{Point}
use Rattle.emtp_case.specs.declared.limit.TheConstants.{MOST_POINTS}
use Rattle.emtp_netcards.specs.PointCard.{bad_point, enough, fewest_of, first_by, first_field, goes_on, in_room, is_after, is_ending, is_pair, is_slope, next_point, next_read, origin_or, point_after, points_end, present, room_for, second_by, second_field, segment_by, sloped, value_field}
use Rattle.emtp_netcards.specs.Reading.{both, card_by, card_due, card_on}
use Rattle.emtp_netcards.specs.held.PointCard.{Follows, IsPointOf, IsValueOf}
use Rattle.emtp_netcards.specs.declared.point_card.PointScale.{PointScale}
use Rattle.emtp_netcards.specs.declared.point_card.TheConstants.{CLOSING, CURRENT, FLUX, INPUT, OPENING, OUTPUT, VOLTAGE}
use Rattle.emtp_netcards.specs.declared.point_card.PointScale.TheVariants.{Reactor, Resistor, Table, Times}
use Rattle.emtp_netcards.proofs.Readings.{by, each_of}
use Rattle.emtp_netcards.proofs.FieldRanges.{number_is}
use Rattle.emtp_netcards.proofs.BranchRanges.{both_true}

present_is : (P : ℤ → Type 0) (column : ℕ) (read : Result (Option ℤ) Fault) (x : ℤ) → ((field : Option ℤ) → read ≡ Ok field → IfSome field P) → present column read ≡ Ok x → P x
present_is P column (Ok None) x all e = absurd (cc)
present_is P column (Ok (Some y)) x all e = let is : y ≡ x = cc in subst P is (all (Some y) refl)
present_is P column (Err fault) x all e = absurd (cc)

value_is : (line : List ℕ) (f : NumberField) (x : ℤ) → value_field line f ≡ Ok x → IsWithin f.low f.high x
value_is line f x e = present_is (IsWithin f.low f.high) f.first (number_of f line) x (number_is f line) e

first_is : (line : List ℕ) (scale : PointScale) (x : ℤ) → first_field line scale ≡ Ok x → IsValueOf scale x
first_is line Resistor x e = value_is line CURRENT x e
first_is line Reactor x e = value_is line CURRENT x e
first_is line Table x e = value_is line INPUT x e
first_is line Times x e = value_is line CLOSING x e

second_is : (line : List ℕ) (scale : PointScale) (y : ℤ) → second_field line scale ≡ Ok y → IsValueOf scale y
second_is line Resistor y e = value_is line VOLTAGE y e
second_is line Reactor y e = value_is line FLUX y e
second_is line Table y e = value_is line OUTPUT y e
second_is line Times y e = value_is line OPENING y e

-- ---- after the card before

first_by_is : (scale : PointScale) (before : Option Point) (first : Result ℤ Fault) (x : ℤ) → first_by scale before first ≡ Ok x → (first ≡ Ok x) × (goes_on scale before x ≡ true)
unfolding first_by
first_by_is scale before first x e =
    let t = then_ok first _ x e in
    go t.0 t.1 (goes_on scale before t.0) refl t.2
  where
    answer : ℤ → Bool → Result ℤ Fault
    answer y on = if on then Ok y else Err (bad_point 1)

    go : (y : ℤ) → first ≡ Ok y → (on : Bool) → goes_on scale before y ≡ on → answer y on ≡ Ok x → (first ≡ Ok x) × (goes_on scale before x ≡ true)
    go y f true g e = let is : y ≡ x = cc in subst (λ z. (first ≡ Ok z) × (goes_on scale before z ≡ true)) is (f, g)
    go y f false g e = absurd (cc)

second_by_is : (scale : PointScale) (before : Option Point) (x : ℤ) (second : Result ℤ Fault) (y : ℤ) → second_by scale before x second ≡ Ok y → (second ≡ Ok y) × (is_pair scale before x y ≡ true)
unfolding second_by
second_by_is scale before x second y e =
    let t = then_ok second _ y e in
    go t.0 t.1 (is_pair scale before x t.0) refl t.2
  where
    answer : ℤ → Bool → Result ℤ Fault
    answer z pair = if pair then Ok z else Err (bad_point 17)

    go : (z : ℤ) → second ≡ Ok z → (pair : Bool) → is_pair scale before x z ≡ pair → answer z pair ≡ Ok y → (second ≡ Ok y) × (is_pair scale before x y ≡ true)
    go z f true g e = let is : z ≡ y = cc in subst (λ w. (second ≡ Ok w) × (is_pair scale before x w ≡ true)) is (f, g)
    go z f false g e = absurd (cc)

slope_is : (reactor : Bool) (z : ℤ) → is_slope reactor z ≡ true → IsBetween (least_slope reactor) (greatest_slope reactor) z
slope_is reactor z e =
    let h = both_true (int_le (pos (least_slope reactor)) z) (int_le z (pos (greatest_slope reactor))) e in
    record { least = omega (arith, ints, h.0); most = omega (arith, ints, h.1) }

sloped_is : (reactor : Bool) (dt : ℤ) (start point p : Point) → sloped reactor dt start point ≡ Ok p → (point ≡ p) × IsBetween (least_slope reactor) (greatest_slope reactor) (slope_of reactor dt start p)
sloped_is reactor dt start point p e = go (is_slope reactor (slope_of reactor dt start point)) refl e
  where
    answer : Bool → Result Point Fault
    answer fit = if fit then Ok point else Err (bad_point 1)

    go : (fit : Bool) → is_slope reactor (slope_of reactor dt start point) ≡ fit → answer fit ≡ Ok p → (point ≡ p) × IsBetween (least_slope reactor) (greatest_slope reactor) (slope_of reactor dt start p)
    go true f e = let is : point ≡ p = cc in (is, subst (λ q. IsBetween (least_slope reactor) (greatest_slope reactor) (slope_of reactor dt start q)) is (slope_is reactor (slope_of reactor dt start point) f))
    go false f e = absurd (cc)

-- both numbers are above those of the point before, or of the origin
rises : (scale : PointScale) (reactor : Bool) (dt x y : ℤ) (before : Option Point) (p : Point) → (x ≡ p.current) × (y ≡ p.other)
    → IsWithin (pos 1) (pos (10 ^ 18)) x → IsWithin (pos 1) (pos (10 ^ 18)) y → goes_on Resistor before x ≡ true → is_after before y ≡ true
    → IsBetween (least_slope reactor) (greatest_slope reactor) (slope_of reactor dt (origin_or before) p) → IsSegment reactor dt (origin_or before) p
rises scale reactor dt x y None p is wx wy g a slope = record {
  current_rises = omega (arith, ints, is.0, wx.least);
  other_rises = omega (arith, ints, is.1, wy.least);
  current_small = omega (arith, ints, is.0, wx.most);
  other_small = omega (arith, ints, is.1, wy.most);
  slope = slope;
}
rises scale reactor dt x y (Some before) p is wx wy g a slope = record {
  current_rises = omega (arith, ints, is.0, g);
  other_rises = omega (arith, ints, is.1, a);
  current_small = omega (arith, ints, is.0, wx.most);
  other_small = omega (arith, ints, is.1, wy.most);
  slope = slope;
}

segment_is : (scale : PointScale) (before : Option Point) (dt x y : ℤ) (p : Point) → IsValueOf scale x → IsValueOf scale y → goes_on scale before x ≡ true → is_pair scale before x y ≡ true
    → segment_by scale before dt (record { current = x; other = y }) ≡ Ok p → IsPointOf scale p × Follows scale dt before p
segment_is Resistor before dt x y p hx hy g a e =
    let s = sloped_is false dt (origin_or before) (record { current = x; other = y }) p e in
    let cx : x ≡ p.current = ap (λ (q : Point). q.current) s.0 in
    let cy : y ≡ p.other = ap (λ (q : Point). q.other) s.0 in
    (record { current = subst (IsValueOf Resistor) cx hx; other = subst (IsValueOf Resistor) cy hy }, rises Resistor false dt x y before p (cx, cy) hx hy g a s.1)
segment_is Reactor before dt x y p hx hy g a e =
    let s = sloped_is true dt (origin_or before) (record { current = x; other = y }) p e in
    let cx : x ≡ p.current = ap (λ (q : Point). q.current) s.0 in
    let cy : y ≡ p.other = ap (λ (q : Point). q.other) s.0 in
    (record { current = subst (IsValueOf Reactor) cx hx; other = subst (IsValueOf Reactor) cy hy }, rises Resistor true dt x y before p (cx, cy) hx hy (like before g) a s.1)
  where
    like : (b : Option Point) → goes_on Reactor b x ≡ true → goes_on Resistor b x ≡ true
    like None h = h
    like (Some q) h = h
segment_is Table before dt x y p hx hy g a e =
    let made : Point = record { current = x; other = y } in
    let is : made ≡ p = cc in
    subst (λ q. IsPointOf Table q × Follows Table dt before q) is (record { current = hx; other = hy }, g)
segment_is Times before dt x y p hx hy g a e =
    let made : Point = record { current = x; other = y } in
    let is : made ≡ p = cc in
    subst (λ q. IsPointOf Times q × Follows Times dt before q) is (record { current = hx; other = hy }, (g, a))

after_is : (scale : PointScale) (before : Option Point) (dt : ℤ) (first second : Result ℤ Fault) (p : Point) → ((x : ℤ) → first ≡ Ok x → IsValueOf scale x) → ((y : ℤ) → second ≡ Ok y → IsValueOf scale y)
    → point_after scale before dt first second ≡ Ok p → IsPointOf scale p × Follows scale dt before p
unfolding point_after
after_is scale before dt first second p hx hy e =
    let t = then_ok (first_by scale before first) _ p e in
    let s = then_ok (second_by scale before t.0 second) _ p t.2 in
    let f = first_by_is scale before first t.0 t.1 in
    let g = second_by_is scale before t.0 second s.0 s.1 in
    segment_is scale before dt t.0 s.0 p (hx t.0 f.0) (hy s.0 g.0) f.1 g.1 s.2

-- ---- the card

room_is : (count : ℕ) (u : Unit {0}) → room_for count ≡ Ok u → count < MOST_POINTS
unfolding room_for
room_is count u e = go (nat_le MOST_POINTS count) refl e
  where
    answer : Bool → Result (Unit {0}) Fault
    answer full = if full then Err (bad_point 1) else Ok tt

    go : (full : Bool) → nat_le MOST_POINTS count ≡ full → answer full ≡ Ok u → count < MOST_POINTS
    go true f e = absurd (cc)
    go false f e = leb-false MOST_POINTS count f

enough_is : (scale : PointScale) (count : ℕ) (u : Unit {0}) → enough scale count ≡ Ok u → fewest_of scale ≤ count
unfolding enough
enough_is scale count u e = go (nat_lt count (fewest_of scale)) refl e
  where
    answer : Bool → Result (Unit {0}) Fault
    answer few = if few then Err (bad_point 1) else Ok tt

    go : (few : Bool) → nat_lt count (fewest_of scale) ≡ few → answer few ≡ Ok u → fewest_of scale ≤ count
    go true f e = absurd (cc)
    go false f e = ltb-false count (fewest_of scale) f

-- a point that was read, or a group that ends
pub record IsNextPoint (scale : PointScale) (before : Option Point) (count : ℕ) (dt : ℤ) (point : Option Point) : Type 0 where
  pub range : IfSome point (IsPointOf scale)
  pub room : IfSome point (λ p. count < MOST_POINTS)
  pub follows : IfSome point (Follows scale dt before)
  pub some : IfNone point (fewest_of scale ≤ count)

next_is : (line : List ℕ) (scale : PointScale) (before : Option Point) (count : ℕ) (dt : ℤ) (point : Option Point) → next_read line scale before count dt ≡ Ok point → IsNextPoint scale before count dt point
unfolding next_read
next_is line scale before count dt point e = go (is_ending line scale) e
  where
    next : Result Point Fault
    next = point_after scale before dt (first_field line scale) (second_field line scale)

    answer : Bool → Result (Option Point) Fault
    answer ends = if ends then points_end scale count else in_room count next

    go : (ends : Bool) → answer ends ≡ Ok point → IsNextPoint scale before count dt point
    go true e =
        let t = then_ok (enough scale count) _ point e in
        let is : None ≡ point = cc in
        subst (IsNextPoint scale before count dt) is (record { range = tt; room = tt; follows = tt; some = enough_is scale count t.0 t.1 })
    go false e =
        let t = then_ok (both (room_for count) next) _ point e in
        let parts = each_of (room_for count) next t.0 t.1 in
        let is : Some t.0.1 ≡ point = cc in
        let p = after_is scale before dt (first_field line scale) (second_field line scale) t.0.1 (first_is line scale) (second_is line scale) parts.1 in
        subst (IsNextPoint scale before count dt) is (record { range = p.0; room = room_is count t.0.0 parts.0; follows = p.1; some = tt })

pub due_by : {A : Type 0} (number : ℕ) (line : List ℕ) (read : Result A Fault) (card : A) → card_due number line read ≡ Ok card → read ≡ Ok card
due_by {A} number line read card e = go (is_section_end line) e
  where
    answer : Bool → Result A Bad
    answer ended = if ended then card_by number None read else card_on number line read

    go : (ended : Bool) → answer ended ≡ Ok card → read ≡ Ok card
    go true e = by number None read card e
    go false e = by number (fault_of_line line) read card e

pub point_keeps : (number : ℕ) (line : List ℕ) (scale : PointScale) (before : Option Point) (count : ℕ) (dt : ℤ) (point : Option Point) → next_point number line scale before count dt ≡ Ok point → IsNextPoint scale before count dt point
unfolding next_point
point_keeps number line scale before count dt point e = next_is line scale before count dt point (due_by number line (next_read line scale before count dt) point e)
