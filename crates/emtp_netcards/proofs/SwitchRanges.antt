-- What a switch card keeps that isn't refused.
use Rattle.emtp_fix.proofs.Chaining.{then_ok}
use Rattle.std.proofs.Common.{◌≡◌, subst, refl, ℕ, ◌≤◌, ◌<◌, ℤ, pos, neg_ℤ, Bool, true, false, List, Option, Some, None, Result, Ok, Err, IfSome, if◌then◌else◌, unsigned_abs, arith}
use Rattle.std.proofs.lemmas.Int.{ints}
use Rattle.std.specs.Option.{ForSome}
use Rattle.std.specs.Ordering.{int_eq}
use Rattle.emtp_card.specs.Lines.{fault_of_line}
use Rattle.emtp_card.specs.Name.{name_field}
use Rattle.emtp_card.specs.NumberField.{held_of, held_or, number_or}
use Rattle.emtp_card.specs.Whole.{whole_field}
use Rattle.emtp_card.specs.held.Number.{IsWithin}
use Rattle.emtp_card.specs.declared.fault.Fault.{Fault}
use Rattle.emtp_card.specs.declared.number_field.NumberField.{NumberField}
use Rattle.emtp_card.specs.declared.reason.Why.{Why}
use Rattle.emtp_card.specs.declared.reason.Why.TheVariants.{BadName, OutOfUnitRange}
use Rattle.emtp_case.specs.held.Name.{IsName}
use Rattle.emtp_case.specs.held.Range.{IsBetween}
use Rattle.emtp_case.specs.held.Switch.{IsSwitchKind}
use Rattle.emtp_case.specs.declared.switch.SwitchKind.{SwitchKind}
use Rattle.emtp_case.specs.declared.switch.SwitchKind.TheVariants.{Control, Measuring, Time, Valve}
use Rattle.emtp_fix.specs.declared.limit.TheConstants.{LARGEST_TIME, LARGEST_VALUE}
use Rattle.emtp_netcards.specs.Fields.{asked_field, asked_in, asked_of, distinct, ends_field, is_same_name, needed}
use Rattle.emtp_netcards.specs.Reading.{◌>>=◌, both, in_column}
use Rattle.emtp_netcards.specs.SwitchCard.{fields_of, is_measuring, kind_of, number_of_control, switch_card, time_kind, times_of, type_field, valve_of, word_field}
use Rattle.emtp_netcards.specs.held.Fields.{AreEndNames, one_variable}
use Rattle.emtp_netcards.specs.held.SwitchCard.{HasSwitchNumbers}
use Rattle.emtp_netcards.specs.declared.switch_card.SwitchCard.{SwitchCard}
use Rattle.emtp_netcards.specs.declared.switch_card.SwitchType.{SwitchType}
use Rattle.emtp_netcards.specs.declared.switch_card.TheConstants.{CLOSING, HOLDING, IGNITION, MARGIN, OPENING}
use Rattle.emtp_netcards.specs.declared.switch_card.SwitchType.TheVariants.{Control as ControlType, Time as TimeType, Valve as ValveType}
use Rattle.emtp_netcards.proofs.Readings.{by, each_of, field_of_column, whole_by}
use Rattle.emtp_netcards.proofs.FieldRanges.{held_of_is, held_or_is, name_is, number_or_is}

-- ---- shared fields

distinct_is : (a b : Option (List ℕ)) (ends : Option (List ℕ) × Option (List ℕ)) → IfSome a IsName → IfSome b IsName → distinct a b ≡ Ok ends → AreEndNames ends.0 ends.1
distinct_is a b ends ha hb e = go (is_same_name a b) refl e
  where
    answer : Bool → Result (Option (List ℕ) × Option (List ℕ)) Fault
    answer same = if same then Err (record { column = 9; why = BadName }) else Ok (a, b)

    go : (same : Bool) → is_same_name a b ≡ same → answer same ≡ Ok ends → AreEndNames ends.0 ends.1
    go true s e = absurd (cc)
    go false s e = let is : (a, b) ≡ ends = cc in subst (λ (p : Option (List ℕ) × Option (List ℕ)). AreEndNames p.0 p.1) is (record { from_name = ha; to_name = hb; apart = s })

pub ends_are : (line : List ℕ) (ends : Option (List ℕ) × Option (List ℕ)) → fault_of_line line ≡ None → ends_field line ≡ Ok ends → AreEndNames ends.0 ends.1
unfolding ends_field
ends_are line ends whole e =
    let r = then_ok (both (in_column 3 (name_field line 3)) (in_column 9 (name_field line 9))) _ ends e in
    let parts = each_of (in_column 3 (name_field line 3)) (in_column 9 (name_field line 9)) r.0 r.1 in
    let a = name_is line 3 r.0.0 whole (field_of_column 3 (name_field line 3) r.0.0 parts.0) in
    let b = name_is line 9 r.0.1 whole (field_of_column 9 (name_field line 9) r.0.1 parts.1) in
    distinct_is r.0.0 r.0.1 ends a b r.2

asked_few : (n : ℤ) (asked : ℕ) → asked_of n ≡ Ok asked → asked ≤ 3
asked_few n asked e = go (int_eq n (pos 0)) (int_eq n (pos 1)) (int_eq n (pos 2)) (int_eq n (pos 3)) e
  where
    go : (a b c d : Bool) → (if a then Ok 0 else if b then Ok 1 else if c then Ok 2 else if d then Ok 3 else Err OutOfUnitRange) ≡ Ok asked → asked ≤ 3
    go true b c d e = let is : 0 ≡ asked = cc in omega (arith, is)
    go false true c d e = let is : 1 ≡ asked = cc in omega (arith, is)
    go false false true d e = let is : 2 ≡ asked = cc in omega (arith, is)
    go false false false true e = let is : 3 ≡ asked = cc in omega (arith, is)
    go false false false false e = absurd (cc)

asked_by : (read : Result (Option ℤ) Why) (asked : ℕ) → asked_in read ≡ Ok asked → asked ≤ 3
asked_by (Ok None) asked e = let is : 0 ≡ asked = cc in omega (arith, is)
asked_by (Ok (Some n)) asked e = asked_few n asked e
asked_by (Err why) asked e = absurd (cc)

pub asked_is : (line : List ℕ) (asked : ℕ) → in_column 80 (asked_field line) ≡ Ok asked → asked ≤ 3
asked_is line asked e = asked_by (whole_field line 80 80) asked (field_of_column 80 (asked_field line) asked e)

-- ---- what opens and closes it

value_is : (f : NumberField) → f.low ≡ pos 0 → f.high ≡ pos LARGEST_VALUE → (line : List ℕ) (x : ℤ) → number_or f (pos 0) line ≡ Ok x → IsBetween 0 LARGEST_VALUE x
value_is f low high line x e =
    let w = number_or_is f (pos 0) line x (record { least = omega (arith, ints, low); most = omega (arith, ints, high) }) e in
    record { least = omega (arith, ints, low, w.least); most = omega (arith, ints, high, w.most) }

-- 0 is a time
pub zero_time : IsWithin (neg_ℤ (pos LARGEST_TIME)) (pos LARGEST_TIME) (pos 0)
zero_time = record { least = omega (arith, ints); most = omega (arith, ints) }

pub time_small : (x : ℤ) → IsWithin (neg_ℤ (pos LARGEST_TIME)) (pos LARGEST_TIME) x → unsigned_abs x ≤ LARGEST_TIME
time_small x w = omega (arith, ints, w.least, w.most)

some_small : (field : Option ℤ) → IfSome field (IsWithin (neg_ℤ (pos LARGEST_TIME)) (pos LARGEST_TIME)) → ForSome field (λ t. unsigned_abs t ≤ LARGEST_TIME)
some_small (Some y) w x e = let is : y ≡ x = cc in time_small x (subst (IsWithin (neg_ℤ (pos LARGEST_TIME)) (pos LARGEST_TIME)) is w)
some_small None w x e = absurd (cc)

times_are : (line : List ℕ) (kind : SwitchKind) → times_of line ≡ Ok kind → IsSwitchKind one_variable kind
unfolding times_of
times_are line kind e =
    let close = held_or CLOSING (pos 0) line in
    let open_at = held_of OPENING line in
    let margin = number_or MARGIN (pos 0) line in
    let word = in_column 55 (word_field line) in
    let r = then_ok (both (both close open_at) (both margin word)) _ kind e in
    let halves = each_of (both close open_at) (both margin word) r.0 r.1 in
    let first = each_of close open_at r.0.0 halves.0 in
    let second = each_of margin word r.0.1 halves.1 in
    let c = held_or_is CLOSING (pos 0) line r.0.0.0 zero_time first.0 in
    let o = some_small r.0.0.1 (held_of_is OPENING line r.0.0.1 (omega (arith, ints)) first.1) in
    let m = value_is MARGIN refl refl line r.0.1.0 second.0 in
    let is : Time r.0.0.0 r.0.0.1 r.0.1.0 ≡ kind = cc in
    subst (IsSwitchKind one_variable) is (record { close_small = time_small r.0.0.0 c; open_small = o }, m)

time_kind_is : (line : List ℕ) (kind : SwitchKind) → time_kind line ≡ Ok kind → IsSwitchKind one_variable kind
time_kind_is line kind e = go (is_measuring line) e
  where
    go : (measuring : Bool) → (if measuring then Ok Measuring else times_of line) ≡ Ok kind → IsSwitchKind one_variable kind
    go true e = let is : Measuring ≡ kind = cc in subst (IsSwitchKind one_variable) is tt
    go false e = times_are line kind e

control_is : (name : Option (List ℕ)) → ForSome (number_of_control name) (λ v. v < 1)
control_is (Some name) v e = let is : 0 ≡ v = cc in omega (arith, is)
control_is None v e = absurd (cc)

valve_is : (line : List ℕ) (kind : SwitchKind × Option (List ℕ)) → valve_of line ≡ Ok kind → IsSwitchKind one_variable kind.0
unfolding valve_of
valve_is line kind e =
    let ignition = number_or IGNITION (pos 0) line in
    let holding = number_or HOLDING (pos 0) line in
    let control = in_column 65 (name_field line 65) in
    let r = then_ok (both ignition (both holding control)) _ kind e in
    let first = each_of ignition (both holding control) r.0 r.1 in
    let second = each_of holding control r.0.1 first.1 in
    let is : (Valve r.0.0 r.0.1.0 (number_of_control r.0.1.1), r.0.1.1) ≡ kind = cc in
    subst (λ (k : SwitchKind × Option (List ℕ)). IsSwitchKind one_variable k.0) is (value_is IGNITION refl refl line r.0.0 first.0, value_is HOLDING refl refl line r.0.1.0 second.0, control_is r.0.1.1)

kind_is : (line : List ℕ) (type : SwitchType) (kind : SwitchKind × Option (List ℕ)) → kind_of line type ≡ Ok kind → IsSwitchKind one_variable kind.0
kind_is line TimeType kind e =
    let r = then_ok (time_kind line) _ kind e in
    let is : (r.0, None) ≡ kind = cc in
    subst (λ (k : SwitchKind × Option (List ℕ)). IsSwitchKind one_variable k.0) is (time_kind_is line r.0 r.1)
kind_is line ValveType kind e = valve_is line kind e
kind_is line ControlType kind e =
    let r = then_ok (in_column 65 (needed (name_field line 65))) _ kind e in
    let is : (Control 0, Some r.0) ≡ kind = cc in
    subst (λ (k : SwitchKind × Option (List ℕ)). IsSwitchKind one_variable k.0) is (omega arith)

-- ---- the card

fields_keep : (number : ℕ) (line : List ℕ) (card : SwitchCard) → fault_of_line line ≡ None → fields_of number line ≡ Ok card → HasSwitchNumbers card
unfolding fields_of
fields_keep number line card whole e =
    let kind = in_column 1 (type_field line) >>= kind_of line in
    let asked = in_column 80 (asked_field line) in
    let r = then_ok (both (ends_field line) (both kind asked)) _ card e in
    let first = each_of (ends_field line) (both kind asked) r.0 r.1 in
    let second = each_of kind asked r.0.1 first.1 in
    let type = then_ok (in_column 1 (type_field line)) (kind_of line) r.0.1.0 second.0 in
    let made : SwitchCard = record { line = number; «from» = r.0.0.0; to = r.0.0.1; kind = r.0.1.0.0; control = r.0.1.0.1; asked = r.0.1.1 } in
    let is : made ≡ card = cc in
    subst HasSwitchNumbers is (record { ends = ends_are line r.0.0 whole first.0; kind = kind_is line type.0 r.0.1.0 type.2; few = asked_is line r.0.1.1 second.1 })

pub switch_keeps : (number : ℕ) (line : List ℕ) (card : SwitchCard) → switch_card number line ≡ Ok card → HasSwitchNumbers card
unfolding switch_card
switch_keeps number line card e = fields_keep number line card (whole_by number (fault_of_line line) (fields_of number line) card e) (by number (fault_of_line line) (fields_of number line) card e)
