-- What a branch card keeps that isn't refused.
use Rattle.emtp_fix.proofs.Chaining.{then_ok}
use Rattle.std.proofs.Common.{◌≡◌, ◌∙◌, ap, sym, subst, refl, ℕ, ◌^◌, ℤ, pos, ◌*ℤ◌, ◌≤ℤ◌, int_le, int_lt, Bool, true, false, ◌&&◌, List, Option, Some, None, Result, Ok, Err, if◌then◌else◌, arith}
use Rattle.std.proofs.lemmas.Int.{ints}
use Rattle.emtp_card.specs.Lines.{fault_of_line}
use Rattle.emtp_card.specs.NumberField.{number_or}
use Rattle.emtp_card.specs.held.Number.{IsWithin}
use Rattle.emtp_card.specs.declared.fault.Fault.{Fault}
use Rattle.emtp_card.specs.declared.number_field.NumberField.{NumberField}
use Rattle.emtp_card.specs.declared.reason.Why.TheVariants.{BadImpedance, OutOfUnitRange, ShortLine}
use Rattle.emtp_case.specs.Branch.{line_impedance, series_impedance}
use Rattle.emtp_case.specs.held.Branch.{HasLineNumbers, HasSeriesNumbers}
use Rattle.emtp_case.specs.held.Range.{IsBetween}
use Rattle.emtp_fix.specs.declared.limit.TheConstants.{LARGEST_IMPEDANCE, LARGEST_TIME, LEAST_IMPEDANCE}
use Rattle.emtp_fix.specs.Rounding.{near}
use Rattle.emtp_netcards.specs.BranchCard.{branch_card, copies_of, fields_of, kind_field, own_values, read_values, resistor_values, values_of}
use Rattle.emtp_netcards.specs.Fields.{asked_field, ends_field}
use Rattle.emtp_netcards.specs.LineValues as lines
use Rattle.emtp_netcards.specs.LineValues.{delay_of, form_field, is_surge, length_field, line_values, surge_by, surge_of, time_of, total_of, zc_of}
use Rattle.emtp_netcards.specs.Reading.{◌>>=◌, both, in_column}
use Rattle.emtp_netcards.specs.SeriesValues as series
use Rattle.emtp_netcards.specs.SeriesValues.{is_branch_impedance, series_of, series_values}
use Rattle.emtp_netcards.specs.held.BranchCard.{HasNumbers, HasValues, kind_of_values}
use Rattle.emtp_netcards.specs.held.LineValues.{IsDelay, IsSurge}
use Rattle.emtp_netcards.specs.declared.branch_card.BranchCard.{BranchCard}
use Rattle.emtp_netcards.specs.declared.branch_card.BranchKind.{BranchKind}
use Rattle.emtp_netcards.specs.declared.branch_card.BranchKind.TheVariants.{Line as LineKind, Reactor as ReactorKind, Resistor as ResistorKind, Second as SecondKind, Series as SeriesKind, Third as ThirdKind}
use Rattle.emtp_netcards.specs.declared.branch_card.BranchValues.{BranchValues}
use Rattle.emtp_netcards.specs.declared.branch_card.BranchValues.TheVariants.{Copied as CopiedCard, Line as LineCard, Lumped as LumpedCard, Reactor as ReactorCard, Resistor as ResistorCard, Second as SecondCard, Third as ThirdCard}
use Rattle.emtp_netcards.specs.declared.branch_card.TheConstants.{DELAY, FLASHOVER, JUMP}
use Rattle.emtp_netcards.specs.declared.line_values.LineValues.{LineValues}
use Rattle.emtp_netcards.specs.declared.line_values.Surge.{Surge}
use Rattle.emtp_netcards.specs.declared.line_values.TheConstants.{LENGTH, RESISTANCE as UNIT_RESISTANCE}
use Rattle.emtp_netcards.specs.declared.series_values.SeriesValues.{SeriesValues}
use Rattle.emtp_netcards.specs.declared.series_values.TheConstants.{CAPACITANCE, INDUCTANCE, RESISTANCE, WIDE_CAPACITANCE, WIDE_INDUCTANCE, WIDE_RESISTANCE}
use Rattle.emtp_netcards.proofs.Lines.{nonneg, total_between}
use Rattle.emtp_netcards.proofs.Readings.{by, each_of, field_of_column, whole_by}
use Rattle.emtp_netcards.proofs.FieldRanges.{number_or_is, required_within}
use Rattle.emtp_netcards.proofs.SwitchRanges.{asked_is, ends_are}

-- ---- a series branch

part_is : (f : NumberField) → f.low ≡ pos 0 → f.high ≡ pos (10 ^ 15) → (line : List ℕ) (x : ℤ) → number_or f (pos 0) line ≡ Ok x → IsBetween 0 (10 ^ 15) x
part_is f low high line x e =
    let w = number_or_is f (pos 0) line x (record { least = omega (arith, ints, low); most = omega (arith, ints, high) }) e in
    record { least = omega (arith, ints, low, w.least); most = omega (arith, ints, high, w.most) }

r_is : (line : List ℕ) (wide : Bool) (x : ℤ) → series.r_field line wide ≡ Ok x → IsBetween 0 (10 ^ 15) x
r_is line true x e = part_is WIDE_RESISTANCE refl refl line x e
r_is line false x e = part_is RESISTANCE refl refl line x e

l_is : (line : List ℕ) (wide : Bool) (x : ℤ) → series.l_field line wide ≡ Ok x → IsBetween 0 (10 ^ 15) x
l_is line true x e = part_is WIDE_INDUCTANCE refl refl line x e
l_is line false x e = part_is INDUCTANCE refl refl line x e

c_is : (line : List ℕ) (wide : Bool) (x : ℤ) → series.c_field line wide ≡ Ok x → IsBetween 0 (10 ^ 15) x
c_is line true x e = part_is WIDE_CAPACITANCE refl refl line x e
c_is line false x e = part_is CAPACITANCE refl refl line x e

pub both_true : (a b : Bool) → (a && b) ≡ true → (a ≡ true) × (b ≡ true)
both_true true b e = (refl, e)
both_true false b e = absurd (cc)

impedance_is : (z : ℤ) → is_branch_impedance z ≡ true → IsBetween LEAST_IMPEDANCE LARGEST_IMPEDANCE z
impedance_is z e =
    let h = both_true (int_le (pos LEAST_IMPEDANCE) z) (int_le z (pos LARGEST_IMPEDANCE)) e in
    record { least = omega (arith, ints, h.0); most = omega (arith, ints, h.1) }

series_is : (dt r l c : ℤ) (s : SeriesValues) → IsBetween 0 (10 ^ 15) r → IsBetween 0 (10 ^ 15) l → IsBetween 0 (10 ^ 15) c → series_of dt r l c ≡ Ok s → HasSeriesNumbers dt s.r s.l s.c
series_is dt r l c s hr hl hc e = go (is_branch_impedance (series_impedance dt r l c)) refl e
  where
    answer : Bool → Result SeriesValues Fault
    answer fit = if fit then Ok (record { r = r; l = l; c = c }) else Err (record { column = 27; why = BadImpedance })

    go : (fit : Bool) → is_branch_impedance (series_impedance dt r l c) ≡ fit → answer fit ≡ Ok s → HasSeriesNumbers dt s.r s.l s.c
    go true f e =
        let made : SeriesValues = record { r = r; l = l; c = c } in
        let is : made ≡ s = cc in
        subst (λ (x : SeriesValues). HasSeriesNumbers dt x.r x.l x.c) is (record {
          resistance = record { least = hr.least; most = hr.most };
          inductance = record { least = hl.least; most = hl.most };
          capacitance = record { least = hc.least; most = hc.most };
          impedance = impedance_is (series_impedance dt r l c) f;
        })
    go false f e = absurd (cc)

series_are : (line : List ℕ) (dt : ℤ) (wide : Bool) (s : SeriesValues) → series_values line dt wide ≡ Ok s → HasSeriesNumbers dt s.r s.l s.c
unfolding series_values
series_are line dt wide s e =
    let r = series.r_field line wide in
    let l = series.l_field line wide in
    let c = series.c_field line wide in
    let t = then_ok (both r (both l c)) _ s e in
    let a = each_of r (both l c) t.0 t.1 in
    let b = each_of l c t.0.1 a.1 in
    series_is dt t.0.0 t.0.1.0 t.0.1.1 s
    (r_is line wide t.0.0 a.0) (l_is line wide t.0.1.0 b.0) (c_is line wide t.0.1.1 b.1) t.2

-- ---- a line

unit_is : (line : List ℕ) (x : ℤ) → lines.r_field line ≡ Ok x → IsBetween 0 (10 ^ 12) x
unit_is line x e =
    let zero : IsWithin (pos 0) (pos (10 ^ 12)) (pos 0) = record { least = omega (arith, ints); most = omega (arith, ints) } in
    let w : IsWithin (pos 0) (pos (10 ^ 12)) x = number_or_is UNIT_RESISTANCE (pos 0) line x zero e in
    record { least = w.least; most = w.most }

length_is : (line : List ℕ) (x : ℤ) → length_field line ≡ Ok x → IsBetween 1 (10 ^ 12) x
length_is line x e =
    let w : IsWithin (pos 1) (pos (10 ^ 12)) x = required_within LENGTH line x e in
    record { least = w.least; most = w.most }

total_is : (r length : Result ℤ Fault) (x : ℤ) → ((y : ℤ) → r ≡ Ok y → IsBetween 0 (10 ^ 12) y) → ((y : ℤ) → length ≡ Ok y → IsBetween 1 (10 ^ 12) y) → total_of r length ≡ Ok x → IsBetween 0 (10 ^ 18) x
total_is r length x hr hl e =
    let t = then_ok (both r length) _ x e in
    let parts = each_of r length t.0 t.1 in
    let is : near (t.0.0 *ℤ t.0.1) (pos (10 ^ 6)) ≡ x = cc in
    subst (IsBetween 0 (10 ^ 18)) is (total_between t.0.0 t.0.1 (hr t.0.0 parts.0) (hl t.0.1 parts.1))

surge_is : (zc r : ℤ) (s : Surge) → pos 0 ≤ℤ r → surge_of zc r ≡ Ok s → IsSurge s
surge_is zc r s low e = go (is_surge zc r (line_impedance zc r)) refl e
  where
    answer : Bool → Result Surge Fault
    answer fit = if fit then Ok (record { zc = zc; r = r }) else Err (record { column = 33; why = BadImpedance })

    go : (fit : Bool) → is_surge zc r (line_impedance zc r) ≡ fit → answer fit ≡ Ok s → IsSurge s
    go true f e =
        let end = line_impedance zc r in
        let a = both_true (int_le (pos LEAST_IMPEDANCE) zc) _ f in
        let b = both_true (int_le zc (pos LARGEST_IMPEDANCE)) _ a.1 in
        let c = both_true (int_le r (pos LARGEST_IMPEDANCE)) _ b.1 in
        let d = both_true (int_le (pos LEAST_IMPEDANCE) end) (int_le end (pos LARGEST_IMPEDANCE)) c.1 in
        let made : Surge = record { zc = zc; r = r } in
        let is : made ≡ s = cc in
        subst IsSurge is (record {
          zc = record { least = omega (arith, ints, a.0); most = omega (arith, ints, b.0) };
          r = record { least = low; most = omega (arith, ints, c.0) };
          end = record { least = omega (arith, ints, d.0); most = omega (arith, ints, d.1) };
        })
    go false f e = absurd (cc)

surge_by_is : (zc total : Result ℤ Fault) (s : Surge) → ((x : ℤ) → total ≡ Ok x → pos 0 ≤ℤ x) → surge_by zc total ≡ Ok s → IsSurge s
surge_by_is zc total s low e =
    let t = then_ok (both zc total) _ s e in
    let parts = each_of zc total t.0 t.1 in
    surge_is t.0.0 t.0.1 s (low t.0.1 parts.1) t.2

delay_is : (dt time x : ℤ) → delay_of dt time ≡ Ok x → IsDelay dt x
delay_is dt time x e = go (int_lt (pos LARGEST_TIME) time) (int_lt time dt) refl refl e
  where
    answer : Bool → Bool → Result ℤ Fault
    answer long short = if long then Err (record { column = 39; why = OutOfUnitRange }) else if short then Err (record { column = 39; why = ShortLine }) else Ok time

    go : (long short : Bool) → int_lt (pos LARGEST_TIME) time ≡ long → int_lt time dt ≡ short → answer long short ≡ Ok x → IsDelay dt x
    go true short l s e = absurd (cc)
    go false true l s e = absurd (cc)
    go false false l s e = let is : time ≡ x = cc in subst (IsDelay dt) is (record { long = omega (arith, ints, s); most = omega (arith, ints, l) })

line_are : (line : List ℕ) (dt : ℤ) (v : LineValues) → line_values line dt ≡ Ok v → HasLineNumbers dt v.zc v.r v.delay
unfolding line_values
line_are line dt v e =
    let form = form_field line in
    let a = form >>= lines.a_field line in
    let b = form >>= lines.b_field line in
    let total = total_of (lines.r_field line) (length_field line) in
    let zc = form >>= zc_of a b in
    let surge = surge_by zc total in
    let time = form >>= time_of a b (length_field line) in
    let delay = time >>= delay_of dt in
    let t = then_ok (both surge delay) _ v e in
    let parts = each_of surge delay t.0 t.1 in
    let s = surge_by_is zc total t.0.0 (λ x h. nonneg x (total_is (lines.r_field line) (length_field line) x (unit_is line) (length_is line) h)) parts.0 in
    let d = then_ok time (delay_of dt) t.0.1 parts.1 in
    let h = delay_is dt d.0 t.0.1 d.2 in
    let made : LineValues = record { zc = t.0.0.zc; r = t.0.0.r; delay = t.0.1 } in
    let is : made ≡ v = cc in
    subst (λ (x : LineValues). HasLineNumbers dt x.zc x.r x.delay) is (record { surge = s.zc; r = s.r; impedance = s.end; long = h.long; delay = h.most })

-- ---- the card

resistor_is : (line : List ℕ) (dt : ℤ) (values : BranchValues) → resistor_values line ≡ Ok values → HasValues dt values
unfolding resistor_values
resistor_is line dt values e =
    let t = then_ok (both (number_or FLASHOVER (pos 0) line) (both (number_or DELAY (pos 0) line) (number_or JUMP (pos 0) line))) _ values e in
    let is : ResistorCard ≡ values = cc in
    subst (HasValues dt) is tt

read_are : (line : List ℕ) (dt : ℤ) (wide : Bool) (kind : BranchKind) (values : BranchValues) → read_values line dt wide kind ≡ Ok values → HasValues dt values
read_are line dt wide SeriesKind values e =
    let t = then_ok (series_values line dt wide) _ values e in
    let is : LumpedCard t.0.r t.0.l t.0.c ≡ values = cc in
    subst (HasValues dt) is (series_are line dt wide t.0 t.1)
read_are line dt wide LineKind values e =
    let t = then_ok (line_values line dt) _ values e in
    let is : LineCard t.0.zc t.0.r t.0.delay ≡ values = cc in
    subst (HasValues dt) is (line_are line dt t.0 t.1)
read_are line dt wide SecondKind values e =
    let t = then_ok (line_values line dt) _ values e in
    let is : SecondCard t.0.zc t.0.r t.0.delay ≡ values = cc in
    subst (HasValues dt) is (line_are line dt t.0 t.1)
read_are line dt wide ThirdKind values e = let is : ThirdCard ≡ values = cc in subst (HasValues dt) is tt
read_are line dt wide ReactorKind values e = let is : ReactorCard ≡ values = cc in subst (HasValues dt) is tt
read_are line dt wide ResistorKind values e = resistor_is line dt values e

own_are : (line : List ℕ) (dt : ℤ) (wide : Bool) (kind : BranchKind) (copies : Option (Option (List ℕ) × Option (List ℕ))) (values : BranchValues) → own_values line dt wide kind copies ≡ Ok values → HasValues dt values
own_are line dt wide kind None values e = read_are line dt wide kind values e
own_are line dt wide kind (Some names) values e = let is : CopiedCard kind names.0 names.1 ≡ values = cc in subst (HasValues dt) is tt

fields_keep : (number : ℕ) (line : List ℕ) (dt : ℤ) (wide : Bool) (card : BranchCard) → fault_of_line line ≡ None → fields_of number line dt wide ≡ Ok card → HasNumbers dt card
unfolding fields_of
fields_keep number line dt wide card whole e =
    let kind = in_column 1 (kind_field line) in
    let copies = copies_of line kind in
    let values = values_of line dt wide kind in
    let asked = in_column 80 (asked_field line) in
    let t = then_ok (both (ends_field line) (both values asked)) _ card e in
    let first = each_of (ends_field line) (both values asked) t.0 t.1 in
    let second = each_of values asked t.0.1 first.1 in
    let v = then_ok (both kind copies) _ t.0.1.0 second.0 in
    let made : BranchCard = record { line = number; «from» = t.0.0.0; to = t.0.0.1; values = t.0.1.0; asked = t.0.1.1 } in
    let is : made ≡ card = cc in
    subst (HasNumbers dt) is (record { ends = ends_are line t.0.0 whole first.0; values = own_are line dt wide v.0.0 v.0.1 t.0.1.0 v.2; few = asked_is line t.0.1.1 second.1 })

pub branch_keeps : (number : ℕ) (line : List ℕ) (dt : ℤ) (wide : Bool) (card : BranchCard) → branch_card number line dt wide ≡ Ok card → HasNumbers dt card
unfolding branch_card
branch_keeps number line dt wide card e = fields_keep number line dt wide card (whole_by number (fault_of_line line) (fields_of number line dt wide) card e) (by number (fault_of_line line) (fields_of number line dt wide) card e)

-- ---- the kind

same_kind : (line : List ℕ) (dt : ℤ) (wide : Bool) (kind : BranchKind) (values : BranchValues) → read_values line dt wide kind ≡ Ok values → kind_of_values values ≡ kind
unfolding resistor_values
same_kind line dt wide SeriesKind values e =
    let t = then_ok (series_values line dt wide) _ values e in
    let is : LumpedCard t.0.r t.0.l t.0.c ≡ values = cc in ap kind_of_values (sym is)
same_kind line dt wide LineKind values e =
    let t = then_ok (line_values line dt) _ values e in
    let is : LineCard t.0.zc t.0.r t.0.delay ≡ values = cc in ap kind_of_values (sym is)
same_kind line dt wide SecondKind values e =
    let t = then_ok (line_values line dt) _ values e in
    let is : SecondCard t.0.zc t.0.r t.0.delay ≡ values = cc in ap kind_of_values (sym is)
same_kind line dt wide ThirdKind values e = let is : ThirdCard ≡ values = cc in ap kind_of_values (sym is)
same_kind line dt wide ReactorKind values e = let is : ReactorCard ≡ values = cc in ap kind_of_values (sym is)
same_kind line dt wide ResistorKind values e =
    let t = then_ok (both (number_or FLASHOVER (pos 0) line) (both (number_or DELAY (pos 0) line) (number_or JUMP (pos 0) line))) _ values e in
    let is : ResistorCard ≡ values = cc in ap kind_of_values (sym is)

own_kind : (line : List ℕ) (dt : ℤ) (wide : Bool) (kind : BranchKind) (copies : Option (Option (List ℕ) × Option (List ℕ))) (values : BranchValues) → own_values line dt wide kind copies ≡ Ok values → kind_of_values values ≡ kind
own_kind line dt wide kind None values e = same_kind line dt wide kind values e
own_kind line dt wide kind (Some names) values e = let is : CopiedCard kind names.0 names.1 ≡ values = cc in ap kind_of_values (sym is)

fields_kind : (number : ℕ) (line : List ℕ) (dt : ℤ) (wide : Bool) (card : BranchCard) → fields_of number line dt wide ≡ Ok card → kind_field line ≡ Ok (kind_of_values card.values)
unfolding fields_of
fields_kind number line dt wide card e =
    let kind = in_column 1 (kind_field line) in
    let copies = copies_of line kind in
    let values = values_of line dt wide kind in
    let asked = in_column 80 (asked_field line) in
    let t = then_ok (both (ends_field line) (both values asked)) _ card e in
    let first = each_of (ends_field line) (both values asked) t.0 t.1 in
    let second = each_of values asked t.0.1 first.1 in
    let v = then_ok (both kind copies) _ t.0.1.0 second.0 in
    let parts = each_of kind copies v.0 v.1 in
    let made : BranchCard = record { line = number; «from» = t.0.0.0; to = t.0.0.1; values = t.0.1.0; asked = t.0.1.1 } in
    let is : made ≡ card = cc in
    let k : kind_field line ≡ Ok v.0.0 = field_of_column 1 (kind_field line) v.0.0 parts.0 in
    subst (λ (c : BranchCard). kind_field line ≡ Ok (kind_of_values c.values)) is (k ∙ ap Ok (sym (own_kind line dt wide v.0.0 v.0.1 t.0.1.0 v.2)))

pub branch_kind_is : (number : ℕ) (line : List ℕ) (dt : ℤ) (wide : Bool) (card : BranchCard) → branch_card number line dt wide ≡ Ok card → kind_field line ≡ Ok (kind_of_values card.values)
unfolding branch_card
branch_kind_is number line dt wide card e = fields_kind number line dt wide card (by number (fault_of_line line) (fields_of number line dt wide) card e)
