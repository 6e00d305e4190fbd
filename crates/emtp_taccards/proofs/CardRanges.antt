-- What the cards of the control keep that aren't refused.
use Rattle.emtp_fix.proofs.Chaining.{then_ok}
use Rattle.std.proofs.Common.{◌≡◌, ◌≢◌, ap, sym, subst, refl, ℕ, ◌+◌, ◌*◌, ◌^◌, ◌≤◌, nat_le, ℤ, pos, neg_ℤ, int_lt, Bool, true, false, ◌||◌, List, [], ◌∷◌, length, Option, Some, None, Result, Ok, Err, IfSome, IfOk, IsSome, IsTrue, All, if◌then◌else◌, unsigned_abs, arith}
use Rattle.std.proofs.lemmas.Int.{ints}
use Rattle.std.specs.Option.{ForSome}
use Rattle.std.specs.Ordering.{int_eq}
use Rattle.emtp_card.specs.Lines.{fault_of_line}
use Rattle.emtp_card.specs.Name.{name_field}
use Rattle.emtp_card.specs.NumberField.{number_of, number_or}
use Rattle.emtp_card.specs.Whole.{whole_field}
use Rattle.emtp_card.specs.held.Number.{IsWithin}
use Rattle.emtp_card.specs.declared.fault.Fault.{Fault}
use Rattle.emtp_card.specs.declared.number_field.NumberField.{NumberField}
use Rattle.emtp_card.specs.declared.reason.Bad.{Bad}
use Rattle.emtp_card.specs.declared.reason.Why.{Why}
use Rattle.emtp_card.specs.declared.reason.Why.TheVariants.{BadName, OutOfUnitRange}
use Rattle.emtp_case.specs.Control.{needs_d}
use Rattle.emtp_case.specs.held.Control.{HasRangeOfA}
use Rattle.emtp_case.specs.held.Name.{IsName}
use Rattle.emtp_case.specs.held.Range.{IsBetween}
use Rattle.emtp_case.specs.held.Source.{HasShapeNumbers}
use Rattle.emtp_case.specs.declared.control.DeviceCode.{DeviceCode}
use Rattle.emtp_case.specs.declared.control.DeviceCode.TheVariants.{Counter, Delay, DelayedPulse, Derivative, EffectiveValue, Extreme, Gate, GateAbove, Integral, PeakHold, SampleHold, Selector, Table, Window}
use Rattle.emtp_case.specs.declared.control.Group.{Group}
use Rattle.emtp_case.specs.declared.source.Shape.{Shape}
use Rattle.emtp_case.specs.declared.source.Shape.TheVariants.{Cosine, NodeVoltage, Pulse, Saw, Step, SwitchCurrent, SwitchStatus}
use Rattle.emtp_case.specs.declared.source.Source.{Source}
use Rattle.emtp_expr.specs.Parsing.{expression_of}
use Rattle.emtp_expr.specs.declared.parsing.Parsed.{Parsed}
use Rattle.emtp_expr.proofs.NamePlaces.{spelled_fits}
use Rattle.emtp_expr.proofs.Texts.{spelled, spelled_whole}
use Rattle.emtp_fix.specs.declared.limit.TheConstants.{LARGEST_TIME, LARGEST_VALUE, PICO}
use Rattle.emtp_netcards.specs.Fields.{needed}
use Rattle.emtp_netcards.specs.Reading.{◌>>=◌, both, card_on, in_column}
use Rattle.emtp_netcards.specs.SourceCard.{active_times, amplitude_field, cosine_numbers, source_of}
use Rattle.emtp_netcards.specs.held.Fields.{IsSmall}
use Rattle.emtp_netcards.specs.declared.source_card.SourceCard.{SourceCard}
use Rattle.emtp_netcards.proofs.FieldRanges.{needed_name, number_is, number_or_is, required_within}
use Rattle.emtp_netcards.proofs.PointRanges.{due_by}
use Rattle.emtp_netcards.proofs.Readings.{by, each_of, field_of_column, whole_by}
use Rattle.emtp_netcards.proofs.SourceRanges.{amplitude_is, cosine_are, times_are}
use Rattle.emtp_taccards.specs.BlockCard as blocks
use Rattle.emtp_taccards.specs.BlockCard.{Limits, are_crossed, block_card, block_record, gain_by, gain_field, in_order, limits_of, order_and_name, order_by, order_field, order_of}
use Rattle.emtp_taccards.specs.DeviceCard as devices
use Rattle.emtp_taccards.specs.DeviceCard.{Coded, a_by, code_field, coded_by, d_by, d_field, delay_field, device_card, device_record, hertz_field, plain_fields, variables_of}
use Rattle.emtp_taccards.specs.FormulaCard as formulas
use Rattle.emtp_taccards.specs.FormulaCard.{equals_field, formula_by, formula_card}
use Rattle.emtp_taccards.specs.Group.{group_field, head_of}
use Rattle.emtp_taccards.specs.Inputs.{four_inputs, input, inputs}
use Rattle.emtp_taccards.specs.PolynomialCard.{coefficient_at, coefficient_field, coefficients, four_of, pair_of, polynomial_card, stays, taken_by, taken_field}
use Rattle.emtp_taccards.specs.TacsSourceCard as signals
use Rattle.emtp_taccards.specs.TacsSourceCard.{Course, Times, cosine_of, driven, level_of, measured, period_field, pulse_of, saw_of, signal_field, source_record, tacs_source_card, value_of, width_field}
use Rattle.emtp_taccards.specs.held.BlockCard.{HasBlockNumbers, HasLimitsInOrder}
use Rattle.emtp_taccards.specs.held.DeviceCard.{HasDeviceNumbers, HasItsD}
use Rattle.emtp_taccards.specs.held.FormulaCard.{IsParsed}
use Rattle.emtp_taccards.specs.held.PolynomialCard.{IsPolynomial}
use Rattle.emtp_taccards.specs.held.TacsSourceCard.{HasTacsSourceNumbers, IsDriven, IsSignal, IsUnresolved}
use Rattle.emtp_taccards.specs.declared.block_card.BlockCard.{BlockCard}
use Rattle.emtp_taccards.specs.declared.block_card.TheConstants.{GAIN, HIGH, LOW}
use Rattle.emtp_taccards.specs.declared.device_card.DeviceCard.{DeviceCard}
use Rattle.emtp_taccards.specs.declared.device_card.TheConstants.{B, C, DELAY, FREQUENCY, PLAIN}
use Rattle.emtp_taccards.specs.declared.formula_card.FormulaCard.{FormulaCard}
use Rattle.emtp_taccards.specs.declared.tacs_source_card.Signal.{Signal}
use Rattle.emtp_taccards.specs.declared.tacs_source_card.TheConstants.{PERIOD, WIDTH}
use Rattle.emtp_taccards.specs.declared.tacs_source_card.Signal.TheVariants.{Cosine as CosineSignal, Level, NodeVoltage as OfNode, Pulse as PulseSignal, Saw as SawSignal, SwitchCurrent as OfSwitch, SwitchStatus as StatusOfSwitch}
use Rattle.emtp_taccards.proofs.Coefficients.{card_kept, eight}

-- ---- inputs

five : (line : List ℕ) (xs : List (Option (Bool × List ℕ))) → inputs line ≡ Ok xs → length xs ≡ 5
unfolding inputs
five line xs e =
    let t = then_ok (both (four_inputs line) (input line 43)) _ xs e in
    let is : (t.0.0.0.0 ∷ t.0.0.0.1 ∷ t.0.0.1.0 ∷ t.0.0.1.1 ∷ t.0.1 ∷ []) ≡ xs = cc in
    ap length (sym is)

-- ---- blocks

order_is : (n : ℤ) (x : ℕ) → order_of n ≡ Ok x → x ≤ 7
order_is n x e = go (int_lt n (pos 0)) (int_lt (pos 7) n) refl refl e
  where
    answer : Bool → Bool → Result ℕ Why
    answer low high = if low || high then Err OutOfUnitRange else Ok (unsigned_abs n)

    go : (low high : Bool) → int_lt n (pos 0) ≡ low → int_lt (pos 7) n ≡ high → answer low high ≡ Ok x → x ≤ 7
    go true high l h e = absurd (cc)
    go false true l h e = absurd (cc)
    go false false l h e = let is : unsigned_abs n ≡ x = cc in subst (λ y. y ≤ 7) is (omega (arith, ints, l, h))

order_by_is : (read : Result (Option ℤ) Why) (x : ℕ) → order_by read ≡ Ok x → x ≤ 7
order_by_is (Ok None) x e = let is : 0 ≡ x = cc in omega (arith, is)
order_by_is (Ok (Some n)) x e = order_is n x e
order_by_is (Err why) x e = absurd (cc)

pub nonzero : (g : ℤ) → int_eq g (pos 0) ≡ false → g ≢ pos 0
nonzero g e same = let no : true ≡ false = subst (λ z. int_eq z (pos 0) ≡ false) same e in absurd (cc)

gain_is : (read : Result ℤ Fault) (x : ℤ) → ((y : ℤ) → read ≡ Ok y → IsSmall y) → gain_by read ≡ Ok x → (x ≢ pos 0) × IsSmall x
gain_is (Ok g) x small e = go (int_eq g (pos 0)) refl e
  where
    answer : Bool → Result ℤ Fault
    answer none = Ok (if none then PICO else g)

    go : (none : Bool) → int_eq g (pos 0) ≡ none → answer none ≡ Ok x → (x ≢ pos 0) × IsSmall x
    go true n e = let is : PICO ≡ x = cc in subst (λ z. (z ≢ pos 0) × IsSmall z) is (nonzero PICO refl, omega arith)
    go false n e = let is : g ≡ x = cc in subst (λ z. (z ≢ pos 0) × IsSmall z) is (nonzero g n, small g refl)
gain_is (Err fault) x small e = absurd (cc)

limit_is : (f : NumberField) → f.low ≡ neg_ℤ (pos LARGEST_VALUE) → f.high ≡ pos LARGEST_VALUE → (line : List ℕ) (field : Option ℤ) → number_of f line ≡ Ok field → ForSome field IsSmall
limit_is f low high line field e = go field (number_is f line field e)
  where
    go : (field : Option ℤ) → IfSome field (IsWithin f.low f.high) → ForSome field IsSmall
    go (Some y) w x h = let is : y ≡ x = cc in subst IsSmall is (omega (arith, ints, low, high, w.least, w.most))
    go None w x h = absurd (cc)

-- a number of either sign, to 10^18 in magnitude
signed_is : (f : NumberField) → f.low ≡ neg_ℤ (pos LARGEST_VALUE) → f.high ≡ pos LARGEST_VALUE → (line : List ℕ) (x : ℤ) → number_or f (pos 0) line ≡ Ok x → IsSmall x
signed_is f low high line x e =
    let w = number_or_is f (pos 0) line x (record { least = omega (arith, ints, low); most = omega (arith, ints, high) }) e in
    omega (arith, ints, low, high, w.least, w.most)

ordered : (low high : Option ℤ) (low_name high_name : Option (List ℕ)) (l : Limits) → in_order low high low_name high_name ≡ Ok l → (((low, high), (low_name, high_name)) ≡ l) × (are_crossed low high low_name high_name ≡ false)
ordered low high low_name high_name l e = go (are_crossed low high low_name high_name) refl e
  where
    answer : Bool → Result Limits Fault
    answer crossed = if crossed then Err (record { column = 57; why = OutOfUnitRange }) else Ok ((low, high), (low_name, high_name))

    go : (crossed : Bool) → are_crossed low high low_name high_name ≡ crossed → answer crossed ≡ Ok l → (((low, high), (low_name, high_name)) ≡ l) × (are_crossed low high low_name high_name ≡ false)
    go true c e = absurd (cc)
    go false c e = let is : ((low, high), (low_name, high_name)) ≡ l = cc in (is, c)

pub record AreLimits (l : Limits) : Type 0 where
  pub low : ForSome l.0.0 IsSmall
  pub high : ForSome l.0.1 IsSmall
  pub order : are_crossed l.0.0 l.0.1 l.1.0 l.1.1 ≡ false

limits_are : (line : List ℕ) (l : Limits) → limits_of line ≡ Ok l → AreLimits l
unfolding limits_of
limits_are line l e =
    let low = number_of LOW line in
    let high = number_of HIGH line in
    let names = both (in_column 69 (name_field line 69)) (in_column 75 (name_field line 75)) in
    let t = then_ok (both (both low high) names) _ l e in
    let halves = each_of (both low high) names t.0 t.1 in
    let parts = each_of low high t.0.0 halves.0 in
    let o = ordered t.0.0.0 t.0.0.1 t.0.1.0 t.0.1.1 l t.2 in
    subst AreLimits o.0 (record {
      low = limit_is LOW refl refl line t.0.0.0 parts.0;
      high = limit_is HIGH refl refl line t.0.0.1 parts.1;
      order = o.1;
    })

pub record IsBlockRead (card : BlockCard) : Type 0 where
  pub name : IsName card.name
  pub numbers : HasBlockNumbers card
  pub limits : HasLimitsInOrder card
  pub inputs : length card.inputs ≡ 5

block_fields : (number : ℕ) (line : List ℕ) (card : BlockCard) → fault_of_line line ≡ None → blocks.fields_of number line ≡ Ok card → IsBlockRead card
unfolding blocks.fields_of order_and_name
block_fields number line card whole e =
    let order = in_column 1 (order_field line) in
    let name = in_column 3 (needed (name_field line 3)) in
    let gain = gain_field line in
    let t = then_ok (both (both (order_and_name line) (inputs line)) (both gain (limits_of line))) _ card e in
    let halves = each_of (both (order_and_name line) (inputs line)) (both gain (limits_of line)) t.0 t.1 in
    let front = each_of (order_and_name line) (inputs line) t.0.0 halves.0 in
    let back = each_of gain (limits_of line) t.0.1 halves.1 in
    let head = each_of order name t.0.0.0 front.0 in
    let g = gain_is (number_or GAIN (pos 0) line) t.0.1.0 (signed_is GAIN refl refl line) back.0 in
    let l = limits_are line t.0.1.1 back.1 in
    let made = block_record number t.0.0.0 t.0.0.1 t.0.1.0 t.0.1.1 in
    let is : made ≡ card = cc in
    subst IsBlockRead is (record {
      name = needed_name line 3 t.0.0.0.1 whole (field_of_column 3 _ t.0.0.0.1 head.1);
      numbers = record { order = order_by_is (whole_field line 1 2) t.0.0.0.0 (field_of_column 1 _ t.0.0.0.0 head.0); some_gain = g.0; gain = g.1; low = l.low; high = l.high };
      limits = l.order;
      inputs = five line t.0.0.1 front.1;
    })

pub block_keeps : (number : ℕ) (line : List ℕ) (card : BlockCard) → block_card number line ≡ Ok card → IsBlockRead card
unfolding block_card
block_keeps number line card e = block_fields number line card (whole_by number (fault_of_line line) (blocks.fields_of number line) card e) (by number (fault_of_line line) (blocks.fields_of number line) card e)

-- ---- polynomials

coefficient_small : (line : List ℕ) (order power : ℕ) (x : ℤ) → coefficient_field line order power ≡ Ok x → IsSmall x
coefficient_small line order power x e = go (nat_le power order) e
  where
    answer : Bool → Result ℤ Fault
    answer has = if has then number_or (coefficient_at power) (pos 0) line else Ok (pos 0)

    go : (has : Bool) → answer has ≡ Ok x → IsSmall x
    go true e = signed_is (coefficient_at power) refl refl line x e
    go false e = let is : pos 0 ≡ x = cc in subst IsSmall is (omega arith)

taken_small : (dt : ℤ) (power : ℕ) (read : Result ℤ Fault) (x : ℤ) → ((y : ℤ) → read ≡ Ok y → IsSmall y) → taken_by dt power read ≡ Ok x → IsSmall x
unfolding taken_by
taken_small dt power (Ok y) x small e = go (stays dt y power) e
  where
    answer : Bool → Result ℤ Fault
    answer fit = if fit then Ok y else Err (record { column = 10 * power + 1; why = OutOfUnitRange })

    go : (fit : Bool) → answer fit ≡ Ok x → IsSmall x
    go true e = let is : y ≡ x = cc in subst IsSmall is (small y refl)
    go false e = absurd (cc)
taken_small dt power (Err fault) x small e = absurd (cc)

in_small : (line : List ℕ) (order : ℕ) (dt : ℤ) (power : ℕ) (x : ℤ) → taken_field line order dt power ≡ Ok x → IsSmall x
in_small line order dt power x e = taken_small dt power (coefficient_field line order power) x (coefficient_small line order power) e

pair_small : (line : List ℕ) (order : ℕ) (dt : ℤ) (power : ℕ) (p : ℤ × ℤ) → pair_of line order dt power ≡ Ok p → IsSmall p.0 × IsSmall p.1
unfolding pair_of
pair_small line order dt power p e =
    let parts = each_of (taken_field line order dt power) (taken_field line order dt (power + 1)) p e in
    (in_small line order dt power p.0 parts.0, in_small line order dt (power + 1) p.1 parts.1)

coefficients_small : (line : List ℕ) (order : ℕ) (dt : ℤ) (xs : List ℤ) → coefficients line order dt ≡ Ok xs → All IsSmall xs
unfolding coefficients four_of
coefficients_small line order dt xs e =
    let low = both (pair_of line order dt 0) (pair_of line order dt 2) in
    let high = both (pair_of line order dt 4) (pair_of line order dt 6) in
    let t = then_ok (both low high) _ xs e in
    let halves = each_of low high t.0 t.1 in
    let first = each_of (pair_of line order dt 0) (pair_of line order dt 2) t.0.0 halves.0 in
    let last = each_of (pair_of line order dt 4) (pair_of line order dt 6) t.0.1 halves.1 in
    let a = pair_small line order dt 0 t.0.0.0 first.0 in
    let b = pair_small line order dt 2 t.0.0.1 first.1 in
    let c = pair_small line order dt 4 t.0.1.0 last.0 in
    let d = pair_small line order dt 6 t.0.1.1 last.1 in
    let is : (t.0.0.0.0 ∷ t.0.0.0.1 ∷ t.0.0.1.0 ∷ t.0.0.1.1 ∷ t.0.1.0.0 ∷ t.0.1.0.1 ∷ t.0.1.1.0 ∷ t.0.1.1.1 ∷ []) ≡ xs = cc in
    subst (All IsSmall) is (eight IsSmall t.0.0.0.0 t.0.0.0.1 t.0.0.1.0 t.0.0.1.1 t.0.1.0.0 t.0.1.0.1 t.0.1.1.0 t.0.1.1.1 a.0 a.1 b.0 b.1 c.0 c.1 d.0 d.1)

pub polynomial_keeps : (number : ℕ) (line : List ℕ) (order : ℕ) (dt : ℤ) (xs : List ℤ) → polynomial_card number line order dt ≡ Ok xs → IsPolynomial dt order xs
unfolding polynomial_card
polynomial_keeps number line order dt xs e =
    let read = due_by number line (coefficients line order dt) xs e in
    card_kept dt line order (Ok xs) (coefficients line order dt) refl (subst (λ (r : Result (List ℤ) Fault). IfOk r (All IsSmall)) (sym read) (coefficients_small line order dt xs read)) read

-- ---- devices

delay_is : (line : List ℕ) (x : ℤ) → delay_field line ≡ Ok x → IsBetween 0 LARGEST_TIME x
delay_is line x e =
    let zero : IsWithin (pos 0) (pos LARGEST_TIME) (pos 0) = record { least = omega (arith, ints); most = omega (arith, ints) } in
    let w : IsWithin (pos 0) (pos LARGEST_TIME) x = number_or_is DELAY (pos 0) line x zero e in
    record { least = w.least; most = w.most }

hertz_is : (line : List ℕ) (x : ℤ) → hertz_field line ≡ Ok x → IsBetween 1 (10 ^ 13) x
hertz_is line x e =
    let w : IsWithin (pos 1) (pos (10 ^ 13)) x = required_within FREQUENCY line x e in
    record { least = w.least; most = w.most }

a_is : (line : List ℕ) (code : DeviceCode) (x : ℤ) → a_by line code ≡ Ok x → HasRangeOfA code x
a_is line Gate x e = record { small = signed_is PLAIN refl refl line x e; delay = λ c. absurd (cc); delayed_pulse = λ c. absurd (cc); frequency = λ c. absurd (cc) }
a_is line GateAbove x e = record { small = signed_is PLAIN refl refl line x e; delay = λ c. absurd (cc); delayed_pulse = λ c. absurd (cc); frequency = λ c. absurd (cc) }
a_is line Delay x e = let w = delay_is line x e in record { small = omega (arith, ints, w.least, w.most); delay = λ c. w.least; delayed_pulse = λ c. absurd (cc); frequency = λ c. absurd (cc) }
a_is line DelayedPulse x e = let w = delay_is line x e in record { small = omega (arith, ints, w.least, w.most); delay = λ c. absurd (cc); delayed_pulse = λ c. w.least; frequency = λ c. absurd (cc) }
a_is line Table x e = record { small = signed_is PLAIN refl refl line x e; delay = λ c. absurd (cc); delayed_pulse = λ c. absurd (cc); frequency = λ c. absurd (cc) }
a_is line Window x e = record { small = signed_is PLAIN refl refl line x e; delay = λ c. absurd (cc); delayed_pulse = λ c. absurd (cc); frequency = λ c. absurd (cc) }
a_is line Integral x e = record { small = signed_is PLAIN refl refl line x e; delay = λ c. absurd (cc); delayed_pulse = λ c. absurd (cc); frequency = λ c. absurd (cc) }
a_is line Derivative x e = record { small = signed_is PLAIN refl refl line x e; delay = λ c. absurd (cc); delayed_pulse = λ c. absurd (cc); frequency = λ c. absurd (cc) }
a_is line Selector x e = record { small = signed_is PLAIN refl refl line x e; delay = λ c. absurd (cc); delayed_pulse = λ c. absurd (cc); frequency = λ c. absurd (cc) }
a_is line SampleHold x e = record { small = signed_is PLAIN refl refl line x e; delay = λ c. absurd (cc); delayed_pulse = λ c. absurd (cc); frequency = λ c. absurd (cc) }
a_is line Extreme x e = record { small = signed_is PLAIN refl refl line x e; delay = λ c. absurd (cc); delayed_pulse = λ c. absurd (cc); frequency = λ c. absurd (cc) }
a_is line PeakHold x e = record { small = signed_is PLAIN refl refl line x e; delay = λ c. absurd (cc); delayed_pulse = λ c. absurd (cc); frequency = λ c. absurd (cc) }
a_is line Counter x e = record { small = signed_is PLAIN refl refl line x e; delay = λ c. absurd (cc); delayed_pulse = λ c. absurd (cc); frequency = λ c. absurd (cc) }
a_is line EffectiveValue x e = let w = hertz_is line x e in record { small = omega (arith, ints, w.least, w.most); delay = λ c. absurd (cc); delayed_pulse = λ c. absurd (cc); frequency = λ c. w }

d_is : (code : DeviceCode) (name d : Option (List ℕ)) → d_by code name ≡ Ok d → IsTrue (needs_d code) → IsSome d
d_is code None d e needs = go (needs_d code) needs e
  where
    answer : Bool → Result (Option (List ℕ)) Fault
    answer has = if has then Err (record { column = 69; why = BadName }) else Ok None

    go : (has : Bool) → IsTrue has → answer has ≡ Ok d → IsSome d
    go true n e = absurd (cc)
    go false n e = absurd (cc)
d_is code (Some name) d e needs = let is : Some name ≡ d = cc in subst IsSome is refl

pub record IsCoded (c : Coded) : Type 0 where
  pub a : HasRangeOfA c.0 c.1.0
  pub d : IsTrue (needs_d c.0) → IsSome c.1.1

coded_is : (line : List ℕ) (code : DeviceCode) (c : Coded) → coded_by line code ≡ Ok c → IsCoded c
unfolding coded_by
coded_is line code c e =
    let a = a_by line code in
    let t = then_ok (both a (d_field line code)) _ c e in
    let parts = each_of a (d_field line code) t.0 t.1 in
    let n = then_ok (in_column 69 (name_field line 69)) (d_by code) t.0.1 parts.1 in
    let is : (code, (t.0.0, t.0.1)) ≡ c = cc in
    subst IsCoded is (record { a = a_is line code t.0.0 parts.0; d = d_is code n.0 t.0.1 n.2 })

pub record IsDeviceRead (card : DeviceCard) : Type 0 where
  pub name : IsName card.name
  pub numbers : HasDeviceNumbers card
  pub d : HasItsD card
  pub inputs : length card.inputs ≡ 5

device_fields : (number : ℕ) (line : List ℕ) (card : DeviceCard) → fault_of_line line ≡ None → devices.fields_of number line ≡ Ok card → IsDeviceRead card
unfolding devices.fields_of head_of variables_of plain_fields
device_fields number line card whole e =
    let name = in_column 3 (needed (name_field line 3)) in
    let coded = in_column 9 (code_field line) >>= coded_by line in
    let t = then_ok (both (both (head_of line) coded) (both (variables_of line) (plain_fields line))) _ card e in
    let halves = each_of (both (head_of line) coded) (both (variables_of line) (plain_fields line)) t.0 t.1 in
    let front = each_of (head_of line) coded t.0.0 halves.0 in
    let back = each_of (variables_of line) (plain_fields line) t.0.1 halves.1 in
    let head = each_of (in_column 1 (group_field line)) name t.0.0.0 front.0 in
    let code = then_ok (in_column 9 (code_field line)) (coded_by line) t.0.0.1 front.1 in
    let c = coded_is line code.0 t.0.0.1 code.2 in
    let ins = each_of (inputs line) (in_column 75 (name_field line 75)) t.0.1.0 back.0 in
    let plain = each_of (number_or B (pos 0) line) (number_or C (pos 0) line) t.0.1.1 back.1 in
    let made = device_record number t.0.0.0 t.0.0.1 t.0.1.0 t.0.1.1 in
    let is : made ≡ card = cc in
    subst IsDeviceRead is (record {
      name = needed_name line 3 t.0.0.0.1 whole (field_of_column 3 _ t.0.0.0.1 head.1);
      numbers = record { a = c.a; b = signed_is B refl refl line t.0.1.1.0 plain.0; c = signed_is C refl refl line t.0.1.1.1 plain.1 };
      d = c.d;
      inputs = five line t.0.1.0.0 ins.0;
    })

pub device_keeps : (number : ℕ) (line : List ℕ) (card : DeviceCard) → device_card number line ≡ Ok card → IsDeviceRead card
unfolding device_card
device_keeps number line card e = device_fields number line card (whole_by number (fault_of_line line) (devices.fields_of number line) card e) (by number (fault_of_line line) (devices.fields_of number line) card e)

-- ---- formulas

pub record IsFormulaRead (card : FormulaCard) : Type 0 where
  pub name : IsName card.name
  pub parsed : IsParsed card.parsed

parsed_is : (text : List ℕ) (f : Parsed) → expression_of text ≡ Ok f → IsParsed f
parsed_is text f e = let s = spelled text f e in record { places = spelled_fits text f s; whole = spelled_whole text f s }

head_name : (line : List ℕ) (head : Group × List ℕ) → fault_of_line line ≡ None → formulas.fields_of line ≡ Ok head → IsName head.1
unfolding formulas.fields_of head_of
head_name line head whole e =
    let equals = in_column 11 (equals_field line) in
    let name = in_column 3 (needed (name_field line 3)) in
    let t = then_ok (both (head_of line) equals) _ head e in
    let parts = each_of (head_of line) equals t.0 t.1 in
    let h = each_of (in_column 1 (group_field line)) name t.0.0 parts.0 in
    let is : t.0.0 ≡ head = cc in
    subst (λ (x : Group × List ℕ). IsName x.1) is (needed_name line 3 t.0.0.1 whole (field_of_column 3 _ t.0.0.1 h.1))

formula_by_is : (number : ℕ) (line text : List ℕ) (head : Result (Group × List ℕ) Bad) (parsed : Result Parsed ℕ) (card : FormulaCard) → ((h : Group × List ℕ) → head ≡ Ok h → IsName h.1) → ((f : Parsed) → parsed ≡ Ok f → IsParsed f)
    → formula_by number head parsed ≡ Ok card → IsFormulaRead card
formula_by_is number line text (Ok head) (Ok f) card name fit e =
    let made : FormulaCard = record { line = number; name = head.1; group = head.0; parsed = f } in
    let is : made ≡ card = cc in
    subst IsFormulaRead is (record { name = name head refl; parsed = fit f refl })
formula_by_is number line text (Ok head) (Err column) card name fit e = absurd (cc)
formula_by_is number line text (Err bad) parsed card name fit e = absurd (cc)

pub formula_keeps : (number : ℕ) (line text : List ℕ) (card : FormulaCard) → formula_card number line (expression_of text) ≡ Ok card → IsFormulaRead card
unfolding formula_card
formula_keeps number line text card e = formula_by_is number line text (card_on number line (formulas.fields_of line)) (expression_of text) card
    (λ h r. head_name line h (whole_by number (fault_of_line line) (formulas.fields_of line) h r) (by number (fault_of_line line) (formulas.fields_of line) h r))
    (parsed_is text) e

-- ---- sources of the control

period_is : (line : List ℕ) (x : ℤ) → period_field line ≡ Ok x → IsBetween 1 LARGEST_TIME x
period_is line x e =
    let w : IsWithin (pos 1) (pos LARGEST_TIME) x = required_within PERIOD line x e in
    record { least = w.least; most = w.most }

width_is : (line : List ℕ) (x : ℤ) → width_field line ≡ Ok x → IsBetween 1 LARGEST_TIME x
width_is line x e =
    let w : IsWithin (pos 1) (pos LARGEST_TIME) x = required_within WIDTH line x e in
    record { least = w.least; most = w.most }

level_is : (line : List ℕ) (course : Course) → level_of line ≡ Ok course → IsDriven course
unfolding level_of
level_is line course e =
    let t = then_ok (amplitude_field line) _ course e in
    let is : (Step, t.0) ≡ course = cc in
    subst IsDriven is (record { small = amplitude_is line t.0 t.1; shape = tt; numbers = λ s. tt })

cosine_is : (line : List ℕ) (course : Course) → cosine_of line ≡ Ok course → IsDriven course
unfolding cosine_of
cosine_is line course e =
    let t = then_ok (both (amplitude_field line) (cosine_numbers line)) _ course e in
    let parts = each_of (amplitude_field line) (cosine_numbers line) t.0 t.1 in
    let is : (Cosine t.0.1.0 t.0.1.1, t.0.0) ≡ course = cc in
    subst IsDriven is (record { small = amplitude_is line t.0.0 parts.0; shape = tt; numbers = λ s. cosine_are line t.0.1 parts.1 })

pulse_is : (line : List ℕ) (course : Course) → pulse_of line ≡ Ok course → IsDriven course
unfolding pulse_of
pulse_is line course e =
    let period = period_field line in
    let width = width_field line in
    let t = then_ok (both (amplitude_field line) (both period width)) _ course e in
    let parts = each_of (amplitude_field line) (both period width) t.0 t.1 in
    let p = each_of period width t.0.1 parts.1 in
    let is : (Pulse t.0.1.0 t.0.1.1, t.0.0) ≡ course = cc in
    subst IsDriven is (record { small = amplitude_is line t.0.0 parts.0; shape = tt; numbers = λ s. (period_is line t.0.1.0 p.0, width_is line t.0.1.1 p.1) })

saw_is : (line : List ℕ) (course : Course) → saw_of line ≡ Ok course → IsDriven course
unfolding saw_of
saw_is line course e =
    let period = period_field line in
    let t = then_ok (both (amplitude_field line) period) _ course e in
    let parts = each_of (amplitude_field line) period t.0 t.1 in
    let is : (Saw t.0.1, t.0.0) ≡ course = cc in
    subst IsDriven is (record { small = amplitude_is line t.0.0 parts.0; shape = tt; numbers = λ s. period_is line t.0.1 parts.1 })

driven_is : (line : List ℕ) (course : Result Course Fault) (v : Course × Times) → ((c : Course) → course ≡ Ok c → IsDriven c) → driven line course ≡ Ok v → IsSignal v.0 v.1
driven_is line course v all e =
    let parts = each_of course (active_times line) v e in
    let c = all v.0 parts.0 in
    let t = times_are line v.1 parts.1 in
    record { small = c.small; start = t.0; stop = t.1; shape = c.shape; numbers = λ s a b d. c.numbers s }

measured_is : (shape : Shape) (v : Course × Times) → IsUnresolved shape → ((s : Source) → s.amplitude ≡ pos 0 → s.start ≡ pos 0 → s.stop ≡ None → HasShapeNumbers s shape) → measured shape ≡ Ok v → IsSignal v.0 v.1
measured_is shape v un all e =
    let is : ((shape, pos 0), (pos 0, None)) ≡ v = cc in
    subst (λ (x : Course × Times). IsSignal x.0 x.1) is (record { small = omega arith; start = omega arith; stop = λ x h. absurd (cc); shape = un; numbers = all })

value_is : (line : List ℕ) (signal : Signal) (v : Course × Times) → value_of line signal ≡ Ok v → IsSignal v.0 v.1
value_is line Level v e = driven_is line (level_of line) v (level_is line) e
value_is line CosineSignal v e = driven_is line (cosine_of line) v (cosine_is line) e
value_is line PulseSignal v e = driven_is line (pulse_of line) v (pulse_is line) e
value_is line SawSignal v e = driven_is line (saw_of line) v (saw_is line) e
value_is line OfNode v e = measured_is (NodeVoltage 0) v refl (λ s a b c. record { amplitude = a; start = b; stop = c }) e
value_is line OfSwitch v e = measured_is (SwitchCurrent 0) v refl (λ s a b c. record { amplitude = a; start = b; stop = c }) e
value_is line StatusOfSwitch v e = measured_is (SwitchStatus 0) v refl (λ s a b c. record { amplitude = a; start = b; stop = c }) e

pub record IsTacsSourceRead (card : SourceCard) : Type 0 where
  pub name : IsName card.name
  pub numbers : HasTacsSourceNumbers card

source_fields : (number : ℕ) (line : List ℕ) (card : SourceCard) → fault_of_line line ≡ None → signals.fields_of number line ≡ Ok card → IsTacsSourceRead card
unfolding signals.fields_of
source_fields number line card whole e =
    let name = in_column 3 (needed (name_field line 3)) in
    let signal = in_column 1 (signal_field line) >>= value_of line in
    let t = then_ok (both name signal) _ card e in
    let parts = each_of name signal t.0 t.1 in
    let s = then_ok (in_column 1 (signal_field line)) (value_of line) t.0.1 parts.1 in
    let v = value_is line s.0 t.0.1 s.2 in
    let made = source_record number t.0.0 t.0.1.0 t.0.1.1 in
    let is : made ≡ card = cc in
    subst IsTacsSourceRead is (record {
      name = needed_name line 3 t.0.0 whole (field_of_column 3 _ t.0.0 parts.0);
      numbers = record {
        no_current = refl;
        numbers = record { amplitude = v.small; start = v.start; stop = v.stop; shape = v.numbers (source_of made) refl refl refl };
        shape = v.shape;
      };
    })

pub tacs_source_keeps : (number : ℕ) (line : List ℕ) (card : SourceCard) → tacs_source_card number line ≡ Ok card → IsTacsSourceRead card
unfolding tacs_source_card
tacs_source_keeps number line card e = source_fields number line card (whole_by number (fault_of_line line) (signals.fields_of number line) card e) (by number (fault_of_line line) (signals.fields_of number line) card e)
