-- Two lines without a faulty byte that agree under the ruler of one of them give the same source of the control.
use Rattle.std.proofs.Common.{◌≡◌, ◌∙◌, sym, ap, subst, refl, ℕ, true, List, lit≤}
use Rattle.std.specs.Prelude.{ℤ, Option, Result, Ok, Err}
use Rattle.emtp_card.proofs.LineEnds.{trailing-alike}
use Rattle.emtp_card.specs.Field.{without_trailing}
use Rattle.emtp_card.specs.Lines.{fault_of_line}
use Rattle.emtp_card.specs.Name.{name_field}
use Rattle.emtp_card.specs.declared.fault.Fault.{Fault}
use Rattle.emtp_card.specs.declared.reason.Bad.{Bad}
use Rattle.emtp_card.specs.declared.reason.Why.{Why}
use Rattle.emtp_case.specs.declared.source.Shape.{Shape}
use Rattle.emtp_case.specs.declared.source.Shape.TheVariants.{Cosine, NodeVoltage, Pulse, Ramp, Saw, Step, SwitchCurrent, SwitchStatus, Tacs}
use Rattle.emtp_netcards.proofs.Readings.{by, each_of, made_of}
use Rattle.emtp_netcards.specs.Fields.{needed}
use Rattle.emtp_netcards.specs.Reading.{both, in_column}
use Rattle.emtp_netcards.specs.held.Reading.{judged}
use Rattle.emtp_netcards.specs.SourceCard.{cosine_numbers}
use Rattle.emtp_netcards.specs.declared.source_card.SourceCard.{SourceCard}
use Rattle.emtp_taccards.proofs.LineEnds.{tacs_source_alike}
use Rattle.emtp_taccards.proofs.Signals.{same_by_shape}
use Rattle.emtp_taccards.specs.TacsSourceCard as sources
use Rattle.emtp_taccards.specs.TacsSourceCard.{Course, Times, cosine_of, driven, level_of, pulse_of, saw_of, signal_by, signal_field, source_record, tacs_source_card, value_of}
use Rattle.emtp_warnings.proofs.Agreeing.{has_field, name_under, number_under, whole_under}
use Rattle.emtp_warnings.proofs.ExtraCards.{same_everywhere, trailing_same}
use Rattle.emtp_warnings.proofs.NetworkCards.{active_under}
use Rattle.emtp_warnings.specs.Law.{AgreeUnder, AreFaultless}
use Rattle.emtp_warnings.specs.Marked.{ruler_of_shape, tacs_source_ruler}
use Rattle.emtp_warnings.specs.declared.rulers.TheConstants.{FREE, LEVEL, PULSE, SAW, TACS_COSINE}

-- ---- what was read

-- what the type asked for, of a card that isn't refused
typed_value : (number : ℕ) (line : List ℕ) (card : SourceCard) (P : Type 0) → tacs_source_card number line ≡ Ok card
    → ((value : Course × Times) → judged (in_column 1 (signal_field line)) (value_of line) ≡ Ok value → value.0.0 ≡ card.shape → P) → P
unfolding tacs_source_card sources.fields_of
typed_value number line card P e so =
    let name = in_column 3 (needed (name_field line 3)) in
    let signal = judged (in_column 1 (signal_field line)) (value_of line) in
    let record_of : List ℕ × (Course × Times) → SourceCard = λ p. source_record number p.0 p.1.0 p.1.1 in
    made_of P (both name signal) record_of card (by number (fault_of_line line) _ card e) (λ p read same. so p.1 (each_of name signal p read).1 (ap (λ (c : SourceCard). c.shape) same))

-- each ruler of a source marks its type and its name
marks_type : (shape : Shape) → has_field (ruler_of_shape shape) 1 2 ≡ true
marks_type Step = refl
marks_type (Ramp rise) = refl
marks_type (Cosine freq phase) = refl
marks_type (Tacs var) = refl
marks_type (Pulse period width) = refl
marks_type (Saw period) = refl
marks_type (NodeVoltage node) = refl
marks_type (SwitchCurrent switch) = refl
marks_type (SwitchStatus switch) = refl

marks_name : (shape : Shape) → has_field (ruler_of_shape shape) 3 8 ≡ true
marks_name Step = refl
marks_name (Ramp rise) = refl
marks_name (Cosine freq phase) = refl
marks_name (Tacs var) = refl
marks_name (Pulse period width) = refl
marks_name (Saw period) = refl
marks_name (NodeVoltage node) = refl
marks_name (SwitchCurrent switch) = refl
marks_name (SwitchStatus switch) = refl

module _ (x y : List ℕ) (sound : AreFaultless x y) where
  same_fault : fault_of_line x ≡ fault_of_line y
  same_fault = sound.one ∙ sym sound.other

  -- ---- a card, from its fields

  source_read : (number : ℕ) → name_field x 3 ≡ name_field y 3 → judged (in_column 1 (signal_field x)) (value_of x) ≡ judged (in_column 1 (signal_field y)) (value_of y)
      → tacs_source_card number x ≡ tacs_source_card number y
  unfolding tacs_source_card sources.fields_of
  source_read number name value = simp (same_fault, name, value)

  -- ---- each type

  driven_under : (ruler : List ℕ) → AgreeUnder ruler x y → has_field ruler 61 70 ≡ true → has_field ruler 71 80 ≡ true → (a b : Result Course Fault) → a ≡ b → driven x a ≡ driven y b
  driven_under ruler h start stop a b course =
      ap (λ (c : Result Course Fault). driven x c) course ∙ ap (λ (t : Result Times Fault). both b t) (active_under x y sound ruler h start stop)

  level_under : AgreeUnder LEVEL.now x y → level_of x ≡ level_of y
  unfolding level_of
  level_under h = simp (number_under LEVEL.now x y h 11 20 refl)

  cosine_under : AgreeUnder TACS_COSINE.now x y → cosine_of x ≡ cosine_of y
  unfolding cosine_of cosine_numbers
  cosine_under h =
      simp (number_under TACS_COSINE.now x y h 11 20 refl, number_under TACS_COSINE.now x y h 21 30 refl, number_under TACS_COSINE.now x y h 31 40 refl, number_under TACS_COSINE.now x y h 41 50 refl)

  pulse_under : AgreeUnder PULSE.now x y → pulse_of x ≡ pulse_of y
  unfolding pulse_of
  pulse_under h = simp (number_under PULSE.now x y h 11 20 refl, number_under PULSE.now x y h 21 30 refl, number_under PULSE.now x y h 31 40 refl)

  saw_under : AgreeUnder SAW.now x y → saw_of x ≡ saw_of y
  unfolding saw_of
  saw_under h = simp (number_under SAW.now x y h 11 20 refl, number_under SAW.now x y h 21 30 refl)

  source_by_value : (number : ℕ) (value : Course × Times) → judged (in_column 1 (signal_field x)) (value_of x) ≡ Ok value → AgreeUnder (ruler_of_shape value.0.0) x y → tacs_source_card number x ≡ tacs_source_card number y
  source_by_value number value read h =
      let ruler = ruler_of_shape value.0.0 in
      source_read number (name_under ruler x y h 3 (marks_name value.0.0))
      (same_by_shape x y (λ (s : Shape). AgreeUnder (ruler_of_shape s) x y)
      (λ h. driven_under LEVEL.now h refl refl (level_of x) (level_of y) (level_under h))
      (λ freq phase h. driven_under TACS_COSINE.now h refl refl (cosine_of x) (cosine_of y) (cosine_under h))
      (λ period width h. driven_under PULSE.now h refl refl (pulse_of x) (pulse_of y) (pulse_under h))
      (λ period h. driven_under SAW.now h refl refl (saw_of x) (saw_of y) (saw_under h))
      (signal_field x) value read h
      ∙ ap (λ (t : Result (Option ℤ) Why). judged (in_column 1 (signal_by t)) (value_of y)) (whole_under ruler x y h 1 2 (marks_type value.0.0)))

  -- ---- the card

  refused : (number : ℕ) → AgreeUnder FREE.now x y → tacs_source_card number x ≡ tacs_source_card number y
  refused number h =
      tacs_source_alike x (without_trailing x) (trailing-alike x) number
      ∙ ap (tacs_source_card number) (trailing_same x y (same_everywhere x y sound FREE.now (lit≤ tt) refl h))
      ∙ sym (tacs_source_alike y (without_trailing y) (trailing-alike y) number)

  source_by : (number : ℕ) (card : Result SourceCard Bad) → tacs_source_card number x ≡ card → AgreeUnder (tacs_source_ruler card) x y → tacs_source_card number x ≡ tacs_source_card number y
  source_by number (Ok card) is h =
      typed_value number x card (tacs_source_card number x ≡ tacs_source_card number y) is (λ value read shape.
      source_by_value number value read (subst (λ (s : Shape). AgreeUnder (ruler_of_shape s) x y) (sym shape) h))
  source_by number (Err bad) is h = refused number h

  pub tacs_source_under : (number : ℕ) → AgreeUnder (tacs_source_ruler (tacs_source_card number x)) x y → tacs_source_card number x ≡ tacs_source_card number y
  tacs_source_under number h = source_by number (tacs_source_card number x) refl h
