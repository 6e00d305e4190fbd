-- Two lines without a faulty byte that agree under the ruler of one of them give the same cards of the network.
use Rattle.std.proofs.Common.{◌≡◌, ◌∙◌, sym, ap, refl, ℕ, Bool, true, false, List, [], ◌∷◌, length}
use Rattle.std.specs.Ordering.{int_eq}
use Rattle.std.specs.Prelude.{◌==◌, not, ◌&&◌, ℤ, pos, cond, codes, Option, Some, None, Result, Ok, Err}
use Rattle.std.specs.Str.{bytes_eq}
use Rattle.emtp_card.specs.Field.{field_of}
use Rattle.emtp_card.specs.Lines.{fault_of_line, is_section_end}
use Rattle.emtp_card.specs.Name.{name_field, named}
use Rattle.emtp_card.specs.Whole.{whole_field}
use Rattle.emtp_card.specs.declared.fault.Fault.{Fault}
use Rattle.emtp_card.specs.declared.reason.Why.{Why}
use Rattle.emtp_card.specs.declared.reason.Why.TheVariants.{BadName}
use Rattle.emtp_netcards.specs.BranchCard as branches
use Rattle.emtp_netcards.specs.BranchCard.{branch_card, copies_of, copy_field, copy_of, kind_by, kind_field, own_values, read_values, resistor_values, values_of}
use Rattle.emtp_netcards.specs.Fields.{ends_field}
use Rattle.emtp_netcards.specs.LineValues.{a_field, b_field, form_by, line_values}
use Rattle.emtp_netcards.specs.Reading.{both, in_column}
use Rattle.emtp_netcards.specs.held.Reading.{judged}
use Rattle.emtp_netcards.specs.RunCards.{first_card, first_fields, second_card, second_fields, tolerance_card}
use Rattle.emtp_netcards.specs.SeriesValues.{series_values}
use Rattle.emtp_netcards.specs.SourceCard as sources
use Rattle.emtp_netcards.specs.SourceCard.{active_times, cosine_numbers, cosine_of, course_of, ramp_of, source_card}
use Rattle.emtp_netcards.specs.SwitchCard as switches
use Rattle.emtp_netcards.specs.SwitchCard.{is_measuring, switch_card, times_of, valve_of}
use Rattle.emtp_netcards.specs.declared.branch_card.BranchKind.{BranchKind}
use Rattle.emtp_netcards.specs.declared.branch_card.BranchKind.TheVariants.{Line as LineKind, Reactor as ReactorKind, Resistor as ResistorKind, Second as SecondKind, Series as SeriesKind, Third as ThirdKind}
use Rattle.emtp_netcards.specs.declared.source_card.SourceType.{SourceType}
use Rattle.emtp_netcards.specs.declared.source_card.SourceType.TheVariants.{Cosine as CosineType, Ramp as RampType, Step as StepType, Tacs as TacsType}
use Rattle.emtp_netcards.specs.declared.switch_card.SwitchType.{SwitchType}
use Rattle.emtp_netcards.specs.declared.switch_card.SwitchType.TheVariants.{Control as ControlType, Time as TimeType, Valve as ValveType}
use Rattle.emtp_warnings.proofs.Agreeing.{has_field, held_under, name_under, number_under, text_under, whole_under}
use Rattle.emtp_warnings.specs.Law.{AgreeUnder, AreFaultless}
use Rattle.emtp_warnings.specs.Marked.{ruler_of_kind, source_ruler, switch_ruler}
use Rattle.emtp_warnings.specs.Marked.{names_another}
use Rattle.emtp_warnings.specs.declared.rulers.TheConstants.{CONTROLLED, COPY, COSINE, FIRST_RUN, FREE, LINE, MEASURING, RAMP, RESISTOR, SECOND_RUN, SERIES, STEP, THIRD_PHASE, TIME_SWITCH, TOLERANCE, VALVE, VARIABLE, WIDE_SERIES}

-- by a test
pub either : {P : Type 0} (t : Bool) → (t ≡ true → P) → (t ≡ false → P) → P
either true so otherwise = so refl
either false so otherwise = otherwise refl

abbrev refusal : Fault → Result BranchKind Fault
refusal fault = Err fault

module _ (x y : List ℕ) (sound : AreFaultless x y) where
  fault_same : fault_of_line x ≡ fault_of_line y
  fault_same = sound.one ∙ sym sound.other

  -- ---- miscellaneous cards

  pub tolerance_under : (number : ℕ) → AgreeUnder TOLERANCE.now x y → tolerance_card number x ≡ tolerance_card number y
  unfolding tolerance_card
  tolerance_under number h = simp (fault_same, number_under TOLERANCE.now x y h 25 32 refl)

  pub first_under : (number : ℕ) → is_section_end x ≡ false → is_section_end y ≡ false → AgreeUnder FIRST_RUN.now x y → first_card number x ≡ first_card number y
  unfolding first_card first_fields
  first_under number ends ends' h =
      simp (fault_same, ends, ends', number_under FIRST_RUN.now x y h 1 8 refl, number_under FIRST_RUN.now x y h 9 16 refl, number_under FIRST_RUN.now x y h 17 24 refl, number_under FIRST_RUN.now x y h 25 32 refl)

  pub second_under : (number : ℕ) → is_section_end x ≡ false → is_section_end y ≡ false → AgreeUnder SECOND_RUN.now x y → second_card number x ≡ second_card number y
  unfolding second_card second_fields
  second_under number ends ends' h =
      simp (fault_same, ends, ends', whole_under SECOND_RUN.now x y h 1 8 refl, whole_under SECOND_RUN.now x y h 9 16 refl)

  -- ---- ends

  ends_under : (ruler : List ℕ) → AgreeUnder ruler x y → has_field ruler 3 8 ≡ true → has_field ruler 9 14 ≡ true → ends_field x ≡ ends_field y
  unfolding ends_field
  ends_under ruler h «from» to = simp (name_under ruler x y h 3 «from», name_under ruler x y h 9 to)

  -- ---- switches

  switch_from : (number : ℕ) → ends_field x ≡ ends_field y
      → judged (in_column 1 (switches.type_field x)) (switches.kind_of x) ≡ judged (in_column 1 (switches.type_field y)) (switches.kind_of y)
      → whole_field x 80 80 ≡ whole_field y 80 80 → switch_card number x ≡ switch_card number y
  unfolding switch_card switches.fields_of
  switch_from number ends kind asked = simp (fault_same, ends, kind, asked)

  switch_type_under : (ruler : List ℕ) → AgreeUnder ruler x y → has_field ruler 1 2 ≡ true → (type : Result SwitchType Why) → switches.type_field x ≡ type → switches.type_field y ≡ type
  switch_type_under ruler h marks type e = ap switches.type_by (sym (whole_under ruler x y h 1 2 marks)) ∙ e

  measuring_under : (ruler : List ℕ) → AgreeUnder ruler x y → has_field ruler 55 64 ≡ true → (b : Bool) → is_measuring x ≡ b → is_measuring y ≡ b
  measuring_under ruler h marks b e = ap (λ (text : List ℕ). bytes_eq text (codes "MEASURING")) (sym (text_under ruler x y h 55 64 marks)) ∙ e

  times_under : AgreeUnder TIME_SWITCH.now x y → times_of x ≡ times_of y
  unfolding times_of
  times_under h =
      simp (held_under TIME_SWITCH.now x y h 15 24 refl, held_under TIME_SWITCH.now x y h 25 34 refl, number_under TIME_SWITCH.now x y h 35 44 refl, text_under TIME_SWITCH.now x y h 55 64 refl)

  valve_under : AgreeUnder VALVE.now x y → valve_of x ≡ valve_of y
  unfolding valve_of
  valve_under h = simp (number_under VALVE.now x y h 15 24 refl, number_under VALVE.now x y h 25 34 refl, name_under VALVE.now x y h 65 refl)

  switch_by : (number : ℕ) (measuring : Bool) (type : Result SwitchType Why) → is_measuring x ≡ measuring → switches.type_field x ≡ type → AgreeUnder (switch_ruler measuring type) x y
      → switch_card number x ≡ switch_card number y
  switch_by number true (Ok TimeType) m t h =
      let t' = switch_type_under MEASURING.now h refl (Ok TimeType) t in
      let m' = measuring_under MEASURING.now h refl true m in
      switch_from number (ends_under MEASURING.now h refl refl) (simp (t, t', m, m')) (whole_under MEASURING.now x y h 80 80 refl)
  switch_by number false (Ok TimeType) m t h =
      let t' = switch_type_under TIME_SWITCH.now h refl (Ok TimeType) t in
      let m' = measuring_under TIME_SWITCH.now h refl false m in
      let times = times_under h in
      switch_from number (ends_under TIME_SWITCH.now h refl refl) (simp (t, t', m, m', times)) (whole_under TIME_SWITCH.now x y h 80 80 refl)
  switch_by number measuring (Ok ValveType) m t h =
      let t' = switch_type_under VALVE.now h refl (Ok ValveType) t in
      let valve = valve_under h in
      switch_from number (ends_under VALVE.now h refl refl) (simp (t, t', valve)) (whole_under VALVE.now x y h 80 80 refl)
  switch_by number measuring (Ok ControlType) m t h =
      let t' = switch_type_under CONTROLLED.now h refl (Ok ControlType) t in
      let name = name_under CONTROLLED.now x y h 65 refl in
      switch_from number (ends_under CONTROLLED.now h refl refl) (simp (t, t', name)) (whole_under CONTROLLED.now x y h 80 80 refl)
  switch_by number measuring (Err why) m t h =
      let t' = switch_type_under FREE.now h refl (Err why) t in
      switch_from number (ends_under FREE.now h refl refl) (simp (t, t')) (whole_under FREE.now x y h 80 80 refl)

  pub switch_under : (number : ℕ) → AgreeUnder (switch_ruler (is_measuring x) (switches.type_field x)) x y → switch_card number x ≡ switch_card number y
  switch_under number h = switch_by number (is_measuring x) (switches.type_field x) refl refl h

  -- ---- branches

  branch_from : (number : ℕ) (dt : ℤ) (wide : Bool) → ends_field x ≡ ends_field y
      → values_of x dt wide (in_column 1 (kind_field x)) ≡ values_of y dt wide (in_column 1 (kind_field y))
      → whole_field x 80 80 ≡ whole_field y 80 80 → branch_card number x dt wide ≡ branch_card number y dt wide
  unfolding branch_card branches.fields_of
  branch_from number dt wide ends values asked = simp (fault_same, ends, values, asked)

  kind_under : (ruler : List ℕ) → AgreeUnder ruler x y → has_field ruler 1 2 ≡ true → (kind : Result BranchKind Why) → kind_field x ≡ kind → kind_field y ≡ kind
  kind_under ruler h marks kind e = ap kind_by (sym (whole_under ruler x y h 1 2 marks)) ∙ e

  copy_under : (ruler : List ℕ) → AgreeUnder ruler x y → has_field ruler 15 20 ≡ true → has_field ruler 21 26 ≡ true → copy_field x ≡ copy_field y
  copy_under ruler h a b = simp (name_under ruler x y h 15 a, name_under ruler x y h 21 b)

  -- the values are read where no other card is named
  own_same : (dt : ℤ) (wide : Bool) (kind : BranchKind) (copies : Result (Option (Option (List ℕ) × Option (List ℕ))) Fault)
      → (copies ≡ Ok None → read_values x dt wide kind ≡ read_values y dt wide kind)
      → judged (both (Ok kind) copies) (λ p. own_values x dt wide p.0 p.1) ≡ judged (both (Ok kind) copies) (λ p. own_values y dt wide p.0 p.1)
  own_same dt wide kind (Ok None) read = read refl
  own_same dt wide kind (Ok (Some names)) read = refl
  own_same dt wide kind (Err fault) read = refl

  values_from : (dt : ℤ) (wide : Bool) (kind : BranchKind) → kind_field x ≡ Ok kind → kind_field y ≡ Ok kind → copies_of x (Ok kind) ≡ copies_of y (Ok kind)
      → (copies_of y (Ok kind) ≡ Ok None → read_values x dt wide kind ≡ read_values y dt wide kind)
      → values_of x dt wide (in_column 1 (kind_field x)) ≡ values_of y dt wide (in_column 1 (kind_field y))
  values_from dt wide kind k k' copies read =
      ap (λ (t : Result BranchKind Why). values_of x dt wide (in_column 1 t)) k
      ∙ ap (λ (c : Result (Option (Option (List ℕ) × Option (List ℕ))) Fault). judged (both (Ok kind) c) (λ p. own_values x dt wide p.0 p.1)) copies
      ∙ own_same dt wide kind (copies_of y (Ok kind)) read
      ∙ sym (ap (λ (t : Result BranchKind Why). values_of y dt wide (in_column 1 t)) k')

  -- a card that names another takes its values
  no_copy : (a b : List ℕ) (comma comma' : Bool) → not ((length a == 0) && (length b == 0)) ≡ true
      → judged (both (in_column 15 (cond comma (Err BadName) (Ok (named a)))) (in_column 21 (cond comma' (Err BadName) (Ok (named b))))) (λ p. Ok (copy_of p.0 p.1)) ≡ Ok None → ⊥
  no_copy a b true true named_one e = absurd (cc)
  no_copy a b true false named_one e = absurd (cc)
  no_copy a b false true named_one e = absurd (cc)
  no_copy [] [] false false named_one e = absurd (cc)
  no_copy [] (byte ∷ b) false false named_one e = absurd (cc)
  no_copy (byte ∷ a) [] false false named_one e = absurd (cc)
  no_copy (byte ∷ a) (other ∷ b) false false named_one e = absurd (cc)

  copies_given : names_another x ≡ true → copy_field x ≡ Ok None → ⊥
  unfolding name_field
  copies_given given e = no_copy (field_of x 15 20) (field_of x 21 26) _ _ given e

  copies_plain : (kind : BranchKind) → branches.is_third (Ok kind) ≡ false → (line : List ℕ) → copies_of line (Ok kind) ≡ copy_field line
  unfolding copies_of
  copies_plain kind plain line = ap (λ (third : Bool). cond third (Ok None) (copy_field line)) plain

  branch_copy : (number : ℕ) (dt : ℤ) (wide : Bool) (kind : BranchKind) → branches.is_third (Ok kind) ≡ false → names_another x ≡ true → kind_field x ≡ Ok kind → AgreeUnder COPY.now x y
      → branch_card number x dt wide ≡ branch_card number y dt wide
  branch_copy number dt wide kind plain given k h =
      let k' = kind_under COPY.now h refl (Ok kind) k in
      let copies : copies_of x (Ok kind) ≡ copies_of y (Ok kind) = copies_plain kind plain x ∙ copy_under COPY.now h refl refl ∙ sym (copies_plain kind plain y) in
      branch_from number dt wide (ends_under COPY.now h refl refl)
      (values_from dt wide kind k k' copies (λ e. absurd (copies_given given (sym (copies_plain kind plain x) ∙ copies ∙ e))))
      (whole_under COPY.now x y h 80 80 refl)

  branch_own : (ruler : List ℕ) (number : ℕ) (dt : ℤ) (wide : Bool) (kind : BranchKind) → branches.is_third (Ok kind) ≡ false → kind_field x ≡ Ok kind → AgreeUnder ruler x y
      → has_field ruler 1 2 ≡ true → has_field ruler 3 8 ≡ true → has_field ruler 9 14 ≡ true → has_field ruler 15 20 ≡ true → has_field ruler 21 26 ≡ true → has_field ruler 80 80 ≡ true
      → read_values x dt wide kind ≡ read_values y dt wide kind
      → branch_card number x dt wide ≡ branch_card number y dt wide
  branch_own ruler number dt wide kind plain k h m1 m3 m9 m15 m21 m80 read =
      let k' = kind_under ruler h m1 (Ok kind) k in
      let copies : copies_of x (Ok kind) ≡ copies_of y (Ok kind) = copies_plain kind plain x ∙ copy_under ruler h m15 m21 ∙ sym (copies_plain kind plain y) in
      branch_from number dt wide (ends_under ruler h m3 m9) (values_from dt wide kind k k' copies (λ e. read)) (whole_under ruler x y h 80 80 m80)

  branch_third : (number : ℕ) (dt : ℤ) (wide : Bool) → kind_field x ≡ Ok ThirdKind → AgreeUnder THIRD_PHASE.now x y → branch_card number x dt wide ≡ branch_card number y dt wide
  unfolding copies_of
  branch_third number dt wide k h =
      let k' = kind_under THIRD_PHASE.now h refl (Ok ThirdKind) k in
      branch_from number dt wide (ends_under THIRD_PHASE.now h refl refl) (values_from dt wide ThirdKind k k' refl (λ e. refl)) (whole_under THIRD_PHASE.now x y h 80 80 refl)

  refused_same : (fault : Fault) (dt : ℤ) (wide : Bool) (copies : Result (Option (Option (List ℕ) × Option (List ℕ))) Fault)
      → judged (both (refusal fault) copies) (λ p. own_values x dt wide p.0 p.1) ≡ judged (both (refusal fault) copies) (λ p. own_values y dt wide p.0 p.1)
  refused_same fault dt wide (Ok copies) = refl
  refused_same fault dt wide (Err other) = refl

  branch_refused : (number : ℕ) (dt : ℤ) (wide : Bool) (why : Why) → kind_field x ≡ Err why → AgreeUnder FREE.now x y → branch_card number x dt wide ≡ branch_card number y dt wide
  unfolding copies_of
  branch_refused number dt wide why k h =
      let k' = kind_under FREE.now h refl (Err why) k in
      let fault : Fault = record { column = 1; why = why } in
      branch_from number dt wide (ends_under FREE.now h refl refl)
      (ap (λ (t : Result BranchKind Why). values_of x dt wide (in_column 1 t)) k
      ∙ ap (λ (c : Result (Option (Option (List ℕ) × Option (List ℕ))) Fault). judged (both (refusal fault) c) (λ p. own_values x dt wide p.0 p.1)) (copy_under FREE.now h refl refl)
      ∙ refused_same fault dt wide (copy_field y)
      ∙ sym (ap (λ (t : Result BranchKind Why). values_of y dt wide (in_column 1 t)) k'))
      (whole_under FREE.now x y h 80 80 refl)

  series_under : (dt : ℤ) → AgreeUnder SERIES.now x y → series_values x dt false ≡ series_values y dt false
  unfolding series_values
  series_under dt h = simp (number_under SERIES.now x y h 27 32 refl, number_under SERIES.now x y h 33 38 refl, number_under SERIES.now x y h 39 44 refl)

  wide_under : (dt : ℤ) → AgreeUnder WIDE_SERIES.now x y → series_values x dt true ≡ series_values y dt true
  unfolding series_values
  wide_under dt h = simp (number_under WIDE_SERIES.now x y h 27 42 refl, number_under WIDE_SERIES.now x y h 43 58 refl, number_under WIDE_SERIES.now x y h 59 74 refl)

  a_by_form : AgreeUnder LINE.now x y → (form : Result (Option ℤ) Why) → judged (in_column 51 (form_by form)) (a_field x) ≡ judged (in_column 51 (form_by form)) (a_field y)
  a_by_form h (Ok None) = simp (number_under LINE.now x y h 33 38 refl)
  a_by_form h (Ok (Some n)) =
      let same = number_under LINE.now x y h 33 38 refl in
      either (int_eq n (pos 0)) (λ e. simp (e, same)) (λ e0.
      either (int_eq n (pos 1)) (λ e. simp (e0, e, same)) (λ e1.
      either (int_eq n (pos 2)) (λ e. simp (e0, e1, e, same)) (λ e2. simp (e0, e1, e2))))
  a_by_form h (Err why) = refl

  b_by_form : AgreeUnder LINE.now x y → (form : Result (Option ℤ) Why) → judged (in_column 51 (form_by form)) (b_field x) ≡ judged (in_column 51 (form_by form)) (b_field y)
  b_by_form h (Ok None) = simp (number_under LINE.now x y h 39 44 refl)
  b_by_form h (Ok (Some n)) =
      let same = number_under LINE.now x y h 39 44 refl in
      either (int_eq n (pos 0)) (λ e. simp (e, same)) (λ e0.
      either (int_eq n (pos 1)) (λ e. simp (e0, e, same)) (λ e1.
      either (int_eq n (pos 2)) (λ e. simp (e0, e1, e, same)) (λ e2. simp (e0, e1, e2))))
  b_by_form h (Err why) = refl

  line_under : (dt : ℤ) → AgreeUnder LINE.now x y → line_values x dt ≡ line_values y dt
  unfolding line_values
  line_under dt h =
      simp (number_under LINE.now x y h 27 32 refl, number_under LINE.now x y h 45 50 refl, whole_under LINE.now x y h 51 52 refl, a_by_form h (whole_field y 51 52), b_by_form h (whole_field y 51 52))

  resistor_under : AgreeUnder RESISTOR.now x y → resistor_values x ≡ resistor_values y
  unfolding resistor_values
  resistor_under h = simp (number_under RESISTOR.now x y h 27 32 refl, number_under RESISTOR.now x y h 33 38 refl, number_under RESISTOR.now x y h 39 44 refl)

  branch_by : (number : ℕ) (dt : ℤ) (wide copies : Bool) (kind : Result BranchKind Why) → names_another x ≡ copies → kind_field x ≡ kind → AgreeUnder (ruler_of_kind wide copies kind) x y
      → branch_card number x dt wide ≡ branch_card number y dt wide
  branch_by number dt wide true (Ok SeriesKind) c k h = branch_copy number dt wide SeriesKind refl c k h
  branch_by number dt wide true (Ok LineKind) c k h = branch_copy number dt wide LineKind refl c k h
  branch_by number dt wide true (Ok SecondKind) c k h = branch_copy number dt wide SecondKind refl c k h
  branch_by number dt wide true (Ok ResistorKind) c k h = branch_copy number dt wide ResistorKind refl c k h
  branch_by number dt false false (Ok SeriesKind) c k h =
      branch_own SERIES.now number dt false SeriesKind refl k h refl refl refl refl refl refl (simp (series_under dt h))
  branch_by number dt true false (Ok SeriesKind) c k h =
      branch_own WIDE_SERIES.now number dt true SeriesKind refl k h refl refl refl refl refl refl (simp (wide_under dt h))
  branch_by number dt wide false (Ok LineKind) c k h =
      branch_own LINE.now number dt wide LineKind refl k h refl refl refl refl refl refl (simp (line_under dt h))
  branch_by number dt wide false (Ok SecondKind) c k h =
      branch_own LINE.now number dt wide SecondKind refl k h refl refl refl refl refl refl (simp (line_under dt h))
  branch_by number dt wide false (Ok ResistorKind) c k h =
      branch_own RESISTOR.now number dt wide ResistorKind refl k h refl refl refl refl refl refl (resistor_under h)
  branch_by number dt wide copies (Ok ReactorKind) c k h =
      branch_own COPY.now number dt wide ReactorKind refl k h refl refl refl refl refl refl refl
  branch_by number dt wide copies (Ok ThirdKind) c k h = branch_third number dt wide k h
  branch_by number dt wide copies (Err why) c k h = branch_refused number dt wide why k h

  pub branch_under : (number : ℕ) (dt : ℤ) (wide : Bool) → AgreeUnder (ruler_of_kind wide (names_another x) (kind_field x)) x y → branch_card number x dt wide ≡ branch_card number y dt wide
  branch_under number dt wide h = branch_by number dt wide (names_another x) (kind_field x) refl refl h

  -- ---- sources

  source_read : (number : ℕ) → name_field x 3 ≡ name_field y 3 → whole_field x 9 10 ≡ whole_field y 9 10
      → judged (in_column 1 (sources.type_field x)) (course_of x) ≡ judged (in_column 1 (sources.type_field y)) (course_of y)
      → active_times x ≡ active_times y → source_card number x ≡ source_card number y
  unfolding source_card sources.fields_of
  source_read number name sign course times = simp (fault_same, name, sign, course, times)

  pub active_under : (ruler : List ℕ) → AgreeUnder ruler x y → has_field ruler 61 70 ≡ true → has_field ruler 71 80 ≡ true → active_times x ≡ active_times y
  unfolding active_times
  active_under ruler h start stop = simp (held_under ruler x y h 61 70 start, held_under ruler x y h 71 80 stop)

  -- the fields that a source has whatever its type
  source_from : (ruler : List ℕ) (number : ℕ) (type : Result SourceType Why) → AgreeUnder ruler x y → sources.type_field x ≡ type
      → has_field ruler 1 2 ≡ true → has_field ruler 3 8 ≡ true → has_field ruler 9 10 ≡ true → has_field ruler 61 70 ≡ true → has_field ruler 71 80 ≡ true
      → judged (in_column 1 type) (course_of x) ≡ judged (in_column 1 type) (course_of y) → source_card number x ≡ source_card number y
  source_from ruler number type h t m1 m3 m9 m61 m71 course =
      let t' : sources.type_field y ≡ type = ap sources.type_by (sym (whole_under ruler x y h 1 2 m1)) ∙ t in
      source_read number (name_under ruler x y h 3 m3) (whole_under ruler x y h 9 10 m9)
      (ap (λ (k : Result SourceType Why). judged (in_column 1 k) (course_of x)) t ∙ course ∙ sym (ap (λ (k : Result SourceType Why). judged (in_column 1 k) (course_of y)) t'))
      (active_under ruler h m61 m71)

  ramp_under : AgreeUnder RAMP.now x y → ramp_of x ≡ ramp_of y
  unfolding ramp_of
  ramp_under h = simp (number_under RAMP.now x y h 11 20 refl, number_under RAMP.now x y h 31 40 refl)

  cosine_under : AgreeUnder COSINE.now x y → cosine_of x ≡ cosine_of y
  unfolding cosine_of cosine_numbers
  cosine_under h =
      simp (number_under COSINE.now x y h 11 20 refl, number_under COSINE.now x y h 21 30 refl, number_under COSINE.now x y h 31 40 refl, number_under COSINE.now x y h 41 50 refl)

  source_by : (number : ℕ) (type : Result SourceType Why) → sources.type_field x ≡ type → AgreeUnder (source_ruler type) x y → source_card number x ≡ source_card number y
  source_by number (Ok StepType) t h = source_from STEP.now number (Ok StepType) h t refl refl refl refl refl (simp (number_under STEP.now x y h 11 20 refl))
  source_by number (Ok RampType) t h = source_from RAMP.now number (Ok RampType) h t refl refl refl refl refl (ramp_under h)
  source_by number (Ok CosineType) t h = source_from COSINE.now number (Ok CosineType) h t refl refl refl refl refl (cosine_under h)
  source_by number (Ok TacsType) t h = source_from VARIABLE.now number (Ok TacsType) h t refl refl refl refl refl refl
  source_by number (Err why) t h = source_from FREE.now number (Err why) h t refl refl refl refl refl refl

  pub source_under : (number : ℕ) → AgreeUnder (source_ruler (sources.type_field x)) x y → source_card number x ≡ source_card number y
  source_under number h = source_by number (sources.type_field x) refl h
