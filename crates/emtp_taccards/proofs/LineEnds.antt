-- Two lines that no reader of fields tells apart give the same cards of the control.
use Rattle.std.proofs.Common.{◌≡◌, ◌∙◌, ap, ℕ, ℤ, List, Result, Ok, Err, refl}
use Rattle.emtp_card.specs.declared.fault.Fault.{Fault}
use Rattle.emtp_card.proofs.LineEnds.{AreReadAlike}
use Rattle.emtp_case.specs.declared.control.DeviceCode.{DeviceCode}
use Rattle.emtp_case.specs.declared.control.DeviceCode.TheVariants.{Delay, DelayedPulse, EffectiveValue}
use Rattle.emtp_expr.specs.Parsing.{expression_of}
use Rattle.emtp_expr.specs.declared.parsing.Parsed.{Parsed}
use Rattle.emtp_expr.proofs.TextEnds.{same-expression}
use Rattle.emtp_netcards.proofs.LineEnds.{active_times_alike, cosine_numbers_alike, name_list_alike}
use Rattle.emtp_netcards.specs.Reading.{both}
use Rattle.emtp_netcards.specs.held.Reading.{judged}
use Rattle.emtp_taccards.specs.BlockCard as blocks
use Rattle.emtp_taccards.specs.BlockCard.{block_card, limits_of, order_and_name}
use Rattle.emtp_taccards.specs.DeviceCard as devices
use Rattle.emtp_taccards.specs.DeviceCard.{a_by, coded_by, device_card, plain_fields, variables_of}
use Rattle.emtp_taccards.specs.ExtraCard.{extra_card}
use Rattle.emtp_taccards.specs.FormulaCard as formulas
use Rattle.emtp_taccards.specs.FormulaCard.{expression_text, formula_card}
use Rattle.emtp_taccards.specs.Group.{head_of}
use Rattle.emtp_taccards.specs.Inputs.{four_inputs, input, inputs}
use Rattle.emtp_taccards.specs.PolynomialCard.{coefficients, four_of, pair_of, polynomial_card}
use Rattle.emtp_taccards.specs.TacsOutputCard as outputs
use Rattle.emtp_taccards.specs.TacsOutputCard.{tacs_output_card}
use Rattle.emtp_taccards.specs.TacsSourceCard as sources
use Rattle.emtp_taccards.specs.TacsSourceCard.{Course, Times, cosine_of, driven, level_of, pulse_of, saw_of, tacs_source_card, value_of}
use Rattle.emtp_taccards.specs.declared.tacs_source_card.Signal.{Signal}
use Rattle.emtp_taccards.specs.declared.tacs_source_card.Signal.TheVariants.{Cosine as CosineSignal, Level, NodeVoltage as OfNode, Pulse as PulseSignal, Saw as SawSignal, SwitchCurrent as OfSwitch, SwitchStatus as StatusOfSwitch}

module _ (x y : List ℕ) (h : AreReadAlike x y) where
  -- ---- blocks

  input_alike : (column : ℕ) → input x column ≡ input y column
  unfolding input
  input_alike column = simp (h.byte, h.name)

  inputs_alike : inputs x ≡ inputs y
  unfolding inputs four_inputs
  inputs_alike = simp input_alike

  order_and_name_alike : order_and_name x ≡ order_and_name y
  unfolding order_and_name
  order_and_name_alike = simp (h.whole, h.name)

  limits_alike : limits_of x ≡ limits_of y
  unfolding limits_of
  limits_alike = simp (h.number, h.name)

  pub block_card_alike : (number : ℕ) → block_card number x ≡ block_card number y
  unfolding block_card blocks.fields_of
  block_card_alike number = simp (h.fault, h.number, order_and_name_alike, inputs_alike, limits_alike)

  coefficients_alike : (order : ℕ) (dt : ℤ) → coefficients x order dt ≡ coefficients y order dt
  unfolding coefficients four_of pair_of
  coefficients_alike order dt = simp h.number

  pub polynomial_alike : (number order : ℕ) (dt : ℤ) → polynomial_card number x order dt ≡ polynomial_card number y order dt
  unfolding polynomial_card
  polynomial_alike number order dt = simp (h.section_end, h.fault, coefficients_alike)

  -- ---- sources

  level_alike : level_of x ≡ level_of y
  unfolding level_of
  level_alike = simp h.number

  cosine_alike : cosine_of x ≡ cosine_of y
  unfolding cosine_of
  cosine_alike = simp (h.number, cosine_numbers_alike x y h)

  pulse_alike : pulse_of x ≡ pulse_of y
  unfolding pulse_of
  pulse_alike = simp h.number

  saw_alike : saw_of x ≡ saw_of y
  unfolding saw_of
  saw_alike = simp h.number

  driven_alike : (a b : Result Course Fault) → a ≡ b → driven x a ≡ driven y b
  driven_alike a b course = ap (λ (c : Result Course Fault). driven x c) course ∙ ap (λ (t : Result Times Fault). both b t) (active_times_alike x y h)

  value_alike : (signal : Signal) → value_of x signal ≡ value_of y signal
  value_alike Level = driven_alike (level_of x) (level_of y) level_alike
  value_alike CosineSignal = driven_alike (cosine_of x) (cosine_of y) cosine_alike
  value_alike PulseSignal = driven_alike (pulse_of x) (pulse_of y) pulse_alike
  value_alike SawSignal = driven_alike (saw_of x) (saw_of y) saw_alike
  value_alike OfNode = refl
  value_alike OfSwitch = refl
  value_alike StatusOfSwitch = refl

  signal_alike : (signal : Result Signal Fault) → judged signal (value_of x) ≡ judged signal (value_of y)
  signal_alike (Ok signal) = value_alike signal
  signal_alike (Err fault) = refl

  pub tacs_source_alike : (number : ℕ) → tacs_source_card number x ≡ tacs_source_card number y
  unfolding tacs_source_card sources.fields_of
  tacs_source_alike number = simp (h.fault, h.name, h.whole, signal_alike)

  -- ---- supplemental cards

  expression_alike : expression_of (expression_text x) ≡ expression_of (expression_text y)
  expression_alike = same-expression (expression_text x) (expression_text y) (h.part 69 11)

  head_alike : head_of x ≡ head_of y
  unfolding head_of
  head_alike = simp (h.whole, h.name)

  formula_fields_alike : formulas.fields_of x ≡ formulas.fields_of y
  unfolding formulas.fields_of
  formula_fields_alike = simp (head_alike, h.byte)

  formula_alike : (number : ℕ) (parsed : Result Parsed ℕ) → formula_card number x parsed ≡ formula_card number y parsed
  unfolding formula_card
  formula_alike number parsed = simp (h.fault, formula_fields_alike)

  a_by_alike : (code : DeviceCode) → a_by x code ≡ a_by y code
  a_by_alike Delay = simp h.number
  a_by_alike DelayedPulse = simp h.number
  a_by_alike EffectiveValue = simp h.number
  a_by_alike other = simp h.number

  coded_alike : (code : DeviceCode) → coded_by x code ≡ coded_by y code
  unfolding coded_by
  coded_alike code = simp (h.name, a_by_alike)

  code_alike : (code : Result DeviceCode Fault) → judged code (coded_by x) ≡ judged code (coded_by y)
  code_alike (Ok code) = coded_alike code
  code_alike (Err fault) = refl

  variables_alike : variables_of x ≡ variables_of y
  unfolding variables_of
  variables_alike = simp (h.name, inputs_alike)

  plain_alike : plain_fields x ≡ plain_fields y
  unfolding plain_fields
  plain_alike = simp h.number

  device_alike : (number : ℕ) → device_card number x ≡ device_card number y
  unfolding device_card devices.fields_of
  device_alike number = simp (h.fault, h.whole, head_alike, code_alike, variables_alike, plain_alike)

  pub extra_card_alike : (number : ℕ) → extra_card number x ≡ extra_card number y
  unfolding extra_card
  extra_card_alike number = simp (h.text, expression_alike, formula_alike, device_alike)

  -- ---- outputs

  pub tacs_output_alike : (number : ℕ) → tacs_output_card number x ≡ tacs_output_card number y
  unfolding tacs_output_card outputs.fields_of
  tacs_output_alike number = simp (h.fault, h.whole, name_list_alike x y h)
