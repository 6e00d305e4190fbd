-- Two lines without a faulty byte that agree under the ruler of one of them give the same blocks and devices.
use Rattle.std.proofs.Common.{◌≡◌, ◌∙◌, sym, refl, ℕ, ◌+◌, List, lit≤}
use Rattle.std.specs.Prelude.{Result, Ok, Err}
use Rattle.emtp_card.specs.Field.{byte_in}
use Rattle.emtp_card.specs.Lines.{fault_of_line}
use Rattle.emtp_card.specs.Name.{name_field}
use Rattle.emtp_card.specs.declared.fault.Fault.{Fault}
use Rattle.emtp_case.specs.declared.control.DeviceCode.{DeviceCode}
use Rattle.emtp_case.specs.declared.control.DeviceCode.TheVariants.{Delay, DelayedPulse, EffectiveValue}
use Rattle.emtp_netcards.specs.held.Reading.{judged}
use Rattle.emtp_taccards.specs.BlockCard as blocks
use Rattle.emtp_taccards.specs.BlockCard.{block_card, limits_of, order_and_name}
use Rattle.emtp_taccards.specs.DeviceCard as devices
use Rattle.emtp_taccards.specs.DeviceCard.{a_by, coded_by, device_card, plain_fields, variables_of}
use Rattle.emtp_taccards.specs.Group.{head_of}
use Rattle.emtp_taccards.specs.Inputs.{four_inputs, input, inputs}
use Rattle.emtp_warnings.proofs.Agreeing.{byte_under, name_under, number_under, whole_under}
use Rattle.emtp_warnings.specs.Law.{AgreeUnder, AreFaultless}
use Rattle.emtp_warnings.specs.declared.rulers.TheConstants.{BLOCK, DEVICE}

module _ (x y : List ℕ) (sound : AreFaultless x y) where
  same_fault : fault_of_line x ≡ fault_of_line y
  same_fault = sound.one ∙ sym sound.other

  input_from : (column : ℕ) → byte_in x column ≡ byte_in y column → name_field x (column + 1) ≡ name_field y (column + 1) → input x column ≡ input y column
  unfolding input
  input_from column sign name = simp (sign, name)

  inputs_from : input x 11 ≡ input y 11 → input x 19 ≡ input y 19 → input x 27 ≡ input y 27 → input x 35 ≡ input y 35 → input x 43 ≡ input y 43 → inputs x ≡ inputs y
  unfolding inputs four_inputs
  inputs_from a b c d e = simp (a, b, c, d, e)

  block_inputs : AgreeUnder BLOCK.now x y → inputs x ≡ inputs y
  block_inputs h =
      let b11 = byte_under BLOCK.now x y h 11 (lit≤ tt) refl in
      let n12 = name_under BLOCK.now x y h 12 refl in
      let b19 = byte_under BLOCK.now x y h 19 (lit≤ tt) refl in
      let n20 = name_under BLOCK.now x y h 20 refl in
      let b27 = byte_under BLOCK.now x y h 27 (lit≤ tt) refl in
      let n28 = name_under BLOCK.now x y h 28 refl in
      let b35 = byte_under BLOCK.now x y h 35 (lit≤ tt) refl in
      let n36 = name_under BLOCK.now x y h 36 refl in
      let b43 = byte_under BLOCK.now x y h 43 (lit≤ tt) refl in
      let n44 = name_under BLOCK.now x y h 44 refl in
      inputs_from (input_from 11 b11 n12) (input_from 19 b19 n20) (input_from 27 b27 n28) (input_from 35 b35 n36) (input_from 43 b43 n44)

  device_inputs : AgreeUnder DEVICE.now x y → inputs x ≡ inputs y
  device_inputs h =
      let b11 = byte_under DEVICE.now x y h 11 (lit≤ tt) refl in
      let n12 = name_under DEVICE.now x y h 12 refl in
      let b19 = byte_under DEVICE.now x y h 19 (lit≤ tt) refl in
      let n20 = name_under DEVICE.now x y h 20 refl in
      let b27 = byte_under DEVICE.now x y h 27 (lit≤ tt) refl in
      let n28 = name_under DEVICE.now x y h 28 refl in
      let b35 = byte_under DEVICE.now x y h 35 (lit≤ tt) refl in
      let n36 = name_under DEVICE.now x y h 36 refl in
      let b43 = byte_under DEVICE.now x y h 43 (lit≤ tt) refl in
      let n44 = name_under DEVICE.now x y h 44 refl in
      inputs_from (input_from 11 b11 n12) (input_from 19 b19 n20) (input_from 27 b27 n28) (input_from 35 b35 n36) (input_from 43 b43 n44)

  -- ---- blocks

  order_and_name_same : AgreeUnder BLOCK.now x y → order_and_name x ≡ order_and_name y
  unfolding order_and_name
  order_and_name_same h = simp (whole_under BLOCK.now x y h 1 2 refl, name_under BLOCK.now x y h 3 refl)

  limits_same : AgreeUnder BLOCK.now x y → limits_of x ≡ limits_of y
  unfolding limits_of
  limits_same h =
      simp (number_under BLOCK.now x y h 57 62 refl, number_under BLOCK.now x y h 63 68 refl, name_under BLOCK.now x y h 69 refl, name_under BLOCK.now x y h 75 refl)

  pub block_under : (number : ℕ) → AgreeUnder BLOCK.now x y → block_card number x ≡ block_card number y
  unfolding block_card blocks.fields_of
  block_under number h = simp (same_fault, order_and_name_same h, block_inputs h, number_under BLOCK.now x y h 51 56 refl, limits_same h)

  -- ---- devices

  a_same : AgreeUnder DEVICE.now x y → (code : DeviceCode) → a_by x code ≡ a_by y code
  a_same h Delay = simp (number_under DEVICE.now x y h 51 56 refl)
  a_same h DelayedPulse = simp (number_under DEVICE.now x y h 51 56 refl)
  a_same h EffectiveValue = simp (number_under DEVICE.now x y h 51 56 refl)
  a_same h other = simp (number_under DEVICE.now x y h 51 56 refl)

  coded_same : AgreeUnder DEVICE.now x y → (code : DeviceCode) → coded_by x code ≡ coded_by y code
  unfolding coded_by
  coded_same h code = simp (a_same h, name_under DEVICE.now x y h 69 refl)

  code_same : AgreeUnder DEVICE.now x y → (code : Result DeviceCode Fault) → judged code (coded_by x) ≡ judged code (coded_by y)
  code_same h (Ok code) = coded_same h code
  code_same h (Err fault) = refl

  head_same : AgreeUnder DEVICE.now x y → head_of x ≡ head_of y
  unfolding head_of
  head_same h = simp (whole_under DEVICE.now x y h 1 2 refl, name_under DEVICE.now x y h 3 refl)

  variables_same : AgreeUnder DEVICE.now x y → variables_of x ≡ variables_of y
  unfolding variables_of
  variables_same h = simp (device_inputs h, name_under DEVICE.now x y h 75 refl)

  plain_same : AgreeUnder DEVICE.now x y → plain_fields x ≡ plain_fields y
  unfolding plain_fields
  plain_same h = simp (number_under DEVICE.now x y h 57 62 refl, number_under DEVICE.now x y h 63 68 refl)

  pub device_under : (number : ℕ) → AgreeUnder DEVICE.now x y → device_card number x ≡ device_card number y
  unfolding device_card devices.fields_of
  device_under number h = simp (same_fault, head_same h, whole_under DEVICE.now x y h 9 10 refl, code_same h, variables_same h, plain_same h)
