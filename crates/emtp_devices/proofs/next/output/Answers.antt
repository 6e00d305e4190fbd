use Rattle.emtp_case.specs.held.RunData.{IsTimeStep}
use Rattle.std.proofs.Common.{◌≡◌, ◌≤◌, ◌<◌, ◌^◌, ◌∙◌, ◌-ℤ◌, ◌∷◌, int_lt, All, ap, sym, subst, pos, map, length, slice_index_or, unsigned_abs, FitsSigned, to_z, of_z, arith, rules, ℕ, ℤ, List}
use lib.Signed.{mag}
use mir.Syntax.{w64, w128}
use Rattle.std.proofs.lemmas.Int.{ints, to_z-of_z}
use Rattle.emtp_case.specs.Branch.{points_of}
use Rattle.emtp_case.specs.held.Control.{IsTable}
use Rattle.emtp_case.specs.HistoryValues.{delay_steps}
use Rattle.emtp_case.specs.held.Range.{IsBetween}
use Rattle.emtp_case.specs.declared.branch.Point.{Point}
use Rattle.emtp_case.specs.declared.case.Parts.{Parts}
use Rattle.emtp_case.specs.declared.control.Device.{Device}
use Rattle.emtp_case.specs.declared.control.DeviceCode.{DeviceCode}
use Rattle.emtp_case.specs.declared.control.Input.{Input}
use Rattle.emtp_devices.specs.Device.{Reading, brought, derivative, effective_value, extreme, gated, one_above_zero, output_by, table_value, taken_input}
use Rattle.emtp_devices.proofs.Rings.{delay-depth, period-depth, pulse-depth}
use Rattle.emtp_fix.proofs.Wide.{through_64}
use Rattle.emtp_fix.specs.declared.limit.TheConstants.{LARGEST_VALUE}
use Rattle.emtp_devices.proofs.next.output.Goals as goal

-- a number of 64 bits among those of 128
widened : (z : ℤ) → mag z < 2 ^ 63 → to_z w128 (of_z w128 (to_z w64 (of_z w64 z))) ≡ z
widened z small = ap (λ z. to_z w128 (of_z w128 z)) (to_z-of_z w64 z (record { sfits = small })) ∙ to_z-of_z w128 z (record { sfits = omega (arith, small) })

-- a value is that of the equation of the device's own code
by_code : (case : Parts) (x : Device) (r : Reading) {code : DeviceCode} (z : ℤ) → x.code ≡ code → z ≡ output_by case x r code → z ≡ output_by case x r x.code
by_code case x r z is value = value ∙ ap (output_by case x r) (sym is)

pub returns-in-Delay : goal.returns-in-Delay
returns-in-Delay c = λ inputs past.
    let case = c.args.case.now.parts in
    let x = c.args.device.now in
    let s : FitsSigned w64 c.args.s = c.ranges.s in
    let is = simp to_z-of_z at (c.delayed.ensures inputs (delay_steps case.run.dt x.a) (delay-depth case.run.dt x c.args.held.now c.requires.held c.in-Delay.is) past) in
    by_code case x _ _ c.in-Delay.is (widened c.delayed.result c.delayed.type_inv ∙ is)

pub returns-in-DelayedPulse : goal.returns-in-DelayedPulse
returns-in-DelayedPulse c = λ inputs past.
    let case = c.args.case.now.parts in
    let x = c.args.device.now in
    let s : FitsSigned w64 c.args.s = c.ranges.s in
    let d : FitsSigned w64 c.delayed-in-DelayedPulse.result = record { sfits = c.delayed-in-DelayedPulse.type_inv } in
    let before = simp to_z-of_z at (c.delayed-in-DelayedPulse.ensures inputs (delay_steps case.run.dt x.a) (pulse-depth case.run.dt x c.args.held.now c.requires.held c.in-DelayedPulse.is) past) in
    let is = simp to_z-of_z at c.one_above_zero.ensures in
    by_code case x _ _ c.in-DelayedPulse.is (widened c.one_above_zero.result c.one_above_zero.type_inv ∙ is ∙ ap one_above_zero before)

pub returns-in-Selector : goal.returns-in-Selector
returns-in-Selector c = λ inputs past.
    let x = c.args.device.now in
    let values = c.args.values.now in
    let n : FitsSigned w64 c.named_value-in-Selector.result = record { sfits = c.named_value-in-Selector.type_inv } in
    let a : FitsSigned w64 x.a = search rules in
    let na : to_z w64 (of_z w64 (c.named_value-in-Selector.result -ℤ x.a)) ≡ c.named_value-in-Selector.result -ℤ x.a = omega (arith, ints, c.named_value-in-Selector.ensures.small, c.requires.device.card.a.small) in
    let place = rw na at (simp to_z-of_z at c.taken_input.ensures) in
    by_code c.args.case.now.parts x _ _ c.in-Selector.is (
    widened c.brought_at.result c.brought_at.type_inv ∙ c.brought_at.ensures
    ∙ ap (λ (xs : List Input). slice_index_or (map (brought values) xs) c.taken_input.result (pos 0)) c.as_slice-inputs.ensures
    ∙ ap (λ k. slice_index_or (map (brought values) x.inputs) k (pos 0)) (place ∙ ap (λ z. taken_input (z -ℤ x.a)) c.named_value-in-Selector.ensures.value)
    )

pub returns-in-EffectiveValue : goal.returns-in-EffectiveValue
returns-in-EffectiveValue c = λ inputs past.
    let case = c.args.case.now.parts in
    let x = c.args.device.now in
    let s : FitsSigned w64 c.args.s = c.ranges.s in
    let is = simp to_z-of_z at (c.effective_value.ensures inputs past) in
    by_code case x _ _ c.in-EffectiveValue.is (to_z-of_z w128 c.effective_value.result (record { sfits = c.effective_value.type_inv }) ∙ is ∙ ap (λ k. effective_value k (c.args.s ∷ inputs)) (period-depth case.run.dt x c.args.held.now c.requires.held c.in-EffectiveValue.is))

pub returns-in-Derivative : goal.returns-in-Derivative
returns-in-Derivative c = λ inputs past.
    let case = c.args.case.now.parts in
    let dt : FitsSigned w64 case.run.dt = search rules in
    let s : FitsSigned w64 c.args.s = c.ranges.s in
    let b : FitsSigned w64 c.last_input.result = record { sfits = c.last_input.type_inv } in
    let is = simp to_z-of_z at c.derivative.ensures in
    by_code case c.args.device.now _ _ c.in-Derivative.is (to_z-of_z w128 c.derivative.result (record { sfits = c.derivative.type_inv }) ∙ is ∙ ap (λ z. derivative case.run.dt c.args.s z) (c.last_input.ensures.value inputs past))

-- what the inputs name is there
inputs_there : (n m : ℕ) (inputs seen : List Input) → n ≡ m → seen ≡ inputs → All (λ (i : Input). i.var < m) inputs → All (λ (i : Input). i.var < n) seen
inputs_there n m inputs seen sized same there = subst (λ (xs : List Input). All (λ (i : Input). i.var < n) xs) (sym same) (subst (λ k. All (λ (i : Input). i.var < k) inputs) (sym sized) there)

small_64 : (s : ℤ) → FitsSigned w64 s → unsigned_abs s ≤ LARGEST_VALUE → unsigned_abs (to_z w64 (of_z w64 s)) ≤ LARGEST_VALUE
small_64 s fits small = subst (λ (z : ℤ). unsigned_abs z ≤ LARGEST_VALUE) (sym (to_z-of_z w64 s fits)) small

dt_64 : (dt : ℤ) → FitsSigned w64 dt → IsTimeStep dt → IsTimeStep (to_z w64 (of_z w64 dt))
dt_64 dt fits between = subst (IsBetween 1000 (10 ^ 12)) (sym (to_z-of_z w64 dt fits)) between

pub derivative-requires-clause-s : goal.derivative-requires-clause-s
derivative-requires-clause-s c = small_64 c.args.s c.ranges.s c.requires.s

pub integrated-requires-clause-s : goal.integrated-requires-clause-s
integrated-requires-clause-s c = small_64 c.args.s c.ranges.s c.requires.s

pub effective_value-requires-clause-s : goal.effective_value-requires-clause-s
effective_value-requires-clause-s c = small_64 c.args.s c.ranges.s c.requires.s

pub table_value-requires-clause-s : goal.table_value-requires-clause-s
table_value-requires-clause-s c = small_64 c.args.s c.ranges.s c.requires.s

pub derivative-requires-clause-dt : goal.derivative-requires-clause-dt
derivative-requires-clause-dt c = dt_64 c.args.case.now.parts.run.dt (search rules) c.args.case.now.fits.draft.run.dt

pub integrated-requires-clause-dt : goal.integrated-requires-clause-dt
integrated-requires-clause-dt c = dt_64 c.args.case.now.parts.run.dt (search rules) c.args.case.now.fits.draft.run.dt

pub table_value-requires-clause-table : goal.table_value-requires-clause-table
table_value-requires-clause-table c = subst IsTable (sym (c.points_of.ensures ∙ ap (λ (ps : List Point). points_of ps c.args.device.now.first c.args.device.now.count) c.as_slice-points.ensures)) (c.requires.device.points.table c.in-Table.is)

pub extreme-requires-clause-there : goal.extreme-requires-clause-there
extreme-requires-clause-there c = inputs_there (length c.args.values.now) (length c.args.case.now.parts.vars) c.args.device.now.inputs c.as_slice-inputs.result.now c.requires.values.one_each c.as_slice-inputs.ensures c.requires.device.card.inputs

pub brought_at-requires-clause-there : goal.brought_at-requires-clause-there
brought_at-requires-clause-there c = inputs_there (length c.args.values.now) (length c.args.case.now.parts.vars) c.args.device.now.inputs c.as_slice-inputs.result.now c.requires.values.one_each c.as_slice-inputs.ensures c.requires.device.card.inputs

pub named_value-requires-clause-there : goal.named_value-requires-clause-there
named_value-requires-clause-there c = λ v is. subst (λ n. v < n) (sym c.requires.values.one_each) (c.requires.device.card.d v is)

pub named_value-requires-in-GateAbove-clause-there : goal.named_value-requires-in-GateAbove-clause-there
named_value-requires-in-GateAbove-clause-there c = λ v is. subst (λ n. v < n) (sym c.requires.values.one_each) (c.requires.device.card.d v is)

pub named_value-requires-in-Selector-clause-there : goal.named_value-requires-in-Selector-clause-there
named_value-requires-in-Selector-clause-there c = λ v is. subst (λ n. v < n) (sym c.requires.values.one_each) (c.requires.device.card.d v is)

pub is_positive-reset-requires-in-PeakHold : goal.is_positive-reset-requires-in-PeakHold
is_positive-reset-requires-in-PeakHold c = λ v is. subst (λ n. v < n) (sym c.requires.values.one_each) (c.requires.device.card.d v is)

pub is_positive-reset-requires : goal.is_positive-reset-requires
is_positive-reset-requires c = λ v is. subst (λ n. v < n) (sym c.requires.values.one_each) (c.requires.device.card.e v is)

pub effective_value-requires-clause-sum : goal.effective_value-requires-clause-sum
effective_value-requires-clause-sum c = c.requires.held.squares c.in-EffectiveValue.is

pub returns-in-Gate : goal.returns-in-Gate
returns-in-Gate c = λ inputs past.
    let x = c.args.device.now in
    let s : FitsSigned w64 c.args.s = c.ranges.s in
    let a : FitsSigned w64 x.a = search rules in
    let b : FitsSigned w64 x.b = search rules in
    let d : FitsSigned w64 c.abs.result = record { sfits = c.abs.type_inv } in
    let size = rw (through_64 c.named_value.result c.named_value.ensures.small) at c.abs.ensures.value in
    let is = simp to_z-of_z at c.gated.ensures in
    by_code c.args.case.now.parts x _ _ c.in-Gate.is (widened c.gated.result c.gated.type_inv ∙ is ∙ ap (λ z. gated (int_lt x.a z) x.b c.args.s) (size ∙ ap (λ z. pos (unsigned_abs z)) c.named_value.ensures.value))

pub returns-in-GateAbove : goal.returns-in-GateAbove
returns-in-GateAbove c = λ inputs past.
    let x = c.args.device.now in
    let s : FitsSigned w64 c.args.s = c.ranges.s in
    let a : FitsSigned w64 x.a = search rules in
    let b : FitsSigned w64 x.b = search rules in
    let d : FitsSigned w64 c.named_value-in-GateAbove.result = record { sfits = c.named_value-in-GateAbove.type_inv } in
    let is = simp to_z-of_z at c.gated-in-GateAbove.ensures in
    by_code c.args.case.now.parts x _ _ c.in-GateAbove.is (widened c.gated-in-GateAbove.result c.gated-in-GateAbove.type_inv ∙ is ∙ ap (λ z. gated (int_lt x.a z) x.b c.args.s) c.named_value-in-GateAbove.ensures.value)

pub returns-in-Extreme : goal.returns-in-Extreme
returns-in-Extreme c = λ inputs past.
    let x = c.args.device.now in
    let values = c.args.values.now in
    let a : FitsSigned w64 x.a = search rules in
    let is = simp to_z-of_z at c.extreme.ensures in
    by_code c.args.case.now.parts x _ _ c.in-Extreme.is (widened c.extreme.result c.extreme.type_inv ∙ is ∙ ap (extreme x.a values) c.as_slice-inputs.ensures)

pub returns-in-Table : goal.returns-in-Table
returns-in-Table c = λ inputs past.
    let case = c.args.case.now.parts in
    let x = c.args.device.now in
    let s : FitsSigned w64 c.args.s = c.ranges.s in
    let is = simp to_z-of_z at c.table_value.ensures in
    let points = c.points_of.ensures ∙ ap (λ (ps : List Point). points_of ps x.first x.count) c.as_slice-points.ensures in
    by_code case x _ _ c.in-Table.is (to_z-of_z w128 c.table_value.result (record { sfits = c.table_value.type_inv }) ∙ is ∙ ap (table_value c.args.s) points)

pub derivative-requires-clause-before : goal.derivative-requires-clause-before
derivative-requires-clause-before c = small_64 c.last_input.result (record { sfits = c.last_input.type_inv }) c.last_input.ensures.small

pub named_value-requires-clause-values : goal.named_value-requires-clause-values
named_value-requires-clause-values c = c.requires.values.small

pub named_value-requires-in-Selector-clause-values : goal.named_value-requires-in-Selector-clause-values
named_value-requires-in-Selector-clause-values c = c.requires.values.small

pub named_value-requires-in-GateAbove-clause-values : goal.named_value-requires-in-GateAbove-clause-values
named_value-requires-in-GateAbove-clause-values c = c.requires.values.small

pub extreme-requires-clause-values : goal.extreme-requires-clause-values
extreme-requires-clause-values c = c.requires.values.small

pub brought_at-requires-clause-values : goal.brought_at-requires-clause-values
brought_at-requires-clause-values c = c.requires.values.small
