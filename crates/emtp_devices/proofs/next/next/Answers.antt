use Rattle.std.proofs.Common.{◌≡◌, ◌∙◌, ap, sym, None, Some, FitsSigned, rules, ℤ}
use mir.Syntax.{w64, w128}
use Rattle.std.proofs.lemmas.Int.{to_z-of_z}
use Rattle.emtp_devices.specs.Device.{brought_sum, inputs_of, output_by, reading_of}
use Rattle.emtp_devices.proofs.Equations.{next-out, next-some}
use Rattle.emtp_fix.specs.Limit.{in_range}
use Rattle.emtp_devices.proofs.next.next.Goals as goal

pub returns-clause-value : goal.returns-clause-value
returns-clause-value c = λ past stands.
    let case = c.args.case.now.parts in
    let x = c.args.device.now in
    let values = c.args.values.now in
    let s : FitsSigned w64 c.brought_sum.result = search rules in
    let s' : FitsSigned w128 c.brought_sum.result = search rules in
    let i : FitsSigned w64 c.in_ok-input.input = search rules in
    let o : FitsSigned w128 c.output.result = search rules in
    let first = simp to_z-of_z at c.in_range.ensures.value in
    let second = simp to_z-of_z at c.in_range-2.ensures.value in
    let e : in_range (brought_sum values x.inputs) ≡ Some c.in_ok-input.input = ap in_range (sym (c.brought_sum.ensures ∙ ap (brought_sum values) c.as_slice.ensures)) ∙ sym first ∙ c.in_ok-input.was in
    let given = ap (λ (z : ℤ). output_by case x (record { step = c.args.step; values = values; s = z; inputs = inputs_of past; last = c.args.held.now.output }) x.code) (to_z-of_z w64 c.in_ok-input.input i) in
    let read = ap (λ (l : ℤ). output_by case x (record { step = c.args.step; values = values; s = c.in_ok-input.input; inputs = inputs_of past; last = l }) x.code) stands.output in
    let is : c.output.result ≡ output_by case x (reading_of c.args.step values past c.in_ok-input.input) x.code = c.output.ensures (inputs_of past) stands.inputs ∙ given ∙ read in
    let y : FitsSigned w64 c.in_ok-output.output = search rules in
    let e' : in_range (output_by case x (reading_of c.args.step values past c.in_ok-input.input) x.code) ≡ Some c.in_ok-output.output = ap in_range (sym is) ∙ sym second ∙ c.in_ok-output.was in
    ap Some (simp to_z-of_z (search rules)) ∙ sym (next-some case x c.args.step values past c.in_ok-input.input c.in_ok-output.output e e')

pub returns-in_err-output-clause-value : goal.returns-in_err-output-clause-value
returns-in_err-output-clause-value c = λ past stands.
    let case = c.args.case.now.parts in
    let x = c.args.device.now in
    let values = c.args.values.now in
    let s : FitsSigned w64 c.brought_sum.result = search rules in
    let s' : FitsSigned w128 c.brought_sum.result = search rules in
    let i : FitsSigned w64 c.in_ok-input.input = search rules in
    let o : FitsSigned w128 c.output.result = search rules in
    let first = simp to_z-of_z at c.in_range.ensures.value in
    let second = simp to_z-of_z at c.in_range-2.ensures.value in
    let e : in_range (brought_sum values x.inputs) ≡ Some c.in_ok-input.input = ap in_range (sym (c.brought_sum.ensures ∙ ap (brought_sum values) c.as_slice.ensures)) ∙ sym first ∙ c.in_ok-input.was in
    let given = ap (λ (z : ℤ). output_by case x (record { step = c.args.step; values = values; s = z; inputs = inputs_of past; last = c.args.held.now.output }) x.code) (to_z-of_z w64 c.in_ok-input.input i) in
    let read = ap (λ (l : ℤ). output_by case x (record { step = c.args.step; values = values; s = c.in_ok-input.input; inputs = inputs_of past; last = l }) x.code) stands.output in
    let is : c.output.result ≡ output_by case x (reading_of c.args.step values past c.in_ok-input.input) x.code = c.output.ensures (inputs_of past) stands.inputs ∙ given ∙ read in
    let e' : in_range (output_by case x (reading_of c.args.step values past c.in_ok-input.input) x.code) ≡ None = ap in_range (sym is) ∙ sym second ∙ c.in_err-output.was in
    let none : c.from_residual-in_err-output.result ≡ None = search rules in
    none ∙ sym (next-out case x c.args.step values past c.in_ok-input.input e e')
