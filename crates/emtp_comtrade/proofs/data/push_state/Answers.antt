use Rattle.std.proofs.Common.{rules, w64, to_z, of_z, ◌≡◌, true, false, ◌==◌, ℤ, ap, unsigned_abs, refl, sym, ◌∙◌}
use Rattle.emtp_machine.specs.Samples.{value_at}
use Rattle.emtp_comtrade.proofs.Lines.{state_at-none, state_at-some}
use Rattle.emtp_comtrade.proofs.data.push_state.Goals as goal

pub returns-then-not-is_status_at-clause-text : goal.returns-then-not-is_status_at-clause-text
returns-then-not-is_status_at-clause-text c =
    state_at-none c.args.sheet.now.case.now.parts c.args.sheet.now.samples.now.rows c.args.sample c.args.place c.args.text.now c.is_status_at.result c.is_status_at.ensures c.if-not-is_status_at.true

pub returns-then-is_zero-clause-text : goal.returns-then-is_zero-clause-text
returns-then-is_zero-clause-text c =
    let value : to_z w64 (of_z w64 c.value.result) ≡ value_at c.args.sheet.now.samples.now.rows c.args.sample c.args.place = search (rules, c.value.ensures) in
    let zero : (unsigned_abs (value_at c.args.sheet.now.samples.now.rows c.args.sample c.args.place) == 0) ≡ true =
    ap (λ (z : ℤ). unsigned_abs z == 0) (sym value) ∙ sym c.is_zero.ensures ∙ c.if-is_zero.true in
    state_at-some c.args.sheet.now.case.now.parts c.args.sheet.now.samples.now.rows c.args.sample c.args.place c.args.text.now c.push.new.self _ c.is_status_at.result true
    c.is_status_at.ensures c.if-not-is_status_at.false zero c.push.ensures.text refl

pub returns-else-is_zero-clause-text : goal.returns-else-is_zero-clause-text
returns-else-is_zero-clause-text c =
    let value : to_z w64 (of_z w64 c.value.result) ≡ value_at c.args.sheet.now.samples.now.rows c.args.sample c.args.place = search (rules, c.value.ensures) in
    let zero : (unsigned_abs (value_at c.args.sheet.now.samples.now.rows c.args.sample c.args.place) == 0) ≡ false =
    ap (λ (z : ℤ). unsigned_abs z == 0) (sym value) ∙ sym c.is_zero.ensures ∙ c.if-is_zero.false in
    state_at-some c.args.sheet.now.case.now.parts c.args.sheet.now.samples.now.rows c.args.sample c.args.place c.args.text.now c.push-else-is_zero.new.self _ c.is_status_at.result false
    c.is_status_at.ensures c.if-not-is_status_at.false zero c.push-else-is_zero.ensures.text refl
