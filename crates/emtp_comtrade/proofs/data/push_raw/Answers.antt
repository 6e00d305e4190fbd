use Rattle.std.proofs.Common.{rules, w64, to_z, of_z, ◌≡◌, false, ℤ, pos, length, ap, arith, sym, ◌∙◌}
use Rattle.emtp_fix.specs.Rounding.{near}
use Rattle.emtp_comtrade.specs.Record.{multiplier_at, is_status_at}
use Rattle.emtp_machine.specs.Samples.{value_at, greatest}
use Rattle.emtp_comtrade.proofs.Lines.{raw_at-none, raw_at-some}
use Rattle.emtp_comtrade.proofs.HeldValues.{value-greatest, value-held}
use Rattle.emtp_comtrade.proofs.ChannelMultipliers.{analog_before-analog}
use Rattle.emtp_comtrade.proofs.data.push_raw.Goals as goal

pub returns-then-is_status_at-clause-text : goal.returns-then-is_status_at-clause-text
returns-then-is_status_at-clause-text c =
    raw_at-none c.args.sheet.now.case.now.parts c.args.sheet.now.samples.now.rows c.args.sample c.args.place c.args.text.now c.is_status_at.result c.is_status_at.ensures c.if-is_status_at.true

pub returns-clause-text : goal.returns-clause-text
returns-clause-text c =
    let value : to_z w64 (of_z w64 c.value-value.result) ≡ value_at c.args.sheet.now.samples.now.rows c.args.sample c.args.place = search (rules, c.value-value.ensures) in
    let multiplier = c.multiplier_at-multiplier.ensures.value c.args.sheet.now.samples.now.rows c.requires.sheet.multipliers in
    let multiplier : to_z w64 (of_z w64 c.multiplier_at-multiplier.result) ≡ pos (multiplier_at c.args.sheet.now.samples.now.rows c.args.place) = search (rules, multiplier) in
    let raw : c.raw_value_by.result ≡ near (value_at c.args.sheet.now.samples.now.rows c.args.sample c.args.place) (pos (multiplier_at c.args.sheet.now.samples.now.rows c.args.place)) =
    c.raw_value_by.ensures.value
    ∙ ap (λ (z : ℤ). near z (to_z w64 (of_z w64 c.multiplier_at-multiplier.result))) value
    ∙ ap (λ (m : ℤ). near (value_at c.args.sheet.now.samples.now.rows c.args.sample c.args.place) m) multiplier in
    let held : to_z w64 (of_z w64 c.raw_value_by.result) ≡ near (value_at c.args.sheet.now.samples.now.rows c.args.sample c.args.place) (pos (multiplier_at c.args.sheet.now.samples.now.rows c.args.place)) = search (rules, raw) in
    raw_at-some c.args.sheet.now.case.now.parts c.args.sheet.now.samples.now.rows c.args.sample c.args.place c.args.text.now c.push_byte.new.self c.push_short.new.self c.is_status_at.result (to_z w64 (of_z w64 c.raw_value_by.result))
    c.is_status_at.ensures c.if-is_status_at.false held c.push_byte.ensures.text c.push_short.ensures.text

pub returns-clause-analog : goal.returns-clause-analog
returns-clause-analog c =
    let analog : is_status_at c.args.sheet.now.case.now.parts c.args.place ≡ false = sym c.is_status_at.ensures ∙ c.if-is_status_at.false in
    omega (arith, c.requires.analog, analog_before-analog c.args.sheet.now.case.now.parts c.args.place analog)

pub raw_value_by-requires-clause-positive : goal.raw_value_by-requires-clause-positive
raw_value_by-requires-clause-positive c =
    let same : to_z w64 (of_z w64 c.multiplier_at-multiplier.result) ≡ c.multiplier_at-multiplier.result = search rules in
    rw same (c.multiplier_at-multiplier.ensures.positive c.args.sheet.now.samples.now.rows c.requires.sheet.multipliers)

pub raw_value_by-requires-clause-held : goal.raw_value_by-requires-clause-held
raw_value_by-requires-clause-held c =
    let p = c.args.sheet.now.case.now.parts in
    let rows = c.args.sheet.now.samples.now.rows in
    let analog : is_status_at p c.args.place ≡ false = sym c.is_status_at.ensures ∙ c.if-is_status_at.false in
    let least = c.requires.sheet.multipliers.least c.args.place c.requires.place analog in
    let held = value-held (greatest rows c.args.place (length rows)) (multiplier_at rows c.args.place) (value_at rows c.args.sample c.args.place) least
    (value-greatest rows c.args.place c.args.sample (length rows) c.requires.sample) in
    let value : to_z w64 (of_z w64 c.value-value.result) ≡ value_at rows c.args.sample c.args.place = search (rules, c.value-value.ensures) in
    let multiplier = c.multiplier_at-multiplier.ensures.value rows c.requires.sheet.multipliers in
    let multiplier : to_z w64 (of_z w64 c.multiplier_at-multiplier.result) ≡ pos (multiplier_at rows c.args.place) = search (rules, multiplier) in
    rw (value, multiplier) held.within
