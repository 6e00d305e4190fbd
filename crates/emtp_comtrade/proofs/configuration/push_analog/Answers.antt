use Rattle.std.proofs.Common.{rules, w64, to_z, of_z, ◌≡◌, false, pos, arith, sym, ◌∙◌}
use Rattle.emtp_comtrade.specs.Record.{is_status_at, multiplier_at}
use Rattle.emtp_comtrade.proofs.Lines.{analog_line_at-none, analog_line_at-some}
use Rattle.emtp_comtrade.proofs.ChannelMultipliers.{analog_before-analog}
use Rattle.emtp_comtrade.proofs.configuration.push_analog.Goals as goal

pub returns-then-is_status_at-clause-text : goal.returns-then-is_status_at-clause-text
returns-then-is_status_at-clause-text c =
    λ samples are. analog_line_at-none c.args.case.now.parts samples c.args.place c.args.text.now c.is_status_at.result c.is_status_at.ensures c.if-is_status_at.true

pub returns-clause-text : goal.returns-clause-text
returns-clause-text c =
    λ samples are.
    let multiplier = c.multiplier_at-multiplier.ensures.value samples are in
    let multiplier : to_z w64 (of_z w64 c.multiplier_at-multiplier.result) ≡ pos (multiplier_at samples c.args.place) = search (rules, multiplier) in
    analog_line_at-some c.args.case.now.parts samples c.args.place c.args.text.now c.push_analog_line.new.text c.is_status_at.result (to_z w64 (of_z w64 c.multiplier_at-multiplier.result))
    c.is_status_at.ensures c.if-is_status_at.false multiplier c.push_analog_line.ensures.text

pub returns-clause-analog : goal.returns-clause-analog
returns-clause-analog c =
    let analog : is_status_at c.args.case.now.parts c.args.place ≡ false = sym c.is_status_at.ensures ∙ c.if-is_status_at.false in
    omega (arith, c.requires.analog, analog_before-analog c.args.case.now.parts c.args.place analog)
