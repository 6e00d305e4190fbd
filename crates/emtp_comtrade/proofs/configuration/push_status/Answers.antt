use Rattle.std.proofs.Common.{◌≡◌, true, arith, length, sym, ◌∙◌}
use Rattle.emtp_comtrade.specs.Record.{is_status_at}
use Rattle.emtp_comtrade.proofs.Lines.{status_line_at-none, status_line_at-some}
use Rattle.emtp_comtrade.proofs.ChannelMultipliers.{status_before-status, status_before-within}
use Rattle.emtp_comtrade.proofs.configuration.push_status.Goals as goal

pub returns-then-not-is_status_at-clause-text : goal.returns-then-not-is_status_at-clause-text
returns-then-not-is_status_at-clause-text c =
    status_line_at-none c.args.case.now.parts c.args.place c.args.text.now c.is_status_at.result c.is_status_at.ensures c.if-not-is_status_at.true

pub push_status_line-requires-clause-few : goal.push_status_line-requires-clause-few
push_status_line-requires-clause-few c =
    omega (arith, c.requires.status, status_before-within c.args.case.now.parts c.args.place (length c.args.case.now.parts.channels) c.requires.place c.args.case.now.fits.draft.counts.channels)

pub overflow_add-result : goal.overflow_add-result
overflow_add-result c =
    omega (arith, c.requires.status, status_before-within c.args.case.now.parts c.args.place (length c.args.case.now.parts.channels) c.requires.place c.args.case.now.fits.draft.counts.channels)

pub returns-clause-text : goal.returns-clause-text
returns-clause-text c =
    status_line_at-some c.args.case.now.parts c.args.place c.args.text.now c.push_status_line.new.text c.is_status_at.result c.is_status_at.ensures c.if-not-is_status_at.false c.push_status_line.ensures.text

pub returns-clause-status : goal.returns-clause-status
returns-clause-status c =
    let status : is_status_at c.args.case.now.parts c.args.place ≡ true = sym c.is_status_at.ensures ∙ c.if-not-is_status_at.false in
    omega (arith, c.requires.status, status_before-status c.args.case.now.parts c.args.place status)
