use Rattle.emtp_case.specs.declared.limit.TheConstants.{MOST_CHANNELS}
use Rattle.std.proofs.Common.{◌≤◌, length, arith}
use Rattle.emtp_comtrade.specs.Record.{is_status_at}
use Rattle.emtp_comtrade.proofs.Places.{count_below-le}
use Rattle.emtp_audit.proofs.cfg.walk_status_at.Goals as goal

pub overflow_add-status : goal.overflow_add-status
overflow_add-status c =
    let few : length c.args.case.now.parts.channels ≤ MOST_CHANNELS = c.args.case.now.fits.draft.counts.channels in
    omega (arith, few, count_below-le (is_status_at c.args.case.now.parts) c.args.place)

pub overflow_add-result : goal.overflow_add-result
overflow_add-result c =
    let few : length c.args.case.now.parts.channels ≤ MOST_CHANNELS = c.args.case.now.fits.draft.counts.channels in
    omega (arith, few, count_below-le (is_status_at c.args.case.now.parts) c.args.place)
