use Rattle.emtp_case.specs.declared.limit.TheConstants.{MOST_CHANNELS}
use Rattle.std.proofs.Common.{◌≤◌, length, arith}
use Rattle.emtp_comtrade.specs.Record.{is_analog_at, is_status_at}
use Rattle.emtp_comtrade.proofs.Places.{count_below-le}
use Rattle.emtp_audit.proofs.cfg.walk_numbers.Goals as goal

pub overflow_cast-analog : goal.overflow_cast-analog
overflow_cast-analog c =
    let few : length c.args.case.now.parts.channels ≤ MOST_CHANNELS = c.args.case.now.fits.draft.counts.channels in
    omega (arith, few, count_below-le (is_analog_at c.args.case.now.parts) (length c.args.case.now.parts.channels), c.analog_count-analog.ensures)

pub overflow_cast-status : goal.overflow_cast-status
overflow_cast-status c =
    let few : length c.args.case.now.parts.channels ≤ MOST_CHANNELS = c.args.case.now.fits.draft.counts.channels in
    omega (arith, few, count_below-le (is_status_at c.args.case.now.parts) (length c.args.case.now.parts.channels), c.status_count-status.ensures)
