use Rattle.emtp_case.specs.declared.limit.TheConstants.{MOST_CHANNELS}
use Rattle.std.proofs.Common.{◌≤◌, length, arith}
use Rattle.emtp_comtrade.specs.Record.{is_analog_at}
use Rattle.emtp_comtrade.proofs.Places.{count_below-le}
use Rattle.emtp_audit.proofs.cfg_lines.read_scale.Goals as goal

pub overflow_add-analog : goal.overflow_add-analog
overflow_add-analog c =
    let few : length c.args.case.now.parts.channels ≤ MOST_CHANNELS = c.args.case.now.fits.draft.counts.channels in
    omega (arith, few, count_below-le (is_analog_at c.args.case.now.parts) c.args.place)
