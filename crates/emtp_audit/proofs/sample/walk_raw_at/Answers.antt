use Rattle.emtp_case.specs.declared.limit.TheConstants.{MOST_CHANNELS}
use Rattle.std.proofs.Common.{◌≤◌, length, arith}
use Rattle.emtp_comtrade.specs.Record.{is_analog_at}
use Rattle.emtp_comtrade.proofs.Places.{count_below-le}
use Rattle.emtp_audit.proofs.Walking.{analog-less}
use Rattle.emtp_audit.proofs.sample.walk_raw_at.Goals as goal

pub offset_bounds-as_slice-analog : goal.offset_bounds-as_slice-analog
offset_bounds-as_slice-analog c =
    let few : length c.args.audited.now.case.now.parts.channels ≤ MOST_CHANNELS = c.args.audited.now.case.now.fits.draft.counts.channels in
    omega (arith, few, count_below-le (is_analog_at c.args.audited.now.case.now.parts) c.args.place)

pub bounds-as_slice-analog : goal.bounds-as_slice-analog
bounds-as_slice-analog c = omega (arith, analog-less c.args.audited.now.case.now.parts c.args.place c.is_status_at.result c.requires.place c.is_status_at.ensures c.if-is_status_at.false)

pub overflow_add-result : goal.overflow_add-result
overflow_add-result c =
    let few : length c.args.audited.now.case.now.parts.channels ≤ MOST_CHANNELS = c.args.audited.now.case.now.fits.draft.counts.channels in
    omega (arith, few, count_below-le (is_analog_at c.args.audited.now.case.now.parts) c.args.place)
