use Rattle.std.proofs.Common.{arith, length, refl}
use Rattle.emtp_comtrade.specs.Record.{analog_line_at}
use Rattle.emtp_comtrade.proofs.Streams.{gathers-start, gathers-line, gathers-stopped}
use Rattle.emtp_comtrade.proofs.configuration.write_analog_lines.Goals as goal

pub loop-place-init : goal.loop-place-init
loop-place-init g c = record { room = c.requires.room; analog = refl; text = gathers-start (analog_line_at c.args.case.now.parts c.args.samples.now.rows) }

pub returns-in_err-make_room-clause-text : goal.returns-in_err-make_room-clause-text
returns-in_err-make_room-clause-text g c =
    gathers-stopped c.args.text.now (analog_line_at c.args.case.now.parts c.args.samples.now.rows) c.loop-place.place (length c.args.case.now.parts.channels) _ c.from_residual.result (omega arith)
    c.from_residual.ensures.0
    (gathers-line c.args.text.now (analog_line_at c.args.case.now.parts c.args.samples.now.rows) c.loop-place.place c.loop-place.invariant.text (c.push_analog-analog.ensures.text c.args.samples.now.rows c.requires.multipliers) c.in_err-make_room.ensures.text)

pub loop-place-preserved : goal.loop-place-preserved
loop-place-preserved g c = record {
  room = c.in_ok-make_room.ensures.room;
  analog = c.push_analog-analog.ensures.analog;
  text =
      gathers-line c.args.text.now (analog_line_at c.args.case.now.parts c.args.samples.now.rows) c.loop-place.place c.loop-place.invariant.text (c.push_analog-analog.ensures.text c.args.samples.now.rows c.requires.multipliers) c.in_ok-make_room.ensures.text;
}
