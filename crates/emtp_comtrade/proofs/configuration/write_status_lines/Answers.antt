use Rattle.std.proofs.Common.{arith, length, refl}
use Rattle.emtp_comtrade.specs.Record.{status_line_at}
use Rattle.emtp_comtrade.proofs.Streams.{gathers-start, gathers-line, gathers-stopped}
use Rattle.emtp_comtrade.proofs.configuration.write_status_lines.Goals as goal

pub loop-place-init : goal.loop-place-init
loop-place-init g c = record { room = c.requires.room; status = refl; text = gathers-start (status_line_at c.args.case.now.parts) }

pub returns-in_err-make_room-clause-text : goal.returns-in_err-make_room-clause-text
returns-in_err-make_room-clause-text g c =
    gathers-stopped c.args.text.now (status_line_at c.args.case.now.parts) c.loop-place.place (length c.args.case.now.parts.channels) _ c.from_residual.result (omega arith)
    c.from_residual.ensures.0
    (gathers-line c.args.text.now (status_line_at c.args.case.now.parts) c.loop-place.place c.loop-place.invariant.text c.push_status-status.ensures.text c.in_err-make_room.ensures.text)

pub loop-place-preserved : goal.loop-place-preserved
loop-place-preserved g c = record {
  room = c.in_ok-make_room.ensures.room;
  status = c.push_status-status.ensures.status;
  text =
      gathers-line c.args.text.now (status_line_at c.args.case.now.parts) c.loop-place.place c.loop-place.invariant.text c.push_status-status.ensures.text c.in_ok-make_room.ensures.text;
}
