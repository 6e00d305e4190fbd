use Rattle.std.proofs.Common.{arith, length}
use Rattle.emtp_comtrade.specs.Record.{dat_line}
use Rattle.emtp_comtrade.proofs.Streams.{gathers-start, gathers-line, gathers-stopped}
use Rattle.emtp_comtrade.proofs.data.write_samples.Goals as goal

pub loop-sample-init : goal.loop-sample-init
loop-sample-init g c = record { room = c.requires.room; text = gathers-start (dat_line c.args.sheet.now.case.now.parts c.args.sheet.now.samples.now.rows) }

pub returns-in_err-make_room-clause-text : goal.returns-in_err-make_room-clause-text
returns-in_err-make_room-clause-text g c =
    gathers-stopped c.args.text.now (dat_line c.args.sheet.now.case.now.parts c.args.sheet.now.samples.now.rows) c.loop-sample.sample (length c.args.sheet.now.samples.now.rows) _ c.from_residual.result (omega arith)
    c.from_residual.ensures.0
    (gathers-line c.args.text.now (dat_line c.args.sheet.now.case.now.parts c.args.sheet.now.samples.now.rows) c.loop-sample.sample c.loop-sample.invariant.text c.push_sample.ensures.text c.in_err-make_room.ensures.text)

pub loop-sample-preserved : goal.loop-sample-preserved
loop-sample-preserved g c = record {
  room = c.in_ok-make_room.ensures.room;
  text =
      gathers-line c.args.text.now (dat_line c.args.sheet.now.case.now.parts c.args.sheet.now.samples.now.rows) c.loop-sample.sample c.loop-sample.invariant.text c.push_sample.ensures.text c.in_ok-make_room.ensures.text;
}
