use Rattle.std.proofs.Common.{◌≡◌, ◌+◌, ◌*◌, ◌≤◌, ◌++◌, length}
use Rattle.emtp_comtrade.specs.declared.data.TheConstants.{RAW_ROOM}
use Rattle.emtp_comtrade.specs.Record.{joined, raw_at, analog_before}
use Rattle.emtp_comtrade.proofs.data.push_raws.Given as goal

abbrev pub invariant-loop-place : goal.invariant-loop-place
invariant-loop-place l = record {
  text : l.text ≡ l.initial.text ++ joined l.place (raw_at l.sheet.case.now.parts l.sheet.samples.now.rows l.sample);
  length : length l.text ≤ length l.initial.text + RAW_ROOM * l.place;
  analog : l.analog ≡ analog_before l.sheet.case.now.parts l.place;
}
