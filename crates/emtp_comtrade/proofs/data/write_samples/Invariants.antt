use Rattle.std.proofs.Common.{◌+◌, ◌≤◌, ◌++◌, length, Ok}
use Rattle.emtp_io.specs.declared.cabinet.Failed.{Failed}
use Rattle.emtp_io.specs.declared.cabinet.Output.TheVariants.{Dat}
use Rattle.emtp_comtrade.specs.Record.{joined, dat_line}
use Rattle.emtp_comtrade.specs.held.Stream.{Gathers}
use Rattle.emtp_comtrade.specs.declared.text.TheConstants.{LINE_ROOM, TEXT_ROOM}
use Rattle.emtp_comtrade.proofs.data.write_samples.Given as goal

abbrev pub invariant-loop-sample : goal.invariant-loop-sample
invariant-loop-sample g l = record {
  room : length l.text + LINE_ROOM ≤ TEXT_ROOM;
  text : Gathers {T = Unit {0}} {E = Failed} (g.C.Cabinet.state l.initial.cabinet) (g.C.Cabinet.state l.cabinet) Dat
      (l.initial.text ++ joined l.sample (dat_line l.sheet.case.now.parts l.sheet.samples.now.rows)) l.text (Ok tt);
}
