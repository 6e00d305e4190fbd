use Rattle.std.proofs.Common.{◌≡◌, ◌+◌, ◌≤◌, ◌++◌, length, Ok}
use Rattle.emtp_io.specs.declared.cabinet.Failed.{Failed}
use Rattle.emtp_io.specs.declared.cabinet.Output.TheVariants.{Cfg}
use Rattle.emtp_comtrade.specs.Record.{joined, analog_line_at, analog_before}
use Rattle.emtp_comtrade.specs.held.Stream.{Gathers}
use Rattle.emtp_comtrade.specs.declared.text.TheConstants.{LINE_ROOM, TEXT_ROOM}
use Rattle.emtp_comtrade.proofs.configuration.write_analog_lines.Given as goal

abbrev pub invariant-loop-place : goal.invariant-loop-place
invariant-loop-place g l = record {
  room : length l.text + LINE_ROOM ≤ TEXT_ROOM;
  analog : l.analog ≡ analog_before l.case.parts l.place;
  text : Gathers {T = Unit {0}} {E = Failed} (g.C.Cabinet.state l.initial.cabinet) (g.C.Cabinet.state l.cabinet) Cfg
      (l.initial.text ++ joined l.place (analog_line_at l.case.parts l.samples.rows)) l.text (Ok tt);
}
