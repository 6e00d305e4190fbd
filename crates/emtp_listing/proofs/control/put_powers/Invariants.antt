use Rattle.std.proofs.Common.{◌≡◌, ◌+◌, take}
use Rattle.emtp_listing.specs.ControlLines.{power_entry}
use Rattle.emtp_listing.specs.Lines.{all_separated, numbered}
use Rattle.emtp_listing.specs.Puts.{Puts}
use Rattle.emtp_listing.proofs.control.put_powers.Given as goal

abbrev pub invariant-loop-coefficient : goal.invariant-loop-coefficient
invariant-loop-coefficient l = record {
  power : l.power ≡ l.coefficient-index + 0;
  text : Puts l.initial.out.items (all_separated (numbered power_entry 0 (take l.coefficient-index l.card))) l.out.items;
}
