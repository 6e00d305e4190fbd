use Rattle.std.proofs.Common.{◌≡◌, ◌≤◌, ◌*◌, ◌^◌}
use Rattle.emtp_card.specs.declared.rounding.TheConstants.{MOST}
use Rattle.emtp_card.proofs.rounding.times_power_of_ten.Given as goal

abbrev pub invariant-loop : goal.invariant-loop
invariant-loop l = record {
  product : l.product ≡ l.number * 10 ^ l.counter;
  small : l.product ≤ MOST;
}
