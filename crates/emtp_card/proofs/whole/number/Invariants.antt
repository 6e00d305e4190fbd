use Rattle.std.proofs.Common.{◌≡◌, ◌^◌, ◌<◌, take}
use Rattle.emtp_card.specs.Decimal.{number_of}
use Rattle.emtp_card.proofs.whole.number.Given as goal

abbrev pub invariant-loop-digit : goal.invariant-loop-digit
invariant-loop-digit l = record {
  written : l.number ≡ number_of (take l.digit-index l.digits);
  small : l.number < 10 ^ l.digit-index;
}
