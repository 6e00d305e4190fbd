use Rattle.std.proofs.Common.{◌≡◌, ◌≤◌, take}
use Rattle.emtp_card.specs.Decimal.{with_digits}
use Rattle.emtp_card.specs.declared.rounding.TheConstants.{MOST}
use Rattle.emtp_card.proofs.rounding.append_digits.Given as goal

abbrev pub invariant-loop-digit : goal.invariant-loop-digit
invariant-loop-digit l = record {
  written : l.number ≡ with_digits l.start (take l.digit-index l.digits);
  small : l.number ≤ MOST;
}
