use Rattle.std.proofs.Common.{◌≡◌, ◌+◌, ◌^◌, ◌<◌, ◌≤◌, ◌++◌, take, length}
use Rattle.emtp_fix.specs.Decimal.{fraction}
use Rattle.emtp_fix.proofs.decimal.put_fraction.Given as goal

-- the digits that stand, and those that are still to come, are all digits
abbrev pub invariant-digits : goal.invariant-digits
invariant-digits l = record {
  text : take l.at l.out ++ fraction l.places l.left ≡ take l.fn.at l.fn.out ++ fraction l.fn.places l.fn.rest;
  unit : l.unit ≡ 10 ^ l.places;
  left : l.left < 10 ^ l.places;
  place : l.at + l.places ≡ l.fn.at + l.fn.places;
  room : l.at + l.places ≤ length l.out;
}

abbrev pub decreases-digits : goal.decreases-digits
decreases-digits l = l.places
