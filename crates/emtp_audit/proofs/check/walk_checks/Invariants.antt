use Rattle.std.proofs.Common.{◌≡◌, ◌+◌, Ok, map, take}
use Rattle.emtp_audit.specs.held.Check.{rule_of}
use Rattle.emtp_audit.specs.held.Walk.{Walks, Behind}
use Rattle.emtp_audit.proofs.check.walk_checks.Given as goal

abbrev pub invariant-loop-check : goal.invariant-loop-check
invariant-loop-check l = record {
  walks : Walks (Ok (tt {0})) l.fn.fields l.fields (map rule_of (take l.check-index l.checks));
  next : l.fields.number ≡ l.fn.fields.number + l.check-index;
  behind : Behind l.fn.fields.fields l.check-index l.fields.fields;
}
