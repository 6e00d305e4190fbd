use Rattle.std.proofs.Common.{◌≡◌, ◌++◌, drop}
use Rattle.std.specs.Prelude.{map}
use Rattle.emtp_causes.specs.Marked.{shown_byte}
use Rattle.emtp_causes.proofs.marked.put_shown.Given as goal

-- the bytes so far and those that are left are all bytes
abbrev pub invariant-loop-byte : goal.invariant-loop-byte
invariant-loop-byte l = l.out.items ++ map shown_byte (drop l.byte-index l.text) ≡ l.initial.out.items ++ map shown_byte l.text
