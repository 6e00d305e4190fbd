-- Calls that are counted, and those that are told to fail.
use Rattle.std.specs.Prelude.{ℕ, List, Bool, true, false, ◌&&◌, ◌==◌}
use Rattle.std.specs.List.{list_any}
use Rattle.emtp_io.specs.Cabinet.{one_more}
use Rattle.emtp_io.specs.declared.calls.Calls.{Calls}
use Rattle.emtp_io.specs.declared.calls.Failing.{Failing}
use Rattle.emtp_io.specs.declared.calls.Op.{Op}
use Rattle.emtp_io.specs.declared.calls.Op.TheVariants.{Open, Read, Create, Write}

abbrev pub same_op : Op → Op → Bool
same_op Open Open = true
same_op Read Read = true
same_op Create Create = true
same_op Write Write = true
same_op _ _ = false

-- how often this kind of call was made
abbrev pub calls_of : Calls → Op → ℕ
calls_of calls Open = calls.opens
calls_of calls Read = calls.reads
calls_of calls Create = calls.creates
calls_of calls Write = calls.writes

-- the counts after one more call of this kind
abbrev pub counted : Calls → Op → Calls
counted calls Open = record calls { opens = one_more calls.opens }
counted calls Read = record calls { reads = one_more calls.reads }
counted calls Create = record calls { creates = one_more calls.creates }
counted calls Write = record calls { writes = one_more calls.writes }

-- whether the nth call of this kind is told to fail
abbrev pub lists : List Failing → Op → ℕ → Bool
lists fails op nth = list_any (λ f. same_op f.op op && (f.nth == nth)) fails
