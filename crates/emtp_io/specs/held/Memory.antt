-- What a cabinet in memory holds, and which of its calls fail.
use Rattle.std.specs.Prelude.{ℕ, min, List, Bool, true, ◌||◌, ◌&&◌, ◌==◌, nat_lt, length, Option, Some, None, is_none, option_map}
use Rattle.emtp_io.specs.held.Buffer.{spare_of}
use Rattle.emtp_io.specs.Cabinet.{CabinetState, Nature, Outputs, output, one_more}
use Rattle.emtp_io.specs.held.Calls.{calls_of, lists}
use Rattle.emtp_io.specs.held.Files.{File, file_named}
use Rattle.emtp_io.specs.declared.cabinet.Output.{Output}
use Rattle.emtp_io.specs.declared.calls.Calls.{Calls}
use Rattle.emtp_io.specs.declared.calls.Failing.{Failing}
use Rattle.emtp_io.specs.declared.calls.Op.{Op}
use Rattle.emtp_io.specs.declared.calls.Op.TheVariants.{Open, Read, Create, Write}
use Rattle.emtp_io.specs.declared.turns.Turns.{Turns}

pub record Memory : Type 0 where
  -- the files, each with its name
  pub files : List File
  -- the calls that are told to fail
  pub fails : List Failing
  -- the most bytes that are read or written in one call
  pub piece : ℕ
  -- how many bytes an output has room for, and how many its name
  pub room : ℕ
  -- the bytes of the opened file that are not yet read
  pub unread : Option (List ℕ)
  -- each output, where it was created
  pub outputs : Outputs
  -- how often each kind of call was made
  pub calls : Calls
  -- which of the calls of `create` made each output
  pub turns : Turns
  -- how often `open` and `read` have failed
  pub faults_in : ℕ
  -- how often `create` and `write` have failed
  pub faults_out : ℕ

-- it tells all it holds, and is calm where no call is told to fail
abbrev pub nature_of : Memory → Nature
nature_of m =
    record { tells = true; calm = length m.fails == 0; room = m.room; files = file_named m.files }

abbrev pub memory_state : Memory → CabinetState
memory_state m = record {
  nature = nature_of m;
  unread = m.unread;
  outputs = m.outputs;
  faults_in = m.faults_in;
  faults_out = m.faults_out;
  opens = m.calls.opens;
  creates = m.calls.creates;
  turns = m.turns;
}

-- whether the next call of this kind is told to fail
abbrev pub is_told_to_fail : Memory → Op → Bool
is_told_to_fail m op = lists m.fails op (one_more (calls_of m.calls op))

abbrev pub open_fails : Memory → List ℕ → Bool
open_fails m name = is_told_to_fail m Open || is_none (file_named m.files name)

abbrev pub read_fails : Memory → Bool
read_fails m = is_told_to_fail m Read || is_none m.unread

abbrev pub create_fails : Memory → List ℕ → Bool
create_fails m name = is_told_to_fail m Create || nat_lt m.room (length name)

-- no room is left for a byte of so many
abbrev pub is_full_for : Option ℕ → ℕ → Bool
is_full_for None len = true
is_full_for (Some spare) len = nat_lt 0 len && (spare == 0)

-- how many more bytes have room in an output that was created
abbrev pub spare_in : Memory → Output → Option ℕ
spare_in m out = spare_of (output m.outputs out) m.room

abbrev pub write_fails : Memory → Output → ℕ → Bool
write_fails m out len = is_told_to_fail m Write || is_full_for (spare_in m out) len

-- how many bytes a call reads into so many
abbrev pub read_count : Memory → ℕ → Option ℕ
read_count m len = option_map (λ bytes. min (min (length bytes) len) m.piece) m.unread

-- how many of so many bytes a call writes
abbrev pub write_count : Memory → Output → ℕ → Option ℕ
write_count m out len = option_map (λ spare. min (min spare len) m.piece) (spare_in m out)
