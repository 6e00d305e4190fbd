-- What a cabinet holds, and what its calls do to it.
use Rattle.std.specs.Prelude.{◌≡◌, ◌≢◌, ℕ, ◌+◌, ◌-◌, ◌^◌, ◌≤◌, min, Bool, List, [], ◌++◌, length, IsSome, Option, Some, None, Result, OnOk, OnErr}
use Rattle.emtp_io.specs.declared.cabinet.Output.{Output}
use Rattle.emtp_io.specs.declared.cabinet.Output.TheVariants.{Cfg, Dat, Note, Summary}
use Rattle.emtp_io.specs.declared.turns.Turns.{Turns}

-- what no call changes
pub record Nature : Type 0 where
  -- whether it tells what it holds
  pub tells : Bool
  -- whether it never fails by itself
  pub calm : Bool
  -- how many bytes an output has room for, and how many its name
  pub room : ℕ
  -- the bytes of the file of each name
  pub files : List ℕ → Option (List ℕ)

-- an output that was created
pub record CreatedOutput : Type 0 where
  pub name : List ℕ
  pub bytes : List ℕ

-- each output, where it was created
pub record Outputs : Type 0 where
  pub cfg : Option CreatedOutput
  pub dat : Option CreatedOutput
  pub note : Option CreatedOutput
  pub summary : Option CreatedOutput

-- what clauses see of a cabinet
pub record CabinetState : Type 0 where
  pub nature : Nature
  -- the bytes of the opened file that are not yet read; none before a file was opened
  pub unread : Option (List ℕ)
  pub outputs : Outputs
  -- how often `open` and `read` have failed
  pub faults_in : ℕ
  -- how often `create` and `write` have failed
  pub faults_out : ℕ
  -- how often `open` was called, and how often `create`
  pub opens : ℕ
  pub creates : ℕ
  -- which of the calls of `create` made each output
  pub turns : Turns

abbrev pub output : Outputs → Output → Option CreatedOutput
output outputs Cfg = outputs.cfg
output outputs Dat = outputs.dat
output outputs Note = outputs.note
output outputs Summary = outputs.summary

-- which of the calls of `create` made an output last; 0 where none did
abbrev pub turn : Turns → Output → ℕ
turn turns Cfg = turns.cfg
turn turns Dat = turns.dat
turn turns Note = turns.note
turn turns Summary = turns.summary

-- the outputs with this one in its place
abbrev pub with_output : Outputs → Output → Option CreatedOutput → Outputs
with_output outputs Cfg e = record outputs { cfg = e }
with_output outputs Dat e = record outputs { dat = e }
with_output outputs Note e = record outputs { note = e }
with_output outputs Summary e = record outputs { summary = e }

-- an output, with these bytes after its own
abbrev pub with_bytes : Option CreatedOutput → List ℕ → Option CreatedOutput
with_bytes None bytes = None
with_bytes (Some e) bytes = Some (record e { bytes = e.bytes ++ bytes })

-- the outputs, with these bytes appended to one of them
abbrev pub appended : Outputs → Output → List ℕ → Outputs
appended outputs out bytes = with_output outputs out (with_bytes (output outputs out) bytes)

-- these bytes, and then what is unread
abbrev pub put_back : List ℕ → Option (List ℕ) → Option (List ℕ)
put_back bytes None = None
put_back bytes (Some rest) = Some (bytes ++ rest)

-- no byte of the opened file is unread
abbrev pub IsAtEnd : Option (List ℕ) → Type 0
IsAtEnd unread = unread ≡ Some []

-- a count after one more, which stays at its last value
abbrev pub one_more : ℕ → ℕ
one_more count = min (count + 1) (2 ^ 64 - 1)

-- a count rose, or stands at its last value
abbrev pub Rose : ℕ → ℕ → Type 0
Rose before now = one_more before ≤ now

-- a refusal raises the count, and an answer leaves it
pub record HasCause {T E : Type 0} (before now : ℕ) (result : Result T E) : Type 0 where
  pub later : before ≤ now
  pub ok : OnOk result (now ≡ before)
  pub failed : OnErr result (Rose before now)

-- a call on the opened file changes what is unread of it, or is refused with a cause; all else stays
pub record IsInputCall {T E : Type 0} (old new : CabinetState) (result : Result T E) : Type 0 where
  pub nature : new.nature ≡ old.nature
  pub outputs : new.outputs ≡ old.outputs
  pub faults_out : new.faults_out ≡ old.faults_out
  pub cause : HasCause old.faults_in new.faults_in result
  pub creates : new.creates ≡ old.creates
  pub turns : new.turns ≡ old.turns

-- a call on an output changes this one, or is refused with a cause; all else stays
pub record IsOutputCall {T E : Type 0} (old new : CabinetState) (out : Output) (result : Result T E) : Type 0 where
  pub nature : new.nature ≡ old.nature
  pub unread : new.unread ≡ old.unread
  pub faults_in : new.faults_in ≡ old.faults_in
  pub cause : HasCause old.faults_out new.faults_out result
  pub others : (other : Output) → other ≢ out → output new.outputs other ≡ output old.outputs other
  -- an output that was created is so afterwards too, this one included
  pub stays : (other : Output) → IsSome (output old.outputs other) → IsSome (output new.outputs other)
  pub turns : (other : Output) → other ≢ out → turn new.turns other ≡ turn old.turns other
  pub opens : new.opens ≡ old.opens

-- the output was created, last by this call of `create`, counted from 1
pub record IsCreatedBy (call : ℕ) (out : Output) (new : CabinetState) : Type 0 where
  pub created : IsSome (output new.outputs out)
  pub turn : turn new.turns out ≡ call

-- the output was created, and so many more bytes have room in it
abbrev pub HasRoom : Option CreatedOutput → ℕ → ℕ → Type 0
HasRoom None more room = ⊥
HasRoom (Some e) more room = length e.bytes + more ≤ room
