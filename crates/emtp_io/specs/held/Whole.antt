-- All of some bytes written to an output, and all of a file read: what clauses of calls say. No clause of the program reaches it.
use Rattle.std.specs.Prelude.{◌≡◌, ℕ, ◌<◌, ◌≤◌, length, take, List, Result, IsTrue, IsSome, IfSome, IsOk, IsErrOf, OnOk, OnErr, IfOk, Vec}
use Rattle.std.specs.declared.alloc.Global.{Global}
use Rattle.emtp_io.specs.Cabinet.{CabinetState, Outputs, output, appended, put_back, Rose, HasRoom, IsOutputCall}
use Rattle.emtp_io.specs.declared.cabinet.Output.{Output}
use Rattle.emtp_io.specs.declared.whole.ReadEnd.{ReadEnd}
use Rattle.emtp_io.specs.declared.whole.ReadEnd.TheVariants.{Failed, NoMemory}
use Rattle.emtp_io.specs.Whole.{TookFront}

-- a front of these bytes was appended to an output
pub record GrewByPrefix (old new : Outputs) (out : Output) (bytes : List ℕ) : Type 0 where
  pub count : ℕ
  pub within : count ≤ length bytes
  pub grew : new ≡ appended old out (take count bytes)

-- these bytes were appended to an output, or a front of them and a write failed
pub record Appends {T E : Type 0} (old new : CabinetState) (out : Output) (bytes : List ℕ) (result : Result T E)
    : Type 0 where
  pub call : IsOutputCall old new out result
  pub creates : new.creates ≡ old.creates
  pub turns : new.turns ≡ old.turns
  pub ok : IsTrue old.nature.tells → OnOk result (new.outputs ≡ appended old.outputs out bytes)
  pub err : IsTrue old.nature.tells → OnErr result (GrewByPrefix old.outputs new.outputs out bytes)
  pub calm : IsTrue old.nature.tells → IsTrue old.nature.calm
      → HasRoom (output old.outputs out) (length bytes) old.nature.room → IsOk result

-- the opened file was read to its end or to the bound, or a refusal has its cause; no output changed
pub record ReadsAll (old new : CabinetState) (most : ℕ) (result : Result (Vec ℕ Global) ReadEnd) : Type 0 where
  pub nature : new.nature ≡ old.nature
  pub outputs : new.outputs ≡ old.outputs
  pub faults_out : new.faults_out ≡ old.faults_out
  pub opens : new.opens ≡ old.opens
  pub creates : new.creates ≡ old.creates
  pub turns : new.turns ≡ old.turns
  pub later : old.faults_in ≤ new.faults_in
  pub count : OnOk result (new.faults_in ≡ old.faults_in)
  pub failed : IsErrOf result Failed → Rose old.faults_in new.faults_in
  pub memory : IsErrOf result NoMemory → new.faults_in ≡ old.faults_in
  pub bound : IfOk result (λ v. length v.items ≤ most)
  pub ok : IsTrue old.nature.tells → IfOk result (λ v. IfSome old.unread (λ bytes. v.items ≡ take most bytes))
  pub opened : IsTrue old.nature.tells → OnOk result (0 < most → IsSome old.unread)
  pub position : IsTrue old.nature.tells → IfOk result (λ v. old.unread ≡ put_back v.items new.unread)
  pub taken : IsTrue old.nature.tells → TookFront most old.unread new.unread
  pub calm : IsTrue old.nature.tells → IsTrue old.nature.calm → IsSome old.unread → IsErrOf result Failed → ⊥
