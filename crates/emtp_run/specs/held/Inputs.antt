-- Beside `Inputs`: what values hold for their proofs, and what premises say. No clause of the program reaches it.
use Rattle.std.specs.Prelude.{◌≡◌, ℕ, List, map, All, IsSome, IsTrue, Option, Result, IsErrOf, OnOk}
use Rattle.std.specs.declared.alloc.Global.{Global}
use Rattle.std.specs.declared.vec.Vec.{Vec}
use Rattle.emtp_io.specs.Cabinet.{CabinetState, Rose}
use Rattle.emtp_io.specs.declared.whole.ReadEnd.{ReadEnd}
use Rattle.emtp_io.specs.declared.whole.ReadEnd.TheVariants.{Failed, NoMemory}
use Rattle.emtp_run.specs.declared.reading.InputFile.{InputFile}
use Rattle.emtp_run.specs.Inputs.{Input, opens_after, OpenedSome, TookOfOne, TookOfLast}

-- the files are all there
abbrev pub FilesAreThere : (List ℕ → Option (List ℕ)) → List Input → Type 0
FilesAreThere files inputs = All (λ (input : Input). IsSome (files input.name)) inputs

-- Files were opened by one call each and read one after another, up to the last one or to one that failed. No output is touched,
-- and a fault is counted exactly where a call failed.
pub record ReadsInputs {A : Type 0} (inputs : List Input) (old new : CabinetState) (result : Result A ReadEnd) : Type 0 where
  pub nature : new.nature ≡ old.nature
  pub outputs : new.outputs ≡ old.outputs
  pub faults_out : new.faults_out ≡ old.faults_out
  pub creates : new.creates ≡ old.creates
  pub turns : new.turns ≡ old.turns
  pub opens : OnOk result (new.opens ≡ opens_after inputs old.opens)
  pub opened : OpenedSome inputs old.opens new.opens
  pub failed : IsErrOf result Failed → Rose old.faults_in new.faults_in
  pub memory : IsErrOf result NoMemory → new.faults_in ≡ old.faults_in
  pub count : OnOk result (new.faults_in ≡ old.faults_in)
  pub taken : IsTrue old.nature.tells → TookOfOne old.nature.files inputs old.unread new.unread
  pub last : IsTrue old.nature.tells → OnOk result (TookOfLast old.nature.files inputs old.unread new.unread)
  pub calm : IsTrue old.nature.tells → IsTrue old.nature.calm → FilesAreThere old.nature.files inputs → IsErrOf result Failed → ⊥

-- no call on a file was made
pub record IsUntouched {A : Type 0} (old new : CabinetState) (result : Result A ReadEnd) : Type 0 where
  pub unread : new.unread ≡ old.unread
  pub inputs : new.faults_in ≡ old.faults_in
  pub read : IsErrOf result Failed → ⊥

abbrev pub named_input : InputFile → Input
named_input file = record { name = file.name.now; bound = file.bound }

abbrev pub named_inputs : List InputFile → List Input
named_inputs files = map named_input files

-- the bytes of texts
abbrev pub texts_of : List (Vec ℕ Global) → List (List ℕ)
texts_of texts = map (λ (text : Vec ℕ Global). text.items) texts
