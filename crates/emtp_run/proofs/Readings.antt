-- Files that are read one after the other.
use Rattle.std.proofs.Common.{◌≡◌, ◌∙◌, inr, ℕ, ◌+◌, ◌<◌, ◌≤◌, List, [], ◌∷◌, length, take, IsSome, IsOk, Result, Ok, Err, IsTrue, arith, subst}
use Rattle.std.specs.Prelude.{IsErrAnd, IsErrOf, slice_index_or}
use Rattle.std.proofs.lemmas.List.{take_all}
use Rattle.emtp_io.specs.Cabinet.{CabinetState, IsInputCall, one_more}
use Rattle.emtp_io.specs.declared.whole.ReadEnd.{ReadEnd}
use Rattle.emtp_io.specs.declared.whole.ReadEnd.TheVariants.{Failed, NoMemory}
use Rattle.emtp_run.proofs.Contents.{one_of, opened_all, opened_stopped, opened_upto, opens_more, there_at, took_more, took_stopped, took_upto}
use Rattle.emtp_run.specs.Inputs.{Input}
use Rattle.emtp_run.specs.held.Inputs.{ReadsInputs, named_input, named_inputs}
use Rattle.emtp_run.specs.declared.reading.InputFile.{InputFile}

-- the file couldn't be opened
pub reads-refused : {A T E : Type 0} (input : Input) (old new : CabinetState) (fault : E) (result : Result A ReadEnd) → IsErrAnd result (λ e. e ≡ Failed)
    → IsInputCall {T = T} {E = E} old new (Err fault) → new.opens ≡ one_more old.opens → new.unread ≡ old.unread
    → (IsTrue old.nature.calm → IsSome (old.nature.files input.name) → IsOk {T = T} {E = E} (Err fault))
    → ReadsInputs (input ∷ []) old new result
reads-refused input old new fault (Ok x) is call counted same never = elim is [ ]
reads-refused input old new fault (Err e) is call counted same never = record {
  nature = call.nature;
  outputs = call.outputs;
  faults_out = call.faults_out;
  creates = call.creates;
  turns = call.turns;
  opens = tt;
  opened = inr counted;
  failed = λ failed. call.cause.failed;
  memory = λ wanting. absurd (cc);
  count = tt;
  taken = λ tells. inr same;
  last = λ tells. tt;
  calm = λ tells calm there failed. let ok = never calm (there 0 input (omega arith)) in absurd (cc);
}

-- a file more
pub reads-more : {A : Type 0} (inputs : List InputFile) (at : ℕ) (d : InputFile) (old mid new : CabinetState) (x : A) → at < length inputs
    → ReadsInputs {A = Unit {0}} (named_inputs (take at inputs)) old mid (Ok tt) → ReadsInputs {A = A} (named_input (slice_index_or inputs at d) ∷ []) mid new (Ok x)
    → ReadsInputs {A = Unit {0}} (named_inputs (take (at + 1) inputs)) old new (Ok tt)
reads-more inputs at d old mid new x within first second =
    let took = rw first.nature at second.last in
    let last = λ (tells : IsTrue old.nature.tells). took_more old.nature.files inputs at d old.unread new.unread within (took tells) in
    let opens = opens_more inputs at d old.opens mid.opens new.opens within first.opens second.opens in
    record {
      nature = second.nature ∙ first.nature;
      outputs = second.outputs ∙ first.outputs;
      faults_out = second.faults_out ∙ first.faults_out;
      creates = second.creates ∙ first.creates;
      turns = second.turns ∙ first.turns;
      opens = opens;
      opened = opened_all (named_inputs (take (at + 1) inputs)) old.opens new.opens opens;
      failed = λ failed. absurd (cc);
      memory = λ wanting. absurd (cc);
      count = second.count ∙ first.count;
      taken = λ tells. one_of old.nature.files (named_inputs (take (at + 1) inputs)) old.unread new.unread (last tells);
      last = last;
      calm = λ tells calm there failed. cc;
    }

same_fault : {A B : Type 0} (e f kind : ReadEnd) → f ≡ e → IsErrOf {T = B} {E = ReadEnd} (Err f) kind → IsErrOf {T = A} {E = ReadEnd} (Err e) kind
same_fault e f kind is of = cc

-- it stopped in a file
pub reads-stopped : {A B : Type 0} (inputs : List InputFile) (at : ℕ) (d : InputFile) (old mid new : CabinetState) (e : ReadEnd) (result : Result B ReadEnd) → at < length inputs → IsErrAnd result (λ f. f ≡ e)
    → ReadsInputs {A = Unit {0}} (named_inputs (take at inputs)) old mid (Ok tt) → ReadsInputs {A = A} (named_input (slice_index_or inputs at d) ∷ []) mid new (Err e)
    → ReadsInputs {A = B} (named_inputs inputs) old new result
reads-stopped inputs at d old mid new e (Ok x) within is first second = elim is [ ]
reads-stopped {A = A} {B = B} inputs at d old mid new e (Err f) within is first second =
    let took = rw first.nature at second.taken in
    let never = rw first.nature at second.calm in
    record {
      nature = second.nature ∙ first.nature;
      outputs = second.outputs ∙ first.outputs;
      faults_out = second.faults_out ∙ first.faults_out;
      creates = second.creates ∙ first.creates;
      turns = second.turns ∙ first.turns;
      opens = tt;
      opened = opened_stopped inputs at d old.opens mid.opens new.opens within first.opens second.opened;
      failed = λ failed. let same = same_fault {A = A} {B = B} e f Failed is failed in rw first.count at (second.failed same);
      memory = λ wanting. let same = same_fault {A = A} {B = B} e f NoMemory is wanting in second.memory same ∙ first.count;
      count = tt;
      taken = λ tells. took_stopped old.nature.files inputs at d old.unread mid.unread new.unread within (first.last tells) (took tells);
      last = λ tells. tt;
      calm = λ tells calm there failed. let same = same_fault {A = A} {B = B} e f Failed is failed in never tells calm (there_at old.nature.files inputs at d there within) same;
    }

-- there was no memory for what a file holds
pub reads-wanting : {B : Type 0} (inputs : List InputFile) (at : ℕ) (old new : CabinetState) (e : ReadEnd) (result : Result B ReadEnd) → e ≡ NoMemory → IsErrAnd result (λ f. f ≡ e)
    → ReadsInputs {A = Unit {0}} (named_inputs (take at inputs)) old new (Ok tt) → ReadsInputs {A = B} (named_inputs inputs) old new result
reads-wanting inputs at old new e (Ok x) wanting is first = elim is [ ]
reads-wanting inputs at old new e (Err f) none is first = record {
  nature = first.nature;
  outputs = first.outputs;
  faults_out = first.faults_out;
  creates = first.creates;
  turns = first.turns;
  opens = tt;
  opened = opened_upto inputs at old.opens new.opens first.opens;
  failed = λ failed. absurd (cc);
  memory = λ wanting. first.count;
  count = tt;
  taken = λ tells. took_upto old.nature.files inputs at old.unread new.unread (first.last tells);
  last = λ tells. tt;
  calm = λ tells calm there failed. cc;
}

-- all files were read
pub reads-all : {B : Type 0} (inputs : List InputFile) (at : ℕ) (old new : CabinetState) (x : B) → length inputs ≤ at
    → ReadsInputs {A = Unit {0}} (named_inputs (take at inputs)) old new (Ok tt) → ReadsInputs {A = B} (named_inputs inputs) old new (Ok x)
reads-all inputs at old new x past first =
    let all : take at inputs ≡ inputs = take_all at inputs past in
    let read = subst (λ (xs : List InputFile). ReadsInputs {A = Unit {0}} (named_inputs xs) old new (Ok tt)) all first in
    record {
      nature = read.nature;
      outputs = read.outputs;
      faults_out = read.faults_out;
      creates = read.creates;
      turns = read.turns;
      opens = read.opens;
      opened = read.opened;
      failed = λ failed. absurd (cc);
      memory = λ wanting. absurd (cc);
      count = read.count;
      taken = read.taken;
      last = read.last;
      calm = λ tells calm there failed. cc;
    }
