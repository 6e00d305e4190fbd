-- Beside `Writes`: what values hold for their proofs, and what premises say. No clause of the program reaches it.
use Rattle.std.specs.Prelude.{◌≡◌, ◌≢◌, List, [], ◌∷◌, map, Result, IsSome, IsTrue, IsOk, OnOk, OnErr}
use Rattle.emtp_io.specs.Cabinet.{CabinetState, output, turn, HasCause}
use Rattle.emtp_io.specs.declared.cabinet.Output.{Output}
use Rattle.emtp_io.specs.Writes.{Written, with_all, AllFit, AreCreated, IsCutShort, StopsCreating}

-- the outputs alone, in the order in which they are made
abbrev pub outs : List Written → List Output
outs writes = map (λ (w : Written). w.out) writes

-- an output that is none of these
abbrev pub IsOther : Output → List Output → Type 0
IsOther other [] = Unit {0}
IsOther other (out ∷ outputs) = (other ≢ out) × IsOther other outputs

-- no output is in both lists
abbrev pub AreApart : List Output → List Output → Type 0
AreApart [] others = Unit {0}
AreApart (out ∷ outputs) others = IsOther out others × AreApart outputs others

-- these outputs were made one after the other, or it stopped at one of them and a call failed; all else stays
pub record Makes {T E : Type 0} (old new : CabinetState) (writes : List Written) (result : Result T E) : Type 0 where
  pub nature : new.nature ≡ old.nature
  pub faults_in : new.faults_in ≡ old.faults_in
  pub cause : HasCause old.faults_out new.faults_out result
  pub unread : new.unread ≡ old.unread
  pub stays : (other : Output) → IsSome (output old.outputs other) → IsSome (output new.outputs other)
  pub opens : new.opens ≡ old.opens
  pub turns : (other : Output) → IsOther other (outs writes) → turn new.turns other ≡ turn old.turns other
  pub others : (other : Output) → IsOther other (outs writes) → output new.outputs other ≡ output old.outputs other
  pub created : OnOk result (AreCreated (outs writes) old.creates new)
  pub stopped : OnErr result (StopsCreating (outs writes) old.creates new)
  pub ok : IsTrue old.nature.tells → OnOk result (new.outputs ≡ with_all old.outputs writes)
  pub err : IsTrue old.nature.tells → OnErr result (IsCutShort old.outputs writes new.outputs)
  pub calm : IsTrue old.nature.tells → IsTrue old.nature.calm → AllFit writes old.nature.room → IsOk result
