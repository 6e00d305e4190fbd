-- A text that is written as it grows.
use Rattle.std.specs.Prelude.{◌≡◌, ℕ, List, ◌++◌, Result, OnOk}
use Rattle.emtp_io.specs.Cabinet.{CabinetState}
use Rattle.emtp_io.specs.held.Whole.{Appends}
use Rattle.emtp_io.specs.declared.cabinet.Output.{Output}

-- a text was appended to an output, but for the bytes at its end that wait; or a front of it, and a write failed
pub record Gathers {T E : Type 0} (old new : CabinetState) (out : Output) (text waiting : List ℕ) (result : Result T E)
    : Type 0 where
  pub front : List ℕ
  pub rest : List ℕ
  pub split : text ≡ front ++ rest
  pub appends : Appends old new out front result
  pub waits : OnOk result (waiting ≡ rest)
