-- Outputs that are made one after the other.
use Rattle.std.specs.Prelude.{◌≡◌, ◌⊎◌, ℕ, ◌≤◌, List, [], ◌∷◌, length, take, Some}
use Rattle.emtp_io.specs.Cabinet.{CabinetState, Outputs, one_more, with_output, IsCreatedBy}
use Rattle.emtp_io.specs.declared.cabinet.Output.{Output}

-- an output to be made, with its name and all its bytes
pub record Written : Type 0 where
  pub out : Output
  pub name : List ℕ
  pub bytes : List ℕ

-- the outputs with this one, as far as these bytes
abbrev pub with_written : Outputs → Written → List ℕ → Outputs
with_written outputs w bytes = with_output outputs w.out (Some (record { name = w.name; bytes = bytes }))

-- the outputs after all of these were made
abbrev pub with_all : Outputs → List Written → Outputs
with_all outputs [] = outputs
with_all outputs (w ∷ writes) = with_all (with_written outputs w w.bytes) writes

-- It stopped at one of these: those before it are whole, it isn't made or holds a prefix, and those
-- after it aren't made.
abbrev pub IsCutShort : Outputs → List Written → Outputs → Type 0
IsCutShort outputs [] new = ⊥
IsCutShort outputs (w ∷ writes) new = (new ≡ outputs)
    ⊎ ((k : ℕ) × (k ≤ length w.bytes) × (new ≡ with_written outputs w (take k w.bytes)))
    ⊎ IsCutShort (with_written outputs w w.bytes) writes new

-- The next call of `create` after so many made the first of these outputs, the one after it the second, and so on, and no more
-- calls were made. It says nothing of names and bytes, and holds over any cabinet.
abbrev pub AreCreated : List Output → ℕ → CabinetState → Type 0
AreCreated [] count new = new.creates ≡ count
AreCreated (out ∷ outputs) count new = IsCreatedBy (one_more count) out new × AreCreated outputs (one_more count) new

-- It stopped at one of these: those before it were created so, `create` was called once for this one, and never for those after it.
abbrev pub StopsCreating : List Output → ℕ → CabinetState → Type 0
StopsCreating [] count new = ⊥
StopsCreating (out ∷ outputs) count new =
    (new.creates ≡ one_more count) ⊎ (IsCreatedBy (one_more count) out new × StopsCreating outputs (one_more count) new)

-- each of these, and its name, has room
abbrev pub AllFit : List Written → ℕ → Type 0
AllFit [] room = Unit {0}
AllFit (w ∷ writes) room = (length w.name ≤ room) × (length w.bytes ≤ room) × AllFit writes room
