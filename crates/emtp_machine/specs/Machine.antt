-- What an end says: a step of the run, and a name of the case.
use Rattle.std.specs.Prelude.{◌≤◌, ◌⊎◌, ℕ, List, Contains}
use Rattle.emtp_case.specs.declared.case.Parts.{Parts}
use Rattle.emtp_machine.specs.declared.end.End.{End}

-- a name of the case: of a node or of a variable
abbrev pub IsNamed : Parts → List ℕ → Type 0
IsNamed case name = Contains case.nodes name ⊎ Contains case.vars name

-- an end names a step of the run and a node or a variable of the case
pub record IsEnd (case : Parts) (end : End) : Type 0 where
  pub some : 1 ≤ end.step
  pub within : end.step ≤ case.run.steps
  pub named : IsNamed case end.name
