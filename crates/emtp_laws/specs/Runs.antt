-- Runs as a whole: how many steps and samples there are, and how they end.
use Rattle.std.specs.Prelude.{◌≡◌, ◌-◌, ℕ, List, Contains, length, take}
use Rattle.emtp_case.specs.declared.case.Parts.{Parts}
use Rattle.emtp_machine.specs.History.{history}
use Rattle.emtp_machine.specs.declared.end.Cause.{Cause}
use Rattle.emtp_machine.specs.declared.end.Cause.TheVariants.{Range, Residual, TacsPivot, TacsRange, Tied, ZeroPivot}

-- the same case with another number of steps
abbrev pub with_steps : ℕ → Parts → Parts
with_steps n case = record case { run = record case.run { steps = n } }

-- a list goes on where the other ends
abbrev pub BeginsWith : {X : Type 0} → List X → List X → Type 0
BeginsWith xs ys = take (length ys) xs ≡ ys

-- the steps that a run makes: each has a record, and record 0 is rest
abbrev pub steps_made : Parts → ℕ
steps_made case = length (history case).records - 1

-- the control's causes name a variable, the network's a node
abbrev pub NamesByCause : Parts → Cause → List ℕ → Type 0
NamesByCause case Tied name = Contains case.nodes name
NamesByCause case ZeroPivot name = Contains case.nodes name
NamesByCause case Range name = Contains case.nodes name
NamesByCause case Residual name = Contains case.nodes name
NamesByCause case TacsPivot name = Contains case.vars name
NamesByCause case TacsRange name = Contains case.vars name
