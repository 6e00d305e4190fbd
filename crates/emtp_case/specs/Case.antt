-- The empty case, its standing variables, and the three branches that a three-phase line is.
use Rattle.emtp_case.specs.declared.branch.Branch.{Branch}
use Rattle.emtp_case.specs.declared.branch.Branch.TheVariants.{Phase as OfPhase}
use Rattle.emtp_case.specs.declared.branch.Phase.{Phase}
use Rattle.emtp_case.specs.declared.case.Parts.{Parts}
use Rattle.emtp_case.specs.declared.run_data.RunData.{RunData}
use Rattle.std.specs.Prelude.{◌∷◌, [], List, codes, ℕ}

-- the names of the variables that every case has: TIMEX, ISTEP, DELTAT, ZERO, PLUS1, MINUS1
abbrev pub standing_names : List (List ℕ)
standing_names = codes "TIMEX" ∷ codes "ISTEP" ∷ codes "DELTAT" ∷ codes "ZERO" ∷ codes "PLUS1" ∷ codes "MINUS1" ∷ []

-- the case of the miscellaneous cards alone
abbrev pub empty_parts : RunData → Parts
empty_parts run = record {
  run = run;
  nodes = [];
  branches = [];
  trios = [];
  points = [];
  switches = [];
  sources = [];
  vars = standing_names;
  tacs_sources = [];
  blocks = [];
  extras = [];
  channels = [];
}

-- the three phases of a three-phase line, whose numbers are to be set
abbrev pub phase_branches : ℕ → Phase → Phase → Phase → List Branch
phase_branches t a b c =
    OfPhase (record a { trio = t; phase = 0 }) ∷ OfPhase (record b { trio = t; phase = 1 })
    ∷ OfPhase (record c { trio = t; phase = 2 }) ∷ []
