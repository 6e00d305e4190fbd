-- How a line begins that tells of a branch or a switch: as the listing of a case names it.
use Rattle.std.specs.Prelude.{◌++◌, List, codes, decimal, ℕ}
use Rattle.emtp_case.specs.Branch.{from_of, line_of, to_of}
use Rattle.emtp_case.specs.declared.branch.Branch.{Branch}
use Rattle.emtp_case.specs.declared.branch.Branch.TheVariants.{Line as OfLine, Lumped as OfLumped, Phase as OfPhase, Pseudo as OfPseudo}
use Rattle.emtp_case.specs.declared.switch.Switch.{Switch}
use Rattle.emtp_listing.specs.Entry.{node_entry}
use Rattle.emtp_listing.specs.Lines.{separated}
use Rattle.emtp_listing.specs.NetworkLines.{pseudo_word, switch_word}

-- `line 50, words`
unfoldable pub front : ℕ → List ℕ → List ℕ
front line words = codes "line " ++ decimal line ++ codes ", " ++ words

-- `, BUS1=B, BUS2=(ground)`
unfoldable pub ends_text : List (List ℕ) → ℕ → ℕ → List ℕ
ends_text nodes «from» to = separated (node_entry (codes "BUS1") nodes «from») ++ separated (node_entry (codes "BUS2") nodes to)

abbrev pub branch_word : Branch → List ℕ
branch_word (OfLumped x) = codes "series branch"
branch_word (OfLine x) = codes "line"
branch_word (OfPseudo x) = pseudo_word x.reactor
branch_word (OfPhase x) = codes "phase of a line"

-- `line 50, nonlinear resistor, BUS1=B, BUS2=(ground)`
unfoldable pub branch_front : List (List ℕ) → Branch → List ℕ
branch_front nodes b = front (line_of b) (branch_word b) ++ ends_text nodes (from_of b) (to_of b)

-- `line 60, time switch, BUS1=B, BUS2=(ground)`
unfoldable pub switch_front : List (List ℕ) → Switch → List ℕ
switch_front nodes s = front s.line (switch_word s.kind) ++ ends_text nodes s.from s.to
