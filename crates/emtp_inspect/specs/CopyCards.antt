-- Which card each card copies that takes the values of another.
use Rattle.std.specs.Prelude.{[], ◌++◌, List, Option, None, Some, codes, decimal, ℕ}
use Rattle.emtp_case.specs.Branch.{line_of}
use Rattle.emtp_case.specs.declared.case.Parts.{Parts}
use Rattle.emtp_deck.specs.Copies.{values_from}
use Rattle.emtp_deck.specs.declared.copies.ValuesFrom.{ValuesFrom}
use Rattle.emtp_deck.specs.declared.copies.ValuesFrom.TheVariants.{Card as OwnValues, Earlier, Missing}
use Rattle.emtp_inspect.specs.EachCard.{branch_in, each_card}
use Rattle.emtp_netcards.specs.declared.branch_card.BranchCard.{BranchCard}
use Rattle.emtp_walk.specs.declared.kind.Kind.{Kind}
use Rattle.emtp_walk.specs.declared.kind.LineReading.{LineReading}

-- the line of the branch that values come from, where they aren't the card's own; no card of a case lacks them
abbrev pub line_of_values : ValuesFrom → Option ℕ
line_of_values OwnValues = None
line_of_values (Earlier branch) = Some (line_of branch)
line_of_values Missing = None

-- The line of the card that a card copies, by the reader's own rule. The first branch of the case that fits is the first one
-- before the card, since a case has one there.
abbrev pub copied_line : Parts → Option BranchCard → Option ℕ
copied_line p None = None
copied_line p (Some card) = line_of_values (values_from p.nodes p.branches card)

unfoldable pub copy_line : ℕ → ℕ → List ℕ
copy_line number copied = codes "line " ++ decimal number ++ codes ", copies line=" ++ decimal copied ++ codes "\n"

abbrev pub copy_text : ℕ → Option ℕ → List ℕ
copy_text number None = []
copy_text number (Some copied) = copy_line number copied

abbrev pub copy_in : Parts → ℕ → List ℕ → Kind → List ℕ
copy_in p number line kind = copy_text number (copied_line p (branch_in p.run.dt number line kind))

-- a line for each card of a case that copies
abbrev pub copies_text : List LineReading → List (List ℕ) → Parts → List ℕ
copies_text readings lines p = each_card (copy_in p) readings lines
