-- What the cards of a case give, line by line.
use Rattle.std.specs.Prelude.{[], ◌+◌, ◌++◌, ◌∷◌, List, Option, None, Some, Result, Ok, Err, ℕ, ℤ}
use Rattle.emtp_card.specs.declared.reason.Bad.{Bad}
use Rattle.emtp_netcards.specs.BranchCard.{branch_card}
use Rattle.emtp_netcards.specs.declared.branch_card.BranchCard.{BranchCard}
use Rattle.emtp_walk.specs.declared.kind.Kind.{Kind}
use Rattle.emtp_walk.specs.declared.kind.Kind.TheVariants as read
use Rattle.emtp_walk.specs.declared.kind.LineReading.{LineReading}

-- what the lines from a number on give, one after another, each by its number, its bytes and as what it is read
abbrev pub given_from : {X : Type 0} → (ℕ → List ℕ → Kind → List X) → ℕ → List LineReading → List (List ℕ) → List X
given_from given number readings [] = []
given_from given number [] (line ∷ lines) = []
given_from given number (kind ∷ readings) (line ∷ lines) =
    given number line kind.kind ++ given_from given (number + 1) readings lines

-- what all lines of a case give
abbrev pub each_card : {X : Type 0} → (ℕ → List ℕ → Kind → List X) → List LineReading → List (List ℕ) → List X
each_card given readings lines = given_from given 1 readings lines

-- ---- branch cards

abbrev pub card_of : Result BranchCard Bad → Option BranchCard
card_of (Ok card) = Some card
card_of (Err bad) = None

-- the branch card of a line, if it is read as one
abbrev pub branch_in : ℤ → ℕ → List ℕ → Kind → Option BranchCard
branch_in dt number line (read.Branch wide) = card_of (branch_card number line dt wide)
branch_in dt number line other = None
