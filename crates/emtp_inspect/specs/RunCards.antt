-- What the miscellaneous cards say that no case keeps: TMAX as it was written, and IOUT.
use Rattle.std.specs.Prelude.{◌++◌, ◌^◌, [], List, Option, Some, None, Result, Ok, Err, codes, decimal, pos, ℕ, ℤ}
use Rattle.emtp_card.specs.Number.{number_field}
use Rattle.emtp_card.specs.Whole.{whole_field}
use Rattle.emtp_card.specs.declared.reason.Why.{Why}
use Rattle.emtp_inspect.specs.EachCard.{each_card}
use Rattle.emtp_listing.specs.Entry.{figure_entry, number_entry}
use Rattle.emtp_walk.specs.declared.kind.Kind.{Kind}
use Rattle.emtp_walk.specs.declared.kind.Kind.TheVariants.{FirstRun, SecondRun}
use Rattle.emtp_walk.specs.declared.kind.LineReading.{LineReading}

-- TMAX, which no card of a case lacks
abbrev pub end_text : Result (Option ℤ) Why → List ℕ
end_text (Ok (Some end)) = codes ", " ++ number_entry (codes "TMAX") 12 (codes "s") end
end_text (Ok None) = []
end_text (Err why) = []

unfoldable pub first_text : ℕ → List ℕ → List ℕ
first_text number line =
    codes "line " ++ decimal number ++ codes ", first miscellaneous card"
    ++ end_text (number_field line 9 16 (pos 12) (pos 1) (pos (10 ^ 18))) ++ codes "\n"

-- IOUT is 0 where it is blank, or where the line ends a section and so has blank fields
abbrev pub print_of : Result (Option ℤ) Why → ℤ
print_of (Ok (Some number)) = number
print_of (Ok None) = pos 0
print_of (Err why) = pos 0

abbrev pub print_text : ℤ → List ℕ
print_text number = figure_entry (codes "IOUT") 0 [] number

unfoldable pub second_text : ℕ → List ℕ → List ℕ
second_text number line =
    codes "line " ++ decimal number ++ codes ", second miscellaneous card, "
    ++ print_text (print_of (whole_field line 1 8)) ++ codes "\n"

abbrev pub card_text : ℕ → List ℕ → Kind → List ℕ
card_text number line FirstRun = first_text number line
card_text number line SecondRun = second_text number line
card_text number line other = []

-- a line for each of them
abbrev pub run_text : List LineReading → List (List ℕ) → List ℕ
run_text readings lines = each_card card_text readings lines
