-- A row: a closing and an opening time for each time switch.
use Rattle.std.specs.Prelude.{ℕ, ◌+◌, ℤ, pos, neg_ℤ, List, [], ◌∷◌, drop, slice_get, Option, Some, None, option_map, Result, Ok, Err, codes, if◌then◌else◌}
use Rattle.std.specs.Option.{option_and_then}
use Rattle.std.specs.Result.{result_ok}
use Rattle.std.specs.Str.{bytes_eq}
use Rattle.emtp_card.specs.Number.{held_number}
use Rattle.emtp_case.specs.declared.switch.Times.{Times}
use Rattle.emtp_fix.specs.declared.limit.TheConstants.{LARGEST_TIME}
use Rattle.emtp_batch.specs.Items.{items_of}

-- ---- items

-- a number of seconds, in ps, held to the range of times
abbrev pub time_of : List ℕ → Option ℤ
time_of item = result_ok (held_number item (pos 12) (neg_ℤ (pos LARGEST_TIME)) (pos LARGEST_TIME))

-- a closing time: the card's, where the item is `*`
abbrev pub closing_time : ℤ → List ℕ → Option ℤ
closing_time card item = if bytes_eq item (codes "*") then Some card else time_of item

-- an opening time: the card's, where the item is `*`, and never where it is `-`
abbrev pub opening_time : Option ℤ → List ℕ → Option (Option ℤ)
opening_time card item =
    if bytes_eq item (codes "*") then Some card
    else if bytes_eq item (codes "-") then Some None
    else option_map Some (time_of item)

-- the times that two items give, or the number of the first of them that gives none
abbrev pub times_or_item : ℕ → Option ℤ → Option (Option ℤ) → Result Times ℕ
times_or_item at None opening = Err at
times_or_item at (Some close) None = Err (at + 1)
times_or_item at (Some close) (Some opening) = Ok (record { close = close; open_at = opening })

-- the times of a switch from the items at its place; a lacking item gives none
abbrev pub times_at : ℕ → Times → List (List ℕ) → Result Times ℕ
times_at at card items =
    times_or_item at (option_and_then (closing_time card.close) (slice_get items 0))
    (option_and_then (opening_time card.open_at) (slice_get items 1))

-- ---- rows

-- one in front of the others, where all are right; else the first that is wrong
abbrev pub cons_result : {A B : Type 0} → Result A B → Result (List A) B → Result (List A) B
cons_result (Err wrong) others = Err wrong
cons_result (Ok x) (Err wrong) = Err wrong
cons_result (Ok x) (Ok others) = Ok (x ∷ others)

-- the times that items give, from an item on, or the number of the least item that is wrong, lacking or one too many
abbrev pub times_from : ℕ → List Times → List (List ℕ) → Result (List Times) ℕ
times_from at [] [] = Ok []
times_from at [] (item ∷ more) = Err at
times_from at (card ∷ cards) items = cons_result (times_at at card items) (times_from (at + 2) cards (drop 2 items))

-- the times of a row, or the number of its least faulty item
unfoldable pub row_times : List Times → List ℕ → Result (List Times) ℕ
row_times cards line = times_from 1 cards (items_of line)
