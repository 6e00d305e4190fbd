-- Worked rows: which of two refusals comes first, files whose first line decides, and a narrow and a wide card.
use Rattle.emtp_case.specs.declared.limit.TheConstants.{MOST_HISTORY_VALUES}
use Rattle.std.proofs.Common.{◌≡◌, refl, ℕ, ℤ, pos, Bool, false, true, List, [], ◌∷◌, Result, Ok, Err}
use Rattle.std.specs.Prelude.{codes}
use Rattle.emtp_card.specs.Decimal.{value_in}
use Rattle.emtp_card.specs.Field.{columns, trimmed}
use Rattle.emtp_card.specs.Lines.{fault_of_line, is_comment, is_section_end}
use Rattle.emtp_card.specs.Number.{number_field, number_in}
use Rattle.emtp_card.specs.Numeral.{decimal_of, exponent_of}
use Rattle.emtp_card.specs.declared.fault.Fault.{Fault}
use Rattle.emtp_card.specs.declared.reason.Bad.{Bad}
use Rattle.emtp_card.specs.declared.reason.Why.TheVariants.{BadOrder, TooMany, UnknownName}
use Rattle.emtp_deck.specs.Deck.{deck_of}
use Rattle.emtp_netcards.specs.SeriesValues.{c_field, l_field, r_field}
use Rattle.emtp_deck_laws.specs.LeastFault.{is_refused_before}
use Rattle.emtp_walk.specs.Walk.{begin_place}

too_many_nodes : Bad
too_many_nodes = record { line = 7; column = 9; why = TooMany }

-- by line, whatever the columns
earlier_line : is_refused_before (record { line = 6; column = 80; why = TooMany }) too_many_nodes ≡ true
unfolding too_many_nodes
earlier_line = refl

-- on one line by column, whatever the reasons
lesser_column : is_refused_before too_many_nodes (record { line = 7; column = 15; why = UnknownName }) ≡ true
unfolding too_many_nodes
lesser_column = refl

-- at one place by number: UnknownName is 13, TooMany 15
lesser_number : is_refused_before (record { line = 7; column = 9; why = UnknownName }) too_many_nodes ≡ true
unfolding too_many_nodes
lesser_number = refl

not_before_itself : is_refused_before too_many_nodes too_many_nodes ≡ false
unfolding too_many_nodes
not_before_itself = refl

-- a file has to begin with its card, whatever comes behind
first_line : deck_of (codes "ROSES" ∷ codes "BEGIN NEW DATA CASE" ∷ []) ≡ Err (record { line = 1; column = 1; why = BadOrder })
unfolding deck_of begin_place is_comment is_section_end fault_of_line
first_line = refl

-- ---- 1.5 ohm and 2 mH from SRC to MID

-- R, L and C of a card with narrow or with wide fields, in micro-ohm, nH and fF
values : List ℕ → Bool → List (Result ℤ Fault)
values line wide = r_field line wide ∷ l_field line wide ∷ c_field line wide ∷ []

narrow_values : values (codes "  SRC   MID                  1.5   2.0") false ≡ Ok (pos 1500000) ∷ Ok (pos MOST_HISTORY_VALUES) ∷ Ok (pos 0) ∷ []
unfolding values columns trimmed number_field number_in decimal_of exponent_of value_in
narrow_values = refl

wide_values : values (codes "  SRC   MID                            1.5             2.0") true ≡ Ok (pos 1500000) ∷ Ok (pos MOST_HISTORY_VALUES) ∷ Ok (pos 0) ∷ []
unfolding values columns trimmed number_field number_in decimal_of exponent_of value_in
wide_values = refl
