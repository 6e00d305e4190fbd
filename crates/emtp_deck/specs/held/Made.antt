-- Beside `Made`: what values hold for their proofs, and what premises say. No clause of the program reaches it.
use Rattle.std.specs.Prelude.{List, ℕ}
use Rattle.emtp_case.specs.Case.{empty_parts}
use Rattle.emtp_case.specs.declared.run_data.RunData.{RunData}
use Rattle.emtp_deck.specs.Made.{Made, none_asked}

-- what is made of the miscellaneous cards alone, with the nodes of the case
abbrev pub named_made : List (List ℕ) → RunData → Made
named_made nodes run = record { parts = record (empty_parts run) { nodes = nodes }; asked = none_asked }
