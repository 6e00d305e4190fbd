-- The deck: the case of the lines, or the one fault that decides. A fault of form decides first; then the faults of sense go
-- in the order of their lines, as the sections do.
use Rattle.std.specs.Prelude.{ℕ, ◌+◌, Bool, true, false, List, length, Option, Some, None, Result, Ok, Err, if◌then◌else◌, map}
use Rattle.std.specs.Str.Lines.{lines}
use Rattle.emtp_fix.specs.Chain.{unless}
use Rattle.emtp_card.specs.declared.reason.Bad.{Bad}
use Rattle.emtp_card.specs.declared.reason.Why.TheVariants.{MissingSection}
use Rattle.emtp_case.specs.declared.case.Parts.{Parts}
use Rattle.emtp_walk.specs.Answer.{◌>>=◌, first_bad}
use Rattle.emtp_deck.specs.Branches.{pending_fault, take_branches}
use Rattle.emtp_deck.specs.ControlFilling.{control_parts, tacs_source_of}
use Rattle.emtp_sense.specs.ControlSense.{control_bad}
use Rattle.emtp_deck.specs.Made.{Made, all_asked, none_asked}
use Rattle.emtp_sense.specs.Names.{case_nodes, known_nodes}
use Rattle.emtp_deck.specs.Outputs.{take_outputs, take_tacs_outputs}
use Rattle.emtp_deck.specs.Samples.{has_too_many, samples_bad}
use Rattle.emtp_deck.specs.Sources.{take_sources}
use Rattle.emtp_deck.specs.Switches.{take_switches}
use Rattle.emtp_sense.specs.Variables.{variable_names}
use Rattle.emtp_walk.specs.Walk.{empty_deck, walk}
use Rattle.emtp_walk.specs.declared.deck.Deck.{Deck}
use Rattle.emtp_walk.specs.declared.deck.Place.{Place}
use Rattle.emtp_walk.specs.declared.deck.Place.TheVariants.{After, Begin, Branches, First, Outputs, Points, Second, Sources, Start, Switches, Third, Waiting, Control}

-- what the control makes before the network, given the nodes of the case and the names of its variables
abbrev pub control_made : List (List ℕ) → List (List ℕ) → Deck → Made
control_made nodes variables deck = record { parts = control_parts nodes variables deck; asked = none_asked }

-- the cards of all sections
abbrev pub made_of_deck : List (List ℕ) → List (List ℕ) → Deck → Result Made Bad
made_of_deck nodes variables deck =
    take_tacs_outputs (control_made nodes variables deck) deck.control.outputs
    >>= (λ (m : Made). take_branches deck.points m deck.branches)
    >>= (λ (m : Made). take_switches m deck.switches)
    >>= (λ (m : Made). take_sources m deck.sources)
    >>= (λ (m : Made). take_outputs m deck.outputs)

abbrev pub is_ended : Place → Bool
is_ended Begin = false
is_ended (First seen) = false
is_ended Second = false
is_ended Start = false
is_ended (Control at) = false
is_ended (Branches wide) = false
is_ended (Points group) = false
is_ended (Waiting card wide) = false
is_ended (Third zero' positive wide) = false
is_ended Switches = false
is_ended Sources = false
is_ended Outputs = false
is_ended (After seen) = true

abbrev pub missing_bad : ℕ → Place → Option Bad
missing_bad line place = if is_ended place then None else Some (record { line = line; column = 1; why = MissingSection })

-- why a deck isn't whole after its last line, if it isn't: the cards of a group that it cuts off are judged first
abbrev pub unfinished : ℕ → Made → Place → Option Bad
unfinished line m place = first_bad (pending_fault m place) (missing_bad line place)

-- the sources of the control measure in the whole network, and the channels stand in the order of the record
abbrev pub case_of : Deck → Made → Parts
case_of deck m = record m.parts {
  tacs_sources = map (tacs_source_of m.parts.nodes deck.switches m.parts.vars) deck.control.sources;
  channels = all_asked m.asked;
}

abbrev pub few_samples : List (List ℕ) → List (List ℕ) → Deck → Place → Result (Unit {0}) Bad
few_samples nodes variables deck place = if has_too_many nodes variables deck place then Err (samples_bad deck) else Ok tt

abbrev pub sensible_control : List (List ℕ) → List (List ℕ) → Deck → Place → Result (Unit {0}) Bad
sensible_control nodes variables deck place = unless (control_bad nodes variables deck place) (λ bad. bad) (Ok tt)

-- given the names of all nodes and variables: the size of the record, the control, the network with the nodes that a case may
-- have, and what is missing at the end
abbrev pub deck_case_by : List (List ℕ) → List (List ℕ) → ℕ → Deck → Place → Result Parts Bad
deck_case_by nodes variables line deck place = do
  few ← few_samples nodes variables deck place
  sensible ← sensible_control nodes variables deck place
  m ← made_of_deck (case_nodes nodes) variables deck
  unless (unfinished line m place) (λ bad. bad) (Ok (case_of deck m))

unfoldable pub deck_case : ℕ → Deck → Place → Result Parts Bad
deck_case line deck place = deck_case_by (known_nodes deck place) (variable_names deck place) line deck place

unfoldable pub deck_of : List (List ℕ) → Result Parts Bad
deck_of lines = walk 1 empty_deck Begin lines >>= (λ (read : Deck × Place). deck_case (length lines + 1) read.0 read.1)
