-- Sources: what each card gives the case, unless it has a fault of sense. Of a card the least fault counts.
use Rattle.emtp_fix.specs.Chain.{unless}
use Rattle.emtp_case.specs.declared.limit.TheConstants.{MOST_SOURCES}
use Rattle.std.specs.List.{list_any}
use Rattle.std.specs.Prelude.{ℕ, nat_le, Bool, not, ◌&&◌, List, [], ◌∷◌, ◌++◌, length, Option, Some, None, Result, Ok, if◌then◌else◌}
use Rattle.emtp_card.specs.Fault.{bad_at, least}
use Rattle.emtp_card.specs.declared.fault.Fault.{Fault}
use Rattle.emtp_card.specs.declared.reason.Bad.{Bad}
use Rattle.emtp_card.specs.declared.reason.Why.TheVariants.{TwoSources, UnknownName}
use Rattle.emtp_case.specs.Source.{is_voltage_source_at}
use Rattle.emtp_case.specs.declared.case.Parts.{Parts}
use Rattle.emtp_case.specs.declared.source.Shape.{Shape}
use Rattle.emtp_case.specs.declared.source.Shape.TheVariants.{Tacs}
use Rattle.emtp_case.specs.declared.source.Source.{Source}
use Rattle.emtp_walk.specs.Answer.{go_on}
use Rattle.emtp_deck.specs.Made.{Made}
use Rattle.emtp_sense.specs.Limits.{too_many}
use Rattle.emtp_sense.specs.Names.{find_node}
use Rattle.emtp_sense.specs.Variables.{unknown_name, variable_number}
use Rattle.emtp_netcards.specs.SourceCard.{source_of}
use Rattle.emtp_netcards.specs.declared.source_card.SourceCard.{SourceCard}

-- a node has at most one voltage source
abbrev pub is_second : SourceCard → ℕ → List Source → Bool
is_second card node sources = not card.current && list_any (is_voltage_source_at node) sources

-- a source of type 60 has the name of a variable too
abbrev pub driver_by : List (List ℕ) → List ℕ → Shape → Option Fault
driver_by variables name (Tacs variable) = unknown_name variables 3 (Some name)
driver_by variables name other = None

abbrev pub driver_fault : List (List ℕ) → SourceCard → Option Fault
driver_fault variables card = driver_by variables card.name card.shape

abbrev pub node_fault : SourceCard → List Source → Option ℕ → Option Fault
node_fault card sources None = Some (record { column = 3; why = UnknownName })
node_fault card sources (Some node) = if is_second card node sources then Some (record { column = 3; why = TwoSources }) else None

-- the faults of sense of a card, given the number of its node, if it is one
abbrev pub source_fault : Parts → SourceCard → Option ℕ → Option Fault
source_fault p card node =
    least (too_many (nat_le MOST_SOURCES (length p.sources)) 1 ∷ node_fault card p.sources node
    ∷ driver_fault p.vars card ∷ [])

abbrev pub driven_shape : List (List ℕ) → List ℕ → Shape → Shape
driven_shape variables name (Tacs variable) = Tacs (variable_number variables name)
driven_shape variables name other = other

-- the source of a card at its node
abbrev pub source_at : List (List ℕ) → SourceCard → ℕ → Source
source_at variables card node = record (source_of card) { node = node; shape = driven_shape variables card.name card.shape }

abbrev pub with_source : Made → SourceCard → Option ℕ → Made
with_source m card None = m
with_source m card (Some node) =
    record m { parts = record m.parts { sources = m.parts.sources ++ source_at m.parts.vars card node ∷ [] } }

unfoldable pub take_source : Made → SourceCard → Result Made Bad
take_source m card =
    let node = find_node m.parts.nodes card.name in
    unless (source_fault m.parts card node) (bad_at card.line) (Ok (with_source m card node))

-- the first card that has a fault decides
abbrev pub take_sources : Made → List SourceCard → Result Made Bad
take_sources m [] = Ok m
take_sources m (card ∷ cards) = go_on (λ (made : Made). take_sources made cards) (take_source m card)
