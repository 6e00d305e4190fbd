-- What is known of a source or a switch without a fault of sense.
use Rattle.emtp_case.specs.declared.limit.TheConstants.{MOST_CHANNELS, MOST_NODES, MOST_SOURCES, MOST_SWITCHES}
use Rattle.std.proofs.Common.{◌≡◌, subst, refl, ℕ, ◌+◌, ◌<◌, ◌≤◌, Bool, true, false, [], ◌∷◌, length, Option, Some, None}
use Rattle.std.specs.Prelude.{if◌then◌else◌, nat_le, nat_lt}
use Rattle.emtp_card.proofs.Faults.{least_none}
use Rattle.emtp_card.specs.declared.fault.Fault.{Fault}
use Rattle.emtp_card.specs.declared.reason.Why.TheVariants.{TwoSources}
use Rattle.emtp_case.specs.declared.case.Parts.{Parts}
use Rattle.emtp_deck.specs.Channels.{switch_channel_count}
use Rattle.emtp_deck.specs.Made.{Made, count_asked, no_room}
use Rattle.emtp_sense.proofs.WithinLimits.{below, within}
use Rattle.emtp_sense.specs.Limits.{too_many}
use Rattle.emtp_sense.specs.Names.{node_number}
use Rattle.emtp_deck.specs.Sources.{is_second, node_fault, source_fault, driver_fault}
use Rattle.emtp_deck.specs.Switches.{switch_fault}
use Rattle.emtp_sense.specs.Variables.{unknown_name}
use Rattle.emtp_netcards.specs.declared.source_card.SourceCard.{SourceCard}
use Rattle.emtp_netcards.specs.declared.switch_card.SwitchCard.{SwitchCard}

-- ---- sources

pub record IsSensibleSource (p : Parts) (card : SourceCard) (node : ℕ) : Type 0 where
  pub room : length p.sources < MOST_SOURCES
  pub first : is_second card node p.sources ≡ false
  pub driver : driver_fault p.vars card ≡ None

single : (second : Bool) → if◌then◌else◌ {A = Option Fault} second (Some (record { column = 3; why = TwoSources })) None ≡ None → second ≡ false
single true e = absurd (cc)
single false e = refl

pub sensible_source : (p : Parts) (card : SourceCard) (node : ℕ) (found : Option ℕ) → found ≡ Some node → source_fault p card found ≡ None → IsSensibleSource p card node
sensible_source p card node None h e = absurd (cc)
sensible_source p card node (Some m) h e =
    let none = least_none (too_many (nat_le MOST_SOURCES (length p.sources)) 1 ∷ node_fault card p.sources (Some m) ∷ driver_fault p.vars card ∷ []) e in
    let same : m ≡ node = cc in
    record {
      room = below MOST_SOURCES (length p.sources) 1 none.0;
      first = subst (λ k. is_second card k p.sources ≡ false) same (single (is_second card m p.sources) none.1.0);
      driver = none.1.1.0;
    }

-- ---- switches

pub record IsSensibleSwitch (m : Made) (card : SwitchCard) : Type 0 where
  pub room : length m.parts.switches < MOST_SWITCHES
  pub asked : count_asked m.asked + switch_channel_count card.asked ≤ MOST_CHANNELS
  pub from_few : node_number m.parts.nodes card.from ≤ MOST_NODES
  pub to_few : node_number m.parts.nodes card.to ≤ MOST_NODES
  pub control : unknown_name m.parts.vars 65 card.control ≡ None

pub sensible_switch : (m : Made) (card : SwitchCard) → switch_fault m card ≡ None → IsSensibleSwitch m card
sensible_switch m card e =
    let none = least_none (too_many (nat_le MOST_SWITCHES (length m.parts.switches)) 1
    ∷ too_many (no_room m.asked (switch_channel_count card.asked)) 1
    ∷ too_many (nat_lt MOST_NODES (node_number m.parts.nodes card.from)) 3
    ∷ too_many (nat_lt MOST_NODES (node_number m.parts.nodes card.to)) 9
    ∷ unknown_name m.parts.vars 65 card.control
    ∷ []) e in
    record {
      room = below MOST_SWITCHES (length m.parts.switches) 1 none.0;
      asked = within 64 (count_asked m.asked + switch_channel_count card.asked) 1 none.1.0;
      from_few = within 1000 (node_number m.parts.nodes card.from) 3 none.1.1.0;
      to_few = within 1000 (node_number m.parts.nodes card.to) 9 none.1.1.1.0;
      control = none.1.1.1.1.0;
    }
