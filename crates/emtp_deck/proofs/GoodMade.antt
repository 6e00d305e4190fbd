-- What is made of cards so far is a draft, and the channels that were asked for are there.
use Rattle.emtp_fix.proofs.Chaining.{same_ok, then_ok}
use Rattle.emtp_case.specs.declared.limit.TheConstants.{MOST_CHANNELS}
use Rattle.std.proofs.Common.{◌≡◌, ap, sym, subst, refl, ℕ, ◌+◌, ◌==◌, ◌<◌, ◌≤◌, Bool, true, false, not, ◌&&◌, List, [], ◌∷◌, ◌++◌, length, Option, Some, None, option_map, Ok, arith, length-append, length-take}
use Rattle.std.specs.Prelude.{All, if◌then◌else◌, position}
use Rattle.std.specs.List.{list_any}
use Rattle.std.specs.Str.{bytes_eq}
use Rattle.std.specs.Option.{ForSome}
use Rattle.std.proofs.lemmas.List.Quantifiers.{position-Some}
use Rattle.std.proofs.lemmas.List.Elements.{All-append, All-cons, All-head, All-nil, All-tail}
use Rattle.emtp_case.proofs.DraftSteps as steps
use Rattle.emtp_case.specs.Source.{is_voltage_source_at}
use Rattle.emtp_case.specs.held.Case.{IsDraft}
use Rattle.emtp_case.specs.held.Channel.{IsChannel}
use Rattle.emtp_case.specs.held.Sizes.{Sizes, sizes_of}
use Rattle.emtp_case.specs.held.Switch.{IsSwitch, IsSwitchKind}
use Rattle.emtp_case.specs.declared.case.Parts.{Parts}
use Rattle.emtp_case.specs.declared.channel.Channel.{Channel}
use Rattle.emtp_case.specs.declared.channel.Channel.TheVariants.{NodeVoltage as NodeChannel, Status, SwitchCurrent, SwitchVoltage, Tacs as VariableChannel}
use Rattle.emtp_case.specs.declared.switch.SwitchKind.{SwitchKind}
use Rattle.emtp_case.specs.declared.switch.SwitchKind.TheVariants.{Control, Measuring, Time, Valve}
use Rattle.emtp_card.specs.Fault.{bad_at}
use Rattle.emtp_deck.proofs.Asking.{no_fault}
use Rattle.emtp_deck.proofs.Driving.{driven_source}
use Rattle.emtp_deck.proofs.Judging.{sensible_source, sensible_switch}
use Rattle.emtp_deck.proofs.Keeping.{channels_of_there, length_of_nodes, length_of_switch, nodes_there, there_grows}
use Rattle.emtp_deck.specs.Channels.{channels_of, status_of}
use Rattle.emtp_deck.specs.Made.{Made, count_asked, no_room}
use Rattle.emtp_deck.specs.Outputs.{channel_of, name_fault, node_channels, take_all_nodes, take_known_name, take_names, take_output, take_outputs, take_tacs_outputs, with_channel, with_channels}
use Rattle.emtp_deck.specs.Sources.{source_at, source_fault, take_source, take_sources, with_source}
use Rattle.emtp_deck.specs.Switches.{controlled_kind, switch_at, switch_fault, take_switch, take_switches, with_switch}
use Rattle.emtp_deck.specs.held.Filling.{AreThere}
use Rattle.emtp_deck.specs.declared.outputs.Named.{Named}
use Rattle.emtp_deck.specs.declared.outputs.Named.TheVariants.{Node, Variable}
use Rattle.emtp_netcards.specs.held.Fields.{one_variable}
use Rattle.emtp_netcards.specs.held.SourceCard.{HasSourceCardNumbers}
use Rattle.emtp_netcards.specs.held.SwitchCard.{HasSwitchNumbers}
use Rattle.emtp_netcards.specs.declared.output_card.OutputCard.{OutputCard}
use Rattle.emtp_netcards.specs.declared.output_card.OutputCard.TheVariants.{All as AllNodes, Names}
use Rattle.emtp_netcards.specs.declared.source_card.SourceCard.{SourceCard}
use Rattle.emtp_netcards.specs.declared.switch_card.SwitchCard.{SwitchCard}
use Rattle.emtp_sense.proofs.Knowing.{known_name, known_number}
use Rattle.emtp_sense.proofs.Naming.{ends_of}
use Rattle.emtp_sense.proofs.WithinLimits.{within}
use Rattle.emtp_sense.specs.Limits.{too_many}
use Rattle.emtp_sense.specs.Names.{find_node}
use Rattle.emtp_sense.specs.Variables.{find_variable, variable_number}
use Rattle.emtp_sense.specs.held.ControlSensible.{IsKnown}
use Rattle.emtp_sense.specs.held.Naming.{HasSwitchNodes}
use Rattle.emtp_walk.specs.declared.control_cards.TacsOutputEntry.{TacsOutputEntry}
use Rattle.emtp_walk.specs.declared.deck.OutputEntry.{OutputEntry}

pub record IsGood (m : Made) : Type 0 where
  pub draft : IsDraft m.parts
  pub no_sources : m.parts.tacs_sources ≡ []
  pub no_channels : m.parts.channels ≡ []
  pub few : count_asked m.asked ≤ MOST_CHANNELS
  pub there : AreThere (sizes_of m.parts) m.asked

-- ---- sources

at_place : (names : List (List ℕ)) (name : List ℕ) (at : ℕ) → position (bytes_eq name) names ≡ Some at → at < length names
at_place names name at e = (position-Some (bytes_eq name) names at name e).0

node_there : (names : List (List ℕ)) (name : List ℕ) (node : ℕ) → find_node names name ≡ Some node → (1 ≤ node) × (node ≤ length names)
node_there names name node e = by (position (bytes_eq name) names) refl e
  where
    by : (o : Option ℕ) → position (bytes_eq name) names ≡ o → option_map (λ at. at + 1) o ≡ Some node → (1 ≤ node) × (node ≤ length names)
    by (Some at) is d =
        let same : at + 1 ≡ node = cc in
        let low = at_place names name at is in
        (omega (arith, same), omega (arith, same, low))
    by None is d = absurd (cc)

first_one : (current second : Bool) → (not current && second) ≡ false → current ≡ false → second ≡ false
first_one true second e c = absurd (cc)
first_one false second e c = e

source_added : (m : Made) (card : SourceCard) (found : Option ℕ) (m' : Made) → find_node m.parts.nodes card.name ≡ found → IsGood m → HasSourceCardNumbers card → source_fault m.parts card found ≡ None → with_source m card found ≡ m' → IsGood m'
source_added m card None m' is good numbers none same = subst IsGood same good
source_added m card (Some node) m' is good numbers none same =
    let s = sensible_source m.parts card node (Some node) refl none in
    let at = node_there m.parts.nodes card.name node is in
    let fits = driven_source (sizes_of m.parts) m.parts.vars card node refl numbers at.0 at.1 s.driver in
    subst IsGood same (record {
      draft = steps.with_source m.parts (source_at m.parts.vars card node) good.draft s.room fits (first_one card.current (list_any (is_voltage_source_at node) m.parts.sources) s.first);
      no_sources = good.no_sources;
      no_channels = good.no_channels;
      few = good.few;
      there = record { variables = good.there.variables; outputs = good.there.outputs; branches = good.there.branches; switches = good.there.switches; statuses = good.there.statuses };
    })

source_taken : (m : Made) (card : SourceCard) (m' : Made) → IsGood m → HasSourceCardNumbers card → take_source m card ≡ Ok m' → IsGood m'
unfolding take_source
source_taken m card m' good numbers e =
    let found = find_node m.parts.nodes card.name in
    let none = no_fault (source_fault m.parts card found) (bad_at card.line) (with_source m card found) m' e in
    source_added m card found m' refl good numbers none.0 none.1

pub sources_taken : (cards : List SourceCard) (m m' : Made) → IsGood m → All HasSourceCardNumbers cards → take_sources m cards ≡ Ok m' → IsGood m'
sources_taken [] m m' good all e = subst IsGood (same_ok m m' e) good
sources_taken (card ∷ cards) m m' good all e =
    let next = then_ok (take_source m card) (λ (made : Made). take_sources made cards) m' e in
    sources_taken cards next.0 m' (source_taken m card next.0 good (All-head HasSourceCardNumbers card cards all) next.1) (All-tail HasSourceCardNumbers card cards all) next.2

-- ---- switches

kind_fits : (n : Sizes) (variables : List (List ℕ)) (control : Option (List ℕ)) (kind : SwitchKind) → length variables ≡ n.vars → 1 ≤ n.vars → IsSwitchKind one_variable kind → IsKnown variables control → IsSwitchKind n (controlled_kind variables control kind)
kind_fits n variables control (Time close open_at margin) size some h known = h
kind_fits n variables control Measuring size some h known = tt
kind_fits n variables control (Valve ignition holding number) size some h known =
    (h.0, h.1, subst (λ k. ForSome (option_map (variable_number variables) control) (λ v. v < k)) size (known_number variables control known))
kind_fits n variables None (Control number) size some h known = some
kind_fits n variables (Some name) (Control number) size some h known = subst (λ k. variable_number variables name < k) size (known name refl)

-- every case has six variables
some_variables : (p : Parts) → IsDraft p → 1 ≤ length p.vars
some_variables p h = let six = ap length h.control.standing in omega (arith, length-take 6 p.vars, six)

switch_added : (m : Made) (card : SwitchCard) → IsGood m → HasSwitchNumbers card → HasSwitchNodes m.parts.nodes card → switch_fault m card ≡ None → IsGood (with_switch m card)
switch_added m card good numbers nodes none =
    let p = m.parts in
    let at = length p.switches in
    let s = sensible_switch m card none in
    let x = switch_at p.nodes p.vars card in
    let new = sizes_of (record p { switches = p.switches ++ x ∷ [] }) in
    let known = known_name p.vars 65 card.control s.control in
    let fits : IsSwitch (sizes_of p) x = record {
      ends = ends_of p.nodes card.from card.to numbers.ends (nodes.from_node s.from_few) (nodes.to_node s.to_few);
      kind = kind_fits (sizes_of p) p.vars card.control card.kind refl (some_variables p good.draft) numbers.kind known;
    } in
    let grown = there_grows (sizes_of p) new m.asked (record { nodes = omega arith; branches = omega arith; trios = omega arith; switches = omega (arith, length-append p.switches (x ∷ [])); vars = omega arith }) good.there in
    let here : at < new.switches = omega (arith, length-append p.switches (x ∷ [])) in
    record {
      draft = steps.with_switch p x good.draft s.room fits;
      no_sources = good.no_sources;
      no_channels = good.no_channels;
      few = omega (arith, s.asked, length_of_switch card.asked at, length-append m.asked.switches (channels_of card.asked (SwitchCurrent at) (SwitchVoltage at)), length-append m.asked.statuses (status_of card.asked at));
      there = record {
        variables = grown.variables;
        outputs = grown.outputs;
        branches = grown.branches;
        switches = All-append (IsChannel new) m.asked.switches (channels_of card.asked (SwitchCurrent at) (SwitchVoltage at)) grown.switches (channels_of_there (IsChannel new) card.asked (SwitchCurrent at) (SwitchVoltage at) here here);
        statuses = All-append (IsChannel new) m.asked.statuses (status_of card.asked at) grown.statuses (state_there (IsChannel new) (card.asked == 0) (Status at) here);
      };
    }
  where
    state_there : (P : Channel → Type 0) (none : Bool) (c : Channel) → P c → All P (if◌then◌else◌ {A = List Channel} none [] (c ∷ []))
    state_there P true c x = All-nil P
    state_there P false c x = All-cons P c [] x (All-nil P)

switch_taken : (m : Made) (card : SwitchCard) (m' : Made) → IsGood m → HasSwitchNumbers card → HasSwitchNodes m.parts.nodes card → take_switch m card ≡ Ok m' → IsGood m' × (m'.parts.nodes ≡ m.parts.nodes)
unfolding take_switch
switch_taken m card m' good numbers nodes e =
    let none = no_fault (switch_fault m card) (bad_at card.line) (with_switch m card) m' e in
    (subst IsGood none.1 (switch_added m card good numbers nodes none.0), sym (ap (λ (k : Made). k.parts.nodes) none.1))

pub switches_taken : (cards : List SwitchCard) (m m' : Made) → IsGood m → All HasSwitchNumbers cards → All (HasSwitchNodes m.parts.nodes) cards → take_switches m cards ≡ Ok m' → IsGood m'
switches_taken [] m m' good all nodes e = subst IsGood (same_ok m m' e) good
switches_taken (card ∷ cards) m m' good all nodes e =
    let next = then_ok (take_switch m card) (λ (made : Made). take_switches made cards) m' e in
    let taken = switch_taken m card next.0 good (All-head HasSwitchNumbers card cards all) (All-head (HasSwitchNodes m.parts.nodes) card cards nodes) next.1 in
    switches_taken cards next.0 m' taken.0 (All-tail HasSwitchNumbers card cards all) (subst (λ ns. All (HasSwitchNodes ns) cards) (sym taken.1) (All-tail (HasSwitchNodes m.parts.nodes) card cards nodes)) next.2

-- ---- outputs

more_channels : (named : Named) (m : Made) (more : List Channel) → IsGood m → count_asked m.asked + length more ≤ MOST_CHANNELS → All (IsChannel (sizes_of m.parts)) more → IsGood (with_channels named m more)
more_channels Node m more good few fit = record {
  draft = good.draft;
  no_sources = good.no_sources;
  no_channels = good.no_channels;
  few = omega (arith, few, length-append m.asked.outputs more);
  there = record {
    variables = good.there.variables;
    outputs = All-append (IsChannel (sizes_of m.parts)) m.asked.outputs more good.there.outputs fit;
    branches = good.there.branches;
    switches = good.there.switches;
    statuses = good.there.statuses;
  };
}
more_channels Variable m more good few fit = record {
  draft = good.draft;
  no_sources = good.no_sources;
  no_channels = good.no_channels;
  few = omega (arith, few, length-append m.asked.variables more);
  there = record {
    variables = All-append (IsChannel (sizes_of m.parts)) m.asked.variables more good.there.variables fit;
    outputs = good.there.outputs;
    branches = good.there.branches;
    switches = good.there.switches;
    statuses = good.there.statuses;
  };
}

channel_there : (named : Named) (p : Parts) (name : List ℕ) (c : Channel) → channel_of named p name ≡ Some c → IsChannel (sizes_of p) c
channel_there Node p name c e = by (find_node p.nodes name) refl e
  where
    by : (o : Option ℕ) → find_node p.nodes name ≡ o → option_map NodeChannel o ≡ Some c → IsChannel (sizes_of p) c
    by (Some node) is d = let same : NodeChannel node ≡ c = cc in subst (IsChannel (sizes_of p)) same (node_there p.nodes name node is)
    by None is d = absurd (cc)
channel_there Variable p name c e = by (find_variable p.vars name) refl e
  where
    by : (o : Option ℕ) → find_variable p.vars name ≡ o → option_map VariableChannel o ≡ Some c → IsChannel (sizes_of p) c
    by (Some v) is d = let same : VariableChannel v ≡ c = cc in subst (IsChannel (sizes_of p)) same (at_place p.vars name v is)
    by None is d = absurd (cc)

name_added : (named : Named) (line : ℕ) (m : Made) (column : ℕ) (name : List ℕ) (o : Option Channel) (m' : Made) → channel_of named m.parts name ≡ o → IsGood m → name_fault m.asked column o ≡ None → with_channel named m o ≡ m' → IsGood m'
name_added named line m column name None m' is good none same = subst IsGood same good
name_added named line m column name (Some c) m' is good none same =
    let room = within MOST_CHANNELS (count_asked m.asked + 1) column none in
    subst IsGood same (more_channels named m (c ∷ []) good room (All-cons (IsChannel (sizes_of m.parts)) c [] (channel_there named m.parts name c is) (All-nil (IsChannel (sizes_of m.parts)))))

known_taken : (named : Named) (line : ℕ) (m : Made) (column : ℕ) (name : List ℕ) (m' : Made) → IsGood m → take_known_name named line m column name ≡ Ok m' → IsGood m'
unfolding take_known_name
known_taken named line m column name m' good e =
    let o = channel_of named m.parts name in
    let none = no_fault (name_fault m.asked column o) (bad_at line) (with_channel named m o) m' e in
    name_added named line m column name o m' refl good none.0 none.1

names_taken : (named : Named) (line : ℕ) (names : List (Option (List ℕ))) (m : Made) (column : ℕ) (m' : Made) → IsGood m → take_names named line m column names ≡ Ok m' → IsGood m'
names_taken named line [] m column m' good e = subst IsGood (same_ok m m' e) good
names_taken named line (None ∷ names) m column m' good e = names_taken named line names m (column + 6) m' good e
names_taken named line (Some name ∷ names) m column m' good e =
    let next = then_ok (take_known_name named line m column name) (λ (made : Made). take_names named line made (column + 6) names) m' e in
    names_taken named line names next.0 (column + 6) m' (known_taken named line m column name next.0 good next.1) next.2

all_taken : (line : ℕ) (m m' : Made) → IsGood m → take_all_nodes line m ≡ Ok m' → IsGood m'
unfolding take_all_nodes
all_taken line m m' good e =
    let n = length m.parts.nodes in
    let none = no_fault (too_many (no_room m.asked n) 1) (bad_at line) (with_channels Node m (node_channels n)) m' e in
    let room = within MOST_CHANNELS (count_asked m.asked + n) 1 none.0 in
    subst IsGood none.1 (more_channels Node m (node_channels n) good (omega (arith, room, length_of_nodes n)) (nodes_there (sizes_of m.parts) n (omega arith)))

output_taken : (line : ℕ) (card : OutputCard) (m m' : Made) → IsGood m → take_output line m card ≡ Ok m' → IsGood m'
output_taken line AllNodes m m' good e = all_taken line m m' good e
output_taken line (Names names) m m' good e = names_taken Node line names m 3 m' good e

pub outputs_taken : (entries : List OutputEntry) (m m' : Made) → IsGood m → take_outputs m entries ≡ Ok m' → IsGood m'
outputs_taken [] m m' good e = subst IsGood (same_ok m m' e) good
outputs_taken (entry ∷ entries) m m' good e =
    let next = then_ok (take_output entry.line m entry.card) (λ (made : Made). take_outputs made entries) m' e in
    outputs_taken entries next.0 m' (output_taken entry.line entry.card m next.0 good next.1) next.2

pub tacs_outputs_taken : (entries : List TacsOutputEntry) (m m' : Made) → IsGood m → take_tacs_outputs m entries ≡ Ok m' → IsGood m'
tacs_outputs_taken [] m m' good e = subst IsGood (same_ok m m' e) good
tacs_outputs_taken (entry ∷ entries) m m' good e =
    let next = then_ok (take_names Variable entry.line m 3 entry.names) (λ (made : Made). take_tacs_outputs made entries) m' e in
    tacs_outputs_taken entries next.0 m' (names_taken Variable entry.line entry.names m 3 next.0 good next.1) next.2
