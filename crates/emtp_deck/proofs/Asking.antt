-- How many channels the cards of a section ask for, where no card has a fault of sense; the nodes stay.
use Rattle.emtp_fix.proofs.Chaining.{same_ok, then_ok, unless_ok}
use Rattle.emtp_fix.specs.Chain.{unless}
use Rattle.emtp_case.specs.declared.branch.Trio as modes
use Rattle.std.proofs.Common.{◌≡◌, ◌∙◌, sym, ap, refl, ℕ, ◌+◌, List, [], ◌∷◌, length, fold, Option, Some, None, Ok, arith, length-append, ◌++◌}
use Rattle.std.proofs.lemmas.List.Sums.{sum_by-cons}
use Rattle.std.specs.List.{sum_by}
use Rattle.std.specs.Prelude.{if◌then◌else◌, is_some, option_map, position, map}
use Rattle.std.specs.Str.{bytes_eq}
use Rattle.emtp_case.specs.declared.branch.Branch.{Branch}
use Rattle.emtp_case.specs.declared.branch.Phase.{Phase}
use Rattle.emtp_case.specs.declared.branch.Point.{Point}
use Rattle.emtp_case.specs.declared.case.Parts.{Parts}
use Rattle.emtp_case.specs.declared.channel.Channel.{Channel}
use Rattle.emtp_case.specs.declared.channel.Channel.TheVariants.{NodeVoltage as NodeChannel, SwitchCurrent, SwitchVoltage, Tacs as VariableChannel}
use Rattle.emtp_card.specs.Fault.{bad_at}
use Rattle.emtp_deck.proofs.Growing.{length_entry}
use Rattle.emtp_deck.proofs.Keeping.{length_of_nodes, length_of_switch}
use Rattle.emtp_walk.specs.Answer.{go_on}
use Rattle.emtp_deck.specs.Branches.{entry_channels, entry_count, entry_fault, phase_for, take_branches, take_entry, with_branches, with_entry, with_modes, with_own, with_values}
use Rattle.emtp_deck.specs.Channels.{channels_of, status_of}
use Rattle.emtp_deck.specs.Copies.{modes_for, numbers_behind}
use Rattle.emtp_deck.specs.ControlFilling.{block_of, control_parts, with_extra}
use Rattle.emtp_deck.specs.Deck.{made_of_deck, control_made}
use Rattle.emtp_deck.specs.Made.{Made, count_asked, no_room}
use Rattle.emtp_sense.specs.Limits.{too_many}
use Rattle.emtp_sense.specs.Names.{find_node}
use Rattle.emtp_sense.specs.Variables.{find_variable}
use Rattle.emtp_deck.specs.Outputs.{channel_of, name_fault, node_channels, take_all_nodes, take_known_name, take_name, take_names, take_output, take_outputs, take_tacs_outputs, with_channel, with_channels}
use Rattle.emtp_deck.specs.Samples.{count_of_entry, count_of_switch, deck_count, name_count, output_count, count_of_variables}
use Rattle.emtp_deck.specs.Sources.{source_fault, take_source, take_sources, with_source}
use Rattle.emtp_deck.specs.Switches.{switch_fault, take_switch, take_switches, with_switch}
use Rattle.emtp_deck.specs.declared.outputs.Named.{Named}
use Rattle.emtp_deck.specs.declared.outputs.Named.TheVariants.{Node, Variable}
use Rattle.emtp_walk.specs.declared.control_cards.ExtraEntry.{ExtraEntry}
use Rattle.emtp_walk.specs.declared.control_cards.ExtraEntry.TheVariants.{Device as DeviceEntry, Formula as FormulaEntry}
use Rattle.emtp_walk.specs.declared.control_cards.TacsOutputEntry.{TacsOutputEntry}
use Rattle.emtp_deck.specs.declared.copies.ValuesFrom.{ValuesFrom}
use Rattle.emtp_deck.specs.declared.copies.ValuesFrom.TheVariants.{Card as OwnValues, Earlier, Missing}
use Rattle.emtp_walk.specs.declared.deck.BranchEntry.{BranchEntry}
use Rattle.emtp_walk.specs.declared.deck.BranchEntry.TheVariants.{Single, Trio}
use Rattle.emtp_walk.specs.declared.deck.Deck.{Deck}
use Rattle.emtp_walk.specs.declared.deck.OutputEntry.{OutputEntry}
use Rattle.emtp_netcards.specs.declared.branch_card.BranchCard.{BranchCard}
use Rattle.emtp_netcards.specs.declared.branch_card.BranchValues.{BranchValues}
use Rattle.emtp_netcards.specs.declared.branch_card.BranchValues.TheVariants.{Copied as CopiedCard, Line as LineCard, Lumped as LumpedCard, Reactor as ReactorCard, Resistor as ResistorCard, Second as SecondCard, Third as ThirdCard}
use Rattle.emtp_netcards.specs.declared.output_card.OutputCard.{OutputCard}
use Rattle.emtp_netcards.specs.declared.output_card.OutputCard.TheVariants.{All as AllNodes, Names}
use Rattle.emtp_netcards.specs.declared.source_card.SourceCard.{SourceCard}
use Rattle.emtp_netcards.specs.declared.switch_card.SwitchCard.{SwitchCard}

-- the control stays as it is
pub record KeepsControl (p q : Parts) : Type 0 where
  pub vars : q.vars ≡ p.vars
  pub blocks : q.blocks ≡ p.blocks
  pub extras : q.extras ≡ p.extras

pub same_control : (p : Parts) → KeepsControl p p
same_control p = record { vars = refl; blocks = refl; extras = refl }

-- so many switches and channels are there afterwards
pub record IsAsking (m m' : Made) (switches count : ℕ) : Type 0 where
  pub nodes : m'.parts.nodes ≡ m.parts.nodes
  pub run : m'.parts.run ≡ m.parts.run
  pub control : KeepsControl m.parts m'.parts
  pub switched : length m'.parts.switches ≡ length m.parts.switches + switches
  pub asked : count_asked m'.asked ≡ count_asked m.asked + count

same_asking : (m : Made) → IsAsking m m 0 0
same_asking m = record { nodes = refl; run = refl; control = record { vars = refl; blocks = refl; extras = refl }; switched = omega arith; asked = omega arith }

-- ---- what was no fault

pub no_fault : {X A E : Type 0} (o : Option X) (error : X → E) (x y : A) → unless o error (Ok x) ≡ Ok y → (o ≡ None) × (x ≡ y)
no_fault o error x y e = let s = unless_ok o error (Ok x) y e in (s.0, same_ok x y s.1)

-- ---- branches

-- the parts of a case that no branch changes
record Keeps (p q : Parts) : Type 0 where
  nodes : q.nodes ≡ p.nodes
  run : q.run ≡ p.run
  control : KeepsControl p q
  switches : q.switches ≡ p.switches

kept : (p : Parts) (points : List Point) (branches : List Branch) (trios : List modes.Trio) → Keeps p (record p { points = points; branches = branches; trios = trios })
kept p points branches trios = record { nodes = refl; run = refl; control = record { vars = refl; blocks = refl; extras = refl }; switches = refl }

own_kept : (points : List Point) (p : Parts) (line a b : ℕ) (values : BranchValues) → Keeps p (with_own points p line a b values)
own_kept points p line a b (LumpedCard r l c) = kept p p.points _ p.trios
own_kept points p line a b (LineCard zc r delay) = kept p p.points _ p.trios
own_kept points p line a b (SecondCard zc r delay) = kept p p.points p.branches p.trios
own_kept points p line a b ThirdCard = kept p p.points p.branches p.trios
own_kept points p line a b ReactorCard = kept p (p.points ++ points) _ p.trios
own_kept points p line a b ResistorCard = kept p (p.points ++ points) _ p.trios
own_kept points p line a b (CopiedCard kind x y) = kept p p.points p.branches p.trios

values_kept : (points : List Point) (p : Parts) (card : BranchCard) (a b : ℕ) (values : ValuesFrom) → Keeps p (with_values points p card a b values)
values_kept points p card a b OwnValues = own_kept points p card.line a b card.values
values_kept points p card a b (Earlier branch) = kept p p.points _ p.trios
values_kept points p card a b Missing = kept p p.points p.branches p.trios

modes_kept : (p : Parts) (a b c : Phase) (trio : Option modes.Trio) → Keeps p (with_modes p a b c trio)
modes_kept p a b c (Some trio) = kept p p.points _ _
modes_kept p a b c None = kept p p.points p.branches p.trios

branches_kept : (points : List Point) (p : Parts) (e : BranchEntry) → Keeps p (with_branches points p e)
branches_kept points p (Single card first count) = values_kept _ p card _ _ _
branches_kept points p (Trio zero' positive third) = modes_kept p (phase_for p zero') (phase_for p positive) (phase_for p third) (modes_for (numbers_behind p zero') (numbers_behind p positive))

more_branches : (v o b s t c n : ℕ) → c ≡ b + n → v + o + c + s + t ≡ v + o + b + s + t + n
more_branches v o b s t c n e = omega (arith, e)

pub entry_asks : (points : List Point) (m m' : Made) (e : BranchEntry) → take_entry points m e ≡ Ok m' → IsAsking m m' 0 (entry_count e)
unfolding take_entry
entry_asks points m m' e h =
    let is = (no_fault (entry_fault m e) (λ bad. bad) (with_entry points m e) m' h).1 in
    let added = length_entry (length m.parts.branches) e in
    let keeps = branches_kept points m.parts e in
    rw (sym is) (record {
      nodes = keeps.nodes;
      run = keeps.run;
      control = record { vars = keeps.control.vars; blocks = keeps.control.blocks; extras = keeps.control.extras };
      switched = omega (arith, ap length keeps.switches);
      asked = more_branches (length m.asked.variables) (length m.asked.outputs) (length m.asked.branches) (length m.asked.switches) (length m.asked.statuses) _ (entry_count e)
          (length-append m.asked.branches (entry_channels (length m.parts.branches) e) ∙ ap (λ n. length m.asked.branches + n) added);
    })

after : {m m' m'' : Made} {switches switches' count count' all total : ℕ} → IsAsking m m' switches count → IsAsking m' m'' switches' count' → all ≡ switches + switches' → total ≡ count + count' → IsAsking m m'' all total
after a b d e = record {
  nodes = b.nodes ∙ a.nodes;
  run = b.run ∙ a.run;
  control = record {
    vars = b.control.vars ∙ a.control.vars;
    blocks = b.control.blocks ∙ a.control.blocks;
    extras = b.control.extras ∙ a.control.extras;
  };
  switched = omega (arith, a.switched, b.switched, d);
  asked = omega (arith, a.asked, b.asked, e);
}

pub branches_ask : (points : List Point) (m m' : Made) (es : List BranchEntry) → take_branches points m es ≡ Ok m' → IsAsking m m' 0 (sum_by entry_count es)
branches_ask points m m' [] h = let is : m ≡ m' = cc in rw (sym is) (same_asking m)
branches_ask points m m' (e ∷ es) h =
    let s = then_ok (take_entry points m e) (λ (made : Made). take_branches points made es) m' h in
    let first = entry_asks points m s.0 e s.1 in
    let rest = branches_ask points s.0 m' es s.2 in
    after first rest refl (sum_by-cons entry_count e es)

-- ---- switches

pub switch_asks : (m m' : Made) (card : SwitchCard) → take_switch m card ≡ Ok m' → IsAsking m m' 1 (count_of_switch card)
unfolding take_switch
switch_asks m m' card h =
    let is = (no_fault (switch_fault m card) (bad_at card.line) (with_switch m card) m' h).1 in
    let at = length m.parts.switches in
    let shown = channels_of card.asked (SwitchCurrent at) (SwitchVoltage at) in
    rw (sym is) (record {
      nodes = refl;
      run = refl;
      control = record { vars = refl; blocks = refl; extras = refl };
      switched = length-append m.parts.switches _;
      asked = omega (arith, length-append m.asked.switches shown, length-append m.asked.statuses (status_of card.asked at), length_of_switch card.asked at);
    })

pub switches_ask : (m m' : Made) (cards : List SwitchCard) → take_switches m cards ≡ Ok m' → IsAsking m m' (length cards) (sum_by count_of_switch cards)
switches_ask m m' [] h = let is : m ≡ m' = cc in rw (sym is) (same_asking m)
switches_ask m m' (card ∷ cards) h =
    let s = then_ok (take_switch m card) (λ (made : Made). take_switches made cards) m' h in
    let first = switch_asks m s.0 card s.1 in
    let rest = switches_ask s.0 m' cards s.2 in
    after first rest (omega arith) (sum_by-cons count_of_switch card cards)

-- ---- sources, which ask for nothing

source_added : (m : Made) (card : SourceCard) (node : Option ℕ) → IsAsking m (with_source m card node) 0 0
source_added m card None = same_asking m
source_added m card (Some node) = record { nodes = refl; run = refl; control = record { vars = refl; blocks = refl; extras = refl }; switched = omega arith; asked = omega arith }

source_asks : (m m' : Made) (card : SourceCard) → take_source m card ≡ Ok m' → IsAsking m m' 0 0
unfolding take_source
source_asks m m' card h =
    let node = find_node m.parts.nodes card.name in
    let is = (no_fault (source_fault m.parts card node) (bad_at card.line) (with_source m card node) m' h).1 in
    rw (sym is) (source_added m card node)

pub sources_ask : (m m' : Made) (cards : List SourceCard) → take_sources m cards ≡ Ok m' → IsAsking m m' 0 0
sources_ask m m' [] h = let is : m ≡ m' = cc in rw (sym is) (same_asking m)
sources_ask m m' (card ∷ cards) h =
    let s = then_ok (take_source m card) (λ (made : Made). take_sources made cards) m' h in
    let first = source_asks m s.0 card s.1 in
    let rest = sources_ask s.0 m' cards s.2 in
    after first rest refl refl

-- ---- outputs

channels_added : (named : Named) (m : Made) (channels : List Channel) → IsAsking m (with_channels named m channels) 0 (length channels)
channels_added Node m channels = record { nodes = refl; run = refl; control = same_control m.parts; switched = omega arith; asked = omega (arith, length-append m.asked.outputs channels) }
channels_added Variable m channels = record { nodes = refl; run = refl; control = same_control m.parts; switched = omega arith; asked = omega (arith, length-append m.asked.variables channels) }

channel_asks : (named : Named) (line : ℕ) (m m' : Made) (column : ℕ) (channel : Option Channel) → unless (name_fault m.asked column channel) (bad_at line) (Ok (with_channel named m channel)) ≡ Ok m' → IsAsking m m' 0 (if◌then◌else◌ {A = ℕ} (is_some channel) 1 0)
channel_asks named line m m' column None h = absurd (cc)
channel_asks named line m m' column (Some channel) h =
    let is = (no_fault (name_fault m.asked column (Some channel)) (bad_at line) (with_channels named m (channel ∷ [])) m' h).1 in
    rw (sym is) (channels_added named m (channel ∷ []))

-- what the names of a card can be
abbrev names_of : Named → Parts → List (List ℕ)
names_of Node p = p.nodes
names_of Variable p = p.vars

same_names : (named : Named) (m m' : Made) (switches count : ℕ) → IsAsking m m' switches count → names_of named m'.parts ≡ names_of named m.parts
same_names Node m m' switches count is = is.nodes
same_names Variable m m' switches count is = is.control.vars

is_some_mapped : {A B : Type 0} (f : A → B) (o : Option A) → is_some (option_map f o) ≡ is_some o
is_some_mapped f None = refl
is_some_mapped f (Some x) = refl

is_known : (named : Named) (p : Parts) (name : List ℕ) → is_some (channel_of named p name) ≡ is_some (position (bytes_eq name) (names_of named p))
is_known Node p name = is_some_mapped NodeChannel (find_node p.nodes name) ∙ is_some_mapped (λ at. at + 1) (position (bytes_eq name) p.nodes)
is_known Variable p name = is_some_mapped VariableChannel (find_variable p.vars name)

name_asks : (named : Named) (line : ℕ) (m m' : Made) (column : ℕ) (name : Option (List ℕ)) → take_name named line m column name ≡ Ok m' → IsAsking m m' 0 (name_count (names_of named m.parts) name)
unfolding take_known_name
name_asks named line m m' column None h = let is : m ≡ m' = cc in rw (sym is) (same_asking m)
name_asks named line m m' column (Some name) h = rw (is_known named m.parts name) at (channel_asks named line m m' column (channel_of named m.parts name) h)

names_ask : (named : Named) (line : ℕ) (m m' : Made) (column : ℕ) (names : List (Option (List ℕ))) → take_names named line m column names ≡ Ok m' → IsAsking m m' 0 (sum_by (name_count (names_of named m.parts)) names)
names_ask named line m m' column [] h = let is : m ≡ m' = cc in rw (sym is) (same_asking m)
names_ask named line m m' column (name ∷ names) h =
    let s = then_ok (take_name named line m column name) (λ (made : Made). take_names named line made (column + 6) names) m' h in
    let first = name_asks named line m s.0 column name s.1 in
    let rest = names_ask named line s.0 m' (column + 6) names s.2 in
    let same = same_names named m s.0 0 (name_count (names_of named m.parts) name) first in
    after first (rw same at rest) refl (sum_by-cons (name_count (names_of named m.parts)) name names)

output_asks : (line : ℕ) (m m' : Made) (card : OutputCard) → take_output line m card ≡ Ok m' → IsAsking m m' 0 (output_count m.parts.nodes card)
unfolding take_all_nodes
output_asks line m m' AllNodes h =
    let nodes = length m.parts.nodes in
    let is = (no_fault (too_many (no_room m.asked nodes) 1) (bad_at line) (with_channels Node m (node_channels nodes)) m' h).1 in
    let added = channels_added Node m (node_channels nodes) in
    rw (sym is) (rw (length_of_nodes nodes) at added)
output_asks line m m' (Names names) h = names_ask Node line m m' 3 names h

pub outputs_ask : (m m' : Made) (entries : List OutputEntry) → take_outputs m entries ≡ Ok m' → IsAsking m m' 0 (sum_by (count_of_entry m.parts.nodes) entries)
outputs_ask m m' [] h = let is : m ≡ m' = cc in rw (sym is) (same_asking m)
outputs_ask m m' (entry ∷ entries) h =
    let s = then_ok (take_output entry.line m entry.card) (λ (made : Made). take_outputs made entries) m' h in
    let first = output_asks entry.line m s.0 entry.card s.1 in
    let rest = outputs_ask s.0 m' entries s.2 in
    after first (rw first.nodes at rest) refl (sum_by-cons (count_of_entry m.parts.nodes) entry entries)

pub tacs_outputs_ask : (m m' : Made) (entries : List TacsOutputEntry) → take_tacs_outputs m entries ≡ Ok m' → IsAsking m m' 0 (sum_by (count_of_variables m.parts.vars) entries)
tacs_outputs_ask m m' [] h = let is : m ≡ m' = cc in rw (sym is) (same_asking m)
tacs_outputs_ask m m' (entry ∷ entries) h =
    let s = then_ok (take_names Variable entry.line m 3 entry.names) (λ (made : Made). take_tacs_outputs made entries) m' h in
    let first = names_ask Variable entry.line m s.0 3 entry.names s.1 in
    let rest = tacs_outputs_ask s.0 m' entries s.2 in
    after first (rw first.control.vars at rest) refl (sum_by-cons (count_of_variables m.parts.vars) entry entries)

-- ---- the whole deck

-- what the control makes before the network
pub record IsControlMade (nodes variables : List (List ℕ)) (deck : Deck) (p : Parts) : Type 0 where
  pub nodes_are : p.nodes ≡ nodes
  pub switches : p.switches ≡ []
  pub run : p.run ≡ deck.run
  pub vars : p.vars ≡ variables
  pub blocks : p.blocks ≡ map (block_of variables) deck.control.blocks
  pub sources : p.tacs_sources ≡ []
  pub channels : p.channels ≡ []

extra_kept : (nodes variables : List (List ℕ)) (points : List Point) (p : Parts) (e : ExtraEntry) (deck : Deck) → IsControlMade nodes variables deck p → IsControlMade nodes variables deck (with_extra variables points p e)
extra_kept nodes variables points p (DeviceEntry card first count) deck h = record { nodes_are = h.nodes_are; switches = h.switches; run = h.run; vars = h.vars; blocks = h.blocks; sources = h.sources; channels = h.channels }
extra_kept nodes variables points p (FormulaEntry card) deck h = record { nodes_are = h.nodes_are; switches = h.switches; run = h.run; vars = h.vars; blocks = h.blocks; sources = h.sources; channels = h.channels }

extras_kept : (nodes variables : List (List ℕ)) (points : List Point) (p : Parts) (es : List ExtraEntry) (deck : Deck) → IsControlMade nodes variables deck p → IsControlMade nodes variables deck (fold (with_extra variables points) p es)
extras_kept nodes variables points p [] deck h = h
extras_kept nodes variables points p (e ∷ es) deck h = extras_kept nodes variables points (with_extra variables points p e) es deck (extra_kept nodes variables points p e deck h)

pub control_is : (nodes variables : List (List ℕ)) (deck : Deck) → IsControlMade nodes variables deck (control_parts nodes variables deck)
control_is nodes variables deck = extras_kept nodes variables deck.points _ deck.control.extras deck (record { nodes_are = refl; switches = refl; run = refl; vars = refl; blocks = refl; sources = refl; channels = refl })

-- what is made before each section
pub record AreSections (nodes variables : List (List ℕ)) (deck : Deck) (m : Made) : Type 0 where
  pub before_branches : Made
  pub before_switches : Made
  pub before_sources : Made
  pub before_outputs : Made
  pub signals : take_tacs_outputs (control_made nodes variables deck) deck.control.outputs ≡ Ok before_branches
  pub branches : take_branches deck.points before_branches deck.branches ≡ Ok before_switches
  pub switches : take_switches before_switches deck.switches ≡ Ok before_sources
  pub sources : take_sources before_sources deck.sources ≡ Ok before_outputs
  pub outputs : take_outputs before_outputs deck.outputs ≡ Ok m

pub sections : (nodes variables : List (List ℕ)) (deck : Deck) (m : Made) → made_of_deck nodes variables deck ≡ Ok m → AreSections nodes variables deck m
sections nodes variables deck m h =
    let start = control_made nodes variables deck in
    let d = then_ok (go_on (λ (made : Made). take_sources made deck.sources) (go_on (λ (made : Made). take_switches made deck.switches) (go_on (λ (made : Made). take_branches deck.points made deck.branches) (take_tacs_outputs start deck.control.outputs)))) (λ (made : Made). take_outputs made deck.outputs) m h in
    let c = then_ok (go_on (λ (made : Made). take_switches made deck.switches) (go_on (λ (made : Made). take_branches deck.points made deck.branches) (take_tacs_outputs start deck.control.outputs))) (λ (made : Made). take_sources made deck.sources) d.0 d.1 in
    let b = then_ok (go_on (λ (made : Made). take_branches deck.points made deck.branches) (take_tacs_outputs start deck.control.outputs)) (λ (made : Made). take_switches made deck.switches) c.0 c.1 in
    let a = then_ok (take_tacs_outputs start deck.control.outputs) (λ (made : Made). take_branches deck.points made deck.branches) b.0 b.1 in
    record {
      before_branches = a.0;
      before_switches = b.0;
      before_sources = c.0;
      before_outputs = d.0;
      signals = a.1;
      branches = a.2;
      switches = b.2;
      sources = c.2;
      outputs = d.2;
    }

pub deck_asks : (nodes variables : List (List ℕ)) (deck : Deck) (m : Made) → made_of_deck nodes variables deck ≡ Ok m → IsAsking (control_made nodes variables deck) m (length deck.switches) (deck_count nodes variables deck)
deck_asks nodes variables deck m h =
    let start = control_made nodes variables deck in
    let is = control_is nodes variables deck in
    let s = sections nodes variables deck m h in
    let signals = rw is.vars at (tacs_outputs_ask start s.before_branches deck.control.outputs s.signals) in
    let branches = branches_ask deck.points s.before_branches s.before_switches deck.branches s.branches in
    let switches = switches_ask s.before_switches s.before_sources deck.switches s.switches in
    let sources = sources_ask s.before_sources s.before_outputs deck.sources s.sources in
    let before = after (after (after signals branches refl refl) switches refl refl) sources refl refl in
    let outputs = rw (before.nodes ∙ is.nodes_are) at (outputs_ask s.before_outputs m deck.outputs s.outputs) in
    after before outputs (omega arith) (omega arith)
