-- Decks of which the cards of time switches have other times give the same case with these times.
use Rattle.emtp_fix.proofs.Chaining.{then_ok}
use Rattle.std.proofs.Common.{◌≡◌, ◌∙◌, ap, sym, subst, refl, ℕ, suc, ◌+◌, ℤ, List, [], ◌∷◌, ◌++◌, length, map, fold, Option, Some, None, Ok, inl, inr}
use Rattle.std.specs.Prelude.{cond, nat_lt, not, unwrap_or}
use Rattle.std.specs.List.{position_or_len}
use Rattle.emtp_case.specs.Switch.{card_times, with_times}
use Rattle.emtp_case.specs.declared.case.Parts.{Parts}
use Rattle.emtp_case.specs.declared.channel.Channel.{Channel}
use Rattle.emtp_case.specs.declared.channel.Channel.TheVariants.{SwitchCurrent, SwitchVoltage}
use Rattle.emtp_case.specs.declared.source.Shape.{Shape}
use Rattle.emtp_case.specs.declared.source.Shape.TheVariants.{Cosine, NodeVoltage, Pulse, Ramp, Saw, Step, SwitchCurrent as CurrentShape, SwitchStatus as StatusShape, Tacs}
use Rattle.emtp_case.specs.declared.source.Source.{Source}
use Rattle.emtp_case.specs.declared.switch.Switch.{Switch}
use Rattle.emtp_case.specs.declared.switch.SwitchKind.{SwitchKind}
use Rattle.emtp_case.specs.declared.switch.SwitchKind.TheVariants.{Control, Measuring, Time, Valve}
use Rattle.emtp_case.specs.declared.switch.Times.{Times}
use Rattle.emtp_deck.proofs.Asking.{no_fault}
use Rattle.emtp_deck.specs.Channels.{channels_of, status_of}
use Rattle.emtp_deck.specs.ControlFilling.{measuring, switch_place, tacs_source_of}
use Rattle.emtp_deck.specs.Deck.{case_of, deck_case, deck_of}
use Rattle.emtp_deck.specs.Made.{Made}
use Rattle.emtp_deck.specs.Sources.{with_source}
use Rattle.emtp_deck.specs.Switches.{controlled_kind, switch_at, with_switch}
use Rattle.emtp_netcards.specs.declared.output_card.OutputCard.{OutputCard}
use Rattle.emtp_netcards.specs.declared.output_card.OutputCard.TheVariants.{All as AllNodes, Names}
use Rattle.emtp_netcards.specs.declared.source_card.SourceCard.{SourceCard}
use Rattle.emtp_netcards.specs.declared.switch_card.SwitchCard.{SwitchCard}
use Rattle.emtp_sense.specs.ControlSense.{ends_at}
use Rattle.emtp_sense.specs.Names.{case_nodes, find_node, known_nodes, with_entry_names, with_pending_nodes, with_switch_names}
use Rattle.emtp_sense.specs.Variables.{variable_names}
use Rattle.emtp_walk.specs.Walk.{empty_deck, walk}
use Rattle.emtp_walk.specs.declared.deck.Deck.{Deck}
use Rattle.emtp_walk.specs.declared.deck.OutputEntry.{OutputEntry}
use Rattle.emtp_walk.specs.declared.deck.Place.{Place}
use Rattle.emtp_walk.specs.declared.deck.Place.TheVariants.{Begin}
use Rattle.emtp_deck_laws.specs.CardFaults.{asking_output, channel_of_node}
use Rattle.emtp_deck_laws.specs.JudgedCards.{judged_cards, made_before_switches, made_names, made_of_all, made_output, made_outputs, made_sources, made_switches}
use Rattle.emtp_deck_laws.specs.OtherTimes.{HasOtherTimes, case_with_times}
use Rattle.emtp_deck_laws.proofs.FirstRefusal.{first_refusal}
use Rattle.emtp_deck_laws.proofs.JudgedDeck.{deck_refused}
use Rattle.emtp_deck_laws.proofs.TimedCards.{AreTimedKinds}
use Rattle.emtp_deck_laws.proofs.TimedWalks.{AllTimed, walks_alike, with_cards}

-- ---- names of nodes, and the switches at them

card_with : SwitchCard → SwitchKind → SwitchCard
card_with card kind = record card { kind = kind }

nodes_same : (names : List (List ℕ)) (ones others : List SwitchCard) → AllTimed ones others → fold with_switch_names names ones ≡ fold with_switch_names names others
nodes_same names [] [] h = refl
nodes_same names [] (y ∷ others) h = absurd h
nodes_same names (x ∷ ones) [] h = absurd h
nodes_same names (x ∷ ones) (y ∷ others) h =
    ap (λ (card : SwitchCard). fold with_switch_names (with_switch_names names card) ones) (sym h.0.is)
    ∙ nodes_same (with_switch_names names y) ones others h.1

deck_nodes_same : (d : Deck) (cards : List SwitchCard) (place : Place) → AllTimed d.switches cards → known_nodes (with_cards d cards) place ≡ known_nodes d place
deck_nodes_same d cards place h = ap (λ names. with_pending_nodes names place) (sym (nodes_same (fold with_entry_names [] d.branches) d.switches cards h))

as_many : (ones others : List SwitchCard) → AllTimed ones others → length ones ≡ length others
as_many [] [] h = refl
as_many [] (y ∷ others) h = absurd h
as_many (x ∷ ones) [] h = absurd h
as_many (x ∷ ones) (y ∷ others) h = ap suc (as_many ones others h.1)

place_same : (name : List ℕ) (ones others : List SwitchCard) → AllTimed ones others → position_or_len (ends_at name) ones ≡ position_or_len (ends_at name) others
place_same name [] [] h = refl
place_same name [] (y ∷ others) h = absurd h
place_same name (x ∷ ones) [] h = absurd h
place_same name (x ∷ ones) (y ∷ others) h =
    ap (λ n. cond (not (ends_at name x)) (1 + n) 0) (place_same name ones others h.1)
    ∙ ap (λ (card : SwitchCard). cond (not (ends_at name card)) (1 + position_or_len (ends_at name) others) 0) (sym h.0.is)

switch_same : (name : List ℕ) (ones others : List SwitchCard) → AllTimed ones others → switch_place ones name ≡ switch_place others name
switch_same name ones others h =
    ap (λ n. unwrap_or (cond (nat_lt n (length ones)) (Some n) None) 0) (place_same name ones others h)
    ∙ ap (λ n. unwrap_or (cond (nat_lt (position_or_len (ends_at name) others) n) (Some (position_or_len (ends_at name) others)) None) 0) (as_many ones others h)

measured_same : (nodes : List (List ℕ)) (ones others : List SwitchCard) (name : List ℕ) (shape : Shape) → AllTimed ones others → measuring nodes ones name shape ≡ measuring nodes others name shape
measured_same nodes ones others name Step h = refl
measured_same nodes ones others name (Ramp rise) h = refl
measured_same nodes ones others name (Cosine freq phase) h = refl
measured_same nodes ones others name (Tacs var) h = refl
measured_same nodes ones others name (Pulse period width) h = refl
measured_same nodes ones others name (Saw period) h = refl
measured_same nodes ones others name (NodeVoltage node) h = refl
measured_same nodes ones others name (CurrentShape switch) h = ap CurrentShape (switch_same name ones others h)
measured_same nodes ones others name (StatusShape switch) h = ap StatusShape (switch_same name ones others h)

signal_with : List (List ℕ) → SourceCard → Shape → Source
signal_with variables card shape = record (tacs_source_of [] [] variables card) { shape = shape }

signals_same : (nodes variables : List (List ℕ)) (ones others : List SwitchCard) (cards : List SourceCard) → AllTimed ones others
    → map (tacs_source_of nodes ones variables) cards ≡ map (tacs_source_of nodes others variables) cards
unfolding signal_with
signals_same nodes variables ones others [] h = refl
signals_same nodes variables ones others (card ∷ cards) h =
    ap (λ shape. signal_with variables card shape ∷ map (tacs_source_of nodes ones variables) cards) (measured_same nodes ones others card.name card.shape h)
    ∙ ap (λ xs. tacs_source_of nodes others variables card ∷ xs) (signals_same nodes variables ones others cards h)

-- ---- switches

record IsTimedSwitch (one other : Switch) : Type 0 where
  is : other ≡ record one { kind = other.kind }
  kinds : AreTimedKinds one.kind other.kind

abbrev AllSwitches : List Switch → List Switch → Type 0
AllSwitches [] [] = Unit {0}
AllSwitches [] (other ∷ others) = ⊥
AllSwitches (one ∷ ones) [] = ⊥
AllSwitches (one ∷ ones) (other ∷ others) = IsTimedSwitch one other × AllSwitches ones others

all_with : (ones others : List Switch) (one other : Switch) → AllSwitches ones others → IsTimedSwitch one other → AllSwitches (ones ++ one ∷ []) (others ++ other ∷ [])
all_with [] [] one other h timed = (timed, tt)
all_with [] (y ∷ others) one other h timed = absurd h
all_with (x ∷ ones) [] one other h timed = absurd h
all_with (x ∷ ones) (y ∷ others) one other h timed = (h.0, all_with ones others one other h.1 timed)

many_switches : (ones others : List Switch) → AllSwitches ones others → length ones ≡ length others
many_switches [] [] h = refl
many_switches [] (y ∷ others) h = absurd h
many_switches (x ∷ ones) [] h = absurd h
many_switches (x ∷ ones) (y ∷ others) h = ap suc (many_switches ones others h.1)

controlled : (variables : List (List ℕ)) (control : Option (List ℕ)) (k l : SwitchKind) → AreTimedKinds k l → AreTimedKinds (controlled_kind variables control k) (controlled_kind variables control l)
controlled variables control k l (inl same) = inl (ap (controlled_kind variables control) same)
controlled variables control k l (inr h) = inr (record {
  close = h.close;
  open_at = h.open_at;
  other_close = h.other_close;
  other_open_at = h.other_open_at;
  margin = h.margin;
  one_is = ap (controlled_kind variables control) h.one_is;
  other_is = ap (controlled_kind variables control) h.other_is;
})

-- ---- what is made of the cards

abbrev with_switches : Made → List Switch → Made
with_switches m switches = record m { parts = record m.parts { switches = switches } }

record IsTimedMade (one other : Made) : Type 0 where
  is : other ≡ with_switches one other.parts.switches
  switches : AllSwitches one.parts.switches other.parts.switches

card_made : (m : Made) (switches : List Switch) (card : SwitchCard) (kind : SwitchKind) → AllSwitches m.parts.switches switches → AreTimedKinds card.kind kind
    → IsTimedMade (with_switch m card) (with_switch (with_switches m switches) (record card { kind = kind }))
card_made m switches card kind h kinds =
    let one = switch_at m.parts.nodes m.parts.vars card in
    let other = switch_at m.parts.nodes m.parts.vars (record card { kind = kind }) in
    let all = switches ++ other ∷ [] in
    record {
      is = ap (λ at. record {
        parts = record m.parts { switches = all };
        asked = record m.asked {
          switches = m.asked.switches ++ channels_of card.asked (SwitchCurrent at) (SwitchVoltage at);
          statuses = m.asked.statuses ++ status_of card.asked at;
        };
      }) (sym (many_switches m.parts.switches switches h));
      switches = all_with m.parts.switches switches one other h (record { is = refl; kinds = controlled m.parts.vars card.control card.kind kind kinds });
    }

switches_made : (ones others : List SwitchCard) (m n : Made) → AllTimed ones others → IsTimedMade m n → IsTimedMade (made_switches m ones) (made_switches n others)
switches_made [] [] m n h made = made
switches_made [] (y ∷ others) m n h made = absurd h
switches_made (x ∷ ones) [] m n h made = absurd h
switches_made (x ∷ ones) (y ∷ others) m n h made =
    let here = card_made m n.parts.switches x y.kind made.switches h.0.kinds in
    let next : IsTimedMade (with_switch m x) (with_switch n y) =
    subst (λ (made : Made). IsTimedMade (with_switch m x) (with_switch made y)) (sym made.is)
    (subst (λ (card : SwitchCard). IsTimedMade (with_switch m x) (with_switch (with_switches m n.parts.switches) card)) (sym h.0.is) here) in
    switches_made ones others (with_switch m x) (with_switch n y) h.1 next

source_made : (m : Made) (switches : List Switch) (card : SourceCard) (node : Option ℕ) → with_source (with_switches m switches) card node ≡ with_switches (with_source m card node) switches
source_made m switches card None = refl
source_made m switches card (Some node) = refl

sources_made : (m : Made) (switches : List Switch) (cards : List SourceCard) → made_sources (with_switches m switches) cards ≡ with_switches (made_sources m cards) switches
sources_made m switches [] = refl
sources_made m switches (card ∷ cards) =
    let node = find_node m.parts.nodes card.name in
    ap (λ (n : Made). made_sources n cards) (source_made m switches card node) ∙ sources_made (with_source m card node) switches cards

asked_made : (m : Made) (switches : List Switch) (channel : Option Channel) → asking_output (with_switches m switches) channel ≡ with_switches (asking_output m channel) switches
asked_made m switches None = refl
asked_made m switches (Some channel) = refl

names_made : (m : Made) (switches : List Switch) (names : List (Option (List ℕ))) → made_names channel_of_node asking_output (with_switches m switches) names ≡ with_switches (made_names channel_of_node asking_output m names) switches
names_made m switches [] = refl
names_made m switches (None ∷ names) = names_made m switches names
names_made m switches (Some name ∷ names) =
    let channel = channel_of_node m.parts name in
    ap (λ (n : Made). made_names channel_of_node asking_output n names) (asked_made m switches channel) ∙ names_made (asking_output m channel) switches names

output_made : (m : Made) (switches : List Switch) (card : OutputCard) → made_output (with_switches m switches) card ≡ with_switches (made_output m card) switches
output_made m switches AllNodes = refl
output_made m switches (Names names) = names_made m switches names

outputs_made : (m : Made) (switches : List Switch) (es : List OutputEntry) → made_outputs (with_switches m switches) es ≡ with_switches (made_outputs m es) switches
outputs_made m switches [] = refl
outputs_made m switches (e ∷ es) = ap (λ (n : Made). made_outputs n es) (output_made m switches e.card) ∙ outputs_made (made_output m e.card) switches es

-- sources and outputs keep the switches
sources_keep : (m : Made) (cards : List SourceCard) → (made_sources m cards).parts.switches ≡ m.parts.switches
sources_keep m cards = ap (λ (n : Made). n.parts.switches) (sources_made m m.parts.switches cards)

outputs_keep : (m : Made) (es : List OutputEntry) → (made_outputs m es).parts.switches ≡ m.parts.switches
outputs_keep m es = ap (λ (n : Made). n.parts.switches) (outputs_made m m.parts.switches es)

all_made : (nodes variables : List (List ℕ)) (d : Deck) (cards : List SwitchCard) → AllTimed d.switches cards
    → (switches : List Switch) × (AllSwitches (made_of_all nodes variables d).parts.switches switches) × (made_of_all nodes variables (with_cards d cards) ≡ with_switches (made_of_all nodes variables d) switches)
all_made nodes variables d cards h =
    let m = made_before_switches nodes variables d in
    let one = made_switches m d.switches in
    let other = made_switches m cards in
    let made = switches_made d.switches cards m m h (record { is = refl; switches = own_switches m.parts.switches }) in
    let kept : (made_of_all nodes variables d).parts.switches ≡ one.parts.switches = outputs_keep (made_sources one d.sources) d.outputs ∙ sources_keep one d.sources in (
      other.parts.switches,
      subst (λ ss. AllSwitches ss other.parts.switches) (sym kept) made.switches,
      ap (λ (n : Made). made_outputs (made_sources n d.sources) d.outputs) made.is
          ∙ ap (λ (n : Made). made_outputs n d.outputs) (sources_made one other.parts.switches d.sources)
          ∙ outputs_made (made_sources one d.sources) other.parts.switches d.outputs,
    )
  where
    own_switches : (switches : List Switch) → AllSwitches switches switches
    own_switches [] = tt
    own_switches (s ∷ switches) = (record { is = refl; kinds = inl refl }, own_switches switches)

-- ---- the times of the switches

measuring_stays : (s : Switch) (ss : List Switch) (times : List Times) → with_times (record s { kind = Measuring } ∷ ss) times ≡ record s { kind = Measuring } ∷ with_times ss times
measuring_stays s ss [] = refl
measuring_stays s ss (t ∷ times) = refl

valve_stays : (s : Switch) (a b : ℤ) (control : Option ℕ) (ss : List Switch) (times : List Times) → with_times (record s { kind = Valve a b control } ∷ ss) times ≡ record s { kind = Valve a b control } ∷ with_times ss times
valve_stays s a b control ss [] = refl
valve_stays s a b control ss (t ∷ times) = refl

control_stays : (s : Switch) (control : ℕ) (ss : List Switch) (times : List Times) → with_times (record s { kind = Control control } ∷ ss) times ≡ record s { kind = Control control } ∷ with_times ss times
control_stays s control ss [] = refl
control_stays s control ss (t ∷ times) = refl

own_kind : (s : Switch) (k : SwitchKind) (ss ts : List Switch) → with_times ss (card_times ts) ≡ ts → with_times (record s { kind = k } ∷ ss) (card_times (record s { kind = k } ∷ ts)) ≡ record s { kind = k } ∷ ts
own_kind s (Time close open_at margin) ss ts rest = ap (λ xs. record s { kind = Time close open_at margin } ∷ xs) rest
own_kind s Measuring ss ts rest = measuring_stays s ss (card_times ts) ∙ ap (λ xs. record s { kind = Measuring } ∷ xs) rest
own_kind s (Valve a b control) ss ts rest = valve_stays s a b control ss (card_times ts) ∙ ap (λ xs. record s { kind = Valve a b control } ∷ xs) rest
own_kind s (Control control) ss ts rest = control_stays s control ss (card_times ts) ∙ ap (λ xs. record s { kind = Control control } ∷ xs) rest

other_kind : (s : Switch) (j k : SwitchKind) (ss ts : List Switch) → AreTimedKinds j k → with_times ss (card_times ts) ≡ ts → with_times (record s { kind = j } ∷ ss) (card_times (record s { kind = k } ∷ ts)) ≡ record s { kind = k } ∷ ts
other_kind s j k ss ts (inl same) rest = ap (λ i. with_times (record s { kind = i } ∷ ss) (card_times (record s { kind = k } ∷ ts))) same ∙ own_kind s k ss ts rest
other_kind s j k ss ts (inr h) rest =
    ap (λ i. with_times (record s { kind = i } ∷ ss) (card_times (record s { kind = k } ∷ ts))) h.one_is
    ∙ ap (λ i. with_times (record s { kind = Time h.close h.open_at h.margin } ∷ ss) (card_times (record s { kind = i } ∷ ts))) h.other_is
    ∙ ap (λ xs. record s { kind = Time h.other_close h.other_open_at h.margin } ∷ xs) rest
    ∙ ap (λ i. record s { kind = i } ∷ ts) (sym h.other_is)

times_given : (ss ts : List Switch) → AllSwitches ss ts → with_times ss (card_times ts) ≡ ts
times_given [] [] h = refl
times_given [] (t ∷ ts) h = absurd h
times_given (s ∷ ss) [] h = absurd h
times_given (s ∷ ss) (t ∷ ts) h =
    ap (λ (u : Switch). with_times (s ∷ ss) (card_times (u ∷ ts))) h.0.is
    ∙ other_kind s s.kind t.kind ss ts h.0.kinds (times_given ss ts h.1)
    ∙ ap (λ (u : Switch). u ∷ ts) (sym h.0.is)

-- ---- the case

case_given : (nodes variables : List (List ℕ)) (d : Deck) (cards : List SwitchCard) (p q : Parts) → AllTimed d.switches cards
    → p ≡ case_of d (made_of_all nodes variables d) → q ≡ case_of (with_cards d cards) (made_of_all nodes variables (with_cards d cards)) → q ≡ case_with_times p (card_times q.switches)
case_given nodes variables d cards p q h e f =
    let m = made_of_all nodes variables d in
    let made = all_made nodes variables d cards h in
    let given : q ≡ record (case_of d m) { switches = made.0 } =
    f ∙ ap (case_of (with_cards d cards)) made.2
    ∙ ap (λ xs. record (case_of d m) { switches = made.0; tacs_sources = xs }) (sym (signals_same m.parts.nodes m.parts.vars d.switches cards d.control.sources h)) in
    let times : card_times q.switches ≡ card_times made.0 = ap (λ (c : Parts). card_times c.switches) given in
    given ∙ ap (λ ss. record (case_of d m) { switches = ss }) (sym (times_given m.parts.switches made.0 made.1))
    ∙ ap (λ (c : Parts). case_with_times c (card_times made.0)) (sym e) ∙ ap (case_with_times p) (sym times)

-- what a deck's cards make
record IsMadeOf (lines : List (List ℕ)) (p : Parts) : Type 0 where
  read : Deck × Place
  walked : walk 1 empty_deck Begin lines ≡ Ok read
  is : p ≡ case_of read.0 (made_of_all (case_nodes (known_nodes read.0 read.1)) (variable_names read.0 read.1) read.0)

made_of_lines : (lines : List (List ℕ)) (p : Parts) → deck_of lines ≡ Ok p → IsMadeOf lines p
unfolding deck_of
made_of_lines lines p e =
    let r = then_ok (walk 1 empty_deck Begin lines) (λ (read : Deck × Place). deck_case (length lines + 1) read.0 read.1) p e in
    record {
      read = r.0;
      walked = r.1;
      is = sym (no_fault (first_refusal (judged_cards (length lines) r.0.0 r.0.1)) (λ bad. bad) (case_of r.0.0 (made_of_all (case_nodes (known_nodes r.0.0 r.0.1)) (variable_names r.0.0 r.0.1) r.0.0)) p (sym (deck_refused (length lines) r.0.0 r.0.1) ∙ r.2)).1;
    }

pub other_times : (xs ys : List (List ℕ)) (p q : Parts) → HasOtherTimes xs ys → deck_of xs ≡ Ok p → deck_of ys ≡ Ok q → q ≡ case_with_times p (card_times q.switches)
other_times xs ys p q h e f =
    let a = made_of_lines xs p e in
    let b = made_of_lines ys q f in
    let alike = walks_alike xs ys a.read b.read h a.walked b.walked in
    let d = a.read.0 in
    let cards = b.read.0.switches in
    let nodes = deck_nodes_same d cards a.read.1 alike.decks.cards in
    let here : q ≡ case_of b.read.0 (made_of_all (case_nodes (known_nodes b.read.0 a.read.1)) (variable_names b.read.0 a.read.1) b.read.0) =
    b.is ∙ ap (λ place. case_of b.read.0 (made_of_all (case_nodes (known_nodes b.read.0 place)) (variable_names b.read.0 place) b.read.0)) (sym alike.place) in
    let moved : q ≡ case_of (with_cards d cards) (made_of_all (case_nodes (known_nodes (with_cards d cards) a.read.1)) (variable_names d a.read.1) (with_cards d cards)) =
    here ∙ ap (λ (deck : Deck). case_of deck (made_of_all (case_nodes (known_nodes deck a.read.1)) (variable_names deck a.read.1) deck)) alike.decks.is in
    case_given (case_nodes (known_nodes d a.read.1)) (variable_names d a.read.1) d cards p q alike.decks.cards a.is
    (moved ∙ ap (λ names. case_of (with_cards d cards) (made_of_all (case_nodes names) (variable_names d a.read.1) (with_cards d cards))) nodes)
