-- What is made of the cards stays whole where a source or a switch is added.
use Rattle.emtp_case.specs.declared.limit.TheConstants.{MOST_CHANNELS}
use Rattle.std.proofs.Common.{◌≡◌, refl, ℕ, zero, suc, ◌+◌, ◌==◌, ◌<◌, ◌≤◌, Bool, true, false, List, [], ◌∷◌, ◌++◌, length, arith, length-append}
use Rattle.std.proofs.lemmas.List.Elements.{All-append, All-cons, All-nil, All-weaker}
use Rattle.std.specs.Prelude.{All, OnOk, Ok, Err, Result, if◌then◌else◌}
use Rattle.emtp_case.proofs.Growth.{IsChannel-grows}
use Rattle.emtp_case.specs.held.Channel.{IsChannel}
use Rattle.emtp_case.specs.held.Sizes.{Grows, Sizes, sizes_of}
use Rattle.emtp_case.specs.declared.channel.Channel.{Channel}
use Rattle.emtp_case.specs.declared.channel.Channel.TheVariants.{NodeVoltage as NodeChannel, Status, SwitchCurrent, SwitchVoltage}
use Rattle.emtp_case.specs.declared.draft.Draft.{Draft}
use Rattle.emtp_case.specs.declared.source.Source.{Source}
use Rattle.emtp_deck.specs.Channels.{channels_of, status_of, switch_channel_count}
use Rattle.emtp_deck.specs.held.Filling.{AreThere, IsFilling}
use Rattle.emtp_deck.specs.Made.{count_asked}
use Rattle.emtp_deck.specs.Outputs.{node_channels}
use Rattle.emtp_deck.specs.Switches.{switch_at}
use Rattle.emtp_deck.specs.declared.asked.Asked.{Asked}
use Rattle.emtp_deck.specs.declared.filling.Filling.{Filling}
use Rattle.emtp_netcards.specs.declared.switch_card.SwitchCard.{SwitchCard}

pub on_ok : {X E : Type 0} (r : Result X E) {P Q : Type 0} → (P → Q) → OnOk r P → OnOk r Q
on_ok (Ok x) f p = f p
on_ok (Err e) f p = tt

-- the draft alone changes, and its sources alone
pub with_more_sources : (f : Filling) (draft : Draft) (x : Source) → IsFilling f → draft.parts ≡ record f.draft.parts { sources = f.draft.parts.sources ++ x ∷ [] } → IsFilling (record f { draft = draft })
with_more_sources f draft x h e = record {
  nodes = rw e h.nodes;
  history = rw e h.history;
  variables = rw e h.variables;
  no_sources = rw e h.no_sources;
  no_channels = rw e h.no_channels;
  few = h.few;
  there = rw e h.there;
}

-- the asked channels alone change, and the outputs alone
pub with_more_outputs : (f : Filling) (outputs more : List Channel) → IsFilling f → outputs ≡ f.asked.outputs ++ more → count_asked f.asked + length more ≤ MOST_CHANNELS → All (IsChannel (sizes_of f.draft.parts)) more
    → IsFilling (record f { asked = record f.asked { outputs = outputs } })
with_more_outputs f outputs more h e few fit = record {
  nodes = h.nodes;
  history = h.history;
  variables = h.variables;
  no_sources = h.no_sources;
  no_channels = h.no_channels;
  few = rw e (omega (arith, few, length-append f.asked.outputs more));
  there = record {
    variables = h.there.variables;
    outputs = rw e (All-append (IsChannel (sizes_of f.draft.parts)) f.asked.outputs more h.there.outputs fit);
    branches = h.there.branches;
    switches = h.there.switches;
    statuses = h.there.statuses;
  };
}

pub length_of_nodes : (n : ℕ) → length (node_channels n) ≡ n
length_of_nodes zero = refl
length_of_nodes (suc n) = let here = length_of_nodes n in omega (arith, here, length-append (node_channels n) (NodeChannel (suc n) ∷ []))

pub nodes_there : (s : Sizes) (n : ℕ) → n ≤ s.nodes → All (IsChannel s) (node_channels n)
nodes_there s zero l = All-nil (IsChannel s)
nodes_there s (suc n) l =
    All-append (IsChannel s) (node_channels n) (NodeChannel (suc n) ∷ []) (nodes_there s n (omega arith)) (All-cons (IsChannel s) (NodeChannel (suc n)) [] (omega arith, l) (All-nil (IsChannel s)))

-- ---- larger cases

pub there_grows : (s n : Sizes) (a : Asked) → Grows s n → AreThere s a → AreThere n a
there_grows s n a g h = record {
  variables = All-weaker (IsChannel s) (IsChannel n) (IsChannel-grows s n g) a.variables h.variables;
  outputs = All-weaker (IsChannel s) (IsChannel n) (IsChannel-grows s n g) a.outputs h.outputs;
  branches = All-weaker (IsChannel s) (IsChannel n) (IsChannel-grows s n g) a.branches h.branches;
  switches = All-weaker (IsChannel s) (IsChannel n) (IsChannel-grows s n g) a.switches h.switches;
  statuses = All-weaker (IsChannel s) (IsChannel n) (IsChannel-grows s n g) a.statuses h.statuses;
}

-- ---- switches

channels_there : (P : Channel → Type 0) (p q r : Bool) (a b : Channel) → P a → P b → All P (if◌then◌else◌ {A = List Channel} p [] (if◌then◌else◌ {A = List Channel} q (a ∷ []) (if◌then◌else◌ {A = List Channel} r (b ∷ []) (a ∷ b ∷ []))))
channels_there P true q r a b x y = All-nil P
channels_there P false true r a b x y = All-cons P a [] x (All-nil P)
channels_there P false false true a b x y = All-cons P b [] y (All-nil P)
channels_there P false false false a b x y = All-cons P a (b ∷ []) x (All-cons P b [] y (All-nil P))

pub channels_of_there : (P : Channel → Type 0) (asked : ℕ) (a b : Channel) → P a → P b → All P (channels_of asked a b)
channels_of_there P asked a b x y = channels_there P (asked == 0) (asked == 1) (asked == 2) a b x y

state_there : (P : Channel → Type 0) (none : Bool) (c : Channel) → P c → All P (if◌then◌else◌ {A = List Channel} none [] (c ∷ []))
state_there P true c x = All-nil P
state_there P false c x = All-cons P c [] x (All-nil P)

length_of_asked : (p q r : Bool) (a b c : Channel) → length (if◌then◌else◌ {A = List Channel} p [] (if◌then◌else◌ {A = List Channel} q (a ∷ []) (if◌then◌else◌ {A = List Channel} r (b ∷ []) (a ∷ b ∷ [])))) + length (if◌then◌else◌ {A = List Channel} p [] (c ∷ []))
    ≡ if◌then◌else◌ {A = ℕ} p 0 (if◌then◌else◌ {A = ℕ} q 2 (if◌then◌else◌ {A = ℕ} r 2 3))
length_of_asked true q r a b c = refl
length_of_asked false true r a b c = refl
length_of_asked false false true a b c = refl
length_of_asked false false false a b c = refl

pub length_of_switch : (asked at : ℕ) → length (channels_of asked (SwitchCurrent at) (SwitchVoltage at)) + length (status_of asked at) ≡ switch_channel_count asked
length_of_switch asked at = length_of_asked (asked == 0) (asked == 1) (asked == 2) (SwitchCurrent at) (SwitchVoltage at) (Status at)

-- the switch of a card, and the channels that it asks for
pub with_more_switches : (f : Filling) (draft : Draft) (switches statuses : List Channel) (card : SwitchCard) → IsFilling f → count_asked f.asked + switch_channel_count card.asked ≤ MOST_CHANNELS
    → draft.parts ≡ record f.draft.parts { switches = f.draft.parts.switches ++ switch_at f.nodes.keys f.variables.keys card ∷ [] }
    → switches ≡ f.asked.switches ++ channels_of card.asked (SwitchCurrent (length f.draft.parts.switches)) (SwitchVoltage (length f.draft.parts.switches))
    → statuses ≡ f.asked.statuses ++ status_of card.asked (length f.draft.parts.switches)
    → IsFilling (record f { draft = draft; asked = record f.asked { switches = switches; statuses = statuses } })
with_more_switches f draft switches statuses card h few e s t =
    let at = length f.draft.parts.switches in
    let x = switch_at f.nodes.keys f.variables.keys card in
    let new = sizes_of (record f.draft.parts { switches = f.draft.parts.switches ++ x ∷ [] }) in
    let grown = there_grows (sizes_of f.draft.parts) new f.asked
    (record { nodes = omega arith; branches = omega arith; trios = omega arith; switches = omega (arith, length-append f.draft.parts.switches (x ∷ [])); vars = omega arith }) h.there in
    let here : at < new.switches = omega (arith, length-append f.draft.parts.switches (x ∷ [])) in
    record {
      nodes = rw e h.nodes;
      history = rw e h.history;
      variables = rw e h.variables;
      no_sources = rw e h.no_sources;
      no_channels = rw e h.no_channels;
      few = rw s (rw t (omega (arith, few, length_of_switch card.asked at, length-append f.asked.switches (channels_of card.asked (SwitchCurrent at) (SwitchVoltage at)), length-append f.asked.statuses (status_of card.asked at))));
      there = rw e (record {
        variables = grown.variables;
        outputs = grown.outputs;
        branches = grown.branches;
        switches = rw s (All-append (IsChannel new) f.asked.switches (channels_of card.asked (SwitchCurrent at) (SwitchVoltage at)) grown.switches (channels_of_there (IsChannel new) card.asked (SwitchCurrent at) (SwitchVoltage at) here here));
        statuses = rw t (All-append (IsChannel new) f.asked.statuses (status_of card.asked at) grown.statuses (state_there (IsChannel new) (card.asked == 0) (Status at) here));
      });
    }
