-- What a deck of cards in their ranges gives is a case.
use Rattle.emtp_fix.proofs.Chaining.{then_ok}
use Rattle.emtp_fix.specs.Chain.{unless}
use Rattle.emtp_case.specs.declared.limit.TheConstants.{MOST_CHANNELS, MOST_STORED_VALUES, MOST_VARIABLES}
use Rattle.std.proofs.Common.{◌≡◌, ◌∙◌, ap, sym, subst, refl, ℕ, ◌+◌, ◌*◌, ◌≤◌, ◌++◌, Bool, true, false, List, [], ◌∷◌, length, map, drop, Option, Some, None, Ok, Err, if◌then◌else◌, arith, length-append, take-append-drop}
use Rattle.std.specs.Prelude.{All}
use Rattle.std.proofs.lemmas.List.{length-map}
use Rattle.std.proofs.lemmas.List.Elements.{All-append, All-map, All-nil, All-tail}
use Rattle.emtp_card.specs.declared.reason.Bad.{Bad}
use Rattle.emtp_case.proofs.DraftSteps.{nothing_yet}
use Rattle.emtp_case.specs.Case.{empty_parts, standing_names}
use Rattle.emtp_case.specs.RunData.{samples_of}
use Rattle.emtp_case.specs.held.Case.{IsCase, IsDraft}
use Rattle.emtp_case.specs.held.Channel.{IsChannel}
use Rattle.emtp_case.specs.held.Control.{IsBlock}
use Rattle.emtp_case.specs.held.Name.{IsName}
use Rattle.emtp_case.specs.held.Sizes.{sizes_of}
use Rattle.emtp_case.specs.held.Source.{IsTacsSource}
use Rattle.emtp_case.specs.declared.case.Parts.{Parts}
use Rattle.emtp_case.specs.declared.channel.Channel.{Channel}
use Rattle.emtp_deck.proofs.Asking.{branches_ask, control_is, no_fault, sections, tacs_outputs_ask}
use Rattle.emtp_deck.proofs.CaseDrafts.{HasFewInputs, blocks_added, extras_added, nodes_added, tacs_sources_added, variables_added}
use Rattle.emtp_deck.proofs.ControlRecords.{block_fits, source_fits}
use Rattle.emtp_deck.proofs.ControlWhole.{control_sensible, whole_control}
use Rattle.emtp_deck.proofs.GoodBranches.{branches_taken}
use Rattle.emtp_deck.proofs.GoodMade.{IsGood, outputs_taken, sources_taken, switches_taken, tacs_outputs_taken}
use Rattle.emtp_deck.proofs.WholeDeck.{stored_within}
use Rattle.emtp_deck.specs.ControlFilling.{block_of, control_parts, inputs_of, tacs_source_of}
use Rattle.emtp_deck.specs.Deck.{case_of, control_made, deck_case, deck_case_by, few_samples, made_of_deck, missing_bad, sensible_control, unfinished}
use Rattle.emtp_deck.specs.Branches.{pending_fault}
use Rattle.emtp_deck.specs.Made.{Made, all_asked, count_asked}
use Rattle.emtp_deck.specs.Samples.{has_too_many, samples_bad}
use Rattle.emtp_sense.proofs.CardNames.{case_few, case_names, has_nodes}
use Rattle.emtp_sense.specs.ControlSense.{control_bad}
use Rattle.emtp_sense.specs.Names.{case_nodes, known_nodes}
use Rattle.emtp_sense.specs.Variables.{variable_names}
use Rattle.emtp_sense.specs.held.ControlSensible.{IsSensibleBlock}
use Rattle.emtp_sense.specs.held.Naming.{HasEntryNodes, HasSwitchNodes}
use Rattle.emtp_walk.specs.Answer.{first_bad, ◌>>=◌}
use Rattle.emtp_walk.specs.held.Coefficients.{IsBlockEntry}
use Rattle.emtp_walk.specs.held.Sound.{IsEntry, IsSound, IsWhole}
use Rattle.emtp_walk.specs.declared.control_cards.BlockEntry.{BlockEntry}
use Rattle.emtp_walk.specs.declared.deck.Deck.{Deck}
use Rattle.emtp_walk.specs.declared.deck.Place.{Place}
use Rattle.emtp_walk.specs.declared.deck.Place.TheVariants.{After, Begin, Branches, First, Outputs, Points, Second, Sources, Start, Switches, Third, Waiting, Control}

-- no card of the control has more than five inputs
pub record HasFewInputsEach (variables : List (List ℕ)) (deck : Deck) : Type 0 where
  pub blocks : All (λ (e : BlockEntry). length (inputs_of variables e.card.inputs) ≤ 5) deck.control.blocks
  pub extras : All (HasFewInputs variables) deck.control.extras

all_behind : {A : Type 0} (P : A → Type 0) (xs ys : List A) → All P (xs ++ ys) → All P ys
all_behind P [] ys all = all
all_behind P (x ∷ xs) ys all = all_behind P xs ys (All-tail P x (xs ++ ys) all)

blocks_fit : (variables : List (List ℕ)) (p : Parts) (es : List BlockEntry) → length variables ≡ length p.vars → All (IsBlockEntry p.run.dt) es → All (IsSensibleBlock variables) es → All (λ (e : BlockEntry). length (inputs_of variables e.card.inputs) ≤ 5) es → All (IsBlock p.run (sizes_of p)) (map (block_of variables) es)
blocks_fit variables p es size entries sensible few = All-map (IsBlock p.run (sizes_of p)) (block_of variables) es (λ k d l. block_fits p.run (sizes_of p) variables _ size (entries k d l) (sensible k d l) (few k d l))

-- ---- the control

control_draft : (deck : Deck) (place : Place) → IsSound deck place → IsWhole deck → HasFewInputsEach (variable_names deck place) deck → control_bad (known_nodes deck place) (variable_names deck place) deck place ≡ None
    → IsDraft (control_parts (case_nodes (known_nodes deck place)) (variable_names deck place) deck)
control_draft deck place sound whole few none =
    let nodes = case_nodes (known_nodes deck place) in
    let variables = variable_names deck place in
    let s = control_sensible (known_nodes deck place) deck place sound whole none in
    let start = empty_parts deck.run in
    let first = nothing_yet deck.run whole.run in
    let named = nodes_added start nodes first (omega (arith, case_few (known_nodes deck place))) (case_names deck place sound whole) in
    let split : standing_names ++ drop 6 variables ≡ variables = ap (λ ns. ns ++ drop 6 variables) (sym s.standing.front) ∙ take-append-drop 6 variables in
    let p1 : Parts = record start { nodes = nodes } in
    let long : 6 + length (drop 6 variables) ≤ MOST_VARIABLES = omega (arith, ap length split, length-append standing_names (drop 6 variables), s.few) in
    let more = variables_added p1 (drop 6 variables) named long (all_behind IsName standing_names (drop 6 variables) (subst (All IsName) (sym split) (s.names first.control.names))) in
    let p2 : Parts = record p1 { vars = variables } in
    let d2 : IsDraft p2 = subst (λ vs. IsDraft (record p1 { vars = vs })) split more in
    let p3 : Parts = record p2 { blocks = map (block_of variables) deck.control.blocks } in
    let d3 : IsDraft p3 = blocks_added p2 (map (block_of variables) deck.control.blocks) d2 (omega (arith, length-map deck.control.blocks (block_of variables), s.few_blocks)) (blocks_fit variables p2 deck.control.blocks refl whole.control.blocks s.blocks few.blocks) in
    extras_added variables deck.points p3 deck.control.extras d3 refl (omega (arith, s.few_extras)) whole.control.extras s.extras few.extras (omega (arith, s.history))

control_good : (deck : Deck) (place : Place) → IsSound deck place → IsWhole deck → HasFewInputsEach (variable_names deck place) deck → control_bad (known_nodes deck place) (variable_names deck place) deck place ≡ None
    → IsGood (control_made (case_nodes (known_nodes deck place)) (variable_names deck place) deck)
control_good deck place sound whole few none =
    let is = control_is (case_nodes (known_nodes deck place)) (variable_names deck place) deck in
    let n = sizes_of (control_parts (case_nodes (known_nodes deck place)) (variable_names deck place) deck) in
    record {
      draft = control_draft deck place sound whole few none;
      no_sources = is.sources;
      no_channels = is.channels;
      few = omega arith;
      there = record { variables = All-nil (IsChannel n); outputs = All-nil (IsChannel n); branches = All-nil (IsChannel n); switches = All-nil (IsChannel n); statuses = All-nil (IsChannel n) };
    }

-- ---- all sections

deck_good : (deck : Deck) (place : Place) (m : Made) → IsSound deck place → IsWhole deck → HasFewInputsEach (variable_names deck place) deck → control_bad (known_nodes deck place) (variable_names deck place) deck place ≡ None
    → made_of_deck (case_nodes (known_nodes deck place)) (variable_names deck place) deck ≡ Ok m → IsGood m
deck_good deck place m sound whole few none made =
    let nodes = case_nodes (known_nodes deck place) in
    let variables = variable_names deck place in
    let s = sections nodes variables deck m made in
    let is = control_is nodes variables deck in
    let named = has_nodes deck place in
    let signals = tacs_outputs_ask (control_made nodes variables deck) s.before_branches deck.control.outputs s.signals in
    let run : s.before_branches.parts.run ≡ deck.run = signals.run ∙ is.run in
    let keys : s.before_branches.parts.nodes ≡ nodes = signals.nodes ∙ is.nodes_are in
    let branched = branches_ask deck.points s.before_branches s.before_switches deck.branches s.branches in
    let later : s.before_switches.parts.nodes ≡ nodes = branched.nodes ∙ keys in
    let a = tacs_outputs_taken deck.control.outputs (control_made nodes variables deck) s.before_branches (control_good deck place sound whole few none) s.signals in
    let b = branches_taken deck.points deck.branches s.before_branches s.before_switches a (subst (λ r. All (IsEntry r deck.points) deck.branches) (sym run) whole.branches) (subst (λ ns. All (HasEntryNodes ns) deck.branches) (sym keys) named.branches) s.branches in
    let c = switches_taken deck.switches s.before_switches s.before_sources b whole.switches (subst (λ ns. All (HasSwitchNodes ns) deck.switches) (sym later) named.switches) s.switches in
    let d = sources_taken deck.sources s.before_sources s.before_outputs c whole.sources s.sources in
    outputs_taken deck.outputs s.before_outputs m d s.outputs

-- ---- the case

channels_set : (q : Parts) (cs : List Channel) → IsDraft q → length cs ≤ MOST_CHANNELS → length cs * samples_of q.run ≤ MOST_STORED_VALUES → All (IsChannel (sizes_of q)) cs → IsDraft (record q { channels = cs })
channels_set q cs h few stored fit = record {
  run = h.run;
  counts = record {
    nodes = h.counts.nodes;
    branches = h.counts.branches;
    trios = h.counts.trios;
    points = h.counts.points;
    switches = h.counts.switches;
    sources = h.counts.sources;
    vars = h.counts.vars;
    tacs_sources = h.counts.tacs_sources;
    blocks = h.counts.blocks;
    extras = h.counts.extras;
    channels = few;
    stored = stored;
    history = h.counts.history;
  };
  network = record { names = h.network.names; branches = h.network.branches; trios = h.network.trios; in_threes = h.network.in_threes; switches = h.network.switches; sources = h.network.sources; one_voltage = h.network.one_voltage };
  control = record { standing = h.control.standing; names = h.control.names; tacs_sources = h.control.tacs_sources; blocks = h.control.blocks; extras = h.control.extras };
  channels = fit;
}

asked_length : (m : Made) → length (all_asked m.asked) ≡ count_asked m.asked
asked_length m =
    let a = m.asked in
    omega (arith, length-append (((a.outputs ++ a.branches) ++ a.switches) ++ a.variables) a.statuses, length-append ((a.outputs ++ a.branches) ++ a.switches) a.variables, length-append (a.outputs ++ a.branches) a.switches, length-append a.outputs a.branches)

asked_there : (m : Made) → IsGood m → All (IsChannel (sizes_of m.parts)) (all_asked m.asked)
asked_there m good =
    let a = m.asked in
    let P = IsChannel (sizes_of m.parts) in
    let t = good.there in
    All-append P (((a.outputs ++ a.branches) ++ a.switches) ++ a.variables) a.statuses
    (All-append P ((a.outputs ++ a.branches) ++ a.switches) a.variables (All-append P (a.outputs ++ a.branches) a.switches (All-append P a.outputs a.branches t.outputs t.branches) t.switches) t.variables) t.statuses

whole_case : (deck : Deck) (seen : Bool) (m : Made) → IsSound deck (After seen) → IsWhole deck → HasFewInputsEach (variable_names deck (After seen)) deck → has_too_many (known_nodes deck (After seen)) (variable_names deck (After seen)) deck (After seen) ≡ false
    → control_bad (known_nodes deck (After seen)) (variable_names deck (After seen)) deck (After seen) ≡ None → made_of_deck (case_nodes (known_nodes deck (After seen))) (variable_names deck (After seen)) deck ≡ Ok m → IsCase (case_of deck m)
whole_case deck seen m sound whole inputs few none made =
    let good = deck_good deck (After seen) m sound whole inputs none made in
    let c = whole_control m deck seen whole none made in
    let p = m.parts in
    let sources = map (tacs_source_of p.nodes deck.switches p.vars) deck.control.sources in
    let fit : All (IsTacsSource (sizes_of p)) sources = All-map (IsTacsSource (sizes_of p)) (tacs_source_of p.nodes deck.switches p.vars) deck.control.sources
    (λ k d l. source_fits (sizes_of p) p.nodes deck.switches p.vars _ refl c.switches refl (whole.control.sources k d l) (c.sensible k d l)) in
    let size = length-map deck.control.sources (tacs_source_of p.nodes deck.switches p.vars) in
    let none_yet = ap length good.no_sources in
    let added = tacs_sources_added p sources good.draft (omega (arith, size, none_yet, c.few)) fit in
    let q : Parts = record p { tacs_sources = sources } in
    let d : IsDraft q = subst (λ ss. IsDraft (record p { tacs_sources = ss ++ sources })) good.no_sources added in
    let stored = subst (λ n. n * samples_of p.run ≤ MOST_STORED_VALUES) (sym (asked_length m)) (stored_within deck seen m few made) in
    record {
      draft = channels_set q (all_asked m.asked) d (omega (arith, asked_length m, good.few)) stored (asked_there m good);
      defined = c.each;
    }

-- ---- what is filled

few_is : (b : Bool) (bad : Bad) (u : Unit {0}) → (if b then Err bad else Ok tt) ≡ Ok u → b ≡ false
few_is true bad u e = absurd (cc)
few_is false bad u e = refl

no_first : (a b : Option Bad) → first_bad a b ≡ None → b ≡ None
no_first (Some x) b e = absurd (cc)
no_first None b e = e

deck_case_at : (line : ℕ) (deck : Deck) (place : Place) (p : Parts) → IsSound deck place → IsWhole deck → HasFewInputsEach (variable_names deck place) deck → deck_case_by (known_nodes deck place) (variable_names deck place) line deck place ≡ Ok p → IsCase p
deck_case_at line deck place p sound whole inputs e =
    let nodes = known_nodes deck place in
    let variables = variable_names deck place in
    let a = then_ok (few_samples nodes variables deck place) (λ few. sensible_control nodes variables deck place >>= (λ sensible. made_of_deck (case_nodes nodes) variables deck >>= (λ m. unless (unfinished line m place) (λ bad. bad) (Ok (case_of deck m))))) p e in
    let b = then_ok (sensible_control nodes variables deck place) (λ sensible. made_of_deck (case_nodes nodes) variables deck >>= (λ m. unless (unfinished line m place) (λ bad. bad) (Ok (case_of deck m)))) p a.2 in
    let c = then_ok (made_of_deck (case_nodes nodes) variables deck) (λ m. unless (unfinished line m place) (λ bad. bad) (Ok (case_of deck m))) p b.2 in
    let done = no_fault (unfinished line c.0 place) (λ bad. bad) (case_of deck c.0) p c.2 in
    let none = (no_fault (control_bad nodes variables deck place) (λ bad. bad) tt b.0 b.1).0 in
    let few = few_is (has_too_many nodes variables deck place) (samples_bad deck) a.0 a.1 in
    by place sound inputs few none c.0 c.1 (no_first (pending_fault c.0 place) (missing_bad line place) done.0) done.1
  where
    by : (at : Place) → IsSound deck at → HasFewInputsEach (variable_names deck at) deck → has_too_many (known_nodes deck at) (variable_names deck at) deck at ≡ false → control_bad (known_nodes deck at) (variable_names deck at) deck at ≡ None
        → (m : Made) → made_of_deck (case_nodes (known_nodes deck at)) (variable_names deck at) deck ≡ Ok m → missing_bad line at ≡ None → case_of deck m ≡ p → IsCase p
    by (After seen) s i few none m made ended is = subst IsCase is (whole_case deck seen m s whole i few none made)
    by Begin s i few none m made ended is = absurd (cc)
    by (First seen) s i few none m made ended is = absurd (cc)
    by Second s i few none m made ended is = absurd (cc)
    by Start s i few none m made ended is = absurd (cc)
    by (Control at) s i few none m made ended is = absurd (cc)
    by (Branches wide) s i few none m made ended is = absurd (cc)
    by (Points group) s i few none m made ended is = absurd (cc)
    by (Waiting card wide) s i few none m made ended is = absurd (cc)
    by (Third zero' positive wide) s i few none m made ended is = absurd (cc)
    by Switches s i few none m made ended is = absurd (cc)
    by Sources s i few none m made ended is = absurd (cc)
    by Outputs s i few none m made ended is = absurd (cc)

pub deck_case_is_case : (line : ℕ) (deck : Deck) (place : Place) (p : Parts) → IsSound deck place → IsWhole deck → HasFewInputsEach (variable_names deck place) deck → deck_case line deck place ≡ Ok p → IsCase p
unfolding deck_case
deck_case_is_case line deck place p sound whole inputs e = deck_case_at line deck place p sound whole inputs e
