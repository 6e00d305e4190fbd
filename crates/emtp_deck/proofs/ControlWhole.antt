-- What the control's cards without a fault of sense are together.
use Rattle.emtp_case.specs.declared.limit.TheConstants.{MOST_CONTROL_CARDS, MOST_VARIABLES}
use Rattle.std.proofs.Common.{Err, List, None, Ok, Option, Result, Some, [], ap, arith, length, length-append, refl, subst, suc, sym, true, ℕ, ◌++◌, ◌+◌, ◌∙◌, ◌∷◌, ◌≡◌, ◌≤◌, Bool, append-nil, append_assoc, fold}
use Rattle.std.proofs.lemmas.List.{map-append}
use Rattle.std.proofs.lemmas.List.Elements.{All-cons, All-nil}
use Rattle.std.specs.List.{range_with_len}
use Rattle.std.specs.Prelude.{All, IfSome, map}
use Rattle.emtp_card.specs.declared.reason.Bad.{Bad}
use Rattle.emtp_case.specs.Case.{standing_names}
use Rattle.emtp_case.specs.held.Case.{DefinesEach}
use Rattle.emtp_case.specs.held.Control.{var_of}
use Rattle.emtp_case.specs.held.Name.{IsName}
use Rattle.emtp_case.specs.declared.branch.Point.{Point}
use Rattle.emtp_case.specs.declared.case.Parts.{Parts}
use Rattle.emtp_case.specs.declared.control.Block.{Block}
use Rattle.emtp_case.specs.declared.source.Source.{Source}
use Rattle.emtp_deck.proofs.Asking.{control_is, deck_asks}
use Rattle.emtp_deck.proofs.FewNodes.{whole_nodes}
use Rattle.emtp_sense.proofs.ControlJudging.{AreFineBlocks, AreFineExtras, AreFineSources, IsKnownBlock, IsKnownExtra, block_fine, blocks_fine, device_fine, extras_fine, sources_fine}
use Rattle.emtp_walk.proofs.NoBad.{nothing_before}
use Rattle.emtp_sense.proofs.Naming.{AreNamed, Each, all_named, with_names}
use Rattle.emtp_sense.proofs.Numbering.{AreAbove, each_front, each_of, each_rest, each_two, folded, in_two, options_length, options_of, defined_once, in_row, row_is}
use Rattle.emtp_walk.specs.Answer.{first_bad}
use Rattle.emtp_deck.specs.Made.{Made}
use Rattle.emtp_deck.specs.ControlFilling.{block_of, tacs_source_of, with_extra}
use Rattle.emtp_sense.specs.ControlSense.{blocks_bad, control_bad, extras_or_pending, first_extra, first_source, is_measurable, judge_extras, pending_control_bad, tacs_sources_bad}
use Rattle.emtp_sense.specs.held.ControlSensible.{IsDefined, IsSensibleBlock, IsSensibleExtra, IsSensibleTacsSource}
use Rattle.emtp_deck.specs.held.ControlSensible.{IsSensibleControl, IsSensibleWhole}
use Rattle.emtp_deck.specs.Deck.{case_of, made_of_deck}
use Rattle.emtp_deck.specs.held.Filling.{IsFilling, made_of}
use Rattle.emtp_sense.specs.Names.{case_nodes, node_number, known_nodes}
use Rattle.emtp_walk.specs.held.Sound.{IsExtraEntry, IsSound, IsWhole}
use Rattle.emtp_sense.specs.Variables.{defined_variables, extra_name, variable_names, variable_number, with_control_pending, with_pending_variable}
use Rattle.emtp_walk.specs.declared.control_cards.BlockEntry.{BlockEntry}
use Rattle.emtp_walk.specs.declared.control_cards.ControlCards.{ControlCards}
use Rattle.emtp_walk.specs.declared.control_cards.ControlPlace.{ControlPlace}
use Rattle.emtp_walk.specs.declared.control_cards.ControlPlace.TheVariants.{Blocks, Denominator, DevicePoints, Extras, Initial, Numerator, TacsOutputs, TacsSources}
use Rattle.emtp_walk.specs.declared.control_cards.ExtraEntry.{ExtraEntry}
use Rattle.emtp_walk.specs.declared.control_cards.ExtraEntry.TheVariants.{Device as DeviceEntry, Formula as FormulaEntry}
use Rattle.emtp_walk.specs.declared.deck.Deck.{Deck}
use Rattle.emtp_walk.specs.declared.deck.Place.{Place}
use Rattle.emtp_walk.specs.declared.deck.Place.TheVariants.{After, Begin, Branches, Control, First, Outputs, Points, Second, Sources, Start, Switches, Third, Waiting}
use Rattle.emtp_deck.specs.declared.filling.Filling.{Filling}
use Rattle.emtp_netcards.specs.declared.source_card.SourceCard.{SourceCard}
use Rattle.emtp_netcards.specs.declared.switch_card.SwitchCard.{SwitchCard}

-- ---- the variables

abbrev block_name : BlockEntry → List ℕ
block_name e = e.card.name

abbrev source_name : SourceCard → List ℕ
source_name card = card.name

-- the card of a group that isn't ended
abbrev pending_of : ControlPlace → List (Option (List ℕ))
pending_of Blocks = []
pending_of (Numerator card) = Some card.name ∷ []
pending_of (Denominator card top line) = Some card.name ∷ []
pending_of TacsSources = []
pending_of Extras = []
pending_of (DevicePoints group) = Some group.card.name ∷ []
pending_of TacsOutputs = []
pending_of Initial = []

abbrev pending_at : Place → List (Option (List ℕ))
pending_at (Control at) = pending_of at
pending_at other = []

pending_is : (names : List (List ℕ)) (at : ControlPlace) → with_control_pending names at ≡ with_names names (pending_of at)
pending_is names Blocks = refl
pending_is names (Numerator card) = refl
pending_is names (Denominator card top line) = refl
pending_is names TacsSources = refl
pending_is names Extras = refl
pending_is names (DevicePoints group) = refl
pending_is names TacsOutputs = refl
pending_is names Initial = refl

place_is : (names : List (List ℕ)) (place : Place) → with_pending_variable names place ≡ with_names names (pending_at place)
place_is names (Control at) = pending_is names at
place_is names Begin = refl
place_is names (First seen) = refl
place_is names Second = refl
place_is names Start = refl
place_is names (Branches wide) = refl
place_is names (Points group) = refl
place_is names (Waiting card wide) = refl
place_is names (Third zero' positive wide) = refl
place_is names Switches = refl
place_is names Sources = refl
place_is names Outputs = refl
place_is names (After seen) = refl

-- the names of blocks, sources and supplemental cards after those of every case
abbrev first_names : ControlCards → List (List ℕ)
first_names cards = with_names standing_names (options_of block_name cards.blocks)

abbrev second_names : ControlCards → List (List ℕ)
second_names cards = with_names (first_names cards) (options_of source_name cards.sources)

abbrev third_names : ControlCards → List (List ℕ)
third_names cards = with_names (second_names cards) (options_of extra_name cards.extras)

defined_are : (cards : ControlCards) → defined_variables cards ≡ third_names cards
defined_are cards =
    folded extra_name _ cards.extras
    ∙ ap (λ ns. with_names ns (options_of extra_name cards.extras)) (folded source_name _ cards.sources ∙ ap (λ ns. with_names ns (options_of source_name cards.sources)) (folded block_name standing_names cards.blocks))

variables_are : (deck : Deck) (place : Place) → variable_names deck place ≡ with_names (third_names deck.control) (pending_at place)
variables_are deck place = place_is (defined_variables deck.control) place ∙ ap (λ ns. with_names ns (pending_at place)) (defined_are deck.control)

abbrev all_options : ControlCards → Place → List (Option (List ℕ))
all_options cards place = options_of block_name cards.blocks ++ (options_of source_name cards.sources ++ (options_of extra_name cards.extras ++ pending_at place))

in_one : (cards : ControlCards) (place : Place) → with_names standing_names (all_options cards place) ≡ with_names (third_names cards) (pending_at place)
in_one cards place =
    in_two standing_names (options_of block_name cards.blocks) (options_of source_name cards.sources ++ (options_of extra_name cards.extras ++ pending_at place))
    ∙ in_two (first_names cards) (options_of source_name cards.sources) (options_of extra_name cards.extras ++ pending_at place)
    ∙ in_two (second_names cards) (options_of extra_name cards.extras) (pending_at place)

-- ---- each card

defined : (variables : List (List ℕ)) (next : ℕ) (name : List ℕ) → 6 ≤ next → next ≤ variable_number variables name → node_number variables (Some name) ≤ length variables → IsDefined variables name
defined variables next name low above known = record { own = omega (arith, low, above); there = omega (arith, known) }

sensible_blocks : (variables : List (List ℕ)) (next : ℕ) (es : List BlockEntry) → 6 ≤ next → AreAbove block_name variables next es → Each (λ x. node_number variables x ≤ length variables) (options_of block_name es) → All (λ (e : BlockEntry). IsKnownBlock variables e.card) es
    → All (IsSensibleBlock variables) es
sensible_blocks variables next [] low above known names = All-nil (IsSensibleBlock variables)
sensible_blocks variables next (e ∷ es) low above known names =
    let n = names 0 e (omega arith) in
    All-cons (IsSensibleBlock variables) e es (record { name = defined variables next e.card.name low above.0 known.0; inputs = n.inputs; low = n.low; high = n.high })
    (sensible_blocks variables (next + 1) es (omega (arith, low)) above.1 known.1 (λ k d lt. names (suc k) d (omega arith)))

sensible_sources : (nodes : List (List ℕ)) (switches : List SwitchCard) (variables : List (List ℕ)) (next : ℕ) (cards : List SourceCard) → 6 ≤ next → AreAbove source_name variables next cards → Each (λ x. node_number variables x ≤ length variables) (options_of source_name cards)
    → All (λ (card : SourceCard). is_measurable nodes switches card.name card.shape ≡ true) cards → All (IsSensibleTacsSource nodes switches variables) cards
sensible_sources nodes switches variables next [] low above known measures = All-nil (IsSensibleTacsSource nodes switches variables)
sensible_sources nodes switches variables next (card ∷ cards) low above known measures =
    All-cons (IsSensibleTacsSource nodes switches variables) card cards (record { name = defined variables next card.name low above.0 known.0; measures = measures 0 card (omega arith) })
    (sensible_sources nodes switches variables (next + 1) cards (omega (arith, low)) above.1 known.1 (λ k d lt. measures (suc k) d (omega arith)))

sensible_extra : (variables : List (List ℕ)) (next : ℕ) (e : ExtraEntry) → 6 ≤ next → next ≤ variable_number variables (extra_name e) → node_number variables (Some (extra_name e)) ≤ length variables → IsKnownExtra variables e → IsSensibleExtra variables e
sensible_extra variables next (DeviceEntry card first count) low above known names = record { name = defined variables next card.name low above known; inputs = names.inputs; d = names.d; e = names.e }
sensible_extra variables next (FormulaEntry card) low above known names = record { name = defined variables next card.name low above known; names = names }

sensible_extras : (variables : List (List ℕ)) (next : ℕ) (es : List ExtraEntry) → 6 ≤ next → AreAbove extra_name variables next es → Each (λ x. node_number variables x ≤ length variables) (options_of extra_name es) → All (IsKnownExtra variables) es → All (IsSensibleExtra variables) es
sensible_extras variables next [] low above known names = All-nil (IsSensibleExtra variables)
sensible_extras variables next (e ∷ es) low above known names =
    All-cons (IsSensibleExtra variables) e es (sensible_extra variables next e low above.0 known.0 (names 0 e (omega arith)))
    (sensible_extras variables (next + 1) es (omega (arith, low)) above.1 known.1 (λ k d lt. names (suc k) d (omega arith)))

-- ---- names of cards

extra_names : (points : List Point) (es : List ExtraEntry) → All (IsExtraEntry points) es → All (λ e. IsName (extra_name e)) es
extra_names points [] all = All-nil (λ e. IsName (extra_name e))
extra_names points (DeviceEntry card first count ∷ es) all =
    All-cons (λ e. IsName (extra_name e)) (DeviceEntry card first count) es ((all 0 (DeviceEntry card first count) (omega arith)).due.name) (extra_names points es (λ k d lt. all (suc k) d (omega arith)))
extra_names points (FormulaEntry card ∷ es) all =
    All-cons (λ e. IsName (extra_name e)) (FormulaEntry card) es ((all 0 (FormulaEntry card) (omega arith)).name) (extra_names points es (λ k d lt. all (suc k) d (omega arith)))

pending_names : (deck : Deck) (place : Place) → IsSound deck place → Each (λ x. IfSome x IsName) (pending_at place)
pending_names deck (Control Blocks) h = tt
pending_names deck (Control (Numerator card)) h = (h.1.name, tt)
pending_names deck (Control (Denominator card top line)) h = (h.1.due.name, tt)
pending_names deck (Control TacsSources) h = tt
pending_names deck (Control Extras) h = tt
pending_names deck (Control (DevicePoints group)) h = (h.1.card.name, tt)
pending_names deck (Control TacsOutputs) h = tt
pending_names deck (Control Initial) h = tt
pending_names deck other h = tt

-- ---- how many

pending_few : (variables : List (List ℕ)) (deck : Deck) (place : Place) (history : ℕ) → length deck.control.blocks ≤ MOST_CONTROL_CARDS → length deck.control.extras ≤ MOST_CONTROL_CARDS → pending_control_bad variables deck place history ≡ None
    → length deck.control.blocks + length deck.control.extras + length (pending_at place) ≤ 400
pending_few variables deck (Control Blocks) history b x e = omega (arith, b, x)
pending_few variables deck (Control (Numerator card)) history b x e = let f = block_fine variables (length deck.control.blocks) card e in omega (arith, f.room, x)
pending_few variables deck (Control (Denominator card top line)) history b x e = let f = block_fine variables (length deck.control.blocks) card e in omega (arith, f.room, x)
pending_few variables deck (Control TacsSources) history b x e = omega (arith, b, x)
pending_few variables deck (Control Extras) history b x e = omega (arith, b, x)
pending_few variables deck (Control (DevicePoints group)) history b x e = let f = device_fine variables (length deck.control.extras) _ _ group.card e in omega (arith, f.room, b)
pending_few variables deck (Control TacsOutputs) history b x e = omega (arith, b, x)
pending_few variables deck (Control Initial) history b x e = omega (arith, b, x)
pending_few variables deck other history b x e = omega (arith, b, x)

extras_ok : (variables : List (List ℕ)) (deck : Deck) (place : Place) (r : Result ℕ Bad) → extras_or_pending variables deck place r ≡ None → (h : ℕ) × (r ≡ Ok h) × (pending_control_bad variables deck place h ≡ None)
extras_ok variables deck place (Ok h) e = (h, refl, e)
extras_ok variables deck place (Err bad) e = absurd (cc)

-- the cards of each section, and the one that is pending
pub record IsFine (nodes variables : List (List ℕ)) (deck : Deck) (place : Place) : Type 0 where
  pub total : ℕ
  pub blocks : AreFineBlocks variables 0 deck.control.blocks
  pub sources : AreFineSources nodes deck.switches variables (first_source deck.control) 0 deck.control.sources
  pub extras : AreFineExtras variables deck.run.dt (first_extra deck.control) 0 0 deck.control.extras total
  pub pending : pending_control_bad variables deck place total ≡ None

pub fine : (nodes variables : List (List ℕ)) (deck : Deck) (place : Place) → control_bad nodes variables deck place ≡ None → IsFine nodes variables deck place
unfolding control_bad
fine nodes variables deck place e =
    let cards = deck.control in
    let rest = extras_or_pending variables deck place (judge_extras variables deck.run.dt (first_extra cards) 0 0 cards.extras) in
    let one = nothing_before (blocks_bad variables 0 cards.blocks) (first_bad (tacs_sources_bad nodes deck.switches variables (first_source cards) 0 cards.sources) rest) e in
    let two = nothing_before (tacs_sources_bad nodes deck.switches variables (first_source cards) 0 cards.sources) rest one.1 in
    let three = extras_ok variables deck place (judge_extras variables deck.run.dt (first_extra cards) 0 0 cards.extras) two.1 in
    record {
      total = three.0;
      blocks = blocks_fine variables 0 cards.blocks (omega arith) one.0;
      sources = sources_fine nodes deck.switches variables (first_source cards) 0 cards.sources (omega arith) two.0;
      extras = extras_fine variables deck.run.dt (first_extra cards) 0 0 cards.extras three.0 (omega arith) three.1;
      pending = three.2;
    }

-- each name is that of a variable
known_options : (deck : Deck) (place : Place) → AreNamed standing_names (variable_names deck place) (all_options deck.control place)
known_options deck place = subst (λ ns. AreNamed standing_names ns (all_options deck.control place)) (in_one deck.control place ∙ sym (variables_are deck place)) (all_named standing_names (all_options deck.control place))

pub control_sensible : (nodes : List (List ℕ)) (deck : Deck) (place : Place) → IsSound deck place → IsWhole deck → control_bad nodes (variable_names deck place) deck place ≡ None → IsSensibleControl (variable_names deck place) deck
control_sensible nodes deck place sound whole e =
    let cards = deck.control in
    let variables = variable_names deck place in
    let f = fine nodes variables deck place e in
    let n = known_options deck place in
    let P : Option (List ℕ) → Type 0 = λ x. node_number variables x ≤ length variables in
    let bs = options_of block_name cards.blocks in
    let ss = options_of source_name cards.sources in
    let xs = options_of extra_name cards.extras in
    let behind = each_rest P bs (ss ++ (xs ++ pending_at place)) n.known in
    let extras = each_front P xs (pending_at place) (each_rest P ss (xs ++ pending_at place) behind) in
    let few : length variables ≤ MOST_VARIABLES = omega (
      arith,
      n.more,
      length-append bs (ss ++ (xs ++ pending_at place)),
      length-append ss (xs ++ pending_at place),
      length-append xs (pending_at place),
      options_length block_name cards.blocks,
      options_length source_name cards.sources,
      options_length extra_name cards.extras,
      f.sources.few,
      pending_few variables deck place f.total (omega (arith, f.blocks.few)) (omega (arith, f.extras.few)) f.pending,
    ) in
    record {
      standing = n.continues;
      few = few;
      names = λ standing. n.names standing
          (each_two (λ x. IfSome x IsName) bs (ss ++ (xs ++ pending_at place)) (each_of block_name IsName cards.blocks (λ k d lt. (whole.control.blocks k d lt).card.name))
          (each_two (λ x. IfSome x IsName) ss (xs ++ pending_at place) (each_of source_name IsName cards.sources (λ k d lt. (whole.control.sources k d lt).name))
          (each_two (λ x. IfSome x IsName) xs (pending_at place) (each_of extra_name IsName cards.extras (extra_names deck.points cards.extras whole.control.extras)) (pending_names deck place sound))));
      few_blocks = omega (arith, f.blocks.few);
      blocks = sensible_blocks variables 6 cards.blocks (omega arith) f.blocks.above (each_front P bs (ss ++ (xs ++ pending_at place)) n.known) f.blocks.names;
      few_extras = omega (arith, f.extras.few);
      extras = sensible_extras variables (first_extra cards + 0) cards.extras (omega arith) f.extras.above extras f.extras.names;
      history = omega (arith, f.extras.sum, f.extras.total (omega arith));
    }

-- ---- each variable is that of one card

two_maps : {A B C : Type 0} (f : A → B) (g : B → C) (xs : List A) → map g (map f xs) ≡ map (λ x. g (f x)) xs
two_maps f g [] = refl
two_maps f g (x ∷ xs) = ap (λ ys. g (f x) ∷ ys) (two_maps f g xs)

extra_var : (variables : List (List ℕ)) (points : List Point) (p : Parts) (e : ExtraEntry) → map var_of (with_extra variables points p e).extras ≡ map var_of p.extras ++ variable_number variables (extra_name e) ∷ []
extra_var variables points p (DeviceEntry card first count) = map-append var_of p.extras _
extra_var variables points p (FormulaEntry card) = map-append var_of p.extras _

extra_vars : (variables : List (List ℕ)) (points : List Point) (p : Parts) (es : List ExtraEntry) → map var_of (fold (with_extra variables points) p es).extras ≡ map var_of p.extras ++ map (λ e. variable_number variables (extra_name e)) es
extra_vars variables points p [] = sym (append-nil (map var_of p.extras))
extra_vars variables points p (e ∷ es) =
    extra_vars variables points (with_extra variables points p e) es
    ∙ ap (λ ys. ys ++ map (λ x. variable_number variables (extra_name x)) es) (extra_var variables points p e)
    ∙ append_assoc (map var_of p.extras) (variable_number variables (extra_name e) ∷ []) (map (λ x. variable_number variables (extra_name x)) es)

record IsNumbered (variables : List (List ℕ)) (cards : ControlCards) : Type 0 where
  blocks : map (λ (e : BlockEntry). variable_number variables e.card.name) cards.blocks ≡ range_with_len 6 (length cards.blocks)
  sources : map (λ (card : SourceCard). variable_number variables card.name) cards.sources ≡ range_with_len (6 + length cards.blocks) (length cards.sources)
  extras : map (λ e. variable_number variables (extra_name e)) cards.extras ≡ range_with_len (6 + (length cards.blocks + length cards.sources)) (length cards.extras)
  size : 6 + (length cards.blocks + length cards.sources + length cards.extras) ≡ length variables

numbered : (nodes : List (List ℕ)) (deck : Deck) (seen : Bool) → IsFine nodes (variable_names deck (After seen)) deck (After seen) → IsNumbered (variable_names deck (After seen)) deck.control
numbered nodes deck seen f =
    let cards = deck.control in
    let variables = variable_names deck (After seen) in
    let ss = options_of source_name cards.sources in
    let xs = options_of extra_name cards.extras in
    let all : variables ≡ third_names cards = variables_are deck (After seen) in
    let b = in_row block_name standing_names variables cards.blocks (ss ++ xs) (all ∙ sym (in_two (first_names cards) ss xs)) f.blocks.above in
    let after_blocks : first_source cards + 0 ≡ length (first_names cards) = omega (arith, b.longer) in
    let s = in_row source_name (first_names cards) variables cards.sources xs all (subst (λ n. AreAbove source_name variables n cards.sources) after_blocks f.sources.above) in
    let after_sources : first_extra cards + 0 ≡ length (second_names cards) = omega (arith, b.longer, s.longer) in
    let x = in_row extra_name (second_names cards) variables cards.extras [] all (subst (λ n. AreAbove extra_name variables n cards.extras) after_sources f.extras.above) in
    let second : length (first_names cards) ≡ 6 + length cards.blocks = omega (arith, b.longer) in
    let third : length (second_names cards) ≡ 6 + (length cards.blocks + length cards.sources) = omega (arith, b.longer, s.longer) in
    record {
      blocks = row_is block_name variables 6 cards.blocks b.row;
      sources = row_is source_name variables (length (first_names cards)) cards.sources s.row ∙ ap (λ n. range_with_len n (length cards.sources)) second;
      extras = row_is extra_name variables (length (second_names cards)) cards.extras x.row ∙ ap (λ n. range_with_len n (length cards.extras)) third;
      size = sym (ap length all ∙ omega (arith, b.longer, s.longer, x.longer));
    }

-- ---- the whole case

-- the control of a whole deck, of what is made of its cards
pub record IsWholeControl (m : Made) (deck : Deck) : Type 0 where
  pub few : length deck.control.sources ≤ MOST_CONTROL_CARDS
  pub switches : length deck.switches ≡ length m.parts.switches
  pub sensible : All (IsSensibleTacsSource m.parts.nodes deck.switches m.parts.vars) deck.control.sources
  pub each : DefinesEach (case_of deck m)

pub whole_control : (m : Made) (deck : Deck) (seen : Bool) → IsWhole deck → control_bad (known_nodes deck (After seen)) (variable_names deck (After seen)) deck (After seen) ≡ None → made_of_deck (case_nodes (known_nodes deck (After seen))) (variable_names deck (After seen)) deck ≡ Ok m → IsWholeControl m deck
whole_control m deck seen whole e h =
    let cards = deck.control in
    let variables = variable_names deck (After seen) in
    let nodes = known_nodes deck (After seen) in
    let p = m.parts in
    let asks = deck_asks (case_nodes nodes) variables deck m h in
    let is = control_is (case_nodes nodes) variables deck in
    let good = fine nodes variables deck (After seen) e in
    let n = numbered nodes deck seen good in
    let known = known_options deck (After seen) in
    let P : Option (List ℕ) → Type 0 = λ x. node_number variables x ≤ length variables in
    let bs = options_of block_name cards.blocks in
    let ss = options_of source_name cards.sources in
    let xs = options_of extra_name cards.extras in
    let sources = each_front P ss (xs ++ []) (each_rest P bs (ss ++ (xs ++ [])) known.known) in
    let vars : p.vars ≡ variables = asks.control.vars ∙ is.vars in
    let named : p.nodes ≡ nodes = asks.nodes ∙ is.nodes_are ∙ whole_nodes deck seen variables m h in
    let sensible = sensible_sources nodes deck.switches variables (first_source cards + 0) cards.sources (omega arith) good.sources.above sources good.sources.measures in
    let c = case_of deck m in
    record {
      few = omega (arith, good.sources.few);
      switches = omega (arith, asks.switched, ap length is.switches);
      sensible = subst (λ vs. All (IsSensibleTacsSource p.nodes deck.switches vs) cards.sources) (sym vars) (subst (λ ns. All (IsSensibleTacsSource ns deck.switches variables) cards.sources) (sym named) sensible);
      each = defined_once c (length cards.blocks) (length cards.sources) (length cards.extras)
          (ap (map (λ (b : Block). b.var)) (asks.control.blocks ∙ is.blocks) ∙ two_maps (block_of variables) (λ (b : Block). b.var) cards.blocks ∙ n.blocks)
          (two_maps (tacs_source_of p.nodes deck.switches p.vars) (λ (s : Source). s.node) cards.sources ∙ ap (λ vs. map (λ (card : SourceCard). variable_number vs card.name) cards.sources) vars ∙ n.sources)
          (ap (map var_of) asks.control.extras ∙ extra_vars variables deck.points _ cards.extras ∙ n.extras)
          (n.size ∙ sym (ap length vars));
    }

pub control_whole_is : (f : Filling) (deck : Deck) (seen : Bool) → IsFilling f → IsWhole deck → control_bad (known_nodes deck (After seen)) (variable_names deck (After seen)) deck (After seen) ≡ None → made_of_deck (case_nodes (known_nodes deck (After seen))) (variable_names deck (After seen)) deck ≡ Ok (made_of f) → IsSensibleWhole f deck
control_whole_is f deck seen filling whole e h =
    let is = whole_control (made_of f) deck seen whole e h in
    record {
      few = is.few;
      switches = is.switches;
      sources = whole.control.sources;
      sensible = subst (λ vs. All (IsSensibleTacsSource f.nodes.keys deck.switches vs) deck.control.sources) (sym filling.variables) (subst (λ ns. All (IsSensibleTacsSource ns deck.switches f.draft.parts.vars) deck.control.sources) (sym filling.nodes) is.sensible);
      each = is.each;
    }
