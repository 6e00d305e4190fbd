-- What is made of the cards stays whole where the branches of an entry are added.
use Rattle.emtp_case.specs.declared.limit.TheConstants.{MOST_CHANNELS}
use Rattle.emtp_case.specs.declared.branch.Trio as modes
use Rattle.std.proofs.Common.{◌≡◌, ◌∙◌, sym, ap, refl, ℕ, ◌+◌, ◌<◌, ◌≤◌, Bool, true, false, List, [], ◌∷◌, ◌++◌, length, Option, Some, None, Ok, arith, length-append, length-take, length-drop}
use Rattle.std.proofs.lemmas.List.Elements.{All-append}
use Rattle.std.specs.Prelude.{All, drop, find, take, ◌==◌, if◌then◌else◌}
use Rattle.emtp_case.specs.held.Channel.{IsChannel}
use Rattle.emtp_case.specs.HistoryValues.{history_values_of}
use Rattle.emtp_case.specs.held.Sizes.{Sizes, sizes_of}
use Rattle.emtp_case.specs.declared.branch.Branch.{Branch}
use Rattle.emtp_case.specs.declared.branch.Phase.{Phase}
use Rattle.emtp_case.specs.declared.branch.Point.{Point}
use Rattle.emtp_case.specs.declared.case.Parts.{Parts}
use Rattle.emtp_case.specs.declared.channel.Channel.{Channel}
use Rattle.emtp_case.specs.declared.channel.Channel.TheVariants.{BranchCurrent, BranchVoltage}
use Rattle.emtp_case.specs.declared.draft.Draft.{Draft}
use Rattle.emtp_case.specs.declared.run_data.RunData.{RunData}
use Rattle.emtp_deck.proofs.Keeping.{channels_of_there, there_grows}
use Rattle.emtp_deck.specs.Branches.{branch_channels, card_history, entry_channels, entry_count, phase_for, take_entry, with_modes, with_phases, with_single, with_values}
use Rattle.emtp_deck.specs.held.Branches.{line_channels, line_count, pair_history, take_line, take_one, with_asked, with_taken}
use Rattle.emtp_deck.specs.Channels.{channel_count, channels_of}
use Rattle.emtp_deck.specs.Copies.{earlier_or_missing, is_like, missing_fault, modes_for, numbers_behind, type_of_kind, values_by}
use Rattle.emtp_deck.specs.held.Copies.{AreTakenBy}
use Rattle.emtp_deck.specs.held.Filling.{IsFilling}
use Rattle.emtp_deck.specs.Made.{Made, count_asked}
use Rattle.emtp_deck.specs.held.Sensible.{AreOwnPoints, FindsValues, IsSensibleSingle}
use Rattle.emtp_sense.specs.Names.{node_number}
use Rattle.emtp_walk.specs.held.Sound.{IsSingleEntry, has_points, is_reactor}
use Rattle.emtp_walk.specs.Walk.{is_phase}
use Rattle.emtp_deck.specs.declared.copies.TakenPair.{TakenPair}
use Rattle.emtp_walk.specs.declared.deck.BranchEntry.{BranchEntry}
use Rattle.emtp_walk.specs.declared.deck.BranchEntry.TheVariants.{Single, Trio}
use Rattle.emtp_deck.specs.declared.filling.Filling.{Filling}
use Rattle.emtp_netcards.specs.held.BranchCard.{kind_of_values}
use Rattle.emtp_netcards.specs.declared.branch_card.BranchCard.{BranchCard}
use Rattle.emtp_netcards.specs.declared.branch_card.BranchValues.{BranchValues}
use Rattle.emtp_netcards.specs.declared.branch_card.BranchValues.TheVariants.{Copied as CopiedCard, Line as LineCard, Lumped as LumpedCard, Reactor as ReactorCard, Resistor as ResistorCard, Second as SecondCard, Third as ThirdCard}

-- ---- counts

length_channels : (p q r : Bool) (a b : Channel) → length (if◌then◌else◌ {A = List Channel} p [] (if◌then◌else◌ {A = List Channel} q (a ∷ []) (if◌then◌else◌ {A = List Channel} r (b ∷ []) (a ∷ b ∷ [])))) ≡ if◌then◌else◌ {A = ℕ} p 0 (if◌then◌else◌ {A = ℕ} q 1 (if◌then◌else◌ {A = ℕ} r 1 2))
length_channels true q r a b = refl
length_channels false true r a b = refl
length_channels false false true a b = refl
length_channels false false false a b = refl

pub length_of_channels : (asked : ℕ) (a b : Channel) → length (channels_of asked a b) ≡ channel_count asked
length_of_channels asked a b = length_channels (asked == 0) (asked == 1) (asked == 2) a b

three : (a b c : ℕ) (xs ys zs : List Channel) → length xs ≡ a → length ys ≡ b → length zs ≡ c → length (xs ++ ys ++ zs) ≡ a + b + c
three a b c xs ys zs x y z = omega (arith, length-append (xs ++ ys) zs, length-append xs ys, x, y, z)

pub length_entry : (at : ℕ) (e : BranchEntry) → length (entry_channels at e) ≡ entry_count e
length_entry at (Single card first count) = length_of_channels card.asked (BranchCurrent at) (BranchVoltage at)
length_entry at (Trio zero' positive third) =
    three (channel_count zero'.asked) (channel_count positive.asked) (channel_count third.asked) (branch_channels at zero') (branch_channels (at + 1) positive) (branch_channels (at + 2) third)
    (length_of_channels zero'.asked (BranchCurrent at) (BranchVoltage at)) (length_of_channels positive.asked (BranchCurrent (at + 1)) (BranchVoltage (at + 1))) (length_of_channels third.asked (BranchCurrent (at + 2)) (BranchVoltage (at + 2)))

-- ---- records

-- so many branches more, and nothing else that a filling speaks of
pub record IsGrown (p q : Parts) (more : ℕ) : Type 0 where
  pub run : q.run ≡ p.run
  pub nodes : q.nodes ≡ p.nodes
  pub vars : q.vars ≡ p.vars
  pub tacs_sources : q.tacs_sources ≡ p.tacs_sources
  pub blocks : q.blocks ≡ p.blocks
  pub extras : q.extras ≡ p.extras
  pub channels : q.channels ≡ p.channels
  pub switches : q.switches ≡ p.switches
  pub branches : length q.branches ≡ length p.branches + more
  pub trios : length p.trios ≤ length q.trios

one_more : (p : Parts) (points : List Point) (b : Branch) → IsGrown p (record p { points = points; branches = p.branches ++ b ∷ [] }) 1
one_more p points b = record {
  run = refl;
  nodes = refl;
  vars = refl;
  tacs_sources = refl;
  blocks = refl;
  extras = refl;
  channels = refl;
  switches = refl;
  branches = length-append p.branches (b ∷ []);
  trios = omega arith;
}

three_more : (p : Parts) (bs : List Branch) (ts : List modes.Trio) → length bs ≡ 3 → IsGrown p (record p { branches = p.branches ++ bs; trios = p.trios ++ ts }) 3
three_more p bs ts e = record {
  run = refl;
  nodes = refl;
  vars = refl;
  tacs_sources = refl;
  blocks = refl;
  extras = refl;
  channels = refl;
  switches = refl;
  branches = omega (arith, length-append p.branches bs, e);
  trios = omega (arith, length-append p.trios ts);
}

values_grown : (points : List Point) (p : Parts) (card : BranchCard) (a b : ℕ) (values : BranchValues) → is_phase (Ok (kind_of_values values)) ≡ false
    → missing_fault (values_by p.nodes p.branches values) ≡ None → IsGrown p (with_values points p (record card { values = values }) a b (values_by p.nodes p.branches values)) 1
values_grown points p card a b (LumpedCard r l c) e t = one_more p p.points _
values_grown points p card a b (LineCard zc r delay) e t = one_more p p.points _
values_grown points p card a b (SecondCard zc r delay) e t = absurd (cc)
values_grown points p card a b ThirdCard e t = absurd (cc)
values_grown points p card a b ReactorCard e t = one_more p (p.points ++ points) _
values_grown points p card a b ResistorCard e t = one_more p (p.points ++ points) _
values_grown points p card a b (CopiedCard kind x y) e t = found_grown (find (is_like (type_of_kind kind) (node_number p.nodes x) (node_number p.nodes y)) p.branches) t
  where
    found_grown : (found : Option Branch) → missing_fault (earlier_or_missing found) ≡ None → IsGrown p (with_values points p (record card { values = CopiedCard kind x y }) a b (earlier_or_missing found)) 1
    found_grown (Some branch) t = one_more p p.points _
    found_grown None t = absurd (cc)

pub single_grown : (points : List Point) (p : Parts) (card : BranchCard) → is_phase (Ok (kind_of_values card.values)) ≡ false → FindsValues p card → IsGrown p (with_single points p card) 1
single_grown points p card kind taken = values_grown points p card (node_number p.nodes card.from) (node_number p.nodes card.to) card.values kind taken

pub modes_grown : (p : Parts) (a b c : Phase) (o : Option modes.Trio) (trio : modes.Trio) → o ≡ Some trio → IsGrown p (with_modes p a b c o) 3
modes_grown p a b c (Some x) trio e = three_more p _ _ refl
modes_grown p a b c None trio e = absurd (cc)

pub branch_there : (n : Sizes) (at : ℕ) (card : BranchCard) → at < n.branches → All (IsChannel n) (branch_channels at card)
branch_there n at card l = channels_of_there (IsChannel n) card.asked (BranchCurrent at) (BranchVoltage at) l l

pub line_there : (n : Sizes) (at : ℕ) (zero' positive third : BranchCard) → at + 3 ≤ n.branches → All (IsChannel n) (line_channels at zero' positive third)
line_there n at zero' positive third l =
    let zs = branch_channels at zero' in
    let ps = branch_channels (at + 1) positive in
    let ts = branch_channels (at + 2) third in
    All-append (IsChannel n) (zs ++ ps) ts
    (All-append (IsChannel n) zs ps (branch_there n at zero' (omega arith)) (branch_there n (at + 1) positive (omega arith)))
    (branch_there n (at + 2) third (omega arith))

-- so many branches more, and these channels
grown_filling : (f : Filling) (draft : Draft) (channels added : List Channel) (history values more : ℕ) (q : Parts) → IsFilling f → IsGrown f.draft.parts q more → count_asked f.asked + length added ≤ MOST_CHANNELS → All (IsChannel (sizes_of q)) added
    → draft.parts ≡ q → history_values_of draft.parts ≡ history_values_of f.draft.parts + values → history ≡ f.history + values → channels ≡ f.asked.branches ++ added
    → IsFilling (record f { draft = draft; asked = record f.asked { branches = channels }; history = history })
grown_filling f draft channels added history values more q h g few there d counted sum c =
    let n = sizes_of q in
    let grown = there_grows (sizes_of f.draft.parts) n f.asked
    (record { nodes = omega (arith, ap length g.nodes); branches = omega (arith, g.branches); trios = g.trios; switches = omega (arith, ap length g.switches); vars = omega (arith, ap length g.vars) }) h.there in
    record {
      nodes = rw d (h.nodes ∙ sym g.nodes);
      history = sum ∙ ap (λ k. k + values) h.history ∙ sym counted;
      variables = rw d (h.variables ∙ sym g.vars);
      no_sources = rw d (g.tacs_sources ∙ h.no_sources);
      no_channels = rw d (g.channels ∙ h.no_channels);
      few = rw c (omega (arith, few, length-append f.asked.branches added));
      there = rw d (record {
        variables = grown.variables;
        outputs = grown.outputs;
        branches = rw c (All-append (IsChannel n) f.asked.branches added grown.branches there);
        switches = grown.switches;
        statuses = grown.statuses;
      });
    }

-- these parts, and these channels more
pub made_by : (m : Made) (p q : Parts) (channels added : List Channel) → p ≡ q → channels ≡ m.asked.branches ++ added → ◌≡◌ {A = Made} (record { parts = p; asked = record m.asked { branches = channels } }) (with_asked m q added)
made_by m p q channels added e d = rw (e, d) refl

-- ---- a card of one branch

-- what is made with one card or line more
pub record IsNext (f : Filling) (draft : Draft) (channels : List Channel) (history : ℕ) : Type 0 where
  pub run : draft.parts.run ≡ f.draft.parts.run
  pub filling : IsFilling (record f { draft = draft; asked = record f.asked { branches = channels }; history = history })

pub one_more_filling : (f : Filling) (draft : Draft) (channels : List Channel) (history : ℕ) (points : List Point) (card : BranchCard) → IsFilling f → is_phase (Ok (kind_of_values card.values)) ≡ false → IsSensibleSingle f.draft.parts card → count_asked f.asked + channel_count card.asked ≤ MOST_CHANNELS
    → draft.parts ≡ with_single points f.draft.parts card → history_values_of draft.parts ≡ history_values_of f.draft.parts + card_history 1 f.draft.parts card → history ≡ f.history + card_history 1 f.draft.parts card
    → channels ≡ f.asked.branches ++ branch_channels (length f.draft.parts.branches) card → IsNext f draft channels history
one_more_filling f draft channels history points card h kind s few d counted sum c =
    let p = f.draft.parts in
    let at = length p.branches in
    let q = with_single points p card in
    let g = single_grown points p card kind s.taken in
    let size = length_of_channels card.asked (BranchCurrent at) (BranchVoltage at) in
    record {
      run = rw d g.run;
      filling = grown_filling f draft channels (branch_channels at card) history (card_history 1 p card) 1 q h g (omega (arith, few, size)) (branch_there (sizes_of q) at card (omega (arith, g.branches))) d counted sum c;
    }

-- ---- a line of three phases

-- the phases that the code makes are those of the definition
pub line_parts : (p : Parts) (zero' positive third : BranchCard) (taken : TakenPair) (a b c : Phase) → AreTakenBy p zero' positive taken → a ≡ phase_for p zero' → b ≡ phase_for p positive → c ≡ phase_for p third
    → with_taken p a b c taken ≡ with_phases p zero' positive third
line_parts p zero' positive third taken a b c t to_a to_b to_c = rw (to_a, to_b, to_c, t.zero_taken.numbers_are, t.positive_taken.numbers_are) refl

pub line_more_filling : (f : Filling) (draft : Draft) (channels : List Channel) (history : ℕ) (zero' positive third : BranchCard) (trio : modes.Trio) → IsFilling f → modes_for (numbers_behind f.draft.parts zero') (numbers_behind f.draft.parts positive) ≡ Some trio
    → count_asked f.asked + line_count zero' positive third ≤ MOST_CHANNELS → draft.parts ≡ with_phases f.draft.parts zero' positive third → history_values_of draft.parts ≡ history_values_of f.draft.parts + pair_history f.draft.parts zero' positive
    → history ≡ f.history + pair_history f.draft.parts zero' positive → channels ≡ f.asked.branches ++ line_channels (length f.draft.parts.branches) zero' positive third → IsNext f draft channels history
line_more_filling f draft channels history zero' positive third trio h are few d counted sum c =
    let p = f.draft.parts in
    let at = length p.branches in
    let q = with_phases p zero' positive third in
    let g = modes_grown p (phase_for p zero') (phase_for p positive) (phase_for p third) (modes_for (numbers_behind p zero') (numbers_behind p positive)) trio are in
    record {
      run = rw d g.run;
      filling = grown_filling f draft channels (line_channels at zero' positive third) history (pair_history p zero' positive) 3 q h g (omega (arith, few, length_entry at (Trio zero' positive third))) (line_there (sizes_of q) at zero' positive third (omega (arith, g.branches))) d counted sum c;
    }

-- ---- what an entry gives is what its cards give

pub one_taken : (points : List Point) (m : Made) (card : BranchCard) (first count n : ℕ) (e : BranchEntry) → e ≡ Single card first count → n ≡ count → take_entry points m e ≡ take_one (take n (drop first points)) m card
unfolding take_entry
one_taken points m card first count n e is same = rw (is, same) refl

pub line_taken : (points : List Point) (m : Made) (zero' positive third : BranchCard) (e : BranchEntry) → e ≡ Trio zero' positive third → take_entry points m e ≡ take_line m zero' positive third
unfolding take_entry
line_taken points m zero' positive third e is = rw is refl

-- ---- points

-- the points of one entry, as they are cut from all points
pub own_points : (run : RunData) (points : List Point) (card : BranchCard) (first count n : ℕ) → n ≡ count → IsSingleEntry run points card first count → has_points card ≡ true → AreOwnPoints (is_reactor card.values) run.dt (take n (drop first points))
own_points run points card first count n e h has =
    let g = h.group has in
    rw e (record {
      some = omega (arith, g.some, g.there, length-take count (drop first points), length-drop first points);
      few = omega (arith, g.few, length-take count (drop first points));
      characteristic = g.characteristic;
    })
