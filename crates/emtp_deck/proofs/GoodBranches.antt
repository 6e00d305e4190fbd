-- What is made of cards stays good where the branches of an entry are added.
use Rattle.emtp_fix.proofs.Chaining.{same_ok, then_ok}
use Rattle.emtp_case.specs.declared.limit.TheConstants.{MOST_BRANCHES, MOST_CHANNELS, MOST_HISTORY_VALUES}
use Rattle.emtp_case.specs.declared.branch.Trio as modes
use Rattle.std.proofs.Common.{◌≡◌, ◌∙◌, sym, ap, subst, refl, ℕ, ◌+◌, ◌<◌, ◌≤◌, true, false, List, [], ◌∷◌, ◌++◌, length, Option, Some, None, Ok, arith, length-append}
use Rattle.std.proofs.lemmas.List.Elements.{All-append, All-head, All-tail}
use Rattle.std.specs.Prelude.{All, drop, find, take}
use Rattle.emtp_case.proofs.DraftSteps as steps
use Rattle.emtp_case.specs.HistoryValues.{history_values_of}
use Rattle.emtp_case.specs.held.Branch.{IsSingle}
use Rattle.emtp_case.specs.held.Case.{IsDraft}
use Rattle.emtp_case.specs.held.Channel.{IsChannel}
use Rattle.emtp_case.specs.held.Range.{AreEnds}
use Rattle.emtp_case.specs.held.Sizes.{sizes_of}
use Rattle.emtp_case.specs.declared.branch.Branch.{Branch}
use Rattle.emtp_case.specs.declared.branch.Branch.TheVariants.{Line as OfLine, Lumped as OfLumped, Phase as OfPhase, Pseudo as OfPseudo}
use Rattle.emtp_case.specs.declared.branch.Point.{Point}
use Rattle.emtp_case.specs.declared.case.Parts.{Parts}
use Rattle.emtp_case.specs.declared.channel.Channel.{Channel}
use Rattle.emtp_case.specs.declared.channel.Channel.TheVariants.{BranchCurrent, BranchVoltage}
use Rattle.emtp_deck.proofs.Asking.{entry_asks, no_fault}
use Rattle.emtp_deck.proofs.Copying.{earlier}
use Rattle.emtp_deck.proofs.GoodMade.{IsGood}
use Rattle.emtp_deck.proofs.Growing.{IsGrown, branch_there, length_entry, length_of_channels, line_taken, line_there, modes_grown, one_taken, own_points, single_grown}
use Rattle.emtp_deck.proofs.Keeping.{there_grows}
use Rattle.emtp_deck.proofs.Modes.{has_modes, moved_fits, moved_values}
use Rattle.emtp_deck.proofs.Sensing.{line_takable, takable}
use Rattle.emtp_deck.specs.Branches.{branch_channels, first_fault, line_branch, line_history, moved, phase_for, take_branches, take_entry, with_modes, with_phases, with_single, with_values}
use Rattle.emtp_deck.specs.held.Branches.{line_channels, line_fault, with_line, with_one}
use Rattle.emtp_deck.specs.Copies.{earlier_or_missing, is_like, line_numbers, missing_fault, modes_for, numbers_behind, type_of_kind, values_behind, values_by}
use Rattle.emtp_deck.specs.held.Copies.{AreTakenBy, IsTaken}
use Rattle.emtp_deck.specs.Made.{Made, count_asked}
use Rattle.emtp_deck.specs.held.Sensible.{AreOwnPoints, HasOwnPoints, IsSensibleSingle, IsSensibleTrio}
use Rattle.emtp_sense.specs.Names.{node_number}
use Rattle.emtp_sense.specs.held.Naming.{HasEndNodes, HasEntryNodes, HasTrioNodes}
use Rattle.emtp_walk.specs.held.Sound.{IsEntry, IsTrioEntry, is_pseudo, is_reactor}
use Rattle.emtp_walk.specs.Walk.{is_phase}
use Rattle.emtp_deck.specs.declared.copies.TakenPair.{TakenPair}
use Rattle.emtp_walk.specs.declared.deck.BranchEntry.{BranchEntry}
use Rattle.emtp_walk.specs.declared.deck.BranchEntry.TheVariants.{Single, Trio}
use Rattle.emtp_netcards.specs.held.BranchCard.{HasNumbers, HasValues, kind_of_values}
use Rattle.emtp_netcards.specs.declared.branch_card.BranchCard.{BranchCard}
use Rattle.emtp_netcards.specs.declared.branch_card.BranchValues.{BranchValues}
use Rattle.emtp_netcards.specs.declared.branch_card.BranchValues.TheVariants.{Copied as CopiedCard, Line as LineCard, Lumped as LumpedCard, Reactor as ReactorCard, Resistor as ResistorCard, Second as SecondCard, Third as ThirdCard}

-- ---- drafts

moved_single : (ts : List modes.Trio) (line a b : ℕ) (x : Branch) → IsSingle (moved ts line a b x)
moved_single ts line a b (OfLumped x) = tt
moved_single ts line a b (OfLine x) = tt
moved_single ts line a b (OfPseudo x) = tt
moved_single ts line a b (OfPhase x) = tt

values_draft : (points : List Point) (p : Parts) (card : BranchCard) (a b : ℕ) (values : BranchValues) → IsDraft p → is_phase (Ok (kind_of_values values)) ≡ false → HasValues p.run.dt values → (is_pseudo values ≡ true → AreOwnPoints (is_reactor values) p.run.dt points)
    → length p.branches < MOST_BRANCHES → AreEnds (length p.nodes) a b → missing_fault (values_by p.nodes p.branches values) ≡ None → history_values_of p + line_history 1 p.run.dt (line_numbers p.trios values (values_by p.nodes p.branches values)) ≤ MOST_HISTORY_VALUES
    → IsDraft (with_values points p (record card { values = values }) a b (values_by p.nodes p.branches values))
values_draft points p card a b (LumpedCard r l c) h kind numbers own room ends taken history =
    steps.with_branch p (OfLumped (record { line = card.line; «from» = a; to = b; r = r; l = l; c = c })) h room tt (record { ends = ends; numbers = numbers }) history
values_draft points p card a b (LineCard zc r delay) h kind numbers own room ends taken history =
    steps.with_branch p (line_branch card.line a b (record { zc = zc; r = r; delay = delay })) h room tt (record { ends = ends; numbers = numbers }) (omega (arith, history))
values_draft points p card a b (SecondCard zc r delay) h kind numbers own room ends taken history = absurd (cc)
values_draft points p card a b ThirdCard h kind numbers own room ends taken history = absurd (cc)
values_draft points p card a b ReactorCard h kind numbers own room ends taken history =
    let o = own refl in
    steps.with_pseudo p (record { line = card.line; «from» = a; to = b; reactor = true; first = 0; count = 0 }) points h room ends o.some o.few o.characteristic
values_draft points p card a b ResistorCard h kind numbers own room ends taken history =
    let o = own refl in
    steps.with_pseudo p (record { line = card.line; «from» = a; to = b; reactor = false; first = 0; count = 0 }) points h room ends o.some o.few o.characteristic
values_draft points p card a b (CopiedCard kind x y) h single numbers own room ends taken history =
    by (find (is_like (type_of_kind kind) (node_number p.nodes x) (node_number p.nodes y)) p.branches) refl taken history
  where
    by : (o : Option Branch) → find (is_like (type_of_kind kind) (node_number p.nodes x) (node_number p.nodes y)) p.branches ≡ o → missing_fault (earlier_or_missing o) ≡ None → history_values_of p + line_history 1 p.run.dt (line_numbers p.trios (CopiedCard kind x y) (earlier_or_missing o)) ≤ MOST_HISTORY_VALUES
        → IsDraft (with_values points p (record card { values = CopiedCard kind x y }) a b (earlier_or_missing o))
    by (Some branch) is t few =
        let there = (earlier p (type_of_kind kind) (node_number p.nodes x) (node_number p.nodes y) branch h.network.branches is).there in
        steps.with_branch p (moved p.trios card.line a b branch) h room (moved_single p.trios card.line a b branch) (moved_fits p card.line a b branch h.network.trios ends there)
        (subst (λ n. history_values_of p + n ≤ MOST_HISTORY_VALUES) (moved_values p card.line a b branch) few)
    by None is t few = absurd (cc)

single_draft : (points : List Point) (p : Parts) (card : BranchCard) → IsDraft p → is_phase (Ok (kind_of_values card.values)) ≡ false → HasNumbers p.run.dt card → HasOwnPoints p.run.dt points card → IsSensibleSingle p card → IsDraft (with_single points p card)
single_draft points p card h kind numbers own s =
    values_draft points p card (node_number p.nodes card.from) (node_number p.nodes card.to) card.values h kind numbers.values own s.room s.ends s.taken s.history

taken_kind : (p : Parts) (values : BranchValues) → IsDraft p → missing_fault (values_by p.nodes p.branches values) ≡ None → IsTaken p (type_of_kind (kind_of_values values)) (values_by p.nodes p.branches values)
taken_kind p (LumpedCard r l c) h t = tt
taken_kind p (LineCard zc r delay) h t = tt
taken_kind p (SecondCard zc r delay) h t = tt
taken_kind p ThirdCard h t = tt
taken_kind p ReactorCard h t = tt
taken_kind p ResistorCard h t = tt
taken_kind p (CopiedCard kind x y) h t = by (find (is_like (type_of_kind kind) (node_number p.nodes x) (node_number p.nodes y)) p.branches) refl
  where
    by : (o : Option Branch) → find (is_like (type_of_kind kind) (node_number p.nodes x) (node_number p.nodes y)) p.branches ≡ o → IsTaken p (type_of_kind kind) (earlier_or_missing o)
    by (Some branch) is = earlier p (type_of_kind kind) (node_number p.nodes x) (node_number p.nodes y) branch h.network.branches is
    by None is = tt

record AreDrafted (p : Parts) (zero' positive third : BranchCard) : Type 0 where
  draft : IsDraft (with_phases p zero' positive third)
  grown : IsGrown p (with_phases p zero' positive third) 3

line_draft : (p : Parts) (zero' positive third : BranchCard) → IsDraft p → IsTrioEntry p.run zero' positive → IsSensibleTrio p zero' positive third → AreDrafted p zero' positive third
line_draft p zero' positive third h trio s =
    let a = phase_for p zero' in
    let b = phase_for p positive in
    let c = phase_for p third in
    let taken : TakenPair = record { zero_sequence = record { values = values_behind p zero'; numbers = numbers_behind p zero' }; positive_sequence = record { values = values_behind p positive; numbers = numbers_behind p positive } } in
    let t : AreTakenBy p zero' positive taken = record {
      zero_taken = record { values_are = refl; numbers_are = refl; kind = taken_kind p zero'.values h s.zero_taken };
      positive_taken = record { values_are = refl; numbers_are = refl; kind = taken_kind p positive.values h s.positive_taken };
    } in
    let m = has_modes p zero' positive third taken t trio h.network.trios h.network.branches s in
    record {
      draft = subst (λ o. IsDraft (with_modes p a b c o)) (sym m.are) (steps.with_trio p m.modes a b c h s.room s.zero_ends s.positive_ends s.third_ends m.range m.history);
      grown = modes_grown p a b c (modes_for (numbers_behind p zero') (numbers_behind p positive)) m.modes m.are;
    }

-- ---- good

grown_good : (m : Made) (q : Parts) (added : List Channel) (more : ℕ) → IsGood m → IsDraft q → IsGrown m.parts q more → count_asked m.asked + length added ≤ MOST_CHANNELS → All (IsChannel (sizes_of q)) added → IsGood (record { parts = q; asked = record m.asked { branches = m.asked.branches ++ added } })
grown_good m q added more good draft g few there =
    let n = sizes_of q in
    let grown = there_grows (sizes_of m.parts) n m.asked
    (record { nodes = omega (arith, ap length g.nodes); branches = omega (arith, g.branches); trios = g.trios; switches = omega (arith, ap length g.switches); vars = omega (arith, ap length g.vars) }) good.there in
    record {
      draft = draft;
      no_sources = g.tacs_sources ∙ good.no_sources;
      no_channels = g.channels ∙ good.no_channels;
      few = omega (arith, few, length-append m.asked.branches added);
      there = record {
        variables = grown.variables;
        outputs = grown.outputs;
        branches = All-append (IsChannel n) m.asked.branches added grown.branches there;
        switches = grown.switches;
        statuses = grown.statuses;
      };
    }

one_good : (points : List Point) (m : Made) (card : BranchCard) → IsGood m → is_phase (Ok (kind_of_values card.values)) ≡ false → HasNumbers m.parts.run.dt card → HasOwnPoints m.parts.run.dt points card → HasEndNodes m.parts.nodes card.from card.to → first_fault m card ≡ None → IsGood (with_one points m card)
one_good points m card good kind numbers own nodes none =
    let p = m.parts in
    let at = length p.branches in
    let fine = takable m card numbers.ends nodes none in
    let g = single_grown points p card kind fine.sensible.taken in
    let size = length_of_channels card.asked (BranchCurrent at) (BranchVoltage at) in
    grown_good m (with_single points p card) (branch_channels at card) 1 good (single_draft points p card good.draft kind numbers own fine.sensible) g (omega (arith, fine.room, size)) (branch_there (sizes_of (with_single points p card)) at card (omega (arith, g.branches)))

line_good : (m : Made) (zero' positive third : BranchCard) → IsGood m → IsTrioEntry m.parts.run zero' positive → HasNumbers m.parts.run.dt third → HasTrioNodes m.parts.nodes zero' positive third → line_fault m zero' positive third ≡ None → IsGood (with_line m zero' positive third)
line_good m zero' positive third good trio numbers nodes none =
    let p = m.parts in
    let at = length p.branches in
    let fine = line_takable m zero' positive third trio.zero_numbers.ends trio.positive_numbers.ends numbers.ends nodes none in
    let d = line_draft p zero' positive third good.draft trio fine.sensible in
    grown_good m (with_phases p zero' positive third) (line_channels at zero' positive third) 3 good d.draft d.grown (omega (arith, fine.room, length_entry at (Trio zero' positive third))) (line_there (sizes_of (with_phases p zero' positive third)) at zero' positive third (omega (arith, d.grown.branches)))

entry_taken : (points : List Point) (m m' : Made) (e : BranchEntry) → IsGood m → IsEntry m.parts.run points e → HasEntryNodes m.parts.nodes e → take_entry points m e ≡ Ok m' → IsGood m'
entry_taken points m m' (Single card first count) good entry nodes is =
    let own = take count (drop first points) in
    let none = no_fault (first_fault m card) (λ bad. bad) (with_one own m card) m' (sym (one_taken points m card first count count (Single card first count) refl refl) ∙ is) in
    subst IsGood none.1 (one_good own m card good entry.kind entry.numbers (own_points m.parts.run points card first count count refl entry) nodes none.0)
entry_taken points m m' (Trio zero' positive third) good entry nodes is =
    let none = no_fault (line_fault m zero' positive third) (λ bad. bad) (with_line m zero' positive third) m' (sym (line_taken points m zero' positive third (Trio zero' positive third) refl) ∙ is) in
    subst IsGood none.1 (line_good m zero' positive third good entry.0 entry.1 nodes none.0)

pub branches_taken : (points : List Point) (es : List BranchEntry) (m m' : Made) → IsGood m → All (IsEntry m.parts.run points) es → All (HasEntryNodes m.parts.nodes) es → take_branches points m es ≡ Ok m' → IsGood m'
branches_taken points [] m m' good entries nodes is = subst IsGood (same_ok m m' is) good
branches_taken points (e ∷ es) m m' good entries nodes is =
    let next = then_ok (take_entry points m e) (λ (made : Made). take_branches points made es) m' is in
    let asks = entry_asks points m next.0 e next.1 in
    let taken = entry_taken points m next.0 e good (All-head (IsEntry m.parts.run points) e es entries) (All-head (HasEntryNodes m.parts.nodes) e es nodes) next.1 in
    branches_taken points es next.0 m' taken
    (subst (λ r. All (IsEntry r points) es) (sym asks.run) (All-tail (IsEntry m.parts.run points) e es entries))
    (subst (λ ns. All (HasEntryNodes ns) es) (sym asks.nodes) (All-tail (HasEntryNodes m.parts.nodes) e es nodes)) next.2
