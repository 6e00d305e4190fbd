-- The names of all nodes as one list of the names on cards, and which of their numbers are those of the nodes of a case.
use Rattle.emtp_case.specs.declared.limit.TheConstants.{MOST_NODES}
use Rattle.std.proofs.Common.{Bool, List, Option, [], ap, arith, false, fold, length, length-take, refl, subst, suc, sym, take, take_all, true, ℕ, ◌++◌, ◌∙◌, ◌∷◌, ◌≡◌, ◌≤◌}
use Rattle.std.proofs.lemmas.Bool.Decides.{nat_tests}
use Rattle.std.proofs.lemmas.List.Elements.{All-cons, All-nil, All-take}
use Rattle.std.specs.Prelude.{All, IfSome, nat_le}
use Rattle.emtp_case.specs.held.Name.{IsName}
use Rattle.emtp_case.specs.declared.branch.Point.{Point}
use Rattle.emtp_case.specs.declared.run_data.RunData.{RunData}
use Rattle.emtp_netcards.specs.held.SwitchCard.{HasSwitchNumbers}
use Rattle.emtp_netcards.specs.declared.switch_card.SwitchCard.{SwitchCard}
use Rattle.emtp_sense.proofs.Naming.{AreNamed, Each, all_named, same_number, with_names}
use Rattle.emtp_sense.proofs.Numbering.{each_front, each_rest, each_two, in_two}
use Rattle.emtp_sense.specs.Names.{case_nodes, known_nodes, node_names, node_number, with_ends, with_entry_names, with_pending_nodes, with_switch_names}
use Rattle.emtp_sense.specs.held.Naming.{HasEndNodes, HasEntryNodes, HasNodes, HasSwitchNodes}
use Rattle.emtp_walk.specs.held.Sound.{IsEntry, IsSound, IsWhole}
use Rattle.emtp_walk.specs.declared.deck.BranchEntry.{BranchEntry}
use Rattle.emtp_walk.specs.declared.deck.BranchEntry.TheVariants.{Single, Trio}
use Rattle.emtp_walk.specs.declared.deck.Deck.{Deck}
use Rattle.emtp_walk.specs.declared.deck.Place.{Place}
use Rattle.emtp_walk.specs.declared.deck.Place.TheVariants.{After, Begin, Branches, Control, First, Outputs, Points, Second, Sources, Start, Switches, Third, Waiting}

-- ---- the names on cards

abbrev pub entry_names : BranchEntry → List (Option (List ℕ))
entry_names (Single card first count) = card.from ∷ card.to ∷ []
entry_names (Trio zero' positive third) = zero'.from ∷ zero'.to ∷ positive.from ∷ positive.to ∷ third.from ∷ third.to ∷ []

abbrev pub branch_names : List BranchEntry → List (Option (List ℕ))
branch_names [] = []
branch_names (e ∷ es) = entry_names e ++ branch_names es

abbrev pub switch_names : List SwitchCard → List (Option (List ℕ))
switch_names [] = []
switch_names (card ∷ cards) = card.from ∷ card.to ∷ switch_names cards

-- those of a group that the file cuts off
abbrev pub pending_names : Place → List (Option (List ℕ))
pending_names (Points group) = group.card.from ∷ group.card.to ∷ []
pending_names (Waiting card wide) = card.from ∷ card.to ∷ []
pending_names (Third zero' positive wide) = zero'.from ∷ zero'.to ∷ positive.from ∷ positive.to ∷ []
pending_names other = []

abbrev pub card_names : Deck → Place → List (Option (List ℕ))
card_names deck place = branch_names deck.branches ++ (switch_names deck.switches ++ pending_names place)

branches_are : (names : List (List ℕ)) (es : List BranchEntry) → fold with_entry_names names es ≡ with_names names (branch_names es)
branches_are names [] = refl
branches_are names (Single card first count ∷ es) = branches_are (with_ends names card.from card.to) es
branches_are names (Trio zero' positive third ∷ es) = branches_are (with_ends (with_ends (with_ends names zero'.from zero'.to) positive.from positive.to) third.from third.to) es

switches_are : (names : List (List ℕ)) (cards : List SwitchCard) → fold with_switch_names names cards ≡ with_names names (switch_names cards)
switches_are names [] = refl
switches_are names (card ∷ cards) = switches_are (with_ends names card.from card.to) cards

pending_are : (names : List (List ℕ)) (place : Place) → with_pending_nodes names place ≡ with_names names (pending_names place)
pending_are names Begin = refl
pending_are names (First seen) = refl
pending_are names Second = refl
pending_are names Start = refl
pending_are names (Control at) = refl
pending_are names (Branches wide) = refl
pending_are names (Points group) = refl
pending_are names (Waiting card wide) = refl
pending_are names (Third zero' positive wide) = refl
pending_are names Switches = refl
pending_are names Sources = refl
pending_are names Outputs = refl
pending_are names (After seen) = refl

known_are : (deck : Deck) (place : Place) → known_nodes deck place ≡ with_names [] (card_names deck place)
known_are deck place =
    let bs = branch_names deck.branches in
    let ss = switch_names deck.switches in
    let ps = pending_names place in
    pending_are (node_names deck) place
    ∙ ap (λ ns. with_names ns ps) (switches_are (fold with_entry_names [] deck.branches) deck.switches ∙ ap (λ ns. with_names ns ss) (branches_are [] deck.branches))
    ∙ sym (in_two [] bs (ss ++ ps) ∙ in_two (with_names [] bs) ss ps)

-- each name is that of a node
known_named : (deck : Deck) (place : Place) → AreNamed [] (known_nodes deck place) (card_names deck place)
known_named deck place = subst (λ ns. AreNamed [] ns (card_names deck place)) (sym (known_are deck place)) (all_named [] (card_names deck place))

-- ---- the nodes of a case

within : (a b : ℕ) → nat_le a b ≡ true → a ≤ b
within a b e = grind (arith, nat_tests)

beyond : (a b : ℕ) → nat_le a b ≡ false → b ≤ a
beyond a b e = grind (arith, nat_tests)

-- among the first names a number within their limit is that of one of them
kept_by : (n : ℕ) (names : List (List ℕ)) (x : Option (List ℕ)) (is : Bool) → nat_le (length names) n ≡ is → node_number names x ≤ length names → node_number (take n names) x ≤ n → node_number (take n names) x ≤ length (take n names)
kept_by n names x true e known few = let all : take n names ≡ names = take_all n names (within (length names) n e) in rw all known
kept_by n names x false e known few = omega (arith, length-take n names, beyond (length names) n e, few)

kept : (n : ℕ) (names : List (List ℕ)) (x : Option (List ℕ)) → node_number names x ≤ length names → node_number (take n names) x ≤ n → node_number (take n names) x ≤ length (take n names)
kept n names x known few = kept_by n names x (nat_le (length names) n) refl known few

ends_have : (names : List (List ℕ)) (a b : Option (List ℕ)) → node_number names a ≤ length names → node_number names b ≤ length names → HasEndNodes (case_nodes names) a b
ends_have names a b ka kb = record { from_node = λ few. kept MOST_NODES names a ka few; to_node = λ few. kept MOST_NODES names b kb few }

branches_have : (names : List (List ℕ)) (es : List BranchEntry) → Each (λ x. node_number names x ≤ length names) (branch_names es) → All (HasEntryNodes (case_nodes names)) es
branches_have names [] h = All-nil (HasEntryNodes (case_nodes names))
branches_have names (Single card first count ∷ es) h =
    All-cons (HasEntryNodes (case_nodes names)) (Single card first count) es (ends_have names card.from card.to h.0 h.1.0) (branches_have names es h.1.1)
branches_have names (Trio zero' positive third ∷ es) h =
    All-cons (HasEntryNodes (case_nodes names)) (Trio zero' positive third) es
    (record {
      zero_nodes = ends_have names zero'.from zero'.to h.0 h.1.0;
      positive_nodes = ends_have names positive.from positive.to h.1.1.0 h.1.1.1.0;
      third_nodes = ends_have names third.from third.to h.1.1.1.1.0 h.1.1.1.1.1.0;
    })
    (branches_have names es h.1.1.1.1.1.1)

switches_have : (names : List (List ℕ)) (cards : List SwitchCard) → Each (λ x. node_number names x ≤ length names) (switch_names cards) → All (HasSwitchNodes (case_nodes names)) cards
switches_have names [] h = All-nil (HasSwitchNodes (case_nodes names))
switches_have names (card ∷ cards) h =
    All-cons (HasSwitchNodes (case_nodes names)) card cards (ends_have names card.from card.to h.0 h.1.0) (switches_have names cards h.1.1)

pub has_nodes : (deck : Deck) (place : Place) → HasNodes (case_nodes (known_nodes deck place)) deck
has_nodes deck place =
    let names = known_nodes deck place in
    let P : Option (List ℕ) → Type 0 = λ x. node_number names x ≤ length names in
    let bs = branch_names deck.branches in
    let ss = switch_names deck.switches in
    let ps = pending_names place in
    let known = (known_named deck place).known in
    record {
      branches = branches_have names deck.branches (each_front P bs (ss ++ ps) known);
      switches = switches_have names deck.switches (each_front P ss ps (each_rest P bs (ss ++ ps) known));
    }

-- ---- as many nodes as a case may have

first_few : (n : ℕ) (names : List (List ℕ)) → length (take n names) ≤ n
first_few n names = omega (arith, length-take n names)

pub case_few : (names : List (List ℕ)) → length (case_nodes names) ≤ MOST_NODES
case_few names = first_few MOST_NODES names

few_numbers : (n : ℕ) (names : List (List ℕ)) (xs : List (Option (List ℕ))) → Each (λ x. node_number names x ≤ length names) xs → Each (λ x. node_number (take n names) x ≤ n) xs → Each (λ x. node_number names x ≤ n) xs
few_numbers n names [] known few = tt
few_numbers n names (x ∷ xs) known few = (omega (arith, same_number names n x (kept n names x known.0 few.0), few.0), few_numbers n names xs known.1 few.1)

-- where each number is within the limit, the nodes of the case are all nodes
pub all_nodes : (deck : Deck) (place : Place) → Each (λ x. node_number (case_nodes (known_nodes deck place)) x ≤ MOST_NODES) (card_names deck place) → case_nodes (known_nodes deck place) ≡ known_nodes deck place
all_nodes deck place few =
    let names = known_nodes deck place in
    let named = known_named deck place in
    take_all MOST_NODES names (named.few MOST_NODES (omega arith) (few_numbers MOST_NODES names (card_names deck place) named.known few))

-- ---- the names are such

entries_named : (run : RunData) (points : List Point) (es : List BranchEntry) → All (IsEntry run points) es → Each (λ x. IfSome x IsName) (branch_names es)
entries_named run points [] all = tt
entries_named run points (Single card first count ∷ es) all =
    let ends = (all 0 (Single card first count) (omega arith)).numbers.ends in
    (ends.from_name, (ends.to_name, entries_named run points es (λ k d lt. all (suc k) d (omega arith))))
entries_named run points (Trio zero' positive third ∷ es) all =
    let trio = all 0 (Trio zero' positive third) (omega arith) in
    let a = trio.0.zero_numbers.ends in
    let b = trio.0.positive_numbers.ends in
    let c = trio.1.ends in
    (a.from_name, (a.to_name, (b.from_name, (b.to_name, (c.from_name, (c.to_name, entries_named run points es (λ k d lt. all (suc k) d (omega arith))))))))

switches_named : (cards : List SwitchCard) → All HasSwitchNumbers cards → Each (λ x. IfSome x IsName) (switch_names cards)
switches_named [] all = tt
switches_named (card ∷ cards) all =
    let ends = (all 0 card (omega arith)).ends in
    (ends.from_name, (ends.to_name, switches_named cards (λ k d lt. all (suc k) d (omega arith))))

pending_named : (deck : Deck) (place : Place) → IsSound deck place → Each (λ x. IfSome x IsName) (pending_names place)
pending_named deck (Points group) h = let ends = h.1.numbers.ends in (ends.from_name, (ends.to_name, tt))
pending_named deck (Waiting card wide) h = let ends = h.1.numbers.ends in (ends.from_name, (ends.to_name, tt))
pending_named deck (Third zero' positive wide) h =
    let a = h.1.zero_numbers.ends in
    let b = h.1.positive_numbers.ends in
    (a.from_name, (a.to_name, (b.from_name, (b.to_name, tt))))
pending_named deck other h = tt

pub case_names : (deck : Deck) (place : Place) → IsSound deck place → IsWhole deck → All IsName (case_nodes (known_nodes deck place))
case_names deck place sound whole =
    let bs = branch_names deck.branches in
    let ss = switch_names deck.switches in
    let ps = pending_names place in
    All-take IsName MOST_NODES (known_nodes deck place)
    ((known_named deck place).names (All-nil IsName)
    (each_two (λ x. IfSome x IsName) bs (ss ++ ps) (entries_named deck.run deck.points deck.branches whole.branches)
    (each_two (λ x. IfSome x IsName) ss ps (switches_named deck.switches whole.switches) (pending_named deck place sound))))
