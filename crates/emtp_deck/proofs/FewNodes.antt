-- A deck whose cards have no fault of sense has no more nodes than a case may have.
use Rattle.emtp_fix.proofs.Chaining.{then_ok}
use Rattle.emtp_case.specs.declared.limit.TheConstants.{MOST_NODES}
use Rattle.std.proofs.Common.{◌≡◌, ◌∙◌, subst, Bool, ℕ, ◌≤◌, List, [], ◌∷◌, ◌++◌, Option, Ok}
use Rattle.emtp_case.specs.declared.branch.Point.{Point}
use Rattle.emtp_card.specs.Fault.{bad_at}
use Rattle.emtp_deck.proofs.Asking.{branches_ask, control_is, entry_asks, no_fault, sections, switch_asks, tacs_outputs_ask}
use Rattle.emtp_deck.proofs.Judging.{sensible_switch}
use Rattle.emtp_deck.proofs.Sensing.{few_ends}
use Rattle.emtp_deck.specs.Branches.{entry_fault, take_branches, take_entry, with_entry}
use Rattle.emtp_deck.specs.Deck.{control_made, made_of_deck}
use Rattle.emtp_deck.specs.Made.{Made}
use Rattle.emtp_deck.specs.Switches.{switch_fault, take_switch, take_switches, with_switch}
use Rattle.emtp_sense.proofs.CardNames.{all_nodes, branch_names, entry_names, switch_names}
use Rattle.emtp_sense.proofs.Naming.{Each}
use Rattle.emtp_sense.proofs.Numbering.{each_two}
use Rattle.emtp_sense.specs.Names.{case_nodes, known_nodes, node_number}
use Rattle.emtp_walk.specs.declared.deck.BranchEntry.{BranchEntry}
use Rattle.emtp_walk.specs.declared.deck.Deck.{Deck}
use Rattle.emtp_walk.specs.declared.deck.Place.TheVariants.{After}
use Rattle.emtp_netcards.specs.declared.switch_card.SwitchCard.{SwitchCard}

-- the numbers of all ends are within the limit
branches_few : (nodes : List (List ℕ)) (points : List Point) (m m' : Made) (es : List BranchEntry) → m.parts.nodes ≡ nodes → take_branches points m es ≡ Ok m' → Each (λ x. node_number nodes x ≤ MOST_NODES) (branch_names es)
unfolding take_entry
branches_few nodes points m m' [] is h = tt
branches_few nodes points m m' (e ∷ es) is h =
    let s = then_ok (take_entry points m e) (λ (made : Made). take_branches points made es) m' h in
    let none = (no_fault (entry_fault m e) (λ bad. bad) (with_entry points m e) s.0 s.1).0 in
    each_two (λ x. node_number nodes x ≤ MOST_NODES) (entry_names e) (branch_names es)
    (subst (λ ns. Each (λ x. node_number ns x ≤ MOST_NODES) (entry_names e)) is (few_ends m e none))
    (branches_few nodes points s.0 m' es ((entry_asks points m s.0 e s.1).nodes ∙ is) s.2)

switches_few : (nodes : List (List ℕ)) (m m' : Made) (cards : List SwitchCard) → m.parts.nodes ≡ nodes → take_switches m cards ≡ Ok m' → Each (λ x. node_number nodes x ≤ MOST_NODES) (switch_names cards)
unfolding take_switch
switches_few nodes m m' [] is h = tt
switches_few nodes m m' (card ∷ cards) is h =
    let s = then_ok (take_switch m card) (λ (made : Made). take_switches made cards) m' h in
    let sensible = sensible_switch m card ((no_fault (switch_fault m card) (bad_at card.line) (with_switch m card) s.0 s.1).0) in (
      subst (λ ns. node_number ns card.from ≤ MOST_NODES) is sensible.from_few,
      (
        subst (λ ns. node_number ns card.to ≤ MOST_NODES) is sensible.to_few,
        switches_few nodes s.0 m' cards ((switch_asks m s.0 card s.1).nodes ∙ is) s.2,
      ),
    )

pub whole_nodes : (deck : Deck) (seen : Bool) (variables : List (List ℕ)) (m : Made) → made_of_deck (case_nodes (known_nodes deck (After seen))) variables deck ≡ Ok m → case_nodes (known_nodes deck (After seen)) ≡ known_nodes deck (After seen)
whole_nodes deck seen variables m h =
    let nodes = case_nodes (known_nodes deck (After seen)) in
    let P : Option (List ℕ) → Type 0 = λ x. node_number nodes x ≤ MOST_NODES in
    let s = sections nodes variables deck m h in
    let signals : s.before_branches.parts.nodes ≡ nodes = (tacs_outputs_ask (control_made nodes variables deck) s.before_branches deck.control.outputs s.signals).nodes ∙ (control_is nodes variables deck).nodes_are in
    let branches : s.before_switches.parts.nodes ≡ nodes = (branches_ask deck.points s.before_branches s.before_switches deck.branches s.branches).nodes ∙ signals in
    all_nodes deck (After seen)
    (each_two P (branch_names deck.branches) (switch_names deck.switches ++ [])
    (branches_few nodes deck.points s.before_branches s.before_switches deck.branches signals s.branches)
    (each_two P (switch_names deck.switches) [] (switches_few nodes s.before_switches s.before_sources deck.switches branches s.switches) tt))
