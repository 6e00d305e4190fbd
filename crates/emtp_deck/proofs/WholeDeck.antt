-- The case of a deck whose record isn't too large.
use Rattle.emtp_fix.specs.Chain.{unless}
use Rattle.emtp_case.specs.declared.limit.TheConstants.{MOST_STORED_VALUES}
use Rattle.std.proofs.Common.{◌≡◌, ◌∙◌, ap, ℕ, ◌+◌, ◌*◌, ◌≤◌, false, Option, Some, Ok, Err, arith, Bool, None, Result}
use Rattle.std.proofs.Math.Nat.{mul-le-mul_right}
use Rattle.std.proofs.lemmas.Bool.Decides.{nat_tests}
use Rattle.std.specs.Prelude.{nat_lt}
use Rattle.emtp_card.specs.declared.reason.Bad.{Bad}
use Rattle.emtp_card.specs.declared.reason.Refused.{Refused}
use Rattle.emtp_card.specs.declared.reason.Refused.TheVariants.{Bad as OfBad, NoMemory}
use Rattle.emtp_case.specs.RunData.{samples_of}
use Rattle.emtp_deck.proofs.Asking.{deck_asks, control_is}
use Rattle.emtp_deck.proofs.FewNodes.{whole_nodes}
use Rattle.emtp_walk.specs.Answer.{go_on}
use Rattle.emtp_walk.specs.held.Answer.{IfBad}
use Rattle.emtp_sense.specs.ControlSense.{control_bad}
use Rattle.emtp_deck.specs.Deck.{case_of, deck_case, made_of_deck, unfinished}
use Rattle.emtp_deck.specs.held.Filling.{Makes}
use Rattle.emtp_deck.specs.Made.{Made, count_asked}
use Rattle.emtp_sense.specs.Names.{case_nodes, known_nodes, node_names}
use Rattle.emtp_deck.specs.Samples.{deck_count, has_too_many}
use Rattle.emtp_sense.specs.Variables.{variable_names}
use Rattle.emtp_walk.specs.declared.deck.Deck.{Deck}
use Rattle.emtp_walk.specs.declared.deck.Place.{Place}
use Rattle.emtp_walk.specs.declared.deck.Place.TheVariants.{After}

small : (n m : ℕ) → nat_lt n m ≡ false → m ≤ n
small n m e = grind (arith, nat_tests)

within : (asked all pending samples : ℕ) → asked ≡ all → nat_lt MOST_STORED_VALUES ((all + pending) * samples) ≡ false → asked * samples ≤ MOST_STORED_VALUES
within asked all pending samples is e =
    let most : (all + pending) * samples ≤ MOST_STORED_VALUES = small MOST_STORED_VALUES ((all + pending) * samples) e in
    let less : asked * samples ≤ (all + pending) * samples = mul-le-mul_right samples (omega (arith, is)) in
    omega (arith, most, less)

pub stored_within : (deck : Deck) (seen : Bool) (m : Made) → has_too_many (known_nodes deck (After seen)) (variable_names deck (After seen)) deck (After seen) ≡ false → made_of_deck (case_nodes (known_nodes deck (After seen))) (variable_names deck (After seen)) deck ≡ Ok m → count_asked m.asked * samples_of m.parts.run ≤ MOST_STORED_VALUES
stored_within deck seen m few h =
    let variables = variable_names deck (After seen) in
    let nodes = case_nodes (known_nodes deck (After seen)) in
    let asks = deck_asks nodes variables deck m h in
    let run : m.parts.run ≡ deck.run = asks.run ∙ (control_is nodes variables deck).run in
    let own : count_asked m.asked ≡ deck_count nodes variables deck = omega (arith, asks.asked) in
    let all : count_asked m.asked ≡ deck_count (node_names deck) variables deck = own ∙ ap (λ ns. deck_count ns variables deck) (whole_nodes deck seen variables m h) in
    rw run (within (count_asked m.asked) (deck_count (node_names deck) variables deck) 0 (samples_of deck.run) all few)

-- the faults of sense of the control, if it has one
pub of_control : (line : ℕ) (deck : Deck) (place : Place) (bad : Bad) → has_too_many (known_nodes deck place) (variable_names deck place) deck place ≡ false → control_bad (known_nodes deck place) (variable_names deck place) deck place ≡ Some bad → deck_case line deck place ≡ Err bad
unfolding deck_case
of_control line deck place bad few e =
    rw few (ap (λ (b : Option Bad). go_on (λ (sensible : Unit {0}). go_on (λ (m : Made). unless (unfinished line m place) (λ bad. bad) (Ok (case_of deck m))) (made_of_deck (case_nodes (known_nodes deck place)) (variable_names deck place) deck)) (unless b (λ bad. bad) (Ok tt))) e)

-- the faults of the network behind it
pub of_network : (line : ℕ) (deck : Deck) (place : Place) (made : Result Made Bad) → has_too_many (known_nodes deck place) (variable_names deck place) deck place ≡ false → control_bad (known_nodes deck place) (variable_names deck place) deck place ≡ None
    → made_of_deck (case_nodes (known_nodes deck place)) (variable_names deck place) deck ≡ made → deck_case line deck place ≡ go_on (λ (m : Made). unless (unfinished line m place) (λ bad. bad) (Ok (case_of deck m))) made
unfolding deck_case
of_network line deck place made few none h =
    rw few (ap (λ (b : Option Bad). go_on (λ (sensible : Unit {0}). go_on (λ (m : Made). unless (unfinished line m place) (λ bad. bad) (Ok (case_of deck m))) (made_of_deck (case_nodes (known_nodes deck place)) (variable_names deck place) deck)) (unless b (λ bad. bad) (Ok tt))) none
    ∙ ap (go_on (λ (m : Made). unless (unfinished line m place) (λ bad. bad) (Ok (case_of deck m)))) h)

pub stopped : (line : ℕ) (deck : Deck) (place : Place) (refused : Refused) (left : Made) → has_too_many (known_nodes deck place) (variable_names deck place) deck place ≡ false → control_bad (known_nodes deck place) (variable_names deck place) deck place ≡ None
    → Makes (Err refused) (made_of_deck (case_nodes (known_nodes deck place)) (variable_names deck place) deck) left → IfBad refused (λ bad. deck_case line deck place ≡ Err bad)
stopped line deck place (OfBad bad) left few none h = of_network line deck place (Err bad) few none h
stopped line deck place NoMemory left few none h = tt

pub cut_off : (line : ℕ) (deck : Deck) (place : Place) (bad : Bad) (m : Made) → has_too_many (known_nodes deck place) (variable_names deck place) deck place ≡ false → control_bad (known_nodes deck place) (variable_names deck place) deck place ≡ None
    → made_of_deck (case_nodes (known_nodes deck place)) (variable_names deck place) deck ≡ Ok m → unfinished line m place ≡ Some bad → deck_case line deck place ≡ Err bad
cut_off line deck place bad m few none h e = of_network line deck place (Ok m) few none h ∙ ap (λ b. unless b (λ bad. bad) (Ok (case_of deck m))) e

pub completed : (line : ℕ) (deck : Deck) (seen : Bool) (m : Made) → has_too_many (known_nodes deck (After seen)) (variable_names deck (After seen)) deck (After seen) ≡ false → control_bad (known_nodes deck (After seen)) (variable_names deck (After seen)) deck (After seen) ≡ None
    → made_of_deck (case_nodes (known_nodes deck (After seen))) (variable_names deck (After seen)) deck ≡ Ok m → deck_case line deck (After seen) ≡ Ok (case_of deck m)
completed line deck seen m few none h = of_network line deck (After seen) (Ok m) few none h
