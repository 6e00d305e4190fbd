-- A deck whose cards were read is the case of them all, unless one has a fault: the first that has one is refused.
use Rattle.std.proofs.Common.{◌≡◌, ◌∙◌, sym, ap, refl, ℕ, ◌+◌, Bool, true, false, List, [], ◌∷◌, ◌++◌, length, Option, Some, None, Result, Ok, Err}
use Rattle.std.specs.Prelude.{if◌then◌else◌}
use Rattle.emtp_fix.specs.Chain.{unless}
use Rattle.emtp_card.specs.Fault.{least}
use Rattle.emtp_card.specs.declared.fault.Fault.{Fault}
use Rattle.emtp_card.specs.declared.reason.Bad.{Bad}
use Rattle.emtp_card.specs.declared.reason.Why.TheVariants.{MissingSection, TooManySamples}
use Rattle.emtp_case.specs.declared.case.Parts.{Parts}
use Rattle.emtp_deck.specs.Branches.{card_fault, first_fault, pending_fault, second_fault, take_branches}
use Rattle.emtp_deck.specs.Deck.{case_of, control_made, deck_case, deck_of, is_ended, made_of_deck, missing_bad, unfinished}
use Rattle.emtp_deck.specs.Made.{Made}
use Rattle.emtp_deck.specs.Outputs.{take_outputs}
use Rattle.emtp_deck.specs.Samples.{has_too_many, samples_bad}
use Rattle.emtp_deck.specs.Sources.{take_sources}
use Rattle.emtp_deck.specs.Switches.{take_switches}
use Rattle.emtp_deck_laws.specs.CardFaults.{end_faults}
use Rattle.emtp_deck_laws.specs.JudgedCards.{Judged, judged_branches, judged_cards, judged_control, judged_cut_branches, judged_outputs, judged_sections, judged_sources, judged_switches, judged_tacs_outputs, made_before_branches, made_before_outputs, made_before_sources, made_before_switches, made_of_all}
use Rattle.emtp_deck_laws.proofs.FirstRefusal.{bad_alone, first_refusal, judged_first, more_cards, refusals_in_turn}
use Rattle.emtp_deck_laws.proofs.JudgedControl.{control_refused}
use Rattle.emtp_deck_laws.proofs.JudgedNetwork.{branches_made, outputs_made, sources_made, switches_made, tacs_outputs_made}
use Rattle.emtp_sense.specs.ControlSense.{control_bad}
use Rattle.emtp_sense.specs.Names.{case_nodes, known_nodes}
use Rattle.emtp_sense.specs.Variables.{variable_names}
use Rattle.emtp_walk.specs.Answer.{first_bad, go_on}
use Rattle.emtp_walk.specs.Walk.{empty_deck, walk}
use Rattle.emtp_walk.specs.declared.deck.Deck.{Deck}
use Rattle.emtp_walk.specs.declared.deck.Place.{Place}
use Rattle.emtp_walk.specs.declared.deck.Place.TheVariants.{After, Begin, Branches, Control, First, Outputs, Points, Second, Sources, Start, Switches, Third, Waiting}

-- ---- the sections

sections_made : (nodes variables : List (List ℕ)) (deck : Deck) → made_of_deck nodes variables deck ≡ unless (first_refusal (judged_sections nodes variables deck)) (λ bad. bad) (Ok (made_of_all nodes variables deck))
sections_made nodes variables deck =
    let signals = judged_tacs_outputs (control_made nodes variables deck) deck.control.outputs in
    let m1 = made_before_branches nodes variables deck in
    let branches = judged_branches deck.points m1 deck.branches in
    let m2 = made_before_switches nodes variables deck in
    let switches = judged_switches m2 deck.switches in
    let m3 = made_before_sources nodes variables deck in
    let sources = judged_sources m3 deck.sources in
    let m4 = made_before_outputs nodes variables deck in
    let outputs = judged_outputs m4 deck.outputs in
    more_cards (λ (m : Made). take_outputs m deck.outputs) (signals ++ branches ++ switches ++ sources) outputs _ m4 (made_of_all nodes variables deck)
    (more_cards (λ (m : Made). take_sources m deck.sources) (signals ++ branches ++ switches) sources _ m3 m4
    (more_cards (λ (m : Made). take_switches m deck.switches) (signals ++ branches) switches _ m2 m3
    (more_cards (λ (m : Made). take_branches deck.points m deck.branches) signals branches _ m1 m2
    (tacs_outputs_made (control_made nodes variables deck) deck.control.outputs) (branches_made deck.points m1 deck.branches))
    (switches_made m2 deck.switches))
    (sources_made m3 deck.sources))
    (outputs_made m4 deck.outputs)

-- ---- the end of the file

cut_refused : (m : Made) (place : Place) → pending_fault m place ≡ first_refusal (judged_cut_branches m place)
unfolding card_fault
cut_refused m Begin = refl
cut_refused m (First seen) = refl
cut_refused m Second = refl
cut_refused m Start = refl
cut_refused m (Control at) = refl
cut_refused m (Branches wide) = refl
cut_refused m (Points group) = bad_alone _
cut_refused m (Waiting card wide) = bad_alone _
cut_refused m (Third zero' positive wide) =
    ap (first_bad (first_fault m zero')) (bad_alone (second_fault m zero' positive))
cut_refused m Switches = refl
cut_refused m Sources = refl
cut_refused m Outputs = refl
cut_refused m (After seen) = refl

end_refused : (line : ℕ) (place : Place) → missing_bad line place ≡ first_refusal (record { line = line; faults = end_faults place } ∷ [])
unfolding least
end_refused line place = by_test (is_ended place)
  where
    by_test : (ended : Bool) → (if◌then◌else◌ {A = Option Bad} ended None (Some (record { line = line; column = 1; why = MissingSection })))
        ≡ first_refusal (record { line = line; faults = (if◌then◌else◌ {A = Option Fault} ended None (Some (record { column = 1; why = MissingSection }))) ∷ [] } ∷ [])
    by_test true = refl
    by_test false = refl

unfinished_refused : (line : ℕ) (m : Made) (place : Place) → unfinished line m place ≡ first_refusal (judged_cut_branches m place ++ record { line = line; faults = end_faults place } ∷ [])
unfinished_refused line m place =
    let cut = judged_cut_branches m place in
    let end : List Judged = record { line = line; faults = end_faults place } ∷ [] in
    ap (λ a. first_bad a (missing_bad line place)) (cut_refused m place)
    ∙ ap (first_bad (first_refusal cut)) (end_refused line place)
    ∙ sym (refusals_in_turn cut end)

-- ---- the whole deck

stored : (many : Bool) (deck : Deck) (rest : List Judged) (r : Result Parts Bad) (case : Parts) → r ≡ unless (first_refusal rest) (λ bad. bad) (Ok case)
    → go_on (λ (few : Unit {0}). r) (if◌then◌else◌ {A = Result (Unit {0}) Bad} many (Err (samples_bad deck)) (Ok tt))
    ≡ unless (first_refusal (record { line = deck.second; faults = (if◌then◌else◌ {A = Option Fault} many (Some (record { column = 9; why = TooManySamples })) None) ∷ [] } ∷ rest)) (λ bad. bad) (Ok case)
unfolding least
stored true deck rest r case e = refl
stored false deck rest r case e = e

-- what is judged before the cards stands before all that is made of them
judged_before : {A B : Type 0} (b : Option Bad) (f : A → Result B Bad) (r : Result A Bad) → go_on (λ (sensible : Unit {0}). go_on f r) (unless b (λ bad. bad) (Ok tt)) ≡ go_on f (unless b (λ bad. bad) r)
judged_before (Some bad) f r = refl
judged_before None f r = refl

pub deck_refused : (lines : ℕ) (deck : Deck) (place : Place) → deck_case (lines + 1) deck place ≡ unless (first_refusal (judged_cards lines deck place)) (λ bad. bad) (Ok (case_of deck (made_of_all (case_nodes (known_nodes deck place)) (variable_names deck place) deck)))
unfolding deck_case
deck_refused lines deck place =
    let nodes = known_nodes deck place in
    let variables = variable_names deck place in
    let control = judged_control nodes variables deck place in
    let sections = judged_sections (case_nodes nodes) variables deck in
    let m = made_of_all (case_nodes nodes) variables deck in
    let end : List Judged = judged_cut_branches m place ++ record { line = lines + 1; faults = end_faults place } ∷ [] in
    stored (has_too_many nodes variables deck place) deck (control ++ sections ++ end) _ (case_of deck m)
    (judged_before (control_bad nodes variables deck place) (λ (made : Made). unless (unfinished (lines + 1) made place) (λ bad. bad) (Ok (case_of deck made))) (made_of_deck (case_nodes nodes) variables deck)
    ∙ more_cards (λ (made : Made). unless (unfinished (lines + 1) made place) (λ bad. bad) (Ok (case_of deck made))) (control ++ sections) end _ m (case_of deck m)
    (ap (unless (control_bad nodes variables deck place) (λ bad. bad)) (sections_made (case_nodes nodes) variables deck)
    ∙ judged_first (control_bad nodes variables deck place) (first_refusal sections) m
    ∙ ap (λ a. unless (first_bad a (first_refusal sections)) (λ bad. bad) (Ok m)) (control_refused nodes variables deck place)
    ∙ ap (λ a. unless a (λ bad. bad) (Ok m)) (sym (refusals_in_turn control sections)))
    (ap (λ a. unless a (λ bad. bad) (Ok (case_of deck m))) (unfinished_refused (lines + 1) m place)))

-- ---- the deck of lines

pub lines_refused : (lines : List (List ℕ)) (deck : Deck) (place : Place) → walk 1 empty_deck Begin lines ≡ Ok (deck, place)
    → deck_of lines ≡ unless (first_refusal (judged_cards (length lines) deck place)) (λ bad. bad) (Ok (case_of deck (made_of_all (case_nodes (known_nodes deck place)) (variable_names deck place) deck)))
unfolding deck_of
lines_refused lines deck place e =
    ap (go_on (λ (read : Deck × Place). deck_case (length lines + 1) read.0 read.1)) e ∙ deck_refused (length lines) deck place

pub refused : {A : Type 0} (found : Option Bad) (x : A) (bad : Bad) → unless found (λ bad. bad) (Ok x) ≡ Err bad → found ≡ Some bad
refused (Some b) x bad e = let same : b ≡ bad = cc in ap Some same
refused None x bad e = absurd (cc)
