-- The cards are judged in the order of their lines.
use Rattle.std.proofs.Common.{◌≡◌, ◌∙◌, sym, ap, subst, refl, ℕ, ◌+◌, ℤ, List, [], ◌∷◌, ◌++◌, length, Ok, arith, append_assoc}
use Rattle.std.specs.Prelude.{map}
use Rattle.std.proofs.lemmas.List.{append-nil, map-append}
use Rattle.emtp_case.specs.declared.branch.Point.{Point}
use Rattle.emtp_deck.specs.Branches.{with_entry}
use Rattle.emtp_deck.specs.Deck.{control_made}
use Rattle.emtp_deck.specs.Made.{Made}
use Rattle.emtp_deck.specs.Sources.{with_source}
use Rattle.emtp_deck.specs.Switches.{with_switch}
use Rattle.emtp_deck_laws.specs.CardFaults.{asking_variable, channel_of_variable, end_faults}
use Rattle.emtp_deck_laws.specs.JudgedCards.{Judged, extras_history, judged_blocks, judged_branches, judged_cards, judged_control, judged_cut_branches, judged_cut_place, judged_entry, judged_extras, judged_outputs, judged_sections, judged_sources, judged_switches, judged_tacs_outputs, judged_tacs_sources, made_before_branches, made_before_outputs, made_before_sources, made_before_switches, made_names, made_of_all, made_output}
use Rattle.emtp_deck_laws.proofs.UnbegunSections.{HasNoOutputs, HasNoSwitches, IsUnbegun, unbegun}
use Rattle.emtp_sense.specs.ControlSense.{first_extra, first_source}
use Rattle.emtp_sense.specs.Names.{case_nodes, find_node, known_nodes}
use Rattle.emtp_sense.specs.Variables.{variable_names}
use Rattle.emtp_walk.proofs.Order.{cards_rise}
use Rattle.emtp_walk.proofs.Rising.{behind, block_lines, extra_lines, later, signal_lines}
use Rattle.emtp_walk.specs.Laws.{Rises, branch_lines, card_lines, control_lines, entry_lines, extra_line, output_lines, source_lines, switch_lines}
use Rattle.emtp_walk.specs.Walk.{empty_deck, walk}
use Rattle.emtp_walk.specs.declared.control_cards.BlockEntry.{BlockEntry}
use Rattle.emtp_walk.specs.declared.control_cards.ControlPlace.{ControlPlace}
use Rattle.emtp_walk.specs.declared.control_cards.ControlPlace.TheVariants.{Blocks, Denominator, DevicePoints, Extras, Initial, Numerator, TacsOutputs, TacsSources}
use Rattle.emtp_walk.specs.declared.control_cards.ExtraEntry.{ExtraEntry}
use Rattle.emtp_walk.specs.declared.control_cards.ExtraEntry.TheVariants.{Device as DeviceEntry, Formula as FormulaEntry}
use Rattle.emtp_walk.specs.declared.control_cards.TacsOutputEntry.{TacsOutputEntry}
use Rattle.emtp_walk.specs.declared.deck.BranchEntry.{BranchEntry}
use Rattle.emtp_walk.specs.declared.deck.BranchEntry.TheVariants.{Single, Trio}
use Rattle.emtp_walk.specs.declared.deck.Deck.{Deck}
use Rattle.emtp_walk.specs.declared.deck.OutputEntry.{OutputEntry}
use Rattle.emtp_walk.specs.declared.deck.Place.{Place}
use Rattle.emtp_walk.specs.declared.deck.Place.TheVariants.{After, Begin, Branches, Control, First, Outputs, Points, Second, Sources, Start, Switches, Third, Waiting}
use Rattle.emtp_netcards.specs.declared.source_card.SourceCard.{SourceCard}
use Rattle.emtp_netcards.specs.declared.switch_card.SwitchCard.{SwitchCard}

-- ---- the lines of each section

abbrev lines_of : List Judged → List ℕ
lines_of cards = map (λ (card : Judged). card.line) cards

both_lines : (xs ys : List Judged) (ns ms : List ℕ) → lines_of xs ≡ ns → lines_of ys ≡ ms → lines_of (xs ++ ys) ≡ ns ++ ms
both_lines xs ys ns ms e h = map-append (λ (card : Judged). card.line) xs ys ∙ ap (λ ls. ls ++ lines_of ys) e ∙ ap (λ ls. ns ++ ls) h

block_line : (variables : List (List ℕ)) (at : ℕ) (es : List BlockEntry) → lines_of (judged_blocks variables at es) ≡ map (λ (e : BlockEntry). e.card.line) es
block_line variables at [] = refl
block_line variables at (e ∷ es) = ap (λ ls. e.card.line ∷ ls) (block_line variables (at + 1) es)

signal_line : (nodes : List (List ℕ)) (switches : List SwitchCard) (variables : List (List ℕ)) (first at : ℕ) (cards : List SourceCard) → lines_of (judged_tacs_sources nodes switches variables first at cards) ≡ map (λ (card : SourceCard). card.line) cards
signal_line nodes switches variables first at [] = refl
signal_line nodes switches variables first at (card ∷ cards) = ap (λ ls. card.line ∷ ls) (signal_line nodes switches variables first (at + 1) cards)

extra_line_of : (variables : List (List ℕ)) (dt : ℤ) (first at history : ℕ) (es : List ExtraEntry) → lines_of (judged_extras variables dt first at history es) ≡ map extra_line es
extra_line_of variables dt first at history [] = refl
extra_line_of variables dt first at history (DeviceEntry card start count ∷ es) = ap (λ ls. card.line ∷ ls) (extra_line_of variables dt first (at + 1) _ es)
extra_line_of variables dt first at history (FormulaEntry card ∷ es) = ap (λ ls. card.line ∷ ls) (extra_line_of variables dt first (at + 1) _ es)

tacs_output_line : (m : Made) (es : List TacsOutputEntry) → lines_of (judged_tacs_outputs m es) ≡ map (λ (e : TacsOutputEntry). e.line) es
tacs_output_line m [] = refl
tacs_output_line m (e ∷ es) = ap (λ ls. e.line ∷ ls) (tacs_output_line (made_names channel_of_variable asking_variable m e.names) es)

entry_line : (m : Made) (e : BranchEntry) → lines_of (judged_entry m e) ≡ entry_lines e
entry_line m (Single card first count) = refl
entry_line m (Trio zero' positive third) = refl

branch_line : (points : List Point) (m : Made) (es : List BranchEntry) → lines_of (judged_branches points m es) ≡ branch_lines es
branch_line points m [] = refl
branch_line points m (e ∷ es) =
    let next = with_entry points m e in
    both_lines (judged_entry m e) (judged_branches points next es) (entry_lines e) (branch_lines es) (entry_line m e) (branch_line points next es)

switch_line : (m : Made) (cards : List SwitchCard) → lines_of (judged_switches m cards) ≡ switch_lines cards
switch_line m [] = refl
switch_line m (card ∷ cards) = ap (λ ls. card.line ∷ ls) (switch_line (with_switch m card) cards)

source_line : (m : Made) (cards : List SourceCard) → lines_of (judged_sources m cards) ≡ source_lines cards
source_line m [] = refl
source_line m (card ∷ cards) = ap (λ ls. card.line ∷ ls) (source_line (with_source m card (find_node m.parts.nodes card.name)) cards)

output_line : (m : Made) (es : List OutputEntry) → lines_of (judged_outputs m es) ≡ output_lines es
output_line m [] = refl
output_line m (e ∷ es) = ap (λ ls. e.line ∷ ls) (output_line (made_output m e.card) es)

-- ---- all cards

abbrev tacs_output_lines : Deck → List ℕ
tacs_output_lines deck = map (λ (e : TacsOutputEntry). e.line) deck.control.outputs

-- the lines in the order in which the cards are judged, with those of a group that the file cuts off
abbrev judged_order : Deck → List ℕ → List ℕ → List ℕ
judged_order deck control branches =
    (block_lines deck ++ (signal_lines deck ++ (extra_lines deck ++ control)))
    ++ (tacs_output_lines deck ++ branch_lines deck.branches ++ switch_lines deck.switches ++ source_lines deck.sources ++ output_lines deck.outputs)
    ++ branches

abbrev line_order : Deck → List ℕ → List ℕ
line_order deck pending =
    control_lines deck.control ++ branch_lines deck.branches ++ pending ++ switch_lines deck.switches ++ source_lines deck.sources ++ output_lines deck.outputs

sections_lines : (nodes variables : List (List ℕ)) (deck : Deck) → lines_of (judged_sections nodes variables deck) ≡ tacs_output_lines deck ++ branch_lines deck.branches ++ switch_lines deck.switches ++ source_lines deck.sources ++ output_lines deck.outputs
sections_lines nodes variables deck =
    let m0 = control_made nodes variables deck in
    let m1 = made_before_branches nodes variables deck in
    let m2 = made_before_switches nodes variables deck in
    let m3 = made_before_sources nodes variables deck in
    let m4 = made_before_outputs nodes variables deck in
    let signals = judged_tacs_outputs m0 deck.control.outputs in
    let branches = judged_branches deck.points m1 deck.branches in
    let switches = judged_switches m2 deck.switches in
    let sources = judged_sources m3 deck.sources in
    let outputs = judged_outputs m4 deck.outputs in
    both_lines (signals ++ branches ++ switches ++ sources) outputs (tacs_output_lines deck ++ branch_lines deck.branches ++ switch_lines deck.switches ++ source_lines deck.sources) (output_lines deck.outputs)
    (both_lines (signals ++ branches ++ switches) sources (tacs_output_lines deck ++ branch_lines deck.branches ++ switch_lines deck.switches) (source_lines deck.sources)
    (both_lines (signals ++ branches) switches (tacs_output_lines deck ++ branch_lines deck.branches) (switch_lines deck.switches)
    (both_lines signals branches (tacs_output_lines deck) (branch_lines deck.branches) (tacs_output_line m0 deck.control.outputs) (branch_line deck.points m1 deck.branches))
    (switch_line m2 deck.switches))
    (source_line m3 deck.sources))
    (output_line m4 deck.outputs)

control_cards : (nodes variables : List (List ℕ)) (deck : Deck) (place : Place)
    → lines_of (judged_control nodes variables deck place) ≡ block_lines deck ++ (signal_lines deck ++ (extra_lines deck ++ lines_of (judged_cut_place variables deck (extras_history deck.run.dt 0 deck.control.extras) place)))
control_cards nodes variables deck place =
    let cards = deck.control in
    let cut = judged_cut_place variables deck (extras_history deck.run.dt 0 cards.extras) place in
    let extras = judged_extras variables deck.run.dt (first_extra cards) 0 0 cards.extras in
    let sources = judged_tacs_sources nodes deck.switches variables (first_source cards) 0 cards.sources in
    both_lines (judged_blocks variables 0 cards.blocks) (sources ++ (extras ++ cut)) (block_lines deck) (signal_lines deck ++ (extra_lines deck ++ lines_of cut)) (block_line variables 0 cards.blocks)
    (both_lines sources (extras ++ cut) (signal_lines deck) (extra_lines deck ++ lines_of cut) (signal_line nodes deck.switches variables (first_source cards) 0 cards.sources)
    (both_lines extras cut (extra_lines deck) (lines_of cut) (extra_line_of variables deck.run.dt (first_extra cards) 0 0 cards.extras) refl))

-- ---- no group is cut off, or one of the branches, or one of the control

no_cut : (b s e t br sw so ou : List ℕ) → (b ++ s ++ e ++ t) ++ br ++ [] ++ sw ++ so ++ ou ≡ (b ++ (s ++ (e ++ []))) ++ (t ++ br ++ sw ++ so ++ ou) ++ []
no_cut b s e t br sw so ou = simp (append_assoc, append-nil)

cut_branches : (b s e t br p sw so ou : List ℕ) → sw ≡ [] → so ≡ [] → ou ≡ [] → (b ++ s ++ e ++ t) ++ br ++ p ++ sw ++ so ++ ou ≡ (b ++ (s ++ (e ++ []))) ++ (t ++ br ++ sw ++ so ++ ou) ++ p
cut_branches b s e t br p sw so ou i j k = rw (i, j, k) (simp (append_assoc, append-nil))

cut_control : (b s e t br p sw so ou : List ℕ) → t ≡ [] → br ≡ [] → sw ≡ [] → so ≡ [] → ou ≡ [] → (b ++ s ++ e ++ t) ++ br ++ p ++ sw ++ so ++ ou ≡ (b ++ (s ++ (e ++ p))) ++ (t ++ br ++ sw ++ so ++ ou) ++ []
cut_control b s e t br p sw so ou g h i j k = rw (g, h, i, j, k) (simp (append_assoc, append-nil))

plain : (deck : Deck) (n : ℕ) → Rises (deck.second + 1) (line_order deck []) n → Rises (deck.second + 1) (judged_order deck [] []) n
plain deck n r =
    subst (λ ls. Rises (deck.second + 1) ls n)
    (no_cut (block_lines deck) (signal_lines deck) (extra_lines deck) (tacs_output_lines deck) (branch_lines deck.branches) (switch_lines deck.switches) (source_lines deck.sources) (output_lines deck.outputs)) r

among_branches : (deck : Deck) (pending : List ℕ) (n : ℕ) → HasNoSwitches deck → Rises (deck.second + 1) (line_order deck pending) n → Rises (deck.second + 1) (judged_order deck [] pending) n
among_branches deck pending n h r =
    subst (λ ls. Rises (deck.second + 1) ls n)
    (cut_branches (block_lines deck) (signal_lines deck) (extra_lines deck) (tacs_output_lines deck) (branch_lines deck.branches) pending (switch_lines deck.switches) (source_lines deck.sources) (output_lines deck.outputs)
    (ap switch_lines h.0) (ap source_lines h.1) (ap output_lines h.2)) r

among_control : (deck : Deck) (pending : List ℕ) (n : ℕ) → HasNoOutputs deck → Rises (deck.second + 1) (line_order deck pending) n → Rises (deck.second + 1) (judged_order deck pending []) n
among_control deck pending n h r =
    let none = h.1.1 in
    subst (λ ls. Rises (deck.second + 1) ls n)
    (cut_control (block_lines deck) (signal_lines deck) (extra_lines deck) (tacs_output_lines deck) (branch_lines deck.branches) pending (switch_lines deck.switches) (source_lines deck.sources) (output_lines deck.outputs)
    (ap (λ (es : List TacsOutputEntry). map (λ (e : TacsOutputEntry). e.line) es) h.0) (ap branch_lines h.1.0) (ap switch_lines none.0) (ap source_lines none.1) (ap output_lines none.2)) r

control_place : (variables : List (List ℕ)) (deck : Deck) (history : ℕ) (at : ControlPlace) (n : ℕ) → IsUnbegun deck (Control at) → Rises (deck.second + 1) (card_lines deck (Control at)) n → Rises (deck.second + 1) (judged_order deck (lines_of (judged_cut_place variables deck history (Control at))) []) n
control_place variables deck history Blocks n h r = plain deck n r
control_place variables deck history (Numerator card) n h r = among_control deck (card.line ∷ []) n h r
control_place variables deck history (Denominator card top line) n h r = among_control deck (card.line ∷ []) n h r
control_place variables deck history TacsSources n h r = plain deck n r
control_place variables deck history Extras n h r = plain deck n r
control_place variables deck history (DevicePoints group) n h r = among_control deck (group.card.line ∷ []) n h r
control_place variables deck history TacsOutputs n h r = plain deck n r
control_place variables deck history Initial n h r = plain deck n r

each_place : (variables : List (List ℕ)) (deck : Deck) (m : Made) (history : ℕ) (place : Place) (n : ℕ) → IsUnbegun deck place → Rises (deck.second + 1) (card_lines deck place) n
    → Rises (deck.second + 1) (judged_order deck (lines_of (judged_cut_place variables deck history place)) (lines_of (judged_cut_branches m place))) n
each_place variables deck m history Begin n h r = plain deck n r
each_place variables deck m history (First seen) n h r = plain deck n r
each_place variables deck m history Second n h r = plain deck n r
each_place variables deck m history Start n h r = plain deck n r
each_place variables deck m history (Control at) n h r = control_place variables deck history at n h r
each_place variables deck m history (Branches wide) n h r = plain deck n r
each_place variables deck m history (Points group) n h r = among_branches deck (group.card.line ∷ []) n h r
each_place variables deck m history (Waiting card wide) n h r = among_branches deck (card.line ∷ []) n h r
each_place variables deck m history (Third zero' positive wide) n h r = among_branches deck (zero'.line ∷ positive.line ∷ []) n h r
each_place variables deck m history Switches n h r = plain deck n r
each_place variables deck m history Sources n h r = plain deck n r
each_place variables deck m history Outputs n h r = plain deck n r
each_place variables deck m history (After seen) n h r = plain deck n r

-- the second miscellaneous card comes first, and the end of the file last
pub judged_rise : (lines : List (List ℕ)) (deck : Deck) (place : Place) → walk 1 empty_deck Begin lines ≡ Ok (deck, place)
    → Rises deck.second (map (λ (card : Judged). card.line) (judged_cards (length lines) deck place)) (length lines + 2)
judged_rise lines deck place e =
    let nodes = known_nodes deck place in
    let variables = variable_names deck place in
    let m = made_of_all (case_nodes nodes) variables deck in
    let history = extras_history deck.run.dt 0 deck.control.extras in
    let last = length lines + 1 in
    let control = judged_control nodes variables deck place in
    let sections = judged_sections (case_nodes nodes) variables deck in
    let cut = judged_cut_branches m place in
    let end : List Judged = record { line = last; faults = end_faults place } ∷ [] in
    let before = (block_lines deck ++ (signal_lines deck ++ (extra_lines deck ++ lines_of (judged_cut_place variables deck history place)))) in
    let inner = tacs_output_lines deck ++ branch_lines deck.branches ++ switch_lines deck.switches ++ source_lines deck.sources ++ output_lines deck.outputs in
    let rises = each_place variables deck m history place last (unbegun lines deck place e) (cards_rise lines deck place e) in
    let all = behind (deck.second + 1) (before ++ inner) (lines_of cut) last last refl rises in
    let same = both_lines (control ++ sections) (cut ++ end) (before ++ inner) (lines_of cut ++ last ∷ [])
    (both_lines control sections before inner (control_cards nodes variables deck place) (sections_lines (case_nodes nodes) variables deck))
    (both_lines cut end (lines_of cut) (last ∷ []) refl refl) in
    (omega arith, later (deck.second + 1) _ (last + 1) (length lines + 2) (omega arith) (subst (λ ls. Rises (deck.second + 1) ls (last + 1)) (sym same) all))
