-- Each section of the network makes what its cards give, unless one has a fault: the first that has one is refused.
use Rattle.std.proofs.Common.{◌≡◌, ◌∙◌, sym, ap, refl, ℕ, ◌+◌, ◌<◌, ◌==◌, Bool, true, false, ◌||◌, ◌&&◌, List, [], ◌∷◌, length, Option, Some, None, Result, arith, Ok}
use Rattle.std.specs.Prelude.{fold, nat_lt, if◌then◌else◌}
use Rattle.std.proofs.lemmas.Bool.Decides.{nat_tests}
use Rattle.emtp_fix.specs.Chain.{unless}
use Rattle.emtp_card.specs.Fault.{bad_at, comes_before, least, lesser}
use Rattle.emtp_card.specs.Reason.{reason_number}
use Rattle.emtp_card.specs.declared.fault.Fault.{Fault}
use Rattle.emtp_card.specs.declared.reason.Bad.{Bad}
use Rattle.emtp_case.specs.declared.branch.Point.{Point}
use Rattle.emtp_case.specs.declared.case.Parts.{Parts}
use Rattle.emtp_case.specs.declared.channel.Channel.{Channel}
use Rattle.emtp_deck.specs.Branches.{card_fault, entry_fault, first_fault, second_fault, take_branches, take_entry, third_fault, with_entry}
use Rattle.emtp_deck.specs.Made.{Made, no_room}
use Rattle.emtp_deck.specs.Outputs.{channel_of, name_fault, take_all_nodes, take_known_name, take_names, take_output, take_outputs, take_tacs_outputs, with_channel}
use Rattle.emtp_deck.specs.Sources.{take_source, take_sources, with_source}
use Rattle.emtp_deck.specs.Switches.{take_switch, take_switches, with_switch}
use Rattle.emtp_deck.specs.declared.asked.Asked.{Asked}
use Rattle.emtp_deck_laws.specs.CardFaults.{asking_variable, channel_of_variable, names_faults, output_faults, source_faults, switch_faults}
use Rattle.emtp_deck_laws.specs.JudgedCards.{judged_branches, judged_entry, judged_outputs, judged_sources, judged_switches, judged_tacs_outputs, made_branches, made_names, made_output, made_outputs, made_sources, made_switches, made_tacs_outputs}
use Rattle.emtp_deck_laws.proofs.FirstRefusal.{bad_alone, bads_in_turn, first_refusal, more_cards, one_card, single_fault}
use Rattle.emtp_netcards.specs.declared.output_card.OutputCard.{OutputCard}
use Rattle.emtp_netcards.specs.declared.output_card.OutputCard.TheVariants.{All as AllNodes, Names}
use Rattle.emtp_netcards.specs.declared.source_card.SourceCard.{SourceCard}
use Rattle.emtp_netcards.specs.declared.switch_card.SwitchCard.{SwitchCard}
use Rattle.emtp_sense.specs.Limits.{too_many}
use Rattle.emtp_sense.specs.Names.{find_node}
use Rattle.emtp_walk.specs.Answer.{first_bad, go_on}
use Rattle.emtp_walk.specs.declared.control_cards.TacsOutputEntry.{TacsOutputEntry}
use Rattle.emtp_walk.specs.declared.deck.BranchEntry.{BranchEntry}
use Rattle.emtp_walk.specs.declared.deck.BranchEntry.TheVariants.{Single, Trio}
use Rattle.emtp_walk.specs.declared.deck.OutputEntry.{OutputEntry}

-- ---- branches

entry_refused : (m : Made) (e : BranchEntry) → entry_fault m e ≡ first_refusal (judged_entry m e)
unfolding card_fault
entry_refused m (Single card first count) = bad_alone (first_fault m card)
entry_refused m (Trio zero' positive third) =
    bads_in_turn (first_fault m zero') (second_fault m zero' positive) (third_fault m zero' positive third)
    ∙ ap (λ a. first_bad (first_fault m zero') (first_bad (second_fault m zero' positive) a)) (bad_alone (third_fault m zero' positive third))

pub branches_made : (points : List Point) (m : Made) (es : List BranchEntry) → take_branches points m es ≡ unless (first_refusal (judged_branches points m es)) (λ bad. bad) (Ok (made_branches points m es))
unfolding take_entry
branches_made points m [] = refl
branches_made points m (e ∷ es) =
    let next = with_entry points m e in
    more_cards (λ (made : Made). take_branches points made es) (judged_entry m e) (judged_branches points next es) (take_entry points m e) next (made_branches points next es)
    (ap (λ bad. unless bad (λ bad. bad) (Ok next)) (entry_refused m e)) (branches_made points next es)

-- ---- switches and sources

pub switches_made : (m : Made) (cards : List SwitchCard) → take_switches m cards ≡ unless (first_refusal (judged_switches m cards)) (λ bad. bad) (Ok (made_switches m cards))
unfolding take_switch
switches_made m [] = refl
switches_made m (card ∷ cards) =
    let next = with_switch m card in
    more_cards (λ (made : Made). take_switches made cards) (record { line = card.line; faults = switch_faults m card } ∷ []) (judged_switches next cards) (take_switch m card) next (made_switches next cards)
    (one_card card.line (switch_faults m card) next) (switches_made next cards)

pub sources_made : (m : Made) (cards : List SourceCard) → take_sources m cards ≡ unless (first_refusal (judged_sources m cards)) (λ bad. bad) (Ok (made_sources m cards))
unfolding take_source
sources_made m [] = refl
sources_made m (card ∷ cards) =
    let next = with_source m card (find_node m.parts.nodes card.name) in
    more_cards (λ (made : Made). take_sources made cards) (record { line = card.line; faults = source_faults m card } ∷ []) (judged_sources next cards) (take_source m card) next (made_sources next cards)
    (one_card card.line (source_faults m card) next) (sources_made next cards)

-- ---- names

-- each fault of the list stands behind the column
AreBehind : ℕ → List (Option Fault) → Type 0
AreBehind column [] = Unit {0}
AreBehind column (fault ∷ faults) = ((f : Fault) → fault ≡ Some f → column < f.column) × AreBehind column faults

not_before : (c n d m : ℕ) → d < c → (nat_lt c d || ((c == d) && nat_lt n m)) ≡ false
not_before c n d m h = grind (arith, nat_tests)

lesser_stays : (f g : Fault) → f.column < g.column → lesser (Some f) (Some g) ≡ Some f
lesser_stays f g h = by_test (comes_before g f) (not_before g.column (reason_number g.why) f.column (reason_number f.why) h)
  where
    by_test : (b : Bool) → b ≡ false → (if b then Some g else Some f) ≡ Some f
    by_test true e = absurd (cc)
    by_test false e = refl

stays : (f : Fault) (faults : List (Option Fault)) → AreBehind f.column faults → fold lesser (Some f) faults ≡ Some f
unfolding AreBehind
stays f [] h = refl
stays f (None ∷ faults) h = stays f faults h.1
stays f (Some g ∷ faults) h = ap (λ a. fold lesser a faults) (lesser_stays f g (h.0 g refl)) ∙ stays f faults h.1

column_of_test : (b : Bool) (column : ℕ) (f : Fault) → too_many b column ≡ Some f → f.column ≡ column
column_of_test true column f e = let at : Fault → ℕ = λ x. x.column in cc
column_of_test false column f e = absurd (cc)

column_of_name : (asked : Asked) (column : ℕ) (channel : Option Channel) (f : Fault) → name_fault asked column channel ≡ Some f → f.column ≡ column
column_of_name asked column None f e = let at : Fault → ℕ = λ x. x.column in cc
column_of_name asked column (Some channel) f e = column_of_test (no_room asked 1) column f e

names_behind : (channel : Parts → List ℕ → Option Channel) (asking : Made → Option Channel → Made) (m : Made) (column low : ℕ) (names : List (Option (List ℕ))) → low < column → AreBehind low (names_faults channel asking m column names)
unfolding AreBehind
names_behind channel asking m column low [] h = tt
names_behind channel asking m column low (None ∷ names) h = names_behind channel asking m (column + 6) low names (omega arith)
names_behind channel asking m column low (Some name ∷ names) h =
    let at = channel m.parts name in
    ((λ f e. omega (arith, column_of_name m.asked column at f e)), names_behind channel asking (asking m at) (column + 6) low names (omega arith))

one_name : (line : ℕ) (next : Made → Result Made Bad) (fault : Option Fault) (x y : Made) (rest : List (Option Fault)) → ((f : Fault) → fault ≡ Some f → AreBehind f.column rest) → next x ≡ unless (least rest) (bad_at line) (Ok y) → go_on next (unless fault (bad_at line) (Ok x)) ≡ unless (least (fault ∷ rest)) (bad_at line) (Ok y)
unfolding least
one_name line next (Some f) x y rest behind e = ap (λ a. unless a (bad_at line) (Ok y)) (sym (stays f rest (behind f refl)))
one_name line next None x y rest behind e = e

names_made : (named : _) (line : ℕ) (m : Made) (column : ℕ) (names : List (Option (List ℕ))) → take_names named line m column names ≡ unless (least (names_faults (channel_of named) (with_channel named) m column names)) (bad_at line) (Ok (made_names (channel_of named) (with_channel named) m names))
unfolding least take_known_name
names_made named line m column [] = refl
names_made named line m column (None ∷ names) = names_made named line m (column + 6) names
names_made named line m column (Some name ∷ names) =
    let channel = channel_of named m.parts name in
    let next = with_channel named m channel in
    let rest = names_faults (channel_of named) (with_channel named) next (column + 6) names in
    one_name line (λ (made : Made). take_names named line made (column + 6) names) (name_fault m.asked column channel) next (made_names (channel_of named) (with_channel named) next names) rest
    (λ f e. names_behind (channel_of named) (with_channel named) next (column + 6) f.column names (omega (arith, column_of_name m.asked column channel f e)))
    (names_made named line next (column + 6) names)

-- ---- outputs

output_made : (line : ℕ) (m : Made) (card : OutputCard) → take_output line m card ≡ unless (least (output_faults m card)) (bad_at line) (Ok (made_output m card))
unfolding take_all_nodes
output_made line m AllNodes =
    let fault = too_many (no_room m.asked (length m.parts.nodes)) 1 in
    ap (λ a. unless a (bad_at line) (Ok (made_output m AllNodes))) (sym (single_fault fault))
output_made line m (Names names) = names_made _ line m 3 names

pub outputs_made : (m : Made) (es : List OutputEntry) → take_outputs m es ≡ unless (first_refusal (judged_outputs m es)) (λ bad. bad) (Ok (made_outputs m es))
outputs_made m [] = refl
outputs_made m (e ∷ es) =
    let next = made_output m e.card in
    more_cards (λ (made : Made). take_outputs made es) (record { line = e.line; faults = output_faults m e.card } ∷ []) (judged_outputs next es) (take_output e.line m e.card) next (made_outputs next es)
    (output_made e.line m e.card ∙ one_card e.line (output_faults m e.card) next) (outputs_made next es)

pub tacs_outputs_made : (m : Made) (es : List TacsOutputEntry) → take_tacs_outputs m es ≡ unless (first_refusal (judged_tacs_outputs m es)) (λ bad. bad) (Ok (made_tacs_outputs m es))
tacs_outputs_made m [] = refl
tacs_outputs_made m (e ∷ es) =
    let next = made_names channel_of_variable asking_variable m e.names in
    more_cards (λ (made : Made). take_tacs_outputs made es) (record { line = e.line; faults = names_faults channel_of_variable asking_variable m 3 e.names } ∷ []) (judged_tacs_outputs next es) _ next (made_tacs_outputs next es)
    (names_made _ e.line m 3 e.names ∙ one_card e.line (names_faults channel_of_variable asking_variable m 3 e.names) next) (tacs_outputs_made next es)
