-- The names of an accepted deck's nodes are apart, and so are those of its variables.
use Rattle.emtp_fix.proofs.Chaining.{then_ok}
use Rattle.std.proofs.Common.{◌≡◌, ◌≢◌, ◌∙◌, ap, sym, subst, refl, ℕ, zero, suc, ◌+◌, ◌<◌, Bool, true, false, ◌||◌, List, [], ◌∷◌, ◌++◌, length, take, fold, get_or, Option, Some, None, Result, Ok, Err, if◌then◌else◌, inl, inr, length-append, arith}
use Rattle.std.specs.List.{list_any}
use Rattle.std.specs.Str.{bytes_eq}
use Rattle.std.proofs.lemmas.Bool.{cases_lt}
use Rattle.std.proofs.lemmas.List.{get_or-take, length-take}
use Rattle.std.proofs.lemmas.Slice.Eq.{bytes_eq-Decides}
use Rattle.emtp_fix.specs.Chain.{unless}
use Rattle.emtp_card.specs.declared.reason.Bad.{Bad}
use Rattle.emtp_case.specs.Case.{standing_names}
use Rattle.emtp_case.specs.declared.case.Parts.{Parts}
use Rattle.emtp_case.specs.declared.limit.TheConstants.{MOST_NODES}
use Rattle.emtp_deck.proofs.Asking.{control_is, deck_asks, no_fault}
use Rattle.emtp_deck_laws.specs.NamesApart.{HasNamesApart}
use Rattle.emtp_listing.specs.Law.{AreApart}
use Rattle.emtp_deck.specs.Deck.{case_of, deck_case, deck_of, few_samples, made_of_deck, sensible_control, unfinished}
use Rattle.emtp_netcards.specs.declared.source_card.SourceCard.{SourceCard}
use Rattle.emtp_netcards.specs.declared.switch_card.SwitchCard.{SwitchCard}
use Rattle.emtp_sense.specs.Names.{case_nodes, known_nodes, node_names, with_ends, with_entry_names, with_name, with_pending_nodes, with_switch_names}
use Rattle.emtp_sense.specs.Variables.{defined_variables, extra_name, variable_names, with_block_name, with_control_pending, with_extra_name, with_pending_variable, with_source_name}
use Rattle.emtp_walk.proofs.Sounding.{at_end, at_front}
use Rattle.emtp_walk.specs.Answer.{◌>>=◌}
use Rattle.emtp_walk.specs.Walk.{empty_deck, walk}
use Rattle.emtp_walk.specs.declared.control_cards.BlockEntry.{BlockEntry}
use Rattle.emtp_walk.specs.declared.control_cards.ControlPlace.{ControlPlace}
use Rattle.emtp_walk.specs.declared.control_cards.ControlPlace.TheVariants.{Blocks, Denominator, DevicePoints, Extras, Initial, Numerator, TacsOutputs, TacsSources}
use Rattle.emtp_walk.specs.declared.control_cards.ExtraEntry.{ExtraEntry}
use Rattle.emtp_walk.specs.declared.deck.BranchEntry.{BranchEntry}
use Rattle.emtp_walk.specs.declared.deck.BranchEntry.TheVariants.{Single, Trio}
use Rattle.emtp_walk.specs.declared.deck.Deck.{Deck}
use Rattle.emtp_walk.specs.declared.deck.Place.{Place}
use Rattle.emtp_walk.specs.declared.deck.Place.TheVariants.{After, Begin, Branches, Control, First, Outputs, Points, Second, Sources, Start, Switches, Third, Waiting}
use Rattle.indexmap.specs.IndexSet.{insert_key}

either_none : (a b : Bool) → (a || b) ≡ false → (a ≡ false) × (b ≡ false)
either_none true b e = absurd (cc)
either_none false b e = (refl, e)

not_there : (name : List ℕ) (names : List (List ℕ)) (i : ℕ) → list_any (bytes_eq name) names ≡ false → i < length names → get_or names i [] ≢ name
not_there name [] i none l same = absurd (omega (arith, l))
not_there name (x ∷ names) zero none l same =
    let own : bytes_eq name x ≡ true = (bytes_eq-Decides name x).1 (sym same) in
    let no : true ≡ false = sym own ∙ (either_none (bytes_eq name x) (list_any (bytes_eq name) names) none).0 in
    absurd (cc)
not_there name (x ∷ names) (suc i) none l same = not_there name names i (either_none (bytes_eq name x) (list_any (bytes_eq name) names) none).1 (omega (arith, l)) same

push_apart : (names : List (List ℕ)) (name : List ℕ) → AreApart names → list_any (bytes_eq name) names ≡ false → AreApart (names ++ name ∷ [])
push_apart names name apart none i j li lj same =
    let size = length-append names (name ∷ []) in
    elim (cases_lt i (length names)) [
      | inl a ↦ elim (cases_lt j (length names)) [
        | inl b ↦ apart i j a b (sym (at_front names i name [] a) ∙ same ∙ at_front names j name [] b)
        | inr b ↦
            let last : j ≡ length names = omega (arith, b, lj, size) in
            absurd (not_there name names i none a (sym (at_front names i name [] a) ∙ same ∙ ap (λ k. get_or (names ++ name ∷ []) k []) last ∙ at_end names name []))
      ]
      | inr a ↦
          let last : i ≡ length names = omega (arith, a, li, size) in
          elim (cases_lt j (length names)) [
            | inl b ↦ absurd (not_there name names j none b (sym (at_front names j name [] b) ∙ sym same ∙ ap (λ k. get_or (names ++ name ∷ []) k []) last ∙ at_end names name []))
            | inr b ↦ omega (arith, last, b, lj, size)
          ]
    ]

insert_apart : (names : List (List ℕ)) (name : List ℕ) → AreApart names → AreApart (insert_key bytes_eq names name)
insert_apart names name apart = go (list_any (bytes_eq name) names) refl
  where
    go : (there : Bool) → list_any (bytes_eq name) names ≡ there → AreApart (if there then names else names ++ name ∷ [])
    go true t = apart
    go false t = push_apart names name apart t

folded : {A : Type 0} (f : List (List ℕ) → A → List (List ℕ)) → ((names : List (List ℕ)) (x : A) → AreApart names → AreApart (f names x)) → (names : List (List ℕ)) (xs : List A) → AreApart names → AreApart (fold f names xs)
folded f one names [] apart = apart
folded f one names (x ∷ xs) apart = folded f one (f names x) xs (one names x apart)

none_apart : AreApart []
none_apart i j li lj same = absurd (omega (arith, li))

-- ---- nodes

name_apart : (names : List (List ℕ)) (name : Option (List ℕ)) → AreApart names → AreApart (with_name names name)
name_apart names None apart = apart
name_apart names (Some name) apart = insert_apart names name apart

ends_apart : (names : List (List ℕ)) (a b : Option (List ℕ)) → AreApart names → AreApart (with_ends names a b)
ends_apart names a b apart = name_apart (with_name names a) b (name_apart names a apart)

entry_apart : (names : List (List ℕ)) (e : BranchEntry) → AreApart names → AreApart (with_entry_names names e)
entry_apart names (Single card first count) apart = ends_apart names card.from card.to apart
entry_apart names (Trio zero' positive third) apart =
    ends_apart (with_ends (with_ends names zero'.from zero'.to) positive.from positive.to) third.from third.to
    (ends_apart (with_ends names zero'.from zero'.to) positive.from positive.to (ends_apart names zero'.from zero'.to apart))

switch_apart : (names : List (List ℕ)) (card : SwitchCard) → AreApart names → AreApart (with_switch_names names card)
switch_apart names card apart = ends_apart names card.from card.to apart

pending_apart : (names : List (List ℕ)) (place : Place) → AreApart names → AreApart (with_pending_nodes names place)
pending_apart names (Points group) apart = ends_apart names group.card.from group.card.to apart
pending_apart names (Waiting card wide) apart = ends_apart names card.from card.to apart
pending_apart names (Third zero' positive wide) apart = ends_apart (with_ends names zero'.from zero'.to) positive.from positive.to (ends_apart names zero'.from zero'.to apart)
pending_apart names Begin apart = apart
pending_apart names (First seen) apart = apart
pending_apart names Second apart = apart
pending_apart names Start apart = apart
pending_apart names (Control at) apart = apart
pending_apart names (Branches wide) apart = apart
pending_apart names Switches apart = apart
pending_apart names Sources apart = apart
pending_apart names Outputs apart = apart
pending_apart names (After seen) apart = apart

nodes_apart : (deck : Deck) (place : Place) → AreApart (known_nodes deck place)
nodes_apart deck place = pending_apart (node_names deck) place (folded with_switch_names switch_apart (fold with_entry_names [] deck.branches) deck.switches (folded with_entry_names entry_apart [] deck.branches none_apart))

take_apart : (n : ℕ) (names : List (List ℕ)) → AreApart names → AreApart (take n names)
take_apart n names apart i j li lj same =
    let size = length-take n names in
    let ni : i < n = omega (arith, li, size) in
    let nj : j < n = omega (arith, lj, size) in
    apart i j (omega (arith, li, size)) (omega (arith, lj, size)) (sym (get_or-take n names i [] ni) ∙ same ∙ get_or-take n names j [] nj)

-- ---- variables

block_apart : (names : List (List ℕ)) (e : BlockEntry) → AreApart names → AreApart (with_block_name names e)
block_apart names e apart = insert_apart names e.card.name apart

source_apart : (names : List (List ℕ)) (card : SourceCard) → AreApart names → AreApart (with_source_name names card)
source_apart names card apart = insert_apart names card.name apart

extra_apart : (names : List (List ℕ)) (e : ExtraEntry) → AreApart names → AreApart (with_extra_name names e)
extra_apart names e apart = insert_apart names (extra_name e) apart

control_pending_apart : (names : List (List ℕ)) (at : ControlPlace) → AreApart names → AreApart (with_control_pending names at)
control_pending_apart names Blocks apart = apart
control_pending_apart names (Numerator card) apart = insert_apart names card.name apart
control_pending_apart names (Denominator card top line) apart = insert_apart names card.name apart
control_pending_apart names TacsSources apart = apart
control_pending_apart names Extras apart = apart
control_pending_apart names (DevicePoints group) apart = insert_apart names group.card.name apart
control_pending_apart names TacsOutputs apart = apart
control_pending_apart names Initial apart = apart

variable_pending_apart : (names : List (List ℕ)) (place : Place) → AreApart names → AreApart (with_pending_variable names place)
variable_pending_apart names (Control at) apart = control_pending_apart names at apart
variable_pending_apart names (Points group) apart = apart
variable_pending_apart names (Waiting card wide) apart = apart
variable_pending_apart names (Third zero' positive wide) apart = apart
variable_pending_apart names Begin apart = apart
variable_pending_apart names (First seen) apart = apart
variable_pending_apart names Second apart = apart
variable_pending_apart names Start apart = apart
variable_pending_apart names (Branches wide) apart = apart
variable_pending_apart names Switches apart = apart
variable_pending_apart names Sources apart = apart
variable_pending_apart names Outputs apart = apart
variable_pending_apart names (After seen) apart = apart

standing_apart : AreApart standing_names
standing_apart =
    let made : fold (insert_key bytes_eq) [] standing_names ≡ standing_names = refl in
    subst AreApart made (folded (insert_key bytes_eq) insert_apart [] standing_names none_apart)

variables_apart : (deck : Deck) (place : Place) → AreApart (variable_names deck place)
variables_apart deck place =
    let c = deck.control in
    variable_pending_apart (defined_variables c) place
    (folded with_extra_name extra_apart (fold with_source_name (fold with_block_name standing_names c.blocks) c.sources) c.extras
    (folded with_source_name source_apart (fold with_block_name standing_names c.blocks) c.sources (folded with_block_name block_apart standing_names c.blocks standing_apart)))

-- ---- the case

deck_case_apart : (line : ℕ) (deck : Deck) (place : Place) (p : Parts) → deck_case line deck place ≡ Ok p → HasNamesApart p
unfolding deck_case
deck_case_apart line deck place p e =
    let nodes = known_nodes deck place in
    let variables = variable_names deck place in
    let a = then_ok (few_samples nodes variables deck place) (λ few. sensible_control nodes variables deck place >>= (λ sensible. made_of_deck (case_nodes nodes) variables deck >>= (λ m. unless (unfinished line m place) (λ bad. bad) (Ok (case_of deck m))))) p e in
    let b = then_ok (sensible_control nodes variables deck place) (λ sensible. made_of_deck (case_nodes nodes) variables deck >>= (λ m. unless (unfinished line m place) (λ bad. bad) (Ok (case_of deck m)))) p a.2 in
    let c = then_ok (made_of_deck (case_nodes nodes) variables deck) (λ m. unless (unfinished line m place) (λ bad. bad) (Ok (case_of deck m))) p b.2 in
    let done = no_fault (unfinished line c.0 place) (λ bad. bad) (case_of deck c.0) p c.2 in
    let asks = deck_asks (case_nodes nodes) variables deck c.0 c.1 in
    let is = control_is (case_nodes nodes) variables deck in
    let n : c.0.parts.nodes ≡ case_nodes nodes = asks.nodes ∙ is.nodes_are in
    let v : c.0.parts.vars ≡ variables = asks.control.vars ∙ is.vars in
    subst HasNamesApart done.1 (record {
      nodes = subst AreApart (sym n) (take_apart MOST_NODES nodes (nodes_apart deck place));
      vars = subst AreApart (sym v) (variables_apart deck place);
    })

read_apart : (lines : List (List ℕ)) (walked : Result (Deck × Place) Bad) (p : Parts) → (walked >>= (λ (read : Deck × Place). deck_case (length lines + 1) read.0 read.1)) ≡ Ok p → HasNamesApart p
read_apart lines (Ok read) p e = deck_case_apart (length lines + 1) read.0 read.1 p e
read_apart lines (Err bad) p e = absurd (cc)

pub deck_apart : (lines : List (List ℕ)) (p : Parts) → deck_of lines ≡ Ok p → HasNamesApart p
unfolding deck_of
deck_apart lines p e = read_apart lines (walk 1 empty_deck Begin lines) p e
