-- Walks over lines of which the cards of time switches have other times.
use Rattle.std.proofs.Common.{◌≡◌, ◌∙◌, ap, sym, subst, refl, ℕ, ◌+◌, Bool, true, false, List, [], ◌∷◌, ◌++◌, length, Option, Some, None, Result, Ok, Err, inl, inr, arith}
use Rattle.std.specs.Prelude.{if◌then◌else◌}
use Rattle.emtp_fix.proofs.Chaining.{same_ok, then_ok}
use Rattle.emtp_fix.specs.Chain.{unless}
use Rattle.emtp_card.specs.Lines.{is_comment, is_section_end}
use Rattle.emtp_card.specs.declared.reason.Bad.{Bad}
use Rattle.emtp_netcards.specs.OutputCard.{output_card}
use Rattle.emtp_netcards.specs.SourceCard.{source_card}
use Rattle.emtp_netcards.specs.SwitchCard.{switch_card}
use Rattle.emtp_netcards.specs.declared.output_card.OutputCard.{OutputCard}
use Rattle.emtp_netcards.specs.declared.source_card.SourceCard.{SourceCard}
use Rattle.emtp_netcards.specs.declared.switch_card.SwitchCard.{SwitchCard}
use Rattle.emtp_walk.specs.Answer.{go_on}
use Rattle.emtp_walk.specs.LineRead.{Read, order_fault, place_of}
use Rattle.emtp_walk.specs.Walk.{advance, after_place, begin_fault, empty_deck, output_step, source_step, switch_step, walk}
use Rattle.emtp_walk.specs.declared.deck.Deck.{Deck}
use Rattle.emtp_walk.specs.declared.deck.Place.{Place}
use Rattle.emtp_walk.specs.declared.deck.Place.TheVariants.{After, Begin, Branches, Control, First, Outputs, Points, Second, Sources, Start, Switches, Third, Waiting}
use Rattle.emtp_deck_laws.specs.OtherTimes.{AreTimedLines, HasOtherTimes, IsTimedLine}
use Rattle.emtp_deck_laws.proofs.TimedCards.{IsTimedCard, cards_alike}

-- ---- decks that differ in the times of their switches

abbrev pub AllTimed : List SwitchCard → List SwitchCard → Type 0
AllTimed [] [] = Unit {0}
AllTimed [] (other ∷ others) = ⊥
AllTimed (one ∷ ones) [] = ⊥
AllTimed (one ∷ ones) (other ∷ others) = IsTimedCard one other × AllTimed ones others

own_card : (card : SwitchCard) → IsTimedCard card card
own_card card = record { is = refl; kinds = inl refl }

all_with : (ones others : List SwitchCard) (one other : SwitchCard) → AllTimed ones others → IsTimedCard one other → AllTimed (ones ++ one ∷ []) (others ++ other ∷ [])
all_with [] [] one other h timed = (timed, tt)
all_with [] (y ∷ others) one other h timed = absurd h
all_with (x ∷ ones) [] one other h timed = absurd h
all_with (x ∷ ones) (y ∷ others) one other h timed = (h.0, all_with ones others one other h.1 timed)

own_cards : (cards : List SwitchCard) → AllTimed cards cards
own_cards [] = tt
own_cards (card ∷ cards) = (own_card card, own_cards cards)

abbrev pub with_cards : Deck → List SwitchCard → Deck
with_cards deck cards = record deck { switches = cards }

pub record AreTimedDecks (one other : Deck) : Type 0 where
  pub is : other ≡ with_cards one other.switches
  pub cards : AllTimed one.switches other.switches

-- the walk stands at one place, from the switches on
abbrev IsLate : Place → Type 0
IsLate Switches = Unit {0}
IsLate Sources = Unit {0}
IsLate Outputs = Unit {0}
IsLate (After seen) = Unit {0}
IsLate other = ⊥

pub record AreTimedReads (one other : Deck × Place) : Type 0 where
  pub place : one.1 ≡ other.1
  pub decks : AreTimedDecks one.0 other.0

record IsLateRead (one other : Deck × Place) : Type 0 where
  late : IsLate one.1
  reads : AreTimedReads one other

-- what was read is what is answered
answered : (a b one other : Deck × Place) → IsLateRead a b → ◌≡◌ {A = Read} (Ok a) (Ok one) → ◌≡◌ {A = Read} (Ok b) (Ok other) → IsLateRead one other
answered a b one other h e f = subst (λ x. IsLateRead x other) (same_ok a one e) (subst (λ x. IsLateRead a x) (same_ok b other f) h)

at_place : (d e : Deck) (place : Place) → IsLate place → AreTimedDecks d e → IsLateRead (d, place) (e, place)
at_place d e place late decks = record { late = late; reads = record { place = refl; decks = decks } }

-- ---- lines from the switches on

abbrev pub read_as : {A : Type 0} → Deck → (A → Deck) → Place → Place → Bool → Bool → Result A Bad → Read
read_as deck made here next comment end read = if comment then Ok (deck, here) else if end then Ok (deck, next) else go_on (λ card. Ok (made card, here)) read

section : {A : Type 0} (d e : Deck) (made other_made : A → Deck) (here next : Place) (comment end : Bool) (read : Result A Bad) (one other : Deck × Place)
    → IsLate here → IsLate next → AreTimedDecks d e → ((card : A) → AreTimedDecks (made card) (other_made card))
    → read_as d made here next comment end read ≡ Ok one → read_as e other_made here next comment end read ≡ Ok other → IsLateRead one other
section d e made other_made here next true end read one other late more decks all f g = answered (d, here) (e, here) one other (at_place d e here late decks) f g
section d e made other_made here next false true read one other late more decks all f g = answered (d, next) (e, next) one other (at_place d e next more decks) f g
section d e made other_made here next false false (Ok card) one other late more decks all f g = answered (made card, here) (other_made card, here) one other (at_place (made card) (other_made card) here late (all card)) f g
section d e made other_made here next false false (Err bad) one other late more decks all f g = absurd (cc)

timed_deck : (d : Deck) (cards : List SwitchCard) → AllTimed d.switches cards → AreTimedDecks d (with_cards d cards)
timed_deck d cards h = record { is = refl; cards = h }

behind_all : (d : Deck) (cards : List SwitchCard) (number : ℕ) (line : List ℕ) (seen comment end : Bool) (bad : Option Bad) (one other : Deck × Place) → AllTimed d.switches cards
    → (if comment then Ok (d, After seen) else place_of d (if end then Ok (After seen) else unless bad (λ bad. bad) (Ok (After true)))) ≡ Ok one
    → (if comment then Ok (with_cards d cards, After seen) else place_of (with_cards d cards) (if end then Ok (After seen) else unless bad (λ bad. bad) (Ok (After true)))) ≡ Ok other → IsLateRead one other
behind_all d cards number line seen true end bad one other h f g = answered (d, After seen) (with_cards d cards, After seen) one other (at_place d (with_cards d cards) (After seen) tt (timed_deck d cards h)) f g
behind_all d cards number line seen false true bad one other h f g = answered (d, After seen) (with_cards d cards, After seen) one other (at_place d (with_cards d cards) (After seen) tt (timed_deck d cards h)) f g
behind_all d cards number line seen false false None one other h f g = answered (d, After true) (with_cards d cards, After true) one other (at_place d (with_cards d cards) (After true) tt (timed_deck d cards h)) f g
behind_all d cards number line seen false false (Some bad) one other h f g = absurd (cc)

late_step : (d : Deck) (cards : List SwitchCard) (place : Place) (number : ℕ) (line : List ℕ) (one other : Deck × Place) → IsLate place → AllTimed d.switches cards
    → advance d place number line ≡ Ok one → advance (with_cards d cards) place number line ≡ Ok other → IsLateRead one other
unfolding switch_step source_step output_step after_place
late_step d cards Switches number line one other late h f g =
    section d (with_cards d cards) (λ (card : SwitchCard). record d { switches = d.switches ++ card ∷ [] }) (λ (card : SwitchCard). record d { switches = cards ++ card ∷ [] }) Switches Sources (is_comment line) (is_section_end line) (switch_card number line) one other tt tt
    (timed_deck d cards h) (λ card. record { is = refl; cards = all_with d.switches cards card card h (own_card card) }) f g
late_step d cards Sources number line one other late h f g =
    section d (with_cards d cards) (λ (card : SourceCard). record d { sources = d.sources ++ card ∷ [] }) (λ (card : SourceCard). record d { switches = cards; sources = d.sources ++ card ∷ [] }) Sources Outputs (is_comment line) (is_section_end line) (source_card number line) one other tt tt
    (timed_deck d cards h) (λ card. record { is = refl; cards = h }) f g
late_step d cards Outputs number line one other late h f g =
    section d (with_cards d cards) (λ (card : OutputCard). record d { outputs = d.outputs ++ (record { line = number; card = card }) ∷ [] }) (λ (card : OutputCard). record d { switches = cards; outputs = d.outputs ++ (record { line = number; card = card }) ∷ [] }) Outputs (After false) (is_comment line) (is_section_end line) (output_card number line) one other tt tt
    (timed_deck d cards h) (λ card. record { is = refl; cards = h }) f g
late_step d cards (After seen) number line one other late h f g =
    behind_all d cards number line seen (is_comment line) (is_section_end line) (if seen then order_fault number line else begin_fault number line) one other h f g
late_step d cards Begin number line one other late h f g = absurd late
late_step d cards (First seen) number line one other late h f g = absurd late
late_step d cards Second number line one other late h f g = absurd late
late_step d cards Start number line one other late h f g = absurd late
late_step d cards (Control at) number line one other late h f g = absurd late
late_step d cards (Branches wide) number line one other late h f g = absurd late
late_step d cards (Points group) number line one other late h f g = absurd late
late_step d cards (Waiting card wide) number line one other late h f g = absurd late
late_step d cards (Third zero' positive wide) number line one other late h f g = absurd late

late_line : (d e : Deck) (place : Place) (number : ℕ) (line : List ℕ) (one other : Deck × Place) → IsLate place → AreTimedDecks d e
    → advance d place number line ≡ Ok one → advance e place number line ≡ Ok other → IsLateRead one other
late_line d e place number line one other late decks f g =
    late_step d e.switches place number line one other late decks.cards f (sym (ap (λ deck. advance deck place number line) decks.is) ∙ g)

late_walk : (lines : List (List ℕ)) (number : ℕ) (d e : Deck) (place : Place) (one other : Deck × Place) → IsLate place → AreTimedDecks d e
    → walk number d place lines ≡ Ok one → walk number e place lines ≡ Ok other → AreTimedReads one other
late_walk [] number d e place one other late decks f g = (answered (d, place) (e, place) one other (at_place d e place late decks) f g).reads
late_walk (line ∷ lines) number d e place one other late decks f g =
    let a = then_ok (advance d place number line) (λ (next : Deck × Place). walk (number + 1) next.0 next.1 lines) one f in
    let b = then_ok (advance e place number line) (λ (next : Deck × Place). walk (number + 1) next.0 next.1 lines) other g in
    let here = late_line d e place number line a.0 b.0 late decks a.1 b.1 in
    late_walk lines (number + 1) a.0.0 b.0.0 a.0.1 one other here.late here.reads.decks a.2
    (ap (λ p. walk (number + 1) b.0.0 p lines) here.reads.place ∙ b.2)

-- ---- lines among the switches

card_at : (d : Deck) (number : ℕ) (line : List ℕ) (comment end : Bool) (read : Result SwitchCard Bad) (one : Deck × Place) → comment ≡ false → end ≡ false
    → read_as d (λ (card : SwitchCard). record d { switches = d.switches ++ card ∷ [] }) Switches Sources comment end read ≡ Ok one
    → (card : SwitchCard) × (read ≡ Ok card) × (one ≡ (record d { switches = d.switches ++ card ∷ [] }, Switches))
card_at d number line true end read one c s f = absurd (cc)
card_at d number line false true read one c s f = absurd (cc)
card_at d number line false false (Ok card) one c s f = (card, refl, sym (same_ok (record d { switches = d.switches ++ card ∷ [] }, Switches) one f))
card_at d number line false false (Err bad) one c s f = absurd (cc)

card_read : (d : Deck) (number : ℕ) (line : List ℕ) (one : Deck × Place) → is_comment line ≡ false → is_section_end line ≡ false → advance d Switches number line ≡ Ok one
    → (card : SwitchCard) × (switch_card number line ≡ Ok card) × (one ≡ (record d { switches = d.switches ++ card ∷ [] }, Switches))
unfolding switch_step
card_read d number line one c s f = card_at d number line (is_comment line) (is_section_end line) (switch_card number line) one c s f

-- no line here ends the switches
record AreAmong (one other : Deck × Place) : Type 0 where
  here : one.1 ≡ Switches
  there : other.1 ≡ Switches
  decks : AreTimedDecks one.0 other.0

stays : (d : Deck) (number : ℕ) (line : List ℕ) (comment end : Bool) (read : Result SwitchCard Bad) (one : Deck × Place) → end ≡ false
    → read_as d (λ (card : SwitchCard). record d { switches = d.switches ++ card ∷ [] }) Switches Sources comment end read ≡ Ok one → one.1 ≡ Switches
stays d number line true end read one s f = sym (ap (λ (n : Deck × Place). n.1) (same_ok (d, Switches) one f))
stays d number line false true read one s f = absurd (cc)
stays d number line false false (Ok card) one s f = sym (ap (λ (n : Deck × Place). n.1) (same_ok (record d { switches = d.switches ++ card ∷ [] }, Switches) one f))
stays d number line false false (Err bad) one s f = absurd (cc)

line_stays : (d : Deck) (number : ℕ) (line : List ℕ) (one : Deck × Place) → is_section_end line ≡ false → advance d Switches number line ≡ Ok one → one.1 ≡ Switches
unfolding switch_step
line_stays d number line one s f = stays d number line (is_comment line) (is_section_end line) (switch_card number line) one s f

timed_line : (d e : Deck) (number : ℕ) (x y : List ℕ) (one other : Deck × Place) → IsTimedLine x y → AreTimedDecks d e
    → advance d Switches number x ≡ Ok one → advance e Switches number y ≡ Ok other → AreAmong one other
timed_line d e number x y one other (inl same) decks f g =
    let g' : advance e Switches number x ≡ Ok other = ap (advance e Switches number) same.0 ∙ g in
    record {
      here = line_stays d number x one same.1 f;
      there = line_stays e number x other same.1 g';
      decks = (late_line d e Switches number x one other tt decks f g').reads.decks;
    }
timed_line d e number x y one other (inr timed) decks f g =
    let a = card_read d number x one timed.one_is.0 timed.one_is.1 f in
    let b = card_read e number y other timed.other_is.0 timed.other_is.1 g in
    let more = all_with d.switches e.switches a.0 b.0 decks.cards (cards_alike number x y a.0 b.0 timed a.1 b.1) in
    subst (λ n. AreAmong n other) (sym a.2) (subst (λ n. AreAmong (record d { switches = d.switches ++ a.0 ∷ [] }, Switches) n) (sym b.2)
    (record { here = refl; there = refl; decks = record { is = ap (λ (deck : Deck). record deck { switches = e.switches ++ b.0 ∷ [] }) decks.is; cards = more } }))

timed_walk : (xs ys behind : List (List ℕ)) (number : ℕ) (d e : Deck) (one other : Deck × Place) → AreTimedLines xs ys → AreTimedDecks d e
    → walk number d Switches (xs ++ behind) ≡ Ok one → walk number e Switches (ys ++ behind) ≡ Ok other → AreTimedReads one other
timed_walk [] [] behind number d e one other h decks f g = late_walk behind number d e Switches one other tt decks f g
timed_walk [] (y ∷ ys) behind number d e one other h decks f g = absurd h
timed_walk (x ∷ xs) [] behind number d e one other h decks f g = absurd h
timed_walk (x ∷ xs) (y ∷ ys) behind number d e one other h decks f g =
    let a = then_ok (advance d Switches number x) (λ (next : Deck × Place). walk (number + 1) next.0 next.1 (xs ++ behind)) one f in
    let b = then_ok (advance e Switches number y) (λ (next : Deck × Place). walk (number + 1) next.0 next.1 (ys ++ behind)) other g in
    let here = timed_line d e number x y a.0 b.0 h.0 decks a.1 b.1 in
    timed_walk xs ys behind (number + 1) a.0.0 b.0.0 one other h.1 here.decks
    (ap (λ p. walk (number + 1) a.0.0 p (xs ++ behind)) (sym here.here) ∙ a.2)
    (ap (λ p. walk (number + 1) b.0.0 p (ys ++ behind)) (sym here.there) ∙ b.2)

-- ---- the lines in front, which are the same

by_read : (read : Read) (number : ℕ) (lines rest : List (List ℕ)) (deck : Deck) (place : Place)
    → ((n : Deck × Place) → walk (number + 1) n.0 n.1 lines ≡ Ok (deck, place) → walk (number + 1) n.0 n.1 (lines ++ rest) ≡ walk (number + 1 + length lines) deck place rest)
    → go_on (λ (n : Deck × Place). walk (number + 1) n.0 n.1 lines) read ≡ Ok (deck, place) → go_on (λ (n : Deck × Place). walk (number + 1) n.0 n.1 (lines ++ rest)) read ≡ walk (number + 1 + length lines) deck place rest
by_read (Ok n) number lines rest deck place on e = on n e
by_read (Err bad) number lines rest deck place on e = absurd (cc)

pub walked_front : (front rest : List (List ℕ)) (number : ℕ) (d deck : Deck) (at place : Place) → walk number d at front ≡ Ok (deck, place) → walk number d at (front ++ rest) ≡ walk (number + length front) deck place rest
walked_front [] rest number d deck at place e =
    let same = same_ok (d, at) (deck, place) e in
    let none : number ≡ number + 0 = omega arith in
    ap (λ (n : Deck × Place). walk number n.0 n.1 rest) same ∙ ap (λ n. walk n deck place rest) none
walked_front (line ∷ front) rest number d deck at place e =
    let count : number + 1 + length front ≡ number + length (line ∷ front) = omega arith in
    by_read (advance d at number line) number front rest deck place (λ n f. walked_front front rest (number + 1) n.0 deck n.1 place f) e
    ∙ ap (λ n. walk n deck place rest) count

pub walks_alike : (xs ys : List (List ℕ)) (one other : Deck × Place) → HasOtherTimes xs ys → walk 1 empty_deck Begin xs ≡ Ok one → walk 1 empty_deck Begin ys ≡ Ok other → AreTimedReads one other
walks_alike xs ys one other h e f =
    let first = walked_front h.front (h.ones ++ h.behind) 1 empty_deck h.deck Begin Switches h.leads in
    let second = walked_front h.front (h.others ++ h.behind) 1 empty_deck h.deck Begin Switches h.leads in
    timed_walk h.ones h.others h.behind (1 + length h.front) h.deck h.deck one other h.alike (record { is = refl; cards = own_cards h.deck.switches })
    (sym first ∙ ap (walk 1 empty_deck Begin) (sym h.one) ∙ e) (sym second ∙ ap (walk 1 empty_deck Begin) (sym h.other) ∙ f)
