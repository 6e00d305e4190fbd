-- A deck of which a line can't be read is refused for the first such line, and a switch card for its least fault.
use Rattle.std.proofs.Common.{◌≡◌, ◌∙◌, ap, sym, subst, refl, ℕ, ◌+◌, ◌^◌, pos, neg_ℤ, Bool, true, false, List, [], ◌∷◌, ◌++◌, length, Option, Some, None, Result, Ok, Err, arith}
use Rattle.std.specs.Prelude.{if◌then◌else◌}
use Rattle.emtp_card.specs.Fault.{bad_at}
use Rattle.emtp_card.specs.Lines.{fault_of_line, is_comment, is_section_end}
use Rattle.emtp_card.specs.Name.{name_field}
use Rattle.emtp_card.specs.Number.{held_field, number_field}
use Rattle.emtp_card.specs.held.Fault.{IsLeastOf, fault_at}
use Rattle.emtp_card.specs.declared.fault.Fault.{Fault}
use Rattle.emtp_card.specs.declared.reason.Bad.{Bad}
use Rattle.emtp_card.specs.declared.reason.Why.{Why}
use Rattle.emtp_card.specs.declared.reason.Why.TheVariants.{BadName}
use Rattle.emtp_case.specs.declared.switch.SwitchKind.TheVariants.{Measuring}
use Rattle.emtp_deck.specs.Deck.{deck_case, deck_of}
use Rattle.emtp_netcards.specs.Fields.{asked_field, distinct, ends_field, is_same_name, needed}
use Rattle.emtp_netcards.specs.Reading.{◌>>=◌, both, card_by, in_column, lesser_fault}
use Rattle.emtp_netcards.specs.SwitchCard.{fields_of, is_measuring, kind_of, switch_card, time_kind, times_of, type_field, valve_of, word_field}
use Rattle.emtp_netcards.specs.declared.switch_card.SwitchCard.{SwitchCard}
use Rattle.emtp_netcards.specs.declared.switch_card.SwitchType.{SwitchType}
use Rattle.emtp_netcards.specs.declared.switch_card.SwitchType.TheVariants.{Control as ControlType, Time as TimeType, Valve as ValveType}
use Rattle.emtp_walk.specs.Answer.{go_on}
use Rattle.emtp_walk.specs.LineRead.{Read}
use Rattle.emtp_walk.specs.Walk.{advance, empty_deck, switch_step, walk}
use Rattle.emtp_walk.specs.declared.deck.Deck.{Deck}
use Rattle.emtp_walk.specs.declared.deck.Place.{Place}
use Rattle.emtp_walk.specs.declared.deck.Place.TheVariants.{Begin, Sources, Switches}
use Rattle.emtp_deck_laws.specs.FormFaults.{IsFirstRefused, IsRefusedFor, IsRefusedSwitch, kind_faults, same_ends_fault, switch_form_faults, time_faults}
use Rattle.emtp_deck_laws.specs.LeastFault.{fault_of_bad}
use Rattle.emtp_deck_laws.proofs.JudgedFields.{IsJudgedBy, alone, field_alone, filled_alone, joined, none_behind, then_judged, then_made}
use Rattle.emtp_deck_laws.proofs.TimedWalks.{read_as}

-- ---- the first line that can't be read

-- the same of a walk from any place on
record IsFirstFrom (number : ℕ) (d : Deck) (at : Place) (lines : List (List ℕ)) (bad : Bad) : Type 0 where
  front : List (List ℕ)
  line : List ℕ
  behind : List (List ℕ)
  deck : Deck
  place : Place
  is : lines ≡ front ++ line ∷ behind
  read : walk number d at front ≡ Ok (deck, place)
  refused : advance deck place (length front + number) line ≡ Err bad

by_line : (number : ℕ) (d : Deck) (at : Place) (line : List ℕ) (lines : List (List ℕ)) (bad : Bad) (read : Read) → advance d at number line ≡ read
    → ((n : Deck × Place) → walk (number + 1) n.0 n.1 lines ≡ Err bad → IsFirstFrom (number + 1) n.0 n.1 lines bad)
    → go_on (λ (n : Deck × Place). walk (number + 1) n.0 n.1 lines) read ≡ Err bad → IsFirstFrom number d at (line ∷ lines) bad
by_line number d at line lines bad (Ok n) a rest e =
    let r = rest n e in
    let count : length r.front + (number + 1) ≡ length (line ∷ r.front) + number = omega arith in
    record {
      front = line ∷ r.front;
      line = r.line;
      behind = r.behind;
      deck = r.deck;
      place = r.place;
      is = ap (λ ls. line ∷ ls) r.is;
      read = ap (go_on (λ (n : Deck × Place). walk (number + 1) n.0 n.1 r.front)) a ∙ r.read;
      refused = ap (λ k. advance r.deck r.place k r.line) (sym count) ∙ r.refused;
    }
by_line number d at line lines bad (Err other) a rest e =
    let none : 0 + number ≡ number = omega arith in
    record {
      front = [];
      line = line;
      behind = lines;
      deck = d;
      place = at;
      is = refl;
      read = refl;
      refused = ap (λ k. advance d at k line) none ∙ a ∙ e;
    }

first_from : (lines : List (List ℕ)) (number : ℕ) (d : Deck) (at : Place) (bad : Bad) → walk number d at lines ≡ Err bad → IsFirstFrom number d at lines bad
first_from [] number d at bad e = absurd (cc)
first_from (line ∷ lines) number d at bad e =
    by_line number d at line lines bad (advance d at number line) refl (λ n h. first_from lines (number + 1) n.0 n.1 bad h) e

pub first_refused : (lines : List (List ℕ)) (bad : Bad) → walk 1 empty_deck Begin lines ≡ Err bad → IsFirstRefused lines bad
first_refused lines bad e =
    let r = first_from lines 1 empty_deck Begin bad e in
    record { front = r.front; line = r.line; behind = r.behind; deck = r.deck; place = r.place; is = r.is; read = r.read; refused = r.refused }

pub deck_refused : (lines : List (List ℕ)) (bad : Bad) → walk 1 empty_deck Begin lines ≡ Err bad → deck_of lines ≡ Err bad
unfolding deck_of
deck_refused lines bad e = ap (go_on (λ (read : Deck × Place). deck_case (length lines + 1) read.0 read.1)) e

-- ---- the fields of a switch card

ends_rule : (a b : Option (List ℕ)) → IsJudgedBy (distinct a b) ((if is_same_name a b then Some (record { column = 9; why = BadName }) else None) ∷ [])
ends_rule a b = by_test (is_same_name a b)
  where
    refusal : Result (Option (List ℕ) × Option (List ℕ)) Fault
    refusal = Err (record { column = 9; why = BadName })

    same : Option Fault
    same = Some (record { column = 9; why = BadName })

    by_test : (is : Bool) → IsJudgedBy (if is then refusal else Ok (a, b)) ((if is then same else None) ∷ [])
    by_test true = alone (record { column = 9; why = BadName })
    by_test false = (refl, tt)

ends_by : (x y : Result (Option (List ℕ)) Why) → IsJudgedBy (both (in_column 3 x) (in_column 9 y) >>= (λ (p : Option (List ℕ) × Option (List ℕ)). distinct p.0 p.1)) (fault_at 3 x ∷ fault_at 9 y ∷ same_ends_fault x y ∷ [])
ends_by (Ok a) (Ok b) = then_judged (a, b) (λ (p : Option (List ℕ) × Option (List ℕ)). distinct p.0 p.1) (None ∷ None ∷ []) _ (refl, (refl, tt)) (ends_rule a b)
ends_by (Ok a) (Err why) =
    let f : Fault = record { column = 9; why = why } in
    none_behind (None ∷ Some f ∷ []) (None ∷ []) f (joined {B = Option (List ℕ)} (Ok a) (Err f) (None ∷ []) (Some f ∷ []) (refl, tt) (alone f)) (refl, tt)
ends_by (Err why) (Ok b) =
    let f : Fault = record { column = 3; why = why } in
    none_behind (Some f ∷ None ∷ []) (None ∷ []) f (joined {A = Option (List ℕ)} (Err f) (Ok b) (Some f ∷ []) (None ∷ []) (alone f) (refl, tt)) (refl, tt)
ends_by (Err why) (Err other) =
    let f : Fault = record { column = 3; why = why } in
    let g : Fault = record { column = 9; why = other } in
    none_behind (Some f ∷ Some g ∷ []) (None ∷ []) (lesser_fault f g) (joined {A = Option (List ℕ)} {B = Option (List ℕ)} (Err f) (Err g) (Some f ∷ []) (Some g ∷ []) (alone f) (alone g)) (refl, tt)

ends_judged : (line : List ℕ) → IsJudgedBy (ends_field line) (fault_at 3 (name_field line 3) ∷ fault_at 9 (name_field line 9) ∷ same_ends_fault (name_field line 3) (name_field line 9) ∷ [])
unfolding ends_field
ends_judged line = ends_by (name_field line 3) (name_field line 9)

times_judged : (line : List ℕ) → IsJudgedBy (times_of line) (time_faults line)
unfolding times_of
times_judged line =
    then_made (both (both _ _) (both _ (in_column 55 (word_field line)))) _ (time_faults line) (λ x. (_, refl))
    (joined (both _ _) (both _ _) _ _
    (joined _ _ _ _ (filled_alone 15 (pos 0) (held_field line 15 24 (pos 12) (neg_ℤ (pos (10 ^ 18))) (pos (10 ^ 18)))) (field_alone 25 (held_field line 25 34 (pos 12) (neg_ℤ (pos (10 ^ 18))) (pos (10 ^ 18)))))
    (joined _ _ _ _ (filled_alone 35 (pos 0) (number_field line 35 44 (pos 9) (pos 0) (pos (10 ^ 18)))) (field_alone 55 (word_field line))))

time_judged : (line : List ℕ) → IsJudgedBy (time_kind line) (if is_measuring line then [] else time_faults line)
time_judged line = by_test (is_measuring line)
  where
    by_test : (measuring : Bool) → IsJudgedBy (if measuring then Ok Measuring else times_of line) (if measuring then [] else time_faults line)
    by_test true = tt
    by_test false = times_judged line

valve_judged : (line : List ℕ) → IsJudgedBy (valve_of line) (kind_faults line (Ok ValveType))
unfolding valve_of
valve_judged line =
    then_made (both _ (both _ (in_column 65 (name_field line 65)))) _ (kind_faults line (Ok ValveType)) (λ x. (_, refl))
    (joined _ _ _ _ (filled_alone 15 (pos 0) (number_field line 15 24 (pos 9) (pos 0) (pos (10 ^ 18))))
    (joined _ _ _ _ (filled_alone 25 (pos 0) (number_field line 25 34 (pos 9) (pos 0) (pos (10 ^ 18)))) (field_alone 65 (name_field line 65))))

kind_judged : (line : List ℕ) (type : SwitchType) → IsJudgedBy (kind_of line type) (kind_faults line (Ok type))
kind_judged line TimeType = then_made (time_kind line) _ _ (λ x. (_, refl)) (time_judged line)
kind_judged line ValveType = valve_judged line
kind_judged line ControlType = then_made (in_column 65 (needed (name_field line 65))) _ _ (λ x. (_, refl)) (field_alone 65 (needed (name_field line 65)))

kind_by : (line : List ℕ) (type : Result SwitchType Why) → IsJudgedBy (in_column 1 type >>= kind_of line) (fault_at 1 type ∷ kind_faults line type)
kind_by line (Ok type) = then_judged type (kind_of line) (None ∷ []) (kind_faults line (Ok type)) (refl, tt) (kind_judged line type)
kind_by line (Err why) = alone (record { column = 1; why = why })

card_judged : (number : ℕ) (line : List ℕ) → IsJudgedBy (fields_of number line) (switch_form_faults line)
unfolding fields_of
card_judged number line =
    let kind = in_column 1 (type_field line) >>= kind_of line in
    let asked = in_column 80 (asked_field line) in
    then_made (both (ends_field line) (both kind asked)) _ (switch_form_faults line) (λ x. (_, refl))
    (joined (ends_field line) (both kind asked) _ _ (ends_judged line) (joined kind asked _ _ (kind_by line (type_field line)) (field_alone 80 (asked_field line))))

-- ---- the card

bad_same : {A : Type 0} (x y : Bad) → ◌≡◌ {A = Result A Bad} (Err x) (Err y) → x ≡ y
bad_same x y e = cc

by_bytes : {A : Type 0} (number : ℕ) (found : Option (ℕ × Why)) (read : Result A Fault) (faults : List (Option Fault)) (bad : Bad) → IsJudgedBy read faults → card_by number found read ≡ Err bad → IsRefusedFor number found faults bad
by_bytes number (Some f) read faults bad h e = sym (bad_same (record { line = number; column = f.0; why = f.1 }) bad e)
by_bytes number None (Ok card) faults bad h e = absurd (cc)
by_bytes number None (Err fault) faults bad h e =
    let same = bad_same (bad_at number fault) bad e in
    subst (λ b. (b.line ≡ number) × IsLeastOf faults (fault_of_bad b)) same (refl, h)

card_refused : (number : ℕ) (line : List ℕ) (bad : Bad) → switch_card number line ≡ Err bad → IsRefusedSwitch number line bad
unfolding switch_card
card_refused number line bad e = by_bytes number (fault_of_line line) (fields_of number line) (switch_form_faults line) bad (card_judged number line) e

step_refused : (d : Deck) (comment end : Bool) (read : Result SwitchCard Bad) (bad : Bad)
    → read_as d (λ (card : SwitchCard). record d { switches = d.switches ++ card ∷ [] }) Switches Sources comment end read ≡ Err bad → read ≡ Err bad
step_refused d true end read bad e = absurd (cc)
step_refused d false true read bad e = absurd (cc)
step_refused d false false (Ok card) bad e = absurd (cc)
step_refused d false false (Err other) bad e = ap Err (bad_same other bad e)

switch_refused : (d : Deck) (number : ℕ) (line : List ℕ) (bad : Bad) → advance d Switches number line ≡ Err bad → IsRefusedSwitch number line bad
unfolding switch_step
switch_refused d number line bad e = card_refused number line bad (step_refused d (is_comment line) (is_section_end line) (switch_card number line) bad e)

pub refused_switch : (lines : List (List ℕ)) (bad : Bad) (first : IsFirstRefused lines bad) → first.place ≡ Switches → IsRefusedSwitch (length first.front + 1) first.line bad
refused_switch lines bad first here =
    let number = length first.front + 1 in
    switch_refused first.deck number first.line bad (sym (ap (λ place. advance first.deck place number first.line) here) ∙ first.refused)
