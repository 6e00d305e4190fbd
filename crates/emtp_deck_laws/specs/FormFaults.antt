-- The first line that can't be read, and all faults of form of a switch card, each field judged by itself.
use Rattle.std.specs.Prelude.{◌≡◌, ◌+◌, ◌^◌, ◌++◌, ℕ, pos, neg_ℤ, List, [], ◌∷◌, length, Option, Some, None, Result, Ok, Err, if◌then◌else◌}
use Rattle.emtp_card.specs.Lines.{fault_of_line}
use Rattle.emtp_card.specs.Name.{name_field}
use Rattle.emtp_card.specs.Number.{held_field, number_field}
use Rattle.emtp_card.specs.held.Fault.{IsLeastOf, fault_at}
use Rattle.emtp_card.specs.declared.fault.Fault.{Fault}
use Rattle.emtp_card.specs.declared.reason.Bad.{Bad}
use Rattle.emtp_card.specs.declared.reason.Why.{Why}
use Rattle.emtp_card.specs.declared.reason.Why.TheVariants.{BadName}
use Rattle.emtp_netcards.specs.Fields.{asked_field, is_same_name, needed}
use Rattle.emtp_netcards.specs.SwitchCard.{is_measuring, type_field, word_field}
use Rattle.emtp_netcards.specs.declared.switch_card.SwitchType.{SwitchType}
use Rattle.emtp_netcards.specs.declared.switch_card.SwitchType.TheVariants.{Control as ControlType, Time as TimeType, Valve as ValveType}
use Rattle.emtp_deck_laws.specs.LeastFault.{fault_of_bad}
use Rattle.emtp_walk.specs.Walk.{advance, empty_deck, walk}
use Rattle.emtp_walk.specs.declared.deck.Deck.{Deck}
use Rattle.emtp_walk.specs.declared.deck.Place.{Place}
use Rattle.emtp_walk.specs.declared.deck.Place.TheVariants.{Begin}

-- the lines in front of one are read, and this one is refused where they lead to
pub record IsFirstRefused (lines : List (List ℕ)) (bad : Bad) : Type 0 where
  pub front : List (List ℕ)
  pub line : List ℕ
  pub behind : List (List ℕ)
  pub deck : Deck
  pub place : Place
  pub is : lines ≡ front ++ line ∷ behind
  pub read : walk 1 empty_deck Begin front ≡ Ok (deck, place)
  pub refused : advance deck place (length front + 1) line ≡ Err bad

-- the two ends have one name, where both names were read
abbrev pub same_ends_fault : Result (Option (List ℕ)) Why → Result (Option (List ℕ)) Why → Option Fault
same_ends_fault (Ok a) (Ok b) = if is_same_name a b then Some (record { column = 9; why = BadName }) else None
same_ends_fault (Ok a) (Err why) = None
same_ends_fault (Err why) (Ok b) = None
same_ends_fault (Err why) (Err other) = None

-- T-CLOSE and T-OPEN in ps, the margin in nA, and no word
abbrev pub time_faults : List ℕ → List (Option Fault)
time_faults line =
    fault_at 15 (held_field line 15 24 (pos 12) (neg_ℤ (pos (10 ^ 18))) (pos (10 ^ 18)))
    ∷ fault_at 25 (held_field line 25 34 (pos 12) (neg_ℤ (pos (10 ^ 18))) (pos (10 ^ 18)))
    ∷ fault_at 35 (number_field line 35 44 (pos 9) (pos 0) (pos (10 ^ 18)))
    ∷ fault_at 55 (word_field line)
    ∷ []

-- what opens and closes the switch: of a valve the voltage of ignition in nV, the holding current in nA and the control
abbrev pub kind_faults : List ℕ → Result SwitchType Why → List (Option Fault)
kind_faults line (Ok TimeType) = if is_measuring line then [] else time_faults line
kind_faults line (Ok ValveType) =
    fault_at 15 (number_field line 15 24 (pos 9) (pos 0) (pos (10 ^ 18)))
    ∷ fault_at 25 (number_field line 25 34 (pos 9) (pos 0) (pos (10 ^ 18)))
    ∷ fault_at 65 (name_field line 65)
    ∷ []
kind_faults line (Ok ControlType) = fault_at 65 (needed (name_field line 65)) ∷ []
kind_faults line (Err why) = []

abbrev pub switch_form_faults : List ℕ → List (Option Fault)
switch_form_faults line =
    fault_at 3 (name_field line 3)
    ∷ fault_at 9 (name_field line 9)
    ∷ same_ends_fault (name_field line 3) (name_field line 9)
    ∷ fault_at 1 (type_field line)
    ∷ (kind_faults line (type_field line) ++ fault_at 80 (asked_field line) ∷ [])

-- a fault of the bytes of a line decides first, and then the least of its fields
abbrev pub IsRefusedFor : ℕ → Option (ℕ × Why) → List (Option Fault) → Bad → Type 0
IsRefusedFor number (Some f) faults bad = bad ≡ record { line = number; column = f.0; why = f.1 }
IsRefusedFor number None faults bad = (bad.line ≡ number) × IsLeastOf faults (fault_of_bad bad)

abbrev pub IsRefusedSwitch : ℕ → List ℕ → Bad → Type 0
IsRefusedSwitch number line bad = IsRefusedFor number (fault_of_line line) (switch_form_faults line) bad
