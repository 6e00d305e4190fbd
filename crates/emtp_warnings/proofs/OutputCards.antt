-- Two lines without a faulty byte that agree under the ruler of one of them give the same outputs.
use Rattle.std.proofs.Common.{◌≡◌, ◌∙◌, sym, ap, refl, ℕ, Bool, true, false, List}
use Rattle.std.specs.Prelude.{Option, Some, None, Result, Ok, Err}
use Rattle.emtp_card.specs.Lines.{fault_of_line}
use Rattle.emtp_card.specs.declared.fault.Fault.{Fault}
use Rattle.emtp_card.specs.declared.reason.Bad.{Bad}
use Rattle.emtp_card.specs.declared.reason.Why.{Why}
use Rattle.emtp_netcards.specs.OutputCard as outputs
use Rattle.emtp_netcards.specs.OutputCard.{mark_by, mark_field, name_list, output_card, outputs_by}
use Rattle.emtp_netcards.specs.Reading.{card_by, in_column}
use Rattle.emtp_netcards.specs.held.Reading.{judged}
use Rattle.emtp_netcards.specs.declared.output_card.OutputCard.{OutputCard}
use Rattle.emtp_netcards.specs.declared.output_card.OutputCard.TheVariants.{All as AllNodes, Names}
use Rattle.emtp_taccards.specs.TacsOutputCard as tacs_outputs
use Rattle.emtp_taccards.specs.TacsOutputCard.{tacs_output_card}
use Rattle.emtp_warnings.proofs.Agreeing.{name_under, whole_under}
use Rattle.emtp_warnings.specs.Law.{AgreeUnder, AreFaultless}
use Rattle.emtp_warnings.specs.Marked.{output_ruler}
use Rattle.emtp_warnings.specs.declared.rulers.TheConstants.{ALL_NODES, FREE, NAMES}

-- a card with names doesn't ask for all nodes
not_all : (number : ℕ) (list : Result (List (Option (List ℕ))) Fault) → card_by number None (judged list (λ names. Ok (Names names))) ≡ Ok AllNodes → ⊥
not_all number (Ok names) e = cc
not_all number (Err fault) e = cc

-- a card of all nodes has that mark
marked_all : (number : ℕ) (found : Option (ℕ × Why)) (line : List ℕ) (mark : Result Bool Why) → card_by number found (judged (in_column 1 mark) (outputs_by line)) ≡ Ok AllNodes → mark ≡ Ok true
marked_all number (Some fault) line mark e = absurd (cc)
marked_all number None line (Ok true) e = refl
marked_all number None line (Ok false) e = absurd (not_all number (name_list line) e)
marked_all number None line (Err why) e = absurd (cc)

module _ (x y : List ℕ) (sound : AreFaultless x y) where
  same_fault : fault_of_line x ≡ fault_of_line y
  same_fault = sound.one ∙ sym sound.other

  list_same : AgreeUnder NAMES.now x y → name_list x ≡ name_list y
  unfolding name_list
  list_same h =
      simp (name_under NAMES.now x y h 3 refl, name_under NAMES.now x y h 9 refl, name_under NAMES.now x y h 15 refl, name_under NAMES.now x y h 21 refl, name_under NAMES.now x y h 27 refl, name_under NAMES.now x y h 33 refl, name_under NAMES.now x y h 39 refl, name_under NAMES.now x y h 45 refl, name_under NAMES.now x y h 51 refl, name_under NAMES.now x y h 57 refl, name_under NAMES.now x y h 63 refl, name_under NAMES.now x y h 69 refl, name_under NAMES.now x y h 75 refl)

  free_same : AgreeUnder FREE.now x y → name_list x ≡ name_list y
  unfolding name_list
  free_same h =
      simp (name_under FREE.now x y h 3 refl, name_under FREE.now x y h 9 refl, name_under FREE.now x y h 15 refl, name_under FREE.now x y h 21 refl, name_under FREE.now x y h 27 refl, name_under FREE.now x y h 33 refl, name_under FREE.now x y h 39 refl, name_under FREE.now x y h 45 refl, name_under FREE.now x y h 51 refl, name_under FREE.now x y h 57 refl, name_under FREE.now x y h 63 refl, name_under FREE.now x y h 69 refl, name_under FREE.now x y h 75 refl)

  pub tacs_output_under : (number : ℕ) → AgreeUnder NAMES.now x y → tacs_output_card number x ≡ tacs_output_card number y
  unfolding tacs_output_card tacs_outputs.fields_of
  tacs_output_under number h = simp (same_fault, whole_under NAMES.now x y h 1 2 refl, list_same h)

  output_from : (number : ℕ) → judged (in_column 1 (mark_field x)) (outputs_by x) ≡ judged (in_column 1 (mark_field y)) (outputs_by y) → output_card number x ≡ output_card number y
  unfolding output_card outputs.fields_of
  output_from number card = simp (same_fault, card)

  read_same : (mark : Result Bool Fault) → name_list x ≡ name_list y → judged mark (outputs_by x) ≡ judged mark (outputs_by y)
  read_same (Ok true) list = refl
  read_same (Ok false) list = simp list
  read_same (Err fault) list = refl

  output_listed : (number : ℕ) → mark_field x ≡ mark_field y → name_list x ≡ name_list y → output_card number x ≡ output_card number y
  output_listed number mark list =
      output_from number (ap (λ (m : Result Bool Why). judged (in_column 1 m) (outputs_by x)) mark ∙ read_same (in_column 1 (mark_field y)) list)

  output_by : (number : ℕ) (card : Result OutputCard Bad) → output_card number x ≡ card → AgreeUnder (output_ruler card) x y → output_card number x ≡ output_card number y
  unfolding output_card outputs.fields_of
  output_by number (Ok AllNodes) e h =
      let all : mark_field x ≡ Ok true = marked_all number (fault_of_line x) x (mark_field x) e in
      let all' : mark_field y ≡ Ok true = ap mark_by (sym (whole_under ALL_NODES.now x y h 1 2 refl)) ∙ all in
      output_from number
      (ap (λ (m : Result Bool Why). judged (in_column 1 m) (outputs_by x)) all ∙ sym (ap (λ (m : Result Bool Why). judged (in_column 1 m) (outputs_by y)) all'))
  output_by number (Ok (Names list)) e h = output_listed number (ap mark_by (whole_under NAMES.now x y h 1 2 refl)) (list_same h)
  output_by number (Err bad) e h = output_listed number (ap mark_by (whole_under FREE.now x y h 1 2 refl)) (free_same h)

  pub output_under : (number : ℕ) → AgreeUnder (output_ruler (output_card number x)) x y → output_card number x ≡ output_card number y
  output_under number h = output_by number (output_card number x) refl h
