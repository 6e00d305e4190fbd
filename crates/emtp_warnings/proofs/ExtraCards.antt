-- Two lines without a faulty byte that agree under the ruler of one of them give the same supplemental card.
use Rattle.std.proofs.Common.{◌≡◌, ◌∙◌, sym, ap, subst, refl, ℕ, zero, suc, ◌+◌, ◌-◌, ◌<◌, ◌≤◌, Bool, true, false, List, [], ◌∷◌, get_or, length, take, arith, lit≤}
use Rattle.std.specs.Prelude.{nat_lt, ◌==◌, not, ◌&&◌, cond, Option, Some, None}
use Rattle.std.specs.List.{list_all}
use Rattle.std.proofs.lemmas.Bool.Decides.{nat_tests}
use Rattle.emtp_card.specs.Field.{field_of, without_trailing}
use Rattle.emtp_card.specs.Lines.{fault_of_byte, fault_of_line, first_fault, first_of, is_blank}
use Rattle.emtp_card.specs.declared.reason.Why.{Why}
use Rattle.emtp_card.specs.declared.reason.Why.TheVariants.{ByteOutside, PastColumn80}
use Rattle.emtp_card.proofs.Blanks.{is_blank_means, without_trailing-blanks}
use Rattle.emtp_card.proofs.LineEnds.{trailing-alike}
use Rattle.emtp_taccards.specs.ExtraCard.{extra_card, is_empty, is_formula}
use Rattle.emtp_taccards.proofs.LineEnds.{extra_card_alike}
use Rattle.emtp_warnings.proofs.Agreeing.{is_mark, marked_byte, text_under}
use Rattle.emtp_warnings.proofs.ControlCards.{device_under}
use Rattle.emtp_warnings.proofs.NetworkCards.{either}
use Rattle.emtp_warnings.specs.Law.{AgreeUnder, AreFaultless}
use Rattle.emtp_warnings.specs.Marked.{extra_ruler}
use Rattle.emtp_warnings.specs.declared.rulers.TheConstants.{DEVICE, FORMULA}

-- ---- texts that are the same but for blanks behind them

all_blank : (x : List ℕ) → ((place : ℕ) → get_or x place 32 ≡ get_or [] place 32) → list_all is_blank x ≡ true
all_blank [] h = refl
all_blank (a ∷ xs) h = ap (λ (c : ℕ). is_blank c && list_all is_blank xs) (h zero) ∙ all_blank xs (λ place. h (suc place))

all_blank_same : (x y : List ℕ) → ((place : ℕ) → get_or x place 32 ≡ get_or y place 32) → list_all is_blank x ≡ list_all is_blank y
all_blank_same [] [] h = refl
all_blank_same [] (b ∷ ys) h = sym (all_blank (b ∷ ys) (λ place. sym (h place)))
all_blank_same (a ∷ xs) [] h = all_blank (a ∷ xs) h
all_blank_same (a ∷ xs) (b ∷ ys) h =
    ap (λ (c : ℕ). is_blank c && list_all is_blank xs) (h zero) ∙ ap (λ (t : Bool). is_blank b && t) (all_blank_same xs ys (λ place. h (suc place)))

pub trailing_same : (x y : List ℕ) → ((place : ℕ) → get_or x place 32 ≡ get_or y place 32) → without_trailing x ≡ without_trailing y
trailing_same [] [] h = refl
trailing_same [] (b ∷ ys) h = sym (without_trailing-blanks (b ∷ ys) (sym (all_blank_same [] (b ∷ ys) h)))
trailing_same (a ∷ xs) [] h = without_trailing-blanks (a ∷ xs) (all_blank_same (a ∷ xs) [] h)
trailing_same (a ∷ xs) (b ∷ ys) h =
    ap (λ (t : Bool). cond t [] (a ∷ without_trailing xs)) (all_blank_same (a ∷ xs) (b ∷ ys) h)
    ∙ ap (λ (c : ℕ). cond (list_all is_blank (b ∷ ys)) [] (c ∷ without_trailing xs)) (h zero)
    ∙ ap (λ (t : List ℕ). cond (list_all is_blank (b ∷ ys)) [] (b ∷ t)) (trailing_same xs ys (λ place. h (suc place)))

-- ---- past column 80 a faultless line is blank

byte_past : (outside past blank : Bool) → past ≡ true → cond outside (Some ByteOutside) (cond (past && not blank) (Some PastColumn80) None) ≡ None → blank ≡ true
byte_past true past blank far e = absurd (cc)
byte_past false true true far e = refl
byte_past false true false far e = absurd (cc)
byte_past false false blank far e = absurd (cc)

here_none : (fault : Option Why) (column : ℕ) (later : Option (ℕ × Why)) → first_of fault column later ≡ None → fault ≡ None
here_none None column later e = refl
here_none (Some why) column later e = absurd (cc)

later_none : (fault : Option Why) (column : ℕ) (later : Option (ℕ × Why)) → first_of fault column later ≡ None → later ≡ None
later_none None column later e = e
later_none (Some why) column later e = absurd (cc)

far_by : (a b : ℕ) → a < b → nat_lt a b ≡ true
far_by a b h = grind (arith, nat_tests)

near_by : (a b : ℕ) → nat_lt a b ≡ true → a < b
near_by a b h = grind (arith, nat_tests)

not_near : (a b : ℕ) → nat_lt a b ≡ false → b ≤ a
not_near a b h = grind (arith, nat_tests)

past_80 : (bytes : List ℕ) (column place : ℕ) → first_fault column bytes ≡ None → 80 < column + place → is_blank (get_or bytes place 32) ≡ true
past_80 [] column place e far = refl
past_80 (byte ∷ bytes) column zero e far =
    byte_past _ _ (is_blank byte) (far_by 80 column (omega arith)) (here_none (fault_of_byte column byte) column (first_fault (column + 1) bytes) e)
past_80 (byte ∷ bytes) column (suc place) e far =
    past_80 bytes (column + 1) place (later_none (fault_of_byte column byte) column (first_fault (column + 1) bytes) e) (omega arith)

module _ (x y : List ℕ) (sound : AreFaultless x y) where
  -- lines that agree under a ruler of 80 marks
  pub same_everywhere : (ruler : List ℕ) → 80 ≤ length ruler → list_all is_mark (take 80 ruler) ≡ true → AgreeUnder ruler x y → (place : ℕ) → get_or x place 32 ≡ get_or y place 32
  unfolding fault_of_line
  same_everywhere ruler long marks h place =
      either (nat_lt place 80)
      (λ e.
      let low : place < 80 = near_by place 80 e in
      let same : 1 + place - 1 ≡ place = omega arith in
      subst (λ (n : ℕ). get_or x n 32 ≡ get_or y n 32) same (h.marked (1 + place) (omega arith) (marked_byte ruler 1 80 place (lit≤ tt) long marks (omega arith))))
      (λ e.
      let high : 80 ≤ place = not_near place 80 e in
      is_blank_means (get_or x place 32) (past_80 x 1 place sound.one (omega arith)) ∙ sym (is_blank_means (get_or y place 32) (past_80 y 1 place sound.other (omega arith))))

  formula_same : (number : ℕ) → AgreeUnder FORMULA.now x y → extra_card number x ≡ extra_card number y
  formula_same number h =
      extra_card_alike x (without_trailing x) (trailing-alike x) number
      ∙ ap (extra_card number) (trailing_same x y (same_everywhere FORMULA.now (lit≤ tt) refl h))
      ∙ sym (extra_card_alike y (without_trailing y) (trailing-alike y) number)

  no_formula : (text : List ℕ) → (length text == 0) ≡ false → is_empty text ≡ false
  no_formula [] e = absurd (cc)
  no_formula (byte ∷ text) e = refl

  device_same : (number : ℕ) → (length (field_of x 9 10) == 0) ≡ false → AgreeUnder DEVICE.now x y → extra_card number x ≡ extra_card number y
  unfolding extra_card
  device_same number e h =
      let one : is_formula x ≡ false = no_formula (field_of x 9 10) e in
      let other : is_formula y ≡ false = ap is_empty (sym (text_under DEVICE.now x y h 9 10 refl)) ∙ one in
      simp (one, other, device_under x y sound number h)

  extra_by : (number : ℕ) (formula : Bool) → (length (field_of x 9 10) == 0) ≡ formula → AgreeUnder (cond formula FORMULA.now DEVICE.now) x y → extra_card number x ≡ extra_card number y
  extra_by number true e h = formula_same number h
  extra_by number false e h = device_same number e h

  pub extra_under : (number : ℕ) → AgreeUnder (extra_ruler x) x y → extra_card number x ≡ extra_card number y
  extra_under number h = extra_by number (length (field_of x 9 10) == 0) refl h
