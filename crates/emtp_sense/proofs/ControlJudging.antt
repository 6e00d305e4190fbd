-- What is known of the cards of the control that have no fault of sense.
use Rattle.emtp_fix.proofs.Chaining.{unless_ok}
use Rattle.emtp_fix.specs.Chain.{unless}
use Rattle.emtp_case.specs.declared.limit.TheConstants.{MOST_CONTROL_CARDS, MOST_HISTORY_VALUES}
use Rattle.std.proofs.Common.{Bool, List, None, Option, Some, [], arith, false, length, refl, subst, true, ℕ, ℤ, ◌+◌, ◌<◌, ◌∷◌, ◌≡◌, ◌≤◌, Ok, pos, unsigned_abs, ◌*ℤ◌, ◌*◌, ◌^◌, add-one, ap, drop, get_or, suc, sym, ◌∙◌}
use Rattle.std.proofs.Math.Seq.{drop-cons}
use Rattle.std.proofs.lemmas.Bool.Decides.{nat_tests}
use Rattle.std.proofs.lemmas.List.Elements.{All-cons, All-nil}
use Rattle.std.proofs.lemmas.List.Sums.{sum_by-cons}
use Rattle.std.specs.List.{list_any, sum_by}
use Rattle.std.specs.Prelude.{All, if◌then◌else◌, nat_le, nat_lt}
use Rattle.emtp_card.proofs.Faults.{least_none}
use Rattle.emtp_card.specs.declared.fault.Fault.{Fault}
use Rattle.emtp_card.specs.declared.reason.Why.TheVariants.{TwoSources, UnknownName}
use Rattle.emtp_case.specs.held.Control.{HasRangeOfA}
use Rattle.emtp_case.specs.HistoryValues.{device_history_values}
use Rattle.emtp_case.specs.declared.control.DeviceCode.{DeviceCode}
use Rattle.emtp_case.specs.declared.control.DeviceCode.TheVariants.{Counter, Delay, DelayedPulse, Derivative, EffectiveValue, Extreme, Gate, GateAbove, Integral, PeakHold, SampleHold, Selector, Table, Window}
use Rattle.emtp_sense.proofs.Knowing.{known_inputs, known_name, known_names}
use Rattle.emtp_sense.proofs.WithinLimits.{below, within}
use Rattle.emtp_sense.proofs.Numbering.{AreAbove}
use Rattle.emtp_walk.proofs.NoBad.{no_bad, nothing_before}
use Rattle.emtp_walk.specs.Answer.{first_bad}
use Rattle.emtp_sense.specs.ControlSense.{block_bad, block_sense, blocks_bad, card_history_values, device_bad, device_sense, entry_history_values, extra_bad, formula_sense, inputs_sense, is_measurable, is_unknown, judge_extras, measured_sense, names_sense, second_sense, tacs_source_bad, tacs_source_sense, tacs_sources_bad}
use Rattle.emtp_sense.specs.held.ControlSensible.{AreKnownInputs, IsKnown}
use Rattle.emtp_sense.specs.Limits.{too_many}
use Rattle.emtp_sense.specs.Variables.{extra_name, unknown_name, variable_number}
use Rattle.emtp_walk.specs.declared.control_cards.BlockEntry.{BlockEntry}
use Rattle.emtp_walk.specs.declared.control_cards.ExtraEntry.{ExtraEntry}
use Rattle.emtp_walk.specs.declared.control_cards.ExtraEntry.TheVariants.{Device as DeviceEntry, Formula as FormulaEntry}
use Rattle.emtp_fix.proofs.Nearest.{unsigned_abs-near-le}
use Rattle.emtp_fix.specs.Rounding.{near}
use Rattle.emtp_netcards.specs.declared.source_card.SourceCard.{SourceCard}
use Rattle.emtp_netcards.specs.declared.switch_card.SwitchCard.{SwitchCard}
use Rattle.emtp_taccards.specs.declared.block_card.BlockCard.{BlockCard}
use Rattle.emtp_taccards.specs.declared.device_card.DeviceCard.{DeviceCard}

-- ---- one card

not_second : (is : Bool) (f : Fault) → if◌then◌else◌ {A = Option Fault} is (Some f) None ≡ None → is ≡ false
not_second true f e = absurd (cc)
not_second false f e = refl

known : (is : Bool) (f : Fault) → if◌then◌else◌ {A = Option Fault} is None (Some f) ≡ None → is ≡ true
known true f e = refl
known false f e = absurd (cc)

above : (variables : List (List ℕ)) (next : ℕ) (name : List ℕ) → second_sense variables next name ≡ None → next ≤ variable_number variables name
above variables next name e =
    let h = not_second (nat_lt (variable_number variables name) next) (record { column = 3; why = TwoSources }) e in
    grind (arith, nat_tests)

-- ---- blocks

-- what a block's names are, but for its own
pub record IsKnownBlock (variables : List (List ℕ)) (card : BlockCard) : Type 0 where
  pub inputs : AreKnownInputs variables card.inputs
  pub low : IsKnown variables card.low_name
  pub high : IsKnown variables card.high_name

pub record IsFineBlock (variables : List (List ℕ)) (at : ℕ) (card : BlockCard) : Type 0 where
  pub room : at < MOST_CONTROL_CARDS
  pub above : 6 + at ≤ variable_number variables card.name
  pub names : IsKnownBlock variables card

pub block_fine : (variables : List (List ℕ)) (at : ℕ) (card : BlockCard) → block_bad variables at card ≡ None → IsFineBlock variables at card
unfolding block_sense
block_fine variables at card e =
    let none = least_none (too_many (nat_le MOST_CONTROL_CARDS at) 1
    ∷ second_sense variables (6 + at) card.name
    ∷ inputs_sense variables 12 card.inputs
    ∷ unknown_name variables 69 card.low_name
    ∷ unknown_name variables 75 card.high_name
    ∷ []) (no_bad card.line _ e) in
    record {
      room = below MOST_CONTROL_CARDS at 1 none.0;
      above = above variables (6 + at) card.name none.1.0;
      names = record {
        inputs = known_inputs variables 12 card.inputs none.1.1.0;
        low = known_name variables 69 card.low_name none.1.1.1.0;
        high = known_name variables 75 card.high_name none.1.1.1.1.0;
      };
    }

pub record AreFineBlocks (variables : List (List ℕ)) (at : ℕ) (es : List BlockEntry) : Type 0 where
  pub few : at + length es ≤ MOST_CONTROL_CARDS
  pub above : AreAbove (λ (e : BlockEntry). e.card.name) variables (6 + at) es
  pub names : All (λ (e : BlockEntry). IsKnownBlock variables e.card) es

pub blocks_fine : (variables : List (List ℕ)) (at : ℕ) (es : List BlockEntry) → at ≤ MOST_CONTROL_CARDS → blocks_bad variables at es ≡ None → AreFineBlocks variables at es
blocks_fine variables at [] room e = record { few = omega arith; above = tt; names = All-nil (λ (e : BlockEntry). IsKnownBlock variables e.card) }
blocks_fine variables at (x ∷ xs) room e =
    let none = nothing_before (block_bad variables at x.card) (blocks_bad variables (at + 1) xs) e in
    let first = block_fine variables at x.card none.0 in
    let behind = blocks_fine variables (at + 1) xs (omega (arith, first.room)) none.1 in
    let same : 6 + (at + 1) ≡ 6 + at + 1 = omega arith in
    record {
      few = omega (arith, behind.few);
      above = (first.above, subst (λ n. AreAbove (λ (e : BlockEntry). e.card.name) variables n xs) same behind.above);
      names = All-cons (λ (e : BlockEntry). IsKnownBlock variables e.card) x xs first.names behind.names;
    }

-- ---- sources

pub record IsFineSource (nodes : List (List ℕ)) (switches : List SwitchCard) (variables : List (List ℕ)) (at next : ℕ) (card : SourceCard) : Type 0 where
  pub room : at < MOST_CONTROL_CARDS
  pub above : next ≤ variable_number variables card.name
  pub measures : is_measurable nodes switches card.name card.shape ≡ true

pub source_fine : (nodes : List (List ℕ)) (switches : List SwitchCard) (variables : List (List ℕ)) (at next : ℕ) (card : SourceCard) → tacs_source_bad nodes switches variables at next card ≡ None → IsFineSource nodes switches variables at next card
unfolding tacs_source_sense
source_fine nodes switches variables at next card e =
    let none = least_none (too_many (nat_le MOST_CONTROL_CARDS at) 1 ∷ second_sense variables next card.name ∷ measured_sense nodes switches card ∷ []) (no_bad card.line _ e) in
    record {
      room = below MOST_CONTROL_CARDS at 1 none.0;
      above = above variables next card.name none.1.0;
      measures = known (is_measurable nodes switches card.name card.shape) (record { column = 3; why = UnknownName }) none.1.1.0;
    }

pub record AreFineSources (nodes : List (List ℕ)) (switches : List SwitchCard) (variables : List (List ℕ)) (first at : ℕ) (cards : List SourceCard) : Type 0 where
  pub few : at + length cards ≤ MOST_CONTROL_CARDS
  pub above : AreAbove (λ (card : SourceCard). card.name) variables (first + at) cards
  pub measures : All (λ (card : SourceCard). is_measurable nodes switches card.name card.shape ≡ true) cards

pub sources_fine : (nodes : List (List ℕ)) (switches : List SwitchCard) (variables : List (List ℕ)) (first at : ℕ) (cards : List SourceCard) → at ≤ MOST_CONTROL_CARDS → tacs_sources_bad nodes switches variables first at cards ≡ None → AreFineSources nodes switches variables first at cards
sources_fine nodes switches variables first at [] room e = record { few = omega arith; above = tt; measures = All-nil (λ (card : SourceCard). is_measurable nodes switches card.name card.shape ≡ true) }
sources_fine nodes switches variables first at (x ∷ xs) room e =
    let none = nothing_before (tacs_source_bad nodes switches variables at (first + at) x) (tacs_sources_bad nodes switches variables first (at + 1) xs) e in
    let here = source_fine nodes switches variables at (first + at) x none.0 in
    let behind = sources_fine nodes switches variables first (at + 1) xs (omega (arith, here.room)) none.1 in
    let same : first + (at + 1) ≡ first + at + 1 = omega arith in
    record {
      few = omega (arith, behind.few);
      above = (here.above, subst (λ n. AreAbove (λ (card : SourceCard). card.name) variables n xs) same behind.above);
      measures = All-cons (λ (card : SourceCard). is_measurable nodes switches card.name card.shape ≡ true) x xs here.measures behind.measures;
    }

-- ---- supplemental cards

pub record IsKnownDevice (variables : List (List ℕ)) (card : DeviceCard) : Type 0 where
  pub inputs : AreKnownInputs variables card.inputs
  pub d : IsKnown variables card.d
  pub e : IsKnown variables card.e

abbrev pub IsKnownExtra : List (List ℕ) → ExtraEntry → Type 0
IsKnownExtra variables (DeviceEntry card first count) = IsKnownDevice variables card
IsKnownExtra variables (FormulaEntry card) = All (λ n. variable_number variables n < length variables) card.parsed.names

pub record IsFineDevice (variables : List (List ℕ)) (at next history : ℕ) (card : DeviceCard) : Type 0 where
  pub room : at < MOST_CONTROL_CARDS
  pub above : next ≤ variable_number variables card.name
  pub total : history ≤ MOST_HISTORY_VALUES
  pub names : IsKnownDevice variables card

pub device_fine : (variables : List (List ℕ)) (at next history : ℕ) (card : DeviceCard) → device_bad variables at next history card ≡ None → IsFineDevice variables at next history card
unfolding device_sense
device_fine variables at next history card e =
    let none = least_none (too_many (nat_le MOST_CONTROL_CARDS at) 1
    ∷ too_many (nat_lt MOST_HISTORY_VALUES history) 1
    ∷ second_sense variables next card.name
    ∷ inputs_sense variables 12 card.inputs
    ∷ unknown_name variables 69 card.d
    ∷ unknown_name variables 75 card.e
    ∷ []) (no_bad card.line _ e) in
    record {
      room = below MOST_CONTROL_CARDS at 1 none.0;
      above = above variables next card.name none.1.1.0;
      total = within MOST_HISTORY_VALUES history 1 none.1.0;
      names = record {
        inputs = known_inputs variables 12 card.inputs none.1.1.1.0;
        d = known_name variables 69 card.d none.1.1.1.1.0;
        e = known_name variables 75 card.e none.1.1.1.1.1.0;
      };
    }

pub record IsFineExtra (variables : List (List ℕ)) (dt : ℤ) (at next history : ℕ) (e : ExtraEntry) : Type 0 where
  pub room : at < MOST_CONTROL_CARDS
  pub above : next ≤ variable_number variables (extra_name e)
  pub total : history ≤ MOST_HISTORY_VALUES → history + entry_history_values dt e ≤ MOST_HISTORY_VALUES
  pub names : IsKnownExtra variables e

pub extra_fine : (variables : List (List ℕ)) (dt : ℤ) (at next history : ℕ) (e : ExtraEntry) → extra_bad variables at next (history + entry_history_values dt e) e ≡ None → IsFineExtra variables dt at next history e
unfolding formula_sense
extra_fine variables dt at next history (DeviceEntry card first count) e =
    let fine = device_fine variables at next (history + card_history_values dt card) card e in
    record { room = fine.room; above = fine.above; total = λ h. fine.total; names = fine.names }
extra_fine variables dt at next history (FormulaEntry card) e =
    let none = least_none (too_many (nat_le MOST_CONTROL_CARDS at) 1 ∷ second_sense variables next card.name ∷ names_sense variables card.parsed.names ∷ []) (no_bad card.line _ e) in
    record {
      room = below MOST_CONTROL_CARDS at 1 none.0;
      above = above variables next card.name none.1.0;
      total = λ h. omega arith;
      names = known_names variables card.parsed.names (not_second (list_any (is_unknown variables) card.parsed.names) (record { column = 12; why = UnknownName }) none.1.1.0);
    }

pub record AreFineExtras (variables : List (List ℕ)) (dt : ℤ) (first at history : ℕ) (es : List ExtraEntry) (all : ℕ) : Type 0 where
  pub few : at + length es ≤ MOST_CONTROL_CARDS
  pub above : AreAbove extra_name variables (first + at) es
  pub names : All (IsKnownExtra variables) es
  pub sum : all ≡ history + sum_by (entry_history_values dt) es
  pub total : history ≤ MOST_HISTORY_VALUES → all ≤ MOST_HISTORY_VALUES

pub extras_fine : (variables : List (List ℕ)) (dt : ℤ) (first at history : ℕ) (es : List ExtraEntry) (all : ℕ) → at ≤ MOST_CONTROL_CARDS → judge_extras variables dt first at history es ≡ Ok all → AreFineExtras variables dt first at history es all
extras_fine variables dt first at history [] all room e =
    let same : history ≡ all = cc in
    record { few = omega arith; above = tt; names = All-nil (IsKnownExtra variables); sum = omega (arith, same); total = λ h. omega (arith, same, h) }
extras_fine variables dt first at history (x ∷ xs) all room e =
    let sum = history + entry_history_values dt x in
    let none = unless_ok (extra_bad variables at (first + at) sum x) (λ bad. bad) (judge_extras variables dt first (at + 1) sum xs) all e in
    let here = extra_fine variables dt at (first + at) history x none.0 in
    let behind = extras_fine variables dt first (at + 1) sum xs all (omega (arith, here.room)) none.1 in
    let same : first + (at + 1) ≡ first + at + 1 = omega arith in
    record {
      few = omega (arith, behind.few);
      above = (here.above, subst (λ n. AreAbove extra_name variables n xs) same behind.above);
      names = All-cons (IsKnownExtra variables) x xs here.names behind.names;
      sum = omega (arith, behind.sum, sum_by-cons (entry_history_values dt) x xs);
      total = λ h. behind.total (here.total h);
    }

-- ---- history values

pub device_values_few : (dt : ℤ) (code : DeviceCode) (a : ℤ) → HasRangeOfA code a → device_history_values dt code a ≤ 2 * 10 ^ 18
device_values_few dt Gate a h = omega arith
device_values_few dt GateAbove a h = omega arith
device_values_few dt Delay a h = let few = unsigned_abs-near-le a dt in omega (arith, few, h.small)
device_values_few dt DelayedPulse a h = let few = unsigned_abs-near-le a dt in omega (arith, few, h.small)
device_values_few dt Table a h = omega arith
device_values_few dt Window a h = omega arith
device_values_few dt Integral a h = omega arith
device_values_few dt Derivative a h = omega arith
device_values_few dt Selector a h = omega arith
device_values_few dt SampleHold a h = omega arith
device_values_few dt Extreme a h = omega arith
device_values_few dt PeakHold a h = omega arith
device_values_few dt Counter a h = omega arith
device_values_few dt EffectiveValue a h =
    let few : unsigned_abs (near (pos (10 ^ 18)) (a *ℤ dt)) ≤ 10 ^ 18 = unsigned_abs-near-le (pos (10 ^ 18)) (a *ℤ dt) in
    grind (arith, few, nat_tests)

-- ---- one card more

here : {A : Type 0} (xs : List A) (j : ℕ) (x : A) → x ≡ get_or xs j x → j < length xs → drop j xs ≡ x ∷ drop (j + 1) xs
here xs j x is l = rw add-one (drop-cons xs j x l ∙ ap (λ y. y ∷ drop (suc j) xs) (sym is))

pub blocks_next : (variables : List (List ℕ)) (at : ℕ) (es : List BlockEntry) (j : ℕ) (x : BlockEntry) → x ≡ get_or es j x → j < length es → block_bad variables at x.card ≡ None → blocks_bad variables at (drop j es) ≡ blocks_bad variables (at + 1) (drop (j + 1) es)
blocks_next variables at es j x is l none =
    ap (blocks_bad variables at) (here es j x is l) ∙ ap (λ b. first_bad b (blocks_bad variables (at + 1) (drop (j + 1) es))) none

pub sources_next : (nodes : List (List ℕ)) (switches : List SwitchCard) (variables : List (List ℕ)) (first at : ℕ) (cards : List SourceCard) (j : ℕ) (x : SourceCard) → x ≡ get_or cards j x → j < length cards → tacs_source_bad nodes switches variables at (first + at) x ≡ None
    → tacs_sources_bad nodes switches variables first at (drop j cards) ≡ tacs_sources_bad nodes switches variables first (at + 1) (drop (j + 1) cards)
sources_next nodes switches variables first at cards j x is l none =
    ap (tacs_sources_bad nodes switches variables first at) (here cards j x is l) ∙ ap (λ b. first_bad b (tacs_sources_bad nodes switches variables first (at + 1) (drop (j + 1) cards))) none

pub extras_here : (variables : List (List ℕ)) (dt : ℤ) (first at history sum : ℕ) (es : List ExtraEntry) (j : ℕ) (x : ExtraEntry) → x ≡ get_or es j x → j < length es → sum ≡ history + entry_history_values dt x
    → judge_extras variables dt first at history (drop j es) ≡ unless (extra_bad variables at (first + at) sum x) (λ bad. bad) (judge_extras variables dt first (at + 1) sum (drop (j + 1) es))
extras_here variables dt first at history sum es j x is l same =
    ap (judge_extras variables dt first at history) (here es j x is l)
    ∙ ap (λ n. unless (extra_bad variables at (first + at) n x) (λ bad. bad) (judge_extras variables dt first (at + 1) n (drop (j + 1) es))) (sym same)

pub extras_next : (variables : List (List ℕ)) (dt : ℤ) (first at history sum : ℕ) (es : List ExtraEntry) (j : ℕ) (x : ExtraEntry) → x ≡ get_or es j x → j < length es → sum ≡ history + entry_history_values dt x → extra_bad variables at (first + at) sum x ≡ None
    → judge_extras variables dt first at history (drop j es) ≡ judge_extras variables dt first (at + 1) sum (drop (j + 1) es)
extras_next variables dt first at history sum es j x is l same none =
    extras_here variables dt first at history sum es j x is l same ∙ ap (λ b. unless b (λ bad. bad) (judge_extras variables dt first (at + 1) sum (drop (j + 1) es))) none
