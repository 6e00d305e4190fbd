-- The name that a card of the control gives is a name of a case.
use Rattle.std.proofs.Common.{◌≡◌, ◌∙◌, ap, subst, refl, ℕ, ℤ, Bool, true, false, List, Option, None, Result, Ok, Err}
use Rattle.std.specs.Prelude.{if◌then◌else◌}
use Rattle.emtp_card.specs.Lines.{fault_of_line}
use Rattle.emtp_card.specs.Name.{name_field}
use Rattle.emtp_card.specs.declared.reason.Bad.{Bad}
use Rattle.emtp_case.specs.held.Name.{IsName}
use Rattle.emtp_case.specs.declared.control.Group.{Group}
use Rattle.emtp_walk.specs.held.Sound.{IsExtraDue}
use Rattle.emtp_expr.specs.Parsing.{expression_of}
use Rattle.emtp_expr.specs.declared.parsing.Parsed.{Parsed}
use Rattle.emtp_netcards.specs.Fields.{needed}
use Rattle.emtp_netcards.specs.Reading.{both, card_on, in_column}
use Rattle.emtp_netcards.specs.held.Reading.{judged}
use Rattle.emtp_netcards.specs.declared.source_card.SourceCard.{SourceCard}
use Rattle.emtp_taccards.specs.BlockCard as blocks
use Rattle.emtp_taccards.specs.BlockCard.{Limits, block_card, block_record, gain_field, limits_of, order_and_name, order_field}
use Rattle.emtp_taccards.specs.DeviceCard as devices
use Rattle.emtp_taccards.specs.DeviceCard.{Coded, Variables, code_field, coded_by, device_card, device_record, plain_fields, variables_of}
use Rattle.emtp_taccards.specs.ExtraCard.{as_device, as_formula, extra_card, is_formula}
use Rattle.emtp_taccards.specs.held.ExtraCard.{HasExtraNumbers}
use Rattle.emtp_taccards.specs.FormulaCard as formulas
use Rattle.emtp_taccards.specs.FormulaCard.{equals_field, expression_text, formula_by, formula_card}
use Rattle.emtp_taccards.specs.Group.{group_field, head_of}
use Rattle.emtp_taccards.specs.Inputs.{inputs}
use Rattle.emtp_taccards.specs.TacsSourceCard as sources
use Rattle.emtp_taccards.specs.TacsSourceCard.{Course, Times, signal_field, source_record, tacs_source_card, value_of}
use Rattle.emtp_taccards.specs.declared.block_card.BlockCard.{BlockCard}
use Rattle.emtp_taccards.specs.declared.device_card.DeviceCard.{DeviceCard}
use Rattle.emtp_taccards.specs.declared.extra_card.ExtraCard.{ExtraCard}
use Rattle.emtp_taccards.specs.declared.extra_card.ExtraCard.TheVariants.{Device, Formula}
use Rattle.emtp_taccards.specs.declared.formula_card.FormulaCard.{FormulaCard}
use Rattle.emtp_netcards.proofs.FieldRanges.{needed_name}
use Rattle.emtp_netcards.proofs.Readings.{by, each_of, field_of_column, made_of, whole_by}

-- the name of a card, in its column 3
column_name : (line name : List ℕ) → fault_of_line line ≡ None → in_column 3 (needed (name_field line 3)) ≡ Ok name → IsName name
column_name line name whole h = needed_name line 3 name whole (field_of_column 3 (needed (name_field line 3)) name h)

pub ok_is : {A B : Type 0} (f : A → B) (x y : A) → ◌≡◌ {A = Result A Bad} (Ok x) (Ok y) → f x ≡ f y
ok_is f x y h = let same : x ≡ y = cc in ap f same

-- ---- blocks

abbrev Signed : Type 0
Signed = List (Option (Bool × List ℕ))

abbrev BlockParts : Type 0
BlockParts = ((ℕ × List ℕ) × Signed) × (ℤ × Limits)

pub block_name : (number : ℕ) (line : List ℕ) (card : BlockCard) → block_card number line ≡ Ok card → IsName card.name
unfolding block_card blocks.fields_of order_and_name
block_name number line card h =
    let order = in_column 1 (order_field line) in
    let name = in_column 3 (needed (name_field line 3)) in
    let head = both order name in
    let gain = gain_field line in
    let record_of : BlockParts → BlockCard = λ p. block_record number p.0.0 p.0.1 p.1.0 p.1.1 in
    made_of (IsName card.name) (both (both head (inputs line)) (both gain (limits_of line))) record_of card (by number (fault_of_line line) _ card h) (λ p read same.
    let front = each_of head (inputs line) p.0 (each_of (both head (inputs line)) (both gain (limits_of line)) p read).0 in
    subst IsName (ap (λ (c : BlockCard). c.name) same) (column_name line p.0.0.1 (whole_by number (fault_of_line line) _ card h) (each_of order name p.0.0 front.0).1))

-- ---- sources

pub source_name : (number : ℕ) (line : List ℕ) (card : SourceCard) → tacs_source_card number line ≡ Ok card → IsName card.name
unfolding tacs_source_card sources.fields_of
source_name number line card h =
    let name = in_column 3 (needed (name_field line 3)) in
    let signal = judged (in_column 1 (signal_field line)) (value_of line) in
    let record_of : List ℕ × (Course × Times) → SourceCard = λ p. source_record number p.0 p.1.0 p.1.1 in
    made_of (IsName card.name) (both name signal) record_of card (by number (fault_of_line line) _ card h) (λ p read same.
    subst IsName (ap (λ (c : SourceCard). c.name) same) (column_name line p.0 (whole_by number (fault_of_line line) _ card h) (each_of name signal p read).0))

-- ---- devices and formulas

-- group and name, which a card of either kind begins with
abbrev Head : Type 0
Head = Group × List ℕ

head_name : (line : List ℕ) (head : Head) → fault_of_line line ≡ None → head_of line ≡ Ok head → IsName head.1
unfolding head_of
head_name line head whole h = column_name line head.1 whole (each_of (in_column 1 (group_field line)) (in_column 3 (needed (name_field line 3))) head h).1

abbrev DeviceParts : Type 0
DeviceParts = (Head × Coded) × (Variables × (ℤ × ℤ))

device_name : (number : ℕ) (line : List ℕ) (card : DeviceCard) → device_card number line ≡ Ok card → IsName card.name
unfolding device_card devices.fields_of
device_name number line card h =
    let coded = judged (in_column 9 (code_field line)) (coded_by line) in
    let front = both (head_of line) coded in
    let back = both (variables_of line) (plain_fields line) in
    let record_of : DeviceParts → DeviceCard = λ p. device_record number p.0.0 p.0.1 p.1.0 p.1.1 in
    made_of (IsName card.name) (both front back) record_of card (by number (fault_of_line line) _ card h) (λ p read same.
    subst IsName (ap (λ (c : DeviceCard). c.name) same)
    (head_name line p.0.0 (whole_by number (fault_of_line line) _ card h) (each_of (head_of line) coded p.0 (each_of front back p read).0).0))

formula_head : (line : List ℕ) (head : Head) → formulas.fields_of line ≡ Ok head → head_of line ≡ Ok head
unfolding formulas.fields_of
formula_head line head h =
    let equals = in_column 11 (equals_field line) in
    let head_first : Head × Unit {0} → Head = λ p. p.0 in
    made_of (head_of line ≡ Ok head) (both (head_of line) equals) head_first head h (λ p read same. (each_of (head_of line) equals p read).0 ∙ ap Ok same)

formula_named : (number : ℕ) (head : Result Head Bad) (parsed : Result Parsed ℕ) (card : FormulaCard) (P : Type 0) → formula_by number head parsed ≡ Ok card → ((h : Head) → head ≡ Ok h → h.1 ≡ card.name → P) → P
formula_named number (Ok head) (Ok parsed) card P h so = so head refl (ok_is (λ (c : FormulaCard). c.name) _ card h)
formula_named number (Ok head) (Err column) card P h so = absurd (cc)
formula_named number (Err bad) parsed card P h so = absurd (cc)

formula_name : (number : ℕ) (line : List ℕ) (parsed : Result Parsed ℕ) (card : FormulaCard) → formula_card number line parsed ≡ Ok card → IsName card.name
unfolding formula_card
formula_name number line parsed card h =
    formula_named number (card_on number line (formulas.fields_of line)) parsed card (IsName card.name) h (λ head read same.
    let found = fault_of_line line in
    let fields = formulas.fields_of line in
    subst IsName same (head_name line head (whole_by number found fields head read) (formula_head line head (by number found fields head read))))

-- the name of either
abbrev HasName : ExtraCard → Type 0
HasName (Device card) = IsName card.name
HasName (Formula card) = IsName card.name

as_device_name : (r : Result DeviceCard Bad) (card : ExtraCard) → ((c : DeviceCard) → r ≡ Ok c → IsName c.name) → as_device r ≡ Ok card → HasName card
as_device_name (Ok c) card f h = let same : Device c ≡ card = cc in subst HasName same (f c refl)
as_device_name (Err bad) card f h = absurd (cc)

as_formula_name : (r : Result FormulaCard Bad) (card : ExtraCard) → ((c : FormulaCard) → r ≡ Ok c → IsName c.name) → as_formula r ≡ Ok card → HasName card
as_formula_name (Ok c) card f h = let same : Formula c ≡ card = cc in subst HasName same (f c refl)
as_formula_name (Err bad) card f h = absurd (cc)

extra_name : (number : ℕ) (line : List ℕ) (card : ExtraCard) → extra_card number line ≡ Ok card → HasName card
unfolding extra_card
extra_name number line card h = by_test (is_formula line) h
  where
    by_test : (t : Bool) → (if t then as_formula (formula_card number line (expression_of (expression_text line))) else as_device (device_card number line)) ≡ Ok card → HasName card
    by_test true h = as_formula_name (formula_card number line (expression_of (expression_text line))) card (formula_name number line (expression_of (expression_text line))) h
    by_test false h = as_device_name (device_card number line) card (device_name number line) h

due_of : (card : ExtraCard) → HasName card → HasExtraNumbers card → IsExtraDue card
due_of (Device card) name numbers = record { name = name; numbers = numbers.0; d = numbers.1 }
due_of (Formula card) name numbers = record { name = name; parsed = numbers }

pub extra_due : (number : ℕ) (line : List ℕ) (card : ExtraCard) → extra_card number line ≡ Ok card → HasExtraNumbers card → IsExtraDue card
extra_due number line card h numbers = due_of card (extra_name number line card h) numbers
