-- The line of a card of the control is that on which it stands.
use Rattle.std.proofs.Common.{◌≡◌, sym, subst, refl, ℕ, Bool, true, false, List, Result, Ok, Err}
use Rattle.std.specs.Prelude.{if◌then◌else◌}
use Rattle.emtp_card.specs.Lines.{fault_of_line}
use Rattle.emtp_card.specs.declared.reason.Bad.{Bad}
use Rattle.emtp_case.specs.declared.control.Group.{Group}
use Rattle.emtp_expr.specs.Parsing.{expression_of}
use Rattle.emtp_expr.specs.declared.parsing.Parsed.{Parsed}
use Rattle.emtp_netcards.specs.Reading.{card_on}
use Rattle.emtp_netcards.specs.declared.source_card.SourceCard.{SourceCard}
use Rattle.emtp_taccards.specs.BlockCard as blocks
use Rattle.emtp_taccards.specs.BlockCard.{block_card}
use Rattle.emtp_taccards.specs.DeviceCard as devices
use Rattle.emtp_taccards.specs.DeviceCard.{device_card}
use Rattle.emtp_taccards.specs.ExtraCard.{as_device, as_formula, extra_card, is_formula}
use Rattle.emtp_taccards.specs.FormulaCard as formulas
use Rattle.emtp_taccards.specs.FormulaCard.{expression_text, formula_by, formula_card}
use Rattle.emtp_taccards.specs.TacsSourceCard as sources
use Rattle.emtp_taccards.specs.TacsSourceCard.{tacs_source_card}
use Rattle.emtp_taccards.specs.declared.block_card.BlockCard.{BlockCard}
use Rattle.emtp_taccards.specs.declared.device_card.DeviceCard.{DeviceCard}
use Rattle.emtp_taccards.specs.declared.extra_card.ExtraCard.{ExtraCard}
use Rattle.emtp_taccards.specs.declared.extra_card.ExtraCard.TheVariants.{Device, Formula}
use Rattle.emtp_taccards.specs.declared.formula_card.FormulaCard.{FormulaCard}
use Rattle.emtp_netcards.proofs.Readings.{by, made}
use Rattle.emtp_walk.proofs.ControlNames.{ok_is}

-- ---- blocks

pub block_line : (number : ℕ) (line : List ℕ) (card : BlockCard) → block_card number line ≡ Ok card → card.line ≡ number
unfolding block_card blocks.fields_of
block_line number line card h = made _ _ (λ (c : BlockCard). c.line) number card (λ x. refl) (by number (fault_of_line line) _ card h)

-- ---- sources

pub tacs_source_line : (number : ℕ) (line : List ℕ) (card : SourceCard) → tacs_source_card number line ≡ Ok card → card.line ≡ number
unfolding tacs_source_card sources.fields_of
tacs_source_line number line card h = made _ _ (λ (c : SourceCard). c.line) number card (λ x. refl) (by number (fault_of_line line) _ card h)

-- ---- devices and formulas

device_line : (number : ℕ) (line : List ℕ) (card : DeviceCard) → device_card number line ≡ Ok card → card.line ≡ number
unfolding device_card devices.fields_of
device_line number line card h = made _ _ (λ (c : DeviceCard). c.line) number card (λ x. refl) (by number (fault_of_line line) _ card h)

formula_stands : (number : ℕ) (head : Result (Group × List ℕ) Bad) (parsed : Result Parsed ℕ) (card : FormulaCard) → formula_by number head parsed ≡ Ok card → card.line ≡ number
formula_stands number (Ok head) (Ok parsed) card h = sym (ok_is (λ (c : FormulaCard). c.line) _ card h)
formula_stands number (Ok head) (Err column) card h = absurd (cc)
formula_stands number (Err bad) parsed card h = absurd (cc)

formula_line : (number : ℕ) (line : List ℕ) (parsed : Result Parsed ℕ) (card : FormulaCard) → formula_card number line parsed ≡ Ok card → card.line ≡ number
unfolding formula_card
formula_line number line parsed card h = formula_stands number (card_on number line (formulas.fields_of line)) parsed card h

abbrev pub line_of_extra : ExtraCard → ℕ
line_of_extra (Device card) = card.line
line_of_extra (Formula card) = card.line

as_device_line : (number : ℕ) (r : Result DeviceCard Bad) (card : ExtraCard) → ((c : DeviceCard) → r ≡ Ok c → c.line ≡ number) → as_device r ≡ Ok card → line_of_extra card ≡ number
as_device_line number (Ok c) card f h = let same : Device c ≡ card = cc in subst (λ x. line_of_extra x ≡ number) same (f c refl)
as_device_line number (Err bad) card f h = absurd (cc)

as_formula_line : (number : ℕ) (r : Result FormulaCard Bad) (card : ExtraCard) → ((c : FormulaCard) → r ≡ Ok c → c.line ≡ number) → as_formula r ≡ Ok card → line_of_extra card ≡ number
as_formula_line number (Ok c) card f h = let same : Formula c ≡ card = cc in subst (λ x. line_of_extra x ≡ number) same (f c refl)
as_formula_line number (Err bad) card f h = absurd (cc)

pub extra_line_is : (number : ℕ) (line : List ℕ) (card : ExtraCard) → extra_card number line ≡ Ok card → line_of_extra card ≡ number
unfolding extra_card
extra_line_is number line card h = by_test (is_formula line) h
  where
    by_test : (t : Bool) → (if t then as_formula (formula_card number line (expression_of (expression_text line))) else as_device (device_card number line)) ≡ Ok card → line_of_extra card ≡ number
    by_test true h = as_formula_line number (formula_card number line (expression_of (expression_text line))) card (formula_line number line (expression_of (expression_text line))) h
    by_test false h = as_device_line number (device_card number line) card (device_line number line) h
