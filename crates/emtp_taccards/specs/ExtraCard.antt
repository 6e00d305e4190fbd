-- Supplemental cards: devices and formulas.
use Rattle.std.specs.Prelude.{ℕ, Bool, true, false, List, [], ◌∷◌, Result, Ok, Err, if◌then◌else◌}
use Rattle.emtp_card.specs.Field.{field_of}
use Rattle.emtp_card.specs.declared.reason.Bad.{Bad}
use Rattle.emtp_expr.specs.Parsing.{expression_of}
use Rattle.emtp_taccards.specs.DeviceCard.{device_card}
use Rattle.emtp_taccards.specs.FormulaCard.{expression_text, formula_card}
use Rattle.emtp_taccards.specs.declared.device_card.DeviceCard.{DeviceCard}
use Rattle.emtp_taccards.specs.declared.extra_card.ExtraCard.{ExtraCard}
use Rattle.emtp_taccards.specs.declared.extra_card.ExtraCard.TheVariants.{Device, Formula}
use Rattle.emtp_taccards.specs.declared.formula_card.FormulaCard.{FormulaCard}

-- a formula is known by its blank columns 9 and 10
abbrev pub is_empty : List ℕ → Bool
is_empty [] = true
is_empty (byte ∷ bytes) = false

abbrev pub is_formula : List ℕ → Bool
is_formula line = is_empty (field_of line 9 10)

abbrev pub as_device : Result DeviceCard Bad → Result ExtraCard Bad
as_device (Ok card) = Ok (Device card)
as_device (Err bad) = Err bad

abbrev pub as_formula : Result FormulaCard Bad → Result ExtraCard Bad
as_formula (Ok card) = Ok (Formula card)
as_formula (Err bad) = Err bad

-- the card
unfoldable pub extra_card : ℕ → List ℕ → Result ExtraCard Bad
extra_card number line =
    if is_formula line then as_formula (formula_card number line (expression_of (expression_text line)))
    else as_device (device_card number line)
