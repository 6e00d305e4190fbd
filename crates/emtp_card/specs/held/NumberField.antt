-- Beside `NumberField`: what values hold for their proofs, and what premises say. No clause of the program reaches it.
use Rattle.std.specs.Prelude.{◌≤◌, ◌≤ℤ◌, pos}
use Rattle.emtp_card.specs.declared.number_field.NumberField.{NumberField}

-- columns of a card in order, a unit, and a range
pub record IsNumberField (f : NumberField) : Type 0 where
  pub first : 1 ≤ f.first
  pub order : f.first ≤ f.last
  pub last : f.last ≤ 80
  pub scale_low : pos 0 ≤ℤ f.scale
  pub scale_high : f.scale ≤ℤ pos 18
  pub range : f.low ≤ℤ f.high
