-- Beside `Measure`: what values hold for their proofs. No clause of the program reaches it.
use Rattle.std.specs.Prelude.{◌≤◌, unsigned_abs}
use Rattle.emtp_card.specs.held.NumberField.{IsNumberField}
use Rattle.emtp_fields.specs.declared.measure.Measure.{Measure}

-- its columns, scale and range are those of a field
pub record IsMeasure (m : Measure) : Type 0 where
  pub field : IsNumberField m.field
  pub places : unsigned_abs m.field.scale ≤ 18
