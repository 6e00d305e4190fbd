-- Beside `Cfg`: what values hold for their proofs, and what premises say. No clause of the program reaches it.
use Rattle.std.specs.Prelude.{ℕ, List, [], ◌∷◌, if◌then◌else◌}
use Rattle.emtp_case.specs.declared.case.Parts.{Parts}
use Rattle.emtp_comtrade.specs.Record.{is_status_at}
use Rattle.emtp_comtrade.specs.Record.{joined}
use Rattle.emtp_audit.specs.declared.scale.Scale.{Scale}
use Rattle.emtp_audit.specs.Cfg.{file_line, scale_on}

-- the scales of so many analog channels, from their lines on
abbrev pub analog_scales_on : ℕ → List (List ℕ) → List Scale
analog_scales_on count lines = joined count (λ number. scale_on (file_line lines number) ∷ [])

-- the scale of the channel at a place, where it is an analog one, by the next line
abbrev pub scales_at : Parts → ℕ → List (List ℕ) → List Scale
scales_at p place lines = if is_status_at p place then [] else scale_on (file_line lines 0) ∷ []
