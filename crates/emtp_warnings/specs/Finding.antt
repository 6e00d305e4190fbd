-- What a warning is.
use Rattle.std.specs.Prelude.{◌==◌, Bool, true, false, List, [], ◌∷◌, ℕ, flat_map}
use Rattle.emtp_warnings.specs.declared.finding.Finding.{Finding}
use Rattle.emtp_warnings.specs.declared.finding.Spot.{Spot}
use Rattle.emtp_warnings.specs.declared.finding.Spot.TheVariants.{Channel, Columns, Line}
use Rattle.emtp_warnings.specs.declared.finding.Warning.{Warning}

abbrev pub spot_points_to : ℕ → Spot → Bool
spot_points_to number (Columns line first last) = line == number
spot_points_to number (Line line) = line == number
spot_points_to number (Channel place) = false

-- it points to a line, or to columns of it
abbrev pub points_to : ℕ → Warning → Bool
points_to number w = spot_points_to number w.spot

-- a warning of columns of a line
abbrev pub of_columns : ℕ → ℕ → ℕ → Finding → Warning
of_columns line first last finding = record { spot = Columns line first last; finding = finding }

-- a warning of a line
abbrev pub of_line : ℕ → Finding → Warning
of_line line finding = record { spot = Line line; finding = finding }

-- a warning, where there is cause for it
abbrev pub when : Bool → Warning → List Warning
when true w = w ∷ []
when false w = []

-- of a row of a table: whether there is cause for a warning, and the warning
abbrev pub of_row : Bool × Warning → List Warning
of_row row = when row.0 row.1

-- those of a table's warnings for which there is cause
abbrev pub found : List (Bool × Warning) → List Warning
found rows = flat_map of_row rows
