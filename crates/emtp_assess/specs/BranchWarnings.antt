-- The warnings of series branches that act as others.
use Rattle.std.specs.Prelude.{Bool, true, false, List, flat_map}
use Rattle.emtp_warnings.specs.Finding.{when}
use Rattle.emtp_warnings.specs.declared.finding.Finding.{Finding}
use Rattle.emtp_warnings.specs.declared.finding.Finding.TheVariants.{ActsAsWire, Drifts, OtherCapacitance, OtherResistance}
use Rattle.emtp_warnings.specs.declared.finding.Warning.{Warning}

abbrev pub is_of_branch : Finding → Bool
is_of_branch (Drifts resistance drift clean) = true
is_of_branch (OtherResistance acting) = true
is_of_branch (OtherCapacitance acting) = true
is_of_branch ActsAsWire = true
is_of_branch finding = false

-- a warning, where it is one of these
abbrev pub of_branch : Warning → List Warning
of_branch w = when (is_of_branch w.finding) w

-- those among all warnings of a case
abbrev pub branch_warnings : List Warning → List Warning
branch_warnings all = flat_map of_branch all
