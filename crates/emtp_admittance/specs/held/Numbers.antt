-- The numbers of branches that admittances are made of.
use Rattle.emtp_fix.specs.declared.limit.TheConstants.{LARGEST_CAPACITANCE, LARGEST_IMPEDANCE, LARGEST_INDUCTANCE, LARGEST_TIME, LEAST_IMPEDANCE}
use Rattle.std.specs.Prelude.{◌≤◌, unsigned_abs}
use Rattle.emtp_case.specs.held.Range.{IsBetween}
use Rattle.emtp_case.specs.declared.branch.Branch.{Branch}
use Rattle.emtp_case.specs.declared.branch.Branch.TheVariants.{Lumped as OfLumped, Line as OfLine, Pseudo as OfPseudo, Phase as OfPhase}
use Rattle.emtp_case.specs.declared.branch.Line.{Line}
use Rattle.emtp_case.specs.declared.branch.Lumped.{Lumped}

pub record HasLumpedNumbers (b : Lumped) : Type 0 where
  pub r : IsBetween 0 LARGEST_IMPEDANCE b.r
  pub l : IsBetween 0 LARGEST_INDUCTANCE b.l
  pub c : IsBetween 0 LARGEST_CAPACITANCE b.c

pub record HasLosslessNumbers (b : Line) : Type 0 where
  pub zc : IsBetween LEAST_IMPEDANCE LARGEST_IMPEDANCE b.zc
  pub delay : unsigned_abs b.delay ≤ LARGEST_TIME

abbrev pub HasPortNumbers : Branch → Type 0
HasPortNumbers (OfLumped b) = HasLumpedNumbers b
HasPortNumbers (OfLine b) = HasLosslessNumbers b
HasPortNumbers (OfPseudo b) = Unit {0}
HasPortNumbers (OfPhase b) = Unit {0}
