-- Names that stand once each.
use Rattle.emtp_case.specs.declared.case.Parts.{Parts}
use Rattle.emtp_listing.specs.Law.{AreApart}

-- the names of the nodes are apart, and so are those of the control's variables
pub record HasNamesApart (p : Parts) : Type 0 where
  pub nodes : AreApart p.nodes
  pub vars : AreApart p.vars
