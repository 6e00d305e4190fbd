use Rattle.std.proofs.Common.{◌≡◌, ◌<◌, ◌≤◌, ℕ, length, slice_get, Some}
use Rattle.emtp_case.specs.declared.control.Extra.TheVariants.{Formula as OfFormula}
use Rattle.emtp_case.specs.declared.control.Formula.{Formula}
use Rattle.emtp_tacs.proofs.variables.most_names.Given as goal

abbrev pub invariant-loop-extra : goal.invariant-loop-extra
invariant-loop-extra l = (at : ℕ) (x : Formula) → at < l.extra-index → slice_get l.case.parts.extras at ≡ Some (OfFormula x) → length x.vars ≤ l.most
