use Rattle.std.proofs.Common.{◌≡◌, ◌∙◌, sym, FitsSigned, to_z, of_z, rules}
use mir.Syntax.{w128}
use Rattle.std.proofs.lemmas.Int.{to_z-of_z}
use Rattle.emtp_fix.proofs.Roots.{isqrt_between}
use Rattle.emtp_fix.proofs.root.isqrt.Goals as goal

pub returns-clause-value : goal.returns-clause-value
returns-clause-value c =
    let x : to_z w128 (of_z w128 c.args.x) ≡ c.args.x = to_z-of_z w128 c.args.x c.ranges.x in
    let r : FitsSigned w128 c.isqrt.result = search rules in
    let is = rw x at c.isqrt.ensures in
    to_z-of_z w128 c.isqrt.result r ∙ is.1 ∙ sym (isqrt_between c.args.x is.0 c.requires is.2 is.3)
