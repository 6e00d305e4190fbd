use Rattle.emtp_fix.specs.declared.limit.TheConstants.{LARGEST_VALUE}
use Rattle.std.proofs.Common.{◌≡◌, ◌≤◌, unsigned_abs, FitsSigned, arith}
use mir.Syntax.{w64, w128}
use Rattle.std.proofs.lemmas.Int.{to_z-of_z}
use Rattle.emtp_fix.specs.Rounding.{near}
use Rattle.emtp_fix.proofs.Wide.{narrow_is}
use Rattle.emtp_elim.proofs.substitution.unknown_with_care.Goals as goal

pub returns-then-unsigned_abs-le-LARGEST_VALUE-clause-value : goal.returns-then-unsigned_abs-le-LARGEST_VALUE-clause-value
returns-then-unsigned_abs-le-LARGEST_VALUE-clause-value c =
    let left : FitsSigned w128 c.args.left = c.ranges.left in
    let pivot : FitsSigned w64 c.args.pivot = c.ranges.pivot in
    let wide = to_z-of_z w128 c.near-unknown.result (omega (arith, c.near-unknown.type_inv)) in
    let from = to_z-of_z w128 c.from.result (omega (arith, c.from.type_inv)) in
    let pivot_is : c.from.result ≡ c.args.pivot = simp to_z-of_z at c.from.ensures in
    let is : c.near-unknown.result ≡ near c.args.left c.args.pivot = rw (from, pivot_is) at (simp to_z-of_z at c.near-unknown.ensures.value) in
    let small : unsigned_abs c.near-unknown.result ≤ LARGEST_VALUE = omega (arith, rw wide at c.unsigned_abs.ensures.value) in
    narrow_is c.near-unknown.result (near c.args.left c.args.pivot) is (omega (arith, rw is at small))
