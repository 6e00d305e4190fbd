use Rattle.std.proofs.Common.{◌≤◌, ◌*◌, ◌^◌, unsigned_abs, FitsSigned, arith, rules}
use mir.Syntax.{w128}
use Rattle.std.proofs.lemmas.Int.{ints, to_z-of_z}
use Rattle.emtp_fix.proofs.Wide.{through}
use Rattle.emtp_line.proofs.phase_end.driven.Goals as goal

pub returns-clause-bound : goal.returns-clause-bound
returns-clause-bound c =
    let a : FitsSigned w128 c.product.result = search rules in
    let b : FitsSigned w128 c.product-2.result = search rules in
    let d : FitsSigned w128 c.product-3.result = search rules in
    let within = simp to_z-of_z at c.quotient.ensures.within in
    let small : unsigned_abs c.quotient.result ≤ 4 * 10 ^ 24 = within (10 ^ 36) (4 * 10 ^ 24) c.product.ensures.bound c.product-2.ensures.bound c.product-3.ensures.bound (omega (arith, ints)) in
    rw (through c.quotient.result (omega (arith, small))) small
