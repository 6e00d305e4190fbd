use Rattle.std.proofs.Common.{◌≡◌, ◌*ℤ◌, ap, pos, FitsSigned, to_z, of_z, arith}
use mir.Syntax.{w128}
use Rattle.std.proofs.lemmas.Int.{ints, to_z-of_z}
use Rattle.emtp_fix.proofs.Wide.{fits, through}
use Rattle.emtp_fix.specs.declared.limit.TheConstants.{NANO}
use Rattle.emtp_devices.proofs.Squares.{IsMean, mean_is}
use Rattle.emtp_devices.proofs.effective.mean.Goals as goal

given : (c : goal.After-near) → IsMean c.near.result c.args.sum c.args.depth
given c =
    let sum : FitsSigned w128 c.args.sum = c.ranges.sum in
    let n : to_z w128 c.args.depth ≡ pos c.args.depth = omega (arith, ints, c.requires.few) in
    let is = rw n at (simp to_z-of_z at c.near.ensures.value) in
    mean_is c.near.result c.args.sum c.args.depth is c.requires.some c.requires.least c.requires.most

pub overflow_mul-result : goal.overflow_mul-result
overflow_mul-result c =
    let m = given c in
    let q : to_z w128 (of_z w128 c.near.result) ≡ c.near.result = through c.near.result (omega (arith, m.small)) in
    rw q (fits (c.near.result *ℤ NANO) (omega (arith, ints, m.small)))

pub returns-clause-value : goal.returns-clause-value
returns-clause-value c =
    let m = given c in
    let q : to_z w128 (of_z w128 c.near.result) ≡ c.near.result = through c.near.result (omega (arith, m.small)) in
    rw (q, through (c.near.result *ℤ NANO) (omega (arith, ints, m.small))) (ap (λ z. z *ℤ NANO) m.is)

pub returns-clause-least : goal.returns-clause-least
returns-clause-least c =
    let m = given c in
    let q : to_z w128 (of_z w128 c.near.result) ≡ c.near.result = through c.near.result (omega (arith, m.small)) in
    rw (q, through (c.near.result *ℤ NANO) (omega (arith, ints, m.small))) (omega (arith, ints, m.least))
