use Rattle.std.proofs.Common.{◌≡◌, ◌*ℤ◌, pos, FitsSigned, to_z, of_z, arith, rules}
use mir.Syntax.{w64, w128}
use Rattle.std.proofs.lemmas.Int.{ints, to_z-of_z}
use Rattle.emtp_fix.specs.Rounding.{near}
use Rattle.emtp_fix.specs.declared.limit.TheConstants.{PICO}
use Rattle.emtp_admittance.proofs.Reactances.{angular_range}
use Rattle.emtp_admittance.proofs.impedance.angular_frequency.Goals as goal

pub returns-clause-range : goal.returns-clause-range
returns-clause-range c =
    let a : FitsSigned w64 c.args.freq = c.ranges.freq in
    let a' : FitsSigned w128 c.args.freq = search rules in
    let is : c.scaled.result ≡ near (pos 6283185307179586 *ℤ c.args.freq) PICO = simp to_z-of_z at c.scaled.ensures.value in
    let wide : to_z w128 (of_z w128 c.scaled.result) ≡ c.scaled.result = omega (arith, ints, c.scaled.ensures.bound) in
    rw wide (angular_range c.scaled.result c.args.freq is c.requires)
