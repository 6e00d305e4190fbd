use Rattle.std.proofs.Common.{◌≡◌, ◌*ℤ◌, to_z, of_z, arith}
use mir.Syntax.{w128}
use Rattle.std.proofs.lemmas.Int.{ints}
use Rattle.emtp_fix.specs.Rounding.{near}
use Rattle.emtp_fix.specs.declared.limit.TheConstants.{ATTO}
use Rattle.emtp_fix.proofs.Wide.{narrow_is, narrow_fits}
use Rattle.emtp_admittance.proofs.impedance.quotient.Goals as goal

is_quotient : (c : goal.After-scaled) → c.scaled.result ≡ near (c.args.part *ℤ ATTO) c.args.whole
is_quotient c =
    let part : to_z w128 (of_z w128 c.args.part) ≡ c.args.part = omega (arith, ints, c.requires.part) in
    let whole : to_z w128 (of_z w128 c.args.whole) ≡ c.args.whole = omega (arith, ints, c.requires.bound) in
    rw (part, whole) at c.scaled.ensures.value

pub overflow_cast-result : goal.overflow_cast-result
overflow_cast-result c = narrow_fits c.scaled.result (near (c.args.part *ℤ ATTO) c.args.whole) (is_quotient c) (omega (arith, c.requires.small))

pub returns-clause-value : goal.returns-clause-value
returns-clause-value c = narrow_is c.scaled.result (near (c.args.part *ℤ ATTO) c.args.whole) (is_quotient c) (omega (arith, c.requires.small))

pub returns-clause-small : goal.returns-clause-small
returns-clause-small c = rw (narrow_is c.scaled.result (near (c.args.part *ℤ ATTO) c.args.whole) (is_quotient c) (omega (arith, c.requires.small))) c.requires.small
