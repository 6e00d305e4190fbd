use Rattle.std.proofs.Common.{FitsSigned, ◌≡◌, ◌≤◌, ◌*ℤ◌, unsigned_abs, arith, rules}
use mir.Syntax.{w64, w128}
use Rattle.std.proofs.lemmas.Int.{to_z-of_z}
use Rattle.emtp_fix.specs.Rounding.{near}
use Rattle.emtp_fix.specs.declared.limit.TheConstants.{LARGEST_VALUE, PICO}
use Rattle.emtp_fix.proofs.Wide.{narrow_fits, narrow_is}
use Rattle.emtp_admittance.proofs.Reactances.{share_in_pico}
use Rattle.emtp_phasor.proofs.sources.share.Goals as goal

is_share : (c : goal.After-scaled) → c.scaled.result ≡ near (c.args.amplitude *ℤ c.args.cosine) PICO
is_share c =
    let a : FitsSigned w64 c.args.amplitude = c.ranges.amplitude in
    let b : FitsSigned w64 c.args.cosine = c.ranges.cosine in
    let a' : FitsSigned w128 c.args.amplitude = search rules in
    let b' : FitsSigned w128 c.args.cosine = search rules in
    simp to_z-of_z at c.scaled.ensures.value

small : (c : goal.After-scaled) → unsigned_abs (near (c.args.amplitude *ℤ c.args.cosine) PICO) ≤ LARGEST_VALUE
small c = share_in_pico c.args.amplitude c.args.cosine c.requires.amplitude c.requires.cosine

pub overflow_cast-result : goal.overflow_cast-result
overflow_cast-result c = narrow_fits c.scaled.result _ (is_share c) (omega (arith, small c))

pub returns-clause-value : goal.returns-clause-value
returns-clause-value c = narrow_is c.scaled.result _ (is_share c) (omega (arith, small c))

pub returns-clause-small : goal.returns-clause-small
returns-clause-small c = rw (returns-clause-value c) (small c)
