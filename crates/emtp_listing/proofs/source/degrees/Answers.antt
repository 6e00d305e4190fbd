use Rattle.std.proofs.Common.{◌≡◌, ◌*ℤ◌, ◌≤◌, ◌*◌, ◌^◌, arith, of_z, pos, to_z, unsigned_abs}
use mir.Syntax.{w128}
use Rattle.std.proofs.lemmas.Int.{ints, unsigned_abs-mul}
use Rattle.emtp_fix.proofs.Wide.{narrow_fits, narrow_is}
use Rattle.emtp_listing.specs.NetworkLines.{degrees}
use Rattle.emtp_listing.proofs.source.degrees.Goals as goal

same : (c : goal.After-scaled) → to_z w128 (of_z w128 c.from.result) ≡ c.args.phase.now
same c = omega (arith, ints, c.from.type_inv, c.from.ensures)

is_degrees : (c : goal.After-scaled) → c.scaled.result ≡ degrees c.args.phase.now
is_degrees c = rw (same c) at c.scaled.ensures.value

-- a phase has 63 bits, and nine of it over 25000000 are below 4 * 10 ^ 12
small : (c : goal.After-scaled) → unsigned_abs (degrees c.args.phase.now) ≤ 4 * 10 ^ 18
small c =
    let whole : unsigned_abs (pos 9 *ℤ c.args.phase.now) ≡ 9 * unsigned_abs c.args.phase.now = unsigned_abs-mul (pos 9) c.args.phase.now in
    let most : unsigned_abs c.args.phase.now ≤ 2 ^ 63 = omega (arith, ints, c.from.ensures, same c) in
    let within : unsigned_abs c.scaled.result ≤ 4 * 10 ^ 12 = (rw (same c) at c.scaled.ensures.within) (4 * 10 ^ 12) (omega (arith, whole, most)) in
    let result : unsigned_abs (degrees c.args.phase.now) ≤ 4 * 10 ^ 12 = rw (is_degrees c) at within in
    omega (arith, result)

pub overflow_cast-result : goal.overflow_cast-result
overflow_cast-result c = narrow_fits c.scaled.result (degrees c.args.phase.now) (is_degrees c) (small c)

pub returns : goal.returns
returns c = narrow_is c.scaled.result (degrees c.args.phase.now) (is_degrees c) (small c)
