use Rattle.std.proofs.Common.{◌≡◌, ◌∙◌, ap, ◌≤◌, ◌*◌, ◌^◌, ◌+ℤ◌, unsigned_abs, FitsSigned, arith}
use mir.Syntax.{w128}
use Rattle.std.proofs.lemmas.Int.{ints, to_z-of_z, fits_signed_from_abs}
use Rattle.emtp_fix.specs.Rounding.{near}
use Rattle.emtp_fix.proofs.Nearest.{unsigned_abs-near-le}
use Rattle.emtp_fix.proofs.Quotients.{near-within}
use Rattle.emtp_line.proofs.Bounds.{sum_within}
use Rattle.emtp_line.proofs.phase_end.quotient.Goals as goal

is_quotient : (c : goal.After-near) → c.near.result ≡ near (c.args.a +ℤ c.args.b +ℤ c.args.c) c.args.by
is_quotient c =
    let a : FitsSigned w128 c.args.a = c.ranges.a in
    let b : FitsSigned w128 c.args.b = c.ranges.b in
    let d : FitsSigned w128 c.args.c = c.ranges.c in
    let by : FitsSigned w128 c.args.by = c.ranges.by in
    let ab : FitsSigned w128 (c.args.a +ℤ c.args.b) = fits_signed_from_abs w128 (c.args.a +ℤ c.args.b) (omega (arith, ints, c.requires.a, c.requires.b)) in
    let abc : FitsSigned w128 (c.args.a +ℤ c.args.b +ℤ c.args.c) = fits_signed_from_abs w128 (c.args.a +ℤ c.args.b +ℤ c.args.c) (omega (arith, sum_within c.args.a c.args.b c.args.c (10 ^ 36) c.requires.a c.requires.b c.requires.c)) in
    simp to_z-of_z at c.near.ensures.value

small : (c : goal.After-near) → unsigned_abs c.near.result ≤ 3 * 10 ^ 36
small c = omega (arith, ap unsigned_abs (is_quotient c), unsigned_abs-near-le (c.args.a +ℤ c.args.b +ℤ c.args.c) c.args.by, sum_within c.args.a c.args.b c.args.c (10 ^ 36) c.requires.a c.requires.b c.requires.c)

pub returns-clause-value : goal.returns-clause-value
returns-clause-value c = let s = small c in let e = is_quotient c in omega (arith, ints, s) ∙ e

pub returns-clause-within : goal.returns-clause-within
returns-clause-within c = λ n m a b d most.
    let s = small c in
    let sum = sum_within c.args.a c.args.b c.args.c n a b d in
    let within = near-within (c.args.a +ℤ c.args.b +ℤ c.args.c) c.args.by m (omega (arith, sum, most)) in
    omega (arith, ints, s, ap unsigned_abs (is_quotient c), within)

pub overflow_add-a : goal.overflow_add-a
overflow_add-a c = omega (arith, ints, c.requires.a, c.requires.b)

pub overflow_add-a-2 : goal.overflow_add-a-2
overflow_add-a-2 c = omega (arith, ints, c.requires.a, c.requires.b, c.requires.c)

pub near-requires-clause-small_a : goal.near-requires-clause-small_a
near-requires-clause-small_a c = omega (arith, ints, c.requires.a, c.requires.b, c.requires.c)
