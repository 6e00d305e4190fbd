use Rattle.std.proofs.Common.{◌≡◌, ◌∙◌, ap, unsigned_abs, ◌≤◌, ◌^◌, ◌*ℤ◌, arith}
use Rattle.std.proofs.lemmas.Int.{ints}
use Rattle.emtp_fix.specs.Rounding.{near}
use Rattle.emtp_fix.specs.declared.limit.TheConstants.{PICO}
use Rattle.emtp_fix.proofs.Quotients.{near-product}
use Rattle.emtp_line.proofs.Products.{product}
use Rattle.emtp_line.proofs.wave.driven.Goals as goal

pub overflow_mul-g : goal.overflow_mul-g
overflow_mul-g c = (product c.ranges.g c.ranges.v c.requires.g c.requires.v (omega arith)).fits

pub near-requires-clause-small_a : goal.near-requires-clause-small_a
near-requires-clause-small_a c = (product c.ranges.g c.ranges.v c.requires.g c.requires.v (omega arith)).small

is_driven : (c : goal.After-near) → c.near.result ≡ near (c.args.g *ℤ c.args.v) PICO
is_driven c = c.near.ensures.value ∙ ap (λ z. near z PICO) (product c.ranges.g c.ranges.v c.requires.g c.requires.v (omega arith)).is

small : (c : goal.After-near) → unsigned_abs c.near.result ≤ 10 ^ 25
small c = omega (arith, ap unsigned_abs (is_driven c), near-product c.args.g c.args.v PICO (10 ^ 17) (10 ^ 20) (10 ^ 12) (10 ^ 25) c.requires.g c.requires.v (omega (arith, ints)) (omega arith))

pub returns-clause-value : goal.returns-clause-value
returns-clause-value c = let s = small c in let e = is_driven c in omega (arith, ints, s) ∙ e

pub returns-clause-bound : goal.returns-clause-bound
returns-clause-bound c = let s = small c in omega (arith, ints, s)
