use Rattle.std.proofs.Common.{◌≡◌, ◌∙◌, ap, unsigned_abs, ◌≤◌, ◌*ℤ◌, arith}
use Rattle.std.proofs.lemmas.Int.{ints}
use Rattle.emtp_fix.specs.Rounding.{near}
use Rattle.emtp_fix.specs.declared.limit.TheConstants.{PICO}
use Rattle.emtp_fix.proofs.Quotients.{near-share}
use Rattle.emtp_line.proofs.Products.{product}
use Rattle.emtp_line.proofs.wave.part.Goals as goal

pub overflow_mul-share : goal.overflow_mul-share
overflow_mul-share c = (product c.ranges.share c.ranges.x c.requires.share c.requires.x (omega arith)).fits

pub near-requires-clause-small_a : goal.near-requires-clause-small_a
near-requires-clause-small_a c = (product c.ranges.share c.ranges.x c.requires.share c.requires.x (omega arith)).small

is_part : (c : goal.After-near) → c.near.result ≡ near (c.args.share *ℤ c.args.x) PICO
is_part c = c.near.ensures.value ∙ ap (λ z. near z PICO) (product c.ranges.share c.ranges.x c.requires.share c.requires.x (omega arith)).is

small : (c : goal.After-near) → unsigned_abs c.near.result ≤ unsigned_abs c.args.x
small c =
    let turned : c.args.share *ℤ c.args.x ≡ c.args.x *ℤ c.args.share = omega (arith, ints) in
    let part : unsigned_abs (near (c.args.x *ℤ c.args.share) PICO) ≤ unsigned_abs c.args.x = near-share c.args.x c.args.share PICO (unsigned_abs c.args.x) (omega arith) (omega (arith, ints, c.requires.share)) in
    omega (arith, ap unsigned_abs (is_part c ∙ ap (λ z. near z PICO) turned), part)

pub returns-clause-value : goal.returns-clause-value
returns-clause-value c = let s = small c in let e = is_part c in omega (arith, ints, s, c.requires.x) ∙ e

pub returns-clause-bound : goal.returns-clause-bound
returns-clause-bound c = let s = small c in omega (arith, ints, s, c.requires.x)
