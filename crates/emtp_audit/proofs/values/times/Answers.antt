use Rattle.std.proofs.Common.{◌≡◌, ◌≤◌, ◌^◌, ◌∙◌, ap, ◌*ℤ◌, unsigned_abs, of_z, to_z, arith, ℤ}
use mir.Syntax.{w64, w128}
use Rattle.emtp_fix.proofs.Wide.{abs-mul-le, through, wide_is}
use Rattle.emtp_audit.specs.declared.limit.TheConstants.{LARGEST_UNIT, LARGEST_SCALE}
use Rattle.emtp_audit.proofs.values.times.Goals as goal

-- a number of 64 bits in 128
widened : (w z : ℤ) → w ≡ to_z w64 (of_z w64 z) → unsigned_abs z ≤ LARGEST_UNIT → to_z w128 (of_z w128 w) ≡ z
widened w z e small = ap (λ (y : ℤ). to_z w128 (of_z w128 y)) e ∙ wide_is z (omega (arith, small))

small_product : (unit count : ℤ) → unsigned_abs unit ≤ LARGEST_UNIT → unsigned_abs count ≤ 10 ^ 10 → unsigned_abs (count *ℤ unit) ≤ LARGEST_SCALE
small_product unit count small few = omega (arith, abs-mul-le count unit (10 ^ 10) LARGEST_UNIT few small)

pub product-requires-clause-a : goal.product-requires-clause-a
product-requires-clause-a c = rw (widened c.from.result c.args.unit c.from.ensures c.requires.unit) (omega (arith, c.requires.unit))

pub product-requires-clause-b : goal.product-requires-clause-b
product-requires-clause-b c = rw (widened c.from-2.result c.args.count c.from-2.ensures (omega (arith, c.requires.count))) c.requires.count

pub returns-clause-value : goal.returns-clause-value
returns-clause-value c =
    let unit = widened c.from.result c.args.unit c.from.ensures c.requires.unit in
    let count = widened c.from-2.result c.args.count c.from-2.ensures (omega (arith, c.requires.count)) in
    let is : c.product.result ≡ c.args.count *ℤ c.args.unit = c.product.ensures.turned
    ∙ ap (λ (x : ℤ). x *ℤ to_z w128 (of_z w128 c.from.result)) count
    ∙ ap (λ (x : ℤ). c.args.count *ℤ x) unit in
    ap (λ (x : ℤ). to_z w128 (of_z w128 x)) is
    ∙ through (c.args.count *ℤ c.args.unit) (omega (arith, small_product c.args.unit c.args.count c.requires.unit c.requires.count))

pub returns-clause-bound : goal.returns-clause-bound
returns-clause-bound c = rw (returns-clause-value c) (small_product c.args.unit c.args.count c.requires.unit c.requires.count)
