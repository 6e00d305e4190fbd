use Rattle.std.proofs.Common.{◌≡◌, ◌∙◌, ap, unsigned_abs, ◌≤◌, ◌^◌, ◌*ℤ◌, FitsSigned, ℤ, arith, rules}
use mir.Syntax.{w64, w128}
use Rattle.std.proofs.lemmas.Int.{ints, to_z-of_z, fits_signed_from_abs}
use Rattle.emtp_fix.specs.Rounding.{near}
use Rattle.emtp_line.proofs.Bounds.{portion_small}
use Rattle.emtp_line.proofs.Products.{IsProduct, product}
use Rattle.emtp_line.specs.declared.mode.Mode.{Mode}
use Rattle.emtp_line.specs.held.Mode.{IsMode}
use Rattle.emtp_line.proofs.wave.portion.Goals as goal

rest_product : {m : Mode} {rise : ℤ} → IsMode m → FitsSigned w128 rise → unsigned_abs rise ≤ 2 ^ 64 → IsProduct m.rest rise
rest_product {m} {rise} h fits small =
    let few : unsigned_abs m.rest ≤ 10 ^ 12 = omega (arith, ints, h.rest.least, h.rest.most) in
    product (fits_signed_from_abs w64 m.rest (omega (arith, few))) fits few small (omega arith)

pub overflow_mul-mode : goal.overflow_mul-mode
overflow_mul-mode c = (rest_product c.requires.mode c.ranges.rise c.requires.rise).fits

pub near_by-requires-clause-small_a : goal.near_by-requires-clause-small_a
near_by-requires-clause-small_a c = (rest_product c.requires.mode c.ranges.rise c.requires.rise).small

is_portion : (c : goal.After-near_by) → c.near_by.result ≡ near (c.args.mode.now.rest *ℤ c.args.rise) c.args.mode.now.dt
is_portion c =
    let dt : FitsSigned w64 c.args.mode.now.dt = search rules in
    let dt' : FitsSigned w128 c.args.mode.now.dt = search rules in
    let is = rw (rest_product c.requires.mode c.ranges.rise c.requires.rise).is at c.near_by.ensures.value in
    simp to_z-of_z at is

small : (c : goal.After-near_by) → unsigned_abs c.near_by.result ≤ 2 ^ 64
small c = omega (arith, ap unsigned_abs (is_portion c), portion_small c.args.mode.now c.args.rise c.requires.mode c.requires.rise)

pub returns-clause-value : goal.returns-clause-value
returns-clause-value c = let s = small c in let e = is_portion c in omega (arith, ints, s) ∙ e

pub returns-clause-bound : goal.returns-clause-bound
returns-clause-bound c = let s = small c in omega (arith, ints, s)
