use Rattle.emtp_fix.specs.declared.limit.TheConstants.{LARGEST_VALUE}
use Rattle.std.proofs.Common.{◌≡◌, ◌≤◌, ◌<◌, ◌*◌, ◌^◌, ◌-ℤ◌, unsigned_abs, refl, ap, ◌∙◌, to_z, of_z, arith}
use mir.Syntax.{w64, w128}
use Rattle.std.proofs.lemmas.Int.{ints, to_z-of_z}
use Rattle.emtp_fix.proofs.Wide.{narrow_is, through}
use Rattle.emtp_elim.proofs.arithmetic.less_by_word.Goals as goal

pub returns-then-unsigned_abs : goal.returns-then-unsigned_abs
returns-then-unsigned_abs c =
    let m_is : to_z w64 (of_z w64 (to_z w128 (of_z w128 c.args.m))) ≡ c.args.m = narrow_is c.args.m c.args.m refl (omega (arith, c.requires.m)) in
    let p_is : to_z w64 (of_z w64 (to_z w128 (of_z w128 c.args.p))) ≡ c.args.p = narrow_is c.args.p c.args.p refl (omega (arith, c.requires.p)) in
    let is = rw (m_is, p_is) at c.ratio_product.ensures.value in
    let same : to_z w128 (of_z w128 c.args.a) ≡ c.args.a = through c.args.a (omega (arith, c.requires.a)) in
    let product : to_z w64 (of_z w64 c.ratio_product.result) ≡ c.ratio_product.result = to_z-of_z w64 c.ratio_product.result (omega (arith, c.ratio_product.type_inv)) in
    let from : c.from.result ≡ c.ratio_product.result = rw product at c.from.ensures in
    let wide : to_z w128 (of_z w128 c.from.result) ≡ c.ratio_product.result = rw from (through c.ratio_product.result (omega (arith, c.ratio_product.ensures.small))) in
    rw (same, wide) (through (c.args.a -ℤ c.ratio_product.result) (omega (arith, ints, c.requires.a, c.ratio_product.ensures.small)) ∙ ap (λ z. c.args.a -ℤ z) is)
