use Rattle.std.proofs.Math.Nat.{pow-le-pow_right}
use Rattle.std.proofs.Common.{◌≡◌, ◌∙◌, sym, ap, ℕ, ◌+◌, ◌*◌, ◌^◌, ◌≤◌, lit<, arith, add-one, pow-suc, mul-le-mul_left}
use Rattle.emtp_card.proofs.rounding.times_power_of_ten.Goals as goal

one_place_more : (n places : ℕ) → n * 10 ^ (places + 1) ≡ n * 10 ^ places * 10
one_place_more n places = ap (λ (k : ℕ). n * 10 ^ k) (add-one places) ∙ ap (λ (p : ℕ). n * p) (pow-suc 10 places) ∙ apart n (10 ^ places)
  where
    apart : (n p : ℕ) → n * (p * 10) ≡ n * p * 10
    apart n p = omega arith

pub returns-then-product-gt-MOST : goal.returns-then-product-gt-MOST
returns-then-product-gt-MOST c = λ small.
    let next : c.loop.counter + 1 ≤ c.args.places = omega arith in
    let power : 10 ^ (c.loop.counter + 1) ≤ 10 ^ c.args.places = pow-le-pow_right (lit< tt) next in
    let times = mul-le-mul_left c.args.number power in
    omega (arith, small, times, one_place_more c.args.number c.loop.counter, c.loop.invariant.product)

pub loop-preserved : goal.loop-preserved
loop-preserved c = record {
  product = ap (λ (p : ℕ). p * 10) c.loop.invariant.product ∙ sym (one_place_more c.args.number c.loop.counter);
  small = c.if-product-gt-MOST.false;
}
