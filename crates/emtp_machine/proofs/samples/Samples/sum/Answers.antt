use Rattle.std.proofs.Common.{◌≡◌, ◌∙◌, ◌+◌, ◌*◌, ◌≤◌, ◌^◌, ◌+ℤ◌, ap, FitsSigned, List, refl, ℕ, ℤ, of_z, rules, sym, to_z, unsigned_abs, arith}
use mir.Syntax.{w64, w128}
use native.Mathlib.Numerals.{unary_clauses}
use Rattle.std.proofs.lemmas.Int.{fits_signed_from_abs, ints, to_z-of_z}
use Rattle.emtp_fix.proofs.Wide.{abs-add-le}
use Rattle.emtp_machine.specs.Samples.{sum_of, value_at}
use Rattle.emtp_machine.proofs.samples.Samples.sum.Goals as goal

-- the sum of one more channel
sum_more : (rows : List (List ℤ)) (sample n : ℕ) → sum_of rows sample (n + 1) ≡ sum_of rows sample n +ℤ value_at rows sample n
sum_more rows sample n = simp unary_clauses refl

-- the value as it is added
added : (c : goal.After-from-sum) → to_z w128 (of_z w128 c.from-sum.result) ≡ value_at c.args.self.now.rows c.args.sample c.loop-channel.channel
added c =
    let value : FitsSigned w64 c.value.result = search rules in
    let wide : FitsSigned w128 c.value.result = search rules in
    let same : c.from-sum.result ≡ c.value.result = c.from-sum.ensures ∙ to_z-of_z w64 c.value.result value in
    ap (λ x. to_z w128 (of_z w128 x)) same ∙ to_z-of_z w128 c.value.result wide ∙ c.value.ensures

-- the sum is within 2^63 a channel, and those are fewer than 2^64
bound : (c : goal.After-from-sum) → unsigned_abs (to_z w128 c.loop-channel.sum-bits +ℤ to_z w128 (of_z w128 c.from-sum.result)) ≤ (c.loop-channel.channel + 1) * 2 ^ 63
bound c =
    let value : FitsSigned w64 c.value.result = search rules in
    let one : unsigned_abs (to_z w128 (of_z w128 c.from-sum.result)) ≤ 2 ^ 63 = omega (arith, ints, ap unsigned_abs (added c), ap unsigned_abs c.value.ensures, value.sfits) in
    omega (arith, abs-add-le (to_z w128 c.loop-channel.sum-bits) (to_z w128 (of_z w128 c.from-sum.result)), c.loop-channel.invariant.bound, one)

fits : (c : goal.After-from-sum) → FitsSigned w128 (to_z w128 c.loop-channel.sum-bits +ℤ to_z w128 (of_z w128 c.from-sum.result))
fits c = fits_signed_from_abs w128 (to_z w128 c.loop-channel.sum-bits +ℤ to_z w128 (of_z w128 c.from-sum.result)) (omega (arith, bound c, c.loop-channel-test.true, c.channels-channel-end.type_inv))

pub overflow_add-sum : goal.overflow_add-sum
overflow_add-sum c = fits c

pub loop-channel-preserved : goal.loop-channel-preserved
loop-channel-preserved c =
    let value = to_z w128 (of_z w128 c.from-sum.result) in
    let same : to_z w128 (of_z w128 (to_z w128 c.loop-channel.sum-bits +ℤ value)) ≡ to_z w128 c.loop-channel.sum-bits +ℤ value = to_z-of_z w128 (to_z w128 c.loop-channel.sum-bits +ℤ value) (fits c) in
    record {
      value = same ∙ ap (λ x. x +ℤ value) c.loop-channel.invariant.value ∙ ap (λ x. sum_of c.args.self.now.rows c.args.sample c.loop-channel.channel +ℤ x) (added c) ∙ sym (sum_more c.args.self.now.rows c.args.sample c.loop-channel.channel);
      bound = omega (arith, ap unsigned_abs same, bound c);
      small = c.loop-channel.invariant.small;
    }
