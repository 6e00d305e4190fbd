use Rattle.std.proofs.Common.{◌≡◌, ◌∙◌, sym, ap, ◌*◌, ◌^◌, ◌+◌, ◌<◌, ◌≤◌, ◌+ℤ◌, ◌-ℤ◌, ℕ, ℤ, List, length, to_z, of_z, unsigned_abs, arith}
use mir.Syntax.{w128}
use Rattle.std.proofs.Math.ListN.{length-set}
use Rattle.emtp_elim.specs.Matrix.{item}
use Rattle.emtp_fix.proofs.Wide.{abs-sub-le, through}
use Rattle.emtp_case.specs.Sums.{sum_below}
use Rattle.emtp_blocks.specs.Block.{carried}
use Rattle.emtp_case.proofs.Sums.{sum_below-more, sum_below_small}
use Rattle.emtp_blocks.proofs.Chains.{set_done, set_past, carried_small, carried_next, carried_through, chain_number_small, chain_number-more, chain_through, error_through}
use Rattle.emtp_blocks.proofs.next.chain.Goals as goal

pub link-carried-requires : goal.link-carried-requires
link-carried-requires c =
    let s = c.args.old.now in
    let j = c.loop-j.j in
    record {
      carried = omega (arith, ap unsigned_abs c.loop-j.invariant.so_far, carried_small s j c.requires.old);
      here = omega (arith, ap unsigned_abs (chain_through s j c.requires.old), c.requires.old.chain_small j);
      before = omega (arith, ap unsigned_abs c.loop-j.invariant.last, chain_number_small s j c.requires.old);
      error = omega (arith, ap unsigned_abs (error_through s j c.requires.old), c.requires.old.errors_small j);
    }

-- the sum of the lesser errors, as the code computes it
sum_next : (es : List ℤ) (j : ℕ) (before sum : ℤ) → ((k : ℕ) → unsigned_abs (item es k) ≤ 2 * 10 ^ 35) → before ≡ sum_below j (item es) → sum ≡ before +ℤ to_z w128 (of_z w128 (item es j)) → sum ≡ sum_below (j + 1) (item es)
sum_next es j before sum small so_far is =
    let error : to_z w128 (of_z w128 (item es j)) ≡ item es j = through (item es j) (omega (arith, small j)) in
    is ∙ ap (λ e. before +ℤ e) error ∙ ap (λ z. z +ℤ item es j) so_far ∙ sym (sum_below-more j (item es))

sum_small : (es : List ℤ) (j : ℕ) (sum : ℤ) → ((k : ℕ) → unsigned_abs (item es k) ≤ 2 * 10 ^ 35) → j ≤ 7 → sum ≡ sum_below j (item es) → unsigned_abs sum ≤ 10 ^ 37
sum_small es j sum small few is = omega (arith, few, ap unsigned_abs is, sum_below_small j (item es) (2 * 10 ^ 35) (λ k below. small k))

pub plus-sum-requires-clause-sum : goal.plus-sum-requires-clause-sum
plus-sum-requires-clause-sum c = sum_small c.args.errors.now c.loop-j.j _ c.requires.small (omega arith) c.loop-j.invariant.added

pub less-requires-clause-carried : goal.less-requires-clause-carried
less-requires-clause-carried c =
    let s = c.args.old.now in
    let j = c.loop-j.j in
    let next = carried_next s j _ _ c.link-carried.result c.requires.old c.loop-j.invariant.so_far c.loop-j.invariant.last c.link-carried.ensures in
    let through_bits = carried_through s (j + 1) c.link-carried.result c.requires.old (omega arith) next in
    omega (arith, ap unsigned_abs through_bits, ap unsigned_abs next, carried_small s (j + 1) c.requires.old)

pub less-requires-clause-sum : goal.less-requires-clause-sum
less-requires-clause-sum c =
    let es = c.args.errors.now in
    let j = c.loop-j.j in
    let small = sum_small es (j + 1) c.plus-sum.result c.requires.small (omega arith) (sum_next es j _ c.plus-sum.result c.requires.small c.loop-j.invariant.added c.plus-sum.ensures) in
    rw (through c.plus-sum.result (omega (arith, small))) small

pub loop-j-preserved : goal.loop-j-preserved
loop-j-preserved c =
    let s = c.args.old.now in
    let es = c.args.errors.now in
    let j = c.loop-j.j in
    let few : j + 1 ≤ 7 = omega arith in
    let inside : j < length c.loop-j.chain = omega (arith, c.loop-j.invariant.long, c.requires.order) in
    let f : ℕ → ℤ = λ i. carried s.errors s.chain (i + 1) -ℤ sum_below (i + 1) (item es) in
    let h = carried_next s j _ _ c.link-carried.result c.requires.old c.loop-j.invariant.so_far c.loop-j.invariant.last c.link-carried.ensures in
    let h' = carried_through s (j + 1) c.link-carried.result c.requires.old few h in
    let sum = sum_next es j _ c.plus-sum.result c.requires.small c.loop-j.invariant.added c.plus-sum.ensures in
    let sum_few = sum_small es (j + 1) c.plus-sum.result c.requires.small few sum in
    let sum' : to_z w128 (of_z w128 c.plus-sum.result) ≡ c.plus-sum.result = through c.plus-sum.result (omega (arith, sum_few)) in
    let less : c.less.result ≡ c.link-carried.result -ℤ c.plus-sum.result = rw (h', sum') at c.less.ensures in
    let small : unsigned_abs c.less.result ≤ 10 ^ 38 = omega (arith, ap unsigned_abs less, abs-sub-le c.link-carried.result c.plus-sum.result, ap unsigned_abs h, carried_small s (j + 1) c.requires.old, sum_few) in
    let v : to_z w128 (of_z w128 c.less.result) ≡ f j = through c.less.result (omega (arith, small)) ∙ less ∙ ap (λ z. z -ℤ c.plus-sum.result) h ∙ ap (λ z. carried s.errors s.chain (j + 1) -ℤ z) sum in
    record {
      long = omega (arith, c.loop-j.invariant.long, length-set c.loop-j.chain j (to_z w128 (of_z w128 c.less.result)));
      so_far = h' ∙ h;
      last = chain_through s j c.requires.old ∙ sym (chain_number-more s.chain j);
      added = sum' ∙ sum;
      done = set_done f c.loop-j.chain j (to_z w128 (of_z w128 c.less.result)) inside v c.loop-j.invariant.done;
      past = set_past c.loop-j.chain j (to_z w128 (of_z w128 c.less.result)) c.loop-j.invariant.past;
    }
