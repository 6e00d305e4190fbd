use Rattle.std.proofs.Common.{◌≡◌, ◌∙◌, ◌+◌, ◌*◌, ◌^◌, ◌≤◌, ◌+ℤ◌, add-one, ap, subst, sym, unsigned_abs, to_z, of_z, arith, rules}
use mir.Syntax.{w128}
use Rattle.std.proofs.lemmas.Int.{ints, to_z-of_z}
use Rattle.emtp_machine.specs.Samples.{sum_of, total_of}
use Rattle.emtp_machine.proofs.SampleRows.{total-fits, total-more}
use Rattle.emtp_machine.proofs.samples.Samples.total.Goals as goal

pub loop-sample-preserved : goal.loop-sample-preserved
loop-sample-preserved c =
    let s : to_z w128 (of_z w128 c.sum-total.result) ≡ c.sum-total.result = to_z-of_z w128 _ (search rules) in
    let few = total-fits (c.loop-sample.sample + 1) c.args.self.now.room c.args.self.now.channels (omega (arith, c.count-sample-end.ensures.room)) c.count-sample-end.ensures.small in
    let more = total-more c.loop-sample.sample c.args.self.now.channels in
    let bound : unsigned_abs (to_z w128 c.loop-sample.total-bits +ℤ c.sum-total.result) ≤ (c.loop-sample.sample + 1) * (c.args.self.now.channels * 2 ^ 63) = omega (arith, ints, more, c.sum-total.ensures.bound, c.loop-sample.invariant.bound) in
    let t : to_z w128 (of_z w128 (to_z w128 c.loop-sample.total-bits +ℤ c.sum-total.result)) ≡ to_z w128 c.loop-sample.total-bits +ℤ c.sum-total.result = to_z-of_z w128 _ (omega (arith, ints, few, bound)) in
    let sum : to_z w128 (of_z w128 (to_z w128 c.loop-sample.total-bits +ℤ to_z w128 (of_z w128 c.sum-total.result))) ≡ to_z w128 c.loop-sample.total-bits +ℤ c.sum-total.result = ap (λ x. to_z w128 (of_z w128 (to_z w128 c.loop-sample.total-bits +ℤ x))) s ∙ t in
    let next : total_of c.args.self.now.rows c.args.self.now.channels (c.loop-sample.sample + 1) ≡ total_of c.args.self.now.rows c.args.self.now.channels c.loop-sample.sample +ℤ sum_of c.args.self.now.rows c.loop-sample.sample c.args.self.now.channels = ap (total_of c.args.self.now.rows c.args.self.now.channels) (add-one c.loop-sample.sample) in
    let before = c.loop-sample.invariant.value in
    let added = c.sum-total.ensures.value in
    record {
      value = sum ∙ ap (λ x. to_z w128 c.loop-sample.total-bits +ℤ x) added ∙ ap (λ x. x +ℤ sum_of c.args.self.now.rows c.loop-sample.sample c.args.self.now.channels) before ∙ sym next;
      bound = subst (λ x. unsigned_abs x ≤ (c.loop-sample.sample + 1) * (c.args.self.now.channels * 2 ^ 63)) (sym sum) bound;
    }
