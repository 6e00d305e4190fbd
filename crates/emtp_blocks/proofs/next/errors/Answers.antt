use Rattle.std.proofs.Common.{◌≡◌, ◌*◌, ◌^◌, ◌<◌, ℕ, ℤ, length, to_z, of_z, arith}
use mir.Syntax.{w128, w64}
use Rattle.std.proofs.lemmas.Int.{ints}
use Rattle.std.proofs.Math.ListN.{length-set}
use Rattle.emtp_elim.specs.Matrix.{item}
use Rattle.emtp_fix.proofs.Wide.{through_64}
use Rattle.emtp_blocks.specs.Block.{error_of}
use Rattle.emtp_blocks.proofs.Chains.{set_done, set_small}
use Rattle.emtp_blocks.proofs.next.errors.Goals as goal

pub loop-j-preserved : goal.loop-j-preserved
loop-j-preserved c =
    let j = c.loop-j.j in
    let law = c.args.law.now in
    let u : to_z w64 (of_z w64 c.args.u) ≡ c.args.u = through_64 c.args.u c.requires.u in
    let x : to_z w64 (of_z w64 c.args.x) ≡ c.args.x = through_64 c.args.x c.requires.x in
    let e : to_z w128 (of_z w128 c.error.result) ≡ c.error.result = omega (arith, ints, c.error.ensures.small) in
    let f : ℕ → ℤ = error_of (item law.numerators) (item law.denominators) c.args.u c.args.x in
    let is : c.error.result ≡ f j = rw (u, x) at c.error.ensures.value in
    let done : (i : ℕ) → i < j → item c.loop-j.errors i ≡ f i = rw (u, x) at c.loop-j.invariant.done in
    let inside : j < length c.loop-j.errors = omega (arith, c.loop-j.invariant.long, c.requires.order) in
    record {
      long = omega (arith, c.loop-j.invariant.long, length-set c.loop-j.errors j (to_z w128 (of_z w128 c.error.result)));
      done = rw (u, x, e) (set_done f c.loop-j.errors j c.error.result inside is done);
      small = rw e (set_small (2 * 10 ^ 35) c.loop-j.errors j c.error.result inside c.error.ensures.small c.loop-j.invariant.small);
    }
