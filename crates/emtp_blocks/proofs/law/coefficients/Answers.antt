use Rattle.emtp_fix.specs.declared.limit.TheConstants.{LARGEST_COEFFICIENT}
use Rattle.std.proofs.Common.{◌≡◌, ◌^◌, ◌≤◌, ◌<◌, unsigned_abs, to_z, of_z, ℕ, length, arith}
use mir.Syntax.{w64, w128}
use Rattle.std.proofs.lemmas.Int.{ints, to_z-of_z}
use Rattle.emtp_case.specs.Control.{quotient_of}
use Rattle.emtp_elim.specs.Matrix.{item}
use Rattle.std.proofs.Math.ListN.{length-set}
use Rattle.emtp_blocks.proofs.Chains.{set_done, set_small}
use Rattle.emtp_blocks.proofs.law.coefficients.Goals as goal

pub loop-j-preserved : goal.loop-j-preserved
loop-j-preserved c =
    let dt : to_z w64 (of_z w64 c.args.dt) ≡ c.args.dt = to_z-of_z w64 c.args.dt c.ranges.dt in
    let d : to_z w128 (of_z w128 c.args.divisor) ≡ c.args.divisor = omega (arith, ints, c.requires.divisor) in
    let j = c.loop-j.j in
    let f = quotient_of c.args.dt c.args.card.now c.args.divisor in
    let is : c.coefficient.result ≡ f j = rw (dt, d) at c.coefficient.ensures in
    let least = c.requires.small j (omega arith) in
    let small : unsigned_abs c.coefficient.result ≤ LARGEST_COEFFICIENT = rw is least in
    let through : to_z w64 (of_z w64 c.coefficient.result) ≡ c.coefficient.result = omega (arith, ints, small) in
    let done : (i : ℕ) → i < j → item c.loop-j.quotients i ≡ f i = rw (dt, d) at c.loop-j.invariant.done in
    let inside : j < length c.loop-j.quotients = omega (arith, c.loop-j.invariant.long, c.requires.order) in
    record {
      long = omega (arith, c.loop-j.invariant.long, length-set c.loop-j.quotients j (to_z w64 (of_z w64 c.coefficient.result)));
      done = rw (dt, d, through) (set_done f c.loop-j.quotients j c.coefficient.result inside is done);
      small = rw through (set_small (10 ^ 18) c.loop-j.quotients j c.coefficient.result inside small c.loop-j.invariant.small);
    }
