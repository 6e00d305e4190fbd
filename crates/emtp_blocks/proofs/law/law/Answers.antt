use Rattle.emtp_fix.specs.declared.limit.TheConstants.{LARGEST_COEFFICIENT}
use Rattle.std.proofs.Common.{◌≡◌, ◌∙◌, ap, ◌^◌, ◌*◌, ◌≤◌, ◌*ℤ◌, ℤ, pos, FitsSigned, unsigned_abs, to_z, of_z, arith}
use mir.Syntax.{w64, w128}
use Rattle.std.proofs.lemmas.Int.{ints, to_z-of_z}
use Rattle.emtp_case.specs.Control.{divisor_of, step_gain, power_of}
use Rattle.emtp_case.specs.Sums.{sum_upto}
use Rattle.emtp_case.specs.declared.control.Block.{Block}
use Rattle.emtp_fix.specs.Rounding.{near}
use Rattle.emtp_fix.proofs.Wide.{through, through_64}
use Rattle.emtp_blocks.proofs.Coefficients.{sum_is}
use Rattle.emtp_blocks.proofs.law.law.Goals as goal

-- the divisor as the code has it
divisor_is : (dt : ℤ) (b : Block) (d : ℤ) → FitsSigned w64 dt → unsigned_abs d ≤ 64 * 10 ^ 25 → d ≡ sum_upto b.order (power_of (to_z w64 (of_z w64 dt)) b.bottom) → to_z w128 (of_z w128 d) ≡ divisor_of dt b
divisor_is dt b d fits small is =
    let same : to_z w64 (of_z w64 dt) ≡ dt = to_z-of_z w64 dt fits in
    let whole = rw same at is in
    through d (omega (arith, small)) ∙ whole

pub coefficients-numerators-requires-clause-some : goal.coefficients-numerators-requires-clause-some
coefficients-numerators-requires-clause-some c =
    let s = c.coefficient_divisor-divisor in
    rw (divisor_is c.args.dt c.args.b.now s.result c.ranges.dt s.ensures.small s.ensures.value) (c.requires.coefficients (omega arith)).divisor

pub coefficients-numerators-requires-clause-small : goal.coefficients-numerators-requires-clause-small
coefficients-numerators-requires-clause-small c = λ j below.
    let s = c.coefficient_divisor-divisor in
    let dt : to_z w64 (of_z w64 c.args.dt) ≡ c.args.dt = to_z-of_z w64 c.args.dt c.ranges.dt in
    let divisor = divisor_is c.args.dt c.args.b.now s.result c.ranges.dt s.ensures.small s.ensures.value in
    rw (dt, divisor) ((c.requires.coefficients (omega arith)).numerators j below)

pub coefficients-denominators-requires-clause-some : goal.coefficients-denominators-requires-clause-some
coefficients-denominators-requires-clause-some c =
    let s = c.coefficient_divisor-divisor in
    rw (divisor_is c.args.dt c.args.b.now s.result c.ranges.dt s.ensures.small s.ensures.value) (c.requires.coefficients (omega arith)).divisor

pub coefficients-denominators-requires-clause-small : goal.coefficients-denominators-requires-clause-small
coefficients-denominators-requires-clause-small c = λ j below.
    let s = c.coefficient_divisor-divisor in
    let dt : to_z w64 (of_z w64 c.args.dt) ≡ c.args.dt = to_z-of_z w64 c.args.dt c.ranges.dt in
    let divisor = divisor_is c.args.dt c.args.b.now s.result c.ranges.dt s.ensures.small s.ensures.value in
    rw (dt, divisor) ((c.requires.coefficients (omega arith)).denominators j below)

pub step_gain-requires-2-clause-small : goal.step_gain-requires-2-clause-small
step_gain-requires-2-clause-small c =
    let b = c.args.b.now in
    let dt : to_z w64 (of_z w64 c.args.dt) ≡ c.args.dt = to_z-of_z w64 c.args.dt c.ranges.dt in
    let gain : to_z w64 (of_z w64 b.gain) ≡ b.gain = through_64 b.gain c.requires.gain in
    let sum : to_z w64 (of_z w64 c.sum-sum.result) ≡ c.sum-sum.result = omega (arith, ints, c.sum-sum.ensures.small) in
    let divisor = rw dt at c.coefficient_divisor-divisor.ensures.value in
    let d : to_z w128 (of_z w128 c.coefficient_divisor-divisor.result) ≡ c.coefficient_divisor-divisor.result = through c.coefficient_divisor-divisor.result (omega (arith, c.coefficient_divisor-divisor.ensures.small)) in
    let each = rw (dt, d) at c.coefficients-numerators.ensures.value in
    let is = c.sum-sum.ensures.value ∙ sum_is c.args.dt b c.coefficients-numerators.result c.coefficient_divisor-divisor.result (omega arith) divisor each in
    rw (gain, sum, is) c.requires.within_step

pub returns-clause-value : goal.returns-clause-value
returns-clause-value c =
    let b = c.args.b.now in
    let dt : to_z w64 (of_z w64 c.args.dt) ≡ c.args.dt = to_z-of_z w64 c.args.dt c.ranges.dt in
    let gain : to_z w64 (of_z w64 b.gain) ≡ b.gain = through_64 b.gain c.requires.gain in
    let sum : to_z w64 (of_z w64 c.sum-sum.result) ≡ c.sum-sum.result = omega (arith, ints, c.sum-sum.ensures.small) in
    let divisor = rw dt at c.coefficient_divisor-divisor.ensures.value in
    let d : to_z w128 (of_z w128 c.coefficient_divisor-divisor.result) ≡ c.coefficient_divisor-divisor.result = through c.coefficient_divisor-divisor.result (omega (arith, c.coefficient_divisor-divisor.ensures.small)) in
    let each = rw (dt, d) at c.coefficients-numerators.ensures.value in
    let each' = rw (dt, d) at c.coefficients-denominators.ensures.value in
    let is = c.sum-sum.ensures.value ∙ sum_is c.args.dt b c.coefficients-numerators.result c.coefficient_divisor-divisor.result (omega arith) divisor each in
    let product : c.step_gain-2.result ≡ step_gain c.args.dt b = rw (gain, sum) at c.step_gain-2.ensures ∙ ap (λ z. near (b.gain *ℤ z) (pos (10 ^ 12))) is in
    let small : unsigned_abs c.step_gain-2.result ≤ LARGEST_COEFFICIENT = rw product c.requires.within_step in
    let same : to_z w64 (of_z w64 c.step_gain-2.result) ≡ c.step_gain-2.result = through_64 c.step_gain-2.result small in
    record {
      numerators = λ j some below. each j below ∙ ap (near (power_of c.args.dt b.top j *ℤ pos (10 ^ 12))) divisor;
      denominators = λ j some below. each' j below ∙ ap (near (power_of c.args.dt b.bottom j *ℤ pos (10 ^ 12))) divisor;
      sum = sum ∙ is;
      gain = same ∙ product;
    }

pub returns-clause-small : goal.returns-clause-small
returns-clause-small c =
    let sum : to_z w64 (of_z w64 c.sum-sum.result) ≡ c.sum-sum.result = omega (arith, ints, c.sum-sum.ensures.small) in
    let b = c.args.b.now in
    let dt : to_z w64 (of_z w64 c.args.dt) ≡ c.args.dt = to_z-of_z w64 c.args.dt c.ranges.dt in
    let gain : to_z w64 (of_z w64 b.gain) ≡ b.gain = through_64 b.gain c.requires.gain in
    let divisor = rw dt at c.coefficient_divisor-divisor.ensures.value in
    let d : to_z w128 (of_z w128 c.coefficient_divisor-divisor.result) ≡ c.coefficient_divisor-divisor.result = through c.coefficient_divisor-divisor.result (omega (arith, c.coefficient_divisor-divisor.ensures.small)) in
    let each = rw (dt, d) at c.coefficients-numerators.ensures.value in
    let is = c.sum-sum.ensures.value ∙ sum_is c.args.dt b c.coefficients-numerators.result c.coefficient_divisor-divisor.result (omega arith) divisor each in
    let product : c.step_gain-2.result ≡ step_gain c.args.dt b = rw (gain, sum) at c.step_gain-2.ensures ∙ ap (λ z. near (b.gain *ℤ z) (pos (10 ^ 12))) is in
    let small : unsigned_abs c.step_gain-2.result ≤ LARGEST_COEFFICIENT = rw product c.requires.within_step in
    record {
      numerators_small = c.coefficients-numerators.ensures.small;
      denominators_small = c.coefficients-denominators.ensures.small;
      sum_small = omega (arith, ints, sum, c.sum-sum.ensures.small);
      gain_small = omega (arith, ints, small);
    }
