use Rattle.std.proofs.Common.{◌≡◌, ◌∙◌, ◌<◌, nat_lt, unsigned_abs, length, to_z, of_z, inl, inr, arith}
use mir.Syntax.{w64, w128}
use Rattle.std.proofs.lemmas.Bool.{cases_lt}
use Rattle.std.proofs.lemmas.Int.{ints}
use Rattle.emtp_case.proofs.Places.{first_at, first_none}
use Rattle.emtp_phasor.specs.Steady.{row_residual}
use Rattle.emtp_phasor.proofs.Judging.{above_is, greatest_more, greatest_all}
use Rattle.emtp_phasor.proofs.flow.judge.Goals as goal

pub returns-then-exceeds : goal.returns-then-exceeds
returns-then-exceeds c =
    let case = c.args.network.case.now.parts in
    let i = c.loop-i.i in
    let there : i < length case.nodes = omega (arith, c.loop-i-test.true, c.len-i-end.ensures) in
    let wide : to_z w128 (of_z w128 c.residual-residual.result) ≡ c.residual-residual.result = omega (arith, ints, c.residual-residual.ensures.bound) in
    let narrow : to_z w64 (of_z w64 case.run.tolerance) ≡ case.run.tolerance = omega (arith, ints, c.args.network.case.now.fits.draft.run.tolerance.least, c.args.network.case.now.fits.draft.run.tolerance.most) in
    let test = rw (narrow, wide) at c.exceeds.ensures in
    record {
      there = there;
      first = (first_at (λ k. nat_lt (unsigned_abs case.run.tolerance) (row_residual case c.args.network.ports.now c.args.volts.now k)) (length case.nodes) i there c.loop-i.invariant.below (above_is case c.args.network.ports.now c.args.volts.now i c.residual-residual.result _ _ c.residual-residual.ensures.value test c.if-exceeds.true));
      is = wide ∙ c.residual-residual.ensures.value;
    }

pub loop-i-preserved : goal.loop-i-preserved
loop-i-preserved c =
    let case = c.args.network.case.now.parts in
    let i = c.loop-i.i in
    let wide : to_z w128 (of_z w128 c.residual-residual.result) ≡ c.residual-residual.result = omega (arith, ints, c.residual-residual.ensures.bound) in
    let narrow : to_z w64 (of_z w64 case.run.tolerance) ≡ case.run.tolerance = omega (arith, ints, c.args.network.case.now.fits.draft.run.tolerance.least, c.args.network.case.now.fits.draft.run.tolerance.most) in
    let test = rw (narrow, wide) at c.exceeds.ensures in
    let more : to_z w128 (of_z w128 c.greater-greatest.result) ≡ c.greater-greatest.result = omega (arith, ints, c.greater-greatest.ensures.bound) in
    record {
      below = λ k below. elim (cases_lt k i) [
        | inl before ↦ c.loop-i.invariant.below k before
        | inr later ↦
            let same : k ≡ i = omega (arith, later, below) in
            rw same (above_is case c.args.network.ports.now c.args.volts.now i c.residual-residual.result _ _ c.residual-residual.ensures.value test c.if-exceeds.false)
      ];
      greatest_is = more ∙ greatest_more (row_residual case c.args.network.ports.now c.args.volts.now) i _ _ c.greater-greatest.result c.greater-greatest.ensures.value c.loop-i.invariant.greatest_is (wide ∙ c.residual-residual.ensures.value);
      small = rw more c.greater-greatest.ensures.bound;
    }

pub returns : goal.returns
returns c =
    let case = c.args.network.case.now.parts in
    let all : c.loop-i.i ≡ length case.nodes = omega (arith, c.loop-i.auto.i-end, c.loop-i-test.false, c.len-i-end.ensures) in
    record {
      none = first_none (λ k. nat_lt (unsigned_abs case.run.tolerance) (row_residual case c.args.network.ports.now c.args.volts.now k)) (length case.nodes) (λ k below. c.loop-i.invariant.below k (omega (arith, below, all)));
      is = c.loop-i.invariant.greatest_is ∙ greatest_all (row_residual case c.args.network.ports.now c.args.volts.now) c.loop-i.i (length case.nodes) all;
    }
