use Rattle.std.proofs.Common.{◌≡◌, ◌<◌, ap, length, refl, to_z, of_z, arith}
use mir.Syntax.{w128}
use Rattle.std.proofs.lemmas.Int.{ints}
use Rattle.emtp_phasor.proofs.Sourcing.{source_more}
use Rattle.emtp_phasor.proofs.sources.sources_into.Goals as goal

pub loop-at-preserved : goal.loop-at-preserved
loop-at-preserved c =
    let case = c.args.case.now.parts in
    let at = c.loop-at.at in
    let there : at < length case.sources = omega (arith, c.loop-at-test.true, ap length c.as_slice-sources.ensures) in
    let wide : to_z w128 (of_z w128 c.brought-sum.result) ≡ c.brought-sum.result = omega (arith, ints, c.brought-sum.ensures.small) in
    record {
      sum_is = source_more case.sources c.as_slice-sources.result.now c.args.imaginary c.args.node at _ _ _ c.brought-sum.result _ c.as_slice-sources.ensures there refl c.loop-at.invariant.sum_is c.brought-sum.ensures.value (omega (arith, ints, c.brought-sum.ensures.small, c.loop-at.invariant.small, there, c.args.case.now.fits.draft.counts.sources));
      small = omega (arith, ints, c.brought-sum.ensures.small, c.loop-at.invariant.small, there, c.args.case.now.fits.draft.counts.sources);
    }
