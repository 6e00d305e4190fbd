use Rattle.std.proofs.Common.{◌≡◌, ◌∙◌, sym, ap, subst, ◌+ℤ◌, ◌*ℤ◌, ◌^◌, pos, Some, length, get_or, slice_get, to_z, of_z, arith}
use mir.Syntax.{w64, w128}
use Rattle.std.proofs.lemmas.Option.{slice_get-get_or}
use Rattle.emtp_case.specs.held.Sizes.{sizes_of}
use Rattle.emtp_case.specs.held.Control.{IsBlock}
use Rattle.emtp_case.specs.declared.control.Block.{Block}
use Rattle.emtp_case.specs.declared.control.Limiter.TheVariants.{AtHigh, AtLow}
use Rattle.emtp_fix.specs.Rounding.{near}
use Rattle.emtp_fix.proofs.Wide.{through, through_64}
use Rattle.emtp_blocks.specs.Block.{held, past_output}
use Rattle.emtp_blocks.specs.held.BlockRows.{no_law}
use Rattle.emtp_blocks.specs.declared.limits.Limits.{Limits}
use Rattle.emtp_blocks.proofs.Systems.{length-places_of, outside_sum_is, right_free, right_held}
use Rattle.emtp_blocks.proofs.right.right_of.Goals as goal

pub limits_in_step-limits-requires-clause-low : goal.limits_in_step-limits-requires-clause-low
limits_in_step-limits-requires-clause-low c =
    let case = c.args.diagram.now.case.now.parts in
    let b = c.index-as_slice-at.result in
    let read : b ≡ get_or case.blocks c.args.at b = rw c.as_slice.ensures at c.index-as_slice-at.is in
    let fits = let P = λ (y : Block). IsBlock case.run (sizes_of case) y in subst P (sym read) (c.args.diagram.now.case.now.fits.draft.control.blocks c.args.at b c.requires.there) in
    (sizes_of case, sym c.requires.known.one_each, fits.low)

pub limits_in_step-limits-requires-clause-high : goal.limits_in_step-limits-requires-clause-high
limits_in_step-limits-requires-clause-high c =
    let case = c.args.diagram.now.case.now.parts in
    let b = c.index-as_slice-at.result in
    let read : b ≡ get_or case.blocks c.args.at b = rw c.as_slice.ensures at c.index-as_slice-at.is in
    let fits = let P = λ (y : Block). IsBlock case.run (sizes_of case) y in subst P (sym read) (c.args.diagram.now.case.now.fits.draft.control.blocks c.args.at b c.requires.there) in
    (sizes_of case, sym c.requires.known.one_each, fits.high)

pub free_right-requires-clause-places : goal.free_right-requires-clause-places
free_right-requires-clause-places c = ap length c.requires.diagram.places_are ∙ length-places_of c.args.diagram.now.case.now.parts ∙ sym c.requires.known.one_each

pub returns-in-Free-clause-value : goal.returns-in-Free-clause-value
returns-in-Free-clause-value c = λ H stands.
    let case = c.args.diagram.now.case.now.parts in
    let at = c.args.at in
    let known = c.args.known.now in
    let b = c.index-as_slice-at.result in
    let read : b ≡ get_or case.blocks at b = rw c.as_slice.ensures at c.index-as_slice-at.is in
    let here : slice_get case.blocks at ≡ Some b = slice_get-get_or case.blocks at b c.requires.there ∙ ap Some (sym read) in
    let law = c.requires.diagram.laws_are at b c.requires.there here in
    let has = stands b here in
    let lim = c.limits_in_step-limits.ensures.value in
    let fits = let P = λ (y : Block). IsBlock case.run (sizes_of case) y in subst P (sym read) (c.args.diagram.now.case.now.fits.draft.control.blocks at b c.requires.there) in
    let r : to_z w128 (of_z w128 c.free_right.result) ≡ c.free_right.result = through _ (omega (arith, c.free_right.ensures.small)) in
    let value = rw c.requires.diagram.places_are at c.free_right.ensures.value in
    let value' = value ∙ ap (λ s. near ((get_or c.args.diagram.now.laws.now at no_law).gain *ℤ s) (pos (10 ^ 12)) +ℤ past_output b.order c.args.state.now.errors c.args.state.now.chain) (outside_sum_is case known b.inputs fits.inputs) in
    rw r (right_free case H known at b c.args.state.now _ c.free_right.result here has c.in-Free.is law.gain value')

pub returns-in-AtHigh-clause-value : goal.returns-in-AtHigh-clause-value
returns-in-AtHigh-clause-value c = λ H stands.
    let case = c.args.diagram.now.case.now.parts in
    let at = c.args.at in
    let known = c.args.known.now in
    let b = c.index-as_slice-at.result in
    let read : b ≡ get_or case.blocks at b = rw c.as_slice.ensures at c.index-as_slice-at.is in
    let here : slice_get case.blocks at ≡ Some b = slice_get-get_or case.blocks at b c.requires.there ∙ ap Some (sym read) in
    let law = c.requires.diagram.laws_are at b c.requires.there here in
    let has = stands b here in
    let lim = c.limits_in_step-limits.ensures.value in
    let n : to_z w64 (of_z w64 c.held.result) ≡ c.held.result = through_64 _ c.held.ensures.small in
    let r : to_z w128 (of_z w128 c.held.result) ≡ c.held.result = through _ (omega (arith, c.held.ensures.small)) in
    rw (n, r) (right_held case H known at b c.args.state.now AtHigh c.held.result here has c.in-AtHigh.is (c.held.ensures.value ∙ ap (λ (l : Limits). held l AtHigh (pos 0)) lim))

pub returns-in-AtLow-clause-value : goal.returns-in-AtLow-clause-value
returns-in-AtLow-clause-value c = λ H stands.
    let case = c.args.diagram.now.case.now.parts in
    let at = c.args.at in
    let known = c.args.known.now in
    let b = c.index-as_slice-at.result in
    let read : b ≡ get_or case.blocks at b = rw c.as_slice.ensures at c.index-as_slice-at.is in
    let here : slice_get case.blocks at ≡ Some b = slice_get-get_or case.blocks at b c.requires.there ∙ ap Some (sym read) in
    let law = c.requires.diagram.laws_are at b c.requires.there here in
    let has = stands b here in
    let lim = c.limits_in_step-limits.ensures.value in
    let n : to_z w64 (of_z w64 c.held-in-AtLow.result) ≡ c.held-in-AtLow.result = through_64 _ c.held-in-AtLow.ensures.small in
    let r : to_z w128 (of_z w128 c.held-in-AtLow.result) ≡ c.held-in-AtLow.result = through _ (omega (arith, c.held-in-AtLow.ensures.small)) in
    rw (n, r) (right_held case H known at b c.args.state.now AtLow c.held-in-AtLow.result here has c.in-AtLow.is (c.held-in-AtLow.ensures.value ∙ ap (λ (l : Limits). held l AtLow (pos 0)) lim))
