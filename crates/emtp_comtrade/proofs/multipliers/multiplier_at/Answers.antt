use Rattle.std.proofs.Common.{rules, ◌≡◌, ◌<◌, ℕ, pos, ap, arith, ◌∙◌, length, slice_index_or, to_z, of_z, w64}
use Rattle.std.proofs.lemmas.Int.{ints}
use Rattle.emtp_comtrade.specs.Record.{multiplier_at}
use Rattle.emtp_comtrade.proofs.ChannelMultipliers.{analog_before-within}
use Rattle.emtp_comtrade.proofs.LeastMultiplier.{multiplier-positive}
use Rattle.emtp_comtrade.proofs.multipliers.multiplier_at.Goals as goal

pub offset_bounds-multipliers-analog : goal.offset_bounds-multipliers-analog
offset_bounds-multipliers-analog c =
    omega (arith, analog_before-within c.args.case.now.parts c.args.place (length c.args.case.now.parts.channels) c.requires.place c.args.case.now.fits.draft.counts.channels)

pub bounds-multipliers-analog : goal.bounds-multipliers-analog
bounds-multipliers-analog c =
    omega (arith, analog_before-within c.args.case.now.parts c.args.place (length c.args.case.now.parts.channels) c.requires.place c.args.case.now.fits.draft.counts.channels)

pub returns-clause-few : goal.returns-clause-few
returns-clause-few c =
    omega (arith, analog_before-within c.args.case.now.parts c.args.place (length c.args.case.now.parts.channels) c.requires.place c.args.case.now.fits.draft.counts.channels)

pub returns-clause-value : goal.returns-clause-value
returns-clause-value c = λ samples multipliers.
    let entry : slice_index_or c.args.multipliers.now c.args.analog (pos 0) ≡ pos (multiplier_at samples c.args.place) =
    ap (λ (n : ℕ). slice_index_or c.args.multipliers.now n (pos 0)) c.requires.analog
    ∙ multipliers.analog c.args.place c.requires.place c.requires.kind in
    search (rules, entry)

pub returns-clause-positive : goal.returns-clause-positive
returns-clause-positive c = λ samples multipliers.
    let entry : slice_index_or c.args.multipliers.now c.args.analog (pos 0) ≡ pos (multiplier_at samples c.args.place) =
    ap (λ (n : ℕ). slice_index_or c.args.multipliers.now n (pos 0)) c.requires.analog
    ∙ multipliers.analog c.args.place c.requires.place c.requires.kind in
    let value : to_z w64 (of_z w64 (slice_index_or c.args.multipliers.now c.args.analog (pos 0))) ≡ pos (multiplier_at samples c.args.place) =
    search (rules, entry) in
    let positive : 0 < multiplier_at samples c.args.place = multiplier-positive _ _ (multipliers.least c.args.place c.requires.place c.requires.kind) in
    rw value (omega (arith, ints, positive))
