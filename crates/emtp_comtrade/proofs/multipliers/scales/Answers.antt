use Rattle.std.proofs.Common.{rules, w64, to_z, of_z, false, true, ◌∙◌, ◌≡◌, ◌+◌, ◌<◌, ℕ, arith, length, pos, set, slice_index_or, ap, subst, sym, refl}
use Rattle.std.proofs.Math.ListN.{length-set}
use Rattle.emtp_machine.specs.Samples.{value_at, greatest}
use Rattle.emtp_comtrade.specs.Multiplier.{multiplier_of}
use Rattle.emtp_comtrade.specs.Record.{is_status_at, multiplier_at}
use Rattle.emtp_comtrade.specs.held.Multiplier.{IsMultiplier}
use Rattle.emtp_comtrade.specs.held.Record.{MultipliersBelow}
use Rattle.emtp_comtrade.proofs.HeldValues.{value-greatest, value-held}
use Rattle.emtp_comtrade.proofs.ChannelMultipliers.{MultipliersBelow-none, MultipliersBelow-analog, MultipliersBelow-status, analog_before-analog, analog_before-status, analog_before-within}
use Rattle.emtp_comtrade.proofs.multipliers.scales.Goals as goal

pub loop-place-init : goal.loop-place-init
loop-place-init c = record { analog = refl; entries = refl; multipliers = MultipliersBelow-none c.args.case.now.parts c.args.samples.now.rows }

within : (c : goal.After-channel_multiplier) → c.loop-place.analog < 64
within c =
    let p = c.args.case.now.parts in
    omega (arith, analog_before-within p c.loop-place.place (length p.channels) (omega arith) c.args.case.now.fits.draft.counts.channels)

pub offset_bounds-multipliers-analog : goal.offset_bounds-multipliers-analog
offset_bounds-multipliers-analog c = omega (arith, within c)

pub bounds-multipliers-analog : goal.bounds-multipliers-analog
bounds-multipliers-analog c = within c

pub overflow_add-analog : goal.overflow_add-analog
overflow_add-analog c = omega (arith, within c)

pub loop-place-preserved-then-is_status_at : goal.loop-place-preserved-then-is_status_at
loop-place-preserved-then-is_status_at c =
    let p = c.args.case.now.parts in
    let before = c.loop-place.invariant in
    let status : is_status_at p c.loop-place.place ≡ true = sym c.is_status_at.ensures ∙ c.if-is_status_at.true in
    record {
      analog = before.analog ∙ sym (analog_before-status p c.loop-place.place status);
      entries = before.entries;
      multipliers = MultipliersBelow-status p c.args.samples.now.rows c.loop-place.place c.loop-place.multipliers before.multipliers status;
    }

pub loop-place-preserved : goal.loop-place-preserved
loop-place-preserved c =
    let p = c.args.case.now.parts in
    let rows = c.args.samples.now.rows in
    let place = c.loop-place.place in
    let before = c.loop-place.invariant in
    let multiplier = to_z w64 (of_z w64 c.channel_multiplier.result) in
    let magnitudes = c.greatest_magnitudes-magnitudes in
    let value : to_z w64 (of_z w64 c.channel_multiplier.result) ≡ c.channel_multiplier.result = search rules in
    let magnitude : slice_index_or magnitudes.result place 0 ≡ greatest rows place (length rows) = magnitudes.ensures.left place (omega arith) (omega arith) in
    let multiplier_is = c.channel_multiplier.ensures.value ∙ ap (λ (m : ℕ). pos (multiplier_of m)) magnitude in
    let least : IsMultiplier (greatest rows place (length rows)) (multiplier_at rows place) =
    subst (λ (m : ℕ). IsMultiplier m (multiplier_of m)) magnitude c.channel_multiplier.ensures.least in
    let analog : is_status_at p place ≡ false = sym c.is_status_at.ensures ∙ c.if-is_status_at.false in
    let Below : ℕ → Type 0 = λ n. MultipliersBelow p rows (place + 1) (set c.loop-place.multipliers n multiplier) in
    record {
      analog = omega (arith, before.analog, analog_before-analog p place analog);
      entries = length-set c.loop-place.multipliers c.loop-place.analog multiplier ∙ before.entries;
      multipliers = subst Below (sym before.analog)
          (MultipliersBelow-analog p rows place c.loop-place.multipliers multiplier before.multipliers analog (omega (arith, within c, before.analog, before.entries)) (value ∙ multiplier_is) least);
    }

pub returns-clause-held : goal.returns-clause-held
returns-clause-held c = λ sample place taken there analog.
    let rows = c.args.samples.now.rows in
    let least = c.loop-place.invariant.multipliers.least place (omega arith) analog in
    value-held (greatest rows place (length rows)) (multiplier_at rows place) (value_at rows sample place) least
    (value-greatest rows place sample (length rows) taken)
