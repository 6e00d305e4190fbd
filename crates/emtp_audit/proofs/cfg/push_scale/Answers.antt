use Rattle.emtp_case.specs.declared.limit.TheConstants.{MOST_CHANNELS}
use Rattle.std.proofs.Common.{◌≤◌, ◌∷◌, [], length, arith, sym, subst}
use Rattle.std.specs.Prelude.{All}
use Rattle.std.proofs.lemmas.List.Elements.{All-append, All-cons, All-nil}
use Rattle.emtp_comtrade.specs.Record.{is_analog_at}
use Rattle.emtp_comtrade.proofs.Places.{count_below-le}
use Rattle.emtp_audit.specs.held.Dat.{IsScale}
use Rattle.emtp_audit.proofs.cfg.push_scale.Goals as goal

pub overflow_cast-len : goal.overflow_cast-len
overflow_cast-len c =
    let few : length c.args.case.now.parts.channels ≤ MOST_CHANNELS = c.args.case.now.fits.draft.counts.channels in
    omega (arith, few, count_below-le (is_analog_at c.args.case.now.parts) c.args.place, c.requires.analog)

pub returns-in-Ok-push-clause-are : goal.returns-in-Ok-push-clause-are
returns-in-Ok-push-clause-are c =
    subst (All IsScale) (sym c.in-Ok-push.ensures.items)
    (All-append IsScale c.args.scales.now.items (c.in-Ok.scale ∷ []) c.requires.are (All-cons IsScale c.in-Ok.scale [] c.in-Ok.ensures.limits (All-nil IsScale)))
