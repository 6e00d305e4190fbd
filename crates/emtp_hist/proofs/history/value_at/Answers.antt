use Rattle.std.proofs.lemmas.Option.{unwrap_or-slice_get}
use Rattle.std.proofs.Common.{◌∙◌, ap, pos, ℤ, Option, unwrap_or}
use Rattle.emtp_hist.proofs.history.value_at.Goals as goal

pub returns-in-None : goal.returns-in-None
returns-in-None c =
    ap (λ (o : Option ℤ). unwrap_or o (pos 0)) c.in-None.ensures
    ∙ unwrap_or-slice_get c.args.newest_first.now.items c.args.place (pos 0)
