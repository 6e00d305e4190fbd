use Rattle.std.proofs.Common.{◌≡◌, length, ap, sym, ◌∙◌, arith}
use Rattle.emtp_tail.proofs.GivenRows.{length-rows_in}
use Rattle.emtp_tail.specs.held.Good.{Good}
use Rattle.emtp_tail.proofs.kept.Kept.good.Goals as goal

pub returns-clause-count : goal.returns-clause-count
returns-clause-count c =
    c.rows.ensures.count
    ∙ sym (length-rows_in c.self.inside.size (length c.self.inside.done.rows) c.self.inside.given.items)
    ∙ ap (λ (v : Good). length v.rows) c.self.view_is

pub returns-clause-within : goal.returns-clause-within
returns-clause-within c =
    let sized : c.self.inside.size ≡ c.args.self.now.size = ap (λ (v : Good). v.size) c.self.view_is in
    omega (arith, c.self.invariant.within, c.rows.ensures.count, sized)
