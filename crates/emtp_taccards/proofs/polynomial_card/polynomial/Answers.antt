use Rattle.std.proofs.Common.{◌≡◌, to_z, of_z}
use mir.Syntax.{w64}
use Rattle.std.proofs.lemmas.Int.{to_z-of_z}
use Rattle.emtp_taccards.proofs.Coefficients.{card_kept}
use Rattle.emtp_taccards.proofs.polynomial_card.polynomial.Goals as goal

pub returns-clause-numbers : goal.returns-clause-numbers
returns-clause-numbers c =
    let dt : to_z w64 (of_z w64 c.args.dt) ≡ c.args.dt = to_z-of_z w64 c.args.dt c.ranges.dt in
    let value = rw dt at c.coefficients.ensures.value in
    card_kept c.args.dt _ c.args.order c.card_due.result c.coefficients.result value c.coefficients.ensures.small c.card_due.ensures.read
