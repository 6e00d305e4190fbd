use Rattle.std.proofs.Common.{◌≡◌, ◌∙◌, ◌+ℤ◌, neg_ℤ, ap, length, arith}
use Rattle.std.proofs.lemmas.Int.{ints}
use Rattle.emtp_net.proofs.Residuals.{leaving_is}
use Rattle.emtp_net.specs.System.{source_value, sources_into}
use Rattle.emtp_rows.specs.Nodal.{node_at}
use Rattle.emtp_net.proofs.residual.fill_leaving.Goals as goal

pub returns-clause-value : goal.returns-clause-value
returns-clause-value c = λ H vs r next moved values.
    let case = c.args.network.case.now.parts in
    let n = length case.nodes in
    let s1 : length c.add_currents.new.out ≡ n = omega (arith, c.add_currents.auto.out, c.fill.ensures.len, c.requires.out) in
    let s2 : length c.add_sources.new.out ≡ n = omega (arith, c.add_sources.auto.out, s1) in
    let s3 : length c.turn.new.sums ≡ n = omega (arith, c.turn.auto.sums, s2) in
    leaving_is case H r.branches c.turn.new.sums s3 (λ j below.
    c.turn.ensures j (omega (arith, below, s2))
    ∙ ap neg_ℤ (c.add_sources.ensures.value (source_value case H) values j (omega (arith, below, s1)))
    ∙ ap (λ x. neg_ℤ (x +ℤ sources_into case H (node_at case j))) (c.add_currents.ensures.value H vs r next moved j (omega (arith, below, s1, c.add_currents.auto.out))))

pub returns-clause-small : goal.returns-clause-small
returns-clause-small c = λ j below.
    let one = c.add_currents.ensures.bound j (omega (arith, below, c.fill.ensures.len)) in
    let two = c.add_sources.ensures.bound j (omega (arith, below, c.add_currents.auto.out, c.fill.ensures.len)) in
    let three = c.turn.ensures j (omega (arith, below, c.add_sources.auto.out, c.add_currents.auto.out, c.fill.ensures.len)) in
    omega (arith, ints, one, two, three)
