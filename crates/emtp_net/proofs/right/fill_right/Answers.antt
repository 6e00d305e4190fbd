use Rattle.std.proofs.Common.{◌≡◌, ◌∙◌, ◌+ℤ◌, ap, length, arith}
use Rattle.std.proofs.lemmas.List.FromFn.{length-map-range_with_len}
use Rattle.emtp_rows.specs.Nodal.{node_at}
use Rattle.emtp_net.specs.held.Rights.{place_at}
use Rattle.emtp_net.specs.System.{source_value, sources_into}
use Rattle.emtp_net.proofs.Righting.{right_is}
use Rattle.emtp_net.proofs.right.fill_right.Goals as goal

pub returns : goal.returns
returns c = λ H stands kinds values.
    let case = c.args.network.case.now.parts in
    let n = length case.nodes in
    let s1 : length c.add_histories.new.out ≡ n = omega (arith, c.add_histories.auto.out, c.fill.ensures.len, c.requires.out) in
    let s2 : length c.add_sources.new.out ≡ n = omega (arith, c.add_sources.auto.out, s1) in
    let s3 : length c.fold.new.sums ≡ n = omega (arith, c.fold.auto.sums, s2) in
    let s4 : length c.set_rows.new.out ≡ n = omega (arith, c.set_rows.auto.out, s3) in
    right_is case H c.args.rows.kinds.now c.add_sources.new.out c.fold.new.sums c.set_rows.new.out c.args.rows.values.now c.args.rows.places.now kinds c.requires.kinds values c.requires.places s4
    (λ k below.
    c.add_sources.ensures.value (source_value case H) values k (omega (arith, below, s1))
    ∙ ap (λ x. x +ℤ sources_into case H (node_at case k)) (c.add_histories.ensures.value H stands k (omega (arith, below, s1, c.add_histories.auto.out))))
    (λ j below sum. c.fold.ensures.groups.sum j (omega (arith, below, s2)) sum)
    (λ j below kcl. c.fold.ensures.groups.node j (omega (arith, below, s2)) kcl)
    (λ j below. c.set_rows.ensures j (omega (arith, below, s3)))

pub set_rows-requires-clause-places : goal.set_rows-requires-clause-places
set_rows-requires-clause-places c =
    let case = c.args.network.case.now.parts in
    omega (arith, ap length c.requires.places, length-map-range_with_len (place_at case) 0 (length case.nodes), c.fold.auto.sums, c.add_sources.auto.out, c.add_histories.auto.out, c.fill.ensures.len, c.requires.out)
