use Rattle.std.proofs.Common.{◌≡◌, ◌∙◌, ◌<◌, ◌+ℤ◌, ap, length, take, to_z, of_z, ℕ, pos, FitsSigned, rules, arith}
use mir.Syntax.{w128, w64}
use Rattle.std.proofs.lemmas.Int.{ints, to_z-of_z}
use Rattle.std.proofs.lemmas.List.{get_or-map, take_all}
use Rattle.emtp_elim.specs.Matrix.{item}
use Rattle.emtp_net.specs.held.Rights.{brought}
use Rattle.emtp_rows.specs.Nodal.{node_at}
use Rattle.emtp_net.proofs.Sourcing.{source_more, source_small}
use Rattle.emtp_net.proofs.right.add_sources.Goals as goal

pub loop-at-preserved : goal.loop-at-preserved
loop-at-preserved c =
    let case = c.args.case.now.parts in
    let at = c.loop-at.at in
    let inside : at < length case.sources = omega (arith, c.loop-at-test.true, ap length c.as_slice-sources.ensures) in
    let wide : to_z w128 (of_z w128 c.current_of.result) ≡ c.current_of.result = omega (arith, ints, c.current_of.ensures.small) in
    let added = λ (j : ℕ) (below : j < length c.loop-at.out). rw (wide, c.as_slice-sources.ensures) at (c.add_at.ensures j below) in
    let fits : FitsSigned w64 (item c.args.values.now at) = search rules in
    let same : to_z w64 (of_z w64 (item c.args.values.now at)) ≡ item c.args.values.now at = to_z-of_z w64 _ fits in
    let amount = rw (same, c.as_slice-sources.ensures) at c.current_of.ensures.value in
    record {
      value = λ f is j below.
          let here : j < length c.loop-at.out = omega (arith, below, c.add_at.auto.out) in
          source_more f case.sources at (node_at case j) _ _ (item c.args.out.now j) (item c.loop-at.out j) (item c.add_at.new.out j) c.current_of.result inside (ap (λ xs. item xs at) is ∙ get_or-map f case.sources at _ (pos 0) inside) amount (c.loop-at.invariant.value f is j here) (added j here);
      bound = λ j below.
          let here : j < length c.loop-at.out = omega (arith, below, c.add_at.auto.out) in
          source_small _ (item c.args.out.now j) (item c.loop-at.out j) (item c.add_at.new.out j) c.current_of.result at c.current_of.ensures.small (c.loop-at.invariant.bound j here) (added j here);
    }

pub returns-clause-value : goal.returns-clause-value
returns-clause-value c = λ f is j below.
    let case = c.args.case.now.parts in
    let all : take c.loop-at.at case.sources ≡ case.sources = take_all c.loop-at.at case.sources (omega (arith, c.loop-at-test.false, ap length c.as_slice-sources.ensures)) in
    c.loop-at.invariant.value f is j (omega (arith, below, c.loop-at.auto.out)) ∙ ap (λ xs. item c.args.out.now j +ℤ brought f (node_at case j) xs) all
