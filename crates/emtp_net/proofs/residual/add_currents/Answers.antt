use Rattle.std.proofs.Common.{◌≡◌, ◌∙◌, ◌<◌, ℕ, ◌^◌, ap, length, slice_get, arith}
use Rattle.emtp_elim.specs.Matrix.{item}
use Rattle.emtp_case.specs.Sums.{sum_below}
use Rattle.emtp_rows.specs.Nodal.{node_at}
use Rattle.emtp_net.specs.System.{at_node}
use Rattle.emtp_net.specs.Part.{brought_by}
use Rattle.emtp_net.proofs.Ends.{ends_more, ends_bound}
use Rattle.emtp_net.proofs.residual.add_currents.Goals as goal

pub add_ends-requires-clause-bound : goal.add_ends-requires-clause-bound
add_ends-requires-clause-bound c = λ j below. omega (arith, c.loop-at.invariant.bound j below, c.args.case.now.fits.draft.counts.branches)

pub loop-at-preserved : goal.loop-at-preserved
loop-at-preserved c =
    let case = c.args.case.now.parts in
    let at = c.loop-at.at in
    let ends = c.brought.result in
    let added = λ (j : ℕ) (inside : j < length c.loop-at.out). c.add_ends.ensures j inside in
    record {
      value = λ H vs r next moved j below.
          let inside : j < length c.loop-at.out = omega (arith, below, c.add_ends.auto.out) in
          ends_more case (λ b. brought_by (slice_get r.branches b)) (node_at case j) at _ _ ends (c.brought.ensures.value H vs r next moved) (c.loop-at.invariant.value H vs r next moved j inside) (added j inside);
      bound = λ j below.
          let inside : j < length c.loop-at.out = omega (arith, below, c.add_ends.auto.out) in
          ends_bound (node_at case j) at (slice_get case.branches at) (item c.loop-at.out j) (item c.add_ends.new.out j) ends.0 ends.1 (10 ^ 19) c.brought.ensures.first c.brought.ensures.second (c.loop-at.invariant.bound j inside) (added j inside);
    }

pub returns-clause-bound : goal.returns-clause-bound
returns-clause-bound c = λ j below. omega (arith, c.loop-at.invariant.bound j (omega (arith, below)), c.args.case.now.fits.draft.counts.branches)

pub returns-clause-value : goal.returns-clause-value
returns-clause-value c = λ H vs r next moved j below.
    let case = c.args.case.now.parts in
    let end : c.loop-at.at ≡ length case.branches = omega arith in
    c.loop-at.invariant.value H vs r next moved j (omega (arith, below)) ∙ ap (λ n. sum_below n (λ b. at_node (node_at case j) (slice_get case.branches b) (brought_by (slice_get r.branches b)))) end
