use Rattle.std.proofs.Common.{◌≡◌, ◌∙◌, ◌<◌, ℕ, ◌^◌, ap, length, slice_get, arith}
use Rattle.emtp_elim.specs.Matrix.{item}
use Rattle.emtp_case.specs.Sums.{sum_below}
use Rattle.emtp_rows.specs.Nodal.{node_at}
use Rattle.emtp_net.specs.System.{at_node, history_at}
use Rattle.emtp_net.proofs.Ends.{ends_more, ends_bound}
use Rattle.emtp_net.proofs.right.add_histories.Goals as goal

pub add_ends-requires-clause-bound : goal.add_ends-requires-clause-bound
add_ends-requires-clause-bound c = λ j below. omega (arith, c.loop-at.invariant.bound j below, c.args.case.now.fits.draft.counts.branches)

pub loop-at-preserved : goal.loop-at-preserved
loop-at-preserved c =
    let case = c.args.case.now.parts in
    let at = c.loop-at.at in
    let ends = c.history.result in
    let added = λ (j : ℕ) (inside : j < length c.loop-at.out). c.add_ends.ensures j inside in
    record {
      value = λ H stands j below.
          let inside : j < length c.loop-at.out = omega (arith, below, c.add_ends.auto.out) in
          ends_more case (history_at case H) (node_at case j) at _ _ ends (c.history.ensures.value H stands) (c.loop-at.invariant.value H stands j inside) (added j inside);
      bound = λ j below.
          let inside : j < length c.loop-at.out = omega (arith, below, c.add_ends.auto.out) in
          ends_bound (node_at case j) at (slice_get case.branches at) (item c.loop-at.out j) (item c.add_ends.new.out j) ends.0 ends.1 (10 ^ 30) c.history.ensures.first c.history.ensures.second (c.loop-at.invariant.bound j inside) (added j inside);
    }

pub returns-clause-bound : goal.returns-clause-bound
returns-clause-bound c = λ j below. omega (arith, c.loop-at.invariant.bound j (omega (arith, below)), c.args.case.now.fits.draft.counts.branches)

pub returns-clause-value : goal.returns-clause-value
returns-clause-value c = λ H stands j below.
    let case = c.args.case.now.parts in
    let end : c.loop-at.at ≡ length case.branches = omega arith in
    c.loop-at.invariant.value H stands j (omega (arith, below)) ∙ ap (λ n. sum_below n (λ b. at_node (node_at case j) (slice_get case.branches b) (history_at case H b))) end
