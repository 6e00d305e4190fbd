use Rattle.std.proofs.Common.{◌<◌, ◌≤◌, ◌/◌, ◌∙◌, ◌+ℤ◌, ap, sym, ℕ, ℤ, get_or, length, refl, arith}
use Rattle.std.proofs.lemmas.Int.{ints}
use Rattle.std.proofs.lemmas.List.{take_all}
use Rattle.std.proofs.lemmas.List.Elements.{All-get_or}
use Rattle.emtp_elim.specs.Matrix.{item}
use Rattle.emtp_case.specs.NodeRows.{node_at}
use Rattle.emtp_case.specs.Sums.{total}
use Rattle.emtp_case.specs.declared.limit.TheConstants.{MOST_NODES}
use Rattle.emtp_admittance.specs.Admittances.{is_imaginary}
use Rattle.emtp_phasor.specs.Doubled.{admittance_entry}
use Rattle.emtp_phasor.proofs.BranchLists.{place_sum_more}
use Rattle.emtp_phasor.proofs.GroupLists.{group_read, groups_count, members_few, members_small, members_there, members_total}
use Rattle.emtp_phasor.proofs.fill.add_group.Goals as goal

pub bounds-groups-row : goal.bounds-groups-row
bounds-groups-row c = omega (arith, c.requires.row, c.requires.network.kinds_count, ap length c.requires.network.groups_are, groups_count c.args.network.kinds.now)

pub add_node-requires-clause-row : goal.add_node-requires-clause-row
add_node-requires-clause-row c =
    let kinds = c.args.network.kinds.now in
    let size = length c.args.network.case.now.parts.nodes in
    let members = c.as_slice-members.result.now in
    let are = group_read kinds c.args.network.groups.now c.args.row _ c.index-groups-row.result members c.requires.network.groups_are c.requires.network.kinds_count c.requires.row c.index-groups-row.is c.as_slice-members.ensures in
    All-get_or (λ k. k < size) members c.loop-member.member-index 0 c.loop-member-test.true (members_there kinds c.args.row size members c.requires.network.kinds_count are)

pub add_node-requires-clause-out : goal.add_node-requires-clause-out
add_node-requires-clause-out c = c.loop-member.invariant.same ∙ c.requires.out

pub add_node-requires-clause-bound : goal.add_node-requires-clause-bound
add_node-requires-clause-bound c = λ j below.
    let case = c.args.network.case.now.parts in
    let kinds = c.args.network.kinds.now in
    let members = c.as_slice-members.result.now in
    let are = group_read kinds c.args.network.groups.now c.args.row _ c.index-groups-row.result members c.requires.network.groups_are c.requires.network.kinds_count c.requires.row c.index-groups-row.is c.as_slice-members.ensures in
    let few : length members ≤ MOST_NODES = omega (arith, members_few kinds c.args.row members are, c.requires.network.kinds_count, c.args.network.case.now.fits.draft.counts.nodes) in
    let small = members_small case c.args.network.ports.now c.args.imaginary (is_imaginary j) (node_at case (j / 2)) c.loop-member.member-index members c.requires.network.small c.loop-member.auto.member-index-end few c.args.network.case.now.fits.draft.counts.branches in
    omega (arith, ints, c.loop-member.invariant.value j below, c.requires.bound j (omega (arith, below, c.loop-member.invariant.same)), small)

pub loop-member-preserved : goal.loop-member-preserved
loop-member-preserved c =
    let case = c.args.network.case.now.parts in
    let i = c.loop-member.member-index in
    let members = c.as_slice-members.result.now in
    record {
      same = c.add_node.ensures.same ∙ c.loop-member.invariant.same;
      value = λ j below.
          let here : j < length c.loop-member.out = omega (arith, below, c.add_node.ensures.same) in
          let F : ℕ → ℤ = λ k. admittance_entry case c.args.network.ports.now c.args.imaginary (is_imaginary j) (node_at case k) (node_at case (j / 2)) in
          place_sum_more F members i _ _ (F (get_or members i 0)) _ c.loop-member-test.true refl (c.loop-member.invariant.value j here) (c.add_node.ensures.value j here);
    }

pub returns-clause-same : goal.returns-clause-same
returns-clause-same c = c.loop-member.invariant.same

pub returns-clause-value : goal.returns-clause-value
returns-clause-value c = λ j below.
    let case = c.args.network.case.now.parts in
    let kinds = c.args.network.kinds.now in
    let members = c.as_slice-members.result.now in
    let are = group_read kinds c.args.network.groups.now c.args.row _ c.index-groups-row.result members c.requires.network.groups_are c.requires.network.kinds_count c.requires.row c.index-groups-row.is c.as_slice-members.ensures in
    let F : ℕ → ℤ = λ k. admittance_entry case c.args.network.ports.now c.args.imaginary (is_imaginary j) (node_at case k) (node_at case (j / 2)) in
    c.loop-member.invariant.value j (omega (arith, below, c.loop-member.invariant.same))
    ∙ ap (λ xs. item c.args.out.now j +ℤ total F xs) (take_all c.loop-member.member-index members (omega (arith, c.loop-member-test.false)))
    ∙ ap (λ s. item c.args.out.now j +ℤ s) (members_total kinds c.args.row (length case.nodes) members F (sym c.requires.network.kinds_count) are)
