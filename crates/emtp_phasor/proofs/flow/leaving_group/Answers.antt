use Rattle.emtp_case.specs.declared.limit.TheConstants.{MOST_NODES}
use Rattle.std.proofs.Common.{◌∙◌, ◌<◌, ◌≤◌, sym, ap, ℕ, ℤ, length, arith}
use Rattle.std.proofs.lemmas.Int.{ints}
use Rattle.std.proofs.lemmas.List.{take_all}
use Rattle.std.proofs.lemmas.List.Elements.{All-get_or}
use Rattle.emtp_fix.proofs.Wide.{fits}
use Rattle.emtp_case.specs.Sums.{total}
use Rattle.emtp_case.specs.NodeRows.{node_at}
use Rattle.emtp_phasor.specs.Steady.{leaving_node}
use Rattle.emtp_phasor.proofs.BranchLists.{place_total_more}
use Rattle.emtp_phasor.proofs.GroupLists.{group_read, groups_count, members_few, members_there, members_total}
use Rattle.emtp_phasor.proofs.flow.leaving_group.Goals as goal

pub bounds-groups-row : goal.bounds-groups-row
bounds-groups-row c = omega (arith, c.requires.row, c.requires.network.kinds_count, ap length c.requires.network.groups_are, groups_count c.args.network.kinds.now)

pub leaving-sum-requires-clause-row : goal.leaving-sum-requires-clause-row
leaving-sum-requires-clause-row c =
    let kinds = c.args.network.kinds.now in
    let size = length c.args.network.case.now.parts.nodes in
    let members = c.as_slice-members.result.now in
    let are = group_read kinds c.args.network.groups.now c.args.row _ c.index-groups-row.result members c.requires.network.groups_are c.requires.network.kinds_count c.requires.row c.index-groups-row.is c.as_slice-members.ensures in
    All-get_or (λ k. k < size) members c.loop-member.member-index 0 c.loop-member-test.true (members_there kinds c.args.row size members c.requires.network.kinds_count are)

pub overflow_add-sum : goal.overflow_add-sum
overflow_add-sum c =
    let kinds = c.args.network.kinds.now in
    let members = c.as_slice-members.result.now in
    let are = group_read kinds c.args.network.groups.now c.args.row _ c.index-groups-row.result members c.requires.network.groups_are c.requires.network.kinds_count c.requires.row c.index-groups-row.is c.as_slice-members.ensures in
    let few : c.loop-member.member-index < MOST_NODES = omega (arith, c.loop-member-test.true, members_few kinds c.args.row members are, c.requires.network.kinds_count, c.args.network.case.now.fits.draft.counts.nodes) in
    fits _ (omega (arith, ints, c.leaving-sum.ensures.bound, c.loop-member.invariant.small, few))

pub loop-member-preserved : goal.loop-member-preserved
loop-member-preserved c =
    let case = c.args.network.case.now.parts in
    let kinds = c.args.network.kinds.now in
    let members = c.as_slice-members.result.now in
    let are = group_read kinds c.args.network.groups.now c.args.row _ c.index-groups-row.result members c.requires.network.groups_are c.requires.network.kinds_count c.requires.row c.index-groups-row.is c.as_slice-members.ensures in
    let few : c.loop-member.member-index < MOST_NODES = omega (arith, c.loop-member-test.true, members_few kinds c.args.row members are, c.requires.network.kinds_count, c.args.network.case.now.fits.draft.counts.nodes) in
    let F : ℕ → ℤ = λ k. leaving_node case c.args.network.ports.now c.args.volts.now c.args.imaginary (node_at case k) in
    record {
      sum_is = place_total_more F members c.loop-member.member-index _ c.leaving-sum.result _ c.loop-member-test.true c.leaving-sum.ensures.value
          c.loop-member.invariant.sum_is (omega (arith, ints, c.leaving-sum.ensures.bound, c.loop-member.invariant.small, few));
      small = omega (arith, ints, c.leaving-sum.ensures.bound, c.loop-member.invariant.small, few);
    }

pub returns-clause-value : goal.returns-clause-value
returns-clause-value c =
    let case = c.args.network.case.now.parts in
    let kinds = c.args.network.kinds.now in
    let members = c.as_slice-members.result.now in
    let are = group_read kinds c.args.network.groups.now c.args.row _ c.index-groups-row.result members c.requires.network.groups_are c.requires.network.kinds_count c.requires.row c.index-groups-row.is c.as_slice-members.ensures in
    let F : ℕ → ℤ = λ k. leaving_node case c.args.network.ports.now c.args.volts.now c.args.imaginary (node_at case k) in
    c.loop-member.invariant.sum_is ∙ ap (total F) (take_all c.loop-member.member-index members (omega (arith, c.loop-member-test.false))) ∙ members_total kinds c.args.row (length case.nodes) members F (sym c.requires.network.kinds_count) are

pub returns-clause-bound : goal.returns-clause-bound
returns-clause-bound c =
    let kinds = c.args.network.kinds.now in
    let members = c.as_slice-members.result.now in
    let are = group_read kinds c.args.network.groups.now c.args.row _ c.index-groups-row.result members c.requires.network.groups_are c.requires.network.kinds_count c.requires.row c.index-groups-row.is c.as_slice-members.ensures in
    let few : c.loop-member.member-index ≤ MOST_NODES = omega (arith, c.loop-member.auto.member-index-end, members_few kinds c.args.row members are, c.requires.network.kinds_count, c.args.network.case.now.fits.draft.counts.nodes) in
    omega (arith, ints, c.loop-member.invariant.small, few)
