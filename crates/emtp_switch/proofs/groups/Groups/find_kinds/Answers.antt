use Rattle.std.proofs.Common.{◌≡◌, ◌≤◌, ◌+◌, length, map, slice_index, ap, ◌∙◌, arith}
use Rattle.std.proofs.lemmas.List.{with_items_is}
use Rattle.std.proofs.lemmas.List.FromFn.{length-map-range_with_len}
use Rattle.emtp_switch.specs.Groups.{root_of}
use Rattle.emtp_switch.specs.held.Tallies.{ends_of, kind_found, tally_of}
use Rattle.emtp_switch.proofs.GroupRoots.{root_within}
use Rattle.emtp_switch.proofs.Regrouping.{kinds_found, ranked_is}
use Rattle.emtp_switch.proofs.groups.Groups.find_kinds.Goals as goal

pub count-requires-clause-ends : goal.count-requires-clause-ends
count-requires-clause-ends c =
    ap length (c.deref-2.ensures.value ∙ c.requires.plan.ends) ∙ length-map-range_with_len (ends_of c.args.case.now.parts) 0 (length c.args.order.now.nodes + 1)

pub find_kinds-requires-clause-roots : goal.find_kinds-requires-clause-roots
find_kinds-requires-clause-roots c = λ x below.
    let rows = c.args.order.now in
    let labels = c.args.self.now.labels.items in
    let in_x : x ≤ length rows.nodes = omega (arith, ap length c.deref-3.ensures.value, c.requires.room.labels_size, c.requires.plan.same_nodes) in
    let is : slice_index c.deref-4.result.now (slice_index c.deref-3.result.now x) ≡ root_of rows labels x
    = ap (λ l. slice_index l (slice_index c.deref-3.result.now x)) c.deref-4.ensures.value ∙ ap (λ l. slice_index c.args.self.now.roots.items (slice_index l x)) c.deref-3.ensures.value ∙ c.requires.roots x in_x in
    omega (arith, is, root_within rows labels c.args.plan.now.ranked.items (ranked_is c.args.case.now.parts rows c.args.plan.now c.requires.plan) x in_x)

pub returns-clause-kinds : goal.returns-clause-kinds
returns-clause-kinds c =
    let p = c.args.case.now.parts in
    let rows = c.args.order.now in
    let labels = c.args.self.now.labels.items in
    let roots = c.args.self.now.roots.items in
    let tallies = c.count.new.tallies in
    let ends = c.args.plan.now.ends.items in
    let same : c.deref-5.result.now ≡ tallies = c.deref-5.ensures.value ∙ with_items_is c.args.self.now.tallies tallies (c.count.auto.tallies ∙ c.deref_mut.ensures.len) in
    with_items_is c.args.self.now.kinds c.find_kinds.new.kinds (c.find_kinds.auto.kinds ∙ c.deref_mut-2.ensures.len) ∙ c.find_kinds.ensures
    ∙ ap (λ l. map (kind_found rows l c.deref-4.result.now c.deref-5.result.now) rows.nodes) c.deref-3.ensures.value ∙ ap (λ l. map (kind_found rows labels l c.deref-5.result.now) rows.nodes) c.deref-4.ensures.value
    ∙ ap (λ l. map (kind_found rows labels roots l) rows.nodes) same
    ∙ kinds_found p rows c.args.plan.now labels roots tallies c.requires.plan c.requires.roots
    (λ x in_x.
    let l = slice_index labels x in
    c.count.ensures l (omega (arith, c.requires.labels x in_x, ap length c.deref_mut.ensures.value, c.requires.room.tallies_size, c.requires.plan.same_nodes))
    ∙ ap (λ k. tally_of rows.nodes k c.deref-2.result.now l) c.deref.ensures.value ∙ ap (λ e. tally_of rows.nodes labels e l) c.deref-2.ensures.value)

pub returns-clause-room : goal.returns-clause-room
returns-clause-room c =
    let s = c.args.self.now in
    let room = c.requires.room in
    record {
      labels_size = room.labels_size;
      knowing_size = room.knowing_size;
      bridges_size = room.bridges_size;
      roots_size = room.roots_size;
      reached_size = room.reached_size;
      links_size = room.links_size;
      tallies_size = rw (with_items_is s.tallies c.count.new.tallies (c.count.auto.tallies ∙ c.deref_mut.ensures.len)) (omega (arith, c.count.auto.tallies, ap length c.deref_mut.ensures.value, room.tallies_size));
      kinds_size = rw (with_items_is s.kinds c.find_kinds.new.kinds (c.find_kinds.auto.kinds ∙ c.deref_mut-2.ensures.len)) (omega (arith, c.find_kinds.auto.kinds, ap length c.deref_mut-2.ensures.value, room.kinds_size));
    }
