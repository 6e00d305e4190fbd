use Rattle.std.proofs.Common.{◌≡◌, ◌+◌, ◌<◌, ◌==◌, ℕ, get_or, length, slice_index, take, ap, sym, ◌∙◌, subst, arith}
use Rattle.std.specs.List.{All}
use Rattle.std.proofs.lemmas.List.{with_items_is}
use Rattle.emtp_switch.specs.Groups.{alone, groups}
use Rattle.std.specs.Vec.{with_items}
use Rattle.emtp_switch.specs.held.Tree.{AreLinks, StartsAtRoots, is_reached, root_in}
use Rattle.emtp_switch.proofs.GroupRoots.{ground_reached, roots_are, roots_start}
use Rattle.emtp_switch.proofs.Regrouping.{labels_small, ranked_is, tree_found}
use Rattle.emtp_switch.proofs.groups.Groups.grow.Goals as goal

pub find_roots-requires-clause-labels : goal.find_roots-requires-clause-labels
find_roots-requires-clause-labels c =
    labels_small c.args.case.now.parts.switches (length c.args.order.now.nodes) (take c.args.bridges c.args.self.now.bridges.items) c.deref-2.result.now (length c.deref_mut.result.now) c.requires.plan.ends_within
    (c.deref-2.ensures.value ∙ c.requires.labels) (omega (arith, ap length c.deref_mut.ensures.value, c.requires.room.roots_size, c.requires.plan.same_nodes))

pub mark-requires-clause-labels : goal.mark-requires-clause-labels
mark-requires-clause-labels c =
    let roots = c.find_roots.new.roots in
    let same : c.deref-3.result.now ≡ roots = c.deref-3.ensures.value ∙ with_items_is c.args.self.now.roots roots (c.find_roots.auto.roots ∙ c.deref_mut.ensures.len) in
    labels_small c.args.case.now.parts.switches (length c.args.order.now.nodes) (take c.args.bridges c.args.self.now.bridges.items) c.deref-4.result.now (length c.deref-3.result.now) c.requires.plan.ends_within
    (c.deref-4.ensures.value ∙ c.requires.labels) (omega (arith, ap length same, ap length c.deref_mut.ensures.value, c.requires.room.roots_size, c.requires.plan.same_nodes))

pub returns-clause-roots : goal.returns-clause-roots
returns-clause-roots c = λ x in_x.
    let rows = c.args.order.now in
    let labels = c.args.self.now.labels.items in
    let ranked = c.args.plan.now.ranked.items in
    let roots = c.find_roots.new.roots in
    let before : ℕ → ℕ = λ l. slice_index c.deref_mut.result.now l in
    let kept : (with_items c.args.self.now.roots roots).items ≡ roots = with_items_is c.args.self.now.roots roots (c.find_roots.auto.roots ∙ c.deref_mut.ensures.len) in
    ap (λ l. slice_index l (slice_index labels x)) kept
    ∙ roots_are rows labels ranked roots before (ranked_is c.args.case.now.parts rows c.args.plan.now c.requires.plan) (omega (arith, c.requires.room.labels_size, c.requires.plan.same_nodes))
    (labels_small c.args.case.now.parts.switches (length rows.nodes) (take c.args.bridges c.args.self.now.bridges.items) labels (length roots) c.requires.plan.ends_within c.requires.labels
    (omega (arith, ap length c.deref_mut.ensures.value, c.requires.room.roots_size, c.requires.plan.same_nodes)))
    (λ l below. c.find_roots.ensures l (omega arith) ∙ ap (λ k. root_in k c.deref-2.result.now l (before l)) c.deref.ensures.value ∙ ap (λ k. root_in ranked k l (before l)) c.deref-2.ensures.value) x in_x

pub returns-clause-tree : goal.returns-clause-tree
returns-clause-tree c =
    let p = c.args.case.now.parts in
    let rows = c.args.order.now in
    let n = length rows.nodes in
    let labels = c.args.self.now.labels.items in
    let es = take c.args.bridges c.args.self.now.bridges.items in
    let read = c.as_slice-switches.result.now in
    let taken = take c.args.bridges c.deref-5.result.now in
    let same_es : taken ≡ es = ap (take c.args.bridges) c.deref-5.ensures.value in
    let reached = c.deref_mut-3.result.now in
    let same_reached : reached ≡ c.mark.new.reached = c.deref_mut-3.ensures.value ∙ with_items_is c.args.self.now.reached c.mark.new.reached (c.mark.auto.reached ∙ c.deref_mut-2.ensures.len) in
    let size : length labels ≡ n + 1 = omega (arith, c.requires.room.labels_size, c.requires.plan.same_nodes) in
    let start : StartsAtRoots rows labels reached = roots_start rows labels c.args.plan.now.ranked.items c.deref-3.result.now reached (ranked_is p rows c.args.plan.now c.requires.plan) size
    (λ x in_x. ap (λ l. slice_index l (slice_index labels x)) c.deref-3.ensures.value ∙ returns-clause-roots c x in_x)
    (λ x below. ap (λ l. is_reached l x) same_reached ∙ c.mark.ensures x (omega (arith, ap length c.deref-4.ensures.value)) ∙ ap (λ l. slice_index c.deref-3.result.now (slice_index l x) == x) c.deref-4.ensures.value) in
    let by_bridges : labels ≡ groups read (alone n) taken = c.requires.labels ∙ ap (groups p.switches (alone n)) (sym same_es) ∙ ap (λ sw. groups sw (alone n) taken) (sym c.as_slice-switches.ensures) in
    tree_found p.switches read rows es taken labels (take c.grow-self.result c.grow-self.new.links) (take c.grow-self.result (with_items c.args.self.now.links c.grow-self.new.links).items) c.as_slice-switches.ensures same_es c.requires.labels
    (ap (take c.grow-self.result) (with_items_is c.args.self.now.links c.grow-self.new.links (c.grow-self.auto.links ∙ c.deref_mut-4.ensures.len)))
    (c.grow-self.ensures.tree (subst (λ l. StartsAtRoots rows l reached) by_bridges start))

pub find_roots-requires-clause-ranked : goal.find_roots-requires-clause-ranked
find_roots-requires-clause-ranked c = λ k d below.
    let ranked = ranked_is c.args.case.now.parts c.args.order.now c.args.plan.now c.requires.plan in
    let inside : k < length c.args.plan.now.ranked.items = omega (arith, ap length c.deref.ensures.value, below) in
    omega (arith, ranked.within k d inside, ap (λ l. get_or l k d) c.deref.ensures.value, ap length c.deref-2.ensures.value, c.requires.room.labels_size, c.requires.plan.same_nodes)

pub grow-self-requires-clause-ground : goal.grow-self-requires-clause-ground
grow-self-requires-clause-ground c =
    let rows = c.args.order.now in
    let labels = c.args.self.now.labels.items in
    let ranked = c.args.plan.now.ranked.items in
    let roots = c.find_roots.new.roots in
    let l = slice_index labels 0 in
    let before = slice_index c.deref_mut.result.now l in
    let kept : c.deref-3.result.now ≡ roots = c.deref-3.ensures.value ∙ with_items_is c.args.self.now.roots roots (c.find_roots.auto.roots ∙ c.deref_mut.ensures.len) in
    let same_reached : c.deref_mut-3.result.now ≡ c.mark.new.reached = c.deref_mut-3.ensures.value ∙ with_items_is c.args.self.now.reached c.mark.new.reached (c.mark.auto.reached ∙ c.deref_mut-2.ensures.len) in
    let small = labels_small c.args.case.now.parts.switches (length rows.nodes) (take c.args.bridges c.args.self.now.bridges.items) labels (length c.deref_mut.result.now) c.requires.plan.ends_within c.requires.labels
    (omega (arith, ap length c.deref_mut.ensures.value, c.requires.room.roots_size, c.requires.plan.same_nodes)) in
    ground_reached rows labels ranked roots before c.deref_mut-3.result.now (ranked_is c.args.case.now.parts rows c.args.plan.now c.requires.plan)
    (c.find_roots.ensures l (small 0 (omega (arith, c.requires.room.labels_size))) ∙ ap (λ k. root_in k c.deref-2.result.now l before) c.deref.ensures.value ∙ ap (λ k. root_in ranked k l before) c.deref-2.ensures.value)
    (ap (λ r. is_reached r 0) same_reached ∙ c.mark.ensures 0 (omega (arith, ap length c.deref-4.ensures.value, c.requires.room.labels_size)) ∙ ap (λ k. slice_index c.deref-3.result.now (slice_index k 0) == 0) c.deref-4.ensures.value ∙ ap (λ k. slice_index k l == 0) kept)

pub returns-clause-within : goal.returns-clause-within
returns-clause-within c = rw (with_items_is c.args.self.now.links c.grow-self.new.links (c.grow-self.auto.links ∙ c.deref_mut-4.ensures.len)) c.grow-self.ensures.within

pub grow-self-requires-clause-size : goal.grow-self-requires-clause-size
grow-self-requires-clause-size c = omega (arith, c.deref_mut-3.ensures.len, c.deref_mut-2.ensures.len, ap length c.deref_mut-2.ensures.value, c.requires.room.reached_size, c.requires.plan.same_nodes)

pub returns-clause-room : goal.returns-clause-room
returns-clause-room c =
    let s = c.args.self.now in
    let room = c.requires.room in
    record {
      labels_size = room.labels_size;
      knowing_size = room.knowing_size;
      bridges_size = room.bridges_size;
      roots_size = rw (with_items_is s.roots c.find_roots.new.roots (c.find_roots.auto.roots ∙ c.deref_mut.ensures.len)) (omega (arith, ap length c.deref_mut.ensures.value, room.roots_size));
      reached_size = rw (with_items_is (with_items s.reached c.mark.new.reached) c.grow-self.new.reached (c.grow-self.auto.reached ∙ c.deref_mut-3.ensures.len)) (omega (arith, c.deref_mut-3.ensures.len, c.deref_mut-2.ensures.len, ap length c.deref_mut-2.ensures.value, room.reached_size));
      links_size = rw (with_items_is s.links c.grow-self.new.links (c.grow-self.auto.links ∙ c.deref_mut-4.ensures.len)) (omega (arith, ap length c.deref_mut-4.ensures.value, room.links_size));
      tallies_size = room.tallies_size;
      kinds_size = room.kinds_size;
    }

pub grow-self-requires-clause-bridges : goal.grow-self-requires-clause-bridges
grow-self-requires-clause-bridges c =
    subst (λ switches. All (λ s. s < length switches) (take c.args.bridges c.deref-5.result.now)) (sym c.as_slice-switches.ensures)
    (subst (λ l. All (λ s. s < length c.args.case.now.parts.switches) (take c.args.bridges l)) (sym c.deref-5.ensures.value) c.requires.numbers)

pub returns-clause-links : goal.returns-clause-links
returns-clause-links c =
    let size : length c.deref_mut-3.result.now ≡ length c.args.order.now.nodes + 1 = omega (arith, c.deref_mut-3.ensures.len, c.deref_mut-2.ensures.len, ap length c.deref_mut-2.ensures.value, c.requires.room.reached_size, c.requires.plan.same_nodes) in
    rw (with_items_is c.args.self.now.links c.grow-self.new.links (c.grow-self.auto.links ∙ c.deref_mut-4.ensures.len))
    (subst (AreLinks (take c.grow-self.result c.grow-self.new.links) (length c.args.order.now.nodes + 1)) (ap length c.as_slice-switches.ensures)
    (subst (λ n. AreLinks (take c.grow-self.result c.grow-self.new.links) n (length c.as_slice-switches.result.now)) size c.grow-self.ensures.links))
