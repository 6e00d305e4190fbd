use Rattle.std.proofs.Common.{◌≡◌, ◌+◌, length, map, take, ap, sym, ◌∙◌, subst, refl, arith}
use Rattle.emtp_switch.specs.Groups.{alone, bridges, bridges_of, closed_switches, groups, labels_of}
use Rattle.emtp_switch.specs.Kinds.{kind_of}
use Rattle.emtp_switch.specs.held.Tree.{AreLinks, IsTree}
use Rattle.emtp_switch.proofs.Finding.{groups-bridges}
use Rattle.emtp_switch.proofs.Regrouping.{labels_small, same_tree}
use Rattle.emtp_switch.proofs.Plans.{switch_ends}
use Rattle.emtp_switch.proofs.groups.Groups.regroup.Goals as goal

pub grow-requires-clause-labels : goal.grow-requires-clause-labels
grow-requires-clause-labels c =
    let sw = c.args.case.now.parts.switches in
    let n = length c.args.case.now.parts.nodes in
    let closed = closed_switches c.args.states.now in
    subst (λ k. c.join-bridges.new.self.labels.items ≡ groups sw (alone k) (take c.join-bridges.result c.join-bridges.new.self.bridges.items)) (sym c.requires.plan.same_nodes)
    (c.join-bridges.ensures.labels ∙ sym (groups-bridges sw (alone n) closed) ∙ ap (groups sw (alone n)) (sym c.join-bridges.ensures.bridges))

pub find_kinds-requires-clause-labels : goal.find_kinds-requires-clause-labels
find_kinds-requires-clause-labels c = λ x in_x.
    let p = c.args.case.now.parts in
    let n = length p.nodes in
    let labels = c.grow.new.self.labels.items in
    let same = ap (λ v. v.items) c.grow.ensures.labels in
    let small = labels_small p.switches n (closed_switches c.args.states.now) labels (n + 1) (switch_ends p c.args.case.now.fits) (same ∙ c.join-bridges.ensures.labels) refl x (omega (arith, c.grow.ensures.room.labels_size, c.requires.plan.same_nodes)) in
    omega (arith, small, c.requires.plan.same_nodes)

pub returns-clause-groups : goal.returns-clause-groups
returns-clause-groups c =
    let p = c.args.case.now.parts in
    let rows = c.args.order.now in
    let links = take c.find_kinds.new.self.link_count c.find_kinds.new.self.links.items in
    let kept : links ≡ take c.grow.new.self.link_count c.grow.new.self.links.items = ap (λ k. take k c.find_kinds.new.self.links.items) c.find_kinds.ensures.link_count ∙ ap (λ v. take c.grow.new.self.link_count v.items) c.find_kinds.ensures.links in
    let closed = closed_switches c.args.states.now in
    let same_n = ap alone (sym c.requires.plan.same_nodes) in
    let bridges_are : take c.join-bridges.result c.join-bridges.new.self.bridges.items ≡ bridges_of p.switches rows c.args.states.now = c.join-bridges.ensures.bridges ∙ ap (λ l. bridges p.switches l closed) same_n in
    let labels_all : c.join-bridges.new.self.labels.items ≡ labels_of p.switches rows c.args.states.now = c.join-bridges.ensures.labels ∙ ap (λ l. groups p.switches l closed) same_n in
    let labels_are : c.join-bridges.new.self.labels.items ≡ groups p.switches (alone (length rows.nodes)) (bridges_of p.switches rows c.args.states.now) = labels_all ∙ sym (groups-bridges p.switches (alone (length rows.nodes)) closed) in
    record {
      room = c.find_kinds.ensures.room;
      links_within = omega (arith, c.grow.ensures.within, c.find_kinds.ensures.link_count, ap (λ v. length v.items) c.find_kinds.ensures.links);
      tree = record {
        links_are = subst (λ l. AreLinks l (length rows.nodes + 1) (length p.switches)) (sym kept) c.grow.ensures.links;
        tree = same_tree p.switches rows (take c.join-bridges.result c.join-bridges.new.self.bridges.items) (bridges_of p.switches rows c.args.states.now) c.join-bridges.new.self.labels.items links bridges_are labels_are
            (subst (IsTree p.switches rows (take c.join-bridges.result c.join-bridges.new.self.bridges.items) c.join-bridges.new.self.labels.items) (sym kept) c.grow.ensures.tree);
      };
      tied = c.find_kinds.ensures.tied ∙ c.grow.ensures.tied ∙ c.join-bridges.ensures.tied rows c.requires.plan;
      kinds = c.find_kinds.ensures.kinds ∙ ap (λ v. map (kind_of p rows v.items) rows.nodes) c.grow.ensures.labels ∙ ap (λ l. map (kind_of p rows l) rows.nodes) labels_all;
    }

pub returns-clause-capacities : goal.returns-clause-capacities
returns-clause-capacities c = c.find_kinds.ensures.capacities ∙ c.grow.ensures.capacities ∙ c.join-bridges.ensures.capacities
