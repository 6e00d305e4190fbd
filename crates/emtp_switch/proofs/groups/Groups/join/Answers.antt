use Rattle.std.proofs.Common.{◌≡◌, ℕ, ◌+◌, [], ◌∷◌, length, take, ap, sym, ◌∙◌, arith}
use Rattle.std.specs.Vec.{with_items}
use Rattle.std.proofs.lemmas.List.{with_items_is}
use Rattle.emtp_switch.specs.Groups.{alone, bridges, closed_switches, groups, known_nodes}
use Rattle.emtp_switch.proofs.Regrouping.{labels_small, tied_found}
use Rattle.emtp_switch.proofs.Plans.{switch_ends}
use Rattle.emtp_switch.proofs.groups.Groups.join.Goals as goal

pub find_bridges-found-requires-clause-marks : goal.find_bridges-found-requires-clause-marks
find_bridges-found-requires-clause-marks c =
    let p = c.args.case.now.parts in
    let n = length p.nodes in
    let first = c.reset.new.labels in
    let is : first ≡ alone n = c.reset.ensures n (omega (arith, ap length c.deref_mut.ensures.value, c.requires.room.labels_size)) in
    let read : c.deref_mut-2.result.now ≡ first = c.deref_mut-2.ensures.value ∙ with_items_is c.args.self.now.labels first (c.reset.auto.labels ∙ c.deref_mut.ensures.len) in
    labels_small p.switches n [] c.deref_mut-2.result.now (length c.deref_mut-3.result.now) (switch_ends p c.args.case.now.fits) (read ∙ is) (omega (arith, ap length c.deref_mut-3.ensures.value, ap length c.copy_from_slice.ensures.items, ap length c.deref.ensures.value, c.requires.known))

pub returns-clause-tied : goal.returns-clause-tied
returns-clause-tied c = λ rows plan.
    let p = c.args.case.now.parts in
    let n = length p.nodes in
    let known = known_nodes rows in
    let first = c.reset.new.labels in
    let is : first ≡ alone n = c.reset.ensures n (omega (arith, ap length c.deref_mut.ensures.value, c.requires.room.labels_size)) in
    let read : c.deref_mut-2.result.now ≡ alone (length rows.nodes)
    = c.deref_mut-2.ensures.value ∙ with_items_is c.args.self.now.labels first (c.reset.auto.labels ∙ c.deref_mut.ensures.len) ∙ is ∙ ap alone (sym plan.same_nodes) in
    let marks : c.deref_mut-3.result.now ≡ c.args.plan.now.known.items = c.deref_mut-3.ensures.value ∙ c.copy_from_slice.ensures.items ∙ c.deref.ensures.value in
    tied_found c.as_slice-switches.result.now p.switches rows c.args.states.now c.deref_mut-2.result.now c.deref_mut-3.result.now c.args.plan.now.known.items c.find_bridges-found.result.tied c.as_slice-switches.ensures read marks plan.nodes_within plan.known c.find_bridges-found.ensures.tied

pub copy_from_slice-requires : goal.copy_from_slice-requires
copy_from_slice-requires c = omega (arith, ap length c.deref.ensures.value, c.requires.known, c.requires.room.knowing_size)

pub find_bridges-found-requires-clause-ends : goal.find_bridges-found-requires-clause-ends
find_bridges-found-requires-clause-ends c =
    let p = c.args.case.now.parts in
    let size : length c.deref_mut-2.result.now ≡ length p.nodes + 1 = omega (arith, ap length c.deref_mut.ensures.value, c.deref_mut.ensures.len, c.deref_mut-2.ensures.len, c.requires.room.labels_size) in
    rw (c.as_slice-switches.ensures, size) (switch_ends p c.args.case.now.fits)

pub returns-clause-labels : goal.returns-clause-labels
returns-clause-labels c =
    let p = c.args.case.now.parts in
    let n = length p.nodes in
    let closed = closed_switches c.args.states.now in
    let first = c.reset.new.labels in
    let is : first ≡ alone n = c.reset.ensures n (omega (arith, ap length c.deref_mut.ensures.value, c.requires.room.labels_size)) in
    let read : c.deref_mut-2.result.now ≡ first = c.deref_mut-2.ensures.value ∙ with_items_is c.args.self.now.labels first (c.reset.auto.labels ∙ c.deref_mut.ensures.len) in
    with_items_is (with_items c.args.self.now.labels first) c.find_bridges-found.new.labels (c.find_bridges-found.auto.labels ∙ c.deref_mut-2.ensures.len) ∙ c.find_bridges-found.ensures.labels
    ∙ ap (λ l. groups c.as_slice-switches.result.now l closed) (read ∙ is) ∙ ap (λ sw. groups sw (alone n) closed) c.as_slice-switches.ensures

pub returns-clause-bridges : goal.returns-clause-bridges
returns-clause-bridges c =
    let p = c.args.case.now.parts in
    let n = length p.nodes in
    let closed = closed_switches c.args.states.now in
    let first = c.reset.new.labels in
    let is : first ≡ alone n = c.reset.ensures n (omega (arith, ap length c.deref_mut.ensures.value, c.requires.room.labels_size)) in
    let read : c.deref_mut-2.result.now ≡ first = c.deref_mut-2.ensures.value ∙ with_items_is c.args.self.now.labels first (c.reset.auto.labels ∙ c.deref_mut.ensures.len) in
    ap (take c.find_bridges-found.result.bridges) (with_items_is c.args.self.now.bridges c.find_bridges-found.new.found (c.find_bridges-found.auto.found ∙ c.deref_mut-4.ensures.len)) ∙ c.find_bridges-found.ensures.bridges
    ∙ ap (λ l. bridges c.as_slice-switches.result.now l closed) (read ∙ is) ∙ ap (λ sw. bridges sw (alone n) closed) c.as_slice-switches.ensures

pub returns-clause-room : goal.returns-clause-room
returns-clause-room c =
    let s = c.args.self.now in
    let room = c.requires.room in
    record {
      labels_size = rw (with_items_is (with_items s.labels c.reset.new.labels) c.find_bridges-found.new.labels (c.find_bridges-found.auto.labels ∙ c.deref_mut-2.ensures.len))
          (omega (arith, c.deref_mut-2.ensures.len, c.deref_mut.ensures.len, ap length c.deref_mut.ensures.value, room.labels_size));
      knowing_size = rw (with_items_is c.copy_from_slice.new.self c.find_bridges-found.new.marks (c.find_bridges-found.auto.marks ∙ c.deref_mut-3.ensures.len))
          (omega (arith, ap length c.deref_mut-3.ensures.value, ap length c.copy_from_slice.ensures.items, ap length c.deref.ensures.value, c.requires.known));
      bridges_size = rw (with_items_is s.bridges c.find_bridges-found.new.found (c.find_bridges-found.auto.found ∙ c.deref_mut-4.ensures.len)) (omega (arith, ap length c.deref_mut-4.ensures.value, room.bridges_size));
      roots_size = room.roots_size;
      reached_size = room.reached_size;
      links_size = room.links_size;
      tallies_size = room.tallies_size;
      kinds_size = room.kinds_size;
    }

pub returns-clause-capacities : goal.returns-clause-capacities
returns-clause-capacities c =
    let s = c.args.self.now in
    ap (λ (n : ℕ). s.labels.cap ∷ n ∷ s.bridges.cap ∷ s.roots.cap ∷ s.reached.cap ∷ s.links.cap ∷ s.tallies.cap ∷ s.kinds.cap ∷ []) c.copy_from_slice.ensures.capacity
