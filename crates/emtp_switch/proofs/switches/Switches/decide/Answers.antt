use Rattle.std.proofs.Common.{◌≡◌, ◌∷◌, ℕ, ℤ, List, length, ap, subst, sym, ◌∙◌, arith}
use Rattle.std.specs.Vec.{with_items}
use Rattle.std.proofs.lemmas.List.{with_items_is}
use Rattle.emtp_case.specs.StepRecord.{StepRecord}
use Rattle.emtp_case.specs.declared.case.Parts.{Parts}
use Rattle.emtp_case.specs.declared.switch.SwitchState.{SwitchState}
use Rattle.emtp_switch.specs.held.Grouping.{AreGroups, group_capacities}
use Rattle.emtp_switch.specs.States.{next_states}
use Rattle.emtp_switch.specs.held.Switching.{AreKept, AreLatest, StandsFor, Switching}
use Rattle.emtp_switch.proofs.Deciding.{kept_next}
use Rattle.emtp_switch.proofs.switches.Switches.decide.Goals as goal

-- what the code reads from its lists is what the value kept
stands_next : (s : Switching) (p : Parts) (step : ℕ) (voltages currents tacs before after : List ℤ) (states new left : List SwitchState) → s.case ≡ p → states ≡ s.states → before ≡ s.before
    → ((H : List StepRecord) → AreKept states before H → AreLatest step voltages currents tacs H → new ≡ next_states p H) → left ≡ new → after ≡ currents
    → (H : List StepRecord) (r : StepRecord) → StandsFor s H → AreLatest step voltages currents tacs H → r.switch_states ≡ next_states s.case H → AreKept left after (r ∷ H)
stands_next s p step voltages currents tacs before after states new left case_is states_are before_are moved left_is after_is H r stands is r_is =
    let kept : AreKept states before H = rw (states_are, before_are) stands in
    kept_next p H r step voltages currents tacs after left is (left_is ∙ moved H kept is) (r_is ∙ ap (λ (q : Parts). next_states q H) case_is) after_is

pub returns-then-self-clause-stands : goal.returns-then-self-clause-stands
returns-then-self-clause-stands c =
    let s = c.self.inside in
    let new = c.move_states-self-inside.new.states in
    stands_next c.args.self.now s.case.now.parts c.args.step c.args.voltages.now c.args.currents.now c.args.tacs.now c.deref.result.now c.copy_from_slice.new.self.items c.deref_mut.result.now new (with_items s.states new).items
    (ap (λ (x : Switching). x.case) (sym c.self.view_is)) (c.deref_mut.ensures.value ∙ ap (λ (x : Switching). x.states) c.self.view_is) (c.deref.ensures.value ∙ ap (λ (x : Switching). x.before) c.self.view_is)
    c.move_states-self-inside.ensures.moved (with_items_is s.states new (c.move_states-self-inside.auto.states ∙ c.deref_mut.ensures.len)) c.copy_from_slice.ensures.items

pub returns-else-self-clause-stands : goal.returns-else-self-clause-stands
returns-else-self-clause-stands c =
    let s = c.self.inside in
    let new = c.move_states-self-inside.new.states in
    stands_next c.args.self.now s.case.now.parts c.args.step c.args.voltages.now c.args.currents.now c.args.tacs.now c.deref.result.now c.copy_from_slice.new.self.items c.deref_mut.result.now new (with_items s.states new).items
    (ap (λ (x : Switching). x.case) (sym c.self.view_is)) (c.deref_mut.ensures.value ∙ ap (λ (x : Switching). x.states) c.self.view_is) (c.deref.ensures.value ∙ ap (λ (x : Switching). x.before) c.self.view_is)
    c.move_states-self-inside.ensures.moved (with_items_is s.states new (c.move_states-self-inside.auto.states ∙ c.deref_mut.ensures.len)) c.copy_from_slice.ensures.items

pub returns-then-self-clause-other : goal.returns-then-self-clause-other
returns-then-self-clause-other c = λ on e.
    let s = c.self.inside in
    let new = c.move_states-self-inside.new.states in
    let kept = with_items_is s.states new (c.move_states-self-inside.auto.states ∙ c.deref_mut.ensures.len) in
    c.move_states-self-inside.ensures.other on (sym kept ∙ e ∙ sym (c.deref_mut.ensures.value ∙ ap (λ (x : Switching). x.states) c.self.view_is))

pub returns-else-self-clause-other : goal.returns-else-self-clause-other
returns-else-self-clause-other c = λ on e.
    let s = c.self.inside in
    let new = c.move_states-self-inside.new.states in
    let kept = with_items_is s.states new (c.move_states-self-inside.auto.states ∙ c.deref_mut.ensures.len) in
    c.move_states-self-inside.ensures.other on (sym kept ∙ e ∙ sym (c.deref_mut.ensures.value ∙ ap (λ (x : Switching). x.states) c.self.view_is))

pub returns-else-self-clause-same : goal.returns-else-self-clause-same
returns-else-self-clause-same c = λ off.
    with_items_is c.self.inside.states c.move_states-self-inside.new.states (c.move_states-self-inside.auto.states ∙ c.deref_mut.ensures.len) ∙ c.move_states-self-inside.ensures.same off ∙ c.deref_mut.ensures.value ∙ ap (λ (x : Switching). x.states) c.self.view_is

pub returns-else-self-clause-case : goal.returns-else-self-clause-case
returns-else-self-clause-case c = ap (λ (x : Switching). x.case) c.self.view_is

pub returns-then-self-clause-rows : goal.returns-then-self-clause-rows
returns-then-self-clause-rows c = ap (λ (x : Switching). x.rows) c.self.view_is

pub move_states-self-inside-requires-clause-voltages : goal.move_states-self-inside-requires-clause-voltages
move_states-self-inside-requires-clause-voltages c = omega (arith, c.requires.voltages, ap (λ (x : Switching). length x.case.nodes) c.self.view_is)

pub move_states-self-inside-requires-clause-currents : goal.move_states-self-inside-requires-clause-currents
move_states-self-inside-requires-clause-currents c = omega (arith, c.requires.currents, ap (λ (x : Switching). length x.case.switches) c.self.view_is)

pub move_states-self-inside-requires-clause-values : goal.move_states-self-inside-requires-clause-values
move_states-self-inside-requires-clause-values c = omega (arith, c.requires.tacs, ap (λ (x : Switching). length x.case.vars) c.self.view_is)

pub move_states-self-inside-requires-clause-before : goal.move_states-self-inside-requires-clause-before
move_states-self-inside-requires-clause-before c = omega (arith, ap length c.deref.ensures.value, c.self.invariant.before_size)

pub move_states-self-inside-requires-clause-states : goal.move_states-self-inside-requires-clause-states
move_states-self-inside-requires-clause-states c = omega (arith, ap length c.deref_mut.ensures.value, c.self.invariant.states_size)

pub copy_from_slice-requires : goal.copy_from_slice-requires
copy_from_slice-requires c = omega (arith, c.deref.ensures.len, ap length c.deref.ensures.value, c.self.invariant.before_size, c.requires.currents, ap (λ (x : Switching). length x.case.switches) c.self.view_is)

pub regroup-requires-clause-states : goal.regroup-requires-clause-states
regroup-requires-clause-states c = omega (arith, c.deref-then-self.ensures.len, c.deref_mut.ensures.len, ap length c.deref_mut.ensures.value, c.self.invariant.states_size)

pub regroup-requires-clause-room : goal.regroup-requires-clause-room
regroup-requires-clause-room c = c.self.invariant.groups_are.room

pub invariant_of-self-else-self : goal.invariant_of-self-else-self
invariant_of-self-else-self c =
    let i = c.self.invariant in
    let states_are = with_items_is c.self.inside.states c.move_states-self-inside.new.states (c.move_states-self-inside.auto.states ∙ c.deref_mut.ensures.len) ∙ c.move_states-self-inside.ensures.same c.if-self.false ∙ c.deref_mut.ensures.value in
    record {
      plan_is = i.plan_is;
      groups_are = subst (λ states. AreGroups c.self.inside.case.now.parts c.self.inside.order states c.self.inside.groups) (sym states_are) i.groups_are;
      states_size = ap length states_are ∙ i.states_size;
      before_size = ap length c.copy_from_slice.ensures.items ∙ c.requires.currents ∙ ap (λ (x : Switching). length x.case.switches) (sym c.self.view_is);
      rest_size = i.rest_size;
      flows_size = i.flows_size;
    }

pub returns-then-self-clause-capacities : goal.returns-then-self-clause-capacities
returns-then-self-clause-capacities c =
    let s = c.self.inside in
    ap (λ (n : ℕ). s.states.cap ∷ n ∷ s.rest.cap ∷ s.flows.cap ∷ group_capacities c.regroup.new.self) c.copy_from_slice.ensures.capacity
    ∙ ap (λ (ns : List ℕ). s.states.cap ∷ s.before.cap ∷ s.rest.cap ∷ s.flows.cap ∷ ns) c.regroup.ensures.capacities
    ∙ ap (λ (x : Switching). x.capacities) c.self.view_is

pub returns-else-self-clause-capacities : goal.returns-else-self-clause-capacities
returns-else-self-clause-capacities c =
    let s = c.self.inside in
    ap (λ (n : ℕ). s.states.cap ∷ n ∷ s.rest.cap ∷ s.flows.cap ∷ group_capacities s.groups) c.copy_from_slice.ensures.capacity
    ∙ ap (λ (x : Switching). x.capacities) c.self.view_is
