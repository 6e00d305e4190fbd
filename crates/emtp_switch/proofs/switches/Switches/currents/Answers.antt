use Rattle.std.proofs.Common.{◌≡◌, ◌++◌, ◌∷◌, [], pos, length, take, IfErr, IfOk, Result, Ok, Err, ap, sym, ◌∙◌, subst, arith}
use Rattle.std.specs.Vec.{with_items}
use Rattle.std.proofs.lemmas.List.{with_items_is}
use Rattle.emtp_fix.specs.Items.{item}
use Rattle.emtp_switch.specs.Currents.{currents_of}
use Rattle.emtp_switch.specs.held.Currents.{Balances, IsFirstBeyond}
use Rattle.emtp_switch.specs.held.Grouping.{AreTree}
use Rattle.emtp_switch.specs.held.Switching.{Switching}
use Rattle.emtp_switch.specs.declared.currents.SwitchRange.{SwitchRange}
use Rattle.emtp_switch.proofs.Kirchhoff.{balances}
use Rattle.emtp_switch.proofs.FoundCurrents.{flows_are, light_first}
use Rattle.emtp_switch.proofs.switches.Switches.currents.Goals as goal

pub sweep-requires-clause-light : goal.sweep-requires-clause-light
sweep-requires-clause-light c =
    let s = c.self.inside in
    let rest = c.load.new.rest in
    let read : c.deref_mut-3.result.now ≡ rest = c.deref_mut-3.ensures.value ∙ with_items_is s.rest rest (c.load.auto.rest ∙ c.deref_mut.ensures.len) in
    light_first c.args.leaving.now c.deref_mut-3.result.now
    (omega (arith, c.requires.leaving, ap (λ (x : Switching). length x.case.nodes) c.self.view_is, s.case.now.fits.draft.counts.nodes)) c.requires.small (read ∙ c.load.ensures)

pub sweep-requires-clause-still : goal.sweep-requires-clause-still
sweep-requires-clause-still c = λ s.
    let flows = c.clear.new.flows in
    ap (λ l. item l s) (c.deref_mut-4.ensures.value ∙ with_items_is c.self.inside.flows flows (c.clear.auto.flows ∙ c.deref_mut-2.ensures.len)) ∙ c.clear.ensures s

-- what the sweep starts from, and where its flows are read
record HasSwept (c : goal.After-out-1) : Type 0 where
  rows_count : length c.self.inside.order.nodes ≡ length c.args.leaving.now
  first_is : c.deref_mut-3.result.now ≡ c.args.leaving.now ++ pos 0 ∷ []
  switches_count : length c.self.inside.case.now.parts.switches ≡ length c.sweep.new.flows
  tree : AreTree c.self.inside.case.now.parts.switches c.self.inside.order c.self.inside.states.items (take c.self.inside.groups.link_count c.deref.result.now)
  read : c.deref-2.result.now ≡ c.sweep.new.flows

has_swept : (c : goal.After-out-1) → HasSwept c
has_swept c =
    let s = c.self.inside in
    let inv = c.self.invariant in
    let flows = c.sweep.new.flows in
    let in_view = ap (λ (x : Switching). length x.case.nodes) c.self.view_is in
    let cleared_size : length c.clear.new.flows ≡ s.flows.len = omega (arith, ap length c.deref_mut-2.ensures.value, c.deref_mut-2.ensures.len) in
    let flows_old : c.deref_mut-4.result.now ≡ c.clear.new.flows = c.deref_mut-4.ensures.value ∙ with_items_is s.flows c.clear.new.flows cleared_size in
    let size : length flows ≡ s.flows.len = omega (arith, ap length flows_old, cleared_size) in
    record {
      rows_count = omega (arith, c.requires.leaving, in_view, inv.plan_is.same_nodes);
      first_is = c.deref_mut-3.ensures.value ∙ with_items_is s.rest c.load.new.rest (c.load.auto.rest ∙ c.deref_mut.ensures.len) ∙ c.load.ensures;
      switches_count = omega (arith, inv.flows_size, c.deref_mut-2.ensures.len, ap length c.deref_mut-2.ensures.value, size);
      tree = subst (λ l. AreTree s.case.now.parts.switches s.order s.states.items (take s.groups.link_count l)) (sym c.deref.ensures.value) inv.groups_are.tree;
      read = c.deref-2.ensures.value ∙ with_items_is (with_items s.flows c.clear.new.flows) flows size;
    }

-- what is written are the currents
are_found : (c : goal.After-out-1) → c.deref-2.result.now ≡ currents_of c.args.self.now.case.switches c.args.self.now.rows c.args.self.now.states c.args.leaving.now
are_found c =
    let s = c.self.inside in
    let inv = c.self.invariant in
    let has = has_swept c in
    has.read
    ∙ flows_are s.case.now.parts.switches s.order s.states.items (take s.groups.link_count c.deref.result.now) c.args.leaving.now c.deref_mut-3.result.now c.sweep.new.rest c.sweep.new.flows has.rows_count has.switches_count
    inv.plan_is.ends_within inv.plan_is.nodes_within has.tree has.first_is (omega arith) c.sweep.ensures.carried c.sweep.ensures.cleared c.sweep.ensures.bridges_alone
    ∙ ap (λ (x : Switching). currents_of x.case.switches x.rows x.states c.args.leaving.now) c.self.view_is

pub returns-clause-value : goal.returns-clause-value
returns-clause-value c = subst (λ l. IfOk c.narrow.result (λ done. c.narrow.new.out ≡ l)) (are_found c) c.narrow.ensures.value

pub returns-clause-first : goal.returns-clause-first
returns-clause-first c = subst (λ l. IfErr c.narrow.result (λ (e : SwitchRange). IsFirstBeyond l e.switch)) (are_found c) c.narrow.ensures.first

-- and they balance
they_balance : (c : goal.After-out-1) → Balances c.args.self.now.case.switches c.args.self.now.rows c.args.self.now.states c.args.leaving.now c.sweep.new.flows
they_balance c =
    let s = c.self.inside in
    let has = has_swept c in
    subst (λ (x : Switching). Balances x.case.switches x.rows x.states c.args.leaving.now c.sweep.new.flows) c.self.view_is
    (balances s.case.now.parts s.order s.states.items (take s.groups.link_count c.deref.result.now) c.args.leaving.now c.deref_mut-3.result.now c.sweep.new.rest c.sweep.new.flows (length c.deref_mut-4.result.now) c.self.invariant.plan_is.order has.tree has.rows_count (omega (arith, has.switches_count))
    has.first_is (omega arith) c.sweep.ensures.balanced c.sweep.ensures.cleared)

pub returns-clause-kirchhoff : goal.returns-clause-kirchhoff
returns-clause-kirchhoff c = ok_weaker c.narrow.result c.narrow.ensures.value
    (λ e. subst (Balances c.args.self.now.case.switches c.args.self.now.rows c.args.self.now.states c.args.leaving.now) (sym (e ∙ (has_swept c).read)) (they_balance c))
  where
    ok_weaker : {P Q : Type 0} (result : Result (Unit {0}) SwitchRange) → IfOk result (λ done. P) → (P → Q) → IfOk result (λ done. Q)
    ok_weaker (Ok u) p f = f p
    ok_weaker (Err e) p f = tt
