use Rattle.std.proofs.Common.{◌≡◌, ◌∙◌, ◌∷◌, ◌≤◌, ◌+◌, sym, ap, subst, All, List, length, unsigned_abs, Err, IfErr, refl, arith}
use Rattle.std.specs.Vec.{with_items}
use Rattle.std.proofs.lemmas.List.{with_items_is}
use Rattle.std.proofs.lemmas.Result.{err_from_is_err_and}
use Rattle.emtp_case.specs.StepRecord.{StepRecord}
use Rattle.emtp_case.specs.declared.case.Parts.{Parts}
use Rattle.emtp_fix.specs.declared.limit.TheConstants.{LARGEST_VALUE}
use Rattle.emtp_switch.specs.held.Switching as switching
use Rattle.emtp_net.specs.held.Fault.{NamesNode}
use Rattle.emtp_net.specs.held.Moving.{HaveMoved}
use Rattle.emtp_net.specs.held.Network.{Net, StandsFor, StandsWith}
use Rattle.emtp_net.specs.held.Stages.{AreVoltages, HasLeaving, IsPosed}
use Rattle.emtp_net.proofs.Holding.{Holds, branches_moved, capacities_kept, closed_written, factor_made, few_next, kinds_set, seen, step_left, stepping, switch_currents_found, switches_stay, system_moved, voltages_found}
use Rattle.emtp_net.proofs.Stepping.{HasBegun, HasStepped, begun, counted, counted_still, ends_by, err_claims, err_names, err_steps, judge_steps, ok_claims, posed_is, states_here, ticked}
use Rattle.emtp_net.proofs.Switching.{keeps_still}
use Rattle.emtp_net.proofs.network.Network.step.Given.{Over}
use Rattle.emtp_net.proofs.network.Network.step.Goals.{After-accept, After-factor, After-find_currents, After-find_leaving, After-judge, After-set_kinds, After-set_sources, After-solve, In_ok-set_kinds}
use Rattle.emtp_net.proofs.network.Network.step.Goals as goal

-- ---- the fields hold together after each stage, where they do after the one before

kinds_hold : (g : Over) (c : After-set_kinds g) → Holds (stepping c.self.inside c.decide.new.self c.set_kinds.new.self (record c.self.inside.matrix { rows = c.set_kinds.new.rows }))
kinds_hold g c =
    kinds_set c.self.inside c.decide.new.self c.set_kinds.new.self c.set_kinds.new.rows (record { together = c.self.invariant }) (step_left _ _ c.self.view_is c.requires.made) c.decide.ensures.case c.decide.ensures.rows
    c.set_kinds.ensures.room c.set_kinds.ensures.rest c.set_kinds.ensures.touched c.set_kinds.ensures.keeps

factor_holds : (g : Over) (c : After-factor g) → Holds (stepping c.self.inside c.decide.new.self c.set_kinds.new.self (record c.self.inside.matrix { rows = c.set_kinds.new.rows }))
    → Holds (stepping c.self.inside c.decide.new.self c.set_kinds.new.self c.factor.new.self)
factor_holds g c holds =
    factor_made c.factor.new.self holds c.factor.ensures.rows c.factor.ensures.kinds
    (few_next c.self.inside.case.now.parts c.self.inside.made c.self.inside.matrix.redone c.factor.new.self.redone c.self.invariant.few (step_left _ _ c.self.view_is c.requires.made) c.factor.ensures.few)

solve_holds : (g : Over) (c : After-solve g) → Holds (stepping c.self.inside c.decide.new.self c.set_kinds.new.self c.factor.new.self)
    → Holds (record (stepping c.self.inside c.decide.new.self c.solve.new.self c.factor.new.self) { voltages = with_items c.self.inside.voltages c.solve.new.voltages })
solve_holds g c holds =
    let moved = system_moved c.solve.new.self holds c.solve.ensures.room (c.solve.ensures.kinds ∙ c.set_sources.ensures.kinds) (c.solve.ensures.decided ∙ c.set_sources.ensures.decided) in
    voltages_found c.solve.new.voltages moved (c.solve.auto.voltages ∙ ap length c.deref_mut.ensures.value) c.solve.ensures.small

accept_holds : (g : Over) (c : After-accept g) → Holds (record (stepping c.self.inside c.decide.new.self c.solve.new.self c.factor.new.self) { voltages = with_items c.self.inside.voltages c.solve.new.voltages })
    → Holds (record (stepping c.self.inside c.decide.new.self c.solve.new.self c.factor.new.self) { branches = c.accept.new.self; voltages = with_items c.self.inside.voltages c.solve.new.voltages; currents = with_items c.self.inside.currents c.accept.new.currents })
accept_holds g c holds =
    branches_moved c.accept.new.self c.accept.new.currents holds c.accept.ensures.same (c.accept.auto.currents ∙ ap length c.deref_mut-2.ensures.value)

currents_hold : (g : Over) (c : After-find_currents g) → Holds (record (stepping c.self.inside c.decide.new.self c.solve.new.self c.factor.new.self) { branches = c.accept.new.self; voltages = with_items c.self.inside.voltages c.solve.new.voltages; currents = with_items c.self.inside.currents c.accept.new.currents })
    → Holds (record (stepping c.self.inside c.find_currents.new.switches c.find_leaving.new.self c.factor.new.self) { branches = c.accept.new.self; voltages = with_items c.self.inside.voltages c.solve.new.voltages; currents = with_items c.self.inside.currents c.accept.new.currents; switch_currents = with_items c.self.inside.switch_currents c.find_currents.new.out })
currents_hold g c holds =
    let moved = system_moved c.find_leaving.new.self holds c.find_leaving.ensures.room c.find_leaving.ensures.kinds c.find_leaving.ensures.decided in
    switch_currents_found c.find_currents.new.switches c.find_currents.new.out moved c.find_currents.ensures.same (c.find_currents.auto.out ∙ ap length c.deref_mut-3.ensures.value)

judge_holds : (g : Over) (c : After-judge g) → Holds (record (stepping c.self.inside c.find_currents.new.switches c.find_leaving.new.self c.factor.new.self) { branches = c.accept.new.self; voltages = with_items c.self.inside.voltages c.solve.new.voltages; currents = with_items c.self.inside.currents c.accept.new.currents; switch_currents = with_items c.self.inside.switch_currents c.find_currents.new.out })
    → Holds (record (stepping c.self.inside c.find_currents.new.switches c.judge.new.self c.factor.new.self) { branches = c.accept.new.self; voltages = with_items c.self.inside.voltages c.solve.new.voltages; currents = with_items c.self.inside.currents c.accept.new.currents; switch_currents = with_items c.self.inside.switch_currents c.find_currents.new.out; closed = with_items c.self.inside.closed c.write_closed.new.out })
judge_holds g c holds =
    let marked = closed_written c.write_closed.new.out holds (c.write_closed.auto.out ∙ ap length c.deref_mut-4.ensures.value) in
    system_moved c.judge.new.self marked c.judge.ensures.room c.judge.ensures.kinds c.judge.ensures.decided

pub invariant_of-self : goal.invariant_of-self
invariant_of-self g c = (kinds_hold g (goal.at.invariant_of-self g c).After-set_kinds).together

pub invariant_of-self-in_err-factor : goal.invariant_of-self-in_err-factor
invariant_of-self-in_err-factor g c = let at = goal.at.invariant_of-self-in_err-factor g c in (factor_holds g at.After-factor (kinds_hold g at.After-set_kinds)).together

pub invariant_of-self-in_err-solve : goal.invariant_of-self-in_err-solve
invariant_of-self-in_err-solve g c = let at = goal.at.invariant_of-self-in_err-solve g c in (solve_holds g at.After-solve (factor_holds g at.After-factor (kinds_hold g at.After-set_kinds))).together

pub invariant_of-self-in_err-accept : goal.invariant_of-self-in_err-accept
invariant_of-self-in_err-accept g c = let at = goal.at.invariant_of-self-in_err-accept g c in (accept_holds g at.After-accept (solve_holds g at.After-solve (factor_holds g at.After-factor (kinds_hold g at.After-set_kinds)))).together

pub invariant_of-self-in_err-find_currents : goal.invariant_of-self-in_err-find_currents
invariant_of-self-in_err-find_currents g c = let at = goal.at.invariant_of-self-in_err-find_currents g c in (currents_hold g at.After-find_currents (accept_holds g at.After-accept (solve_holds g at.After-solve (factor_holds g at.After-factor (kinds_hold g at.After-set_kinds))))).together

pub invariant_of-self-2 : goal.invariant_of-self-2
invariant_of-self-2 g c = let at = goal.at.invariant_of-self-2 g c in (judge_holds g at.After-judge (currents_hold g at.After-find_currents (accept_holds g at.After-accept (solve_holds g at.After-solve (factor_holds g at.After-factor (kinds_hold g at.After-set_kinds)))))).together

-- ---- what the stages find, for all records for which the network stood

begins : (g : Over) (c : In_ok-set_kinds g) (H : List StepRecord) → StandsWith c.args.self.now c.args.tacs.now H → HasBegun (seen c.self.inside) H c.set_kinds.new.self.kinds.items c.set_kinds.new.rows c.decide.new.self
begins g c H stands =
    begun (seen c.self.inside) c.args.self.now H c.deref.result.now c.deref-2.result.now c.args.tacs.now c.set_kinds.new.self.kinds.items c.set_kinds.new.rows c.decide.new.self c.decide.ensures.stands
    c.self.invariant.switches_hold.case_is c.self.view_is stands c.deref.ensures.value c.deref-2.ensures.value c.in_ok-set_kinds.ensures.kinds

poses : (g : Over) (c : After-set_sources g) (H : List StepRecord) → StandsWith c.args.self.now c.args.tacs.now H → HasBegun (seen c.self.inside) H c.set_kinds.new.self.kinds.items c.set_kinds.new.rows c.decide.new.self
    → IsPosed c.self.inside.case.now.parts H c.self.inside.branches c.set_sources.new.self c.factor.new.self.kept
poses g c H stands is =
    posed_is (seen c.self.inside) H c.set_kinds.new.rows c.decide.new.self c.set_kinds.new.self c.set_sources.new.self c.factor.new.self.kept is.stood is.decided c.set_sources.ensures.kinds
    (c.set_sources.ensures.values H is.stood.steps stands.control) (c.in_ok-factor.ensures.factors H is.ready).made

finds : (g : Over) (c : After-accept g) (H : List StepRecord) → IsPosed c.self.inside.case.now.parts H c.self.inside.branches c.set_sources.new.self c.factor.new.self.kept → AreVoltages c.self.inside.case.now.parts H c.deref-3.result.now
finds g c H posed =
    let read = c.deref-3.ensures.value ∙ with_items_is c.self.inside.voltages c.solve.new.voltages (c.solve.auto.voltages ∙ c.deref_mut.ensures.len) in
    subst (AreVoltages c.self.inside.case.now.parts H) (sym read) (c.in_ok-solve.ensures.finds H posed)

leaves : (g : Over) (c : After-find_leaving g) (H : List StepRecord) → AreVoltages c.self.inside.case.now.parts H c.deref-3.result.now → IsPosed c.self.inside.case.now.parts H c.self.inside.branches c.set_sources.new.self c.factor.new.self.kept
    → HasLeaving c.self.inside.case.now.parts H c.deref-3.result.now c.find_leaving.new.self
leaves g c H voltages posed =
    let moved = c.in_ok-accept.ensures.moves H posed.stands in
    let read = c.deref-4.ensures.value ∙ with_items_is c.self.inside.currents c.accept.new.currents (c.accept.auto.currents ∙ c.deref_mut-2.ensures.len) in
    let moved_so = subst (λ cs. HaveMoved c.accept.new.self cs c.self.inside.case.now.parts H c.deref-3.result.now) (sym read) moved in
    record { voltages = voltages; in_range = moved.in_range; leaving = c.find_leaving.ensures.leaving H c.deref-3.result.now moved_so (ap (λ v. v.items) c.solve.ensures.values ∙ posed.values) }

pub returns-in_err-set_kinds : goal.returns-in_err-set_kinds
returns-in_err-set_kinds g c =
    let e = c.from_residual.result in
    let returned = c.from_residual.ensures.1 in
    let returned_so = err_from_is_err_and e returned in
    record {
      counts = counted_still _ _ _ _ c.self.view_is refl refl refl;
      capacities = capacities_kept c.self.inside c.set_kinds.new.self c.set_kinds.ensures.capacities ∙ ap (λ (s : Net). s.capacities) c.self.view_is;
      step = λ H stands.
          let stood = subst (λ (s : Net). StandsFor s H) (sym c.self.view_is) stands.network in
          let states = states_here _ _ H c.deref.result.now c.deref-2.result.now c.args.tacs.now c.decide.new.self c.decide.ensures.stands c.self.invariant.switches_hold.case_is c.self.view_is stands c.deref.ensures.value c.deref-2.ensures.value in
          err_steps _ _ _ H e _ 0 c.self.view_is stood refl (omega arith) (returned_so.1 ∙ ap Err returned_so.2) (c.in_err-set_kinds.ensures.kinds H states);
      ticks = λ H stands. record { made = err_claims _ e _ returned; most = omega arith; tied = λ node tied. refl };
      node = err_names _ _ e _ c.self.view_is returned c.in_err-set_kinds.ensures.node;
    }

pub returns-in_err-factor : goal.returns-in_err-factor
returns-in_err-factor g c =
    let at = goal.at.returns-in_err-factor g c in
    ends_by _ _ _ _ _ _ _ _ _ _ _ _ _ _ c.self.view_is refl refl refl refl c.factor.ensures.few c.factor.ensures.few_ticks (capacities_kept c.self.inside c.set_kinds.new.self (c.set_kinds.ensures.capacities)) (begins g at.In_ok-set_kinds) c.factor.ensures.factors
    (λ H stands is. (c.in_err-factor.ensures.factors H is.ready).ends) c.in_err-factor.ensures.node c.from_residual-in_err-factor.ensures.1

pub returns-in_err-solve : goal.returns-in_err-solve
returns-in_err-solve g c =
    let at = goal.at.returns-in_err-solve g c in
    ends_by _ _ _ _ _ _ _ _ _ _ _ _ _ _ c.self.view_is refl refl refl refl c.factor.ensures.few c.factor.ensures.few_ticks (capacities_kept c.self.inside c.solve.new.self (c.solve.ensures.capacities ∙ c.set_sources.ensures.capacities ∙ c.set_kinds.ensures.capacities)) (begins g at.In_ok-set_kinds) c.factor.ensures.factors
    (λ H stands is. c.in_err-solve.ensures.finds H (poses g at.After-set_sources H stands is)) c.in_err-solve.ensures.node c.from_residual-in_err-solve.ensures.1

pub returns-in_err-accept : goal.returns-in_err-accept
returns-in_err-accept g c =
    let at = goal.at.returns-in_err-accept g c in
    ends_by _ _ _ _ _ _ _ _ _ _ _ _ _ _ c.self.view_is refl refl refl refl c.factor.ensures.few c.factor.ensures.few_ticks (capacities_kept c.self.inside c.solve.new.self (c.solve.ensures.capacities ∙ c.set_sources.ensures.capacities ∙ c.set_kinds.ensures.capacities)) (begins g at.In_ok-set_kinds) c.factor.ensures.factors
    (λ H stands is. c.in_err-accept.ensures.moves H is.stood.branches (finds g at.After-accept H (poses g at.After-set_sources H stands is))) c.in_err-accept.ensures.node c.from_residual-in_err-accept.ensures.1

pub returns-in_err-find_currents : goal.returns-in_err-find_currents
returns-in_err-find_currents g c =
    let at = goal.at.returns-in_err-find_currents g c in
    ends_by _ _ _ _ _ _ _ _ _ _ _ _ _ _ c.self.view_is refl refl refl refl c.factor.ensures.few c.factor.ensures.few_ticks (capacities_kept c.self.inside c.find_leaving.new.self (c.find_leaving.ensures.capacities ∙ c.solve.ensures.capacities ∙ c.set_sources.ensures.capacities ∙ c.set_kinds.ensures.capacities)) (begins g at.In_ok-set_kinds) c.factor.ensures.factors
    (λ H stands is. c.in_err-find_currents.ensures.currents H c.deref-3.result.now (let posed = poses g at.After-set_sources H stands is in leaves g at.After-find_leaving H (finds g at.After-accept H posed) posed) is.states) c.in_err-find_currents.ensures.node c.from_residual-in_err-find_currents.ensures.1

pub returns : goal.returns
returns g c =
    let at = goal.at.returns g c in
    let case = c.self.inside.case.now.parts in
    record {
      counts = counted _ _ _ _ _ c.self.view_is refl refl c.factor.ensures.few c.factor.ensures.few_ticks;
      capacities = capacities_kept c.self.inside c.judge.new.self (c.judge.ensures.capacities ∙ c.find_leaving.ensures.capacities ∙ c.solve.ensures.capacities ∙ c.set_sources.ensures.capacities ∙ c.set_kinds.ensures.capacities) ∙ ap (λ (s : Net). s.capacities) c.self.view_is;
      step = λ H stands.
          let is = begins g at.In_ok-set_kinds H stands in
          let posed = poses g at.After-set_sources H stands is in
          let vs = c.deref-3.result.now in
          let voltages = finds g at.After-accept H posed in
          let leaving = leaves g at.After-find_leaving H voltages posed in
          let has = c.in_ok-find_currents.ensures.currents H vs leaving is.states in
          let flows = with_items_is c.self.inside.currents c.accept.new.currents (c.accept.auto.currents ∙ c.deref_mut-2.ensures.len) in
          let stepped : HasStepped (seen c.self.inside) _ H vs = record {
            case_is = refl;
            branches = subst (λ cs. HaveMoved c.accept.new.self cs case H vs) (sym flows) (c.in_ok-accept.ensures.moves H is.stood.branches);
            switches = λ r next. subst (λ (s : switching.Switching). switching.StandsFor s (r ∷ H)) (sym c.find_currents.ensures.same) (is.moves r next);
            states = ap (λ (s : switching.Switching). s.states) c.find_currents.ensures.same ∙ is.states;
            voltages = sym c.deref-3.ensures.value;
            switch_currents = with_items_is c.self.inside.switch_currents c.find_currents.new.out (c.find_currents.auto.out ∙ c.deref_mut-3.ensures.len) ∙ has.are;
            closed = with_items_is c.self.inside.closed c.write_closed.new.out (c.write_closed.auto.out ∙ c.deref_mut-4.ensures.len) ∙ c.write_closed.ensures;
            kept = posed.kept_is;
            kept_size = c.factor.ensures.rows.kept_size;
            made = refl;
            redone = (c.factor.ensures.factors H is.ready).redone;
          } in
          judge_steps (seen c.self.inside) c.args.self.now _ H vs c.find_currents.new.out c.judge.result c.self.view_is is.stood stepped voltages has
          (c.judge.ensures.judges H vs c.find_currents.new.out leaving has (ap (λ v. v.items) (c.find_leaving.ensures.kinds ∙ c.solve.ensures.kinds) ∙ posed.kinds));
      ticks = λ H stands.
          let is = begins g at.In_ok-set_kinds H stands in
          ticked _ _ H c.judge.result _ _ c.self.view_is is.ready.free (c.factor.ensures.factors H is.ready).most (ok_claims _ c.judge.result (c.in_ok-factor.ensures.factors H is.ready).ticks);
      node = subst (λ (s : Net). IfErr c.judge.result (NamesNode s.case)) c.self.view_is c.judge.ensures.node;
    }

-- ---- what each stage asks

pub decide-requires : goal.decide-requires
decide-requires g c =
    let held = c.self.invariant.switches_hold.case_is in
    record {
      step = subst (λ (p : Parts). c.self.inside.made + 1 ≤ p.run.steps) (sym held) (omega (arith, step_left _ _ c.self.view_is c.requires.made));
      voltages = ap length c.deref.ensures.value ∙ c.self.invariant.shown.voltages_count ∙ sym (ap (λ (p : Parts). length p.nodes + 1) held);
      small = subst (All (λ v. unsigned_abs v ≤ LARGEST_VALUE)) (sym c.deref.ensures.value) c.self.invariant.shown.voltages_small;
      currents = ap length c.deref-2.ensures.value ∙ c.self.invariant.shown.switch_count ∙ sym (ap (λ (p : Parts). length p.switches) held);
      tacs = subst (λ (s : Net). length c.args.tacs.now ≡ length s.case.vars) (sym c.self.view_is) c.requires.tacs ∙ sym (ap (λ (p : Parts). length p.vars) held);
    }

pub set_kinds-requires : goal.set_kinds-requires
set_kinds-requires g c =
    record {
      room = c.self.invariant.room;
      switches = switches_stay c.self.inside.case.now.parts c.self.inside.switches c.decide.new.self c.self.invariant.switches_hold c.decide.ensures.case c.decide.ensures.rows;
      rows = c.self.invariant.rows_hold.case_is;
      keeps = λ still. keeps_still c.self.inside.case.now.parts c.self.inside.system c.self.inside.matrix.rows c.self.inside.switches c.decide.new.self c.self.invariant.decided (c.decide.ensures.same still);
    }

pub factor-requires-clause-rows : goal.factor-requires-clause-rows
factor-requires-clause-rows g c = (kinds_hold g (goal.at.factor-requires-clause-rows g c).After-set_kinds).together.rows_hold

pub factor-requires-clause-order : goal.factor-requires-clause-order
factor-requires-clause-order g c = c.self.invariant.order_is

pub factor-requires-clause-same : goal.factor-requires-clause-same
factor-requires-clause-same g c = c.self.invariant.branches_case

pub set_sources-requires : goal.set_sources-requires
set_sources-requires g c =
    record {
      room = c.set_kinds.ensures.room;
      step = omega (arith, step_left _ _ c.self.view_is c.requires.made);
      tacs = subst (λ (s : Net). length c.args.tacs.now ≡ length s.case.vars) (sym c.self.view_is) c.requires.tacs;
    }

pub solve-requires : goal.solve-requires
solve-requires g c =
    record {
      room = c.set_sources.ensures.room;
      order = c.self.invariant.order_is;
      same = c.self.invariant.branches_case;
      size = c.factor.ensures.rows.kept_size;
      all = c.in_ok-factor.ensures.all;
      voltages = ap length c.deref_mut.ensures.value ∙ c.self.invariant.shown.voltages_count;
      small = subst (All (λ v. unsigned_abs v ≤ LARGEST_VALUE)) (sym c.deref_mut.ensures.value) c.self.invariant.shown.voltages_small;
    }

pub accept-requires : goal.accept-requires
accept-requires g c =
    let at = goal.at.accept-requires g c in
    record {
      same = c.self.invariant.branches_case;
      each = ap length c.deref-3.ensures.value ∙ (solve_holds g at.After-solve (factor_holds g at.After-factor (kinds_hold g at.After-set_kinds))).together.shown.voltages_count;
      currents = ap length c.deref_mut-2.ensures.value ∙ c.self.invariant.shown.currents_count;
    }

pub find_leaving-requires : goal.find_leaving-requires
find_leaving-requires g c =
    let at = goal.at.find_leaving-requires g c in
    record {
      room = c.solve.ensures.room;
      order = c.self.invariant.order_is;
      same = c.accept.ensures.same;
      currents = ap length c.deref-4.ensures.value ∙ (accept_holds g at.After-accept (solve_holds g at.After-solve (factor_holds g at.After-factor (kinds_hold g at.After-set_kinds)))).together.shown.currents_count;
    }

pub find_currents-requires : goal.find_currents-requires
find_currents-requires g c =
    record {
      room = c.find_leaving.ensures.room;
      switches = (kinds_hold g (goal.at.find_currents-requires g c).After-set_kinds).together.switches_hold;
      small = c.find_leaving.ensures.small;
      out = ap length c.deref_mut-3.ensures.value ∙ c.self.invariant.shown.switch_count;
    }

pub judge-requires : goal.judge-requires
judge-requires g c =
    record {
      room = c.find_leaving.ensures.room;
      order = c.self.invariant.order_is;
      small = c.find_leaving.ensures.small;
    }

pub write_closed-requires : goal.write_closed-requires
write_closed-requires g c =
    let held = (kinds_hold g (goal.at.write_closed-requires g c).After-set_kinds).together.switches_hold.case_is in
    ap length c.deref_mut-4.ensures.value ∙ c.self.invariant.shown.closed_count ∙ sym (ap (λ (s : switching.Switching). length s.case.switches) c.find_currents.ensures.same ∙ ap (λ (p : Parts). length p.switches) held)
