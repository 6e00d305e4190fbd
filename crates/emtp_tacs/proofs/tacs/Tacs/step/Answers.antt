use Rattle.std.proofs.Common.{◌∙◌, ◌+◌, ◌<◌, ◌≤◌, length, sym, ap, subst, List, ℤ, Ok, IfErr, false, refl, arith}
use Rattle.std.proofs.lemmas.List.{with_items_is}
use Rattle.emtp_blocks.specs.held.BlockRows.{Blocking, StandsFor as BlocksStandFor, rows_of_blocks}
use Rattle.emtp_case.specs.held.Control.{AreKnown}
use Rattle.emtp_tail.specs.Good.{first_change}
use Rattle.emtp_tail.specs.held.Good.{Good}
use Rattle.emtp_tacs.specs.Step.{Measured, blocks}
use Rattle.emtp_tacs.specs.held.Stages.{IsMeasured, IsSoFar, NamesVariable, Solves, capacities_of_system, capacities_of_variables, measured_from}
use Rattle.emtp_tacs.specs.held.Tacs.{HeldControl}
use Rattle.emtp_tacs.proofs.Advancing.{advances, blocks_done, blocks_refused, known_refused}
use Rattle.emtp_tacs.proofs.Stepping.{HasBegun, capacities_stay, counted, few_next, makes, ok_claims, refuses, ticks, variables_stand}
use Rattle.emtp_tacs.proofs.Systems.{err_claims, err_names}
use Rattle.emtp_tacs.proofs.tacs.Tacs.step.Goals as goal

pub invariant_of-self : goal.invariant_of-self
invariant_of-self g c = record {
  variables_hold = c.compute_known.ensures.holds;
  system_holds = c.first_changed-first.ensures.holds;
  few = few_next c.self.inside.case.now.parts c.self.inside.made c.self.inside.system.redone c.first_changed-first.new.self.redone c.self.invariant.few (subst (λ (t : HeldControl). t.made < t.case.run.steps) (sym c.self.view_is) c.requires.made) c.first_changed-first.ensures.few;
}

pub invariant_of-self-in_err-solve : goal.invariant_of-self-in_err-solve
invariant_of-self-in_err-solve g c = record {
  variables_hold = record { devices = c.compute_known.ensures.holds.devices; values = subst (AreKnown c.self.inside.case.now.parts) (sym (with_items_is c.compute_known.new.self.values c.solve.new.values (c.solve.auto.values ∙ c.deref_mut.ensures.len))) c.solve.ensures.values; names = c.compute_known.ensures.holds.names };
  system_holds = c.solve.ensures.holds;
  few = few_next c.self.inside.case.now.parts c.self.inside.made c.self.inside.system.redone c.solve.new.self.redone c.self.invariant.few (subst (λ (t : HeldControl). t.made < t.case.run.steps) (sym c.self.view_is) c.requires.made) (omega (arith, c.solve.ensures.redone, c.first_changed-first.ensures.few));
}

pub invariant_of-self-2 : goal.invariant_of-self-2
invariant_of-self-2 g c = record {
  variables_hold = c.compute_extras.ensures.holds;
  system_holds = c.solve.ensures.holds;
  few = few_next c.self.inside.case.now.parts c.self.inside.made c.self.inside.system.redone c.solve.new.self.redone c.self.invariant.few (subst (λ (t : HeldControl). t.made < t.case.run.steps) (sym c.self.view_is) c.requires.made) (omega (arith, c.solve.ensures.redone, c.first_changed-first.ensures.few));
}

pub returns-in_err-compute_known : goal.returns-in_err-compute_known
returns-in_err-compute_known g c =
    let case = c.self.inside.case.now.parts in
    let v = c.self.inside.variables in
    let s = c.self.inside.system in
    let made = c.self.inside.made in
    let first = c.first_changed-first.result in
    let m : Measured = measured_from c.args.voltages.now c.args.currents.now c.args.closed.now in
    let result = c.from_residual.result in
    let returned = c.from_residual.ensures.1 in
    let begun : HasBegun c.args.self.now case v s made first = record { seen = c.self.view_is; case_is = c.self.invariant.system_holds.case_is; first_is = c.first_changed-first.ensures.first } in
    record {
      counts = counted _ _ _ _ _ c.self.view_is refl refl c.first_changed-first.ensures.few (omega arith);
      capacities = capacities_stay case v s made (capacities_of_variables c.compute_known.new.self) (capacities_of_system c.first_changed-first.new.self) c.self.view_is c.compute_known.ensures.capacities c.first_changed-first.ensures.capacities;
      step = refuses _ case v s made first m result _ begun refl c.first_changed-first.ensures.redone returned
          (λ H stood. known_refused case H m (length case.extras) c.compute_known.new.self.values.items c.compute_known.new.self.devices _ (c.in_err-compute_known.ensures.known H stood.steps (variables_stand case v s made H stood)));
      ticks = λ H stands. record { made = err_claims _ result _ returned; most = omega arith };
      var = subst (λ (t : HeldControl). IfErr result (NamesVariable t.case)) c.self.view_is (err_names case result _ returned c.in_err-compute_known.ensures.var);
    }

pub returns-in_err-solve : goal.returns-in_err-solve
returns-in_err-solve g c =
    let case = c.self.inside.case.now.parts in
    let v = c.self.inside.variables in
    let s = c.self.inside.system in
    let made = c.self.inside.made in
    let first = c.first_changed-first.result in
    let m : Measured = measured_from c.args.voltages.now c.args.currents.now c.args.closed.now in
    let result = c.from_residual-in_err-solve.result in
    let returned = c.from_residual-in_err-solve.ensures.1 in
    let begun : HasBegun c.args.self.now case v s made first = record { seen = c.self.view_is; case_is = c.self.invariant.system_holds.case_is; first_is = c.first_changed-first.ensures.first } in
    record {
      counts = counted _ _ _ _ _ c.self.view_is refl refl (omega (arith, c.solve.ensures.redone, c.first_changed-first.ensures.few)) (omega (arith, c.solve.ensures.most, c.self.inside.case.now.fits.draft.counts.blocks));
      capacities = capacities_stay case v s made (capacities_of_variables c.compute_known.new.self) (capacities_of_system c.solve.new.self) c.self.view_is c.compute_known.ensures.capacities (c.solve.ensures.capacities ∙ c.first_changed-first.ensures.capacities);
      step = refuses _ case v s made first m result _ begun refl (c.solve.ensures.redone ∙ c.first_changed-first.ensures.redone) returned
          (λ H stood.
          let blocks_stand = subst (λ (b : Blocking). BlocksStandFor b H) (sym c.first_changed-first.ensures.blocks) stood.blocks in
          blocks_refused case H m c.compute_known.new.self.values.items c.deref_mut.result.now c.solve.new.values c.compute_known.new.self.devices c.solve.new.self.blocks _ c.deref_mut.ensures.value
          (c.in_ok-compute_known.ensures.known H stood.steps (variables_stand case v s made H stood)) (c.in_err-solve.ensures.solves H blocks_stand).solves);
      ticks = ticks case v s made first _ _ result begun c.solve.ensures.most (err_claims _ result _ returned);
      var = subst (λ (t : HeldControl). IfErr result (NamesVariable t.case)) c.self.view_is (err_names case result _ returned c.in_err-solve.ensures.var);
    }

pub returns : goal.returns
returns g c =
    let case = c.self.inside.case.now.parts in
    let v = c.self.inside.variables in
    let s = c.self.inside.system in
    let made = c.self.inside.made in
    let first = c.first_changed-first.result in
    let m : Measured = measured_from c.args.voltages.now c.args.currents.now c.args.closed.now in
    let result = c.compute_extras.result in
    let begun : HasBegun c.args.self.now case v s made first = record { seen = c.self.view_is; case_is = c.self.invariant.system_holds.case_is; first_is = c.first_changed-first.ensures.first } in
    record {
      counts = counted _ _ _ _ _ c.self.view_is refl refl (omega (arith, c.solve.ensures.redone, c.first_changed-first.ensures.few)) (omega (arith, c.solve.ensures.most, c.self.inside.case.now.fits.draft.counts.blocks));
      capacities = capacities_stay case v s made (capacities_of_variables c.compute_extras.new.self) (capacities_of_system c.solve.new.self) c.self.view_is (c.compute_extras.ensures.capacities ∙ c.compute_known.ensures.capacities) (c.solve.ensures.capacities ∙ c.first_changed-first.ensures.capacities);
      step = makes case v c.compute_extras.new.self s c.solve.new.self made first m result begun c.solve.ensures.holds (c.solve.ensures.redone ∙ c.first_changed-first.ensures.redone)
          (λ H stood.
          let blocks_stand = subst (λ (b : Blocking). BlocksStandFor b H) (sym c.first_changed-first.ensures.blocks) stood.blocks in
          let held = c.compute_known.new.self.devices in
          let whole = with_items_is c.compute_known.new.self.values c.solve.new.values (c.solve.auto.values ∙ c.deref_mut.ensures.len) in
          let solved = c.in_ok-solve.ensures.solves H blocks_stand in
          let took = subst (λ (xs : List ℤ). Solves (Ok tt) c.solve.new.self.blocks c.solve.new.values H (blocks case H xs)) c.deref_mut.ensures.value solved.solves in
          let done = blocks_done case H m c.compute_known.new.self.values.items c.solve.new.values held c.solve.new.self.blocks (c.in_ok-compute_known.ensures.known H stood.steps (variables_stand case v s made H stood)) took in
          let so_far = subst (λ (ys : List ℤ). IsSoFar case H false 0 ys held (record done.s { values = done.t.values })) (sym whole) done.so_far in
          advances case H m result c.solve.new.self.blocks c.solve.new.values held c.compute_extras.new.self c.solve.new.self c.compute_extras.ensures.holds refl solved.kept done
          (c.compute_extras.ensures.pass H (record done.s { values = done.t.values }) stood.steps so_far));
      ticks = ticks case v s made first _ _ result begun c.solve.ensures.most (ok_claims _ result c.in_ok-solve.ensures.ticks);
      var = subst (λ (t : HeldControl). IfErr result (NamesVariable t.case)) c.self.view_is c.compute_extras.ensures.var;
    }

pub first_changed-first-requires-clause-made : goal.first_changed-first-requires-clause-made
first_changed-first-requires-clause-made g c = subst (λ (t : HeldControl). t.made < t.case.run.steps) (sym c.self.view_is) c.requires.made

pub compute_known-requires : goal.compute_known-requires
compute_known-requires g c = record {
  holds = c.self.invariant.variables_hold;
  step = subst (λ (t : HeldControl). t.made + 1 ≤ t.case.run.steps) (sym c.self.view_is) (omega (arith, c.requires.made));
  measured = subst (λ (t : HeldControl). IsMeasured t.case (measured_from c.args.voltages.now c.args.currents.now c.args.closed.now)) (sym c.self.view_is) c.requires.measured;
}

pub solve-requires : goal.solve-requires
solve-requires g c =
    let s = c.self.inside.system in
    let next = c.first_changed-first.new.self in
    let kept = ap (λ (k : Good). first_change k.rows (rows_of_blocks next.blocks)) c.first_changed-first.ensures.kept in
    let rows = ap (λ (b : Blocking). first_change s.kept.rows (rows_of_blocks b)) c.first_changed-first.ensures.blocks in
    record {
      holds = c.first_changed-first.ensures.holds;
      first = c.first_changed-first.ensures.first ∙ sym (kept ∙ rows);
      values = subst (AreKnown c.self.inside.case.now.parts) (sym c.deref_mut.ensures.value) c.compute_known.ensures.holds.values;
    }

pub compute_extras-requires : goal.compute_extras-requires
compute_extras-requires g c = record { holds = record { devices = c.compute_known.ensures.holds.devices; values = subst (AreKnown c.self.inside.case.now.parts) (sym (with_items_is c.compute_known.new.self.values c.solve.new.values (c.solve.auto.values ∙ c.deref_mut.ensures.len))) c.solve.ensures.values; names = c.compute_known.ensures.holds.names } }
