use Rattle.std.proofs.Common.{◌≡◌, ◌∙◌, sym, ap, subst, length, refl, rules, arith}
use Rattle.std.proofs.lemmas.List.{with_items_is}
use Rattle.emtp_case.specs.RowOrder.{order_of}
use Rattle.emtp_case.specs.declared.case.Parts.{Parts}
use Rattle.emtp_rows.specs.Nodal.{Nodal}
use Rattle.emtp_switch.specs.Groups.{tied_of}
use Rattle.emtp_switch.specs.Kinds as switched
use Rattle.emtp_net.specs.held.Sums.{AreUntied}
use Rattle.emtp_net.proofs.Ending.{tied_ends}
use Rattle.emtp_net.proofs.Switching.{are_kinds, kinds_held, kinds_next, tied_held, tied_next}
use Rattle.emtp_net.proofs.nodal_system.NodalSystem.set_kinds.Goals as goal

pub kinds-requires : goal.kinds-requires
kinds-requires c = ap length c.deref_mut.ensures.value ∙ c.requires.room.kinds ∙ sym (ap (λ (p : Parts). length p.nodes) c.requires.switches.case_is)

pub set_kinds-requires : goal.set_kinds-requires
set_kinds-requires c =
    let read : c.deref.result.now ≡ c.kinds.new.out = c.deref.ensures.value ∙ with_items_is c.args.self.now.kinds c.kinds.new.out (c.kinds.auto.out ∙ c.deref_mut.ensures.len) in
    rw read (are_kinds c.args.case.now.parts c.args.rows.now.nodal.case c.args.switches.now c.kinds.new.out c.requires.switches c.requires.rows c.in-Ok.ensures.are)

pub switch_name-requires : goal.switch_name-requires
switch_name-requires c = omega (arith, c.in-Err.ensures.there, ap (λ (p : Parts). length p.switches) c.requires.switches.case_is)

pub returns-then-has_kinds : goal.returns-then-has_kinds
returns-then-has_kinds c =
    let case = c.args.case.now.parts in
    let both = c.has_kinds.ensures c.if-has_kinds.true in
    let keeps = c.requires.keeps both.1 in
    let has = keeps both.0 in
    record {
      room = c.requires.room;
      capacities = refl;
      touched = record { earlier = omega arith; before = refl };
      rest = refl;
      keeps = keeps;
      kinds = λ H states.
          let kinds = ap (switched.kinds_of case (order_of case)) states in
          record {
            free = ap (tied_of case.switches (order_of case)) (sym states) ∙ has.untied;
            states_are = states;
            kinds_are = has.here_are ∙ kinds;
            rows_are = has.there_are ∙ kinds;
          };
      node = tt;
    }

pub returns-in-Ok-clause-room : goal.returns-in-Ok-clause-room
returns-in-Ok-clause-room c =
    let has = c.requires.room in
    let whole = with_items_is c.args.self.now.kinds c.kinds.new.out (c.kinds.auto.out ∙ c.deref_mut.ensures.len) in
    record {
      kinds = ap length whole ∙ c.kinds.auto.out ∙ ap length c.deref_mut.ensures.value ∙ has.kinds;
      ties = λ off. subst AreUntied c.deref-in-Ok.ensures.value (c.has_ties-self.ensures off);
      places = has.places;
      ends = has.ends;
      values = has.values;
      right = has.right;
      x = has.x;
    }

pub returns-in-Err-clause-room : goal.returns-in-Err-clause-room
returns-in-Err-clause-room c =
    let has = c.requires.room in
    let whole = with_items_is c.args.self.now.kinds c.kinds.new.out (c.kinds.auto.out ∙ c.deref_mut.ensures.len) in
    record {
      kinds = ap length whole ∙ c.kinds.auto.out ∙ ap length c.deref_mut.ensures.value ∙ has.kinds;
      ties = λ off. absurd (cc);
      places = has.places;
      ends = has.ends;
      values = has.values;
      right = has.right;
      x = has.x;
    }

pub returns-in-Ok-clause-keeps : goal.returns-in-Ok-clause-keeps
returns-in-Ok-clause-keeps c = λ _.
    let case = c.args.case.now.parts in
    let whole = with_items_is c.args.self.now.kinds c.kinds.new.out (c.kinds.auto.out ∙ c.deref_mut.ensures.len) in
    let kinds = kinds_held case c.args.switches.now c.kinds.new.out c.requires.switches c.in-Ok.ensures.kinds in
    record {
      untied = tied_held case c.args.switches.now _ c.requires.switches c.in-Ok.ensures.untied;
      here_are = whole ∙ kinds;
      there_are = ap (λ (n : Nodal). n.kinds) c.set_kinds.ensures.nodal ∙ c.deref.ensures.value ∙ whole ∙ kinds;
    }

pub returns-in-Err-clause-keeps : goal.returns-in-Err-clause-keeps
returns-in-Err-clause-keeps c = λ is. absurd (cc)

pub returns-in-Ok-clause-touched : goal.returns-in-Ok-clause-touched
returns-in-Ok-clause-touched c = search rules

pub returns-in-Ok-clause-kinds : goal.returns-in-Ok-clause-kinds
returns-in-Ok-clause-kinds c = λ H states.
    let case = c.args.case.now.parts in
    let whole = with_items_is c.args.self.now.kinds c.kinds.new.out (c.kinds.auto.out ∙ c.deref_mut.ensures.len) in
    let kinds = kinds_next case H c.args.switches.now c.kinds.new.out c.requires.switches states c.in-Ok.ensures.kinds in
    record {
      free = tied_next case H c.args.switches.now _ c.requires.switches states c.in-Ok.ensures.untied;
      states_are = states;
      kinds_are = whole ∙ kinds;
      rows_are = ap (λ (n : Nodal). n.kinds) c.set_kinds.ensures.nodal ∙ c.deref.ensures.value ∙ whole ∙ kinds;
    }

pub returns-in-Err-clause-kinds : goal.returns-in-Err-clause-kinds
returns-in-Err-clause-kinds c = λ H states.
    let case = c.args.case.now.parts in
    record { is = tied_ends case H c.in-Err.tied.switch c.switch_name.result (tied_next case H c.args.switches.now _ c.requires.switches states c.in-Err.ensures.tied) c.switch_name.ensures.value; adds = refl }
