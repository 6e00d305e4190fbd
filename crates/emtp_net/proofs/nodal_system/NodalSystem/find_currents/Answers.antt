use Rattle.std.proofs.Common.{◌≡◌, ◌∙◌, ◌==◌, true, ℕ, sym, ap, subst, length, pos, refl, arith}
use Rattle.std.proofs.lemmas.Bool.Decides.{nat_tests}
use Rattle.std.proofs.lemmas.List.{get_or_default}
use Rattle.emtp_case.specs.declared.case.Parts.{Parts}
use Rattle.emtp_switch.specs.held.Currents.{IsFirstBeyond}
use Rattle.emtp_net.specs.Part.{leaving_rows, states_at, switch_currents_at}
use Rattle.emtp_net.specs.Step.{first_beyond}
use Rattle.emtp_net.proofs.Ending.{switch_ends}
use Rattle.emtp_net.proofs.Switching.{beyond_at, both_empty, currents_next, length-currents, none_beyond}
use Rattle.emtp_net.proofs.nodal_system.NodalSystem.find_currents.Goals as goal

pub currents-requires : goal.currents-requires
currents-requires c =
    record {
      leaving = ap length c.deref.ensures.value ∙ c.requires.room.right ∙ sym (ap (λ (p : Parts). length p.nodes) c.requires.switches.case_is);
      small = rw c.deref.ensures.value (λ k d below. rw (get_or_default c.args.self.now.right.items k d (pos 0) below) (c.requires.small k (omega (arith, below, c.requires.room.right))));
      out = c.requires.out ∙ sym (ap (λ (p : Parts). length p.switches) c.requires.switches.case_is);
    }

pub switch_name-requires : goal.switch_name-requires
switch_name-requires c = omega (arith, c.in-Err.ensures.first.within, length-currents c.args.switches.now c.deref.result.now, ap (λ (p : Parts). length p.switches) c.requires.switches.case_is)

none_there : (n : ℕ) → (n == 0) ≡ true → n ≡ 0
none_there n h = grind (arith, nat_tests)

pub returns-then-is_empty : goal.returns-then-is_empty
returns-then-is_empty c =
    let none : length c.args.out.now ≡ 0 = none_there (length c.args.out.now) (sym c.is_empty.ensures ∙ c.if-is_empty.true) in
    record {
      same = refl;
      currents = λ H vs left states.
          let case = c.args.case.now.parts in
          let s = c.args.switches.now in
          let leaving = leaving_rows case H (states_at case H vs) in
          let count = ap length (sym (currents_next case H s (states_at case H vs) leaving c.requires.switches states refl)) ∙ length-currents s leaving ∙ ap (λ (p : Parts). length p.switches) c.requires.switches.case_is in
          let are : c.args.out.now ≡ switch_currents_at case H (states_at case H vs) = both_empty c.args.out.now (switch_currents_at case H (states_at case H vs)) none (count ∙ sym c.requires.out ∙ none) in
          record { are = are; within = ap first_beyond (sym are) ∙ none_beyond c.args.out.now (λ k d below. absurd (omega (arith, below, none))) };
      node = tt;
    }

pub returns-in-Ok : goal.returns-in-Ok
returns-in-Ok c =
    record {
      same = c.currents.ensures.same;
      currents = λ H vs left states.
          let case = c.args.case.now.parts in
          let leave : c.deref.result.now ≡ leaving_rows case H (states_at case H vs) = c.deref.ensures.value ∙ left.leaving in
          let are : c.currents.new.out ≡ switch_currents_at case H (states_at case H vs) = c.in-Ok.ensures.value ∙ currents_next case H c.args.switches.now (states_at case H vs) c.deref.result.now c.requires.switches states leave in
          record { are = are; within = ap first_beyond (sym are) ∙ none_beyond c.currents.new.out c.in-Ok.ensures.small };
      node = tt;
    }

pub returns-in-Err : goal.returns-in-Err
returns-in-Err c =
    record {
      same = c.currents.ensures.same;
      currents = λ H vs left states.
          let case = c.args.case.now.parts in
          let leave : c.deref.result.now ≡ leaving_rows case H (states_at case H vs) = c.deref.ensures.value ∙ left.leaving in
          let first = subst (λ l. IsFirstBeyond l c.in-Err.fault.switch) (currents_next case H c.args.switches.now (states_at case H vs) c.deref.result.now c.requires.switches states leave) c.in-Err.ensures.first in
          record { is = switch_ends case H vs c.in-Err.fault.switch c.switch_name.result left.voltages left.in_range (beyond_at (switch_currents_at case H (states_at case H vs)) c.in-Err.fault.switch first) c.switch_name.ensures.value; adds = refl };
      node = c.switch_name.ensures.node;
    }
