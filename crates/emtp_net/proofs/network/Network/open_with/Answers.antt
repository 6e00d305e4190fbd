use Rattle.std.proofs.Common.{◌≡◌, ◌∙◌, sym, refl, true, false, arith}
use Rattle.emtp_net.proofs.Resting.{shown_rest, stands_rest}
use Rattle.emtp_net.proofs.network.Network.open_with.Goals as goal

pub matrix_at_rest-requires-clause-rest : goal.matrix_at_rest-requires-clause-rest
matrix_at_rest-requires-clause-rest c = c.in-Ok-open-2.ensures.rest

pub returns-clause-rest : goal.returns-clause-rest
returns-clause-rest c =
    stands_rest c.args.case.now.parts _ refl c.in-Ok-open-2.ensures.rest c.in-Ok-open.ensures.stands c.in-Ok-matrix_at_rest.ensures.rows c.in-Ok-matrix_at_rest.ensures.none
    c.in-Ok-shown_at_rest.ensures.voltages c.in-Ok-shown_at_rest.ensures.currents c.in-Ok-shown_at_rest.ensures.switch_currents c.in-Ok-shown_at_rest.ensures.closed refl c.in-Ok-matrix_at_rest.ensures.redone

pub invariant_of-result : goal.invariant_of-result
invariant_of-result c = record {
  order_is = c.in_ok-order.ensures.value;
  branches_case = c.in-Ok-open-2.ensures.same;
  switches_hold = record { case_is = c.in-Ok-open.ensures.case; rows_are = c.in-Ok-open.ensures.rows ∙ c.in_ok-order.ensures.value };
  room = c.in-Ok.ensures.room;
  rows_hold = c.in-Ok-matrix_at_rest.ensures.rows;
  decided = λ is. let both : false ≡ true = sym c.in-Ok.ensures.undecided ∙ is in absurd (cc);
  shown = shown_rest c.args.case.now.parts c.in-Ok-shown_at_rest.shown.voltages.items c.in-Ok-shown_at_rest.shown.currents.items c.in-Ok-shown_at_rest.shown.switch_currents.items c.in-Ok-shown_at_rest.shown.closed.items c.in-Ok-shown_at_rest.ensures.voltages c.in-Ok-shown_at_rest.ensures.currents c.in-Ok-shown_at_rest.ensures.switch_currents c.in-Ok-shown_at_rest.ensures.count;
  few = record { made_few = omega arith; redone_few = omega (arith, c.in-Ok-matrix_at_rest.ensures.redone) };
}
