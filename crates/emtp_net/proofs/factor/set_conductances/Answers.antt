use Rattle.std.proofs.Common.{◌∙◌, ap, refl, arith}
use Rattle.emtp_net.proofs.Conductances.{conductances_are, set_next, touches_then}
use Rattle.emtp_rows.specs.Nodal.{Nodal}
use Rattle.emtp_net.proofs.factor.set_conductances.Goals as goal

pub set_pseudo-requires-clause-rows : goal.set_pseudo-requires-clause-rows
set_pseudo-requires-clause-rows c = ap (λ (n : Nodal). n.case) c.loop-at.invariant.rest ∙ c.requires.rows

pub set_pseudo-requires-clause-there : goal.set_pseudo-requires-clause-there
set_pseudo-requires-clause-there c = omega (arith, c.loop-at-test.true, c.len-at-end.ensures)

pub set_pseudo-requires-clause-own : goal.set_pseudo-requires-clause-own
set_pseudo-requires-clause-own c = c.loop-at.invariant.room

pub set_pseudo-requires-clause-fixed : goal.set_pseudo-requires-clause-fixed
set_pseudo-requires-clause-fixed c = c.loop-at.invariant.fixed

pub loop-at-init : goal.loop-at-init
loop-at-init c = record {
  touched = record { earlier = omega arith; before = refl };
  rest = refl;
  room = c.requires.own;
  fixed = c.requires.fixed;
  set = λ H stands b below. absurd (omega (arith, below));
}

pub loop-at-preserved : goal.loop-at-preserved
loop-at-preserved c =
    let case = c.args.case.now.parts in
    let new = c.set_pseudo.new.rows in
    record {
      touched = touches_then c.args.rows.now c.loop-at.rows new c.loop-at.invariant.touched c.set_pseudo.ensures.touched;
      rest = c.set_pseudo.ensures.rest ∙ ap (λ (s : Nodal). record s { own = new.nodal.own }) c.loop-at.invariant.rest;
      room = c.set_pseudo.ensures.room;
      fixed = c.set_pseudo.ensures.fixed;
      set = λ H stands b below. set_next case H c.loop-at.rows.nodal.own new.nodal.own c.loop-at.at c.set_pseudo.ensures.others (c.set_pseudo.ensures.value H stands) (c.loop-at.invariant.set H stands) b below;
    }

pub returns-clause-set : goal.returns-clause-set
returns-clause-set c = λ H stands.
    let case = c.args.case.now.parts in
    c.loop-at.invariant.rest ∙ ap (λ xs. record c.args.rows.now.nodal { own = xs }) (conductances_are case H c.loop-at.rows.nodal.own c.loop-at.invariant.room (λ b below. c.loop-at.invariant.set H stands b (omega (arith, below, c.loop-at-test.false, c.len-at-end.ensures))))
