use Rattle.std.proofs.Common.{◌≡◌, ◌<◌, sym, length, rules, arith}
use mir.Syntax.{w64}
use Rattle.std.proofs.lemmas.Int.{to_z-of_z}
use Rattle.emtp_net.proofs.AllMoved.{all_in_range, all_moved, currents_more, first_out, none_moved, range_more}
use Rattle.emtp_net.proofs.branches.Branches.accept_all.Goals as goal

pub loop-at-init : goal.loop-at-init
loop-at-init c = record {
  same = c.requires.same;
  stands = λ H stands. none_moved c.args.case.now.parts H c.args.voltages.now c.args.self.now c.requires.same stands;
  in_range = λ H stands b below head. absurd (omega (arith, head));
  currents = λ H r stands next. record { lumps = λ b x below is. absurd (omega (arith, below)); pseudos = λ b x below is. absurd (omega (arith, below)) };
}

pub loop-at-preserved : goal.loop-at-preserved
loop-at-preserved c =
    let case = c.args.case.now.parts in
    let vs = c.args.voltages.now in
    let at = c.loop-at.at in
    let i = c.in-Ok.current in
    let wide = to_z-of_z w64 i (search rules) in
    let inside : at < length c.loop-at.currents = omega (arith, c.loop-at-test.true, c.len-at-end.ensures, c.loop-at.auto.currents, c.requires.currents) in
    record {
      same = c.in-Ok.ensures.same;
      stands = λ H stands r next. let moved = c.in-Ok.ensures.moves H (c.loop-at.invariant.stands H stands) in moved.stands r next (c.loop-at.invariant.stands H stands r next);
      in_range = λ H stands. let moved = c.in-Ok.ensures.moves H (c.loop-at.invariant.stands H stands) in range_more case H vs at (c.loop-at.invariant.in_range H stands) moved.in_range;
      currents = λ H r stands next.
          let moved = c.in-Ok.ensures.moves H (c.loop-at.invariant.stands H stands) in
          rw wide (currents_more case c.loop-at.currents at i r inside (c.loop-at.invariant.currents H r stands next) (λ x. moved.lumped x r next) (λ x. moved.pseudo x r next));
    }

pub returns-in-Err-clause-moves : goal.returns-in-Err-clause-moves
returns-in-Err-clause-moves c = λ H stands.
    first_out c.args.case.now.parts H c.args.voltages.now c.loop-at.at c.in-Err.out c.args.case.now.fits.draft.network (c.loop-at.invariant.in_range H stands) (c.in-Err.ensures.moves H (c.loop-at.invariant.stands H stands))

pub returns-clause-moves : goal.returns-clause-moves
returns-clause-moves c = λ H stands.
    let case = c.args.case.now.parts in
    let vs = c.args.voltages.now in
    let n = c.loop-at.at in
    let all : n ≡ length case.branches = omega (arith, c.loop-at-test.false, c.loop-at.auto.at-end, c.len-at-end.ensures) in
    record {
      in_range = all_in_range case H vs n c.args.case.now.fits.draft.network (omega (arith, all)) (c.loop-at.invariant.in_range H stands);
      stands = λ r next. all_moved case H vs c.loop-at.self n c.args.case.now.fits.draft.network c.loop-at.invariant.same (omega (arith, all)) (c.loop-at.invariant.stands H stands) r next;
      are_currents = λ r next. rw (sym all) (c.loop-at.invariant.currents H r stands next);
    }
