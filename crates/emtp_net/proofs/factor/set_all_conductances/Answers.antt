use Rattle.std.proofs.Common.{◌≡◌, ◌∙◌, ◌<◌, sym, ap, length, length-set, slice_get, slice_set, to_z, of_z, arith}
use mir.Syntax.{w64}
use Rattle.std.proofs.lemmas.Int.{ints}
use Rattle.emtp_elim.specs.Matrix.{item}
use Rattle.emtp_net.proofs.Conductances.{conductances_are, set_more, touches_then}
use Rattle.emtp_net.specs.System.{conductance_by}
use Rattle.emtp_rows.specs.Nodal.{Nodal}
use Rattle.emtp_net.proofs.factor.set_all_conductances.Goals as goal

pub loop-at-preserved : goal.loop-at-preserved
loop-at-preserved c =
    let case = c.args.case.now.parts in
    let at = c.loop-at.at in
    let g = c.conductance.result in
    let wide : to_z w64 (of_z w64 g) ≡ g = omega (arith, ints, c.conductance.ensures.small) in
    let nodal = rw wide at c.set_conductance.ensures.nodal in
    let own : c.set_conductance.new.self.nodal.own ≡ slice_set c.loop-at.rows.nodal.own at g = ap (λ (s : Nodal). s.own) nodal in
    let inside : at < length c.loop-at.rows.nodal.own = omega (arith, c.loop-at.invariant.room, c.loop-at-test.true, c.len-at-end.ensures) in
    record {
      touched = touches_then c.args.rows.now c.loop-at.rows c.set_conductance.new.self c.loop-at.invariant.touched c.set_conductance.ensures.touched;
      rest = nodal ∙ ap (λ (s : Nodal). record s { own = slice_set c.loop-at.rows.nodal.own at g }) c.loop-at.invariant.rest ∙ ap (λ xs. record c.args.rows.now.nodal { own = xs }) (sym own);
      room = ap length own ∙ length-set c.loop-at.rows.nodal.own at g ∙ c.loop-at.invariant.room;
      set = λ H stands b below. ap (λ xs. item xs b) own ∙ set_more c.loop-at.rows.nodal.own at g (λ b. conductance_by case H b (slice_get case.branches b)) inside (c.conductance.ensures.value H stands) (c.loop-at.invariant.set H stands) b below;
    }

pub returns-clause-set : goal.returns-clause-set
returns-clause-set c = λ H stands.
    let case = c.args.case.now.parts in
    let end = c.loop-at.auto.at-end in
    c.loop-at.invariant.rest ∙ ap (λ xs. record c.args.rows.now.nodal { own = xs }) (conductances_are case H c.loop-at.rows.nodal.own c.loop-at.invariant.room (λ b below. c.loop-at.invariant.set H stands b (omega (arith, below, c.loop-at-test.false, c.len-at-end.ensures))))
