use Rattle.std.proofs.Common.{◌≡◌, ◌≢◌, ◌∙◌, ◌<◌, ◌+◌, sym, ap, length, length-set, ℤ, get_or-set_other, FitsSigned, to_z, of_z, rules, arith}
use mir.Syntax.{w64}
use Rattle.std.proofs.lemmas.Int.{to_z-of_z}
use Rattle.emtp_elim.specs.Matrix.{item}
use Rattle.emtp_rows.specs.held.Touched.{row_at}
use Rattle.emtp_case.proofs.RowsOfNodes.{order_size, row_read}
use Rattle.emtp_net.proofs.NodeVoltages.{row_is_at, voltages_all, voltages_more}
use Rattle.emtp_net.proofs.voltages.fill_voltages.Goals as goal

pub row_of-requires-clause-high : goal.row_of-requires-clause-high
row_of-requires-clause-high c = omega (arith, order_size c.args.case.now.parts c.args.order.now c.requires.order, c.requires.x)

pub bounds-x-row_of : goal.bounds-x-row_of
bounds-x-row_of c = omega (arith, order_size c.args.case.now.parts c.args.order.now c.requires.order, c.requires.x, c.row_of.ensures.within)

pub offset_bounds-x-row_of : goal.offset_bounds-x-row_of
offset_bounds-x-row_of c = omega (arith, order_size c.args.case.now.parts c.args.order.now c.requires.order, c.requires.x, c.row_of.ensures.within, c.args.case.now.fits.draft.counts.nodes)

pub loop-at-preserved : goal.loop-at-preserved
loop-at-preserved c =
    let case = c.args.case.now.parts in
    let at = c.loop-at.at in
    let row = row_is_at case (at + 1) c.row_of.result (row_read case c.args.order.now (at + 1) c.row_of.result c.requires.order c.row_of.ensures.within c.row_of.ensures.there c.row_of.ensures.only) in
    let fit : FitsSigned w64 (item c.args.x.now c.row_of.result) = search rules in
    let value : to_z w64 (of_z w64 (item c.args.x.now c.row_of.result)) ≡ item c.args.x.now (row_at case (at + 1)) = to_z-of_z w64 _ fit ∙ ap (item c.args.x.now) (sym row) in
    let inside : at + 1 < length c.loop-at.out = omega (arith, c.requires.out, c.requires.x, length-set {A = ℤ}) in
    let off : 0 ≢ at + 1 = λ e. omega (arith, e) in
    record {
      ground = rw get_or-set_other c.loop-at.invariant.ground;
      each = voltages_more case c.args.x.now c.loop-at.out at _ inside value c.loop-at.invariant.each;
    }

pub returns : goal.returns
returns c = voltages_all c.args.case.now.parts c.args.x.now c.loop-at.out (omega (arith, c.requires.out, length-set {A = ℤ})) c.loop-at.invariant.ground (λ k below. c.loop-at.invariant.each k (omega (arith, below, c.requires.x)))
