use Rattle.std.proofs.Common.{◌≡◌, ◌≢◌, ◌∙◌, ◌<◌, ◌+◌, sym, ap, length, length-set, get_or-set_other, arith}
use Rattle.emtp_case.specs.NodeRows.{row_at}
use Rattle.emtp_phasor.specs.Volts.{volt_in}
use Rattle.emtp_phasor.specs.declared.phasor.Phasor.{Phasor}
use Rattle.emtp_case.proofs.RowsOfNodes.{order_size, row_read}
use Rattle.emtp_phasor.proofs.Volting.{row_is_at, voltages_all, voltages_more}
use Rattle.emtp_phasor.proofs.voltages.fill_volts.Goals as goal

pub row_of-requires-clause-high : goal.row_of-requires-clause-high
row_of-requires-clause-high c = omega (arith, order_size c.args.case.now.parts c.args.order.now c.requires.order, c.loop-at-test.true, c.len-at-end.ensures)

pub volt_in-requires : goal.volt_in-requires
volt_in-requires c = omega (arith, order_size c.args.case.now.parts c.args.order.now c.requires.order, c.requires.x, c.row_of.ensures.within)

pub loop-at-preserved : goal.loop-at-preserved
loop-at-preserved c =
    let case = c.args.case.now.parts in
    let at = c.loop-at.at in
    let row = row_is_at case (at + 1) c.row_of.result (row_read case c.args.order.now (at + 1) c.row_of.result c.requires.order c.row_of.ensures.within c.row_of.ensures.there c.row_of.ensures.only) in
    let value : c.volt_in.result ≡ volt_in c.args.x.now (row_at case (at + 1)) = c.volt_in.ensures ∙ ap (volt_in c.args.x.now) (sym row) in
    let inside : at + 1 < length c.loop-at.out = omega (arith, c.loop-at.auto.out, c.requires.out, c.loop-at-test.true, c.len-at-end.ensures, length-set {A = Phasor}) in
    let off : 0 ≢ at + 1 = λ e. omega (arith, e) in
    record {
      ground = rw get_or-set_other c.loop-at.invariant.ground;
      each = voltages_more case c.args.x.now c.loop-at.out at c.volt_in.result inside value c.loop-at.invariant.each;
    }

pub returns : goal.returns
returns c = voltages_all c.args.case.now.parts c.args.x.now c.loop-at.out (omega (arith, c.loop-at.auto.out, c.requires.out, length-set {A = Phasor})) c.loop-at.invariant.ground (λ k below. c.loop-at.invariant.each k (omega (arith, below, c.loop-at-test.false, c.len-at-end.ensures)))
