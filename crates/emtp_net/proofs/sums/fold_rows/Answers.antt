use Rattle.std.proofs.Common.{◌≡◌, ◌∙◌, ◌<◌, sym, length, refl, arith}
use Rattle.std.proofs.lemmas.Int.{ints}
use Rattle.emtp_elim.specs.Matrix.{item}
use Rattle.emtp_net.proofs.Folding.{folded_more, folded_plain, folded_small, group_is}
use Rattle.emtp_net.proofs.sums.fold_rows.Goals as goal

pub fold_row-requires-clause-amount : goal.fold_row-requires-clause-amount
fold_row-requires-clause-amount c = λ plain.
    let k = c.loop-k.k in
    let inside : k < length c.args.sums.now = omega (arith, c.loop-k-test.true, c.requires.each) in
    let same = folded_plain c.args.kinds.now k c.args.sums.now c.loop-k.sums k c.requires.each c.loop-k.invariant inside plain in
    omega (arith, ints, same, c.requires.small k inside)

pub fold_row-requires-clause-bound : goal.fold_row-requires-clause-bound
fold_row-requires-clause-bound c = λ j below.
    folded_small c.args.kinds.now c.loop-k.k j c.args.sums.now c.loop-k.sums c.loop-k.invariant (omega (arith, below, c.loop-k.invariant.size)) (omega (arith, c.loop-k-test.true, c.requires.each)) c.requires.few c.requires.small

pub loop-k-preserved : goal.loop-k-preserved
loop-k-preserved c = folded_more c.args.kinds.now c.loop-k.k c.args.sums.now c.loop-k.sums c.fold_row.new.sums c.requires.each (omega (arith, c.loop-k-test.true, c.requires.each)) c.fold_row.auto.sums c.loop-k.invariant c.fold_row.ensures

pub returns-clause-groups : goal.returns-clause-groups
returns-clause-groups c = record {
  sum = λ j below sum.
      let end : c.loop-k.k ≡ length c.args.kinds.now = omega arith in
      let all = rw end at (c.loop-k.invariant.sums j below) in
      all ∙ sym (group_is c.args.kinds.now (item c.args.sums.now) j (omega (arith, below, c.requires.each)) sum);
  node = λ j below kcl. folded_plain c.args.kinds.now c.loop-k.k c.args.sums.now c.loop-k.sums j c.requires.each c.loop-k.invariant below (rw kcl refl);
}

pub returns-clause-bound : goal.returns-clause-bound
returns-clause-bound c = λ j below.
    let least = folded_small c.args.kinds.now c.loop-k.k j c.args.sums.now c.loop-k.sums c.loop-k.invariant below (omega (arith, c.requires.each)) c.requires.few c.requires.small in
    omega (arith, least)
