use Rattle.std.proofs.Common.{sym, refl, arith}
use Rattle.emtp_elim.specs.Matrix.{item}
use Rattle.emtp_net.proofs.Folding.{untied_total}
use Rattle.emtp_net.proofs.sums.fold.Goals as goal

pub returns-then-ties-clause-groups : goal.returns-then-ties-clause-groups
returns-then-ties-clause-groups c = c.fold_rows.ensures.groups

pub returns-then-ties-clause-bound : goal.returns-then-ties-clause-bound
returns-then-ties-clause-bound c = c.fold_rows.ensures.bound

pub returns-else-ties-clause-groups : goal.returns-else-ties-clause-groups
returns-else-ties-clause-groups c = record {
  sum = λ j below sum.
      sym (untied_total c.args.kinds.now (item c.args.sums.now) j (c.requires.ties c.if-ties.false) (omega (arith, below, c.requires.each)) sum);
  node = λ j below kcl. refl;
}

pub returns-else-ties-clause-bound : goal.returns-else-ties-clause-bound
returns-else-ties-clause-bound c = λ j below. omega (arith, c.requires.small j below)
