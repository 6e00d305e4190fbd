use Rattle.std.proofs.Common.{◌*◌, ◌^◌, subst, sym, arith}
use Rattle.std.proofs.lemmas.Int.{ints}
use Rattle.emtp_case.specs.held.Range.{IsBetween}
use Rattle.emtp_fix.proofs.Wide.{product_through}
use Rattle.emtp_acting.proofs.FictitiousRanges.{product_range}
use Rattle.emtp_acting.proofs.fictitious.product.Goals as goal

pub returns-clause-value : goal.returns-clause-value
returns-clause-value c =
    product_through c.args.g c.args.l (10 ^ 17) (2 * 10 ^ 15) (omega (arith, ints, c.requires.g.least, c.requires.g.most)) (omega (arith, ints, c.requires.l.least, c.requires.l.most)) (omega arith) (omega arith) (omega arith)

pub returns-clause-range : goal.returns-clause-range
returns-clause-range c = subst (IsBetween 1 (2 * 10 ^ 32)) (sym (returns-clause-value c)) (product_range c.args.g c.args.l c.requires.g c.requires.l)
