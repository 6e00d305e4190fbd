use Rattle.std.proofs.Common.{◌*◌, ◌^◌, ◌≤◌, subst, sym, unsigned_abs, arith}
use Rattle.emtp_fix.proofs.Wide.{abs-mul-le, product_through}
use Rattle.emtp_acting.proofs.capacitance.product.Goals as goal

pub returns-clause-value : goal.returns-clause-value
returns-clause-value c =
    product_through c.args.zc c.args.c (10 ^ 21) (2 * 10 ^ 15) c.requires.zc c.requires.c (omega arith) (omega arith) (omega arith)

pub returns-clause-bound : goal.returns-clause-bound
returns-clause-bound c =
    let small = abs-mul-le c.args.zc c.args.c (10 ^ 21) (2 * 10 ^ 15) c.requires.zc c.requires.c in
    subst (λ x. unsigned_abs x ≤ 2 * 10 ^ 36) (sym (returns-clause-value c)) (omega (arith, small))
