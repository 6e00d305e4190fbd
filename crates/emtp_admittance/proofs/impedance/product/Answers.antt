use Rattle.std.proofs.Common.{◌^◌, arith}
use Rattle.emtp_fix.proofs.Wide.{abs-mul-le, product_through}
use Rattle.emtp_admittance.proofs.impedance.product.Goals as goal

pub returns-clause-value : goal.returns-clause-value
returns-clause-value c = product_through c.args.a c.args.b (10 ^ 18) (10 ^ 18) c.requires.a c.requires.b (omega arith) (omega arith) (omega arith)

pub returns-clause-bound : goal.returns-clause-bound
returns-clause-bound c = rw (product_through c.args.a c.args.b (10 ^ 18) (10 ^ 18) c.requires.a c.requires.b (omega arith) (omega arith) (omega arith)) (omega (arith, abs-mul-le c.args.a c.args.b (10 ^ 18) (10 ^ 18) c.requires.a c.requires.b))
