use Rattle.std.proofs.Common.{◌∙◌, ap, ◌^◌, unsigned_abs, arith}
use Rattle.std.proofs.Math.IntN.{*ℤ_comm}
use Rattle.emtp_fix.proofs.Wide.{abs-mul-le, product_through}
use Rattle.emtp_audit.proofs.values.product.Goals as goal
use Rattle.emtp_audit.specs.declared.limit.TheConstants.{LARGEST_SCALE}

pub returns-clause-value : goal.returns-clause-value
returns-clause-value c = product_through c.args.a c.args.b LARGEST_SCALE (10 ^ 10) c.requires.a c.requires.b (omega arith) (omega arith) (omega arith)

pub returns-clause-turned : goal.returns-clause-turned
returns-clause-turned c = returns-clause-value c ∙ *ℤ_comm c.args.a c.args.b

pub returns-clause-bound : goal.returns-clause-bound
returns-clause-bound c = λ m n h k. omega (arith, ap unsigned_abs (returns-clause-value c), abs-mul-le c.args.a c.args.b m n h k)
