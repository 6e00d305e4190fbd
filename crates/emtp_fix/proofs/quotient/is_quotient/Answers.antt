use Rattle.std.proofs.Common.{arith, rules}
use Rattle.std.proofs.lemmas.Nat.{mul-le}
use Rattle.emtp_fix.proofs.quotient.is_quotient.Goals as goal

pub overflow_mul-product : goal.overflow_mul-product
overflow_mul-product c =
    let most = mul-le c.args.guess c.args.b 18446744073709551615 18446744073709551615 (omega arith) (omega arith) in
    omega (arith, most)

pub returns-then-product-x : goal.returns-then-product-x
returns-then-product-x c = search rules
