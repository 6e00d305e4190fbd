use Rattle.std.proofs.Common.{arith}
use Rattle.std.proofs.lemmas.Nat.{mul-le}
use Rattle.emtp_comtrade.proofs.data.is_quotient.Goals as goal

pub overflow_mul-product : goal.overflow_mul-product
overflow_mul-product c =
    let most = mul-le c.from.result c.from-2.result 18446744073709551615 18446744073709551615 (omega (arith, c.from.ensures)) (omega (arith, c.from-2.ensures)) in
    omega (arith, most)
