use Rattle.std.proofs.Common.{◌≡◌, ◌%◌, ◌+◌, ◌-◌, bit_or, FitsSigned, arith}
use mir.Syntax.{w64, w128}
use Rattle.std.proofs.lemmas.Int.{to_z-of_z, fits_signed_from_abs}
use Rattle.std.proofs.lemmas.Nat.{le_or_l, le_or_r}
use Rattle.emtp_fix.proofs.pivot.Pivot.overflowing_near.Goals as goal

pub returns-clause-value : goal.returns-clause-value
returns-clause-value c = λ none.
    let quotient = c.overflowing_quotient-quotient in
    let before : bit_or c.args.overflow quotient.result.1 ≡ 0 = omega (arith, none, le_or_l) in
    let beyond : quotient.result.1 ≡ 0 = omega (arith, before, le_or_r) in
    let apart : (c.args.divisor + (18446744073709551616 - c.args.self.value)) % 18446744073709551616 ≡ 0 = omega (arith, none, le_or_r) in
    let same : c.args.self.value ≡ c.args.divisor = omega (arith, apart, c.ranges.divisor.fits, c.args.self.small, c.args.self.quarter) in
    let a : FitsSigned w128 c.args.a = c.ranges.a in
    let small : FitsSigned w64 quotient.result.0 = fits_signed_from_abs w64 quotient.result.0 (omega (arith, quotient.ensures.small)) in
    simp to_z-of_z (simp to_z-of_z at (rw same at (quotient.ensures.value beyond)))

pub returns-clause-overflow : goal.returns-clause-overflow
returns-clause-overflow c = λ none.
    let before : bit_or c.args.overflow c.overflowing_quotient-quotient.result.1 ≡ 0 = omega (arith, none, le_or_l) in
    omega (arith, before, le_or_l)
