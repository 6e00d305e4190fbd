use Rattle.std.proofs.Common.{◌≡◌, ◌∙◌, ap, ◌+ℤ◌, ◌*ℤ◌, pos, FitsSigned, arith}
use mir.Syntax.{w64}
use Rattle.std.proofs.lemmas.Int.{ints, to_z-of_z, fits_signed_from_abs}
use Rattle.emtp_fix.specs.Limit.{in_range}
use Rattle.emtp_fix.specs.Rounding.{near}
use Rattle.emtp_fix.specs.declared.limit.TheConstants.{MICRO}
use Rattle.emtp_fix.proofs.Quotients.{near-zero_times}
use Rattle.emtp_fix.proofs.product.micro_sum.Goals as goal

pub returns-then-a-eq0-clause-value : goal.returns-then-a-eq0-clause-value
returns-then-a-eq0-clause-value c =
    let zero : c.args.a ≡ pos 0 = omega (arith, ints, c.if-a-eq0.true) in
    let none : near (c.args.a *ℤ c.args.b) MICRO ≡ pos 0 = rw zero (near-zero_times c.args.b MICRO) in
    let rest : FitsSigned w64 c.args.rest = c.ranges.rest in
    let value = simp to_z-of_z at c.narrow_in_range.ensures.value in
    let same : c.args.rest ≡ c.args.rest +ℤ near (c.args.a *ℤ c.args.b) MICRO = omega (arith, ints, none) in
    value ∙ ap in_range same

pub returns-in-Some-clause-value : goal.returns-in-Some-clause-value
returns-in-Some-clause-value c =
    let a : FitsSigned w64 c.args.a = c.ranges.a in
    let b : FitsSigned w64 c.args.b = c.ranges.b in
    let is = simp to_z-of_z at c.in-Some.ensures.value in
    let rest : FitsSigned w64 c.args.rest = c.ranges.rest in
    let part : FitsSigned w64 c.in-Some.part = fits_signed_from_abs w64 c.in-Some.part (omega (arith, c.in-Some.ensures.small)) in
    let sum : FitsSigned w64 (c.args.rest +ℤ c.in-Some.part) = fits_signed_from_abs w64 (c.args.rest +ℤ c.in-Some.part) (omega (arith, ints, c.requires.rest, c.in-Some.ensures.small)) in
    let value = simp to_z-of_z at c.narrow_in_range-in-Some.ensures.value in
    value ∙ ap (λ z. in_range (c.args.rest +ℤ z)) is
