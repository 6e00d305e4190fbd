use Rattle.std.proofs.Common.{◌≡◌, ◌∙◌, sym, to_z, of_z, arith, rules}
use mir.Syntax.{w64, w128}
use Rattle.std.proofs.lemmas.Int.{ints, to_z-of_z}
use Rattle.emtp_walk.specs.Coefficients.{divided_bad}
use Rattle.emtp_walk.specs.held.Coefficients.{IsBlockEntry}
use Rattle.emtp_walk.proofs.ControlCoefficients.{block_divided, if_none}
use Rattle.emtp_walk.proofs.coefficients.divided_bad.Goals as goal

pub returns-clause-entry : goal.returns-clause-entry
returns-clause-entry c =
    let e = c.args.entry.now in
    let dt : to_z w64 (of_z w64 c.args.dt) ≡ c.args.dt = to_z-of_z w64 c.args.dt c.ranges.dt in
    let d : to_z w128 (of_z w128 c.coefficient_divisor-divisor.result) ≡ c.coefficient_divisor-divisor.result = omega (arith, ints, c.coefficient_divisor-divisor.ensures.small) in
    let is = rw dt at c.coefficient_divisor-divisor.ensures.value in
    let value = rw (dt, d) at c.divided_by.ensures in
    if_none (IsBlockEntry c.args.dt e) c.divided_by.result (λ none.
    block_divided c.args.dt e c.args.top c.args.bottom c.coefficient_divisor-divisor.result is (λ zero. absurd (omega (arith, ints, zero, d))) c.requires.block c.requires.numerator c.requires.denominator (sym value ∙ none))

pub returns-then-divisor-eq0-clause-value : goal.returns-then-divisor-eq0-clause-value
unfolding divided_bad
returns-then-divisor-eq0-clause-value c = search rules

pub returns-clause-value : goal.returns-clause-value
unfolding divided_bad
returns-clause-value c = search rules
