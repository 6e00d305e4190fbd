use Rattle.emtp_case.specs.Control.{quotient_of}
use Rattle.std.proofs.Common.{◌≡◌, ◌∙◌, sym, ap, ◌+◌, ◌*◌, Some, to_z, of_z, arith}
use mir.Syntax.{w64, w128}
use Rattle.std.proofs.lemmas.Int.{ints, to_z-of_z}
use Rattle.emtp_walk.specs.Coefficients.{is_large, range_bad}
use Rattle.emtp_walk.proofs.ControlCoefficients.{bad_below, bad_below-more, bad_of, bad_stays, bad_upto-below, quotients_small}
use Rattle.emtp_walk.proofs.coefficients.quotients_bad.Goals as goal

pub returns-in-Some-clause-value : goal.returns-in-Some-clause-value
returns-in-Some-clause-value c =
    let line = c.args.line in
    let power = c.loop-power.power in
    let f = quotient_of c.args.dt c.args.card.now c.args.divisor in
    let dt : to_z w64 (of_z w64 c.args.dt) ≡ c.args.dt = to_z-of_z w64 c.args.dt c.ranges.dt in
    let d : to_z w128 (of_z w128 c.args.divisor) ≡ c.args.divisor = omega (arith, ints, c.requires.divisor) in
    let q : to_z w128 (of_z w128 c.coefficient_quotient-quotient.result) ≡ c.coefficient_quotient-quotient.result = omega (arith, ints, c.coefficient_quotient-quotient.ensures.small) in
    let value = rw (dt, d) at c.coefficient_quotient-quotient.ensures.value in
    let large = rw q at c.is_large.ensures in
    let here : c.range_bad.result ≡ bad_of line f power = c.range_bad.ensures ∙ ap (range_bad line (10 * power + 1)) (large ∙ ap is_large value) in
    let none = rw (dt, d) at c.loop-power.invariant in
    let at : bad_below line f (power + 1) ≡ Some c.in-Some.bad = bad_below-more line f power none ∙ sym here ∙ c.in-Some.is in
    sym (sym (bad_upto-below line f c.args.order) ∙ bad_stays line f (power + 1) (c.args.order + 1) c.in-Some.bad (omega arith) at)

pub returns-clause-value : goal.returns-clause-value
returns-clause-value c =
    let f = quotient_of c.args.dt c.args.card.now c.args.divisor in
    let dt : to_z w64 (of_z w64 c.args.dt) ≡ c.args.dt = to_z-of_z w64 c.args.dt c.ranges.dt in
    let d : to_z w128 (of_z w128 c.args.divisor) ≡ c.args.divisor = omega (arith, ints, c.requires.divisor) in
    let last : c.loop-power.power ≡ c.args.order + 1 = omega arith in
    let none = rw (last, dt, d) at c.loop-power.invariant in
    sym (sym (bad_upto-below c.args.line f c.args.order) ∙ none)

pub returns-clause-small : goal.returns-clause-small
returns-clause-small c = λ k l.
    let f = quotient_of c.args.dt c.args.card.now c.args.divisor in
    let dt : to_z w64 (of_z w64 c.args.dt) ≡ c.args.dt = to_z-of_z w64 c.args.dt c.ranges.dt in
    let d : to_z w128 (of_z w128 c.args.divisor) ≡ c.args.divisor = omega (arith, ints, c.requires.divisor) in
    let last : c.loop-power.power ≡ c.args.order + 1 = omega arith in
    let none = rw (last, dt, d) at c.loop-power.invariant in
    quotients_small c.args.line f c.args.order k (sym (bad_upto-below c.args.line f c.args.order) ∙ none) l
