use Rattle.std.proofs.Common.{◌≡◌, ◌*ℤ◌, ◌+ℤ◌, pos, FitsSigned, to_z, rules, arith}
use mir.Syntax.{w64}
use Rattle.std.proofs.lemmas.Int.{ints, to_z-of_z}
use Rattle.emtp_phasor.proofs.Spans.{frequency_most, steps_small, times_up}
use Rattle.emtp_phasor.proofs.scanning.frequency_at.Goals as goal

number : (c : goal.After-struct_told-1) → to_z w64 c.args.k ≡ pos c.args.k
number c =
    let few = c.requires.scan.few in
    omega (arith, ints, c.requires.there, few)

pub overflow_mul-result : goal.overflow_mul-result
overflow_mul-result c =
    let scan = c.requires.scan in
    let by : FitsSigned w64 c.args.span.by = search rules in
    let small = steps_small c.args.span.first c.args.span.last c.args.span.by c.args.k scan c.requires.there in
    rw (number c, to_z-of_z w64 c.args.span.by by) (omega (arith, ints, small))

pub overflow_add-result : goal.overflow_add-result
overflow_add-result c =
    let scan = c.requires.scan in
    let k : to_z w64 c.args.k ≡ pos c.args.k = omega (arith, ints, c.requires.there, scan.few) in
    let by : FitsSigned w64 c.args.span.by = search rules in
    let first : FitsSigned w64 c.args.span.first = search rules in
    let small = steps_small c.args.span.first c.args.span.last c.args.span.by c.args.k scan c.requires.there in
    let whole : FitsSigned w64 (pos c.args.k *ℤ c.args.span.by) = omega (arith, ints, small) in
    rw (k, to_z-of_z w64 c.args.span.by by, to_z-of_z w64 c.args.span.first first, to_z-of_z w64 (pos c.args.k *ℤ c.args.span.by) whole) (omega (arith, ints, small, scan.first_least, scan.ordered, scan.most))

pub returns-clause-value : goal.returns-clause-value
returns-clause-value c =
    let scan = c.requires.scan in
    let k : to_z w64 c.args.k ≡ pos c.args.k = omega (arith, ints, c.requires.there, scan.few) in
    let by : FitsSigned w64 c.args.span.by = search rules in
    let first : FitsSigned w64 c.args.span.first = search rules in
    let small = steps_small c.args.span.first c.args.span.last c.args.span.by c.args.k scan c.requires.there in
    let whole : FitsSigned w64 (pos c.args.k *ℤ c.args.span.by) = omega (arith, ints, small) in
    let sum : FitsSigned w64 (c.args.span.first +ℤ pos c.args.k *ℤ c.args.span.by) = omega (arith, ints, small, scan.first_least, scan.ordered, scan.most) in
    rw (k, to_z-of_z w64 c.args.span.by by, to_z-of_z w64 c.args.span.first first, to_z-of_z w64 (pos c.args.k *ℤ c.args.span.by) whole)
    (to_z-of_z w64 (c.args.span.first +ℤ pos c.args.k *ℤ c.args.span.by) sum)

pub returns-clause-range : goal.returns-clause-range
returns-clause-range c =
    let scan = c.requires.scan in
    let up = times_up c.args.k c.args.span.by scan.by_least in
    let most = frequency_most c.args.span.first c.args.span.last c.args.span.by c.args.k scan c.requires.there in
    rw (returns-clause-value c) (record {
      least = omega (arith, ints, up, scan.first_least);
      most = omega (arith, ints, most, scan.most);
    })
