use Rattle.std.proofs.Common.{◌∷◌, [], rules, pos, false}
use Rattle.emtp_case.specs.declared.branch.Point.{Point}
use Rattle.emtp_case.proofs.Points.{no_points, one_more_point}
use Rattle.emtp_fix.specs.Rounding.{near, near_abs}
use Rattle.emtp_tests_laws.proofs.pseudo.uneven_resistor.Goals as goal

pub returns : goal.returns
unfolding near near_abs
returns c =
    let p0 : Point = record { current = pos 123456789; other = pos 45678901234 } in
    let p1 : Point = record { current = pos 1234567890; other = pos 56789012345 } in
    let p2 : Point = record { current = pos 23456789012; other = pos 60000000001 } in
    let h1 = one_more_point false (pos 100000000) ([]) p0 (no_points false (pos 100000000)) (search rules) in
    let h2 = one_more_point false (pos 100000000) (p0 ∷ []) p1 h1 (search rules) in
    let h3 = one_more_point false (pos 100000000) (p0 ∷ p1 ∷ []) p2 h2 (search rules) in
    h3
