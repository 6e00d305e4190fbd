use Rattle.std.proofs.Common.{◌∷◌, [], rules, pos, true}
use Rattle.emtp_case.specs.declared.branch.Point.{Point}
use Rattle.emtp_case.proofs.Points.{no_points, one_more_point}
use Rattle.emtp_fix.specs.Rounding.{near, near_abs}
use Rattle.emtp_tests_laws.proofs.pseudo.uneven_reactor.Goals as goal

pub returns : goal.returns
unfolding near near_abs
returns c =
    let p0 : Point = record { current = pos 123456789; other = pos 9876543210 } in
    let p1 : Point = record { current = pos 1234567890; other = pos 12345678901 } in
    let p2 : Point = record { current = pos 23456789012; other = pos 13000000001 } in
    let h1 = one_more_point true (pos 100000000) ([]) p0 (no_points true (pos 100000000)) (search rules) in
    let h2 = one_more_point true (pos 100000000) (p0 ∷ []) p1 h1 (search rules) in
    let h3 = one_more_point true (pos 100000000) (p0 ∷ p1 ∷ []) p2 h2 (search rules) in
    h3
