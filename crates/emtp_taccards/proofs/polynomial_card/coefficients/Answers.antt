use Rattle.std.proofs.Common.{rules, ℤ, to_z, of_z}
use mir.Syntax.{w64}
use Rattle.emtp_netcards.specs.held.Fields.{IsSmall}
use Rattle.emtp_taccards.proofs.Coefficients.{eight}
use Rattle.emtp_taccards.proofs.polynomial_card.coefficients.Goals as goal

abbrev kept : ℤ → ℤ
kept x = to_z w64 (of_z w64 x)

pub returns-clause-small : goal.returns-clause-small
returns-clause-small c =
    let low = c.in_ok-low.low in
    let high = c.in_ok-low.high in
    let a : IsSmall (kept low.0.0) = search rules in
    let b : IsSmall (kept low.0.1) = search rules in
    let d : IsSmall (kept low.1.0) = search rules in
    let e : IsSmall (kept low.1.1) = search rules in
    let f : IsSmall (kept high.0.0) = search rules in
    let g : IsSmall (kept high.0.1) = search rules in
    let h : IsSmall (kept high.1.0) = search rules in
    let i : IsSmall (kept high.1.1) = search rules in
    eight IsSmall (kept low.0.0) (kept low.0.1) (kept low.1.0) (kept low.1.1) (kept high.0.0) (kept high.0.1) (kept high.1.0) (kept high.1.1) a b d e f g h i
