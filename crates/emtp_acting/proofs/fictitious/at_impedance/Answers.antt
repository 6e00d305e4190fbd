use Rattle.std.proofs.Common.{◌≡◌, ◌∙◌, ◌*ℤ◌, ◌-ℤ◌, ap, subst, sym, FitsSigned, unsigned_abs, arith}
use mir.Syntax.{w64, w128}
use Rattle.std.proofs.lemmas.Int.{ints, to_z-of_z}
use Rattle.emtp_fix.specs.Rounding.{near}
use Rattle.emtp_fix.specs.declared.limit.TheConstants.{ATTO}
use Rattle.emtp_acting.specs.held.Fictitious.{IsFictitious}
use Rattle.emtp_acting.proofs.FictitiousRanges.{made_is, ranges}
use Rattle.emtp_acting.proofs.fictitious.at_impedance.Goals as goal

lack_is : (c : goal.After-lack) → c.lack.result ≡ ATTO -ℤ near ATTO c.args.z *ℤ c.args.z
lack_is c =
    let z : FitsSigned w128 c.args.z = c.ranges.z in
    let g : FitsSigned w128 c.conductance-g.result = record { sfits = c.conductance-g.type_inv } in
    let is_g = simp to_z-of_z at c.conductance-g.ensures.value in
    let is = simp to_z-of_z at c.lack.ensures in
    is ∙ ap (λ y. ATTO -ℤ y *ℤ c.args.z) is_g

pub narrow-requires : goal.narrow-requires
narrow-requires c =
    let r = ranges c.args.z c.requires in
    omega (arith, ints, ap unsigned_abs (lack_is c), r.conducted)

pub returns-clause-range : goal.returns-clause-range
returns-clause-range c =
    let z : FitsSigned w128 c.args.z = c.ranges.z in
    let g : FitsSigned w128 c.conductance-g.result = record { sfits = c.conductance-g.type_inv } in
    let l : FitsSigned w128 c.lack.result = record { sfits = c.lack.type_inv } in
    let n : FitsSigned w64 c.narrow.result = record { sfits = c.narrow.type_inv } in
    let m : FitsSigned w64 c.narrow-2.result = record { sfits = c.narrow-2.type_inv } in
    let is_g = simp to_z-of_z at c.conductance-g.ensures.value in
    let is_l = simp to_z-of_z at c.lack.ensures in
    let is_n = simp to_z-of_z at c.narrow.ensures in
    let is_m = simp to_z-of_z at c.narrow-2.ensures in
    subst IsFictitious (sym (made_is _ _ c.args.z (to_z-of_z w64 c.narrow.result n ∙ is_n ∙ is_l ∙ ap (λ y. ATTO -ℤ y *ℤ c.args.z) is_g) (to_z-of_z w64 c.narrow-2.result m ∙ is_m ∙ is_g))) (ranges c.args.z c.requires)
