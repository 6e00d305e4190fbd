-- Small systems, worked out by hand, on which the definitions compute to the right answer.
use Rattle.std.proofs.Common.{◌≡◌, ◌*◌, ◌^◌, ℤ, pos, neg_ℤ, [], ◌∷◌, Ok, Err, refl}
use Rattle.emtp_fix.specs.Rounding.{near, near_abs}
use Rattle.emtp_elim.specs.Elimination.{stage, stage_right, last_unknowns}
use Rattle.emtp_elim.specs.Fault.{right_fault, row_fault, unknown_fault}
use Rattle.emtp_elim.specs.Outcome.{outcome}
use Rattle.emtp_elim.specs.declared.fault.RowCause.TheVariants.{Range, ZeroPivot}
use Rattle.emtp_elim.specs.declared.fault.PlainFault.TheVariants.{Row, Solve}

-- 1 in the unit of entries
abbrev one : ℤ
one = pos (10 ^ 12)

-- a branch of 1 ohm between two nodes, and no way to ground
floating_branch : outcome ((one ∷ neg_ℤ one ∷ []) ∷ (neg_ℤ one ∷ one ∷ []) ∷ []) (pos 0 ∷ pos 0 ∷ [])
    ≡ Err (Row (record { row = 1; cause = ZeroPivot }))
unfolding outcome row_fault right_fault unknown_fault stage stage_right last_unknowns near near_abs
floating_branch = refl

-- 1e6 A into 1e6 ohm to ground: 1e12 V
far_voltage : outcome ((pos (10 ^ 6) ∷ []) ∷ []) (pos (10 ^ 15) ∷ []) ≡ Err (Solve (record { row = 0 }))
unfolding outcome row_fault right_fault unknown_fault stage stage_right last_unknowns near near_abs
far_voltage = refl

-- 100 V at one end of a chain of two branches of 1 ohm, of which the far node has 0.5 ohm to ground
divider : outcome ((one ∷ pos 0 ∷ pos 0 ∷ []) ∷ (neg_ℤ one ∷ pos (2 * 10 ^ 12) ∷ neg_ℤ one ∷ []) ∷ (pos 0 ∷ neg_ℤ one ∷ pos (3 * 10 ^ 12) ∷ []) ∷ [])
    (pos (10 ^ 11) ∷ pos 0 ∷ pos 0 ∷ [])
    ≡ Ok (pos (10 ^ 11) ∷ pos (6 * 10 ^ 10) ∷ pos (2 * 10 ^ 10) ∷ [])
unfolding outcome row_fault right_fault unknown_fault stage stage_right last_unknowns near near_abs
divider = refl

-- a first row without conductance is out of range because of another entry, before its pivot is looked at
range_before_pivot : outcome ((pos 0 ∷ pos (2 * 10 ^ 17) ∷ []) ∷ (one ∷ one ∷ []) ∷ []) (pos (10 ^ 19) ∷ pos 0 ∷ [])
    ≡ Err (Row (record { row = 0; cause = Range }))
unfolding outcome row_fault right_fault unknown_fault stage stage_right last_unknowns near near_abs
range_before_pivot = refl
