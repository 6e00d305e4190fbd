use Rattle.std.proofs.Common.{rules, arith, ◌^◌, ◌≤◌, ◌++◌, ◌∷◌, [], List, ℤ, zero, suc, unsigned_abs}
use Rattle.emtp_elim.specs.held.Matrix.{AreWithin}
use Rattle.emtp_tests_numbers.proofs.table.filled.Goals as goal

one_more_within : (xs : List ℤ) (last : ℤ) → AreWithin (10 ^ 26) xs → unsigned_abs last ≤ 10 ^ 26 → AreWithin (10 ^ 26) (xs ++ last ∷ [])
one_more_within [] last all small zero = small
one_more_within [] last all small (suc i) = omega arith
one_more_within (x ∷ xs) last all small zero = all 0
one_more_within (x ∷ xs) last all small (suc i) = one_more_within xs last (λ j. all (suc j)) small i

pub loop-cell-preserved : goal.loop-cell-preserved
loop-cell-preserved c =
    (search rules, rw c.in_ok-push.ensures.items (one_more_within c.loop-cell.wide.items _ c.loop-cell.invariant.1 (search rules)))
