-- What holds for the coefficients of a block of order 1, from what holds for each.
use Rattle.std.proofs.Common.{◌≤◌, ◌*◌, ◌^◌, List, arith, pos, slice_index_or, suc, unsigned_abs, zero, ℕ, ℤ}
use Rattle.emtp_case.specs.Control.{bilinear}
use Rattle.emtp_case.specs.held.Control.{HasWay}

-- what holds at 0 and at 1 holds up to 1
pub upto_1 : (P : ℕ → Type 0) → P 0 → P 1 → (j : ℕ) → j ≤ 1 → P j
upto_1 P at_0 at_1 zero below = at_0
upto_1 P at_0 at_1 (suc zero) below = at_1
upto_1 P at_0 at_1 (suc (suc j)) below = absurd (omega arith)

way_0 : (dt x : ℤ) → unsigned_abs (bilinear dt x 0) ≤ 8 * 10 ^ 25 → HasWay dt x 0
way_0 dt x small zero below = small
way_0 dt x small (suc i) below = absurd (omega arith)

-- the way of each coefficient of a card: the constant one, and the one that is taken through the bilinear rule
pub ways : (dt : ℤ) (card : List ℤ) → unsigned_abs (bilinear dt (slice_index_or card 0 (pos 0)) 0) ≤ 8 * 10 ^ 25
    → unsigned_abs (bilinear dt (slice_index_or card 1 (pos 0)) 0) ≤ 8 * 10 ^ 25 → unsigned_abs (bilinear dt (slice_index_or card 1 (pos 0)) 1) ≤ 8 * 10 ^ 25
    → (j : ℕ) → j ≤ 1 → HasWay dt (slice_index_or card j (pos 0)) j
ways dt card constant read taken = upto_1 (λ j. HasWay dt (slice_index_or card j (pos 0)) j) (way_0 dt (slice_index_or card 0 (pos 0)) constant)
    (upto_1 (λ i. unsigned_abs (bilinear dt (slice_index_or card 1 (pos 0)) i) ≤ 8 * 10 ^ 25) read taken)
