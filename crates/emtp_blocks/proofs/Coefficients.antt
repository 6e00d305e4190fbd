-- The coefficients of a block.
use Rattle.std.proofs.Common.{◌≡◌, ◌∙◌, sym, ap, ℕ, zero, suc, ◌^◌, ◌≤◌, ℤ, pos, ◌*ℤ◌, List, refl, arith}
use Rattle.emtp_case.specs.Control.{power_of, divisor_of, numerator_of, coefficient_sum}
use Rattle.emtp_case.specs.Sums.{sum_upto}
use Rattle.emtp_case.specs.declared.control.Block.{Block}
use Rattle.emtp_elim.specs.Matrix.{item}
use Rattle.emtp_fix.specs.Rounding.{near}
use Rattle.emtp_case.proofs.Sums.{sum_upto_same}

some_sum : (dt : ℤ) (b : Block) (n : ℕ) → 1 ≤ n → coefficient_sum dt b n ≡ sum_upto n (numerator_of dt b)
some_sum dt b zero some = absurd (omega (arith, some))
some_sum dt b (suc n) some = refl

no_sum : (dt : ℤ) (b : Block) (n : ℕ) → n ≡ 0 → coefficient_sum dt b n ≡ pos (10 ^ 12)
no_sum dt b n none = ap (coefficient_sum dt b) none

pub none_is : (dt : ℤ) (b : Block) → b.order ≡ 0 → coefficient_sum dt b b.order ≡ pos (10 ^ 12)
none_is dt b none = no_sum dt b b.order none

pub sum_is : (dt : ℤ) (b : Block) (ns : List ℤ) (d : ℤ) → 1 ≤ b.order → d ≡ divisor_of dt b → ((j : ℕ) → j ≤ b.order → item ns j ≡ near (power_of dt b.top j *ℤ pos (10 ^ 12)) d) → sum_upto b.order (item ns) ≡ coefficient_sum dt b b.order
sum_is dt b ns d some is each =
    sum_upto_same b.order (item ns) (numerator_of dt b) (λ k below. each k below ∙ ap (near (power_of dt b.top k *ℤ pos (10 ^ 12))) is) ∙ sym (some_sum dt b b.order some)
