use Rattle.std.proofs.Common.{◌≡◌, ◌∙◌, sym, ap, ◌+ℤ◌, ◌/◌, ◌%◌, ◌<◌, ◌≤◌, ◌^◌, Some, unsigned_abs, FitsSigned, arith}
use mir.Syntax.{w64, w128}
use Rattle.std.proofs.lemmas.Int.{ints, to_z-of_z, fits_signed_from_abs}
use Rattle.std.proofs.lemmas.Nat.{le_or_l, le_or_r}
use Rattle.emtp_fix.proofs.Ranges.{in_range-some}
use Rattle.emtp_line.proofs.overflowing.overflowing_sum.Goals as goal

-- what a word of 0 says of the sum
record Sum (c : goal.After-lowered) : Type 0 where
  is : c.lowered.result ≡ c.args.x +ℤ c.args.history
  within : unsigned_abs (c.args.x +ℤ c.args.history) ≤ 2 ^ 59

sum_is : (c : goal.After-lowered) → c.lifted_sum-lifted.result / 18446744073709551616 ≡ 0 → c.lifted_sum-lifted.result % 18446744073709551616 / 1152921504606846976 ≡ 0 → Sum c
sum_is c high low =
    let x : FitsSigned w64 c.args.x = c.ranges.x in
    let h : FitsSigned w128 c.args.history = c.ranges.history in
    let small : c.lifted_sum-lifted.result < 2 ^ 60 = omega (arith, high, low) in
    let lifted = simp to_z-of_z at (c.lifted_sum-lifted.ensures small) in
    let lowered = c.lowered.ensures (omega (arith, small)) in
    record {
      is = omega (arith, ints, lifted, lowered, small);
      within = omega (arith, ints, lifted, small);
    }

pub returns-clause-value : goal.returns-clause-value
returns-clause-value c = λ none.
    let s = sum_is c (omega (arith, none, le_or_l, le_or_r)) (omega (arith, none, le_or_l, le_or_r)) in
    let fits : FitsSigned w64 c.lowered.result = fits_signed_from_abs w64 c.lowered.result (omega (arith, ap unsigned_abs s.is, s.within)) in
    in_range-some (c.args.x +ℤ c.args.history) (omega (arith, s.within)) ∙ ap Some (sym s.is ∙ sym (to_z-of_z w64 c.lowered.result fits))

pub returns-clause-within : goal.returns-clause-within
returns-clause-within c = λ none.
    let s = sum_is c (omega (arith, none, le_or_l, le_or_r)) (omega (arith, none, le_or_l, le_or_r)) in
    let fits : FitsSigned w64 c.lowered.result = fits_signed_from_abs w64 c.lowered.result (omega (arith, ap unsigned_abs s.is, s.within)) in
    rw (to_z-of_z w64 c.lowered.result fits) (omega (arith, ap unsigned_abs s.is, s.within))

pub returns-clause-overflow : goal.returns-clause-overflow
returns-clause-overflow c = λ none. omega (arith, none, le_or_l)
