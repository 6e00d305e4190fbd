use Rattle.std.proofs.Common.{◌≡◌, ◌+◌, ◌*◌, ◌/◌, ◌%◌, ◌^◌, ◌<◌, ◌≤◌, ◌⊎◌, inl, inr, pos, ◌-ℤ◌, arith}
use Rattle.std.proofs.lemmas.Bool.{cases_eq}
use Rattle.std.proofs.lemmas.Int.{ints}
use Rattle.std.proofs.lemmas.Nat.{pow_pos}
use Rattle.std.proofs.Math.Nat.{lt-div-mul-add, mul-le-mul_right}
use Rattle.emtp_fix.specs.Rounding.{near}
use Rattle.emtp_fix.proofs.Pivots.{near_above, near_below_even, near_below_odd}
use Rattle.emtp_fix.proofs.pivot.Pivot.overflowing_quotient.Goals.{then-a-lt0, else-a-lt0}
use Rattle.emtp_fix.proofs.pivot.Pivot.overflowing_quotient.Goals as goal

rounded : (c : goal.After-part) → c.cast_unsigned-y.result / 2 ^ c.args.self.shift < 18446744073709551616 → near c.args.a (pos c.args.self.value) ≡ pos c.part.result -ℤ pos 2305843009213693952
rounded c upper =
    let y = c.cast_unsigned-y.result in
    let p = c.args.self.value in
    let u = 2 ^ c.args.self.shift in
    let top = y / u in
    let most : (top + 1) * u ≤ 18446744073709551616 * u = mul-le-mul_right u (omega (arith, upper)) in
    let small : y < 2 ^ 122 = omega (arith, most, lt-div-mul-add {a = y} {b = u} (pow_pos c.args.self.shift), c.args.self.quarter, c.args.self.small) in
    let parts = c.part.ensures.value upper in
    elim c.if-a-lt0.branch [
      | then-a-lt0 w ↦ elim (cases_eq (p % 2) 0) [
        | inl even ↦ near_below_even c.args.a p (p / 2) c.part.result y (omega (arith, ints, w.if-a-lt0.true)) (omega (arith, even)) (omega (arith, c.args.self.quarter, pow_pos c.args.self.shift))
            (omega (arith, ints, c.cast_unsigned-y.ensures, w.below-is, w.from-below.ensures, small, even, c.args.self.parity, c.args.self.lifts, c.requires)) parts.0 parts.1
        | inr odd ↦ near_below_odd c.args.a p (p / 2) c.part.result y (omega (arith, ints, w.if-a-lt0.true)) (omega (arith, odd))
            (omega (arith, ints, c.cast_unsigned-y.ensures, w.below-is, w.from-below.ensures, small, odd, c.args.self.parity, c.args.self.lifts, c.requires)) parts.0 parts.1
      ]
      | else-a-lt0 w ↦
          let halves : (p ≡ 2 * (p / 2)) ⊎ (p ≡ 2 * (p / 2) + 1) = elim (cases_eq (p % 2) 0) [ inl even ↦ inl (omega (arith, even)) | inr odd ↦ inr (omega (arith, odd)) ] in
          near_above c.args.a p (p / 2) c.part.result y (omega (arith, ints, w.if-a-lt0.false)) halves (omega (arith, c.args.self.quarter, pow_pos c.args.self.shift))
          (omega (arith, ints, c.cast_unsigned-y.ensures, w.below-is, small, c.args.self.lifts, c.requires)) parts.0 parts.1
    ]

pub returns-clause-value : goal.returns-clause-value
returns-clause-value c = λ none.
    let upper : c.cast_unsigned-y.result / 2 ^ c.args.self.shift < 18446744073709551616 = omega (arith, none) in
    omega (arith, ints, rounded c upper, c.part.ensures.small)
