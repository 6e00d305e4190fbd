use Rattle.std.proofs.Common.{◌≡◌, ℕ, ◌+◌, ◌-◌, ◌/◌, ◌^◌, ◌<◌, take, length, arith, ◌∙◌, sym, append-nil}
use Rattle.std.proofs.Math.Nat.{mod-lt}
use Rattle.std.proofs.lemmas.List.{take_more_set, length-set}
use Rattle.emtp_fix.proofs.Digits.{place-some, unit-next, power-above, fraction-none, fraction-step}
use Rattle.emtp_fix.proofs.decimal.put_fraction.Goals as goal

pub nonzero_div-out : goal.nonzero_div-out
nonzero_div-out c =
    let some = place-some c.digits.places c.digits.left c.digits.invariant.left c.digits-test.true in
    omega (arith, c.digits.invariant.unit, unit-next c.digits.places some, power-above (c.digits.places - 1))

pub nonzero_rem-left : goal.nonzero_rem-left
nonzero_rem-left c =
    let some = place-some c.digits.places c.digits.left c.digits.invariant.left c.digits-test.true in
    omega (arith, c.digits.invariant.unit, unit-next c.digits.places some, power-above (c.digits.places - 1))

pub digits-preserved : goal.digits-preserved
digits-preserved c =
    let some = place-some c.digits.places c.digits.left c.digits.invariant.left c.digits-test.true in
    let unit : c.digits.unit / 10 ≡ 10 ^ (c.digits.places - 1) = omega (arith, c.digits.invariant.unit, unit-next c.digits.places some) in
    let above : 0 < 10 ^ (c.digits.places - 1) = power-above (c.digits.places - 1) in
    let room : c.digits.at < length c.digits.out = omega arith in
    record {
      text = rw (unit, take_more_set c.digits.out c.digits.at (48 + c.digits.left / 10 ^ (c.digits.places - 1)) room)
          (fraction-step (take c.digits.at c.digits.out) c.digits.places c.digits.left some c.digits-test.true ∙ c.digits.invariant.text);
      unit = unit;
      left = rw unit (mod-lt c.digits.left above);
      place = omega arith;
      room = omega (arith, length-set {A = ℕ});
    }

pub returns-clause-text : goal.returns-clause-text
returns-clause-text c =
    let text = rw (c.digits-test.false, fraction-none c.digits.places) at c.digits.invariant.text in
    sym (append-nil _) ∙ text
