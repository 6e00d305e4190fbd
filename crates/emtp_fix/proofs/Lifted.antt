-- Quotients of numbers that a multiple of the divisor, and a half of it, were added to.
use Rattle.std.proofs.Common.{◌≡◌, ℕ, ◌/◌, ℤ, pos, ◌+ℤ◌, ◌-ℤ◌, ◌≤ℤ◌, ◌<ℤ◌, unsigned_abs, arith}
use Rattle.std.proofs.lemmas.Int.{ints}
use Rattle.std.proofs.Math.Nat.{div-mul-le_self, lt-div-mul-add}
use Rattle.emtp_fix.specs.Rounding.{near}
use Rattle.emtp_fix.proofs.Nearest.{near_abs-low, near_abs-high, near-from_zero, near-below_zero}

pub pico_above : (a : ℤ) (x : ℕ) → pos 0 ≤ℤ a → a +ℤ pos 1267650600228229401500000000000 ≡ pos x → near a (pos 1000000000000) ≡ pos (x / 1000000000000) -ℤ pos 1267650600228229401
pico_above a x sign is =
    let low = near_abs-low (unsigned_abs a) 1000000000000 (omega arith) in
    let high = near_abs-high (unsigned_abs a) 1000000000000 (omega arith) in
    omega (arith, ints, low, high, near-from_zero a 1000000000000 sign, div-mul-le_self x 1000000000000, lt-div-mul-add {a = x} {b = 1000000000000} (omega arith))

pub pico_below : (a : ℤ) (x : ℕ) → a <ℤ pos 0 → a +ℤ pos 1267650600228229401499999999999 ≡ pos x → near a (pos 1000000000000) ≡ pos (x / 1000000000000) -ℤ pos 1267650600228229401
pico_below a x sign is =
    let low = near_abs-low (unsigned_abs a) 1000000000000 (omega arith) in
    let high = near_abs-high (unsigned_abs a) 1000000000000 (omega arith) in
    omega (arith, ints, low, high, near-below_zero a 1000000000000 sign, div-mul-le_self x 1000000000000, lt-div-mul-add {a = x} {b = 1000000000000} (omega arith))

pub micro_above : (a : ℤ) (x : ℕ) → pos 0 ≤ℤ a → a +ℤ pos 1208925819614629174500000 ≡ pos x → near a (pos 1000000) ≡ pos (x / 1000000) -ℤ pos 1208925819614629174
micro_above a x sign is =
    let low = near_abs-low (unsigned_abs a) 1000000 (omega arith) in
    let high = near_abs-high (unsigned_abs a) 1000000 (omega arith) in
    omega (arith, ints, low, high, near-from_zero a 1000000 sign, div-mul-le_self x 1000000, lt-div-mul-add {a = x} {b = 1000000} (omega arith))

pub micro_below : (a : ℤ) (x : ℕ) → a <ℤ pos 0 → a +ℤ pos 1208925819614629174499999 ≡ pos x → near a (pos 1000000) ≡ pos (x / 1000000) -ℤ pos 1208925819614629174
micro_below a x sign is =
    let low = near_abs-low (unsigned_abs a) 1000000 (omega arith) in
    let high = near_abs-high (unsigned_abs a) 1000000 (omega arith) in
    omega (arith, ints, low, high, near-below_zero a 1000000 sign, div-mul-le_self x 1000000, lt-div-mul-add {a = x} {b = 1000000} (omega arith))
