-- The coefficients of a block by the bilinear rule, and which devices read D.
use Rattle.emtp_case.specs.Sums.{sum_upto}
use Rattle.emtp_case.specs.declared.control.Block.{Block}
use Rattle.emtp_case.specs.declared.control.DeviceCode.{DeviceCode}
use Rattle.emtp_case.specs.declared.control.DeviceCode.TheVariants.{Counter, Delay, DelayedPulse, Derivative, EffectiveValue, Extreme, Gate, GateAbove, Integral, PeakHold, SampleHold, Selector, Table, Window}
use Rattle.emtp_fix.specs.Rounding.{near}
use Rattle.std.specs.Prelude.{◌*◌, ◌^◌, ◌*ℤ◌, Bool, List, false, pos, slice_index_or, suc, true, zero, ℕ, ℤ}

-- Blocks

-- a coefficient that was taken so many times through the bilinear rule, s = (2/dt)*(1 - z)/(1 + z)
abbrev pub bilinear : ℤ → ℤ → ℕ → ℤ
bilinear dt x zero = x
bilinear dt x (suc j) = near (bilinear dt x j *ℤ pos (2 * 10 ^ 12)) dt

-- P(j) and Q(j): the coefficient of the power j of a denominator or a numerator card
abbrev pub power_of : ℤ → List ℤ → ℕ → ℤ
power_of dt card j = bilinear dt (slice_index_or card j (pos 0)) j

-- the coefficient of a power as a part of a divisor, in 10^-12
abbrev pub quotient_of : ℤ → List ℤ → ℤ → ℕ → ℤ
quotient_of dt card divisor power = near (power_of dt card power *ℤ pos (10 ^ 12)) divisor

-- S, by which all coefficients are divided
abbrev pub divisor_of : ℤ → Block → ℤ
divisor_of dt b = sum_upto b.order (power_of dt b.bottom)

-- d(j) and n(j)
abbrev pub denominator_of : ℤ → Block → ℕ → ℤ
denominator_of dt b j = quotient_of dt b.bottom (divisor_of dt b) j

abbrev pub numerator_of : ℤ → Block → ℕ → ℤ
numerator_of dt b j = quotient_of dt b.top (divisor_of dt b) j

-- c, which is 1 for a plain gain
abbrev pub coefficient_sum : ℤ → Block → ℕ → ℤ
coefficient_sum dt b zero = pos (10 ^ 12)
coefficient_sum dt b (suc n) = sum_upto (suc n) (numerator_of dt b)

-- k, the gain of a block within one step
abbrev pub step_gain : ℤ → Block → ℤ
step_gain dt b = near (b.gain *ℤ coefficient_sum dt b b.order) (pos (10 ^ 12))

-- Devices

-- both gates and the selector look at a variable D
abbrev pub needs_d : DeviceCode → Bool
needs_d Gate = true
needs_d GateAbove = true
needs_d Delay = false
needs_d DelayedPulse = false
needs_d Table = false
needs_d Window = false
needs_d Integral = false
needs_d Derivative = false
needs_d Selector = true
needs_d SampleHold = false
needs_d Extreme = false
needs_d PeakHold = false
needs_d Counter = false
needs_d EffectiveValue = false
