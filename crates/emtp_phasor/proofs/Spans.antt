-- The frequencies of a scan stay in range.
use Rattle.std.proofs.Common.{◌≡◌, ℕ, ◌+◌, ◌*◌, ◌^◌, ◌/◌, ◌%◌, ◌<◌, ◌≤◌, ℤ, pos, negsuc, ◌-ℤ◌, ◌*ℤ◌, ◌≤ℤ◌, unsigned_abs, arith}
use Rattle.std.proofs.lemmas.Int.{ints, unsigned_abs-mul}
use Rattle.std.proofs.lemmas.Nat.{div-add-mod', mul-le}
use Rattle.emtp_phasor.specs.Scanning.{frequency_at, frequency_count}
use Rattle.emtp_phasor.specs.held.Scanning.{IsScan}

pub times_up : (k : ℕ) (by : ℤ) → pos 1 ≤ℤ by → pos 0 ≤ℤ (pos k *ℤ by)
times_up k (pos b) least = omega (arith, ints)
times_up k (negsuc b) least = absurd (omega (arith, ints, least))

-- so many steps stay within the span
pub steps_within : (first last by : ℤ) (k : ℕ) → IsScan first last by → k < frequency_count first last by → unsigned_abs (pos k *ℤ by) ≤ unsigned_abs (last -ℤ first)
steps_within first last by k scan there =
    let d = unsigned_abs (last -ℤ first) in
    let b = unsigned_abs by in
    let below : k ≤ d / b = omega (arith, there) in
    let more : k * b ≤ d / b * b = mul-le k b (d / b) b below (omega arith) in
    let whole : d / b * b + d % b ≡ d = div-add-mod' d b in
    let size : unsigned_abs (pos k *ℤ by) ≡ k * b = unsigned_abs-mul (pos k) by in
    omega (arith, size, more, whole)

pub frequency_most : (first last by : ℤ) (k : ℕ) → IsScan first last by → k < frequency_count first last by → frequency_at first by k ≤ℤ last
frequency_most first last by k scan there =
    omega (arith, ints, times_up k by scan.by_least, steps_within first last by k scan there, scan.ordered)

pub steps_small : (first last by : ℤ) (k : ℕ) → IsScan first last by → k < frequency_count first last by → unsigned_abs (pos k *ℤ by) ≤ 10 ^ 13
steps_small first last by k scan there =
    omega (arith, ints, steps_within first last by k scan there, scan.first_least, scan.ordered, scan.most)
