-- A table at the inputs of its points.
use Rattle.std.proofs.Common.{◌≡◌, ◌∙◌, ap, refl, ℕ, zero, suc, ◌<◌, ℤ, pos, ◌+ℤ◌, ◌-ℤ◌, ◌*ℤ◌, ◌<ℤ◌, unsigned_abs, List, [], ◌∷◌, length, slice_index_or, true, false, int_le, int_lt, if◌then◌else◌, arith}
use Rattle.std.proofs.lemmas.Int.{ints}
use Rattle.std.proofs.Math.IntN.{*ℤ_comm}
use Rattle.emtp_case.specs.Branch.{origin}
use Rattle.emtp_case.specs.declared.branch.Point.{Point}
use Rattle.emtp_devices.specs.Device.{along, between_points, table_value}
use Rattle.emtp_fix.specs.Rounding.{near}
use Rattle.emtp_fix.proofs.Quotients.{near-exact, near-zero_times}

abbrev point_at : List Point → ℕ → Point
point_at points k = slice_index_or points k origin

-- the inputs of the points rise
abbrev pub Rises : List Point → Type 0
Rises points = (k : ℕ) → suc k < length points → (point_at points k).current <ℤ (point_at points (suc k)).current

rest-rises : (p : Point) (points : List Point) → Rises (p ∷ points) → Rises points
rest-rises p points rises k there = rises (suc k) (omega (arith, there))

-- each later input is above the first one
above-first : (p : Point) (points : List Point) (k : ℕ) → Rises (p ∷ points) → k < length points → p.current <ℤ (point_at points k).current
above-first p [] k rises there = absurd (omega (arith, there))
above-first p (q ∷ points) zero rises there = rises 0 (omega arith)
above-first p (q ∷ points) (suc k) rises there =
    let first : p.current <ℤ q.current = rises 0 (omega arith) in
    let next = above-first q points k (rest-rises p (q ∷ points) rises) (omega (arith, there)) in
    omega (arith, ints, first, next)

-- a line begins and ends at its points
begins : (s : ℤ) (p q : Point) → s ≡ p.current → between_points s p q ≡ p.other
begins s p q here =
    let none : s -ℤ p.current ≡ pos 0 = omega (arith, ints, here) in
    ap (λ z. p.other +ℤ near (z *ℤ (q.other -ℤ p.other)) (q.current -ℤ p.current)) none
    ∙ ap (λ z. p.other +ℤ z) (near-zero_times (q.other -ℤ p.other) (q.current -ℤ p.current))
    ∙ (omega (arith, ints))

ends : (s : ℤ) (p q : Point) → s ≡ q.current → p.current <ℤ q.current → between_points s p q ≡ q.other
ends s p q here rises =
    let d : ℕ = unsigned_abs (q.current -ℤ p.current) in
    let whole : q.current -ℤ p.current ≡ pos d = omega (arith, ints, rises) in
    let part : s -ℤ p.current ≡ pos d = omega (arith, ints, here, rises) in
    ap (λ z. p.other +ℤ near (z *ℤ (q.other -ℤ p.other)) (q.current -ℤ p.current)) part
    ∙ ap (λ z. p.other +ℤ near (pos d *ℤ (q.other -ℤ p.other)) z) whole
    ∙ ap (λ z. p.other +ℤ near z (pos d)) (*ℤ_comm (pos d) (q.other -ℤ p.other))
    ∙ ap (λ z. p.other +ℤ z) (near-exact (q.other -ℤ p.other) d (omega (arith, ints, rises)))
    ∙ (omega (arith, ints))

along-meets : (s : ℤ) (p : Point) (points : List Point) (k : ℕ) → Rises (p ∷ points) → k < length points → s ≡ (point_at points k).current → along s p points ≡ (point_at points k).other
along-meets s p [] k rises there here = absurd (omega (arith, there))
along-meets s p (q ∷ points) zero rises there here =
    let is : int_le s q.current ≡ true = grind (arith, ints) in
    ap (λ b. if b then between_points s p q else along s q points) is ∙ ends s p q here (rises 0 (omega arith))
along-meets s p (q ∷ points) (suc k) rises there here =
    let later : k < length points = omega (arith, there) in
    let rises' = rest-rises p (q ∷ points) rises in
    let up = above-first q points k rises' later in
    let is : int_le s q.current ≡ false = grind (arith, ints) in
    ap (λ b. if b then between_points s p q else along s q points) is ∙ along-meets s q points k rises' later here

from-first : (s : ℤ) (p : Point) (points : List Point) → Rises (p ∷ points) → s ≡ p.current → along s p points ≡ p.other
from-first s p [] rises here = refl
from-first s p (q ∷ points) rises here =
    let up : p.current <ℤ q.current = rises 0 (omega arith) in
    let is : int_le s q.current ≡ true = grind (arith, ints) in
    ap (λ b. if b then between_points s p q else along s q points) is ∙ begins s p q here

-- a table puts out the value of a point at its input
pub table-meets : (s : ℤ) (points : List Point) (k : ℕ) → Rises points → k < length points → s ≡ (point_at points k).current → table_value s points ≡ (point_at points k).other
table-meets s [] k rises there here = absurd (omega (arith, there))
table-meets s (p ∷ points) zero rises there here =
    let is : int_lt s p.current ≡ false = grind (arith, ints) in
    ap (λ b. if b then p.other else along s p points) is ∙ from-first s p points rises here
table-meets s (p ∷ points) (suc k) rises there here =
    let up = above-first p points k rises (omega (arith, there)) in
    let is : int_lt s p.current ≡ false = grind (arith, ints) in
    ap (λ b. if b then p.other else along s p points) is ∙ along-meets s p points k rises (omega (arith, there)) here
