-- What is left of Ohm's law where an admittance is the inverse of an impedance but for its rounding.
use Rattle.std.proofs.Common.{◌≡◌, ◌∙◌, sym, ap, ℕ, ◌+◌, ◌*◌, ◌^◌, ◌≤◌, ℤ, pos, ◌<ℤ◌, ◌+ℤ◌, ◌-ℤ◌, ◌*ℤ◌, unsigned_abs, arith}
use Rattle.std.proofs.Math.IntN.{*ℤ_comm}
use Rattle.std.proofs.Math.Nat.{mul-le-mul_left}
use Rattle.std.proofs.lemmas.Int.{ints, unsigned_abs-mul}
use Rattle.std.proofs.lemmas.Nat.{mul-le}
use Rattle.emtp_fix.proofs.Nearest.{near-rest}
use Rattle.emtp_fix.proofs.Wide.{mul_add}
use Rattle.emtp_fix.specs.Rounding.{near}
use Rattle.emtp_fix.specs.declared.limit.TheConstants.{ATTO, NANO, PICO}
use Rattle.emtp_admittance.proofs.Products.{difference_times, product_of_three, sum_times, times_difference}
use Rattle.emtp_admittance.specs.Inverses.{IsInverse}
use Rattle.emtp_admittance.specs.declared.admittance.Admittance.{Admittance}
use Rattle.emtp_phasor.specs.SingleBranch.{IsSeen}

regrouped : (g r a : ℤ) → g *ℤ r *ℤ a ≡ r *ℤ (g *ℤ a)
regrouped g r a = ap (λ z. z *ℤ a) (*ℤ_comm g r) ∙ product_of_three r g a

-- ---- the voltage a + jc, times k, less the impedance times the current m, by what is left over: of the current, and of the
-- inverse

real_left : (r x g b a c k m : ℤ)
    → k *ℤ a -ℤ r *ℤ m
    ≡ (r *ℤ ((g *ℤ a -ℤ b *ℤ c) -ℤ m) -ℤ x *ℤ (b *ℤ a +ℤ g *ℤ c)) -ℤ (((g *ℤ r -ℤ b *ℤ x) -ℤ k) *ℤ a -ℤ (g *ℤ x +ℤ b *ℤ r) *ℤ c)
real_left r x g b a c k m =
    omega (
      arith,
      ints,
      times_difference r (g *ℤ a -ℤ b *ℤ c) m,
      times_difference r (g *ℤ a) (b *ℤ c),
      mul_add x (b *ℤ a) (g *ℤ c),
      difference_times (g *ℤ r -ℤ b *ℤ x) k a,
      difference_times (g *ℤ r) (b *ℤ x) a,
      sum_times (g *ℤ x) (b *ℤ r) c,
      regrouped g r a,
      regrouped b x a,
      regrouped g x c,
      regrouped b r c,
    )

imaginary_left : (r x g b a c k m : ℤ)
    → k *ℤ c -ℤ x *ℤ m
    ≡ (x *ℤ ((g *ℤ a -ℤ b *ℤ c) -ℤ m) +ℤ r *ℤ (b *ℤ a +ℤ g *ℤ c)) -ℤ ((g *ℤ x +ℤ b *ℤ r) *ℤ a +ℤ ((g *ℤ r -ℤ b *ℤ x) -ℤ k) *ℤ c)
imaginary_left r x g b a c k m =
    omega (
      arith,
      ints,
      times_difference x (g *ℤ a -ℤ b *ℤ c) m,
      times_difference x (g *ℤ a) (b *ℤ c),
      mul_add r (b *ℤ a) (g *ℤ c),
      sum_times (g *ℤ x) (b *ℤ r) a,
      difference_times (g *ℤ r -ℤ b *ℤ x) k c,
      difference_times (g *ℤ r) (b *ℤ x) c,
      regrouped g x a,
      regrouped b r a,
      regrouped g r c,
      regrouped b x c,
    )

-- ---- how large that is

four_products : (y r x u v d e a c : ℤ) (m : ℕ) → unsigned_abs y ≤ unsigned_abs (r *ℤ u) + unsigned_abs (x *ℤ v) + unsigned_abs (d *ℤ a) + unsigned_abs (e *ℤ c) → 2 * unsigned_abs u ≤ m → 2 * unsigned_abs v ≤ m
    → 2 * unsigned_abs d ≤ unsigned_abs r + unsigned_abs x → 2 * unsigned_abs e ≤ unsigned_abs r + unsigned_abs x
    → 2 * unsigned_abs y ≤ (unsigned_abs r + unsigned_abs x) * (m + (unsigned_abs a + unsigned_abs c))
four_products y r x u v d e a c m is in_u in_v in_d in_e =
    sizes (unsigned_abs y) (unsigned_abs r) (unsigned_abs x) (unsigned_abs u) (unsigned_abs v) (unsigned_abs d) (unsigned_abs e) (unsigned_abs a) (unsigned_abs c) m in_u in_v in_d in_e
    (omega (arith, is, unsigned_abs-mul r u, unsigned_abs-mul x v, unsigned_abs-mul d a, unsigned_abs-mul e c))
  where
    sizes : (y r x u v d e a c m : ℕ) → 2 * u ≤ m → 2 * v ≤ m → 2 * d ≤ r + x → 2 * e ≤ r + x → y ≤ r * u + x * v + d * a + e * c → 2 * y ≤ (r + x) * (m + (a + c))
    sizes y r x u v d e a c m in_u in_v in_d in_e is =
        let one : r * (2 * u) ≤ r * m = mul-le r (2 * u) r m (omega arith) in_u in
        let two : x * (2 * v) ≤ x * m = mul-le x (2 * v) x m (omega arith) in_v in
        let three : 2 * d * a ≤ (r + x) * a = mul-le (2 * d) a (r + x) a in_d (omega arith) in
        let four : 2 * e * c ≤ (r + x) * c = mul-le (2 * e) c (r + x) c in_e (omega arith) in
        omega (arith, is, one, two, three, four)

-- a current that is rounded and comes near to another one
current_left : (i m : ℤ) (t : ℕ) → unsigned_abs (near i PICO -ℤ m) ≤ t → 2 * unsigned_abs (i -ℤ m *ℤ pos (10 ^ 12)) ≤ 10 ^ 12 * (2 * t + 1)
current_left i m t small =
    let rest : 2 * unsigned_abs (i -ℤ near i PICO *ℤ pos (10 ^ 12)) ≤ 10 ^ 12 = near-rest i PICO (λ e. none (ap unsigned_abs e)) in
    omega (arith, ints, rest, small)
  where
    none : 10 ^ 12 ≡ 0 → ⊥
    none e = omega (arith, e)

-- where the parts of the current are near to m and to 0, and y is the inverse of r + jx, the parts of the voltage are near to r m
-- and x m
ohm : (r x m a c : ℤ) (y : Admittance) (t : ℕ) → IsInverse r x y → unsigned_abs (near (y.conductance *ℤ a -ℤ y.susceptance *ℤ c) PICO -ℤ m) ≤ t → unsigned_abs (near (y.susceptance *ℤ a +ℤ y.conductance *ℤ c) PICO -ℤ pos 0) ≤ t
    → (2 * unsigned_abs (ATTO *ℤ a -ℤ r *ℤ (m *ℤ pos (10 ^ 12))) ≤ (unsigned_abs r + unsigned_abs x) * (10 ^ 12 * (2 * t + 1) + (unsigned_abs a + unsigned_abs c)))
    × (2 * unsigned_abs (ATTO *ℤ c -ℤ x *ℤ (m *ℤ pos (10 ^ 12))) ≤ (unsigned_abs r + unsigned_abs x) * (10 ^ 12 * (2 * t + 1) + (unsigned_abs a + unsigned_abs c)))
ohm r x m a c y t inverse re im =
    let g = y.conductance in
    let b = y.susceptance in
    let k = m *ℤ pos (10 ^ 12) in
    let u = (g *ℤ a -ℤ b *ℤ c) -ℤ k in
    let v = b *ℤ a +ℤ g *ℤ c in
    let d = (g *ℤ r -ℤ b *ℤ x) -ℤ ATTO in
    let e = g *ℤ x +ℤ b *ℤ r in
    let in_u : 2 * unsigned_abs u ≤ 10 ^ 12 * (2 * t + 1) = current_left (g *ℤ a -ℤ b *ℤ c) m t re in
    let at_zero : v -ℤ pos 0 *ℤ pos (10 ^ 12) ≡ v = omega (arith, ints) in
    let whole : 2 * unsigned_abs (v -ℤ pos 0 *ℤ pos (10 ^ 12)) ≤ 10 ^ 12 * (2 * t + 1) = current_left v (pos 0) t im in
    let in_v : 2 * unsigned_abs v ≤ 10 ^ 12 * (2 * t + 1) = rw at_zero at whole in
    let first : unsigned_abs (ATTO *ℤ a -ℤ r *ℤ k) ≤ unsigned_abs (r *ℤ u) + unsigned_abs (x *ℤ v) + unsigned_abs (d *ℤ a) + unsigned_abs (e *ℤ c) = omega (arith, ints, real_left r x g b a c ATTO k) in
    let second : unsigned_abs (ATTO *ℤ c -ℤ x *ℤ k) ≤ unsigned_abs (r *ℤ v) + unsigned_abs (x *ℤ u) + unsigned_abs (e *ℤ a) + unsigned_abs (d *ℤ c) = omega (arith, ints, imaginary_left r x g b a c ATTO k) in (
      four_products (ATTO *ℤ a -ℤ r *ℤ k) r x u v d e a c (10 ^ 12 * (2 * t + 1)) first in_u in_v inverse.real inverse.imaginary,
      four_products (ATTO *ℤ c -ℤ x *ℤ k) r x v u e d a c (10 ^ 12 * (2 * t + 1)) second in_v in_u inverse.imaginary inverse.real,
    )

-- ---- over the amplitude

-- the part p of a voltage, over the amplitude m, is z
part_left : (p m z : ℤ) → pos 0 <ℤ m → z ≡ near (p *ℤ NANO) m → 2 * unsigned_abs (p *ℤ pos (10 ^ 9) -ℤ z *ℤ m) ≤ unsigned_abs m
part_left p m z above is = rw is (near-rest (p *ℤ NANO) m (λ e. omega (arith, ints, above, e)))

-- both parts, by what is seen
voltages_left : (a c m re im : ℤ) → pos 0 <ℤ m → re ≡ near (a *ℤ NANO) m → im ≡ near (c *ℤ NANO) m → 10 ^ 9 * (unsigned_abs a + unsigned_abs c) ≤ (unsigned_abs re + unsigned_abs im + 1) * unsigned_abs m
voltages_left a c m re im above is is' =
    let one = part_left a m re above is in
    let two = part_left c m im above is' in
    by_size (unsigned_abs re) (unsigned_abs im) (unsigned_abs m) (unsigned_abs a) (unsigned_abs c) (omega (arith, ints, one, unsigned_abs-mul re m)) (omega (arith, ints, two, unsigned_abs-mul im m))
  where
    by_size : (re im m a c : ℕ) → 2 * (10 ^ 9 * a) ≤ 2 * (re * m) + m → 2 * (10 ^ 9 * c) ≤ 2 * (im * m) + m → 10 ^ 9 * (a + c) ≤ (re + im + 1) * m
    by_size re im m a c one two = omega (arith, one, two)

-- what is seen, from a voltage that is near to r m
over_current : (p m z r : ℤ) (s q n t : ℕ) → pos 0 <ℤ m → z ≡ near (p *ℤ NANO) m → 2 * unsigned_abs (ATTO *ℤ p -ℤ r *ℤ (m *ℤ pos (10 ^ 12))) ≤ s * (10 ^ 12 * (2 * t + 1) + q) → 10 ^ 9 * q ≤ n
    → 2 * 10 ^ 18 * unsigned_abs (z -ℤ pos 1000 *ℤ r) * unsigned_abs m ≤ 10 ^ 18 * unsigned_abs m + s * (10 ^ 21 * (2 * t + 1) + n)
over_current p m z r s q n t above is near_to most =
    let d = z -ℤ pos 1000 *ℤ r in
    let whole : d *ℤ m ≡ z *ℤ m -ℤ pos 1000 *ℤ (r *ℤ m) = omega (arith, ints, difference_times z (pos 1000 *ℤ r) m, product_of_three (pos 1000) r m) in
    let same : r *ℤ (m *ℤ pos (10 ^ 12)) ≡ r *ℤ m *ℤ pos (10 ^ 12) = sym (product_of_three r m (pos (10 ^ 12))) in
    let rest = part_left p m z above is in
    let size : 2 * 10 ^ 18 * unsigned_abs (d *ℤ m) ≤ 10 ^ 18 * unsigned_abs m + 10 ^ 9 * (s * (10 ^ 12 * (2 * t + 1) + q)) = omega (arith, ints, whole, same, rest, near_to) in
    by_size (unsigned_abs d) (unsigned_abs m) s q n t (rw (unsigned_abs-mul d m) at size) most
  where
    by_size : (d m s q n t : ℕ) → 2 * 10 ^ 18 * (d * m) ≤ 10 ^ 18 * m + 10 ^ 9 * (s * (10 ^ 12 * (2 * t + 1) + q)) → 10 ^ 9 * q ≤ n → 2 * 10 ^ 18 * d * m ≤ 10 ^ 18 * m + s * (10 ^ 21 * (2 * t + 1) + n)
    by_size d m s q n t size most =
        let more : s * (10 ^ 9 * (10 ^ 12 * (2 * t + 1) + q)) ≤ s * (10 ^ 21 * (2 * t + 1) + n) = mul-le-mul_left s (omega (arith, most)) in
        omega (arith, size, more)

-- where the parts of the current that leaves are m and 0 but for the tolerance, R + jX is seen
pub seen : (r x m a c re im tolerance : ℤ) (y : Admittance) → pos 0 <ℤ m → IsInverse r x y → unsigned_abs (near (y.conductance *ℤ a -ℤ y.susceptance *ℤ c) PICO -ℤ m) ≤ unsigned_abs tolerance
    → unsigned_abs (near (y.susceptance *ℤ a +ℤ y.conductance *ℤ c) PICO -ℤ pos 0) ≤ unsigned_abs tolerance → re ≡ near (a *ℤ NANO) m → im ≡ near (c *ℤ NANO) m → IsSeen r x tolerance m re im
seen r x m a c re im tolerance y above inverse real imaginary is is' =
    let both = ohm r x m a c y (unsigned_abs tolerance) inverse real imaginary in
    let most = voltages_left a c m re im above is is' in
    let s = unsigned_abs r + unsigned_abs x in
    let q = unsigned_abs a + unsigned_abs c in
    let n = (unsigned_abs re + unsigned_abs im + 1) * unsigned_abs m in
    record {
      resistance = over_current a m re r s q n (unsigned_abs tolerance) above is both.0 most;
      reactance = over_current c m im x s q n (unsigned_abs tolerance) above is' both.1 most;
    }
