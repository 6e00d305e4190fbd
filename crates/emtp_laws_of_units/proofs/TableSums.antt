-- The table of the cosine adds up as the cosine does.
use Rattle.std.proofs.Common.{◌≡◌, ◌∙◌, ◌+◌, ◌-◌, ◌*◌, ◌^◌, ◌≤◌, ap, sym, subst, refl, ℕ, ℤ, pos, ◌+ℤ◌, ◌-ℤ◌, ◌*ℤ◌, unsigned_abs, arith}
use Rattle.std.proofs.lemmas.Int.{ints, unsigned_abs-mul}
use Rattle.std.proofs.lemmas.Nat.{mul-le}
use Rattle.emtp_fix.proofs.Nearest.{near-rest}
use Rattle.emtp_fix.proofs.Wide.{abs-add-le}
use Rattle.emtp_wave.proofs.Circle.{direction_small}
use Rattle.emtp_wave.specs.Cosine.{direction, entry}
use Rattle.emtp_laws.proofs.Products.{mul_assoc, mul_sub, sub_mul, swapped}
use Rattle.emtp_laws_of_units.proofs.Directions.{drift_small, multiplied, sized, spread_small, swapped_off}
use Rattle.emtp_laws_of_units.specs.CosineTable.{excess_of_squares, excess_of_sum, sine_entry}

-- a number of the table is that of a direction in 10^-18, within so much
record IsEntry (within : ℕ) (x t : ℤ) : Type 0 where
  small : unsigned_abs x ≤ 2 * 10 ^ 18
  near_by : unsigned_abs (x -ℤ pos (10 ^ 6) *ℤ t) ≤ within

cosine_entry : (j : ℕ) → j ≤ 9000 → IsEntry 500000 (direction j).cosine (entry j)
cosine_entry j h = record {
  small = (direction_small j (omega (arith, h))).cosine_small;
  near_by = halved (direction j).cosine (entry j) (near-rest (direction j).cosine (pos (10 ^ 6)) (λ none. cc));
}
  where
    halved : (x t : ℤ) → 2 * unsigned_abs (x -ℤ t *ℤ pos (10 ^ 6)) ≤ 10 ^ 6 → unsigned_abs (x -ℤ pos (10 ^ 6) *ℤ t) ≤ 500000
    halved x t e = omega (arith, ints, e)

sine_is : (j : ℕ) → j ≤ 9000 → IsEntry 700000 (direction j).sine (sine_entry j)
sine_is j h =
    let other = cosine_entry (9000 - j) (omega arith) in
    let off = swapped_off j h in
    record {
      small = (direction_small j (omega (arith, h))).sine_small;
      near_by = joined (direction j).sine (direction (9000 - j)).cosine (sine_entry j) other.near_by (omega (arith, off.across, drift_small j h));
    }
  where
    joined : (y x t : ℤ) → unsigned_abs (x -ℤ pos (10 ^ 6) *ℤ t) ≤ 500000 → 1000 * unsigned_abs (x -ℤ y) ≤ 2 * 10 ^ 8 → unsigned_abs (y -ℤ pos (10 ^ 6) *ℤ t) ≤ 700000
    joined y x t e f = omega (arith, ints, e, f)

-- a product of two numbers of the table
products : (a : ℕ) (x y t s : ℤ) → a ≤ 10 ^ 6 → IsEntry a x t → IsEntry a y s → unsigned_abs (x *ℤ y -ℤ pos (10 ^ 12) *ℤ (t *ℤ s)) ≤ a * (4 * 10 ^ 18 + 10 ^ 6)
products a x y t s few one other =
    let p = y -ℤ pos (10 ^ 6) *ℤ s in
    let q = x -ℤ pos (10 ^ 6) *ℤ t in
    let first : x *ℤ p ≡ x *ℤ y -ℤ pos (10 ^ 6) *ℤ (x *ℤ s) = mul_sub x y (pos (10 ^ 6) *ℤ s) ∙ ap (λ z. x *ℤ y -ℤ z) (swapped x (pos (10 ^ 6)) s) in
    let second : q *ℤ s ≡ x *ℤ s -ℤ pos (10 ^ 6) *ℤ (t *ℤ s) = sub_mul x (pos (10 ^ 6) *ℤ t) s ∙ ap (λ z. x *ℤ s -ℤ z) (mul_assoc (pos (10 ^ 6)) t s) in
    let wide : unsigned_abs (x *ℤ p) ≤ 2 * 10 ^ 18 * a = omega (arith, unsigned_abs-mul x p, mul-le (unsigned_abs x) (unsigned_abs p) (2 * 10 ^ 18) a one.small other.near_by) in
    let size : 10 ^ 6 * unsigned_abs s ≤ 2 * 10 ^ 18 + 10 ^ 6 = omega (arith, ints, other.small, other.near_by, few) in
    let narrow : unsigned_abs q * (10 ^ 6 * unsigned_abs s) ≤ a * (2 * 10 ^ 18 + 10 ^ 6) = mul-le (unsigned_abs q) (10 ^ 6 * unsigned_abs s) a (2 * 10 ^ 18 + 10 ^ 6) one.near_by size in
    joined (x *ℤ y) (x *ℤ p) (q *ℤ s) (x *ℤ s) (t *ℤ s) (unsigned_abs q) (unsigned_abs s) first second wide (unsigned_abs-mul q s) narrow
  where
    joined : (xy xp qs xs ts : ℤ) (q s : ℕ) → xp ≡ xy -ℤ pos (10 ^ 6) *ℤ xs → qs ≡ xs -ℤ pos (10 ^ 6) *ℤ ts → unsigned_abs xp ≤ 2 * 10 ^ 18 * a → unsigned_abs qs ≡ q * s → q * (10 ^ 6 * s) ≤ a * (2 * 10 ^ 18 + 10 ^ 6)
        → unsigned_abs (xy -ℤ pos (10 ^ 12) *ℤ ts) ≤ a * (4 * 10 ^ 18 + 10 ^ 6)
    joined xy xp qs xs ts q s e f g h k =
        let all : xy -ℤ pos (10 ^ 12) *ℤ ts ≡ xp +ℤ pos (10 ^ 6) *ℤ qs = omega (arith, ints, e, f) in
        let size : unsigned_abs (xy -ℤ pos (10 ^ 12) *ℤ ts) ≤ unsigned_abs xp + 10 ^ 6 * unsigned_abs qs = omega (arith, ints, all) in
        omega (arith, size, g, h, k)

pub sums : (j k : ℕ) → j + k ≤ 9000 → unsigned_abs (excess_of_sum j k (entry (j + k))) ≤ 6 * 10 ^ 12
sums j k h =
    let hj : j ≤ 9000 = omega (arith, h) in
    let hk : k ≤ 9000 = omega (arith, h) in
    let d = direction j in
    let e = direction k in
    let f = direction (j + k) in
    let both = multiplied j k hj hk in
    let third = cosine_entry (j + k) h in
    joined (d.cosine *ℤ e.cosine) (d.sine *ℤ e.sine) f.cosine (entry j *ℤ entry k) (sine_entry j *ℤ sine_entry k) (entry (j + k))
    (products 500000 d.cosine e.cosine (entry j) (entry k) (omega arith) (cosine_entry j hj) (cosine_entry k hk))
    (products 700000 d.sine e.sine (sine_entry j) (sine_entry k) (omega arith) (sine_is j hj) (sine_is k hk))
    (omega (arith, both.across, spread_small k hk)) third.near_by
  where
    joined : (xx yy x one two t : ℤ) → unsigned_abs (xx -ℤ pos (10 ^ 12) *ℤ one) ≤ 500000 * (4 * 10 ^ 18 + 10 ^ 6) → unsigned_abs (yy -ℤ pos (10 ^ 12) *ℤ two) ≤ 700000 * (4 * 10 ^ 18 + 10 ^ 6)
        → unsigned_abs ((xx -ℤ yy) -ℤ pos (10 ^ 18) *ℤ x) ≤ 2 * 10 ^ 23 → unsigned_abs (x -ℤ pos (10 ^ 6) *ℤ t) ≤ 500000 → unsigned_abs ((one -ℤ two) -ℤ pos (10 ^ 12) *ℤ t) ≤ 6 * 10 ^ 12
    joined xx yy x one two t a b c e = omega (arith, ints, a, b, c, e)

first : (direction 0).cosine ≡ pos (10 ^ 18)
unfolding direction
first = refl

pub squares : (j : ℕ) → j ≤ 9000 → unsigned_abs (excess_of_squares j) ≤ 6 * 10 ^ 12
squares j h =
    let n = 9000 - j in
    let low : n ≤ 9000 = omega arith in
    let d = direction j in
    let e = direction n in
    let whole : j + n ≡ 9000 = omega (arith, h) in
    let both = multiplied j n h low in
    let off = swapped_off j h in
    let few = drift_small j h in
    let c = cosine_entry j h in
    let s = sine_is j h in
    let one : unsigned_abs (d.sine *ℤ (e.cosine -ℤ d.sine)) ≤ 2 * 10 ^ 18 * 200000 = omega (arith, unsigned_abs-mul d.sine (e.cosine -ℤ d.sine), mul-le (unsigned_abs d.sine) (unsigned_abs (e.cosine -ℤ d.sine)) (2 * 10 ^ 18) 200000 s.small (omega (arith, off.across, few))) in
    let other : unsigned_abs (d.cosine *ℤ (e.sine -ℤ d.cosine)) ≤ 2 * 10 ^ 18 * 200000 = omega (arith, unsigned_abs-mul d.cosine (e.sine -ℤ d.cosine), mul-le (unsigned_abs d.cosine) (unsigned_abs (e.sine -ℤ d.cosine)) (2 * 10 ^ 18) 200000 c.small (omega (arith, off.up, few))) in
    joined (d.cosine *ℤ d.cosine) (d.sine *ℤ d.sine) (d.sine *ℤ e.cosine) (d.cosine *ℤ e.sine) (d.sine *ℤ (e.cosine -ℤ d.sine)) (d.cosine *ℤ (e.sine -ℤ d.cosine)) (direction (j + n)).sine (entry j *ℤ entry j) (sine_entry j *ℤ sine_entry j)
    (products 500000 d.cosine d.cosine (entry j) (entry j) (omega arith) c c)
    (products 700000 d.sine d.sine (sine_entry j) (sine_entry j) (omega arith) s s)
    (mul_sub d.sine e.cosine d.sine) (mul_sub d.cosine e.sine d.cosine) one other (omega (arith, both.up, spread_small n low))
    (subst (λ k. unsigned_abs ((direction k).sine -ℤ pos (10 ^ 18)) ≤ 10 ^ 4) (sym whole) right)
  where
    last : (y x : ℤ) → 1000 * unsigned_abs (y -ℤ x) ≤ 3 * 10 ^ 6 + (2900 * 0 + 2 * (0 * 0)) → x ≡ pos (10 ^ 18) → unsigned_abs (y -ℤ pos (10 ^ 18)) ≤ 10 ^ 4
    last y x e f = omega (arith, ints, e, f)

    right : unsigned_abs ((direction 9000).sine -ℤ pos (10 ^ 18)) ≤ 10 ^ 4
    right =
        let off = swapped_off 0 (omega arith) in
        last (direction 9000).sine (direction 0).cosine off.up first

    joined : (xx yy yx xy p q z t s : ℤ) → unsigned_abs (xx -ℤ pos (10 ^ 12) *ℤ t) ≤ 500000 * (4 * 10 ^ 18 + 10 ^ 6) → unsigned_abs (yy -ℤ pos (10 ^ 12) *ℤ s) ≤ 700000 * (4 * 10 ^ 18 + 10 ^ 6)
        → p ≡ yx -ℤ yy → q ≡ xy -ℤ xx → unsigned_abs p ≤ 2 * 10 ^ 18 * 200000 → unsigned_abs q ≤ 2 * 10 ^ 18 * 200000 → unsigned_abs ((yx +ℤ xy) -ℤ pos (10 ^ 18) *ℤ z) ≤ 2 * 10 ^ 23 → unsigned_abs (z -ℤ pos (10 ^ 18)) ≤ 10 ^ 4
        → unsigned_abs ((t +ℤ s) -ℤ pos (10 ^ 24)) ≤ 6 * 10 ^ 12
    joined xx yy yx xy p q z t s a b c e f g h k =
        let d = (yx +ℤ xy) -ℤ pos (10 ^ 18) *ℤ z in
        let n = z -ℤ pos (10 ^ 18) in
        let u = xx -ℤ pos (10 ^ 12) *ℤ t in
        let v = yy -ℤ pos (10 ^ 12) *ℤ s in
        let x = (t +ℤ s) -ℤ pos (10 ^ 24) in
        let is : pos (10 ^ 12) *ℤ x ≡ d +ℤ pos (10 ^ 18) *ℤ n +ℤ pos 0 -ℤ u -ℤ v -ℤ (p +ℤ q) = omega (arith, ints, c, e) in
        let all = sized (pos (10 ^ 12) *ℤ x) d (pos (10 ^ 18) *ℤ n) (pos 0) u v (p +ℤ q) is in
        omega (arith, all, unsigned_abs-mul (pos (10 ^ 12)) x, unsigned_abs-mul (pos (10 ^ 18)) n, abs-add-le p q, a, b, f, g, h, k)
