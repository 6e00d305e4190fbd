-- The directions of the cosine's table: turned one after the other they add up, and the table's other end has their sines.
use Rattle.std.proofs.Common.{◌≡◌, ◌∙◌, ◌+◌, ◌-◌, ◌*◌, ◌^◌, ◌≤◌, ap, sym, subst, refl, ℕ, zero, suc, ℤ, pos, neg_ℤ, ◌+ℤ◌, ◌-ℤ◌, ◌*ℤ◌, unsigned_abs, arith}
use Rattle.std.proofs.lemmas.Int.{ints, unsigned_abs-mul}
use Rattle.std.proofs.lemmas.Nat.{mul-le}
use Rattle.emtp_fix.proofs.Nearest.{near-rest}
use Rattle.emtp_fix.proofs.Wide.{abs-add-le, abs-sub-le, mul_add}
use Rattle.emtp_fix.specs.Rounding.{near, near_abs}
use Rattle.emtp_fix.specs.declared.limit.TheConstants.{ATTO}
use Rattle.emtp_wave.proofs.Circle.{direction_small}
use Rattle.emtp_wave.specs.Cosine.{direction, turned}
use Rattle.emtp_wave.specs.held.Cosine.{IsSmall}
use Rattle.emtp_wave.specs.declared.direction.Direction.{Direction}
use Rattle.emtp_laws.proofs.Products.{mul_sub, swapped}

-- cosine and sine of a hundredth of a degree, in 10^-18
abbrev A : ℕ
A = 999999984769129049

abbrev B : ℕ
B = 174532924313337

-- ---- one hundredth of a degree

-- what a turn rounds, in 10^-36
pub record IsTurned (x y u v r s : ℤ) : Type 0 where
  pub across : pos (10 ^ 18) *ℤ u ≡ pos A *ℤ x -ℤ pos B *ℤ y +ℤ r
  pub up : pos (10 ^ 18) *ℤ v ≡ pos A *ℤ y +ℤ pos B *ℤ x +ℤ s
  pub small_r : 2 * unsigned_abs r ≤ 10 ^ 18
  pub small_s : 2 * unsigned_abs s ≤ 10 ^ 18

rest_across : Direction → ℤ
rest_across d = pos (10 ^ 18) *ℤ (turned d).cosine -ℤ (pos A *ℤ d.cosine -ℤ pos B *ℤ d.sine)

rest_up : Direction → ℤ
rest_up d = pos (10 ^ 18) *ℤ (turned d).sine -ℤ (pos A *ℤ d.sine +ℤ pos B *ℤ d.cosine)

turns : (d : Direction) → IsTurned d.cosine d.sine (turned d).cosine (turned d).sine (rest_across d) (rest_up d)
unfolding rest_across rest_up
turns d = by d.cosine d.sine (turned d).cosine (turned d).sine
    (near-rest (d.cosine *ℤ pos 999999984769129049 -ℤ d.sine *ℤ pos 174532924313337) ATTO (λ none. cc))
    (near-rest (d.sine *ℤ pos 999999984769129049 +ℤ d.cosine *ℤ pos 174532924313337) ATTO (λ none. cc))
  where
    by : (x y u v : ℤ) → 2 * unsigned_abs (x *ℤ pos 999999984769129049 -ℤ y *ℤ pos 174532924313337 -ℤ u *ℤ ATTO) ≤ 10 ^ 18 → 2 * unsigned_abs (y *ℤ pos 999999984769129049 +ℤ x *ℤ pos 174532924313337 -ℤ v *ℤ ATTO) ≤ 10 ^ 18
        → IsTurned x y u v (pos (10 ^ 18) *ℤ u -ℤ (pos A *ℤ x -ℤ pos B *ℤ y)) (pos (10 ^ 18) *ℤ v -ℤ (pos A *ℤ y +ℤ pos B *ℤ x))
    by x y u v h k = record {
      across = omega (arith, ints);
      up = omega (arith, ints);
      small_r = omega (arith, ints, h);
      small_s = omega (arith, ints, k);
    }

-- the same times a number
times : (z u x y r : ℤ) → pos (10 ^ 18) *ℤ u ≡ pos A *ℤ x -ℤ pos B *ℤ y +ℤ r → pos (10 ^ 18) *ℤ (z *ℤ u) ≡ pos A *ℤ (z *ℤ x) -ℤ pos B *ℤ (z *ℤ y) +ℤ z *ℤ r
times z u x y r e =
    sym (swapped z (pos (10 ^ 18)) u) ∙ ap (λ t. z *ℤ t) e ∙ mul_add z (pos A *ℤ x -ℤ pos B *ℤ y) r
    ∙ ap (λ t. t +ℤ z *ℤ r) (mul_sub z (pos A *ℤ x) (pos B *ℤ y) ∙ ap (λ t. t -ℤ z *ℤ (pos B *ℤ y)) (swapped z (pos A) x) ∙ ap (λ t. pos A *ℤ (z *ℤ x) -ℤ t) (swapped z (pos B) y))

times_up : (z v x y s : ℤ) → pos (10 ^ 18) *ℤ v ≡ pos A *ℤ y +ℤ pos B *ℤ x +ℤ s → pos (10 ^ 18) *ℤ (z *ℤ v) ≡ pos A *ℤ (z *ℤ y) +ℤ pos B *ℤ (z *ℤ x) +ℤ z *ℤ s
times_up z v x y s e =
    sym (swapped z (pos (10 ^ 18)) v) ∙ ap (λ t. z *ℤ t) e ∙ mul_add z (pos A *ℤ y +ℤ pos B *ℤ x) s
    ∙ ap (λ t. t +ℤ z *ℤ s) (mul_add z (pos A *ℤ y) (pos B *ℤ x) ∙ ap (λ t. t +ℤ z *ℤ (pos B *ℤ x)) (swapped z (pos A) y) ∙ ap (λ t. pos A *ℤ (z *ℤ y) +ℤ t) (swapped z (pos B) x))

-- ---- the sum of two angles

-- one direction times another one is 10^18 times a third one, within so much
pub record AreMultiplied (most : ℕ) (d e f : Direction) : Type 0 where
  pub across : unsigned_abs ((d.cosine *ℤ e.cosine -ℤ d.sine *ℤ e.sine) -ℤ pos (10 ^ 18) *ℤ f.cosine) ≤ most
  pub up : unsigned_abs ((d.sine *ℤ e.cosine +ℤ d.cosine *ℤ e.sine) -ℤ pos (10 ^ 18) *ℤ f.sine) ≤ most

-- what k turns may have rounded, in 10^-36
abbrev spread : ℕ → ℕ
spread k = 10 ^ 15 * (2600 * k + 2 * (k * k))

-- a rounding times a number of at most 2 in 10^-18
round_small : (z r : ℤ) → unsigned_abs z ≤ 2 * 10 ^ 18 → 2 * unsigned_abs r ≤ 10 ^ 18 → 2 * unsigned_abs (z *ℤ r) ≤ 10 ^ 18 * (2 * 10 ^ 18)
round_small z r h k = omega (arith, unsigned_abs-mul z r, mul-le (unsigned_abs z) (2 * unsigned_abs r) (2 * 10 ^ 18) (10 ^ 18) h k)

-- from the bound of k turns to that of one turn more
one_turn_more : (k : ℕ) (z x y n : ℤ) → k ≤ 9000 → pos (10 ^ 18) *ℤ z ≡ pos A *ℤ x +ℤ pos B *ℤ y +ℤ n → unsigned_abs x ≤ spread k → unsigned_abs y ≤ spread k → unsigned_abs n ≤ 25 * 10 ^ 35 → unsigned_abs z ≤ spread (k + 1)
one_turn_more k z x y n few e in_x in_y in_n =
    let square : k * k ≤ 9000 * k = mul-le k k 9000 k few (omega arith) in
    let all : 10 ^ 18 * unsigned_abs z ≤ A * unsigned_abs x + B * unsigned_abs y + unsigned_abs n = omega (arith, ints, e) in
    omega (arith, all, in_x, in_y, in_n, square)

multiplied_next : (k : ℕ) (d e f : Direction) → k ≤ 9000 → IsSmall d → AreMultiplied (spread k) d e f → AreMultiplied (spread (k + 1)) d (turned e) (turned f)
multiplied_next k d e f few small h =
    let t = turns e in
    let g = turns f in
    let c : unsigned_abs d.cosine ≤ 2 * 10 ^ 18 = omega (arith, small.cosine_small) in
    let s : unsigned_abs d.sine ≤ 2 * 10 ^ 18 = omega (arith, small.sine_small) in
    let x = (d.cosine *ℤ e.cosine -ℤ d.sine *ℤ e.sine) -ℤ pos (10 ^ 18) *ℤ f.cosine in
    let y = (d.sine *ℤ e.cosine +ℤ d.cosine *ℤ e.sine) -ℤ pos (10 ^ 18) *ℤ f.sine in
    record {
      across = one_turn_more k ((d.cosine *ℤ (turned e).cosine -ℤ d.sine *ℤ (turned e).sine) -ℤ pos (10 ^ 18) *ℤ (turned f).cosine) x (neg_ℤ y) (d.cosine *ℤ rest_across e -ℤ d.sine *ℤ rest_up e -ℤ pos (10 ^ 18) *ℤ rest_across f) few
          (across (d.cosine *ℤ (turned e).cosine) (d.sine *ℤ (turned e).sine) (turned f).cosine (d.cosine *ℤ e.cosine) (d.cosine *ℤ e.sine) (d.sine *ℤ e.cosine) (d.sine *ℤ e.sine) f.cosine f.sine (d.cosine *ℤ rest_across e) (d.sine *ℤ rest_up e) (rest_across f)
          (times d.cosine (turned e).cosine e.cosine e.sine (rest_across e) t.across) (times_up d.sine (turned e).sine e.cosine e.sine (rest_up e) t.up) g.across)
          h.across (omega (arith, ints, h.up)) (noise_less (d.cosine *ℤ rest_across e) (d.sine *ℤ rest_up e) (rest_across f) (round_small d.cosine (rest_across e) c t.small_r) (round_small d.sine (rest_up e) s t.small_s) g.small_r);
      up = one_turn_more k ((d.sine *ℤ (turned e).cosine +ℤ d.cosine *ℤ (turned e).sine) -ℤ pos (10 ^ 18) *ℤ (turned f).sine) y x (d.sine *ℤ rest_across e +ℤ d.cosine *ℤ rest_up e -ℤ pos (10 ^ 18) *ℤ rest_up f) few
          (up (d.sine *ℤ (turned e).cosine) (d.cosine *ℤ (turned e).sine) (turned f).sine (d.cosine *ℤ e.cosine) (d.cosine *ℤ e.sine) (d.sine *ℤ e.cosine) (d.sine *ℤ e.sine) f.cosine f.sine (d.sine *ℤ rest_across e) (d.cosine *ℤ rest_up e) (rest_up f)
          (times d.sine (turned e).cosine e.cosine e.sine (rest_across e) t.across) (times_up d.cosine (turned e).sine e.cosine e.sine (rest_up e) t.up) g.up)
          h.up h.across (noise_more (d.sine *ℤ rest_across e) (d.cosine *ℤ rest_up e) (rest_up f) (round_small d.sine (rest_across e) s t.small_r) (round_small d.cosine (rest_up e) c t.small_s) g.small_s);
    }
  where
    across : (cu sv w cc' cs sc ss fc fs p q o : ℤ) → pos (10 ^ 18) *ℤ cu ≡ pos A *ℤ cc' -ℤ pos B *ℤ cs +ℤ p → pos (10 ^ 18) *ℤ sv ≡ pos A *ℤ ss +ℤ pos B *ℤ sc +ℤ q → pos (10 ^ 18) *ℤ w ≡ pos A *ℤ fc -ℤ pos B *ℤ fs +ℤ o
        → pos (10 ^ 18) *ℤ ((cu -ℤ sv) -ℤ pos (10 ^ 18) *ℤ w) ≡ pos A *ℤ ((cc' -ℤ ss) -ℤ pos (10 ^ 18) *ℤ fc) +ℤ pos B *ℤ neg_ℤ ((sc +ℤ cs) -ℤ pos (10 ^ 18) *ℤ fs) +ℤ (p -ℤ q -ℤ pos (10 ^ 18) *ℤ o)
    across cu sv w cc' cs sc ss fc fs p q o e f g = omega (arith, ints, e, f, g)

    up : (su cv w cc' cs sc ss fc fs p q o : ℤ) → pos (10 ^ 18) *ℤ su ≡ pos A *ℤ sc -ℤ pos B *ℤ ss +ℤ p → pos (10 ^ 18) *ℤ cv ≡ pos A *ℤ cs +ℤ pos B *ℤ cc' +ℤ q → pos (10 ^ 18) *ℤ w ≡ pos A *ℤ fs +ℤ pos B *ℤ fc +ℤ o
        → pos (10 ^ 18) *ℤ ((su +ℤ cv) -ℤ pos (10 ^ 18) *ℤ w) ≡ pos A *ℤ ((sc +ℤ cs) -ℤ pos (10 ^ 18) *ℤ fs) +ℤ pos B *ℤ ((cc' -ℤ ss) -ℤ pos (10 ^ 18) *ℤ fc) +ℤ (p +ℤ q -ℤ pos (10 ^ 18) *ℤ o)
    up su cv w cc' cs sc ss fc fs p q o e f g = omega (arith, ints, e, f, g)

    noise_less : (p q o : ℤ) → 2 * unsigned_abs p ≤ 10 ^ 18 * (2 * 10 ^ 18) → 2 * unsigned_abs q ≤ 10 ^ 18 * (2 * 10 ^ 18) → 2 * unsigned_abs o ≤ 10 ^ 18 → unsigned_abs (p -ℤ q -ℤ pos (10 ^ 18) *ℤ o) ≤ 25 * 10 ^ 35
    noise_less p q o a b c = omega (arith, ints, a, b, c)

    noise_more : (p q o : ℤ) → 2 * unsigned_abs p ≤ 10 ^ 18 * (2 * 10 ^ 18) → 2 * unsigned_abs q ≤ 10 ^ 18 * (2 * 10 ^ 18) → 2 * unsigned_abs o ≤ 10 ^ 18 → unsigned_abs (p +ℤ q -ℤ pos (10 ^ 18) *ℤ o) ≤ 25 * 10 ^ 35
    noise_more p q o a b c = omega (arith, ints, a, b, c)

pub multiplied : (j k : ℕ) → j ≤ 9000 → k ≤ 9000 → AreMultiplied (spread k) (direction j) (direction k) (direction (j + k))
unfolding direction
multiplied j zero hj hk =
    let same : j ≡ j + 0 = omega arith in
    subst (λ n. AreMultiplied (spread 0) (direction j) (direction 0) (direction n)) same (record { across = one (direction j).cosine (direction j).sine; up = other (direction j).cosine (direction j).sine })
  where
    one : (x y : ℤ) → unsigned_abs ((x *ℤ pos (10 ^ 18) -ℤ y *ℤ pos 0) -ℤ pos (10 ^ 18) *ℤ x) ≤ 0
    one x y = omega (arith, ints)

    other : (x y : ℤ) → unsigned_abs ((y *ℤ pos (10 ^ 18) +ℤ x *ℤ pos 0) -ℤ pos (10 ^ 18) *ℤ y) ≤ 0
    other x y = omega (arith, ints)
multiplied j (suc k) hj hk =
    let same : suc (j + k) ≡ j + suc k = omega arith in
    let most : k + 1 ≡ suc k = omega arith in
    subst (λ n. AreMultiplied (spread (suc k)) (direction j) (turned (direction k)) (direction n)) same
    (subst (λ n. AreMultiplied (spread n) (direction j) (turned (direction k)) (turned (direction (j + k)))) most
    (multiplied_next k (direction j) (direction k) (direction (j + k)) (omega (arith, hk)) (direction_small j (omega (arith, hj))) (multiplied j k hj (omega (arith, hk)))))

-- ---- the other end of the quarter

-- cosine and sine of one direction are sine and cosine of another one, within a thousandth of so much
pub record AreSwapped (most : ℕ) (d e : Direction) : Type 0 where
  pub across : 1000 * unsigned_abs (d.cosine -ℤ e.sine) ≤ most
  pub up : 1000 * unsigned_abs (d.sine -ℤ e.cosine) ≤ most

-- what m turns back from the right angle may have rounded, in 10^-21
abbrev drift : ℕ → ℕ
drift m = 3 * 10 ^ 6 + (2900 * m + 2 * (m * m))

-- a direction turned back: from the turned one and what is rounded
turned_back : (p q u v r s x y : ℤ) → pos (10 ^ 18) *ℤ u ≡ pos A *ℤ p -ℤ pos B *ℤ q +ℤ r → pos (10 ^ 18) *ℤ v ≡ pos A *ℤ q +ℤ pos B *ℤ p +ℤ s
    → pos (10 ^ 36) *ℤ p ≡ pos (10 ^ 18) *ℤ (pos A *ℤ u +ℤ pos B *ℤ v) +ℤ pos 655548361028280030 *ℤ p -ℤ pos A *ℤ r -ℤ pos B *ℤ s
turned_back p q u v r s x y e f = omega (arith, ints, e, f)

turned_back_up : (p q u v r s x y : ℤ) → pos (10 ^ 18) *ℤ u ≡ pos A *ℤ p -ℤ pos B *ℤ q +ℤ r → pos (10 ^ 18) *ℤ v ≡ pos A *ℤ q +ℤ pos B *ℤ p +ℤ s
    → pos (10 ^ 36) *ℤ q ≡ pos (10 ^ 18) *ℤ (pos A *ℤ v -ℤ pos B *ℤ u) +ℤ pos 655548361028280030 *ℤ q -ℤ pos A *ℤ s +ℤ pos B *ℤ r
turned_back_up p q u v r s x y e f = omega (arith, ints, e, f)

-- six parts are no more than their sizes together
pub sized : (x a b c d e f : ℤ) → x ≡ a +ℤ b +ℤ c -ℤ d -ℤ e -ℤ f → unsigned_abs x ≤ unsigned_abs a + unsigned_abs b + unsigned_abs c + unsigned_abs d + unsigned_abs e + unsigned_abs f
sized x a b c d e f is =
    let one = abs-add-le a b in
    let two = abs-add-le (a +ℤ b) c in
    let three = abs-sub-le (a +ℤ b +ℤ c) d in
    let four = abs-sub-le (a +ℤ b +ℤ c -ℤ d) e in
    let five = abs-sub-le (a +ℤ b +ℤ c -ℤ d -ℤ e) f in
    omega (arith, ap unsigned_abs is, one, two, three, four, five)

-- from the bound of m turns to that of one turn more
one_back_more : (m : ℕ) (z p a b r s o : ℤ) → m ≤ 9000 → pos (10 ^ 36) *ℤ z ≡ pos (10 ^ 18 * A) *ℤ a +ℤ pos (10 ^ 18 * B) *ℤ b +ℤ pos 655548361028280030 *ℤ p -ℤ pos A *ℤ r -ℤ pos B *ℤ s -ℤ pos (10 ^ 18) *ℤ o
    → 1000 * unsigned_abs a ≤ drift m → 1000 * unsigned_abs b ≤ drift m → unsigned_abs p ≤ 2 * 10 ^ 18 → 2 * unsigned_abs r ≤ 10 ^ 18 → 2 * unsigned_abs s ≤ 10 ^ 18 → 2 * unsigned_abs o ≤ 10 ^ 18 → 1000 * unsigned_abs z ≤ drift (m + 1)
one_back_more m z p a b r s o few e in_a in_b in_p in_r in_s in_o =
    let square : m * m ≤ 9000 * m = mul-le m m 9000 m few (omega arith) in
    let all = sized (pos (10 ^ 36) *ℤ z) (pos (10 ^ 18 * A) *ℤ a) (pos (10 ^ 18 * B) *ℤ b) (pos 655548361028280030 *ℤ p) (pos A *ℤ r) (pos B *ℤ s) (pos (10 ^ 18) *ℤ o) e in
    bounded m (unsigned_abs z) (unsigned_abs p) (unsigned_abs a) (unsigned_abs b) (unsigned_abs r) (unsigned_abs s) (unsigned_abs o) square
    (omega (arith, all, unsigned_abs-mul (pos (10 ^ 36)) z, unsigned_abs-mul (pos (10 ^ 18 * A)) a, unsigned_abs-mul (pos (10 ^ 18 * B)) b, unsigned_abs-mul (pos 655548361028280030) p, unsigned_abs-mul (pos A) r, unsigned_abs-mul (pos B) s, unsigned_abs-mul (pos (10 ^ 18)) o))
    in_a in_b in_p in_r in_s in_o
  where
    bounded : (m z p a b r s o : ℕ) → m * m ≤ 9000 * m → 10 ^ 36 * z ≤ 10 ^ 18 * A * a + 10 ^ 18 * B * b + 655548361028280030 * p + A * r + B * s + 10 ^ 18 * o
        → 1000 * a ≤ drift m → 1000 * b ≤ drift m → p ≤ 2 * 10 ^ 18 → 2 * r ≤ 10 ^ 18 → 2 * s ≤ 10 ^ 18 → 2 * o ≤ 10 ^ 18 → 1000 * z ≤ drift (m + 1)
    bounded m z p a b r s o square all in_a in_b in_p in_r in_s in_o = omega (arith, square, all, in_a, in_b, in_p, in_r, in_s, in_o)

swapped_next : (m : ℕ) (d e : Direction) → m ≤ 9000 → IsSmall d → AreSwapped (drift m) (turned d) e → AreSwapped (drift (m + 1)) d (turned e)
swapped_next m d e few small h =
    let t = turns d in
    let g = turns e in
    let c : unsigned_abs d.cosine ≤ 2 * 10 ^ 18 = omega (arith, small.cosine_small) in
    let s : unsigned_abs d.sine ≤ 2 * 10 ^ 18 = omega (arith, small.sine_small) in
    let a = (turned d).cosine -ℤ e.sine in
    let b = (turned d).sine -ℤ e.cosine in
    record {
      across = one_back_more m (d.cosine -ℤ (turned e).sine) d.cosine a b (rest_across d) (rest_up d) (rest_up e) few
          (across d.cosine (turned d).cosine (turned d).sine (rest_across d) (rest_up d) e.cosine e.sine (turned e).sine (rest_up e) (turned_back d.cosine d.sine (turned d).cosine (turned d).sine (rest_across d) (rest_up d) (pos 0) (pos 0) t.across t.up) g.up)
          h.across h.up c t.small_r t.small_s g.small_s;
      up = one_back_more m (d.sine -ℤ (turned e).cosine) d.sine b (neg_ℤ a) (rest_up d) (neg_ℤ (rest_across d)) (rest_across e) few
          (up d.sine (turned d).cosine (turned d).sine (rest_across d) (rest_up d) e.cosine e.sine (turned e).cosine (rest_across e) (turned_back_up d.cosine d.sine (turned d).cosine (turned d).sine (rest_across d) (rest_up d) (pos 0) (pos 0) t.across t.up) g.across)
          h.up (omega (arith, ints, h.across)) s t.small_s (omega (arith, ints, t.small_r)) g.small_r;
    }
  where
    across : (p u v r s x y w o : ℤ) → pos (10 ^ 36) *ℤ p ≡ pos (10 ^ 18) *ℤ (pos A *ℤ u +ℤ pos B *ℤ v) +ℤ pos 655548361028280030 *ℤ p -ℤ pos A *ℤ r -ℤ pos B *ℤ s → pos (10 ^ 18) *ℤ w ≡ pos A *ℤ y +ℤ pos B *ℤ x +ℤ o
        → pos (10 ^ 36) *ℤ (p -ℤ w) ≡ pos (10 ^ 18 * A) *ℤ (u -ℤ y) +ℤ pos (10 ^ 18 * B) *ℤ (v -ℤ x) +ℤ pos 655548361028280030 *ℤ p -ℤ pos A *ℤ r -ℤ pos B *ℤ s -ℤ pos (10 ^ 18) *ℤ o
    across p u v r s x y w o e f = omega (arith, ints, e, f)

    up : (q u v r s x y w o : ℤ) → pos (10 ^ 36) *ℤ q ≡ pos (10 ^ 18) *ℤ (pos A *ℤ v -ℤ pos B *ℤ u) +ℤ pos 655548361028280030 *ℤ q -ℤ pos A *ℤ s +ℤ pos B *ℤ r → pos (10 ^ 18) *ℤ w ≡ pos A *ℤ x -ℤ pos B *ℤ y +ℤ o
        → pos (10 ^ 36) *ℤ (q -ℤ w) ≡ pos (10 ^ 18 * A) *ℤ (v -ℤ x) +ℤ pos (10 ^ 18 * B) *ℤ neg_ℤ (u -ℤ y) +ℤ pos 655548361028280030 *ℤ q -ℤ pos A *ℤ s -ℤ pos B *ℤ neg_ℤ r -ℤ pos (10 ^ 18) *ℤ o
    up q u v r s x y w o e f = omega (arith, ints, e, f)

-- so many turns more
turned_on : ℕ → Direction → Direction
turned_on zero d = d
turned_on (suc n) d = turned_on n (turned d)

on_from : (n j : ℕ) (d : Direction) → direction j ≡ d → direction (n + j) ≡ turned_on n d
unfolding direction turned_on
on_from zero j d e = let same : 0 + j ≡ j = omega arith in ap direction same ∙ e
on_from (suc n) j d e =
    let same : n + suc j ≡ suc n + j = omega arith in
    ap direction (sym same) ∙ on_from n (suc j) (turned d) (ap turned e)

-- the direction of every tenth degree, each from the one before
at : ℤ → ℤ → Direction
at x y = record { cosine = x; sine = y }

at_0 : direction 0 ≡ at (pos (10 ^ 18)) (pos 0)
unfolding direction at
at_0 = refl

turned_10 : turned_on 1000 (at (pos (10 ^ 18)) (pos 0)) ≡ at (pos 984807753012207720) (pos 173648177666930470)
unfolding turned_on near near_abs at
turned_10 = refl

turned_20 : turned_on 1000 (at (pos 984807753012207720) (pos 173648177666930470)) ≡ at (pos 939692620785907657) (pos 342020143325668863)
unfolding turned_on near near_abs at
turned_20 = refl

turned_30 : turned_on 1000 (at (pos 939692620785907657) (pos 342020143325668863)) ≡ at (pos 866025403784437542) (pos 500000000000000009)
unfolding turned_on near near_abs at
turned_30 = refl

turned_40 : turned_on 1000 (at (pos 866025403784437542) (pos 500000000000000009)) ≡ at (pos 766044443118976585) (pos 642787609686539087)
unfolding turned_on near near_abs at
turned_40 = refl

turned_50 : turned_on 1000 (at (pos 766044443118976585) (pos 642787609686539087)) ≡ at (pos 642787609686537561) (pos 766044443118977415)
unfolding turned_on near near_abs at
turned_50 = refl

turned_60 : turned_on 1000 (at (pos 642787609686537561) (pos 766044443118977415)) ≡ at (pos 499999999999998040) (pos 866025403784437534)
unfolding turned_on near near_abs at
turned_60 = refl

turned_70 : turned_on 1000 (at (pos 499999999999998040) (pos 866025403784437534)) ≡ at (pos 342020143325666695) (pos 939692620785906686)
unfolding turned_on near near_abs at
turned_70 = refl

turned_80 : turned_on 1000 (at (pos 342020143325666695) (pos 939692620785906686)) ≡ at (pos 173648177666928397) (pos 984807753012205743)
unfolding turned_on near near_abs at
turned_80 = refl

turned_90 : turned_on 1000 (at (pos 173648177666928397) (pos 984807753012205743)) ≡ at (neg_ℤ (pos 1718)) (pos 999999999999997041)
unfolding turned_on near near_abs at
turned_90 = refl

right_angle : direction 9000 ≡ at (neg_ℤ (pos 1718)) (pos 999999999999997041)
right_angle =
    on_from 1000 8000 _ (on_from 1000 7000 _ (on_from 1000 6000 _ (on_from 1000 5000 _ (on_from 1000 4000 _ (on_from 1000 3000 _ (on_from 1000 2000 _ (on_from 1000 1000 _ (on_from 1000 0 _ at_0 ∙ turned_10) ∙ turned_20) ∙ turned_30) ∙ turned_40) ∙ turned_50) ∙ turned_60) ∙ turned_70) ∙ turned_80) ∙ turned_90

right_swapped : AreSwapped (drift 0) (at (neg_ℤ (pos 1718)) (pos 999999999999997041)) (direction 0)
unfolding direction at
right_swapped = record { across = omega (arith, ints); up = omega (arith, ints) }

-- m turns from zero, and m turns back from the right angle
swapped_at : (m n : ℕ) → n + m ≡ 9000 → AreSwapped (drift m) (direction n) (direction m)
unfolding direction
swapped_at zero n e =
    let all : n ≡ 9000 = omega (arith, e) in
    subst (λ k. AreSwapped (drift 0) (direction k) (direction 0)) (sym all) (subst (λ d. AreSwapped (drift 0) d (direction 0)) (sym right_angle) right_swapped)
swapped_at (suc m) n e =
    let most : m + 1 ≡ suc m = omega arith in
    subst (λ k. AreSwapped (drift k) (direction n) (turned (direction m))) most
    (swapped_next m (direction n) (direction m) (omega (arith, e)) (direction_small n (omega (arith, e))) (swapped_at m (suc n) (omega (arith, e))))

pub swapped_off : (j : ℕ) → j ≤ 9000 → AreSwapped (drift j) (direction (9000 - j)) (direction j)
swapped_off j h = swapped_at j (9000 - j) (omega (arith, h))

pub drift_small : (j : ℕ) → j ≤ 9000 → drift j ≤ 2 * 10 ^ 8
drift_small j h = let square : j * j ≤ 9000 * 9000 = mul-le j j 9000 9000 h h in omega (arith, h, square)

pub spread_small : (j : ℕ) → j ≤ 9000 → spread j ≤ 2 * 10 ^ 23
spread_small j h = let square : j * j ≤ 9000 * 9000 = mul-le j j 9000 9000 h h in omega (arith, h, square)
