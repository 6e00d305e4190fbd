-- The energy of a series branch over a course.
use Rattle.std.proofs.Common.{◌++◌, ◌≡◌, ◌≢◌, ◌∙◌, ◌+◌, ◌*◌, ◌^◌, ◌≤◌, ℕ, ℤ, pos, ◌+ℤ◌, ◌-ℤ◌, ◌*ℤ◌, unsigned_abs, Bool, true, false, List, [], ◌∷◌, refl, ap, sym, subst, arith}
use Rattle.std.specs.Ordering.{int_eq}
use Rattle.std.specs.Prelude.{if◌then◌else◌}
use Rattle.std.proofs.Math.IntN.{*ℤ_comm}
use Rattle.std.proofs.lemmas.Bool.Decides.{Decides-int_eq}
use Rattle.std.proofs.lemmas.Int.{ints, unsigned_abs-mul}
use Rattle.std.proofs.lemmas.Nat.{mul-le}
use Rattle.emtp_case.specs.Branch.{inductor_impedance}
use Rattle.emtp_case.specs.declared.branch.Lumped.{Lumped}
use Rattle.emtp_fix.proofs.Nearest.{near-rest}
use Rattle.emtp_fix.proofs.Wide.{mul_add}
use Rattle.emtp_fix.specs.Rounding.{near}
use Rattle.emtp_fix.specs.declared.limit.TheConstants.{MICRO}
use Rattle.emtp_lumped.specs.Companion.{companion_of}
use Rattle.emtp_laws_of_energy.specs.Series.{conductance_of, conducted_fictitious, one_if_some}
use Rattle.emtp_laws_of_energy.specs.Course.{AreSteps, Moment, capacitor_voltages, currents, latest, rise_of_current, voltages}
use Rattle.emtp_laws_of_energy.specs.Energy.{BalancesItsEnergy, StoresWhatItTakes, all_round, excess_energy, squares, step_rounds, taken, BalancesSince, rounds_since}
use Rattle.emtp_laws.proofs.Products.{add_mul, mul_assoc, mul_sub, sub_mul, swapped}
use Rattle.emtp_laws.proofs.SeriesSteps.{moved}
use Rattle.emtp_laws_of_energy.proofs.Courses.{adds_up_both, excess_of_both, no_capacitor_voltage, none_is_0}
use Rattle.emtp_case.proofs.Impedances.{capacitor-some}
use Rattle.emtp_laws_of_units.proofs.Trapezoids.{at_capacitance}

-- ---- products taken apart

-- a factor goes into four terms, from the right and from the left
spread_right : (a b c d k : ℤ) → ((a -ℤ b) -ℤ (c +ℤ d)) *ℤ k ≡ (a *ℤ k -ℤ b *ℤ k) -ℤ (c *ℤ k +ℤ d *ℤ k)
spread_right a b c d k = sub_mul (a -ℤ b) (c +ℤ d) k ∙ ap (λ p. p -ℤ (c +ℤ d) *ℤ k) (sub_mul a b k) ∙ ap (λ p. (a *ℤ k -ℤ b *ℤ k) -ℤ p) (add_mul c d k)

spread_left : (k a b c d : ℤ) → k *ℤ ((a -ℤ b) -ℤ (c +ℤ d)) ≡ (k *ℤ a -ℤ k *ℤ b) -ℤ (k *ℤ c +ℤ k *ℤ d)
spread_left k a b c d = mul_sub k (a -ℤ b) (c +ℤ d) ∙ ap (λ p. p -ℤ k *ℤ (c +ℤ d)) (mul_sub k a b) ∙ ap (λ p. (k *ℤ a -ℤ k *ℤ b) -ℤ p) (mul_add k c d)

-- of the first two terms a million stays outside
millions_left : (k a b c d : ℤ) → k *ℤ ((pos (10 ^ 6) *ℤ a -ℤ pos (10 ^ 6) *ℤ b) -ℤ (c +ℤ d)) ≡ (pos (10 ^ 6) *ℤ (k *ℤ a) -ℤ pos (10 ^ 6) *ℤ (k *ℤ b)) -ℤ (k *ℤ c +ℤ k *ℤ d)
millions_left k a b c d = spread_left k (pos (10 ^ 6) *ℤ a) (pos (10 ^ 6) *ℤ b) c d ∙ ap (λ p. (p -ℤ k *ℤ (pos (10 ^ 6) *ℤ b)) -ℤ (k *ℤ c +ℤ k *ℤ d)) (swapped k (pos (10 ^ 6)) a) ∙ ap (λ p. (pos (10 ^ 6) *ℤ (k *ℤ a) -ℤ p) -ℤ (k *ℤ c +ℤ k *ℤ d)) (swapped k (pos (10 ^ 6)) b)

millions_right : (a b c d k : ℤ) → ((pos (10 ^ 6) *ℤ a -ℤ pos (10 ^ 6) *ℤ b) -ℤ (c +ℤ d)) *ℤ k ≡ (pos (10 ^ 6) *ℤ (a *ℤ k) -ℤ pos (10 ^ 6) *ℤ (b *ℤ k)) -ℤ (c *ℤ k +ℤ d *ℤ k)
millions_right a b c d k = spread_right (pos (10 ^ 6) *ℤ a) (pos (10 ^ 6) *ℤ b) c d k ∙ ap (λ p. (p -ℤ pos (10 ^ 6) *ℤ b *ℤ k) -ℤ (c *ℤ k +ℤ d *ℤ k)) (mul_assoc (pos (10 ^ 6)) a k) ∙ ap (λ p. (pos (10 ^ 6) *ℤ (a *ℤ k) -ℤ p) -ℤ (c *ℤ k +ℤ d *ℤ k)) (mul_assoc (pos (10 ^ 6)) b k)

-- dt times the voltage's excess times the sum of the currents
powers : (dt g gap r z v w i d : ℤ)
    → dt *ℤ ((g *ℤ ((pos (10 ^ 6) *ℤ v -ℤ pos (10 ^ 6) *ℤ w) -ℤ (r *ℤ i +ℤ z *ℤ d)) -ℤ gap *ℤ i) *ℤ i)
    ≡ ((pos (10 ^ 6) *ℤ (dt *ℤ (g *ℤ (v *ℤ i))) -ℤ pos (10 ^ 6) *ℤ (dt *ℤ (g *ℤ (w *ℤ i)))) -ℤ (dt *ℤ (g *ℤ (r *ℤ (i *ℤ i))) +ℤ dt *ℤ (g *ℤ (z *ℤ (d *ℤ i))))) -ℤ dt *ℤ (gap *ℤ (i *ℤ i))
powers dt g gap r z v w i d =
    let u = (pos (10 ^ 6) *ℤ v -ℤ pos (10 ^ 6) *ℤ w) -ℤ (r *ℤ i +ℤ z *ℤ d) in
    let terms = (pos (10 ^ 6) *ℤ (v *ℤ i) -ℤ pos (10 ^ 6) *ℤ (w *ℤ i)) -ℤ (r *ℤ (i *ℤ i) +ℤ z *ℤ (d *ℤ i)) in
    let times_i : u *ℤ i ≡ terms =
    millions_right v w (r *ℤ i) (z *ℤ d) i ∙ ap (λ p. (pos (10 ^ 6) *ℤ (v *ℤ i) -ℤ pos (10 ^ 6) *ℤ (w *ℤ i)) -ℤ (p +ℤ z *ℤ d *ℤ i)) (mul_assoc r i i) ∙ ap (λ p. (pos (10 ^ 6) *ℤ (v *ℤ i) -ℤ pos (10 ^ 6) *ℤ (w *ℤ i)) -ℤ (r *ℤ (i *ℤ i) +ℤ p)) (mul_assoc z d i) in
    let inside : (g *ℤ u -ℤ gap *ℤ i) *ℤ i ≡ g *ℤ terms -ℤ gap *ℤ (i *ℤ i) =
    sub_mul (g *ℤ u) (gap *ℤ i) i ∙ ap (λ p. p -ℤ gap *ℤ i *ℤ i) (mul_assoc g u i ∙ ap (λ p. g *ℤ p) times_i) ∙ ap (λ p. g *ℤ terms -ℤ p) (mul_assoc gap i i) in
    let of_g = millions_left g (v *ℤ i) (w *ℤ i) (r *ℤ (i *ℤ i)) (z *ℤ (d *ℤ i)) in
    let of_dt = millions_left dt (g *ℤ (v *ℤ i)) (g *ℤ (w *ℤ i)) (g *ℤ (r *ℤ (i *ℤ i))) (g *ℤ (z *ℤ (d *ℤ i))) in
    ap (λ p. dt *ℤ p) inside ∙ mul_sub dt (g *ℤ terms) (gap *ℤ (i *ℤ i)) ∙ ap (λ p. p -ℤ dt *ℤ (gap *ℤ (i *ℤ i))) (ap (λ p. dt *ℤ p) of_g ∙ of_dt)

-- g times what the impedance of the inductance rounds, times the product t
inductor_rounds : (dt g z l t : ℤ) → g *ℤ ((pos (2 * 10 ^ 9) *ℤ l -ℤ z *ℤ dt) *ℤ t) ≡ pos (2 * 10 ^ 9) *ℤ (g *ℤ (l *ℤ t)) -ℤ dt *ℤ (g *ℤ (z *ℤ t))
inductor_rounds dt g z l t =
    ap (λ p. g *ℤ p) (sub_mul (pos (2 * 10 ^ 9) *ℤ l) (z *ℤ dt) t ∙ ap (λ p. p -ℤ z *ℤ dt *ℤ t) (mul_assoc (pos (2 * 10 ^ 9)) l t) ∙ ap (λ p. pos (2 * 10 ^ 9) *ℤ (l *ℤ t) -ℤ p) (mul_assoc z dt t ∙ swapped z dt t))
    ∙ mul_sub g (pos (2 * 10 ^ 9) *ℤ (l *ℤ t)) (dt *ℤ (z *ℤ t))
    ∙ ap (λ p. p -ℤ g *ℤ (dt *ℤ (z *ℤ t))) (swapped g (pos (2 * 10 ^ 9)) (l *ℤ t))
    ∙ ap (λ p. pos (2 * 10 ^ 9) *ℤ (g *ℤ (l *ℤ t)) -ℤ p) (swapped g dt (z *ℤ t))

-- and times what the voltage of the capacitance rounds
capacitor_rounds : (dt g c e i w : ℤ) → g *ℤ ((pos 2 *ℤ (c *ℤ e) -ℤ pos 1000 *ℤ (dt *ℤ i)) *ℤ w) ≡ pos 2 *ℤ (g *ℤ (c *ℤ (e *ℤ w))) -ℤ pos 1000 *ℤ (dt *ℤ (g *ℤ (w *ℤ i)))
capacitor_rounds dt g c e i w =
    ap (λ p. g *ℤ p) (sub_mul (pos 2 *ℤ (c *ℤ e)) (pos 1000 *ℤ (dt *ℤ i)) w
    ∙ ap (λ p. p -ℤ pos 1000 *ℤ (dt *ℤ i) *ℤ w) (mul_assoc (pos 2) (c *ℤ e) w ∙ ap (λ p. pos 2 *ℤ p) (mul_assoc c e w))
    ∙ ap (λ p. pos 2 *ℤ (c *ℤ (e *ℤ w)) -ℤ p) (mul_assoc (pos 1000) (dt *ℤ i) w ∙ ap (λ p. pos 1000 *ℤ p) (mul_assoc dt i w ∙ ap (λ p. dt *ℤ p) (*ℤ_comm i w))))
    ∙ mul_sub g (pos 2 *ℤ (c *ℤ (e *ℤ w))) (pos 1000 *ℤ (dt *ℤ (w *ℤ i)))
    ∙ ap (λ p. p -ℤ g *ℤ (pos 1000 *ℤ (dt *ℤ (w *ℤ i)))) (swapped g (pos 2) (c *ℤ (e *ℤ w)))
    ∙ ap (λ p. pos 2 *ℤ (g *ℤ (c *ℤ (e *ℤ w))) -ℤ p) (swapped g (pos 1000) (dt *ℤ (w *ℤ i)) ∙ ap (λ p. pos 1000 *ℤ p) (swapped g dt (w *ℤ i)))

-- a rise of a square
pub squares_rise : (a b : ℤ) → (a -ℤ b) *ℤ (a +ℤ b) ≡ a *ℤ a -ℤ b *ℤ b
squares_rise a b = sub_mul a b (a +ℤ b) ∙ together (a *ℤ (a +ℤ b)) (b *ℤ (a +ℤ b)) (a *ℤ a) (a *ℤ b) (b *ℤ a) (b *ℤ b) (mul_add a a b) (mul_add b a b) (*ℤ_comm a b)
  where
    together : (p q aa ab ba bb : ℤ) → p ≡ aa +ℤ ab → q ≡ ba +ℤ bb → ab ≡ ba → p -ℤ q ≡ aa -ℤ bb
    together p q aa ab ba bb e f h = omega (arith, ints, e, f, h)

-- ---- one step

abbrev step_excess : ℤ → ℤ → ℤ → ℤ → ℤ → ℤ → ℤ → ℤ → ℤ → ℤ → ℤ → ℤ
step_excess dt g gap r l c v w i d e =
    (pos (10 ^ 6) *ℤ (dt *ℤ (g *ℤ (v *ℤ i))) -ℤ dt *ℤ ((g *ℤ r +ℤ gap) *ℤ (i *ℤ i))) -ℤ (pos (2 * 10 ^ 9) *ℤ (g *ℤ (l *ℤ (d *ℤ i))) +ℤ pos 2000 *ℤ (g *ℤ (c *ℤ (e *ℤ w))))

step_is : (dt g gap r z l c v w i d e : ℤ)
    → step_excess dt g gap r l c v w i d e
    ≡ (dt *ℤ ((g *ℤ ((pos (10 ^ 6) *ℤ v -ℤ pos (10 ^ 6) *ℤ w) -ℤ (r *ℤ i +ℤ z *ℤ d)) -ℤ gap *ℤ i) *ℤ i) -ℤ g *ℤ ((pos (2 * 10 ^ 9) *ℤ l -ℤ z *ℤ dt) *ℤ (d *ℤ i)))
    -ℤ pos 1000 *ℤ (g *ℤ ((pos 2 *ℤ (c *ℤ e) -ℤ pos 1000 *ℤ (dt *ℤ i)) *ℤ w))
step_is dt g gap r z l c v w i d e =
    let heat : dt *ℤ ((g *ℤ r +ℤ gap) *ℤ (i *ℤ i)) ≡ dt *ℤ (g *ℤ (r *ℤ (i *ℤ i))) +ℤ dt *ℤ (gap *ℤ (i *ℤ i)) =
    ap (λ p. dt *ℤ p) (add_mul (g *ℤ r) gap (i *ℤ i) ∙ ap (λ p. p +ℤ gap *ℤ (i *ℤ i)) (mul_assoc g r (i *ℤ i))) ∙ mul_add dt (g *ℤ (r *ℤ (i *ℤ i))) (gap *ℤ (i *ℤ i)) in
    joined (dt *ℤ (g *ℤ (v *ℤ i))) (dt *ℤ (g *ℤ (w *ℤ i))) (dt *ℤ (g *ℤ (r *ℤ (i *ℤ i)))) (dt *ℤ (g *ℤ (z *ℤ (d *ℤ i)))) (dt *ℤ (gap *ℤ (i *ℤ i))) (g *ℤ (l *ℤ (d *ℤ i))) (g *ℤ (c *ℤ (e *ℤ w)))
    (dt *ℤ ((g *ℤ r +ℤ gap) *ℤ (i *ℤ i)))
    (dt *ℤ ((g *ℤ ((pos (10 ^ 6) *ℤ v -ℤ pos (10 ^ 6) *ℤ w) -ℤ (r *ℤ i +ℤ z *ℤ d)) -ℤ gap *ℤ i) *ℤ i))
    (g *ℤ ((pos (2 * 10 ^ 9) *ℤ l -ℤ z *ℤ dt) *ℤ (d *ℤ i)))
    (g *ℤ ((pos 2 *ℤ (c *ℤ e) -ℤ pos 1000 *ℤ (dt *ℤ i)) *ℤ w))
    heat (powers dt g gap r z v w i d) (inductor_rounds dt g z l (d *ℤ i)) (capacitor_rounds dt g c e i w)
  where
    joined : (p q s t u l c heat a b k : ℤ) → heat ≡ s +ℤ u → a ≡ ((pos (10 ^ 6) *ℤ p -ℤ pos (10 ^ 6) *ℤ q) -ℤ (s +ℤ t)) -ℤ u → b ≡ pos (2 * 10 ^ 9) *ℤ l -ℤ t → k ≡ pos 2 *ℤ c -ℤ pos 1000 *ℤ q
        → (pos (10 ^ 6) *ℤ p -ℤ heat) -ℤ (pos (2 * 10 ^ 9) *ℤ l +ℤ pos 2000 *ℤ c) ≡ (a -ℤ b) -ℤ pos 1000 *ℤ k
    joined p q s t u l c heat a b k e f h m = omega (arith, ints, e, f, h, m)

-- what three products are at most, with their factors
abbrev step_limit : ℕ → ℕ → ℕ → ℕ → ℕ → ℕ → ℕ → ℕ
step_limit dt g c m i d w = 1000 * (dt * (i * (m + g * d))) + 2 * (g * (c * (w * (10 ^ 6 + i))))

step_small : (y a b k : ℤ) (dt g c m i d w u s f : ℕ) → y ≡ (a -ℤ b) -ℤ pos 1000 *ℤ k → unsigned_abs a ≡ dt * (u * i) → unsigned_abs b ≡ g * (s * (d * i)) → unsigned_abs k ≡ g * (f * w)
    → 2 * u ≤ m → 2 * s ≤ dt → 10 ^ 6 * (f * w) ≤ c * (w * (10 ^ 6 + i)) → 2000 * unsigned_abs y ≤ step_limit dt g c m i d w
step_small y a b k dt g c m i d w u s f is in_a in_b in_k small_u small_s small_f =
    let apart : unsigned_abs y ≤ unsigned_abs a + unsigned_abs b + 1000 * unsigned_abs k = omega (arith, ints, is) in
    let most_a : 2 * u * (dt * i) ≤ m * (dt * i) = mul-le (2 * u) (dt * i) m (dt * i) small_u (omega arith) in
    let most_b : 2 * s * (g * (d * i)) ≤ dt * (g * (d * i)) = mul-le (2 * s) (g * (d * i)) dt (g * (d * i)) small_s (omega arith) in
    let most_k : g * (10 ^ 6 * (f * w)) ≤ g * (c * (w * (10 ^ 6 + i))) = mul-le g (10 ^ 6 * (f * w)) g (c * (w * (10 ^ 6 + i))) (omega arith) small_f in
    let of_a : 2 * unsigned_abs a ≤ dt * (i * m) = omega (arith, in_a, most_a) in
    let of_b : 2 * unsigned_abs b ≤ dt * (i * (g * d)) = omega (arith, in_b, most_b) in
    let of_k : 10 ^ 6 * unsigned_abs k ≤ g * (c * (w * (10 ^ 6 + i))) = omega (arith, in_k, most_k) in
    summed (unsigned_abs y) (unsigned_abs a) (unsigned_abs b) (unsigned_abs k) (dt * (i * m)) (dt * (i * (g * d))) (g * (c * (w * (10 ^ 6 + i)))) (dt * (i * (m + g * d))) apart of_a of_b of_k (spread dt i m (g * d))
  where
    spread : (dt i m n : ℕ) → dt * (i * m) + dt * (i * n) ≡ dt * (i * (m + n))
    spread dt i m n = omega arith

    summed : (y a b k p q r t : ℕ) → y ≤ a + b + 1000 * k → 2 * a ≤ p → 2 * b ≤ q → 10 ^ 6 * k ≤ r → p + q ≡ t → 2000 * y ≤ 1000 * t + 2 * r
    summed y a b k p q r t e f h j l = omega (arith, e, f, h, j, l)

-- by how much 2 C (vC - vC') exceeds dt (i + i')
abbrev charged : ℤ → Lumped → Moment → Moment → ℤ
charged dt x m n = pos 2 *ℤ (x.c *ℤ (m.state.v_c -ℤ n.state.v_c)) -ℤ pos 1000 *ℤ (dt *ℤ currents m n)

-- times the sum of its voltages
charge_small : (dt : ℤ) (x : Lumped) (m : Moment) (past : List Moment) → AreSteps dt x (m ∷ past)
    → 10 ^ 6 * (unsigned_abs (pos 2 *ℤ (x.c *ℤ (m.state.v_c -ℤ (latest past).state.v_c)) -ℤ pos 1000 *ℤ (dt *ℤ currents m (latest past))) * unsigned_abs (capacitor_voltages m (latest past)))
    ≤ unsigned_abs x.c * (unsigned_abs (capacitor_voltages m (latest past)) * (10 ^ 6 + unsigned_abs (currents m (latest past))))
charge_small dt x m past steps = by_test (int_eq x.c (pos 0)) refl
  where
    none : (f w c i : ℕ) → w ≡ 0 → 10 ^ 6 * (f * w) ≤ c * (w * (10 ^ 6 + i))
    none f w c i e = subst (λ (y : ℕ). 10 ^ 6 * (f * y) ≤ c * (y * (10 ^ 6 + i))) (sym e) (omega arith)

    some : (f w c i : ℕ) → 10 ^ 6 * f ≤ c * (10 ^ 6 + i) → 10 ^ 6 * (f * w) ≤ c * (w * (10 ^ 6 + i))
    some f w c i h =
        let most : 10 ^ 6 * f * w ≤ c * (10 ^ 6 + i) * w = mul-le (10 ^ 6 * f) w (c * (10 ^ 6 + i)) w h (omega arith) in
        omega (arith, most)

    empty : (a b : ℤ) → a ≡ pos 0 → b ≡ pos 0 → unsigned_abs (a +ℤ b) ≡ 0
    empty a b e f = omega (arith, ints, e, f)

    apart : {b : Bool} → b ≡ true → b ≡ false → ⊥
    apart e f = absurd (cc)

    by_test : (b : Bool) → int_eq x.c (pos 0) ≡ b → 10 ^ 6 * (unsigned_abs (charged dt x m (latest past)) * unsigned_abs (capacitor_voltages m (latest past))) ≤ unsigned_abs x.c * (unsigned_abs (capacitor_voltages m (latest past)) * (10 ^ 6 + unsigned_abs (currents m (latest past))))
    by_test true is =
        let no_c = (Decides-int_eq x.c (pos 0)).0 is in
        none (unsigned_abs (charged dt x m (latest past))) (unsigned_abs (capacitor_voltages m (latest past))) (unsigned_abs x.c) (unsigned_abs (currents m (latest past)))
        (empty m.state.v_c (latest past).state.v_c (no_capacitor_voltage dt x (m ∷ past) no_c steps) (no_capacitor_voltage dt x past no_c steps.1))
    by_test false is =
        let some_c : x.c ≢ pos 0 = λ e. apart ((Decides-int_eq x.c (pos 0)).1 e) is in
        some (unsigned_abs (charged dt x m (latest past))) (unsigned_abs (capacitor_voltages m (latest past))) (unsigned_abs x.c) (unsigned_abs (currents m (latest past)))
        (at_capacitance dt x.c (latest past).state m.state some_c ((moved (companion_of dt x) (latest past).state m.voltage m.state steps.0).capacitor ∙ ap (λ z. (latest past).state.v_c +ℤ near (z *ℤ currents m (latest past)) MICRO) (capacitor-some dt x.c some_c)))

step_within : (dt : ℤ) (x : Lumped) (m : Moment) (past : List Moment) (limit : ℕ) → dt ≢ pos 0 → AreSteps dt x (m ∷ past) → 2 * unsigned_abs (excess_of_both dt x m (latest past)) ≤ limit
    → 2000 * unsigned_abs (step_excess dt (conductance_of dt x) (conducted_fictitious dt x) x.r x.l x.c (voltages m (latest past)) (capacitor_voltages m (latest past)) (currents m (latest past)) (rise_of_current m (latest past)) (m.state.v_c -ℤ (latest past).state.v_c))
    ≤ step_limit (unsigned_abs dt) (unsigned_abs (conductance_of dt x)) (unsigned_abs x.c) limit (unsigned_abs (currents m (latest past))) (unsigned_abs (rise_of_current m (latest past))) (unsigned_abs (capacitor_voltages m (latest past)))
step_within dt x m past limit some steps small =
    let n = latest past in
    let g = conductance_of dt x in
    let gap = conducted_fictitious dt x in
    let z = inductor_impedance dt x.l in
    let v = voltages m n in
    let w = capacitor_voltages m n in
    let i = currents m n in
    let d = rise_of_current m n in
    let e = m.state.v_c -ℤ n.state.v_c in
    let u = excess_of_both dt x m n in
    let s = pos (2 * 10 ^ 9) *ℤ x.l -ℤ z *ℤ dt in
    let f = pos 2 *ℤ (x.c *ℤ e) -ℤ pos 1000 *ℤ (dt *ℤ i) in
    step_small (step_excess dt g gap x.r x.l x.c v w i d e) (dt *ℤ (u *ℤ i)) (g *ℤ (s *ℤ (d *ℤ i))) (g *ℤ (f *ℤ w))
    (unsigned_abs dt) (unsigned_abs g) (unsigned_abs x.c) limit (unsigned_abs i) (unsigned_abs d) (unsigned_abs w) (unsigned_abs u) (unsigned_abs s) (unsigned_abs f)
    (step_is dt g gap x.r z x.l x.c v w i d e)
    (unsigned_abs-mul dt (u *ℤ i) ∙ ap (λ p. unsigned_abs dt * p) (unsigned_abs-mul u i))
    (unsigned_abs-mul g (s *ℤ (d *ℤ i)) ∙ ap (λ p. unsigned_abs g * p) (unsigned_abs-mul s (d *ℤ i) ∙ ap (λ p. unsigned_abs s * p) (unsigned_abs-mul d i)))
    (unsigned_abs-mul g (f *ℤ w) ∙ ap (λ p. unsigned_abs g * p) (unsigned_abs-mul f w))
    small
    (near-rest (pos (2 * 10 ^ 9) *ℤ x.l) dt some)
    (charge_small dt x m past steps)

step_balances : (dt : ℤ) (x : Lumped) (m : Moment) (past : List Moment) → dt ≢ pos 0 → AreSteps dt x (m ∷ past)
    → 2000 * unsigned_abs (step_excess dt (conductance_of dt x) (conducted_fictitious dt x) x.r x.l x.c (voltages m (latest past)) (capacitor_voltages m (latest past)) (currents m (latest past)) (rise_of_current m (latest past)) (m.state.v_c -ℤ (latest past).state.v_c))
    ≤ step_rounds dt x m (latest past)
step_balances dt x m past some steps =
    step_within dt x m past (4 * 10 ^ 18 + 10 ^ 6 * ((3 + 2 * one_if_some x.c) * unsigned_abs (conductance_of dt x))) some steps
    (weaker (unsigned_abs (excess_of_both dt x m (latest past))) (one_if_some m.voltage) (one_if_some (latest past).voltage) ((3 + 2 * one_if_some x.c) * unsigned_abs (conductance_of dt x)) (at_most_one m.voltage) (at_most_one (latest past).voltage) (adds_up_both dt x m past steps))
  where
    at_most_one : (v : ℤ) → one_if_some v ≤ 1
    at_most_one v = by_test (int_eq v (pos 0))
      where
        by_test : (b : Bool) → (if b then 0 else 1) ≤ 1
        by_test true = omega arith
        by_test false = omega arith

    weaker : (u v w n : ℕ) → v ≤ 1 → w ≤ 1 → 2 * u ≤ 10 ^ 18 * (2 + v + w) + 10 ^ 6 * n → 2 * u ≤ 4 * 10 ^ 18 + 10 ^ 6 * n
    weaker u v w n e f h = omega (arith, e, f, h)

-- an inductance alone
pub alone_balances : (dt : ℤ) (x : Lumped) (m : Moment) (past : List Moment) → dt ≢ pos 0 → x.r ≡ pos 0 → x.c ≡ pos 0 → AreSteps dt x (m ∷ past) → StoresWhatItTakes dt x m (latest past)
alone_balances dt x m past some no_r no_c steps =
    let n = latest past in
    let g = conductance_of dt x in
    let gap = conducted_fictitious dt x in
    let i = currents m n in
    let d = rise_of_current m n in
    let limit = 10 ^ 18 * (2 + one_if_some m.voltage + one_if_some n.voltage) + 3 * 10 ^ 6 * unsigned_abs g in
    let heat : (g *ℤ x.r +ℤ gap) *ℤ (i *ℤ i) ≡ gap *ℤ (i *ℤ i) = ap (λ p. p *ℤ (i *ℤ i)) (no_heat (g *ℤ x.r) gap (ap (λ p. g *ℤ p) no_r ∙ nothing g)) in
    let charge : g *ℤ (x.c *ℤ ((m.state.v_c -ℤ n.state.v_c) *ℤ capacitor_voltages m n)) ≡ pos 0 = ap (λ p. g *ℤ (p *ℤ ((m.state.v_c -ℤ n.state.v_c) *ℤ capacitor_voltages m n))) no_c ∙ ap (λ p. g *ℤ p) (none_times ((m.state.v_c -ℤ n.state.v_c) *ℤ capacitor_voltages m n)) ∙ nothing g in
    joined (dt *ℤ (g *ℤ (voltages m n *ℤ i))) (dt *ℤ (gap *ℤ (i *ℤ i))) (dt *ℤ ((g *ℤ x.r +ℤ gap) *ℤ (i *ℤ i))) (g *ℤ (x.l *ℤ (d *ℤ i))) (g *ℤ (x.l *ℤ (m.state.current *ℤ m.state.current -ℤ n.state.current *ℤ n.state.current))) (g *ℤ (x.c *ℤ ((m.state.v_c -ℤ n.state.v_c) *ℤ capacitor_voltages m n)))
    (unsigned_abs dt * (unsigned_abs i * (limit + unsigned_abs g * unsigned_abs d))) (unsigned_abs g * (unsigned_abs x.c * (unsigned_abs (capacitor_voltages m n) * (10 ^ 6 + unsigned_abs i))))
    (ap (λ p. dt *ℤ p) heat) charge (ap (λ p. g *ℤ (x.l *ℤ p)) (squares_rise m.state.current n.state.current)) (empty (unsigned_abs g) (unsigned_abs x.c) (unsigned_abs (capacitor_voltages m n) * (10 ^ 6 + unsigned_abs i)) (ap unsigned_abs no_c))
    (step_within dt x m past limit some steps (free (unsigned_abs (excess_of_both dt x m n)) (10 ^ 18 * (2 + one_if_some m.voltage + one_if_some n.voltage)) (one_if_some x.c) (unsigned_abs g) (none_is_0 x.c no_c) (adds_up_both dt x m past steps)))
  where
    nothing : (g : ℤ) → g *ℤ pos 0 ≡ pos 0
    nothing g = omega (arith, ints)

    none_times : (g : ℤ) → pos 0 *ℤ g ≡ pos 0
    none_times g = omega (arith, ints)

    no_heat : (a b : ℤ) → a ≡ pos 0 → a +ℤ b ≡ b
    no_heat a b e = omega (arith, ints, e)

    empty : (g c w : ℕ) → c ≡ 0 → g * (c * w) ≡ 0
    empty g c w e = ap (λ (p : ℕ). g * (p * w)) e ∙ omega arith

    free : (u a c g : ℕ) → c ≡ 0 → 2 * u ≤ a + 10 ^ 6 * ((3 + 2 * c) * g) → 2 * u ≤ a + 3 * 10 ^ 6 * g
    free u a c g e h = at_none u a g (subst (λ (y : ℕ). 2 * u ≤ a + 10 ^ 6 * ((3 + 2 * y) * g)) e h)
      where
        at_none : (u a g : ℕ) → 2 * u ≤ a + 10 ^ 6 * ((3 + 2 * 0) * g) → 2 * u ≤ a + 3 * 10 ^ 6 * g
        at_none u a g h = omega (arith, h)

    joined : (p q q' l l' c : ℤ) (t k : ℕ) → q' ≡ q → c ≡ pos 0 → l ≡ l' → k ≡ 0 → 2000 * unsigned_abs ((pos (10 ^ 6) *ℤ p -ℤ q') -ℤ (pos (2 * 10 ^ 9) *ℤ l +ℤ pos 2000 *ℤ c)) ≤ 1000 * t + 2 * k
        → 2 * unsigned_abs ((pos (10 ^ 6) *ℤ p -ℤ q) -ℤ pos (2 * 10 ^ 9) *ℤ l') ≤ t
    joined p q q' l l' c t k e f h j m = omega (arith, ints, e, f, h, j, m)

-- ---- the sum

-- the excess of a course is that of its last step above that of the course before
excess_rises : (dt : ℤ) (x : Lumped) (m : Moment) (past : List Moment)
    → excess_energy dt x (m ∷ past)
    ≡ step_excess dt (conductance_of dt x) (conducted_fictitious dt x) x.r x.l x.c (voltages m (latest past)) (capacitor_voltages m (latest past)) (currents m (latest past)) (rise_of_current m (latest past)) (m.state.v_c -ℤ (latest past).state.v_c)
    +ℤ excess_energy dt x past
excess_rises dt x m past =
    let n = latest past in
    let g = conductance_of dt x in
    let k = g *ℤ x.r +ℤ conducted_fictitious dt x in
    let i = currents m n in
    let s = m.state in
    let t = n.state in
    let in_taken : dt *ℤ (g *ℤ (voltages m n *ℤ i +ℤ taken past)) ≡ dt *ℤ (g *ℤ (voltages m n *ℤ i)) +ℤ dt *ℤ (g *ℤ taken past) =
    ap (λ p. dt *ℤ p) (mul_add g (voltages m n *ℤ i) (taken past)) ∙ mul_add dt (g *ℤ (voltages m n *ℤ i)) (g *ℤ taken past) in
    let in_squares : dt *ℤ (k *ℤ (i *ℤ i +ℤ squares past)) ≡ dt *ℤ (k *ℤ (i *ℤ i)) +ℤ dt *ℤ (k *ℤ squares past) =
    ap (λ p. dt *ℤ p) (mul_add k (i *ℤ i) (squares past)) ∙ mul_add dt (k *ℤ (i *ℤ i)) (k *ℤ squares past) in
    let stored : (f a b : ℤ) → g *ℤ (f *ℤ ((a -ℤ b) *ℤ (a +ℤ b))) ≡ g *ℤ (f *ℤ (a *ℤ a)) -ℤ g *ℤ (f *ℤ (b *ℤ b)) =
    λ f a b. ap (λ p. g *ℤ p) (ap (λ p. f *ℤ p) (squares_rise a b) ∙ mul_sub f (a *ℤ a) (b *ℤ b)) ∙ mul_sub g (f *ℤ (a *ℤ a)) (f *ℤ (b *ℤ b)) in
    joined
    (dt *ℤ (g *ℤ (voltages m n *ℤ i +ℤ taken past))) (dt *ℤ (g *ℤ (voltages m n *ℤ i))) (dt *ℤ (g *ℤ taken past))
    (dt *ℤ (k *ℤ (i *ℤ i +ℤ squares past))) (dt *ℤ (k *ℤ (i *ℤ i))) (dt *ℤ (k *ℤ squares past))
    (g *ℤ (x.l *ℤ (rise_of_current m n *ℤ i))) (g *ℤ (x.l *ℤ (s.current *ℤ s.current))) (g *ℤ (x.l *ℤ (t.current *ℤ t.current)))
    (g *ℤ (x.c *ℤ ((s.v_c -ℤ t.v_c) *ℤ capacitor_voltages m n))) (g *ℤ (x.c *ℤ (s.v_c *ℤ s.v_c))) (g *ℤ (x.c *ℤ (t.v_c *ℤ t.v_c)))
    in_taken in_squares (stored x.l s.current t.current) (stored x.c s.v_c t.v_c)
  where
    joined : (p pm pn q qm qn l lm ln c cm cn : ℤ) → p ≡ pm +ℤ pn → q ≡ qm +ℤ qn → l ≡ lm -ℤ ln → c ≡ cm -ℤ cn
        → (pos (10 ^ 6) *ℤ p -ℤ q) -ℤ (pos (2 * 10 ^ 9) *ℤ lm +ℤ pos 2000 *ℤ cm)
        ≡ ((pos (10 ^ 6) *ℤ pm -ℤ qm) -ℤ (pos (2 * 10 ^ 9) *ℤ l +ℤ pos 2000 *ℤ c)) +ℤ ((pos (10 ^ 6) *ℤ pn -ℤ qn) -ℤ (pos (2 * 10 ^ 9) *ℤ ln +ℤ pos 2000 *ℤ cn))
    joined p pm pn q qm qn l lm ln c cm cn e f h k = omega (arith, ints, e, f, h, k)

pub balances : (dt : ℤ) (x : Lumped) (past : List Moment) → dt ≢ pos 0 → AreSteps dt x past → BalancesItsEnergy dt x past
balances dt x [] some steps =
    let g = conductance_of dt x in
    still (dt *ℤ (g *ℤ pos 0)) (dt *ℤ ((g *ℤ x.r +ℤ conducted_fictitious dt x) *ℤ pos 0)) (g *ℤ (x.l *ℤ (pos 0 *ℤ pos 0))) (g *ℤ (x.c *ℤ (pos 0 *ℤ pos 0)))
    (twice dt g) (twice dt (g *ℤ x.r +ℤ conducted_fictitious dt x)) (twice g x.l) (twice g x.c)
  where
    nothing : (g : ℤ) → g *ℤ pos 0 ≡ pos 0
    nothing g = omega (arith, ints)

    twice : (f g : ℤ) → f *ℤ (g *ℤ pos 0) ≡ pos 0
    twice f g = ap (λ z. f *ℤ z) (nothing g) ∙ nothing f

    still : (p q l c : ℤ) → p ≡ pos 0 → q ≡ pos 0 → l ≡ pos 0 → c ≡ pos 0 → 2000 * unsigned_abs ((pos (10 ^ 6) *ℤ p -ℤ q) -ℤ (pos (2 * 10 ^ 9) *ℤ l +ℤ pos 2000 *ℤ c)) ≤ 0
    still p q l c e f h k = omega (arith, ints, e, f, h, k)
balances dt x (m ∷ past) some steps =
    let n = latest past in
    let one = step_excess dt (conductance_of dt x) (conducted_fictitious dt x) x.r x.l x.c (voltages m n) (capacitor_voltages m n) (currents m n) (rise_of_current m n) (m.state.v_c -ℤ n.state.v_c) in
    added (excess_energy dt x (m ∷ past)) one (excess_energy dt x past) (step_rounds dt x m n) (all_round dt x past) (excess_rises dt x m past) (step_balances dt x m past some steps) (balances dt x past some steps.1)
  where
    added : (all a b : ℤ) (p q : ℕ) → all ≡ a +ℤ b → 2000 * unsigned_abs a ≤ p → 2000 * unsigned_abs b ≤ q → 2000 * unsigned_abs all ≤ p + q
    added all a b p q e f h =
        let apart : unsigned_abs all ≤ unsigned_abs a + unsigned_abs b = omega (arith, ints, e) in
        omega (arith, apart, f, h)

pub balances_since : (dt : ℤ) (x : Lumped) (new past : List Moment) → dt ≢ pos 0 → AreSteps dt x (new ++ past) → BalancesSince dt x new past
balances_since dt x [] past some steps = none (excess_energy dt x past)
  where
    none : (a : ℤ) → 2000 * unsigned_abs (a -ℤ a) ≤ 0
    none a = omega (arith, ints)
balances_since dt x (m ∷ new) past some steps =
    let n = latest (new ++ past) in
    let one = step_excess dt (conductance_of dt x) (conducted_fictitious dt x) x.r x.l x.c (voltages m n) (capacitor_voltages m n) (currents m n) (rise_of_current m n) (m.state.v_c -ℤ n.state.v_c) in
    added (excess_energy dt x (m ∷ (new ++ past))) one (excess_energy dt x (new ++ past)) (excess_energy dt x past) (step_rounds dt x m n) (rounds_since dt x new past)
    (excess_rises dt x m (new ++ past)) (step_balances dt x m (new ++ past) some steps) (balances_since dt x new past some steps.1)
  where
    added : (all a b c : ℤ) (p q : ℕ) → all ≡ a +ℤ b → 2000 * unsigned_abs a ≤ p → 2000 * unsigned_abs (b -ℤ c) ≤ q → 2000 * unsigned_abs (all -ℤ c) ≤ p + q
    added all a b c p q e f h =
        let apart : unsigned_abs (all -ℤ c) ≤ unsigned_abs a + unsigned_abs (b -ℤ c) = omega (arith, ints, e) in
        omega (arith, apart, f, h)
