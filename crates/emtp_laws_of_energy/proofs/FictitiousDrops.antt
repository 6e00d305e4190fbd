-- The voltage of a series branch in a record, with the drop at its fictitious resistance.
use Rattle.std.proofs.Common.{◌≡◌, ◌∙◌, ◌+◌, ◌*◌, ◌^◌, ◌≤◌, ℕ, ℤ, pos, ◌+ℤ◌, ◌-ℤ◌, ◌*ℤ◌, unsigned_abs, Bool, true, false, refl, ap, sym, subst, arith}
use Rattle.std.specs.Ordering.{int_eq}
use Rattle.std.specs.Prelude.{if◌then◌else◌}
use Rattle.std.proofs.lemmas.Bool.Decides.{Decides-int_eq}
use Rattle.std.proofs.lemmas.Int.{ints, unsigned_abs-mul}
use Rattle.std.proofs.lemmas.Nat.{mul-le}
use Rattle.emtp_case.specs.Branch.{capacitor_impedance, inductor_impedance}
use Rattle.emtp_case.specs.StepRecord.{no_lumped}
use Rattle.emtp_case.specs.declared.branch.Lumped.{Lumped}
use Rattle.emtp_case.specs.declared.branch.LumpedState.{LumpedState}
use Rattle.emtp_fix.proofs.Nearest.{near-rest}
use Rattle.emtp_fix.proofs.Quotients.{near-times_zero, near-zero_times}
use Rattle.emtp_fix.proofs.Wide.{mul_add}
use Rattle.emtp_fix.specs.Rounding.{near}
use Rattle.emtp_fix.specs.declared.limit.TheConstants.{MICRO, PICO}
use Rattle.emtp_lumped.specs.Companion.{companion_of}
use Rattle.emtp_lumped.specs.declared.companion.Companion.{Companion}
use Rattle.emtp_laws_of_energy.specs.Series.{HasFictitiousDrop, conductance_of, conducted_fictitious, one_if_some}
use Rattle.emtp_laws.specs.Branches.{HasItsHistoryVoltage, excess_voltage}
use Rattle.emtp_laws.proofs.Products.{add_mul, mul_assoc, mul_sub, sub_mul, swapped}
use Rattle.emtp_laws.proofs.SeriesSteps.{IsMoved}

-- ---- the current times 10^18, less the part g r of it

flows : (g z v e h k w : ℤ) → g *ℤ ((pos (10 ^ 6) *ℤ (v +ℤ e) -ℤ z *ℤ (h +ℤ k)) +ℤ w) -ℤ (pos (10 ^ 18) -ℤ g *ℤ z) *ℤ (h +ℤ k)
    ≡ pos (10 ^ 6) *ℤ ((g *ℤ v -ℤ h *ℤ pos (10 ^ 12)) +ℤ (g *ℤ e -ℤ k *ℤ pos (10 ^ 12))) +ℤ g *ℤ w
flows g z v e h k w =
    let i = h +ℤ k in
    let y = pos (10 ^ 6) *ℤ (v +ℤ e) -ℤ z *ℤ i in
    let driven : g *ℤ y ≡ pos (10 ^ 6) *ℤ (g *ℤ (v +ℤ e)) -ℤ g *ℤ (z *ℤ i) = mul_sub g (pos (10 ^ 6) *ℤ (v +ℤ e)) (z *ℤ i) ∙ ap (λ p. p -ℤ g *ℤ (z *ℤ i)) (swapped g (pos (10 ^ 6)) (v +ℤ e)) in
    let kept : (pos (10 ^ 18) -ℤ g *ℤ z) *ℤ i ≡ pos (10 ^ 18) *ℤ i -ℤ g *ℤ (z *ℤ i) = sub_mul (pos (10 ^ 18)) (g *ℤ z) i ∙ ap (λ p. pos (10 ^ 18) *ℤ i -ℤ p) (mul_assoc g z i) in
    joined (g *ℤ (y +ℤ w)) (g *ℤ y) (g *ℤ w) (g *ℤ (v +ℤ e)) (g *ℤ (z *ℤ i)) (g *ℤ v) (g *ℤ e) ((pos (10 ^ 18) -ℤ g *ℤ z) *ℤ i) h k (mul_add g y w) driven (mul_add g v e) kept
  where
    joined : (all gy gw gve gzi gv ge rest h k : ℤ) → all ≡ gy +ℤ gw → gy ≡ pos (10 ^ 6) *ℤ gve -ℤ gzi → gve ≡ gv +ℤ ge → rest ≡ pos (10 ^ 18) *ℤ (h +ℤ k) -ℤ gzi
        → all -ℤ rest ≡ pos (10 ^ 6) *ℤ ((gv -ℤ h *ℤ pos (10 ^ 12)) +ℤ (ge -ℤ k *ℤ pos (10 ^ 12))) +ℤ gw
    joined all gy gw gve gzi gv ge rest h k a b c d = omega (arith, ints, a, b, c, d)

-- ---- the drops, up to the rests of quotients

-- with what the inductance has after the old record
drops : (r zl zc v e i j l c d b k : ℤ) → e ≡ (l -ℤ c) +ℤ k → d ≡ c +ℤ b
    → (pos (10 ^ 6) *ℤ v -ℤ pos (10 ^ 6) *ℤ (d -ℤ l)) -ℤ (r *ℤ i +ℤ zl *ℤ (i -ℤ j))
    ≡ (pos (10 ^ 6) *ℤ (v +ℤ e) -ℤ (r +ℤ zl +ℤ zc) *ℤ i) +ℤ ((zc *ℤ (i +ℤ j) -ℤ b *ℤ pos (10 ^ 6)) +ℤ ((zl -ℤ zc) *ℤ j -ℤ k *ℤ pos (10 ^ 6)))
drops r zl zc v e i j l c d b k is is' =
    omega (arith, ints, is, is', add_mul (r +ℤ zl) zc i, add_mul r zl i, mul_sub zl i j, mul_add zc i j, sub_mul zl zc j)

-- ---- how large it is

bounded : (g y w p : ℤ) (m n : ℕ) → y ≡ pos (10 ^ 6) *ℤ p +ℤ g *ℤ w → 2 * unsigned_abs p ≤ 10 ^ 12 * m → 2 * unsigned_abs w ≤ 10 ^ 6 * n → 2 * unsigned_abs y ≤ 10 ^ 18 * m + 10 ^ 6 * (n * unsigned_abs g)
bounded g y w p m n is in_p in_w =
    let size : unsigned_abs (g *ℤ w) ≡ unsigned_abs g * unsigned_abs w = unsigned_abs-mul g w in
    let most : unsigned_abs g * (2 * unsigned_abs w) ≤ unsigned_abs g * (10 ^ 6 * n) = mul-le (unsigned_abs g) (2 * unsigned_abs w) (unsigned_abs g) (10 ^ 6 * n) (omega arith) in_w in
    joined y p (g *ℤ w) (unsigned_abs g) (unsigned_abs w) m n is in_p size most
  where
    joined : (y p q : ℤ) (g w m n : ℕ) → y ≡ pos (10 ^ 6) *ℤ p +ℤ q → 2 * unsigned_abs p ≤ 10 ^ 12 * m → unsigned_abs q ≡ g * w → g * (2 * w) ≤ g * (10 ^ 6 * n) → 2 * unsigned_abs y ≤ 10 ^ 18 * m + 10 ^ 6 * (n * g)
    joined y p q g w m n a b c d =
        let apart : unsigned_abs y ≤ 10 ^ 6 * unsigned_abs p + unsigned_abs q = omega (arith, ints, a) in
        omega (arith, apart, b, c, d)

-- a part of the current that no voltage drives is 0
pub voltage_rest : (g v : ℤ) → 2 * unsigned_abs (g *ℤ v -ℤ near (g *ℤ v) PICO *ℤ pos (10 ^ 12)) ≤ 10 ^ 12 * one_if_some v
voltage_rest g v = by_test (int_eq v (pos 0)) refl
  where
    nothing : (g : ℤ) → g *ℤ pos 0 ≡ pos 0
    nothing g = omega (arith, ints)

    none : (u : ℤ) → u ≡ pos 0 → near u PICO ≡ pos 0 → 2 * unsigned_abs (u -ℤ near u PICO *ℤ pos (10 ^ 12)) ≤ 0
    none u e f = omega (arith, ints, e, f)

    by_test : (b : Bool) → int_eq v (pos 0) ≡ b → 2 * unsigned_abs (g *ℤ v -ℤ near (g *ℤ v) PICO *ℤ pos (10 ^ 12)) ≤ 10 ^ 12 * (if b then 0 else 1)
    by_test true is =
        let still : v ≡ pos 0 = (Decides-int_eq v (pos 0)).0 is in
        none (g *ℤ v) (ap (λ z. g *ℤ z) still ∙ nothing g) (ap (λ z. near (g *ℤ z) PICO) still ∙ near-times_zero g PICO)
    by_test false is = near-rest (g *ℤ v) PICO (λ none. cc)

-- nor is the voltage of a capacitance that isn't there rounded
pub capacitor_rest : (dt c s : ℤ) → 2 * unsigned_abs (capacitor_impedance dt c *ℤ s -ℤ near (capacitor_impedance dt c *ℤ s) MICRO *ℤ pos (10 ^ 6)) ≤ 10 ^ 6 * one_if_some c
unfolding capacitor_impedance
capacitor_rest dt c s = by_test (int_eq c (pos 0)) refl
  where
    none : (u : ℤ) → u ≡ pos 0 → near u MICRO ≡ pos 0 → 2 * unsigned_abs (u -ℤ near u MICRO *ℤ pos (10 ^ 6)) ≤ 0
    none u e f = omega (arith, ints, e, f)

    nothing : (g : ℤ) → pos 0 *ℤ g ≡ pos 0
    nothing g = omega (arith, ints)

    by_test : (b : Bool) → int_eq c (pos 0) ≡ b
        → 2 * unsigned_abs ((if b then pos 0 else near (dt *ℤ pos (10 ^ 9)) (pos 2 *ℤ c)) *ℤ s -ℤ near ((if b then pos 0 else near (dt *ℤ pos (10 ^ 9)) (pos 2 *ℤ c)) *ℤ s) MICRO *ℤ pos (10 ^ 6)) ≤ 10 ^ 6 * (if b then 0 else 1)
    by_test true is = none (pos 0 *ℤ s) (nothing s) (near-zero_times s MICRO)
    by_test false is = near-rest (near (dt *ℤ pos (10 ^ 9)) (pos 2 *ℤ c) *ℤ s) MICRO (λ none. cc)

-- ---- a record

-- what a record has, with the voltage that its own inductance has, and with that of the one before
pub record Drops (dt : ℤ) (x : Lumped) (v : ℤ) (old new : LumpedState) : Type 0 where
  pub whole : HasFictitiousDrop dt x v new
  pub part : 2 * unsigned_abs (conductance_of dt x *ℤ ((pos (10 ^ 6) *ℤ v -ℤ pos (10 ^ 6) *ℤ (new.v_c -ℤ old.v_l)) -ℤ (x.r *ℤ new.current +ℤ inductor_impedance dt x.l *ℤ (new.current -ℤ old.current))) -ℤ conducted_fictitious dt x *ℤ new.current)
      ≤ 10 ^ 18 * (1 + one_if_some v) + 10 ^ 6 * ((1 + one_if_some x.c) * unsigned_abs (conductance_of dt x))

pub record_drops : (dt v : ℤ) (x : Lumped) (old new : LumpedState) → HasItsHistoryVoltage (companion_of dt x) old → IsMoved (companion_of dt x) old v new → Drops dt x v old new
record_drops dt v x old new kept step =
    let r = x.r in
    let zl = inductor_impedance dt x.l in
    let zc = capacitor_impedance dt x.c in
    let z = r +ℤ zl +ℤ zc in
    let g = conductance_of dt x in
    let e = old.history_voltage in
    let h = near (g *ℤ v) PICO in
    let k = near (g *ℤ e) PICO in
    let i = new.current in
    let j = old.current in
    let a = near (zl *ℤ (i -ℤ j)) MICRO in
    let b = near (zc *ℤ (i +ℤ j)) MICRO in
    let d = near ((zl -ℤ zc) *ℤ j) MICRO in
    let p = zl *ℤ (i -ℤ j) -ℤ a *ℤ pos (10 ^ 6) in
    let q = zc *ℤ (i +ℤ j) -ℤ b *ℤ pos (10 ^ 6) in
    let t = (zl -ℤ zc) *ℤ j -ℤ d *ℤ pos (10 ^ 6) in
    let rests = (g *ℤ v -ℤ h *ℤ pos (10 ^ 12)) +ℤ (g *ℤ e -ℤ k *ℤ pos (10 ^ 12)) in
    let y = pos (10 ^ 6) *ℤ (v +ℤ e) -ℤ z *ℤ i in
    let before = (pos (10 ^ 6) *ℤ v -ℤ pos (10 ^ 6) *ℤ (new.v_c -ℤ old.v_l)) -ℤ (r *ℤ i +ℤ zl *ℤ (i -ℤ j)) in
    let in_rests : 2 * unsigned_abs rests ≤ 10 ^ 12 * (1 + one_if_some v) = both (g *ℤ v -ℤ h *ℤ pos (10 ^ 12)) (g *ℤ e -ℤ k *ℤ pos (10 ^ 12)) (one_if_some v) (voltage_rest g v) (near-rest (g *ℤ e) PICO (λ none. cc)) in
    let in_t = near-rest ((zl -ℤ zc) *ℤ j) MICRO (λ none. cc) in
    let in_p = near-rest (zl *ℤ (i -ℤ j)) MICRO (λ none. cc) in
    let in_q : 2 * unsigned_abs q ≤ 10 ^ 6 * one_if_some x.c = capacitor_rest dt x.c (i +ℤ j) in
    let parted : before ≡ y +ℤ (q +ℤ t) = drops r zl zc v e i j old.v_l old.v_c new.v_c b d kept step.capacitor in
    let entire : excess_voltage x v new ≡ y +ℤ (p +ℤ (q +ℤ t)) = with_own v (new.v_l) (new.v_c) (old.v_l) (r *ℤ i) (zl *ℤ (i -ℤ j)) a (y +ℤ (q +ℤ t)) y (q +ℤ t) refl parted step.inductor in
    let flowing : (w : ℤ) → g *ℤ (y +ℤ w) -ℤ conducted_fictitious dt x *ℤ i ≡ pos (10 ^ 6) *ℤ rests +ℤ g *ℤ w =
    λ w. subst (λ n. g *ℤ ((pos (10 ^ 6) *ℤ (v +ℤ e) -ℤ z *ℤ n) +ℤ w) -ℤ conducted_fictitious dt x *ℤ n ≡ pos (10 ^ 6) *ℤ rests +ℤ g *ℤ w) (sym step.current) (flows g z v e h k w) in
    record {
      whole = bounded g (g *ℤ excess_voltage x v new -ℤ conducted_fictitious dt x *ℤ i) (p +ℤ (q +ℤ t)) rests (1 + one_if_some v) (2 + one_if_some x.c)
          (ap (λ n. g *ℤ n -ℤ conducted_fictitious dt x *ℤ i) entire ∙ flowing (p +ℤ (q +ℤ t))) in_rests (three p q t (one_if_some x.c) in_p in_q in_t);
      part = bounded g (g *ℤ before -ℤ conducted_fictitious dt x *ℤ i) (q +ℤ t) rests (1 + one_if_some v) (1 + one_if_some x.c)
          (ap (λ n. g *ℤ n -ℤ conducted_fictitious dt x *ℤ i) parted ∙ flowing (q +ℤ t)) in_rests (two q t (one_if_some x.c) in_q in_t);
    }
  where
    both : (a b : ℤ) (m : ℕ) → 2 * unsigned_abs a ≤ 10 ^ 12 * m → 2 * unsigned_abs b ≤ 10 ^ 12 → 2 * unsigned_abs (a +ℤ b) ≤ 10 ^ 12 * (1 + m)
    both a b m h k = omega (arith, ints, h, k)

    two : (q t : ℤ) (m : ℕ) → 2 * unsigned_abs q ≤ 10 ^ 6 * m → 2 * unsigned_abs t ≤ 10 ^ 6 → 2 * unsigned_abs (q +ℤ t) ≤ 10 ^ 6 * (1 + m)
    two q t m h k = omega (arith, ints, h, k)

    three : (p q t : ℤ) (m : ℕ) → 2 * unsigned_abs p ≤ 10 ^ 6 → 2 * unsigned_abs q ≤ 10 ^ 6 * m → 2 * unsigned_abs t ≤ 10 ^ 6 → 2 * unsigned_abs (p +ℤ (q +ℤ t)) ≤ 10 ^ 6 * (2 + m)
    three p q t m f h k = omega (arith, ints, f, h, k)

    with_own : (v l c l' ri zd a whole y w : ℤ) → whole ≡ y +ℤ w → (pos (10 ^ 6) *ℤ v -ℤ pos (10 ^ 6) *ℤ (c -ℤ l')) -ℤ (ri +ℤ zd) ≡ whole → l ≡ a -ℤ l'
        → pos (10 ^ 6) *ℤ v -ℤ (ri +ℤ pos (10 ^ 6) *ℤ (l +ℤ c)) ≡ y +ℤ ((zd -ℤ a *ℤ pos (10 ^ 6)) +ℤ w)
    with_own v l c l' ri zd a whole y w e f h = omega (arith, ints, e, f, h)

pub rest_has_its_history : (c : Companion) → HasItsHistoryVoltage c no_lumped
rest_has_its_history c = sym (ap (λ y. (pos 0 -ℤ pos 0) +ℤ y) (near-times_zero (c.inductor -ℤ c.capacitor) MICRO))
