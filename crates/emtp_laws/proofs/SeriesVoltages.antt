-- The voltage of a series branch is the sum of its drops, within the rounding of a step.
use Rattle.std.proofs.Common.{◌≡◌, ◌≢◌, ◌∙◌, ◌+◌, ◌*◌, ◌^◌, ◌≤◌, ℕ, ℤ, pos, ◌+ℤ◌, ◌-ℤ◌, ◌*ℤ◌, ◌≤ℤ◌, unsigned_abs, List, slice_get, Some, refl, ap, sym, subst, arith}
use Rattle.std.proofs.Math.IntN.{*ℤ_comm}
use Rattle.std.proofs.lemmas.Int.{ints, unsigned_abs-mul}
use Rattle.std.proofs.lemmas.Nat.{mul-le}
use Rattle.std.proofs.lemmas.Option.{slice_get_within}
use Rattle.emtp_case.specs.Branch.{capacitor_impedance, inductor_impedance, series_impedance}
use Rattle.emtp_case.specs.held.Case.{IsCase}
use Rattle.emtp_case.specs.declared.branch.Branch.TheVariants.{Lumped as OfLumped}
use Rattle.emtp_case.specs.declared.branch.Lumped.{Lumped}
use Rattle.emtp_case.specs.declared.branch.LumpedState.{LumpedState}
use Rattle.emtp_case.specs.StepRecord.{no_lumped}
use Rattle.emtp_case.specs.declared.case.Parts.{Parts}
use Rattle.emtp_fix.proofs.Nearest.{near-rest}
use Rattle.emtp_fix.proofs.Quotients.{near-times_zero}
use Rattle.emtp_fix.proofs.Wide.{mul_add}
use Rattle.emtp_fix.specs.Rounding.{near}
use Rattle.emtp_fix.specs.declared.limit.TheConstants.{ATTO, MICRO, PICO}
use Rattle.emtp_lumped.specs.Companion.{companion_of}
use Rattle.emtp_lumped.specs.Lumps.{newest, next_of}
use Rattle.emtp_net.proofs.Nodes.{branch_fits}
use Rattle.emtp_lumped.specs.Step.{history_voltage_of, next_state}
use Rattle.emtp_lumped.specs.declared.companion.Companion.{Companion}
use Rattle.emtp_laws.specs.Branches.{AddsUpDrops, HasItsHistoryVoltage}
use Rattle.emtp_laws.proofs.Products.{add_mul, mul_assoc, mul_sub, sub_mul, swapped}
use Rattle.emtp_laws.proofs.SeriesSteps.{IsMoved, moved}

-- ---- the drops, up to the rests of three quotients

drops : (r zl zc v e i j vl vc a b k : ℤ) → e ≡ (vl -ℤ vc) +ℤ k
    → pos (10 ^ 6) *ℤ v -ℤ (r *ℤ i +ℤ pos (10 ^ 6) *ℤ ((a -ℤ vl) +ℤ (vc +ℤ b)))
    ≡ (pos (10 ^ 6) *ℤ (v +ℤ e) -ℤ (r +ℤ zl +ℤ zc) *ℤ i)
    +ℤ ((zl *ℤ (i -ℤ j) -ℤ a *ℤ pos (10 ^ 6)) +ℤ (zc *ℤ (i +ℤ j) -ℤ b *ℤ pos (10 ^ 6)) +ℤ ((zl -ℤ zc) *ℤ j -ℤ k *ℤ pos (10 ^ 6)))
drops r zl zc v e i j vl vc a b k is =
    omega (arith, ints, is, add_mul (r +ℤ zl) zc i, add_mul r zl i, mul_sub zl i j, mul_add zc i j, sub_mul zl zc j)

-- ---- the impedance times the current, up to the rests of the conductance and of two currents

impedance : (z g v e h k : ℤ)
    → pos (10 ^ 12) *ℤ (pos (10 ^ 6) *ℤ (v +ℤ e) -ℤ z *ℤ (h +ℤ k))
    ≡ (pos (10 ^ 18) -ℤ g *ℤ z) *ℤ (v +ℤ e) +ℤ z *ℤ ((g *ℤ v -ℤ h *ℤ pos (10 ^ 12)) +ℤ (g *ℤ e -ℤ k *ℤ pos (10 ^ 12)))
impedance z g v e h k =
    let w = v +ℤ e in
    let i = h +ℤ k in
    let rests : (g *ℤ v -ℤ h *ℤ pos (10 ^ 12)) +ℤ (g *ℤ e -ℤ k *ℤ pos (10 ^ 12)) ≡ g *ℤ w -ℤ pos (10 ^ 12) *ℤ i = omega (arith, ints, mul_add g v e) in
    let turned : g *ℤ z *ℤ w ≡ z *ℤ (g *ℤ w) = ap (λ p. p *ℤ w) (*ℤ_comm g z) ∙ mul_assoc z g w in
    let spread = ap (λ p. z *ℤ p) rests ∙ mul_sub z (g *ℤ w) (pos (10 ^ 12) *ℤ i) ∙ ap (λ p. z *ℤ (g *ℤ w) -ℤ p) (swapped z (pos (10 ^ 12)) i) in
    let parted = sub_mul (pos (10 ^ 18)) (g *ℤ z) w ∙ ap (λ p. pos (10 ^ 18) *ℤ w -ℤ p) turned in
    omega (arith, ints, spread, parted)

-- ---- how large the rests are

small : (z g v e h k : ℤ) → 2 * unsigned_abs (pos (10 ^ 18) -ℤ g *ℤ z) ≤ unsigned_abs z → 2 * unsigned_abs (g *ℤ v -ℤ h *ℤ pos (10 ^ 12)) ≤ 10 ^ 12 → 2 * unsigned_abs (g *ℤ e -ℤ k *ℤ pos (10 ^ 12)) ≤ 10 ^ 12
    → 2 * 10 ^ 12 * unsigned_abs (pos (10 ^ 6) *ℤ (v +ℤ e) -ℤ z *ℤ (h +ℤ k)) ≤ unsigned_abs z * (unsigned_abs v + unsigned_abs e) + 2 * 10 ^ 12 * unsigned_abs z
small z g v e h k in_g in_v in_e =
    let x = pos (10 ^ 6) *ℤ (v +ℤ e) -ℤ z *ℤ (h +ℤ k) in
    let c = pos (10 ^ 18) -ℤ g *ℤ z in
    let w = v +ℤ e in
    let both = (g *ℤ v -ℤ h *ℤ pos (10 ^ 12)) +ℤ (g *ℤ e -ℤ k *ℤ pos (10 ^ 12)) in
    let scaled : unsigned_abs (pos (10 ^ 12) *ℤ x) ≡ 10 ^ 12 * unsigned_abs x = unsigned_abs-mul (pos (10 ^ 12)) x in
    let same : unsigned_abs (pos (10 ^ 12) *ℤ x) ≡ unsigned_abs (c *ℤ w +ℤ z *ℤ both) = ap unsigned_abs (impedance z g v e h k) in
    let apart : unsigned_abs (c *ℤ w +ℤ z *ℤ both) ≤ unsigned_abs (c *ℤ w) + unsigned_abs (z *ℤ both) = omega (arith, ints) in
    let first : unsigned_abs (c *ℤ w) ≡ unsigned_abs c * unsigned_abs w = unsigned_abs-mul c w in
    let second : unsigned_abs (z *ℤ both) ≡ unsigned_abs z * unsigned_abs both = unsigned_abs-mul z both in
    let sum : unsigned_abs w ≤ unsigned_abs v + unsigned_abs e = omega (arith, ints) in
    let two : 2 * unsigned_abs both ≤ 2 * 10 ^ 12 = omega (arith, ints, in_v, in_e) in
    let left : 2 * unsigned_abs c * unsigned_abs w ≤ unsigned_abs z * (unsigned_abs v + unsigned_abs e) = mul-le (2 * unsigned_abs c) (unsigned_abs w) (unsigned_abs z) (unsigned_abs v + unsigned_abs e) in_g sum in
    let right : unsigned_abs z * (2 * unsigned_abs both) ≤ unsigned_abs z * (2 * 10 ^ 12) = mul-le (unsigned_abs z) (2 * unsigned_abs both) (unsigned_abs z) (2 * 10 ^ 12) (omega arith) two in
    joined (unsigned_abs x) (unsigned_abs (c *ℤ w)) (unsigned_abs (z *ℤ both)) (unsigned_abs c) (unsigned_abs w) (unsigned_abs z) (unsigned_abs both) (unsigned_abs v + unsigned_abs e)
    (subst (λ n. n ≤ unsigned_abs (c *ℤ w) + unsigned_abs (z *ℤ both)) (sym same ∙ scaled) apart) first second left right
  where
    joined : (x p q c w z s u : ℕ) → 10 ^ 12 * x ≤ p + q → p ≡ c * w → q ≡ z * s → 2 * c * w ≤ z * u → z * (2 * s) ≤ z * (2 * 10 ^ 12) → 2 * 10 ^ 12 * x ≤ z * u + 2 * 10 ^ 12 * z
    joined x p q c w z s u a first second left right = omega arith

-- ---- the law

adds_up : (r zl zc v : ℤ) (c : Companion) (old new : LumpedState) → c.inductor ≡ zl → c.capacitor ≡ zc → c.conductance ≡ near ATTO (r +ℤ zl +ℤ zc) → pos 1 ≤ℤ (r +ℤ zl +ℤ zc) → old.history_voltage ≡ history_voltage_of c old.current old.v_l old.v_c → IsMoved c old v new
    → 2 * 10 ^ 12 * unsigned_abs (pos (10 ^ 6) *ℤ v -ℤ (r *ℤ new.current +ℤ pos (10 ^ 6) *ℤ (new.v_l +ℤ new.v_c)))
    ≤ 3 * 10 ^ 18 + 2 * 10 ^ 12 * unsigned_abs (r +ℤ zl +ℤ zc) + unsigned_abs (r +ℤ zl +ℤ zc) * (unsigned_abs v + unsigned_abs old.history_voltage)
adds_up r zl zc v c old new is_l is_c is_g some kept step =
    let z = r +ℤ zl +ℤ zc in
    let e = old.history_voltage in
    let g = c.conductance in
    let h = near (g *ℤ v) PICO in
    let k = near (g *ℤ e) PICO in
    let i = new.current in
    let j = old.current in
    let a = near (zl *ℤ (i -ℤ j)) MICRO in
    let b = near (zc *ℤ (i +ℤ j)) MICRO in
    let d = near ((zl -ℤ zc) *ℤ j) MICRO in
    let some_z : z ≢ pos 0 = λ none. none_least z some none in
    let in_g : 2 * unsigned_abs (pos (10 ^ 18) -ℤ g *ℤ z) ≤ unsigned_abs z = subst (λ n. 2 * unsigned_abs (pos (10 ^ 18) -ℤ n *ℤ z) ≤ unsigned_abs z) (sym is_g) (near-rest ATTO z some_z) in
    let in_v : 2 * unsigned_abs (g *ℤ v -ℤ h *ℤ pos (10 ^ 12)) ≤ 10 ^ 12 = near-rest (g *ℤ v) PICO (λ none. cc) in
    let in_e : 2 * unsigned_abs (g *ℤ e -ℤ k *ℤ pos (10 ^ 12)) ≤ 10 ^ 12 = near-rest (g *ℤ e) PICO (λ none. cc) in
    let in_a : 2 * unsigned_abs (zl *ℤ (i -ℤ j) -ℤ a *ℤ pos (10 ^ 6)) ≤ 10 ^ 6 = near-rest (zl *ℤ (i -ℤ j)) MICRO (λ none. cc) in
    let in_b : 2 * unsigned_abs (zc *ℤ (i +ℤ j) -ℤ b *ℤ pos (10 ^ 6)) ≤ 10 ^ 6 = near-rest (zc *ℤ (i +ℤ j)) MICRO (λ none. cc) in
    let in_d : 2 * unsigned_abs ((zl -ℤ zc) *ℤ j -ℤ d *ℤ pos (10 ^ 6)) ≤ 10 ^ 6 = near-rest ((zl -ℤ zc) *ℤ j) MICRO (λ none. cc) in
    let vl : new.v_l ≡ a -ℤ old.v_l = step.inductor ∙ ap (λ y. near (y *ℤ (i -ℤ j)) MICRO -ℤ old.v_l) is_l in
    let vc : new.v_c ≡ old.v_c +ℤ b = step.capacitor ∙ ap (λ y. old.v_c +ℤ near (y *ℤ (i +ℤ j)) MICRO) is_c in
    let past : e ≡ (old.v_l -ℤ old.v_c) +ℤ d = kept ∙ ap (λ y. (old.v_l -ℤ old.v_c) +ℤ near ((y -ℤ c.capacitor) *ℤ j) MICRO) is_l ∙ ap (λ y. (old.v_l -ℤ old.v_c) +ℤ near ((zl -ℤ y) *ℤ j) MICRO) is_c in
    let voltages : pos (10 ^ 6) *ℤ v -ℤ (r *ℤ i +ℤ pos (10 ^ 6) *ℤ (new.v_l +ℤ new.v_c)) ≡ pos (10 ^ 6) *ℤ v -ℤ (r *ℤ i +ℤ pos (10 ^ 6) *ℤ ((a -ℤ old.v_l) +ℤ (old.v_c +ℤ b))) =
    ap (λ y. pos (10 ^ 6) *ℤ v -ℤ (r *ℤ i +ℤ pos (10 ^ 6) *ℤ (y +ℤ new.v_c))) vl ∙ ap (λ y. pos (10 ^ 6) *ℤ v -ℤ (r *ℤ i +ℤ pos (10 ^ 6) *ℤ ((a -ℤ old.v_l) +ℤ y))) vc in
    let whole = voltages ∙ drops r zl zc v e i j old.v_l old.v_c a b d past in
    let flows : 2 * 10 ^ 12 * unsigned_abs (pos (10 ^ 6) *ℤ (v +ℤ e) -ℤ z *ℤ i) ≤ unsigned_abs z * (unsigned_abs v + unsigned_abs e) + 2 * 10 ^ 12 * unsigned_abs z =
    subst (λ y. 2 * 10 ^ 12 * unsigned_abs (pos (10 ^ 6) *ℤ (v +ℤ e) -ℤ z *ℤ y) ≤ unsigned_abs z * (unsigned_abs v + unsigned_abs e) + 2 * 10 ^ 12 * unsigned_abs z) (sym step.current) (small z g v e h k in_g in_v in_e) in
    subst (λ y. 2 * 10 ^ 12 * unsigned_abs y ≤ 3 * 10 ^ 18 + 2 * 10 ^ 12 * unsigned_abs z + unsigned_abs z * (unsigned_abs v + unsigned_abs e)) (sym whole)
    (all (pos (10 ^ 6) *ℤ (v +ℤ e) -ℤ z *ℤ i) (zl *ℤ (i -ℤ j) -ℤ a *ℤ pos (10 ^ 6)) (zc *ℤ (i +ℤ j) -ℤ b *ℤ pos (10 ^ 6)) ((zl -ℤ zc) *ℤ j -ℤ d *ℤ pos (10 ^ 6)) (unsigned_abs z * (unsigned_abs v + unsigned_abs e)) (unsigned_abs z) flows in_a in_b in_d)
  where
    none_least : (z : ℤ) → pos 1 ≤ℤ z → z ≡ pos 0 → ⊥
    none_least z l e = omega (arith, ints, l, e)

    all : (x p q s : ℤ) (m n : ℕ) → 2 * 10 ^ 12 * unsigned_abs x ≤ m + 2 * 10 ^ 12 * n → 2 * unsigned_abs p ≤ 10 ^ 6 → 2 * unsigned_abs q ≤ 10 ^ 6 → 2 * unsigned_abs s ≤ 10 ^ 6
        → 2 * 10 ^ 12 * unsigned_abs (x +ℤ (p +ℤ q +ℤ s)) ≤ 3 * 10 ^ 18 + 2 * 10 ^ 12 * n + m
    all x p q s m n h i j k =
        let apart : unsigned_abs (x +ℤ (p +ℤ q +ℤ s)) ≤ unsigned_abs x + (unsigned_abs p + unsigned_abs q + unsigned_abs s) = omega (arith, ints) in
        omega (arith, apart, h, i, j, k)

pub step_adds_up : (dt v : ℤ) (x : Lumped) (old new : LumpedState) → pos 1 ≤ℤ series_impedance dt x.r x.l x.c → HasItsHistoryVoltage (companion_of dt x) old → next_state (companion_of dt x) old v ≡ Some new
    → AddsUpDrops dt x old v new × HasItsHistoryVoltage (companion_of dt x) new
step_adds_up dt v x old new some kept e =
    let c = companion_of dt x in
    let step = moved c old v new e in
    (adds_up x.r (inductor_impedance dt x.l) (capacitor_impedance dt x.c) v c old new refl refl refl some kept step, step.history)

pub rest_has_its_history : (c : Companion) → HasItsHistoryVoltage c no_lumped
rest_has_its_history c = sym (ap (λ y. (pos 0 -ℤ pos 0) +ℤ y) (near-times_zero (c.inductor -ℤ c.capacitor) MICRO))

pub case_adds_up : (case : Parts) → IsCase case → (b : ℕ) (x : Lumped) (past : List LumpedState) (v : ℤ) (new : LumpedState) → slice_get case.branches b ≡ Some (OfLumped x)
    → HasItsHistoryVoltage (companion_of case.run.dt x) (newest past) → next_of case x past v ≡ Some new → AddsUpDrops case.run.dt x (newest past) v new × HasItsHistoryVoltage (companion_of case.run.dt x) new
case_adds_up case fits b x past v new is kept e =
    let here = branch_fits case b (OfLumped x) fits.draft.network.branches (slice_get_within case.branches b (OfLumped x) is) is in
    step_adds_up case.run.dt v x (newest past) new (above (series_impedance case.run.dt x.r x.l x.c) here.numbers.impedance.least) kept e
  where
    above : (z : ℤ) → pos 10 ≤ℤ z → pos 1 ≤ℤ z
    above z l = omega (arith, ints, l)
