-- A series branch from one record to the next: its voltages add up over both.
use Rattle.std.proofs.Common.{◌≡◌, ◌≢◌, ◌∙◌, ◌+◌, ◌*◌, ◌^◌, ◌≤◌, ℕ, ℤ, pos, ◌+ℤ◌, ◌-ℤ◌, ◌*ℤ◌, unsigned_abs, List, [], ◌∷◌, refl, ap, sym, subst, arith}
use Rattle.std.specs.Prelude.{if◌then◌else◌}
use Rattle.std.proofs.lemmas.Bool.Decides.{Decides-int_eq}
use Rattle.std.proofs.lemmas.Int.{ints}
use Rattle.emtp_case.proofs.Impedances.{capacitor-none}
use Rattle.emtp_case.specs.Branch.{capacitor_impedance, inductor_impedance}
use Rattle.emtp_case.specs.held.RunData.{IsTimeStep}
use Rattle.emtp_case.specs.StepRecord.{no_lumped}
use Rattle.emtp_case.specs.declared.branch.Lumped.{Lumped}
use Rattle.emtp_fix.proofs.Quotients.{near-times_zero, near-zero_times}
use Rattle.emtp_fix.proofs.Wide.{mul_add}
use Rattle.emtp_fix.specs.Rounding.{near}
use Rattle.emtp_fix.specs.declared.limit.TheConstants.{MICRO, PICO}
use Rattle.emtp_lumped.specs.Companion.{companion_of}
use Rattle.emtp_lumped.specs.declared.companion.Companion.{Companion}
use Rattle.emtp_laws_of_energy.specs.Series.{HasFictitiousDrop, conductance_of, conducted_fictitious, one_if_some}
use Rattle.emtp_laws.specs.Branches.{HasItsHistoryVoltage, excess_voltage}
use Rattle.emtp_laws_of_energy.specs.Course.{AreSteps, Moment, RisesByItsVoltage, capacitor_voltages, currents, excess_rise, latest, rise_of_current, voltages}
use Rattle.emtp_laws.proofs.Products.{add_mul, mul_assoc, mul_sub, sub_mul, swapped}
use Rattle.emtp_laws.proofs.SeriesSteps.{IsMoved, moved}
use Rattle.emtp_laws_of_energy.proofs.FictitiousDrops.{Drops, record_drops, rest_has_its_history}

-- ---- each record of a course

-- record 0 is a step too, from rest at no voltage
rest_moved : (c : Companion) → IsMoved c no_lumped (pos 0) no_lumped
rest_moved c = record {
  current = none (near (c.conductance *ℤ pos 0) PICO) (near (c.conductance *ℤ pos 0) PICO) (near-times_zero c.conductance PICO) (near-times_zero c.conductance PICO);
  inductor = less (near (c.inductor *ℤ (pos 0 -ℤ pos 0)) MICRO) (near-times_zero c.inductor MICRO);
  capacitor = none (pos 0) (near (c.capacitor *ℤ (pos 0 +ℤ pos 0)) MICRO) refl (near-times_zero c.capacitor MICRO);
  history = rest_has_its_history c;
}
  where
    none : (a b : ℤ) → a ≡ pos 0 → b ≡ pos 0 → pos 0 ≡ a +ℤ b
    none a b e f = omega (arith, ints, e, f)

    less : (a : ℤ) → a ≡ pos 0 → pos 0 ≡ a -ℤ pos 0
    less a e = omega (arith, ints, e)

pub keeps_its_history : (dt : ℤ) (x : Lumped) (past : List Moment) → AreSteps dt x past → HasItsHistoryVoltage (companion_of dt x) (latest past).state
keeps_its_history dt x [] steps = rest_has_its_history (companion_of dt x)
keeps_its_history dt x (m ∷ past) steps = (moved (companion_of dt x) (latest past).state m.voltage m.state steps.0).history

pub newest_drops : (dt : ℤ) (x : Lumped) (m : Moment) (past : List Moment) → AreSteps dt x (m ∷ past) → Drops dt x m.voltage (latest past).state m.state
newest_drops dt x m past steps =
    record_drops dt m.voltage x (latest past).state m.state (keeps_its_history dt x past steps.1) (moved (companion_of dt x) (latest past).state m.voltage m.state steps.0)

pub latest_drops : (dt : ℤ) (x : Lumped) (past : List Moment) → AreSteps dt x past → HasFictitiousDrop dt x (latest past).voltage (latest past).state
latest_drops dt x [] steps = (record_drops dt (pos 0) x no_lumped no_lumped (rest_has_its_history (companion_of dt x)) (rest_moved (companion_of dt x))).whole
latest_drops dt x (m ∷ past) steps = (newest_drops dt x m past steps).whole

-- ---- both records of a step

-- what the mean of the voltages exceeds, in 10^-18 nA
abbrev pub excess_of_both : ℤ → Lumped → Moment → Moment → ℤ
excess_of_both dt x m n =
    conductance_of dt x *ℤ ((pos (10 ^ 6) *ℤ voltages m n -ℤ pos (10 ^ 6) *ℤ capacitor_voltages m n) -ℤ (x.r *ℤ currents m n +ℤ inductor_impedance dt x.l *ℤ rise_of_current m n))
    -ℤ conducted_fictitious dt x *ℤ currents m n

abbrev pub both_round : ℤ → Lumped → Moment → Moment → ℕ
both_round dt x m n = 10 ^ 18 * (2 + one_if_some m.voltage + one_if_some n.voltage) + 10 ^ 6 * ((3 + 2 * one_if_some x.c) * unsigned_abs (conductance_of dt x))

pub adds_up_both : (dt : ℤ) (x : Lumped) (m : Moment) (past : List Moment) → AreSteps dt x (m ∷ past) → 2 * unsigned_abs (excess_of_both dt x m (latest past)) ≤ both_round dt x m (latest past)
adds_up_both dt x m past steps =
    let n = latest past in
    let g = conductance_of dt x in
    let gap = conducted_fictitious dt x in
    let zl = inductor_impedance dt x.l in
    let s = m.state in
    let t = n.state in
    let new = (pos (10 ^ 6) *ℤ m.voltage -ℤ pos (10 ^ 6) *ℤ (s.v_c -ℤ t.v_l)) -ℤ (x.r *ℤ s.current +ℤ zl *ℤ (s.current -ℤ t.current)) in
    let old = excess_voltage x n.voltage t in
    let whole = (pos (10 ^ 6) *ℤ voltages m n -ℤ pos (10 ^ 6) *ℤ capacitor_voltages m n) -ℤ (x.r *ℤ currents m n +ℤ zl *ℤ rise_of_current m n) in
    let sum : whole ≡ new +ℤ old = sums m.voltage n.voltage s.v_c t.v_c t.v_l (x.r *ℤ s.current) (x.r *ℤ t.current) (x.r *ℤ currents m n) (zl *ℤ rise_of_current m n) (mul_add x.r s.current t.current) in
    added (g *ℤ whole) (g *ℤ new) (g *ℤ old) (gap *ℤ currents m n) (gap *ℤ s.current) (gap *ℤ t.current) (one_if_some m.voltage) (one_if_some n.voltage) (one_if_some x.c) (unsigned_abs g)
    (ap (λ y. g *ℤ y) sum ∙ mul_add g new old) (mul_add gap s.current t.current) (newest_drops dt x m past steps).part (latest_drops dt x past steps.1)
  where
    sums : (v w c d l rs rt r z : ℤ) → r ≡ rs +ℤ rt
        → (pos (10 ^ 6) *ℤ (v +ℤ w) -ℤ pos (10 ^ 6) *ℤ (c +ℤ d)) -ℤ (r +ℤ z) ≡ ((pos (10 ^ 6) *ℤ v -ℤ pos (10 ^ 6) *ℤ (c -ℤ l)) -ℤ (rs +ℤ z)) +ℤ (pos (10 ^ 6) *ℤ w -ℤ (rt +ℤ pos (10 ^ 6) *ℤ (l +ℤ d)))
    sums v w c d l rs rt r z e = omega (arith, ints, e)

    added : (all a b gap p q : ℤ) (v w c g : ℕ) → all ≡ a +ℤ b → gap ≡ p +ℤ q → 2 * unsigned_abs (a -ℤ p) ≤ 10 ^ 18 * (1 + v) + 10 ^ 6 * ((1 + c) * g) → 2 * unsigned_abs (b -ℤ q) ≤ 10 ^ 18 * (1 + w) + 10 ^ 6 * ((2 + c) * g)
        → 2 * unsigned_abs (all -ℤ gap) ≤ 10 ^ 18 * (2 + v + w) + 10 ^ 6 * ((3 + 2 * c) * g)
    added all a b gap p q v w c g e f h k =
        let apart : unsigned_abs (all -ℤ gap) ≤ unsigned_abs (a -ℤ p) + unsigned_abs (b -ℤ q) = omega (arith, ints, e, f) in
        omega (arith, apart, h, k)

-- ---- no capacitance

pub no_impedance : (dt c : ℤ) → c ≡ pos 0 → capacitor_impedance dt c ≡ pos 0
no_impedance dt c none = ap (capacitor_impedance dt) none ∙ capacitor-none dt

-- no time step is 0
pub some_step : (dt : ℤ) → IsTimeStep dt → dt ≢ pos 0
some_step dt h e = omega (arith, ints, h.least, e)

-- has no voltage
pub no_capacitor_voltage : (dt : ℤ) (x : Lumped) (past : List Moment) → x.c ≡ pos 0 → AreSteps dt x past → (latest past).state.v_c ≡ pos 0
no_capacitor_voltage dt x [] none steps = refl
no_capacitor_voltage dt x (m ∷ past) none steps =
    let s = m.state.current +ℤ (latest past).state.current in
    (moved (companion_of dt x) (latest past).state m.voltage m.state steps.0).capacitor
    ∙ ap (λ z. (latest past).state.v_c +ℤ near (z *ℤ s) MICRO) (no_impedance dt x.c none)
    ∙ both (latest past).state.v_c (near (pos 0 *ℤ s) MICRO) (no_capacitor_voltage dt x past none steps.1) (near-zero_times s MICRO)
  where
    both : (a b : ℤ) → a ≡ pos 0 → b ≡ pos 0 → a +ℤ b ≡ pos 0
    both a b e f = omega (arith, ints, e, f)

pub none_is_0 : (c : ℤ) → c ≡ pos 0 → one_if_some c ≡ 0
none_is_0 c none = ap (λ b. if b then 0 else 1) ((Decides-int_eq c (pos 0)).1 none)

-- ---- an inductance alone

pub alone_rises : (dt : ℤ) (x : Lumped) (m : Moment) (past : List Moment) → x.c ≡ pos 0 → AreSteps dt x (m ∷ past) → RisesByItsVoltage dt x m (latest past)
alone_rises dt x m past no_c steps =
    let n = latest past in
    let g = conductance_of dt x in
    let gap = conducted_fictitious dt x in
    let r = x.r in
    let zl = inductor_impedance dt x.l in
    let zc = capacitor_impedance dt x.c in
    let z = r +ℤ zl +ℤ zc in
    let p = m.state.current in
    let q = n.state.current in
    let d = rise_of_current m n in
    let i = currents m n in
    let v = voltages m n in
    let c = capacitor_voltages m n in
    let empty : c ≡ pos 0 = both m.state.v_c n.state.v_c (no_capacitor_voltage dt x (m ∷ past) no_c steps) (no_capacitor_voltage dt x past no_c steps.1) in
    let inside : (pos (10 ^ 6) *ℤ v -ℤ pos (10 ^ 6) *ℤ c) -ℤ (r *ℤ i +ℤ zl *ℤ d) ≡ pos (10 ^ 6) *ℤ v -ℤ (r *ℤ i +ℤ zl *ℤ d) = bare v c (r *ℤ i +ℤ zl *ℤ d) empty in
    let driven : g *ℤ ((pos (10 ^ 6) *ℤ v -ℤ pos (10 ^ 6) *ℤ c) -ℤ (r *ℤ i +ℤ zl *ℤ d)) ≡ pos (10 ^ 6) *ℤ (g *ℤ v) -ℤ (g *ℤ (r *ℤ i) +ℤ g *ℤ (zl *ℤ d)) =
    ap (λ y. g *ℤ y) inside ∙ mul_sub g (pos (10 ^ 6) *ℤ v) (r *ℤ i +ℤ zl *ℤ d) ∙ ap (λ y. y -ℤ g *ℤ (r *ℤ i +ℤ zl *ℤ d)) (swapped g (pos (10 ^ 6)) v) ∙ ap (λ y. pos (10 ^ 6) *ℤ (g *ℤ v) -ℤ y) (mul_add g (r *ℤ i) (zl *ℤ d)) in
    let whole : z ≡ r +ℤ zl = only r zl zc (no_impedance dt x.c no_c) in
    let rest : gap *ℤ d ≡ pos (10 ^ 18) *ℤ d -ℤ (g *ℤ (r *ℤ d) +ℤ g *ℤ (zl *ℤ d)) =
    sub_mul (pos (10 ^ 18)) (g *ℤ z) d ∙ ap (λ y. pos (10 ^ 18) *ℤ d -ℤ y) (mul_assoc g z d ∙ ap (λ y. g *ℤ (y *ℤ d)) whole ∙ ap (λ y. g *ℤ y) (add_mul r zl d) ∙ mul_add g (r *ℤ d) (zl *ℤ d)) in
    let kept : (g *ℤ r +ℤ gap) *ℤ q ≡ g *ℤ (r *ℤ q) +ℤ gap *ℤ q = add_mul (g *ℤ r) gap q ∙ ap (λ y. y +ℤ gap *ℤ q) (mul_assoc g r q) in
    let same : unsigned_abs (excess_rise dt x m n) ≡ unsigned_abs (excess_of_both dt x m n) =
    turned (g *ℤ ((pos (10 ^ 6) *ℤ v -ℤ pos (10 ^ 6) *ℤ c) -ℤ (r *ℤ i +ℤ zl *ℤ d))) (g *ℤ v) (g *ℤ (zl *ℤ d)) (g *ℤ (r *ℤ i)) (g *ℤ (r *ℤ d)) (g *ℤ (r *ℤ p)) (g *ℤ (r *ℤ q)) (gap *ℤ d) (gap *ℤ i) (gap *ℤ p) (gap *ℤ q) ((g *ℤ r +ℤ gap) *ℤ q) d
    driven rest (ap (λ y. g *ℤ y) (mul_add r p q) ∙ mul_add g (r *ℤ p) (r *ℤ q)) (ap (λ y. g *ℤ y) (mul_sub r p q) ∙ mul_sub g (r *ℤ p) (r *ℤ q)) (mul_sub gap p q) (mul_add gap p q) kept in
    rounded (unsigned_abs (excess_rise dt x m n)) (unsigned_abs (excess_of_both dt x m n)) (one_if_some m.voltage) (one_if_some n.voltage) (one_if_some x.c) (unsigned_abs g) same (none_is_0 x.c no_c) (adds_up_both dt x m past steps)
  where
    both : (a b : ℤ) → a ≡ pos 0 → b ≡ pos 0 → a +ℤ b ≡ pos 0
    both a b e f = omega (arith, ints, e, f)

    bare : (v c z : ℤ) → c ≡ pos 0 → (pos (10 ^ 6) *ℤ v -ℤ pos (10 ^ 6) *ℤ c) -ℤ z ≡ pos (10 ^ 6) *ℤ v -ℤ z
    bare v c z e = omega (arith, ints, e)

    only : (r l c : ℤ) → c ≡ pos 0 → r +ℤ l +ℤ c ≡ r +ℤ l
    only r l c f = omega (arith, ints, f)

    turned : (all gv gz ri rd rp rq gd gi p q k d : ℤ) → all ≡ pos (10 ^ 6) *ℤ gv -ℤ (ri +ℤ gz) → gd ≡ pos (10 ^ 18) *ℤ d -ℤ (rd +ℤ gz) → ri ≡ rp +ℤ rq → rd ≡ rp -ℤ rq → gd ≡ p -ℤ q → gi ≡ p +ℤ q → k ≡ rq +ℤ q
        → unsigned_abs ((pos (10 ^ 18) *ℤ d +ℤ pos 2 *ℤ k) -ℤ pos (10 ^ 6) *ℤ gv) ≡ unsigned_abs (all -ℤ gi)
    turned all gv gz ri rd rp rq gd gi p q k d e f h j l o s = omega (arith, ints, e, f, h, j, l, o, s)

    free : (b v w g : ℕ) → 2 * b ≤ 10 ^ 18 * (2 + v + w) + 10 ^ 6 * ((3 + 2 * 0) * g) → 2 * b ≤ 10 ^ 18 * (2 + v + w) + 3 * 10 ^ 6 * g
    free b v w g h = omega (arith, h)

    rounded : (a b v w c g : ℕ) → a ≡ b → c ≡ 0 → 2 * b ≤ 10 ^ 18 * (2 + v + w) + 10 ^ 6 * ((3 + 2 * c) * g) → 2 * a ≤ 10 ^ 18 * (2 + v + w) + 3 * 10 ^ 6 * g
    rounded a b v w c g e f h = subst (λ (y : ℕ). 2 * y ≤ 10 ^ 18 * (2 + v + w) + 3 * 10 ^ 6 * g) (sym e) (free b v w g (subst (λ (y : ℕ). 2 * b ≤ 10 ^ 18 * (2 + v + w) + 10 ^ 6 * ((3 + 2 * y) * g)) f h))
