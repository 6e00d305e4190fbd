-- An inductance that is left alone.
use Rattle.std.proofs.Common.{◌≡◌, ◌≢◌, ◌∙◌, ◌+◌, ◌*◌, ◌^◌, ◌≤◌, ℕ, suc, ℤ, pos, ◌+ℤ◌, ◌-ℤ◌, ◌*ℤ◌, ◌≤ℤ◌, unsigned_abs, List, [], ◌∷◌, ◌++◌, length, ◌<◌, ap, subst, inl, inr, arith}
use Rattle.std.proofs.lemmas.Int.{ints, unsigned_abs-mul}
use Rattle.std.proofs.lemmas.Nat.{mul-le}
use Rattle.std.proofs.lemmas.Bool.{cases_lt}
use Rattle.emtp_case.specs.Branch.{capacitor_impedance, inductor_impedance}
use Rattle.emtp_fix.proofs.Nearest.{near-rest, some_magnitude}
use Rattle.emtp_laws.proofs.Products.{mul_assoc, sub_mul}
use Rattle.emtp_laws_of_energy.proofs.Courses.{no_impedance}
use Rattle.emtp_case.specs.declared.branch.Lumped.{Lumped}
use Rattle.emtp_laws_of_energy.specs.Course.{AreLeftAlone, AreSteps, Grows, IsLeftAlone, KeepsAllButAThousandth, KeepsItsCurrent, Moment, RisesByItsVoltage, latest, rise_of_current, voltages}
use Rattle.emtp_laws_of_energy.specs.Series.{conductance_of, conducted_fictitious, conducted_resistance, impedance_of, one_if_some}
use Rattle.emtp_laws_of_energy.proofs.Courses.{alone_rises}

-- one step without a voltage
step_keeps : (dt : ℤ) (x : Lumped) (limit : ℕ) (m n : Moment) → RisesByItsVoltage dt x m n → IsLeftAlone limit m → IsLeftAlone limit n
    → 2 * 10 ^ 18 * unsigned_abs (rise_of_current m n) ≤ 4 * (unsigned_abs (conducted_resistance dt x) * limit) + (2 * 10 ^ 18 + 3 * 10 ^ 6 * unsigned_abs (conductance_of dt x))
step_keeps dt x limit m n rise at_m at_n =
    let g = conductance_of dt x in
    let gap = conducted_resistance dt x in
    let none : g *ℤ voltages m n ≡ pos 0 = ap (λ v. g *ℤ (v +ℤ n.voltage)) at_m.0 ∙ ap (λ v. g *ℤ (pos 0 +ℤ v)) at_n.0 ∙ nothing g in
    let first : one_if_some m.voltage ≡ 0 = ap one_if_some at_m.0 in
    let second : one_if_some n.voltage ≡ 0 = ap one_if_some at_n.0 in
    let part : unsigned_abs (gap *ℤ n.state.current) ≤ unsigned_abs gap * limit = omega (arith, unsigned_abs-mul gap n.state.current, mul-le (unsigned_abs gap) (unsigned_abs n.state.current) (unsigned_abs gap) limit (omega arith) at_n.1) in
    joined (rise_of_current m n) (gap *ℤ n.state.current) (g *ℤ voltages m n) (unsigned_abs gap * limit) (unsigned_abs g) (one_if_some m.voltage) (one_if_some n.voltage) none first second part rise
  where
    nothing : (g : ℤ) → g *ℤ (pos 0 +ℤ pos 0) ≡ pos 0
    nothing g = omega (arith, ints)

    joined : (d p v : ℤ) (q g a b : ℕ) → v ≡ pos 0 → a ≡ 0 → b ≡ 0 → unsigned_abs p ≤ q
        → 2 * unsigned_abs ((pos (10 ^ 18) *ℤ d +ℤ pos 2 *ℤ p) -ℤ pos (10 ^ 6) *ℤ v) ≤ 10 ^ 18 * (2 + a + b) + 3 * 10 ^ 6 * g
        → 2 * 10 ^ 18 * unsigned_abs d ≤ 4 * q + (2 * 10 ^ 18 + 3 * 10 ^ 6 * g)
    joined d p v q g a b e f h k l = omega (arith, ints, e, f, h, k, l)

-- the newest of some moments before others is left alone
newest_alone : (limit : ℕ) (alone past : List Moment) (m : Moment) → AreLeftAlone limit (alone ++ (m ∷ [])) → IsLeftAlone limit (latest (alone ++ (m ∷ past)))
newest_alone limit [] past m are = are.0
newest_alone limit (a ∷ alone) past m are = are.0

pub keeps : (dt : ℤ) (x : Lumped) (limit : ℕ) (alone past : List Moment) (m : Moment) → x.c ≡ pos 0 → AreSteps dt x (alone ++ (m ∷ past)) → AreLeftAlone limit (alone ++ (m ∷ []))
    → KeepsItsCurrent dt x limit (length alone) (latest (alone ++ (m ∷ past))) m
keeps dt x limit [] past m no_c steps are = same m.state.current (4 * (unsigned_abs (conducted_resistance dt x) * limit) + (2 * 10 ^ 18 + 3 * 10 ^ 6 * unsigned_abs (conductance_of dt x)))
  where
    same : (i : ℤ) (n : ℕ) → 2 * 10 ^ 18 * unsigned_abs (i -ℤ i) ≤ 0 * n
    same i n = omega (arith, ints)
keeps dt x limit (a ∷ alone) past m no_c steps are =
    let b = latest (alone ++ (m ∷ past)) in
    added a.state.current b.state.current m.state.current (length alone) (4 * (unsigned_abs (conducted_resistance dt x) * limit) + (2 * 10 ^ 18 + 3 * 10 ^ 6 * unsigned_abs (conductance_of dt x)))
    (step_keeps dt x limit a b (alone_rises dt x a (alone ++ (m ∷ past)) no_c steps) are.0 (newest_alone limit alone past m are.1))
    (keeps dt x limit alone past m no_c steps.1 are.1)
  where
    added : (i j k : ℤ) (n c : ℕ) → 2 * 10 ^ 18 * unsigned_abs (i -ℤ j) ≤ c → 2 * 10 ^ 18 * unsigned_abs (j -ℤ k) ≤ n * c → 2 * 10 ^ 18 * unsigned_abs (i -ℤ k) ≤ suc n * c
    added i j k n c e f =
        let apart : unsigned_abs (i -ℤ k) ≤ unsigned_abs (i -ℤ j) + unsigned_abs (j -ℤ k) = omega (arith, ints) in
        omega (arith, apart, e, f)

-- ---- growth

pub grows : (dt : ℤ) (x : Lumped) (m : Moment) (past : List Moment) → x.c ≡ pos 0 → conducted_resistance dt x ≤ℤ pos 0 → AreSteps dt x (m ∷ past) → m.voltage ≡ pos 0 → (latest past).voltage ≡ pos 0 → Grows dt x m (latest past)
grows dt x m past no_c below steps still before =
    let n = latest past in
    let g = conductance_of dt x in
    let gap = conducted_resistance dt x in
    let none : g *ℤ voltages m n ≡ pos 0 = ap (λ v. g *ℤ (v +ℤ n.voltage)) still ∙ ap (λ v. g *ℤ (pos 0 +ℤ v)) before ∙ nothing g in
    let first : one_if_some m.voltage ≡ 0 = ap one_if_some still in
    let second : one_if_some n.voltage ≡ 0 = ap one_if_some before in
    joined m.state.current n.state.current (gap *ℤ n.state.current) ((pos (10 ^ 18) -ℤ pos 2 *ℤ gap) *ℤ n.state.current) (g *ℤ voltages m n) (unsigned_abs g) (one_if_some m.voltage) (one_if_some n.voltage)
    ((10 ^ 18 + 2 * unsigned_abs gap) * unsigned_abs n.state.current) none first second (spread gap n.state.current)
    (unsigned_abs-mul (pos (10 ^ 18) -ℤ pos 2 *ℤ gap) n.state.current ∙ ap (λ (y : ℕ). y * unsigned_abs n.state.current) (size gap below))
    (alone_rises dt x m past no_c steps)
  where
    nothing : (g : ℤ) → g *ℤ (pos 0 +ℤ pos 0) ≡ pos 0
    nothing g = omega (arith, ints)

    spread : (p i : ℤ) → (pos (10 ^ 18) -ℤ pos 2 *ℤ p) *ℤ i ≡ pos (10 ^ 18) *ℤ i -ℤ pos 2 *ℤ (p *ℤ i)
    spread p i = sub_mul (pos (10 ^ 18)) (pos 2 *ℤ p) i ∙ ap (λ y. pos (10 ^ 18) *ℤ i -ℤ y) (mul_assoc (pos 2) p i)

    size : (p : ℤ) → p ≤ℤ pos 0 → unsigned_abs (pos (10 ^ 18) -ℤ pos 2 *ℤ p) ≡ 10 ^ 18 + 2 * unsigned_abs p
    size p h = omega (arith, ints, h)

    joined : (i j p q v : ℤ) (g a b s : ℕ) → v ≡ pos 0 → a ≡ 0 → b ≡ 0 → q ≡ pos (10 ^ 18) *ℤ j -ℤ pos 2 *ℤ p → unsigned_abs q ≡ s
        → 2 * unsigned_abs ((pos (10 ^ 18) *ℤ (i -ℤ j) +ℤ pos 2 *ℤ p) -ℤ pos (10 ^ 6) *ℤ v) ≤ 10 ^ 18 * (2 + a + b) + 3 * 10 ^ 6 * g
        → 2 * s ≤ 2 * 10 ^ 18 * unsigned_abs i + (2 * 10 ^ 18 + 3 * 10 ^ 6 * g)
    joined i j p q v g a b s e f h k l m = omega (arith, ints, e, f, h, k, l, m)

-- ---- a duration over which it doesn't matter

cancelled : (a b d : ℕ) → 0 < d → d * a ≤ d * b → a ≤ b
cancelled a b d some h = elim (cases_lt b a) [
  | inl more ↦
      let step : d * (b + 1) ≤ d * a = mul-le d (b + 1) d a (omega arith) (omega (arith, more)) in
      absurd (omega (arith, h, step, some))
  | inr within ↦ within
]

-- p is g |r|, z the impedance and q what it lacks of 2 L / dt
few : (p n dt t l g z q gz : ℕ) → 0 < dt → p * t ≤ 10 ^ 6 * (l * g) → n * dt ≤ t → 2 * 10 ^ 9 * l ≤ z * dt + q → 2 * q ≤ dt → gz ≡ g * z → gz ≤ 10 ^ 18 + p → 4000 * (n * p) ≤ 2 * 10 ^ 18 + 2 * p + g
few p n dt t l g z q gz some slow short near rest is product =
    let time : p * (n * dt) ≤ p * t = mul-le p (n * dt) p t (omega arith) short in
    let whole : 4 * 10 ^ 9 * l ≤ (2 * z + 1) * dt = omega (arith, near, rest) in
    let times_g : g * (4 * 10 ^ 9 * l) ≤ g * ((2 * z + 1) * dt) = mul-le g (4 * 10 ^ 9 * l) g ((2 * z + 1) * dt) (omega arith) whole in
    let both : dt * (4000 * (n * p)) ≤ dt * (2 * (g * z) + g) = omega (arith, time, slow, times_g) in
    let most = cancelled (4000 * (n * p)) (2 * (g * z) + g) dt some both in
    omega (arith, most, is, product)

pub keeps_nearly : (dt : ℤ) (x : Lumped) (limit t : ℕ) (alone past : List Moment) (m : Moment) → dt ≢ pos 0 → x.r ≡ pos 0 → x.c ≡ pos 0 → unsigned_abs (conducted_fictitious dt x) * t ≤ 10 ^ 6 * (unsigned_abs x.l * unsigned_abs (conductance_of dt x)) → length alone * unsigned_abs dt ≤ t
    → AreSteps dt x (alone ++ (m ∷ past)) → AreLeftAlone limit (alone ++ (m ∷ [])) → KeepsAllButAThousandth dt x limit (length alone) (latest (alone ++ (m ∷ past))) m
keeps_nearly dt x limit t alone past m some no_r no_c slow short steps are =
    let g = conductance_of dt x in
    let gap = conducted_fictitious dt x in
    let zl = inductor_impedance dt x.l in
    let z = impedance_of dt x in
    let whole : z ≡ zl = only x.r zl (capacitor_impedance dt x.c) no_r (no_impedance dt x.c no_c) in
    let rest = near-rest (pos (2 * 10 ^ 9) *ℤ x.l) dt some in
    let n = length alone in
    let bare : g *ℤ x.r +ℤ gap ≡ gap = ap (λ y. g *ℤ y +ℤ gap) no_r ∙ no_part g gap in
    let most = few (unsigned_abs gap) n (unsigned_abs dt) t (unsigned_abs x.l) (unsigned_abs g) (unsigned_abs zl) (unsigned_abs (pos (2 * 10 ^ 9) *ℤ x.l -ℤ zl *ℤ dt)) (unsigned_abs (g *ℤ zl))
    (some_magnitude dt some) slow short
    (parts x.l (zl *ℤ dt) (unsigned_abs zl * unsigned_abs dt) (unsigned_abs-mul zl dt)) rest (unsigned_abs-mul g zl)
    (subst (λ y. unsigned_abs (g *ℤ y) ≤ 10 ^ 18 + unsigned_abs gap) whole (lacks (g *ℤ z))) in
    joined (unsigned_abs (rise_of_current (latest (alone ++ (m ∷ past))) m)) n (unsigned_abs gap) limit (unsigned_abs g) most (subst (λ k. 2 * 10 ^ 18 * unsigned_abs (rise_of_current (latest (alone ++ (m ∷ past))) m) ≤ n * (4 * (unsigned_abs k * limit) + (2 * 10 ^ 18 + 3 * 10 ^ 6 * unsigned_abs g))) bare (keeps dt x limit alone past m no_c steps are))
  where
    only : (r l c : ℤ) → r ≡ pos 0 → c ≡ pos 0 → r +ℤ l +ℤ c ≡ l
    only r l c e f = omega (arith, ints, e, f)

    no_part : (g k : ℤ) → g *ℤ pos 0 +ℤ k ≡ k
    no_part g k = omega (arith, ints)

    lacks : (n : ℤ) → unsigned_abs n ≤ 10 ^ 18 + unsigned_abs (pos (10 ^ 18) -ℤ n)
    lacks n = omega (arith, ints)

    parts : (l p : ℤ) (n : ℕ) → unsigned_abs p ≡ n → 2 * 10 ^ 9 * unsigned_abs l ≤ n + unsigned_abs (pos (2 * 10 ^ 9) *ℤ l -ℤ p)
    parts l p n e = omega (arith, ints, e)

    joined : (d n p limit g : ℕ) → 4000 * (n * p) ≤ 2 * 10 ^ 18 + 2 * p + g → 2 * 10 ^ 18 * d ≤ n * (4 * (p * limit) + (2 * 10 ^ 18 + 3 * 10 ^ 6 * g))
        → 2 * 10 ^ 21 * d ≤ (2 * 10 ^ 18 + 2 * p + g) * limit + 1000 * (n * (2 * 10 ^ 18 + 3 * 10 ^ 6 * g))
    joined d n p limit g most h =
        let times : 4000 * (n * p) * limit ≤ (2 * 10 ^ 18 + 2 * p + g) * limit = mul-le (4000 * (n * p)) limit (2 * 10 ^ 18 + 2 * p + g) limit most (omega arith) in
        omega (arith, times, h)
