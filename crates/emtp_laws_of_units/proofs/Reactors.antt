-- A step of a pseudo-nonlinear reactor: its flux by the trapezoidal rule, and its current on its segment, within the rounding.
use Rattle.std.proofs.Common.{◌≡◌, ◌≢◌, ◌∙◌, ◌+◌, ◌*◌, ◌^◌, ◌≤◌, ◌<◌, ap, sym, subst, refl, ℕ, suc, ℤ, pos, negsuc, ◌<ℤ◌, ◌+ℤ◌, ◌-ℤ◌, ◌*ℤ◌, unsigned_abs, true, List, length, Some, arith}
use Rattle.std.proofs.Math.IntN.{*ℤ_comm}
use Rattle.std.proofs.lemmas.Int.{ints, unsigned_abs-mul}
use Rattle.std.proofs.lemmas.Nat.{mul-le}
use Rattle.std.proofs.lemmas.Option.{same_Some}
use Rattle.emtp_case.specs.Branch.{points_of}
use Rattle.emtp_case.specs.held.Branch.{IsCharacteristic}
use Rattle.emtp_case.specs.held.Case.{IsCase}
use Rattle.emtp_case.specs.declared.branch.Point.{Point}
use Rattle.emtp_case.specs.declared.branch.Pseudo.{Pseudo}
use Rattle.emtp_case.specs.declared.branch.PseudoState.{PseudoState}
use Rattle.emtp_case.specs.declared.case.Parts.{Parts}
use Rattle.emtp_fix.proofs.Nearest.{near-rest}
use Rattle.emtp_fix.proofs.Ranges.{in_range-is}
use Rattle.emtp_fix.proofs.Wide.{mul_add}
use Rattle.emtp_fix.specs.Limit.{in_range}
use Rattle.emtp_fix.specs.Rounding.{near}
use Rattle.emtp_fix.specs.declared.limit.TheConstants.{PICO}
use Rattle.emtp_pseudo.proofs.Holding.{pseudo_fits}
use Rattle.emtp_pseudo.proofs.Segments.{count_is, segment_there}
use Rattle.emtp_pseudo.specs.Pseudos.{newest, next_of, present}
use Rattle.emtp_pseudo.specs.Segment.{segment_of}
use Rattle.emtp_pseudo.specs.Step.{DOUBLE_NANO, current_of, flux_of, next_state}
use Rattle.emtp_pseudo.specs.held.Pseudos.{IsPseudoAt}
use Rattle.emtp_pseudo.specs.declared.moment.Moment.{Moment}
use Rattle.emtp_pseudo.specs.declared.segment.Segment.{Segment}
use Rattle.emtp_laws.proofs.Products.{mul_assoc, mul_sub, sub_mul, swapped}
use Rattle.emtp_laws.proofs.SeriesSteps.{then_some}
use Rattle.emtp_laws_of_units.specs.Reactor.{LiesOnSegment, LinksFlux}

-- ---- a step, inverted

pub record IsReactorStep (dt : ℤ) (s : Segment) (old : Moment) (v : ℤ) (new : PseudoState) : Type 0 where
  pub current : new.current ≡ current_of true s old v
  pub flux : new.flux ≡ flux_of true dt old v

pub reactor_stepped : (dt : ℤ) (s : Segment) (old : Moment) (v : ℤ) (new : PseudoState) → next_state true dt s old v ≡ Some new → IsReactorStep dt s old v new
unfolding next_state
reactor_stepped dt s old v new e =
    let i = then_some (in_range (current_of true s old v)) _ new e in
    let f = then_some (in_range (flux_of true dt old v)) _ new i.2 in
    subst (IsReactorStep dt s old v) (same_Some _ new f.2) (record {
      current = in_range-is (current_of true s old v) i.0 i.1;
      flux = in_range-is (flux_of true dt old v) f.0 f.1;
    })

-- ---- the flux

links : (dt : ℤ) (s : Segment) (old : Moment) (v : ℤ) (new : PseudoState) → IsReactorStep dt s old v new → LinksFlux dt old v new
links dt s old v new step =
    let y = near (dt *ℤ (old.voltage +ℤ v)) DOUBLE_NANO in
    let rise : new.flux -ℤ old.state.flux ≡ y = omega (arith, ints, step.flux) in
    subst (λ z. unsigned_abs (pos (2 * 10 ^ 9) *ℤ z -ℤ dt *ℤ (old.voltage +ℤ v)) ≤ 10 ^ 9) (sym rise)
    (halved (dt *ℤ (old.voltage +ℤ v)) y (near-rest (dt *ℤ (old.voltage +ℤ v)) DOUBLE_NANO (λ none. cc)))
  where
    halved : (a y : ℤ) → 2 * unsigned_abs (a -ℤ y *ℤ DOUBLE_NANO) ≤ unsigned_abs DOUBLE_NANO → unsigned_abs (pos (2 * 10 ^ 9) *ℤ y -ℤ a) ≤ 10 ^ 9
    halved a y h = omega (arith, ints, h)

-- ---- the current

-- dy times what both parts g v and g v' round
parts_round : (dy g v w a b : ℤ) → dy *ℤ ((g *ℤ v -ℤ a *ℤ PICO) +ℤ (g *ℤ w -ℤ b *ℤ PICO)) ≡ dy *ℤ (g *ℤ (w +ℤ v)) -ℤ (dy *ℤ a +ℤ dy *ℤ b) *ℤ PICO
parts_round dy g v w a b =
    joined (dy *ℤ ((g *ℤ v -ℤ a *ℤ PICO) +ℤ (g *ℤ w -ℤ b *ℤ PICO))) (dy *ℤ (g *ℤ v -ℤ a *ℤ PICO)) (dy *ℤ (g *ℤ w -ℤ b *ℤ PICO)) (dy *ℤ (g *ℤ v)) (dy *ℤ (g *ℤ w)) (dy *ℤ a) (dy *ℤ b) (dy *ℤ (g *ℤ (w +ℤ v)))
    (mul_add dy (g *ℤ v -ℤ a *ℤ PICO) (g *ℤ w -ℤ b *ℤ PICO)) (one v a) (one w b)
    (ap (λ z. dy *ℤ z) (mul_add g w v) ∙ mul_add dy (g *ℤ w) (g *ℤ v))
  where
    one : (u k : ℤ) → dy *ℤ (g *ℤ u -ℤ k *ℤ PICO) ≡ dy *ℤ (g *ℤ u) -ℤ dy *ℤ k *ℤ PICO
    one u k = mul_sub dy (g *ℤ u) (k *ℤ PICO) ∙ ap (λ z. dy *ℤ (g *ℤ u) -ℤ z) (sym (mul_assoc dy k PICO))

    joined : (all p q gv gw ka kb g : ℤ) → all ≡ p +ℤ q → p ≡ gv -ℤ ka *ℤ PICO → q ≡ gw -ℤ kb *ℤ PICO → g ≡ gw +ℤ gv → all ≡ g -ℤ (ka +ℤ kb) *ℤ PICO
    joined all p q gv gw ka kb g e f h k = omega (arith, ints, e, f, h, k)

-- the sum of both voltages times what the conductance rounds
slope_rounds : (dt di dy g s : ℤ) → (dt *ℤ di *ℤ pos 1000 -ℤ g *ℤ (pos 2 *ℤ dy)) *ℤ s ≡ pos 1000 *ℤ (di *ℤ (dt *ℤ s)) -ℤ pos 2 *ℤ (dy *ℤ (g *ℤ s))
slope_rounds dt di dy g s =
    sub_mul (dt *ℤ di *ℤ pos 1000) (g *ℤ (pos 2 *ℤ dy)) s
    ∙ ap (λ z. z -ℤ g *ℤ (pos 2 *ℤ dy) *ℤ s) (mul_assoc (dt *ℤ di) (pos 1000) s ∙ swapped (dt *ℤ di) (pos 1000) s ∙ ap (λ z. pos 1000 *ℤ z) (mul_assoc dt di s ∙ swapped dt di s))
    ∙ ap (λ z. pos 1000 *ℤ (di *ℤ (dt *ℤ s)) -ℤ z) (ap (λ z. z *ℤ s) (*ℤ_comm g (pos 2 *ℤ dy)) ∙ mul_assoc (pos 2 *ℤ dy) g s ∙ mul_assoc (pos 2) dy (g *ℤ s))

-- the rise of the current times what the flux rounds
flux_rounds : (dt di s y : ℤ) → di *ℤ (dt *ℤ s -ℤ y *ℤ DOUBLE_NANO) ≡ di *ℤ (dt *ℤ s) -ℤ di *ℤ y *ℤ DOUBLE_NANO
flux_rounds dt di s y = mul_sub di (dt *ℤ s) (y *ℤ DOUBLE_NANO) ∙ ap (λ z. di *ℤ (dt *ℤ s) -ℤ z) (sym (mul_assoc di y DOUBLE_NANO))

-- i = g v + (g v' + ib) + di (flux' - yb) / dy, and flux = flux' + y
on_line : (dt di dy g f yb v w a b c y : ℤ) → 2 * unsigned_abs (dt *ℤ di *ℤ pos 1000 -ℤ g *ℤ (pos 2 *ℤ dy)) ≤ unsigned_abs (pos 2 *ℤ dy)
    → 2 * unsigned_abs (g *ℤ v -ℤ a *ℤ PICO) ≤ 10 ^ 12 → 2 * unsigned_abs (g *ℤ w -ℤ b *ℤ PICO) ≤ 10 ^ 12
    → 2 * unsigned_abs (di *ℤ (f -ℤ yb) -ℤ c *ℤ dy) ≤ unsigned_abs dy → 2 * unsigned_abs (dt *ℤ (w +ℤ v) -ℤ y *ℤ DOUBLE_NANO) ≤ 2 * 10 ^ 9
    → 2 * 10 ^ 12 * unsigned_abs (dy *ℤ (a +ℤ b +ℤ c) -ℤ di *ℤ (f -ℤ yb +ℤ y)) ≤ unsigned_abs dy * (3 * 10 ^ 12 + unsigned_abs (w +ℤ v)) + 10 ^ 12 * unsigned_abs di
on_line dt di dy g f yb v w a b c y in_g in_a in_b in_c in_y =
    let s = w +ℤ v in
    let r = dt *ℤ di *ℤ pos 1000 -ℤ g *ℤ (pos 2 *ℤ dy) in
    let p = g *ℤ v -ℤ a *ℤ PICO in
    let q = g *ℤ w -ℤ b *ℤ PICO in
    let t = dt *ℤ s -ℤ y *ℤ DOUBLE_NANO in
    let slope : unsigned_abs (r *ℤ s) ≤ unsigned_abs dy * unsigned_abs s = omega (arith, unsigned_abs-mul r s, mul-le (unsigned_abs r) (unsigned_abs s) (unsigned_abs dy) (unsigned_abs s) (within r dy in_g) (omega arith)) in
    let parts : unsigned_abs (dy *ℤ (p +ℤ q)) ≤ unsigned_abs dy * 10 ^ 12 = omega (arith, unsigned_abs-mul dy (p +ℤ q), mul-le (unsigned_abs dy) (unsigned_abs (p +ℤ q)) (unsigned_abs dy) (10 ^ 12) (omega arith) (both p q in_a in_b)) in
    let flux : unsigned_abs (di *ℤ t) ≤ unsigned_abs di * 10 ^ 9 = omega (arith, unsigned_abs-mul di t, mul-le (unsigned_abs di) (unsigned_abs t) (unsigned_abs di) (10 ^ 9) (omega arith) (omega (arith, in_y))) in
    subst (λ z. 2 * 10 ^ 12 * unsigned_abs z ≤ unsigned_abs dy * (3 * 10 ^ 12 + unsigned_abs s) + 10 ^ 12 * unsigned_abs di)
    (sym (spread (dy *ℤ (a +ℤ b +ℤ c)) (dy *ℤ (a +ℤ b)) (dy *ℤ a) (dy *ℤ b) (dy *ℤ c) (di *ℤ (f -ℤ yb +ℤ y)) (di *ℤ (f -ℤ yb)) (di *ℤ y) (mul_add dy (a +ℤ b) c) (mul_add dy a b) (mul_add di (f -ℤ yb) y)))
    (summed (dy *ℤ a) (dy *ℤ b) (dy *ℤ c) (di *ℤ (f -ℤ yb)) (di *ℤ y) (dy *ℤ (g *ℤ s)) (di *ℤ (dt *ℤ s)) (r *ℤ s) (dy *ℤ (p +ℤ q)) (di *ℤ t) (c *ℤ dy) (unsigned_abs dy) (unsigned_abs s) (unsigned_abs di)
    (*ℤ_comm c dy) (parts_round dy g v w a b) (slope_rounds dt di dy g s) (flux_rounds dt di s y) slope parts flux in_c)
  where
    within : (r dy : ℤ) → 2 * unsigned_abs r ≤ unsigned_abs (pos 2 *ℤ dy) → unsigned_abs r ≤ unsigned_abs dy
    within r dy h = omega (arith, ints, h)

    both : (p q : ℤ) → 2 * unsigned_abs p ≤ 10 ^ 12 → 2 * unsigned_abs q ≤ 10 ^ 12 → unsigned_abs (p +ℤ q) ≤ 10 ^ 12
    both p q h k = omega (arith, ints, h, k)

    spread : (all ab ka kb kc right x ky : ℤ) → all ≡ ab +ℤ kc → ab ≡ ka +ℤ kb → right ≡ x +ℤ ky → all -ℤ right ≡ ka +ℤ kb +ℤ kc -ℤ (x +ℤ ky)
    spread all ab ka kb kc right x ky e h k = omega (arith, ints, e, h, k)

    bounded : (z t r p w : ℤ) (rs dy s di : ℕ) → rs ≡ dy * s → pos (2 * 10 ^ 12) *ℤ z ≡ pos 1000 *ℤ t -ℤ r -ℤ pos 2 *ℤ p -ℤ pos (2 * 10 ^ 12) *ℤ w → unsigned_abs r ≤ rs → unsigned_abs p ≤ dy * 10 ^ 12 → unsigned_abs t ≤ di * 10 ^ 9 → 2 * unsigned_abs w ≤ dy
        → 2 * 10 ^ 12 * unsigned_abs z ≤ dy * (3 * 10 ^ 12 + s) + 10 ^ 12 * di
    bounded z t r p w rs dy s di is all m n o u =
        let most : 2 * 10 ^ 12 * unsigned_abs z ≤ 3 * 10 ^ 12 * dy + rs + 10 ^ 12 * di = omega (arith, ints, all, m, n, o, u) in
        omega (arith, most, is)

    summed : (ka kb kc x ky gs ms rs pq dt' cd : ℤ) (dy s di : ℕ) → cd ≡ kc → pq ≡ gs -ℤ (ka +ℤ kb) *ℤ PICO → rs ≡ pos 1000 *ℤ ms -ℤ pos 2 *ℤ gs → dt' ≡ ms -ℤ ky *ℤ DOUBLE_NANO
        → unsigned_abs rs ≤ dy * s → unsigned_abs pq ≤ dy * 10 ^ 12 → unsigned_abs dt' ≤ di * 10 ^ 9 → 2 * unsigned_abs (x -ℤ cd) ≤ dy
        → 2 * 10 ^ 12 * unsigned_abs (ka +ℤ kb +ℤ kc -ℤ (x +ℤ ky)) ≤ dy * (3 * 10 ^ 12 + s) + 10 ^ 12 * di
    summed ka kb kc x ky gs ms rs pq dt' cd dy s di e f h k m n o u =
        let all : pos (2 * 10 ^ 12) *ℤ (ka +ℤ kb +ℤ kc -ℤ (x +ℤ ky)) ≡ pos 1000 *ℤ dt' -ℤ rs -ℤ pos 2 *ℤ pq -ℤ pos (2 * 10 ^ 12) *ℤ (x -ℤ cd) = omega (arith, ints, e, f, h, k) in
        bounded (ka +ℤ kb +ℤ kc -ℤ (x +ℤ ky)) dt' rs pq (x -ℤ cd) (dy * s) dy s di refl all m n o u

-- the conductance of a reactor's segment, by the rise along it
slope_is : (dt : ℤ) (ps : List Point) (k : ℤ) → (segment_of true dt ps k).conductance ≡ near (dt *ℤ (segment_of true dt ps k).rise.current *ℤ pos 1000) (pos 2 *ℤ (segment_of true dt ps k).rise.other)
unfolding segment_of
slope_is dt ps (pos k) = refl
slope_is dt ps (negsuc k) = refl

lies : (dt : ℤ) (s : Segment) (old : Moment) (v : ℤ) (new : PseudoState) → s.conductance ≡ near (dt *ℤ s.rise.current *ℤ pos 1000) (pos 2 *ℤ s.rise.other) → s.rise.other ≢ pos 0 → IsReactorStep dt s old v new → LiesOnSegment s old v new
lies dt s old v new slope some step =
    let g = s.conductance in
    let di = s.rise.current in
    let dy = s.rise.other in
    let f = old.state.flux in
    let a = near (g *ℤ v) PICO in
    let b = near (g *ℤ old.voltage) PICO in
    let c = near (di *ℤ (f -ℤ s.base.other)) dy in
    let y = near (dt *ℤ (old.voltage +ℤ v)) DOUBLE_NANO in
    let current : new.current -ℤ s.base.current ≡ a +ℤ b +ℤ c = omega (arith, ints, step.current) in
    let flux : new.flux -ℤ s.base.other ≡ f -ℤ s.base.other +ℤ y = omega (arith, ints, step.flux) in
    let steep : 2 * unsigned_abs (dt *ℤ di *ℤ pos 1000 -ℤ g *ℤ (pos 2 *ℤ dy)) ≤ unsigned_abs (pos 2 *ℤ dy) = subst (λ z. 2 * unsigned_abs (dt *ℤ di *ℤ pos 1000 -ℤ z *ℤ (pos 2 *ℤ dy)) ≤ unsigned_abs (pos 2 *ℤ dy)) (sym slope) (near-rest (dt *ℤ di *ℤ pos 1000) (pos 2 *ℤ dy) (twice dy some)) in
    subst (λ z. 2 * 10 ^ 12 * unsigned_abs (dy *ℤ z -ℤ di *ℤ (new.flux -ℤ s.base.other)) ≤ unsigned_abs dy * (3 * 10 ^ 12 + unsigned_abs (old.voltage +ℤ v)) + 10 ^ 12 * unsigned_abs di) (sym current)
    (subst (λ z. 2 * 10 ^ 12 * unsigned_abs (dy *ℤ (a +ℤ b +ℤ c) -ℤ di *ℤ z) ≤ unsigned_abs dy * (3 * 10 ^ 12 + unsigned_abs (old.voltage +ℤ v)) + 10 ^ 12 * unsigned_abs di) (sym flux)
    (on_line dt di dy g f s.base.other v old.voltage a b c y steep (near-rest (g *ℤ v) PICO (λ none. cc)) (near-rest (g *ℤ old.voltage) PICO (λ none. cc)) (near-rest (di *ℤ (f -ℤ s.base.other)) dy some) (near-rest (dt *ℤ (old.voltage +ℤ v)) DOUBLE_NANO (λ none. cc))))
  where
    twice : (d : ℤ) → d ≢ pos 0 → pos 2 *ℤ d ≢ pos 0
    twice d some e = some (omega (arith, ints, e))

-- ---- of a case

-- a reactor's step is one of its own, and not of a resistor
as_reactor : (case : Parts) (x : Pseudo) (past : List Moment) (v : ℤ) (new : PseudoState) → x.reactor ≡ true → next_of case x past v ≡ Some new
    → next_state true case.run.dt (segment_of true case.run.dt (points_of case.points x.first x.count) (newest past).state.segment) (newest past) v ≡ Some new
as_reactor case x past v new reactor e = subst (λ b. next_state b case.run.dt (segment_of b case.run.dt (points_of case.points x.first x.count) (newest past).state.segment) (newest past) v ≡ Some new) reactor e

pub case_links : (case : Parts) (x : Pseudo) (past : List Moment) (v : ℤ) (new : PseudoState) → x.reactor ≡ true → next_of case x past v ≡ Some new → LinksFlux case.run.dt (newest past) v new
case_links case x past v new reactor e =
    let s = segment_of true case.run.dt (points_of case.points x.first x.count) (newest past).state.segment in
    links case.run.dt s (newest past) v new (reactor_stepped case.run.dt s (newest past) v new (as_reactor case x past v new reactor e))

above : {a b : ℤ} → a <ℤ b → b -ℤ a ≢ pos 0
above h e = omega (arith, ints, h, e)

-- each segment of a characteristic rises
rises : (dt : ℤ) (ps : List Point) (k : ℤ) → IsCharacteristic true dt ps → unsigned_abs k < length ps → (segment_of true dt ps k).rise.other ≢ pos 0
unfolding segment_of
rises dt ps (pos k) fits within = above (segment_there true dt ps k fits within).other_rises
rises dt ps (negsuc k) fits within = above (segment_there true dt ps (suc k) fits within).other_rises

pub case_lies : (case : Parts) → IsCase case → (b : ℕ) (x : Pseudo) (past : List Moment) (v : ℤ) (new : PseudoState) → IsPseudoAt case b x → x.reactor ≡ true → unsigned_abs (newest past).state.segment < x.count → next_of case x past v ≡ Some new → LiesOnSegment (present case x past) (newest past) v new
case_lies case fits b x past v new there reactor within e =
    let ps = points_of case.points x.first x.count in
    let k = (newest past).state.segment in
    let s = segment_of true case.run.dt ps k in
    let own = pseudo_fits case b x fits there in
    let many : length ps ≡ x.count = count_is case.points x.first x.count own.there in
    let characteristic : IsCharacteristic true case.run.dt ps = subst (λ r. IsCharacteristic r case.run.dt ps) reactor own.characteristic in
    let some = rises case.run.dt ps k characteristic (omega (arith, within, many)) in
    subst (λ r. LiesOnSegment (segment_of r case.run.dt ps k) (newest past) v new) (sym reactor)
    (lies case.run.dt s (newest past) v new (slope_is case.run.dt ps k) some (reactor_stepped case.run.dt s (newest past) v new (as_reactor case x past v new reactor e)))
