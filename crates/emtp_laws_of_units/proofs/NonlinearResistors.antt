-- A step of a pseudo-nonlinear resistor: its current on its segment, within the rounding.
use Rattle.std.proofs.Common.{◌≡◌, ◌≢◌, ◌∙◌, ◌+◌, ◌*◌, ◌^◌, ◌≤◌, ◌<◌, ap, sym, subst, refl, ℕ, suc, ℤ, pos, negsuc, ◌<ℤ◌, ◌-ℤ◌, ◌*ℤ◌, unsigned_abs, false, List, length, Some, arith}
use Rattle.std.proofs.Math.IntN.{*ℤ_comm}
use Rattle.std.proofs.lemmas.Int.{ints, unsigned_abs-mul}
use Rattle.std.proofs.lemmas.Nat.{mul-le}
use Rattle.std.proofs.lemmas.Option.{same_Some}
use Rattle.emtp_case.specs.Branch.{points_of}
use Rattle.emtp_case.specs.held.Branch.{IsCharacteristic}
use Rattle.emtp_case.specs.held.Case.{IsCase}
use Rattle.emtp_case.specs.declared.branch.Point.{Point}
use Rattle.emtp_case.specs.declared.branch.Pseudo.{Pseudo}
use Rattle.emtp_case.specs.declared.branch.PseudoState.{PseudoState}
use Rattle.emtp_case.specs.declared.case.Parts.{Parts}
use Rattle.emtp_fix.proofs.Nearest.{near-rest}
use Rattle.emtp_fix.proofs.Ranges.{in_range-is}
use Rattle.emtp_fix.specs.Limit.{in_range}
use Rattle.emtp_fix.specs.Rounding.{near}
use Rattle.emtp_fix.specs.declared.limit.TheConstants.{ATTO, PICO}
use Rattle.emtp_pseudo.proofs.Holding.{pseudo_fits}
use Rattle.emtp_pseudo.proofs.Segments.{count_is, segment_there}
use Rattle.emtp_pseudo.specs.Pseudos.{newest, next_of, present}
use Rattle.emtp_pseudo.specs.Segment.{next_segment, segment_of}
use Rattle.emtp_pseudo.specs.Step.{current_of, flux_of, next_state, place_of}
use Rattle.emtp_pseudo.specs.held.Pseudos.{IsPseudoAt}
use Rattle.emtp_pseudo.specs.declared.moment.Moment.{Moment}
use Rattle.emtp_pseudo.specs.declared.segment.Segment.{Segment}
use Rattle.emtp_laws.proofs.Products.{mul_assoc, mul_sub, sub_mul, swapped}
use Rattle.emtp_laws.proofs.SeriesSteps.{then_some}
use Rattle.emtp_laws_of_units.specs.Characteristic.{LiesOnLine}

-- ---- the line, in whole numbers

-- At the conductance g, 1/r rounded, the voltage w and its current j, r j is w within what g and j round.
ohm : (r g w j : ℤ) → 2 * unsigned_abs (ATTO -ℤ g *ℤ r) ≤ unsigned_abs r → unsigned_abs (g *ℤ w -ℤ j *ℤ PICO) ≤ 10 ^ 12
    → 2 * 10 ^ 12 * unsigned_abs (pos (10 ^ 6) *ℤ w -ℤ r *ℤ j) ≤ unsigned_abs r * (2 * 10 ^ 12 + unsigned_abs w)
ohm r g w j in_g in_j =
    let p = ATTO -ℤ g *ℤ r in
    let q = g *ℤ w -ℤ j *ℤ PICO in
    let left : 2 * unsigned_abs (p *ℤ w) ≤ unsigned_abs r * unsigned_abs w = omega (arith, unsigned_abs-mul p w, mul-le (2 * unsigned_abs p) (unsigned_abs w) (unsigned_abs r) (unsigned_abs w) in_g (omega arith)) in
    let right : unsigned_abs (r *ℤ q) ≤ unsigned_abs r * 10 ^ 12 = omega (arith, unsigned_abs-mul r q, mul-le (unsigned_abs r) (unsigned_abs q) (unsigned_abs r) (10 ^ 12) (omega arith) in_j) in
    joined w (r *ℤ j) (r *ℤ (g *ℤ w)) (p *ℤ w) (r *ℤ q) (unsigned_abs r) (unsigned_abs w) (unsigned_abs r * unsigned_abs w) refl
    (sub_mul ATTO (g *ℤ r) w ∙ ap (λ z. ATTO *ℤ w -ℤ z) (ap (λ z. z *ℤ w) (*ℤ_comm g r) ∙ mul_assoc r g w))
    (mul_sub r (g *ℤ w) (j *ℤ PICO) ∙ ap (λ z. r *ℤ (g *ℤ w) -ℤ z) (sym (mul_assoc r j PICO)))
    left right
  where
    joined : (w k a pw rq : ℤ) (r n rn : ℕ) → rn ≡ r * n → pw ≡ ATTO *ℤ w -ℤ a → rq ≡ a -ℤ k *ℤ PICO → 2 * unsigned_abs pw ≤ rn → unsigned_abs rq ≤ r * 10 ^ 12
        → 2 * 10 ^ 12 * unsigned_abs (pos (10 ^ 6) *ℤ w -ℤ k) ≤ r * (2 * 10 ^ 12 + n)
    joined w k a pw rq r n rn is e f h m =
        let most : 2 * 10 ^ 12 * unsigned_abs (pos (10 ^ 6) *ℤ w -ℤ k) ≤ 2 * 10 ^ 12 * r + rn = omega (arith, ints, e, f, h, m) in
        omega (arith, most, is)

-- And with r the slope d/c rounded, d j is c w within what all of them round.
on_line : (d c r g w j : ℤ) → 2 * unsigned_abs (d *ℤ pos (10 ^ 6) -ℤ r *ℤ c) ≤ unsigned_abs c → 2 * unsigned_abs (ATTO -ℤ g *ℤ r) ≤ unsigned_abs r → unsigned_abs (g *ℤ w -ℤ j *ℤ PICO) ≤ 10 ^ 12
    → 4 * 10 ^ 18 * unsigned_abs (d *ℤ j -ℤ c *ℤ w) ≤ (2 * 10 ^ 6 * unsigned_abs d + unsigned_abs c) * (2 * 10 ^ 12 + unsigned_abs w) + 2 * 10 ^ 12 * (unsigned_abs c * unsigned_abs j)
on_line d c r g w j in_r in_g in_j =
    let e = d *ℤ pos (10 ^ 6) -ℤ r *ℤ c in
    let z = pos (10 ^ 6) *ℤ w -ℤ r *ℤ j in
    let n = 2 * 10 ^ 12 + unsigned_abs w in
    let slope : 2 * unsigned_abs (e *ℤ j) ≤ unsigned_abs c * unsigned_abs j = omega (arith, unsigned_abs-mul e j, mul-le (2 * unsigned_abs e) (unsigned_abs j) (unsigned_abs c) (unsigned_abs j) in_r (omega arith)) in
    let product : 2 * unsigned_abs (r *ℤ c) ≤ 2 * 10 ^ 6 * unsigned_abs d + unsigned_abs c = steep d (r *ℤ c) (unsigned_abs c) in_r in
    let turned : unsigned_abs (r *ℤ c) ≡ unsigned_abs r * unsigned_abs c = unsigned_abs-mul r c in
    let most : 2 * (unsigned_abs r * unsigned_abs c) * n ≤ (2 * 10 ^ 6 * unsigned_abs d + unsigned_abs c) * n = mul-le (2 * (unsigned_abs r * unsigned_abs c)) n (2 * 10 ^ 6 * unsigned_abs d + unsigned_abs c) n (omega (arith, product, turned)) (omega arith) in
    let line : unsigned_abs c * (2 * 10 ^ 12 * unsigned_abs z) ≤ unsigned_abs c * (unsigned_abs r * n) = mul-le (unsigned_abs c) (2 * 10 ^ 12 * unsigned_abs z) (unsigned_abs c) (unsigned_abs r * n) (omega arith) (ohm r g w j in_g in_j) in
    joined (d *ℤ j) (c *ℤ w) (c *ℤ (r *ℤ j)) (e *ℤ j) (c *ℤ z) (unsigned_abs c * unsigned_abs j) ((2 * 10 ^ 6 * unsigned_abs d + unsigned_abs c) * n)
    (sub_mul (d *ℤ pos (10 ^ 6)) (r *ℤ c) j
    ∙ ap (λ x. x -ℤ r *ℤ c *ℤ j) (mul_assoc d (pos (10 ^ 6)) j ∙ swapped d (pos (10 ^ 6)) j)
    ∙ ap (λ x. pos (10 ^ 6) *ℤ (d *ℤ j) -ℤ x) (ap (λ x. x *ℤ j) (*ℤ_comm r c) ∙ mul_assoc c r j))
    (mul_sub c (pos (10 ^ 6) *ℤ w) (r *ℤ j) ∙ ap (λ x. x -ℤ c *ℤ (r *ℤ j)) (swapped c (pos (10 ^ 6)) w))
    slope (omega (arith, unsigned_abs-mul c z, line, most))
  where
    steep : (d rc : ℤ) (c : ℕ) → 2 * unsigned_abs (d *ℤ pos (10 ^ 6) -ℤ rc) ≤ c → 2 * unsigned_abs rc ≤ 2 * 10 ^ 6 * unsigned_abs d + c
    steep d rc c h = omega (arith, ints, h)

    joined : (dj cw k ej cz : ℤ) (cj bound : ℕ) → ej ≡ pos (10 ^ 6) *ℤ dj -ℤ k → cz ≡ pos (10 ^ 6) *ℤ cw -ℤ k → 2 * unsigned_abs ej ≤ cj → 4 * 10 ^ 12 * unsigned_abs cz ≤ bound
        → 4 * 10 ^ 18 * unsigned_abs (dj -ℤ cw) ≤ bound + 2 * 10 ^ 12 * cj
    joined dj cw k ej cz cj bound e f h m = omega (arith, ints, e, f, h, m)

-- ---- a step

record IsStep (dt : ℤ) (s : Segment) (old : Moment) (v : ℤ) (new : PseudoState) : Type 0 where
  current : new.current ≡ current_of false s old v
  flux : new.flux ≡ flux_of false dt old v

stepped : (dt : ℤ) (s : Segment) (old : Moment) (v : ℤ) (new : PseudoState) → next_state false dt s old v ≡ Some new → IsStep dt s old v new
unfolding next_state
stepped dt s old v new e =
    let i = then_some (in_range (current_of false s old v)) _ new e in
    let f = then_some (in_range (flux_of false dt old v)) (λ (flux : ℤ). Some (record { current = i.0; segment = next_segment s old.state.segment (place_of false flux v); flux = flux })) new i.2 in
    subst (IsStep dt s old v) (same_Some _ new f.2) (record {
      current = in_range-is (current_of false s old v) i.0 i.1;
      flux = in_range-is (flux_of false dt old v) f.0 f.1;
    })

-- the slope of a segment in micro-ohm, by the rise along it, and its conductance
slope_over : Segment → ℤ
slope_over s = near (s.rise.other *ℤ pos (10 ^ 6)) s.rise.current

conductance_is : (dt : ℤ) (ps : List Point) (k : ℤ) → (segment_of false dt ps k).conductance ≡ near ATTO (slope_over (segment_of false dt ps k))
unfolding segment_of slope_over
conductance_is dt ps (pos k) = refl
conductance_is dt ps (negsuc k) = refl

lies : (dt : ℤ) (s : Segment) (old : Moment) (v : ℤ) (new : PseudoState) → s.conductance ≡ near ATTO (slope_over s) → s.rise.current ≢ pos 0 → slope_over s ≢ pos 0 → IsStep dt s old v new → LiesOnLine s v new
unfolding slope_over
lies dt s old v new conductance rises some step =
    let g = s.conductance in
    let y = s.base.other in
    let r = slope_over s in
    let in_g : 2 * unsigned_abs (ATTO -ℤ g *ℤ r) ≤ unsigned_abs r = subst (λ z. 2 * unsigned_abs (ATTO -ℤ z *ℤ r) ≤ unsigned_abs r) (sym conductance) (near-rest ATTO r some) in
    on_line s.rise.other s.rise.current r g (v -ℤ y) (new.current -ℤ s.base.current) (near-rest (s.rise.other *ℤ pos (10 ^ 6)) s.rise.current rises) in_g
    (parts (g *ℤ (v -ℤ y)) (g *ℤ v) (g *ℤ y) (near (g *ℤ v) PICO) (near (g *ℤ y) PICO) (new.current -ℤ s.base.current) (mul_sub g v y) (omega (arith, ints, step.current)) (near-rest (g *ℤ v) PICO (λ none. cc)) (near-rest (g *ℤ y) PICO (λ none. cc)))
  where
    parts : (gw gv gy a b j : ℤ) → gw ≡ gv -ℤ gy → j ≡ a -ℤ b → 2 * unsigned_abs (gv -ℤ a *ℤ PICO) ≤ unsigned_abs PICO → 2 * unsigned_abs (gy -ℤ b *ℤ PICO) ≤ unsigned_abs PICO → unsigned_abs (gw -ℤ j *ℤ PICO) ≤ 10 ^ 12
    parts gw gv gy a b j e f h k = omega (arith, ints, e, f, h, k)

-- ---- of a case

as_resistor : (case : Parts) (x : Pseudo) (past : List Moment) (v : ℤ) (new : PseudoState) → x.reactor ≡ false → next_of case x past v ≡ Some new
    → next_state false case.run.dt (segment_of false case.run.dt (points_of case.points x.first x.count) (newest past).state.segment) (newest past) v ≡ Some new
as_resistor case x past v new resistor e = subst (λ b. next_state b case.run.dt (segment_of b case.run.dt (points_of case.points x.first x.count) (newest past).state.segment) (newest past) v ≡ Some new) resistor e

above : {a b : ℤ} → a <ℤ b → b -ℤ a ≢ pos 0
above h e = omega (arith, ints, h, e)

-- each segment of a characteristic rises, and has a slope
rises : (dt : ℤ) (ps : List Point) (k : ℤ) → IsCharacteristic false dt ps → unsigned_abs k < length ps → (segment_of false dt ps k).rise.current ≢ pos 0
unfolding segment_of
rises dt ps (pos k) fits within = above (segment_there false dt ps k fits within).current_rises
rises dt ps (negsuc k) fits within = above (segment_there false dt ps (suc k) fits within).current_rises

slopes : (dt : ℤ) (ps : List Point) (k : ℤ) → IsCharacteristic false dt ps → unsigned_abs k < length ps → slope_over (segment_of false dt ps k) ≢ pos 0
unfolding segment_of slope_over
slopes dt ps (pos k) fits within none = omega (arith, ints, (segment_there false dt ps k fits within).slope.least, none)
slopes dt ps (negsuc k) fits within none = omega (arith, ints, (segment_there false dt ps (suc k) fits within).slope.least, none)

pub case_lies : (case : Parts) → IsCase case → (b : ℕ) (x : Pseudo) (past : List Moment) (v : ℤ) (new : PseudoState) → IsPseudoAt case b x → x.reactor ≡ false → unsigned_abs (newest past).state.segment < x.count → next_of case x past v ≡ Some new → LiesOnLine (present case x past) v new
case_lies case fits b x past v new there resistor within e =
    let ps = points_of case.points x.first x.count in
    let k = (newest past).state.segment in
    let s = segment_of false case.run.dt ps k in
    let own = pseudo_fits case b x fits there in
    let many : length ps ≡ x.count = count_is case.points x.first x.count own.there in
    let characteristic : IsCharacteristic false case.run.dt ps = subst (λ r. IsCharacteristic r case.run.dt ps) resistor own.characteristic in
    let inside : unsigned_abs k < length ps = omega (arith, within, many) in
    subst (λ r. LiesOnLine (segment_of r case.run.dt ps k) v new) (sym resistor)
    (lies case.run.dt s (newest past) v new (conductance_is case.run.dt ps k) (rises case.run.dt ps k characteristic inside) (slopes case.run.dt ps k characteristic inside) (stepped case.run.dt s (newest past) v new (as_resistor case x past v new resistor e)))
