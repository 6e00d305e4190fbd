-- A reactor of one point over many steps.
use Rattle.std.proofs.Common.{◌≡◌, ◌∙◌, ◌+◌, ◌*◌, ◌^◌, ◌≤◌, ◌<◌, ap, sym, subst, refl, ℕ, suc, ℤ, pos, ◌+ℤ◌, ◌-ℤ◌, ◌*ℤ◌, unsigned_abs, true, List, [], ◌∷◌, ◌++◌, length, Some, arith}
use Rattle.std.proofs.lemmas.Int.{ints}
use Rattle.std.proofs.lemmas.Option.{same_Some}
use Rattle.emtp_case.specs.Branch.{points_of}
use Rattle.emtp_case.specs.declared.branch.Point.{Point}
use Rattle.emtp_case.specs.declared.branch.Pseudo.{Pseudo}
use Rattle.emtp_case.specs.declared.branch.PseudoState.{PseudoState}
use Rattle.emtp_case.specs.declared.case.Parts.{Parts}
use Rattle.emtp_fix.proofs.Nearest.{near-rest}
use Rattle.emtp_fix.proofs.Quotients.{near-times_zero}
use Rattle.emtp_fix.proofs.Ranges.{in_range-is}
use Rattle.emtp_fix.proofs.Wide.{mul_add}
use Rattle.emtp_fix.specs.Limit.{in_range}
use Rattle.emtp_fix.specs.Rounding.{near}
use Rattle.emtp_fix.specs.declared.limit.TheConstants.{PICO}
use Rattle.emtp_pseudo.specs.Pseudos.{newest, next_of, present}
use Rattle.emtp_pseudo.specs.Segment.{next_segment, segment_of}
use Rattle.emtp_pseudo.specs.Step.{DOUBLE_NANO, current_of, flux_of, next_state}
use Rattle.emtp_pseudo.specs.declared.moment.Moment.{Moment}
use Rattle.emtp_pseudo.specs.declared.segment.Segment.{Segment}
use Rattle.std.proofs.lemmas.Int.{unsigned_abs-mul}
use Rattle.std.proofs.lemmas.Nat.{mul-le}
use Rattle.emtp_case.specs.held.Case.{IsCase}
use Rattle.emtp_pseudo.proofs.Holding.{pseudo_fits}
use Rattle.emtp_pseudo.specs.held.Pseudos.{IsPseudoAt}
use Rattle.emtp_laws.proofs.Products.{mul_assoc, mul_sub, sub_mul, swapped}
use Rattle.emtp_laws_of_units.proofs.Reactors.{case_lies}
use Rattle.emtp_laws_of_units.specs.Reactor.{LiesOnSegment}
use Rattle.emtp_laws_of_energy.specs.Coil.{AddsUpItsVoltage, IntegratesItsVoltage, AreLeftAlone, AreSteps, HasCurrentOfFlux, IsCoil, driven, StoresItsEnergy, all_round, coil_rounds, line_rounds, off_line, taken}
use Rattle.emtp_laws_of_energy.proofs.Energies.{squares_rise}
use Rattle.emtp_laws.proofs.SeriesSteps.{then_some}

-- ---- a step, inverted

pub record IsReactorStep (dt : ℤ) (s : Segment) (old : Moment) (v : ℤ) (new : PseudoState) : Type 0 where
  pub current : new.current ≡ current_of true s old v
  pub flux : new.flux ≡ flux_of true dt old v
  pub segment : new.segment ≡ next_segment s old.state.segment new.flux

pub reactor_stepped : (dt : ℤ) (s : Segment) (old : Moment) (v : ℤ) (new : PseudoState) → next_state true dt s old v ≡ Some new → IsReactorStep dt s old v new
unfolding next_state
reactor_stepped dt s old v new e =
    let i = then_some (in_range (current_of true s old v)) _ new e in
    let f = then_some (in_range (flux_of true dt old v)) _ new i.2 in
    subst (IsReactorStep dt s old v) (same_Some _ new f.2) (record {
      current = in_range-is (current_of true s old v) i.0 i.1;
      flux = in_range-is (flux_of true dt old v) f.0 f.1;
      segment = refl;
    })

-- ---- the flux

as_reactor : (case : Parts) (x : Pseudo) (past : List Moment) (v : ℤ) (new : PseudoState) → x.reactor ≡ true → next_of case x past v ≡ Some new
    → next_state true case.run.dt (segment_of true case.run.dt (points_of case.points x.first x.count) (newest past).state.segment) (newest past) v ≡ Some new
as_reactor case x past v new reactor e = subst (λ b. next_state b case.run.dt (segment_of b case.run.dt (points_of case.points x.first x.count) (newest past).state.segment) (newest past) v ≡ Some new) reactor e

-- what a step adds to the flux
rises : (dt : ℤ) (s : Segment) (old : Moment) (v : ℤ) (new : PseudoState) → IsReactorStep dt s old v new → unsigned_abs (pos (2 * 10 ^ 9) *ℤ (new.flux -ℤ old.state.flux) -ℤ dt *ℤ (v +ℤ old.voltage)) ≤ 10 ^ 9
rises dt s old v new step =
    let y = near (dt *ℤ (old.voltage +ℤ v)) DOUBLE_NANO in
    let turned : dt *ℤ (v +ℤ old.voltage) ≡ dt *ℤ (old.voltage +ℤ v) = ap (λ z. dt *ℤ z) (exchanged v old.voltage) in
    halved (dt *ℤ (old.voltage +ℤ v)) y (dt *ℤ (v +ℤ old.voltage)) new.flux old.state.flux turned step.flux (near-rest (dt *ℤ (old.voltage +ℤ v)) DOUBLE_NANO (λ none. cc))
  where
    exchanged : (a b : ℤ) → a +ℤ b ≡ b +ℤ a
    exchanged a b = omega (arith, ints)

    halved : (a y b f e : ℤ) → b ≡ a → f ≡ e +ℤ y → 2 * unsigned_abs (a -ℤ y *ℤ DOUBLE_NANO) ≤ unsigned_abs DOUBLE_NANO → unsigned_abs (pos (2 * 10 ^ 9) *ℤ (f -ℤ e) -ℤ b) ≤ 10 ^ 9
    halved a y b f e is is' h = omega (arith, ints, is, is', h)

pub adds_up : (case : Parts) (x : Pseudo) (past : List Moment) → x.reactor ≡ true → AreSteps case x past → AddsUpItsVoltage case.run.dt past
adds_up case x [] reactor steps = none case.run.dt
  where
    none : (dt : ℤ) → unsigned_abs (pos (2 * 10 ^ 9) *ℤ pos 0 -ℤ dt *ℤ pos 0) ≤ 0
    none dt = omega (arith, ints)
adds_up case x (m ∷ past) reactor steps =
    let dt = case.run.dt in
    let s = segment_of true dt (points_of case.points x.first x.count) (newest past).state.segment in
    let v = m.voltage +ℤ (newest past).voltage in
    added m.state.flux (newest past).state.flux (dt *ℤ (v +ℤ driven past)) (dt *ℤ v) (dt *ℤ driven past) (length past) (mul_add dt v (driven past))
    (rises dt s (newest past) m.voltage m.state (reactor_stepped dt s (newest past) m.voltage m.state (as_reactor case x past m.voltage m.state reactor steps.0)))
    (adds_up case x past reactor steps.1)
  where
    added : (f e all one rest : ℤ) (n : ℕ) → all ≡ one +ℤ rest → unsigned_abs (pos (2 * 10 ^ 9) *ℤ (f -ℤ e) -ℤ one) ≤ 10 ^ 9 → unsigned_abs (pos (2 * 10 ^ 9) *ℤ e -ℤ rest) ≤ 10 ^ 9 * n
        → unsigned_abs (pos (2 * 10 ^ 9) *ℤ f -ℤ all) ≤ 10 ^ 9 * suc n
    added f e all one rest n is h k = omega (arith, ints, is, h, k)

-- ---- one point

-- the only segment goes through the origin, and no step leaves it
abbrev line : ℤ → Point → Segment
line dt p = segment_of true dt (p ∷ []) (pos 0)

stays : (dt : ℤ) (p : Point) (y : ℤ) → next_segment (line dt p) (pos 0) y ≡ pos 0
unfolding segment_of
stays dt p y = refl

coil_step : (case : Parts) (x : Pseudo) (p : Point) (past : List Moment) (m : Moment) → IsCoil case x p → (newest past).state.segment ≡ pos 0 → next_of case x past m.voltage ≡ Some m.state
    → IsReactorStep case.run.dt (line case.run.dt p) (newest past) m.voltage m.state
coil_step case x p past m coil first e =
    let dt = case.run.dt in
    let at_points : next_state true dt (segment_of true dt (p ∷ []) (newest past).state.segment) (newest past) m.voltage ≡ Some m.state =
    subst (λ ps. next_state true dt (segment_of true dt ps (newest past).state.segment) (newest past) m.voltage ≡ Some m.state) coil.one (as_reactor case x past m.voltage m.state coil.reactor e) in
    reactor_stepped dt (line dt p) (newest past) m.voltage m.state (subst (λ k. next_state true dt (segment_of true dt (p ∷ []) k) (newest past) m.voltage ≡ Some m.state) first at_points)

on_first : (case : Parts) (x : Pseudo) (p : Point) (past : List Moment) → IsCoil case x p → AreSteps case x past → (newest past).state.segment ≡ pos 0
on_first case x p [] coil steps = refl
on_first case x p (m ∷ past) coil steps =
    let first = on_first case x p past coil steps.1 in
    (coil_step case x p past m coil first steps.0).segment ∙ ap (λ k. next_segment (line case.run.dt p) k m.state.flux) first ∙ stays case.run.dt p m.state.flux

-- a step between two records without a voltage
pub record IsFree (p : Point) (old : Moment) (new : PseudoState) : Type 0 where
  pub flux : new.flux ≡ old.state.flux
  pub current : new.current ≡ near (p.current *ℤ old.state.flux) p.other
  pub segment : new.segment ≡ pos 0

free : (dt : ℤ) (p : Point) (old : Moment) (v : ℤ) (new : PseudoState) → v ≡ pos 0 → old.voltage ≡ pos 0 → old.state.segment ≡ pos 0 → IsReactorStep dt (line dt p) old v new → IsFree p old new
unfolding segment_of
free dt p old v new still before first step =
    let g = (line dt p).conductance in
    record {
      flux = step.flux ∙ ap (λ z. old.state.flux +ℤ near (dt *ℤ (old.voltage +ℤ z)) DOUBLE_NANO) still ∙ ap (λ z. old.state.flux +ℤ near (dt *ℤ (z +ℤ pos 0)) DOUBLE_NANO) before
          ∙ ap (λ z. old.state.flux +ℤ z) (near-times_zero dt DOUBLE_NANO) ∙ same old.state.flux;
      current = step.current ∙ summed (near (g *ℤ v) PICO) (near (g *ℤ old.voltage) PICO) (near ((p.current -ℤ pos 0) *ℤ (old.state.flux -ℤ pos 0)) (p.other -ℤ pos 0))
          (ap (λ z. near (g *ℤ z) PICO) still ∙ near-times_zero g PICO) (ap (λ z. near (g *ℤ z) PICO) before ∙ near-times_zero g PICO)
          ∙ ap (λ z. near (z *ℤ (old.state.flux -ℤ pos 0)) (p.other -ℤ pos 0)) (less p.current) ∙ ap (λ z. near (p.current *ℤ z) (p.other -ℤ pos 0)) (less old.state.flux) ∙ ap (λ z. near (p.current *ℤ old.state.flux) z) (less p.other);
      segment = step.segment ∙ ap (λ k. next_segment (line dt p) k new.flux) first;
    }
  where
    same : (a : ℤ) → a +ℤ pos 0 ≡ a
    same a = omega (arith, ints)

    less : (a : ℤ) → a -ℤ pos 0 ≡ a
    less a = omega (arith, ints)

    summed : (a b c : ℤ) → a ≡ pos 0 → b ≡ pos 0 → a +ℤ ((b +ℤ pos 0) +ℤ c) ≡ c
    summed a b c e f = omega (arith, ints, e, f)

free_step : (case : Parts) (x : Pseudo) (p : Point) (past : List Moment) (m : Moment) → IsCoil case x p → AreSteps case x (m ∷ past) → m.voltage ≡ pos 0 → (newest past).voltage ≡ pos 0 → IsFree p (newest past) m.state
free_step case x p past m coil steps still before =
    let first = on_first case x p past coil steps.1 in
    free case.run.dt p (newest past) m.voltage m.state still before first (coil_step case x p past m coil first steps.0)

pub has_current : (case : Parts) (x : Pseudo) (p : Point) (past : List Moment) (m : Moment) → IsCoil case x p → AreSteps case x (m ∷ past) → m.voltage ≡ pos 0 → (newest past).voltage ≡ pos 0 → HasCurrentOfFlux p m.state
has_current case x p past m coil steps still before =
    let is = free_step case x p past m coil steps still before in
    is.current ∙ ap (λ f. near (p.current *ℤ f) p.other) (sym is.flux)

same_state : (a b : PseudoState) → a.current ≡ b.current → a.segment ≡ b.segment → a.flux ≡ b.flux → a ≡ b
same_state a b e f h = ap (λ i. made i a.segment a.flux) e ∙ ap (λ k. made b.current k a.flux) f ∙ ap (λ y. made b.current b.segment y) h
  where
    made : ℤ → ℤ → ℤ → PseudoState
    made i k y = record { current = i; segment = k; flux = y }

-- the newest of some moments before others has no voltage, and the moments are steps
newest_still : (alone past : List Moment) (m : Moment) → AreLeftAlone (alone ++ (m ∷ [])) → (newest (alone ++ (m ∷ past))).voltage ≡ pos 0
newest_still [] past m are = are.0
newest_still (a ∷ alone) past m are = are.0

steps_from : (case : Parts) (x : Pseudo) (alone past : List Moment) (m : Moment) → AreSteps case x (alone ++ (m ∷ past)) → AreSteps case x (m ∷ past)
steps_from case x [] past m steps = steps
steps_from case x (a ∷ alone) past m steps = steps_from case x alone past m steps.1

still_from : (alone : List Moment) (m : Moment) → AreLeftAlone (alone ++ (m ∷ [])) → m.voltage ≡ pos 0
still_from [] m are = are.0
still_from (a ∷ alone) m are = still_from alone m are.1

pub keeps_its_state : (case : Parts) (x : Pseudo) (p : Point) (alone past : List Moment) (m : Moment) → IsCoil case x p → AreSteps case x (alone ++ (m ∷ past)) → AreLeftAlone (alone ++ (m ∷ [])) → (newest past).voltage ≡ pos 0
    → (newest (alone ++ (m ∷ past))).state ≡ m.state
keeps_its_state case x p [] past m coil steps are before = refl
keeps_its_state case x p (a ∷ alone) past m coil steps are before =
    let old = newest (alone ++ (m ∷ past)) in
    let same = keeps_its_state case x p alone past m coil steps.1 are.1 before in
    let new = free_step case x p (alone ++ (m ∷ past)) a coil steps are.0 (newest_still alone past m are.1) in
    let from_m = free_step case x p past m coil (steps_from case x alone past m steps.1) (still_from alone m are.1) before in
    same_state a.state m.state
    (new.current ∙ ap (λ (s : PseudoState). near (p.current *ℤ s.flux) p.other) same ∙ ap (λ f. near (p.current *ℤ f) p.other) from_m.flux ∙ sym from_m.current)
    (new.segment ∙ sym from_m.segment)
    (new.flux ∙ ap (λ (s : PseudoState). s.flux) same)

-- ---- the current against the voltage

line_base : (dt : ℤ) (p : Point) (old : Moment) (v : ℤ) (new : PseudoState) → LiesOnSegment (line dt p) old v new
    → 2 * 10 ^ 12 * unsigned_abs (p.other *ℤ new.current -ℤ p.current *ℤ new.flux) ≤ unsigned_abs p.other * (3 * 10 ^ 12 + unsigned_abs (old.voltage +ℤ v)) + 10 ^ 12 * unsigned_abs p.current
unfolding segment_of
line_base dt p old v new h =
    let other = less p.other in
    let current = less p.current in
    subst (λ f. 2 * 10 ^ 12 * unsigned_abs (f *ℤ new.current -ℤ p.current *ℤ new.flux) ≤ unsigned_abs f * (3 * 10 ^ 12 + unsigned_abs (old.voltage +ℤ v)) + 10 ^ 12 * unsigned_abs p.current) other
    (subst (λ i. 2 * 10 ^ 12 * unsigned_abs ((p.other -ℤ pos 0) *ℤ new.current -ℤ i *ℤ new.flux) ≤ unsigned_abs (p.other -ℤ pos 0) * (3 * 10 ^ 12 + unsigned_abs (old.voltage +ℤ v)) + 10 ^ 12 * unsigned_abs i) current
    (subst (λ y. 2 * 10 ^ 12 * unsigned_abs ((p.other -ℤ pos 0) *ℤ new.current -ℤ (p.current -ℤ pos 0) *ℤ y) ≤ unsigned_abs (p.other -ℤ pos 0) * (3 * 10 ^ 12 + unsigned_abs (old.voltage +ℤ v)) + 10 ^ 12 * unsigned_abs (p.current -ℤ pos 0)) (less new.flux)
    (subst (λ i. 2 * 10 ^ 12 * unsigned_abs ((p.other -ℤ pos 0) *ℤ i -ℤ (p.current -ℤ pos 0) *ℤ (new.flux -ℤ pos 0)) ≤ unsigned_abs (p.other -ℤ pos 0) * (3 * 10 ^ 12 + unsigned_abs (old.voltage +ℤ v)) + 10 ^ 12 * unsigned_abs (p.current -ℤ pos 0)) (less new.current) h)))
  where
    less : (a : ℤ) → a -ℤ pos 0 ≡ a
    less a = omega (arith, ints)

-- the current of the newest record lies on the line, within what it rounds; rest does so exactly
pub lies_latest : (case : Parts) → IsCase case → (b : ℕ) (x : Pseudo) (p : Point) (past : List Moment) → IsPseudoAt case b x → IsCoil case x p → AreSteps case x past → 2 * 10 ^ 12 * unsigned_abs (off_line p past) ≤ line_rounds p past
lies_latest case fits b x p [] there coil steps = at_rest p.other p.current
  where
    at_rest : (f i : ℤ) → 2 * 10 ^ 12 * unsigned_abs (f *ℤ pos 0 -ℤ i *ℤ pos 0) ≤ 0
    at_rest f i = omega (arith, ints)
lies_latest case fits b x p (m ∷ past) there coil steps =
    let dt = case.run.dt in
    let first = on_first case x p past coil steps.1 in
    let lies : LiesOnSegment (present case x past) (newest past) m.voltage m.state = case_lies case fits b x past m.voltage m.state there coil.reactor (within (newest past).state.segment x.count first (pseudo_fits case b x fits there).some) steps.0 in
    let on_reactor : LiesOnSegment (segment_of true dt (points_of case.points x.first x.count) (newest past).state.segment) (newest past) m.voltage m.state = subst (λ r. LiesOnSegment (segment_of r dt (points_of case.points x.first x.count) (newest past).state.segment) (newest past) m.voltage m.state) coil.reactor lies in
    let on_point : LiesOnSegment (segment_of true dt (p ∷ []) (newest past).state.segment) (newest past) m.voltage m.state = subst (λ ps. LiesOnSegment (segment_of true dt ps (newest past).state.segment) (newest past) m.voltage m.state) coil.one on_reactor in
    let on_line : LiesOnSegment (line dt p) (newest past) m.voltage m.state = subst (λ k. LiesOnSegment (segment_of true dt (p ∷ []) k) (newest past) m.voltage m.state) first on_point in
    line_base dt p (newest past) m.voltage m.state on_line
  where
    within : (k : ℤ) (n : ℕ) → k ≡ pos 0 → 1 ≤ n → unsigned_abs k < n
    within k n e h = omega (arith, ints, e, h)

pub integrates : (case : Parts) → IsCase case → (b : ℕ) (x : Pseudo) (p : Point) (past : List Moment) → IsPseudoAt case b x → IsCoil case x p → AreSteps case x past → IntegratesItsVoltage case.run.dt p past
integrates case fits b x p [] there coil steps = tt
integrates case fits b x p (m ∷ past) there coil steps =
    let dt = case.run.dt in
    let flux = adds_up case x (m ∷ past) coil.reactor steps in
    let part : unsigned_abs (p.current *ℤ (pos (2 * 10 ^ 9) *ℤ m.state.flux -ℤ dt *ℤ driven (m ∷ past))) ≤ unsigned_abs p.current * (10 ^ 9 * length (m ∷ past)) =
    omega (arith, unsigned_abs-mul p.current (pos (2 * 10 ^ 9) *ℤ m.state.flux -ℤ dt *ℤ driven (m ∷ past)), mul-le (unsigned_abs p.current) (unsigned_abs (pos (2 * 10 ^ 9) *ℤ m.state.flux -ℤ dt *ℤ driven (m ∷ past))) (unsigned_abs p.current) (10 ^ 9 * length (m ∷ past)) (omega arith) flux) in
    let spread : p.current *ℤ (pos (2 * 10 ^ 9) *ℤ m.state.flux -ℤ dt *ℤ driven (m ∷ past)) ≡ pos (2 * 10 ^ 9) *ℤ (p.current *ℤ m.state.flux) -ℤ p.current *ℤ (dt *ℤ driven (m ∷ past)) =
    mul_sub p.current (pos (2 * 10 ^ 9) *ℤ m.state.flux) (dt *ℤ driven (m ∷ past)) ∙ ap (λ y. y -ℤ p.current *ℤ (dt *ℤ driven (m ∷ past))) (swapped p.current (pos (2 * 10 ^ 9)) m.state.flux) in
    joined (p.other *ℤ m.state.current) (p.current *ℤ m.state.flux) (p.current *ℤ (dt *ℤ driven (m ∷ past))) (p.current *ℤ (pos (2 * 10 ^ 9) *ℤ m.state.flux -ℤ dt *ℤ driven (m ∷ past)))
    (unsigned_abs p.other * (3 * 10 ^ 12 + unsigned_abs ((newest past).voltage +ℤ m.voltage))) (unsigned_abs p.current) (length (m ∷ past)) spread (lies_latest case fits b x p (m ∷ past) there coil steps) part
  where
    joined : (fi iy iv w : ℤ) (f i n : ℕ) → w ≡ pos (2 * 10 ^ 9) *ℤ iy -ℤ iv → 2 * 10 ^ 12 * unsigned_abs (fi -ℤ iy) ≤ f + 10 ^ 12 * i → unsigned_abs w ≤ i * (10 ^ 9 * n)
        → 1000 * unsigned_abs (pos (2 * 10 ^ 9) *ℤ fi -ℤ iv) ≤ f + 10 ^ 12 * (i * (n + 1))
    joined fi iy iv w f i n is near far =
        let apart : unsigned_abs (pos (2 * 10 ^ 9) *ℤ fi -ℤ iv) ≤ 2 * 10 ^ 9 * unsigned_abs (fi -ℤ iy) + unsigned_abs w = omega (arith, ints, is) in
        omega (arith, apart, near, far)

-- ---- the energy

-- y is the flux, j and d the sum of the currents and the rise of the flux over a step, e what F i exceeds I y in both records
-- together
energy_is : (dt f i v j d y k e w : ℤ) → e ≡ f *ℤ j -ℤ i *ℤ y → w ≡ pos (2 * 10 ^ 9) *ℤ d -ℤ dt *ℤ v → d *ℤ y ≡ k
    → f *ℤ (dt *ℤ (v *ℤ j)) -ℤ pos (2 * 10 ^ 9) *ℤ (i *ℤ k) ≡ pos (2 * 10 ^ 9) *ℤ (d *ℤ e) -ℤ f *ℤ (w *ℤ j)
energy_is dt f i v j d y k e w is_e is_w is_k =
    let off : d *ℤ e ≡ f *ℤ (d *ℤ j) -ℤ i *ℤ k = ap (λ z. d *ℤ z) is_e ∙ mul_sub d (f *ℤ j) (i *ℤ y) ∙ ap (λ z. z -ℤ d *ℤ (i *ℤ y)) (swapped d f j) ∙ ap (λ z. f *ℤ (d *ℤ j) -ℤ z) (swapped d i y ∙ ap (λ z. i *ℤ z) is_k) in
    let lost : f *ℤ (w *ℤ j) ≡ pos (2 * 10 ^ 9) *ℤ (f *ℤ (d *ℤ j)) -ℤ f *ℤ (dt *ℤ (v *ℤ j)) =
    ap (λ z. f *ℤ (z *ℤ j)) is_w ∙ ap (λ z. f *ℤ z) (sub_mul (pos (2 * 10 ^ 9) *ℤ d) (dt *ℤ v) j ∙ ap (λ z. z -ℤ dt *ℤ v *ℤ j) (mul_assoc (pos (2 * 10 ^ 9)) d j) ∙ ap (λ z. pos (2 * 10 ^ 9) *ℤ (d *ℤ j) -ℤ z) (mul_assoc dt v j))
    ∙ mul_sub f (pos (2 * 10 ^ 9) *ℤ (d *ℤ j)) (dt *ℤ (v *ℤ j)) ∙ ap (λ z. z -ℤ f *ℤ (dt *ℤ (v *ℤ j))) (swapped f (pos (2 * 10 ^ 9)) (d *ℤ j)) in
    joined (f *ℤ (dt *ℤ (v *ℤ j))) (i *ℤ k) (d *ℤ e) (f *ℤ (w *ℤ j)) (f *ℤ (d *ℤ j)) off lost
  where
    joined : (p k e w q : ℤ) → e ≡ q -ℤ k → w ≡ pos (2 * 10 ^ 9) *ℤ q -ℤ p → p -ℤ pos (2 * 10 ^ 9) *ℤ k ≡ pos (2 * 10 ^ 9) *ℤ e -ℤ w
    joined p k e w q h l = omega (arith, ints, h, l)

energy_small : (z d e f w j : ℤ) (n : ℕ) → z ≡ pos (2 * 10 ^ 9) *ℤ (d *ℤ e) -ℤ f *ℤ (w *ℤ j) → 2 * 10 ^ 12 * unsigned_abs e ≤ n → unsigned_abs w ≤ 10 ^ 9
    → 1000 * unsigned_abs z ≤ unsigned_abs d * n + 10 ^ 12 * (unsigned_abs f * unsigned_abs j)
energy_small z d e f w j n is near low =
    let first : unsigned_abs d * (2 * 10 ^ 12 * unsigned_abs e) ≤ unsigned_abs d * n = mul-le (unsigned_abs d) (2 * 10 ^ 12 * unsigned_abs e) (unsigned_abs d) n (omega arith) near in
    let second : unsigned_abs w * (unsigned_abs f * unsigned_abs j) ≤ 10 ^ 9 * (unsigned_abs f * unsigned_abs j) = mul-le (unsigned_abs w) (unsigned_abs f * unsigned_abs j) (10 ^ 9) (unsigned_abs f * unsigned_abs j) low (omega arith) in
    joined z (d *ℤ e) (f *ℤ (w *ℤ j)) (unsigned_abs d) (unsigned_abs e) (unsigned_abs f) (unsigned_abs w) (unsigned_abs j) n is (unsigned_abs-mul d e) (unsigned_abs-mul f (w *ℤ j) ∙ ap (λ (y : ℕ). unsigned_abs f * y) (unsigned_abs-mul w j)) first second
  where
    joined : (z p q : ℤ) (d e f w j n : ℕ) → z ≡ pos (2 * 10 ^ 9) *ℤ p -ℤ q → unsigned_abs p ≡ d * e → unsigned_abs q ≡ f * (w * j) → d * (2 * 10 ^ 12 * e) ≤ d * n → w * (f * j) ≤ 10 ^ 9 * (f * j) → 1000 * unsigned_abs z ≤ d * n + 10 ^ 12 * (f * j)
    joined z p q d e f w j n is in_p in_q first second =
        let apart : unsigned_abs z ≤ 2 * 10 ^ 9 * unsigned_abs p + unsigned_abs q = omega (arith, ints, is) in
        let of_p : 2 * 10 ^ 12 * unsigned_abs p ≤ d * n = omega (arith, in_p, first) in
        let of_q : unsigned_abs q ≤ 10 ^ 9 * (f * j) = omega (arith, in_q, second) in
        omega (arith, apart, of_p, of_q)

step_stores : (case : Parts) → IsCase case → (b : ℕ) (x : Pseudo) (p : Point) (m : Moment) (past : List Moment) → IsPseudoAt case b x → IsCoil case x p → AreSteps case x (m ∷ past)
    → 1000 * unsigned_abs (p.other *ℤ (case.run.dt *ℤ ((m.voltage +ℤ (newest past).voltage) *ℤ (m.state.current +ℤ (newest past).state.current))) -ℤ pos (2 * 10 ^ 9) *ℤ (p.current *ℤ (m.state.flux *ℤ m.state.flux -ℤ (newest past).state.flux *ℤ (newest past).state.flux)))
    ≤ coil_rounds p m past
step_stores case fits b x p m past there coil steps =
    let dt = case.run.dt in
    let n = newest past in
    let v = m.voltage +ℤ n.voltage in
    let j = m.state.current +ℤ n.state.current in
    let d = m.state.flux -ℤ n.state.flux in
    let y = m.state.flux +ℤ n.state.flux in
    let k = m.state.flux *ℤ m.state.flux -ℤ n.state.flux *ℤ n.state.flux in
    let e = off_line p (m ∷ past) +ℤ off_line p past in
    let w = pos (2 * 10 ^ 9) *ℤ d -ℤ dt *ℤ v in
    let s = segment_of true dt (points_of case.points x.first x.count) n.state.segment in
    let is_e : e ≡ p.other *ℤ j -ℤ p.current *ℤ y = both (p.other *ℤ m.state.current) (p.other *ℤ n.state.current) (p.current *ℤ m.state.flux) (p.current *ℤ n.state.flux) (p.other *ℤ j) (p.current *ℤ y) (mul_add p.other m.state.current n.state.current) (mul_add p.current m.state.flux n.state.flux) in
    energy_small (p.other *ℤ (dt *ℤ (v *ℤ j)) -ℤ pos (2 * 10 ^ 9) *ℤ (p.current *ℤ k)) d e p.other w j (line_rounds p (m ∷ past) + line_rounds p past)
    (energy_is dt p.other p.current v j d y k e w is_e refl (squares_rise m.state.flux n.state.flux))
    (added (off_line p (m ∷ past)) (off_line p past) (line_rounds p (m ∷ past)) (line_rounds p past) (lies_latest case fits b x p (m ∷ past) there coil steps) (lies_latest case fits b x p past there coil steps.1))
    (rises dt s n m.voltage m.state (reactor_stepped dt s n m.voltage m.state (as_reactor case x past m.voltage m.state coil.reactor steps.0)))
  where
    both : (a b c d j y : ℤ) → j ≡ a +ℤ b → y ≡ c +ℤ d → (a -ℤ c) +ℤ (b -ℤ d) ≡ j -ℤ y
    both a b c d j y e f = omega (arith, ints, e, f)

    added : (a b : ℤ) (m n : ℕ) → 2 * 10 ^ 12 * unsigned_abs a ≤ m → 2 * 10 ^ 12 * unsigned_abs b ≤ n → 2 * 10 ^ 12 * unsigned_abs (a +ℤ b) ≤ m + n
    added a b m n h k =
        let apart : unsigned_abs (a +ℤ b) ≤ unsigned_abs a + unsigned_abs b = omega (arith, ints) in
        omega (arith, apart, h, k)

pub stores : (case : Parts) → IsCase case → (b : ℕ) (x : Pseudo) (p : Point) (past : List Moment) → IsPseudoAt case b x → IsCoil case x p → AreSteps case x past → StoresItsEnergy case.run.dt p past
stores case fits b x p [] there coil steps = still (p.other *ℤ (case.run.dt *ℤ pos 0)) (p.current *ℤ (pos 0 *ℤ pos 0)) (twice p.other case.run.dt) (nothing p.current)
  where
    nothing : (g : ℤ) → g *ℤ pos 0 ≡ pos 0
    nothing g = omega (arith, ints)

    twice : (f g : ℤ) → f *ℤ (g *ℤ pos 0) ≡ pos 0
    twice f g = ap (λ z. f *ℤ z) (nothing g) ∙ nothing f

    still : (a b : ℤ) → a ≡ pos 0 → b ≡ pos 0 → 1000 * unsigned_abs (a -ℤ pos (2 * 10 ^ 9) *ℤ b) ≤ 0
    still a b e f = omega (arith, ints, e, f)
stores case fits b x p (m ∷ past) there coil steps =
    let dt = case.run.dt in
    let n = newest past in
    let one = (m.voltage +ℤ n.voltage) *ℤ (m.state.current +ℤ n.state.current) in
    let square = m.state.flux *ℤ m.state.flux in
    let before = n.state.flux *ℤ n.state.flux in
    added (p.other *ℤ (dt *ℤ (one +ℤ taken past))) (p.other *ℤ (dt *ℤ one)) (p.other *ℤ (dt *ℤ taken past)) (p.current *ℤ square) (p.current *ℤ (square -ℤ before)) (p.current *ℤ before) (coil_rounds p m past) (all_round p past)
    (ap (λ z. p.other *ℤ z) (mul_add dt one (taken past)) ∙ mul_add p.other (dt *ℤ one) (dt *ℤ taken past)) (mul_sub p.current square before)
    (step_stores case fits b x p m past there coil steps) (stores case fits b x p past there coil steps.1)
  where
    added : (all a b s d q : ℤ) (m n : ℕ) → all ≡ a +ℤ b → d ≡ s -ℤ q → 1000 * unsigned_abs (a -ℤ pos (2 * 10 ^ 9) *ℤ d) ≤ m → 1000 * unsigned_abs (b -ℤ pos (2 * 10 ^ 9) *ℤ q) ≤ n → 1000 * unsigned_abs (all -ℤ pos (2 * 10 ^ 9) *ℤ s) ≤ m + n
    added all a b s d q m n e f h k =
        let apart : unsigned_abs (all -ℤ pos (2 * 10 ^ 9) *ℤ s) ≤ unsigned_abs (a -ℤ pos (2 * 10 ^ 9) *ℤ d) + unsigned_abs (b -ℤ pos (2 * 10 ^ 9) *ℤ q) = omega (arith, ints, e, f) in
        omega (arith, apart, h, k)
