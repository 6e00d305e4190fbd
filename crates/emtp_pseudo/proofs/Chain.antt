-- The chain of a step, link by link: at rest, and how far the segment moves.
use Rattle.std.proofs.Common.{◌≡◌, ◌∙◌, ap, refl, zero, suc, ◌+◌, ◌≤◌, pos, negsuc, ◌+ℤ◌, ◌-ℤ◌, ◌*ℤ◌, ◌≤ℤ◌, ℤ, List, length, Some, None, Option, IfSome, Bool, true, false, if◌then◌else◌, nat_lt, unsigned_abs, arith}
use Rattle.std.proofs.lemmas.Bool.Decides.{nat_tests}
use Rattle.std.proofs.lemmas.Int.{ints}
use Rattle.emtp_case.specs.Branch.{points_of}
use Rattle.emtp_case.specs.held.Branch.{IsPseudo}
use Rattle.emtp_case.specs.held.Sizes.{sizes_of}
use Rattle.emtp_case.specs.StepRecord.{no_pseudo}
use Rattle.emtp_case.specs.declared.branch.Pseudo.{Pseudo}
use Rattle.emtp_case.specs.declared.branch.PseudoState.{PseudoState}
use Rattle.emtp_case.specs.declared.case.Parts.{Parts}
use Rattle.emtp_fix.specs.Limit.{in_range, ◌>>=◌}
use Rattle.emtp_fix.specs.Rounding.{near}
use Rattle.emtp_fix.specs.declared.limit.TheConstants.{PICO}
use Rattle.emtp_fix.proofs.Quotients.{near-times_zero}
use Rattle.emtp_pseudo.specs.Pseudos.{newest, next_of, present}
use Rattle.emtp_pseudo.specs.Segment.{next_segment, is_above, is_below, mirrored_end, segment_of, outward, point_at}
use Rattle.emtp_pseudo.specs.Step.{DOUBLE_NANO, moment_at_rest, current_of, flux_of, history_current_of, next_state, place_of}
use Rattle.emtp_pseudo.specs.declared.moment.Moment.{Moment}
use Rattle.emtp_pseudo.specs.declared.segment.Segment.{Segment}
use Rattle.emtp_pseudo.proofs.Segments.{count_is, points_fit}

-- ---- one segment a step

one_further : (a b : Bool) (k : ℤ) → unsigned_abs ((if a then k +ℤ pos 1 else if b then k -ℤ pos 1 else k) -ℤ k) ≤ 1
one_further true b k = omega (arith, ints)
one_further false true k = omega (arith, ints)
one_further false false k = omega (arith, ints)

one_on : (reactor : Bool) (s : Segment) (m : Moment) (v : ℤ) (i flux : Option ℤ) → IfSome (i >>= (λ i. flux >>= (λ flux. Some (record { current = i; segment = next_segment s m.state.segment (place_of reactor flux v); flux = flux })))) (λ (state : PseudoState). unsigned_abs (state.segment -ℤ m.state.segment) ≤ 1)
one_on reactor s m v None flux = tt
one_on reactor s m v (Some i) None = tt
one_on reactor s m v (Some i) (Some flux) = one_further (is_above (place_of reactor flux v) s.upper) (is_below (place_of reactor flux v) s.lower) m.state.segment

pub one_segment : (case : Parts) (x : Pseudo) (past : List Moment) (v : ℤ) → IfSome (next_of case x past v) (λ (state : PseudoState). unsigned_abs (state.segment -ℤ (newest past).state.segment) ≤ 1)
unfolding next_state
one_segment case x past v = one_on x.reactor (present case x past) (newest past) v (in_range (current_of x.reactor (present case x past) (newest past) v)) (in_range (flux_of x.reactor case.run.dt (newest past) v))

-- ---- at rest

no_history : (reactor : Bool) (s : Segment) → s.base.current ≡ pos 0 → s.base.other ≡ pos 0 → history_current_of reactor s moment_at_rest ≡ pos 0
no_history false s ei ey =
    let none : near (s.conductance *ℤ s.base.other) PICO ≡ pos 0 = ap (λ z. near (s.conductance *ℤ z) PICO) ey ∙ near-times_zero s.conductance PICO in
    omega (arith, ints, none, ei)
no_history true s ei ey =
    let none : near (s.conductance *ℤ pos 0) PICO ≡ pos 0 = near-times_zero s.conductance PICO in
    let none' : near (s.rise.current *ℤ (pos 0 -ℤ s.base.other)) s.rise.other ≡ pos 0 = ap (λ z. near (s.rise.current *ℤ (pos 0 -ℤ z)) s.rise.other) ey ∙ near-times_zero s.rise.current s.rise.other in
    omega (arith, ints, none, none', ei)

no_flux : (reactor : Bool) (dt : ℤ) → flux_of reactor dt moment_at_rest (pos 0) ≡ pos 0
no_flux false dt = refl
no_flux true dt = omega (arith, ints, near-times_zero dt DOUBLE_NANO)

no_place : (reactor : Bool) → place_of reactor (pos 0) (pos 0) ≡ pos 0
no_place false = refl
no_place true = refl

-- a voltage or flux of 0 is neither above an end above 0 nor below its mirror image
stays_at : (b : Bool) (y : ℤ) → pos 0 ≤ℤ y → (if is_above (pos 0) (if b then Some y else None) then pos 0 +ℤ pos 1 else if is_below (pos 0) (mirrored_end (if b then Some y else None)) then pos 0 -ℤ pos 1 else pos 0) ≡ pos 0
stays_at false y h = refl
stays_at true (pos zero) h = refl
stays_at true (pos (suc n)) h = grind (arith, nat_tests)
stays_at true (negsuc n) h = absurd (omega (arith, ints, h))

pub rest_stays : (case : Parts) (x : Pseudo) (past : List Moment) → IsPseudo case.run (sizes_of case) case.points x → newest past ≡ moment_at_rest → next_of case x past (pos 0) ≡ Some no_pseudo
unfolding next_state segment_of
rest_stays case x past h e =
    let ps = points_of case.points x.first x.count in
    let s = outward x.reactor case.run.dt ps 0 in
    let i : current_of x.reactor s moment_at_rest (pos 0) ≡ pos 0 = omega (arith, ints, no_history x.reactor s refl refl, near-times_zero s.conductance PICO) in
    let p = points_fit x.reactor case.run.dt ps 1 h.characteristic (omega (arith, count_is case.points x.first x.count h.there, h.some)) in
    let k : next_segment s (pos 0) (place_of x.reactor (pos 0) (pos 0)) ≡ pos 0 = ap (next_segment s (pos 0)) (no_place x.reactor) ∙ stays_at (nat_lt (0 + 1) (length ps)) (point_at ps 1).other p.other.least in
    ap (λ (m : Moment). next_state x.reactor case.run.dt (segment_of x.reactor case.run.dt ps m.state.segment) m (pos 0)) e
    ∙ ap (λ z. in_range z >>= (λ i. in_range (flux_of x.reactor case.run.dt moment_at_rest (pos 0)) >>= (λ flux. Some (record { current = i; segment = next_segment s (pos 0) (place_of x.reactor flux (pos 0)); flux = flux })))) i
    ∙ ap (λ z. in_range z >>= (λ flux. Some (record { current = pos 0; segment = next_segment s (pos 0) (place_of x.reactor flux (pos 0)); flux = flux }))) (no_flux x.reactor case.run.dt)
    ∙ ap (λ k. Some (record { current = pos 0; segment = k; flux = pos 0 })) k
