-- Odd symmetry: the last record and the voltage turned, current, flux and segment turn.
use Rattle.std.proofs.Common.{◌≡◌, ◌∙◌, ap, sym, refl, zero, suc, ℕ, ◌+◌, ◌<◌, pos, negsuc, neg_ℤ, ◌+ℤ◌, ◌-ℤ◌, ◌*ℤ◌, ◌≤ℤ◌, ◌≤◌, ℤ, List, length, Some, None, Option, option_map, Bool, true, false, if◌then◌else◌, int_lt, nat_lt, IfSome, inl, inr, arith}
use Rattle.std.proofs.lemmas.Bool.{cases_lt}
use Rattle.std.proofs.lemmas.Bool.Decides.{nat_tests}
use Rattle.std.proofs.lemmas.Int.{ints}
use Rattle.std.proofs.Math.IntN.{neg_ℤ-neg_ℤ}
use Rattle.emtp_case.specs.Branch.{points_of}
use Rattle.emtp_case.specs.held.Branch.{IsCharacteristic, IsPseudo}
use Rattle.emtp_case.specs.held.Sizes.{sizes_of}
use Rattle.emtp_case.specs.declared.branch.Point.{Point}
use Rattle.emtp_case.specs.declared.branch.Pseudo.{Pseudo}
use Rattle.emtp_case.specs.declared.case.Parts.{Parts}
use Rattle.emtp_fix.specs.Limit.{in_range, ◌>>=◌}
use Rattle.emtp_fix.specs.Rounding.{near}
use Rattle.emtp_fix.specs.declared.limit.TheConstants.{PICO}
use Rattle.emtp_fix.proofs.Quotients.{near-mul_neg}
use Rattle.emtp_fix.proofs.Ranges.{in_range_turned}
use Rattle.emtp_pseudo.specs.Laws.{mirrored_moment, mirrored_next}
use Rattle.emtp_pseudo.specs.Pseudos.{newest, next_of}
use Rattle.emtp_pseudo.specs.Segment.{segment_of, outward, mirrored, mirrored_end, outer_end, inner_end, is_above, is_below, next_segment, point_at}
use Rattle.emtp_pseudo.specs.Step.{DOUBLE_NANO, current_of, flux_of, place_of, history_current_of, next_state}
use Rattle.emtp_pseudo.specs.declared.moment.Moment.{Moment}
use Rattle.emtp_pseudo.specs.declared.segment.Segment.{Segment}
use Rattle.emtp_pseudo.proofs.Segments.{points_fit, segment_there}

-- ---- one step on a segment

pub history_turned : (reactor : Bool) (s : Segment) (m : Moment) → history_current_of reactor (mirrored s) (mirrored_moment m) ≡ neg_ℤ (history_current_of reactor s m)
history_turned false s m = omega (arith, ints, near-mul_neg s.conductance s.base.other PICO)
history_turned true s m =
    let apart : neg_ℤ m.state.flux -ℤ neg_ℤ s.base.other ≡ neg_ℤ (m.state.flux -ℤ s.base.other) = omega (arith, ints) in
    let share : near (s.rise.current *ℤ (neg_ℤ m.state.flux -ℤ neg_ℤ s.base.other)) s.rise.other ≡ neg_ℤ (near (s.rise.current *ℤ (m.state.flux -ℤ s.base.other)) s.rise.other) =
    ap (λ z. near (s.rise.current *ℤ z) s.rise.other) apart ∙ near-mul_neg s.rise.current (m.state.flux -ℤ s.base.other) s.rise.other in
    omega (arith, ints, share, near-mul_neg s.conductance m.voltage PICO)

pub current_turned : (reactor : Bool) (s : Segment) (m : Moment) (v : ℤ) → current_of reactor (mirrored s) (mirrored_moment m) (neg_ℤ v) ≡ neg_ℤ (current_of reactor s m v)
current_turned reactor s m v = omega (arith, ints, history_turned reactor s m, near-mul_neg s.conductance v PICO)

pub flux_turned : (reactor : Bool) (dt : ℤ) (m : Moment) (v : ℤ) → flux_of reactor dt (mirrored_moment m) (neg_ℤ v) ≡ neg_ℤ (flux_of reactor dt m v)
flux_turned false dt m v = refl
flux_turned true dt m v =
    let sum : neg_ℤ m.voltage +ℤ neg_ℤ v ≡ neg_ℤ (m.voltage +ℤ v) = omega (arith, ints) in
    let part : near (dt *ℤ (neg_ℤ m.voltage +ℤ neg_ℤ v)) DOUBLE_NANO ≡ neg_ℤ (near (dt *ℤ (m.voltage +ℤ v)) DOUBLE_NANO) =
    ap (λ z. near (dt *ℤ z) DOUBLE_NANO) sum ∙ near-mul_neg dt (m.voltage +ℤ v) DOUBLE_NANO in
    omega (arith, ints, part)

turned_twice : (o : Option ℤ) → mirrored_end (mirrored_end o) ≡ o
turned_twice None = refl
turned_twice (Some y) = ap Some (neg_ℤ-neg_ℤ y)

mirrored_twice : (s : Segment) → mirrored (mirrored s) ≡ s
mirrored_twice s = rw (neg_ℤ-neg_ℤ s.base.current, neg_ℤ-neg_ℤ s.base.other, turned_twice s.upper, turned_twice s.lower) refl

-- the segment on the other side is the mirror image
pub segment_turned : (reactor : Bool) (dt : ℤ) (ps : List Point) (k : ℤ) → segment_of reactor dt ps (neg_ℤ k) ≡ mirrored (segment_of reactor dt ps k)
unfolding segment_of
segment_turned reactor dt ps (pos zero) = ap (λ u. record (outward reactor dt ps zero) { upper = u }) (sym (turned_twice (outer_end ps zero)))
segment_turned reactor dt ps (pos (suc k)) = refl
segment_turned reactor dt ps (negsuc k) = sym (mirrored_twice (outward reactor dt ps (suc k)))

lt_turned : (a b : ℤ) → int_lt (neg_ℤ a) (neg_ℤ b) ≡ int_lt b a
lt_turned (pos zero) (pos zero) = refl
lt_turned (pos zero) (pos (suc n)) = grind (arith, nat_tests)
lt_turned (pos zero) (negsuc n) = grind (arith, nat_tests)
lt_turned (pos (suc m)) (pos zero) = grind (arith, nat_tests)
lt_turned (pos (suc m)) (pos (suc n)) = grind (arith, nat_tests)
lt_turned (pos (suc m)) (negsuc n) = refl
lt_turned (negsuc m) (pos zero) = grind (arith, nat_tests)
lt_turned (negsuc m) (pos (suc n)) = refl
lt_turned (negsuc m) (negsuc n) = grind (arith, nat_tests)

above_turned : (y : ℤ) (o : Option ℤ) → is_above (neg_ℤ y) (mirrored_end o) ≡ is_below y o
above_turned y None = refl
above_turned y (Some limit) = lt_turned limit y

below_turned : (y : ℤ) (o : Option ℤ) → is_below (neg_ℤ y) (mirrored_end o) ≡ is_above y o
below_turned y None = refl
below_turned y (Some limit) = lt_turned y limit

kept_turned : (x y : ℤ) → y ≡ neg_ℤ x → in_range y ≡ mirrored_end (in_range x)
kept_turned x y e = in_range_turned x y e ∙ by_cases (in_range x)
  where
    by_cases : (o : Option ℤ) → option_map neg_ℤ o ≡ mirrored_end o
    by_cases None = refl
    by_cases (Some y) = refl

-- where it isn't both above the upper and below the lower end
by_sides : (a b : Bool) (k : ℤ) → (a ≡ true → b ≡ false) → (if b then neg_ℤ k +ℤ pos 1 else if a then neg_ℤ k -ℤ pos 1 else neg_ℤ k) ≡ neg_ℤ (if a then k +ℤ pos 1 else if b then k -ℤ pos 1 else k)
by_sides true b k one = ap (λ (b : Bool). if b then neg_ℤ k +ℤ pos 1 else neg_ℤ k -ℤ pos 1) (one refl) ∙ (omega (arith, ints))
by_sides false true k one = omega (arith, ints)
by_sides false false k one = refl

pub next_turned : (s : Segment) (k y : ℤ) → (is_above y s.upper ≡ true → is_below y s.lower ≡ false) → next_segment (mirrored s) (neg_ℤ k) (neg_ℤ y) ≡ neg_ℤ (next_segment s k y)
next_turned s k y one = rw (above_turned y s.lower, below_turned y s.upper) (by_sides (is_above y s.upper) (is_below y s.lower) k one)

-- ---- the ends of a segment are in order

abbrev AreOrdered : Option ℤ → Option ℤ → Type 0
AreOrdered u l = IfSome u (λ (a : ℤ). IfSome l (λ (b : ℤ). b ≤ℤ a))

not_both : (a b y : ℤ) (t : Bool) → int_lt y b ≡ t → int_lt a y ≡ true → b ≤ℤ a → t ≡ false
not_both a b y true e f h = absurd (grind (arith, ints))
not_both a b y false e f h = refl

one_of : (u l : Option ℤ) (y : ℤ) → AreOrdered u l → is_above y u ≡ true → is_below y l ≡ false
one_of None None y h e = refl
one_of None (Some b) y h e = cc
one_of (Some a) None y h e = refl
one_of (Some a) (Some b) y h e = not_both a b y (int_lt y b) refl e h

at_origin : (t : Bool) (y : ℤ) → pos 0 ≤ℤ y → AreOrdered (if t then Some y else None) (mirrored_end (if t then Some y else None))
at_origin true y h = omega (arith, ints, h)
at_origin false y h = tt

further : (t : Bool) (x y : ℤ) → x ≤ℤ y → AreOrdered (if t then Some y else None) (Some x)
further true x y h = h
further false x y h = tt

outward_ordered : (reactor : Bool) (dt : ℤ) (ps : List Point) (k : ℕ) → IsCharacteristic reactor dt ps → k < length ps → AreOrdered (outer_end ps k) (inner_end ps k)
outward_ordered reactor dt ps zero h within =
    let p = points_fit reactor dt ps 1 h (omega (arith, within)) in at_origin (nat_lt (0 + 1) (length ps)) (point_at ps 1).other p.other.least
outward_ordered reactor dt ps (suc k) h within =
    let s = segment_there reactor dt ps (suc k) h within in
    further (nat_lt (suc k + 1) (length ps)) (point_at ps (suc k)).other (point_at ps (suc (suc k))).other (omega (arith, ints, s.other_rises))

mirrored_ordered : (u l : Option ℤ) → AreOrdered u l → AreOrdered (mirrored_end l) (mirrored_end u)
mirrored_ordered None None h = tt
mirrored_ordered None (Some b) h = tt
mirrored_ordered (Some a) None h = tt
mirrored_ordered (Some a) (Some b) h = omega (arith, ints, h)

-- past the last segment there is no outer end
outer_none : (ps : List Point) (k : ℕ) → length ps ≤ k → outer_end ps k ≡ None
outer_none ps k h = by_test (nat_lt (k + 1) (length ps)) (grind (arith, nat_tests))
  where
    by_test : (b : Bool) → b ≡ false → (if b then Some (point_at ps (suc k)).other else None) ≡ None
    by_test true e = absurd (cc)
    by_test false e = refl

pub ordered : (reactor : Bool) (dt : ℤ) (ps : List Point) (k : ℤ) → IsCharacteristic reactor dt ps → AreOrdered (segment_of reactor dt ps k).upper (segment_of reactor dt ps k).lower
unfolding segment_of
ordered reactor dt ps (pos k) h = elim (cases_lt k (length ps)) [
  | inl within ↦ outward_ordered reactor dt ps k h within
  | inr past ↦ rw (outer_none ps k past) tt
]
ordered reactor dt ps (negsuc k) h = elim (cases_lt (suc k) (length ps)) [
  | inl within ↦ mirrored_ordered (outer_end ps (suc k)) (inner_end ps (suc k)) (outward_ordered reactor dt ps (suc k) h within)
  | inr past ↦ rw (outer_none ps (suc k) past) tt
]

-- ---- the whole step

place_turned : (reactor : Bool) (flux v : ℤ) → place_of reactor (neg_ℤ flux) (neg_ℤ v) ≡ neg_ℤ (place_of reactor flux v)
place_turned false flux v = refl
place_turned true flux v = refl

chain_turned : (reactor : Bool) (s : Segment) (k v : ℤ) (o p : Option ℤ) → AreOrdered s.upper s.lower
    → (mirrored_end o >>= (λ i. mirrored_end p >>= (λ flux. Some (record { current = i; segment = next_segment (mirrored s) (neg_ℤ k) (place_of reactor flux (neg_ℤ v)); flux = flux }))))
    ≡ mirrored_next (o >>= (λ i. p >>= (λ flux. Some (record { current = i; segment = next_segment s k (place_of reactor flux v); flux = flux }))))
chain_turned reactor s k v None p h = refl
chain_turned reactor s k v (Some i) None h = refl
chain_turned reactor s k v (Some i) (Some flux) h =
    ap (λ z. Some (record { current = neg_ℤ i; segment = z; flux = neg_ℤ flux }))
    (ap (next_segment (mirrored s) (neg_ℤ k)) (place_turned reactor flux v) ∙ next_turned s k (place_of reactor flux v) (one_of s.upper s.lower (place_of reactor flux v) h))

pub step_turned : (reactor : Bool) (dt : ℤ) (s : Segment) (m : Moment) (v : ℤ) → AreOrdered s.upper s.lower → next_state reactor dt (mirrored s) (mirrored_moment m) (neg_ℤ v) ≡ mirrored_next (next_state reactor dt s m v)
unfolding next_state
step_turned reactor dt s m v h =
    let k = m.state.segment in
    ap (λ o. o >>= (λ i. in_range (flux_of reactor dt (mirrored_moment m) (neg_ℤ v)) >>= (λ flux. Some (record { current = i; segment = next_segment (mirrored s) (neg_ℤ k) (place_of reactor flux (neg_ℤ v)); flux = flux })))) (kept_turned (current_of reactor s m v) (current_of reactor (mirrored s) (mirrored_moment m) (neg_ℤ v)) (current_turned reactor s m v))
    ∙ ap (λ p. mirrored_end (in_range (current_of reactor s m v)) >>= (λ i. p >>= (λ flux. Some (record { current = i; segment = next_segment (mirrored s) (neg_ℤ k) (place_of reactor flux (neg_ℤ v)); flux = flux })))) (kept_turned (flux_of reactor dt m v) (flux_of reactor dt (mirrored_moment m) (neg_ℤ v)) (flux_turned reactor dt m v))
    ∙ chain_turned reactor s k v (in_range (current_of reactor s m v)) (in_range (flux_of reactor dt m v)) h

pub odd : (case : Parts) (x : Pseudo) (past turned : List Moment) (v : ℤ) → IsPseudo case.run (sizes_of case) case.points x → newest turned ≡ mirrored_moment (newest past) → next_of case x turned (neg_ℤ v) ≡ mirrored_next (next_of case x past v)
odd case x past turned v h e =
    let m = newest past in
    let ps = points_of case.points x.first x.count in
    ap (λ (n : Moment). next_state x.reactor case.run.dt (segment_of x.reactor case.run.dt ps n.state.segment) n (neg_ℤ v)) e
    ∙ ap (λ (s : Segment). next_state x.reactor case.run.dt s (mirrored_moment m) (neg_ℤ v)) (segment_turned x.reactor case.run.dt ps m.state.segment)
    ∙ step_turned x.reactor case.run.dt (segment_of x.reactor case.run.dt ps m.state.segment) m v (ordered x.reactor case.run.dt ps m.state.segment h.characteristic)
