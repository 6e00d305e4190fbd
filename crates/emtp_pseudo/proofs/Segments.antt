-- The segments of a characteristic are in range, and a step leaves none of them out.
use Rattle.emtp_case.specs.held.RunData.{IsTimeStep}
use Rattle.std.proofs.Common.{◌≡◌, ℕ, zero, suc, ◌+◌, ◌*◌, ◌^◌, ◌<◌, ◌≤◌, ℤ, pos, negsuc, ◌+ℤ◌, ◌-ℤ◌, ◌*ℤ◌, ◌≤ℤ◌, ◌<ℤ◌, unsigned_abs, refl, sym, subst, arith, Bool, true, false, if◌then◌else◌, int_lt, nat_lt, List, length, take, drop, Option, Some, None, IfSome}
use Rattle.std.proofs.lemmas.Bool.{ltb-true}
use Rattle.std.proofs.lemmas.Int.{ints, unsigned_abs-mul}
use Rattle.std.proofs.lemmas.List.{length-take-le, length-drop}
use Rattle.std.proofs.lemmas.Nat.{mul-le}
use Rattle.std.proofs.Math.Nat.{mul-le-mul_right}
use Rattle.emtp_case.specs.Branch.{slope_of}
use Rattle.emtp_case.specs.held.Branch.{IsCharacteristic, IsSegment}
use Rattle.emtp_case.specs.held.Range.{IsBetween}
use Rattle.emtp_case.specs.declared.branch.Point.{Point}
use Rattle.emtp_fix.specs.Rounding.{near, near_abs}
use Rattle.emtp_fix.specs.declared.limit.TheConstants.{ATTO, LARGEST_ENTRY, LARGEST_VALUE}
use Rattle.emtp_fix.proofs.Nearest.{near_abs-high, unsigned_abs-near}
use Rattle.emtp_fix.proofs.Quotients.{conductance-small, near-nonneg, near-within}
use Rattle.emtp_pseudo.specs.Segment.{conductance_of, point_at, rise_of, outer_end, inner_end, outward, mirrored_end, mirrored, segment_of, next_segment, is_above, is_below}
use Rattle.emtp_pseudo.specs.held.Segment.{IsSound, IsPoint}
use Rattle.emtp_pseudo.specs.declared.segment.Segment.{Segment}

-- ---- ranges

-- the number of a branch's points
pub count_is : {X : Type 0} (ps : List X) (first count : ℕ) → first + count ≤ length ps → length (take count (drop first ps)) ≡ count
count_is ps first count h = length-take-le count (drop first ps) (omega (arith, h, length-drop first ps))

-- all points are in range
pub points_fit : (reactor : Bool) (dt : ℤ) (ps : List Point) (k : ℕ) → IsCharacteristic reactor dt ps → k ≤ length ps → IsPoint (point_at ps k)
points_fit reactor dt ps zero h within = record { current = record { least = omega (arith, ints); most = omega (arith, ints) }; other = record { least = omega (arith, ints); most = omega (arith, ints) } }
points_fit reactor dt ps (suc k) h within =
    let s = h k (omega (arith, within)) in
    let p = points_fit reactor dt ps k h (omega (arith, within)) in
    record {
      current = record { least = omega (arith, ints, s.current_rises, p.current.least); most = s.current_small };
      other = record { least = omega (arith, ints, s.other_rises, p.other.least); most = s.other_small };
    }

-- the conductance of a reactor's segment bounds its slope
flat_is : (dt di dy : ℤ) → IsTimeStep dt → pos 0 <ℤ di → pos 0 <ℤ dy → near (dt *ℤ di *ℤ pos 1000) (pos 2 *ℤ dy) ≤ℤ pos (10 ^ 17) → pos 0 ≤ℤ near (dt *ℤ di *ℤ pos 1000) (pos 2 *ℤ dy) → unsigned_abs di ≤ 3 * 10 ^ 11 * unsigned_abs dy
flat_is dt di dy step up up' small low =
    let n = unsigned_abs (dt *ℤ di *ℤ pos 1000) in
    let d = unsigned_abs (pos 2 *ℤ dy) in
    let d_is : d ≡ 2 * unsigned_abs dy = omega (arith, ints) in
    let above : 0 < d = omega (arith, ints, d_is, up') in
    let product : unsigned_abs (dt *ℤ di) ≡ unsigned_abs dt * unsigned_abs di = unsigned_abs-mul dt di in
    let least : 1000 * unsigned_abs di ≤ unsigned_abs dt * unsigned_abs di = mul-le-mul_right (unsigned_abs di) (omega (arith, ints, step.least)) in
    let n_is : n ≡ unsigned_abs (dt *ℤ di) * 1000 = omega (arith, ints) in
    let q : near_abs n d ≤ 10 ^ 17 = omega (arith, ints, unsigned_abs-near (dt *ℤ di *ℤ pos 1000) (pos 2 *ℤ dy), small, low) in
    let most : near_abs n d * d ≤ 10 ^ 17 * d = mul-le-mul_right d q in
    omega (arith, near_abs-high n d above, most, d_is, n_is, product, least)

-- so the current along it is far below the limits of 128 bits
pub along-small : (di dy x : ℤ) → unsigned_abs di ≤ 3 * 10 ^ 11 * unsigned_abs dy → unsigned_abs x ≤ 2 * LARGEST_VALUE → unsigned_abs (near (di *ℤ x) dy) ≤ 7 * 10 ^ 29
along-small di dy x flat small = near-within (di *ℤ x) dy (7 * 10 ^ 29)
    (omega (arith, unsigned_abs-mul di x, mul-le (unsigned_abs di) (unsigned_abs x) (3 * 10 ^ 11 * unsigned_abs dy) (2 * 10 ^ 18) flat (omega (arith, small))))

-- what holds where there is an end
chosen : (b : Bool) (y : ℤ) (P : Type 0) → (b ≡ true → P) → IfSome (if b then Some y else None) (λ (z : ℤ). P)
chosen true y P h = h refl
chosen false y P h = tt

chosen_small : (b : Bool) (y : ℤ) → unsigned_abs y ≤ LARGEST_VALUE → IfSome (if b then Some y else None) (λ (z : ℤ). unsigned_abs z ≤ LARGEST_VALUE)
chosen_small true y h = h
chosen_small false y h = tt

mirrored_small : (o : Option ℤ) → IfSome o (λ (z : ℤ). unsigned_abs z ≤ LARGEST_VALUE) → IfSome (mirrored_end o) (λ (z : ℤ). unsigned_abs z ≤ LARGEST_VALUE)
mirrored_small None h = tt
mirrored_small (Some y) h = omega (arith, ints, h)

pub outer_small : (reactor : Bool) (dt : ℤ) (ps : List Point) (k : ℕ) → IsCharacteristic reactor dt ps → k < length ps → IfSome (outer_end ps k) (λ (z : ℤ). unsigned_abs z ≤ LARGEST_VALUE)
outer_small reactor dt ps k h within =
    let p = points_fit reactor dt ps (suc k) h (omega (arith, within)) in
    chosen_small (nat_lt (k + 1) (length ps)) (point_at ps (suc k)).other (omega (arith, ints, p.other.least, p.other.most))

inner_small : (reactor : Bool) (dt : ℤ) (ps : List Point) (k : ℕ) → IsCharacteristic reactor dt ps → k < length ps → IfSome (inner_end ps k) (λ (z : ℤ). unsigned_abs z ≤ LARGEST_VALUE)
inner_small reactor dt ps zero h within = mirrored_small (outer_end ps zero) (outer_small reactor dt ps zero h within)
inner_small reactor dt ps (suc k) h within =
    let p = points_fit reactor dt ps (suc k) h (omega (arith, within)) in omega (arith, ints, p.other.least, p.other.most)

pub conductance_fits : (reactor : Bool) (dt : ℤ) (a b : Point) → IsSegment reactor dt a b → IsBetween 0 LARGEST_ENTRY (conductance_of reactor dt a b)
conductance_fits false dt a b h =
    let r = slope_of false dt a b in
    let small : unsigned_abs (near ATTO r) ≤ LARGEST_ENTRY = conductance-small r (omega (arith, ints, h.slope.least)) in
    let least : pos 0 ≤ℤ near ATTO r = near-nonneg ATTO r (omega (arith, ints)) (omega (arith, ints, h.slope.least)) in
    record { least = least; most = omega (arith, ints, small, least) }
conductance_fits true dt a b h = record { least = omega (arith, ints, h.slope.least); most = omega (arith, ints, h.slope.most) }

flat : (reactor : Bool) (dt : ℤ) (a b : Point) → IsTimeStep dt → IsSegment reactor dt a b → reactor ≡ true → unsigned_abs (rise_of a b).current ≤ 3 * 10 ^ 11 * unsigned_abs (rise_of a b).other
flat false dt a b step h e = absurd (cc)
flat true dt a b step h e = flat_is dt (b.current -ℤ a.current) (b.other -ℤ a.other) step (omega (arith, ints, h.current_rises)) (omega (arith, ints, h.other_rises)) h.slope.most (omega (arith, ints, h.slope.least))

pub segment_there : (reactor : Bool) (dt : ℤ) (ps : List Point) (k : ℕ) → IsCharacteristic reactor dt ps → k < length ps → IsSegment reactor dt (point_at ps k) (point_at ps (suc k))
segment_there reactor dt ps k h within = h k within

pub outward_sound : (reactor : Bool) (dt : ℤ) (ps : List Point) (k : ℕ) → IsTimeStep dt → IsCharacteristic reactor dt ps → k < length ps → IsSound reactor (outward reactor dt ps k)
outward_sound reactor dt ps k step h within =
    let a = points_fit reactor dt ps k h (omega (arith, within)) in
    let b = points_fit reactor dt ps (suc k) h (omega (arith, within)) in
    let s = segment_there reactor dt ps k h within in
    record {
      conductance = conductance_fits reactor dt (point_at ps k) (point_at ps (suc k)) s;
      base_current = omega (arith, ints, a.current.least, a.current.most);
      base_other = omega (arith, ints, a.other.least, a.other.most);
      rise_current = record { least = omega (arith, ints, s.current_rises); most = omega (arith, ints, s.current_rises, a.current.least, b.current.most) };
      rise_other = record { least = omega (arith, ints, s.other_rises); most = omega (arith, ints, s.other_rises, a.other.least, b.other.most) };
      flat = flat reactor dt (point_at ps k) (point_at ps (suc k)) step s;
      upper_end = outer_small reactor dt ps k h within;
      lower_end = inner_small reactor dt ps k h within;
    }

-- the same of one that is made as it is defined
pub made_sound : (reactor : Bool) (dt : ℤ) (ps : List Point) (k : ℕ) (s : Segment) → IsTimeStep dt → IsCharacteristic reactor dt ps → k < length ps → s ≡ outward reactor dt ps k → IsSound reactor s
made_sound reactor dt ps k s step h within is = subst (IsSound reactor) (sym is) (outward_sound reactor dt ps k step h within)

pub mirrored_sound : (reactor : Bool) (s : Segment) → IsSound reactor s → IsSound reactor (mirrored s)
mirrored_sound reactor s h = record {
  conductance = h.conductance;
  base_current = omega (arith, ints, h.base_current);
  base_other = omega (arith, ints, h.base_other);
  rise_current = h.rise_current;
  rise_other = h.rise_other;
  flat = h.flat;
  upper_end = mirrored_small s.lower h.lower_end;
  lower_end = mirrored_small s.upper h.upper_end;
}

-- ---- the next segment

pick : (b : Bool) (x y : ℤ) (m : ℕ) → unsigned_abs x < m → unsigned_abs y < m → unsigned_abs (if b then x else y) < m
pick true x y m p q = p
pick false x y m p q = q

next_in : (u l : Option ℤ) (k y : ℤ) (m : ℕ) → IfSome u (λ (z : ℤ). unsigned_abs (k +ℤ pos 1) < m) → IfSome l (λ (z : ℤ). unsigned_abs (k -ℤ pos 1) < m) → unsigned_abs k < m
    → unsigned_abs (if is_above y u then k +ℤ pos 1 else if is_below y l then k -ℤ pos 1 else k) < m
next_in None None k y m p q r = r
next_in None (Some z) k y m p q r = pick (int_lt y z) (k -ℤ pos 1) k m q r
next_in (Some x) None k y m p q r = pick (int_lt x y) (k +ℤ pos 1) k m p r
next_in (Some x) (Some z) k y m p q r = pick (int_lt x y) (k +ℤ pos 1) (if int_lt y z then k -ℤ pos 1 else k) m p (pick (int_lt y z) (k -ℤ pos 1) k m q r)

outer_room : (ps : List Point) (k : ℕ) → IfSome (outer_end ps k) (λ (z : ℤ). k + 1 < length ps)
outer_room ps k = chosen (nat_lt (k + 1) (length ps)) (point_at ps (suc k)).other (k + 1 < length ps) (λ e. ltb-true (k + 1) (length ps) e)

weaker : (o : Option ℤ) (P Q : Type 0) → (P → Q) → IfSome o (λ (z : ℤ). P) → IfSome o (λ (z : ℤ). Q)
weaker None P Q f h = tt
weaker (Some z) P Q f h = f h

mirrored_weaker : (o : Option ℤ) (P Q : Type 0) → (P → Q) → IfSome o (λ (z : ℤ). P) → IfSome (mirrored_end o) (λ (z : ℤ). Q)
mirrored_weaker None P Q f h = tt
mirrored_weaker (Some z) P Q f h = f h

inner_room : (ps : List Point) (k : ℕ) (m : ℕ) → k < length ps → m ≡ length ps → IfSome (inner_end ps k) (λ (z : ℤ). unsigned_abs (pos k -ℤ pos 1) < m)
inner_room ps zero m h e = mirrored_weaker (outer_end ps zero) (0 + 1 < length ps) (unsigned_abs (pos 0 -ℤ pos 1) < m) (λ room. omega (arith, ints, room, e)) (outer_room ps zero)
inner_room ps (suc k) m h e = omega (arith, ints, h, e)

-- a step stays among the segments
pub next_within : (reactor : Bool) (dt : ℤ) (ps : List Point) (k y : ℤ) → unsigned_abs k < length ps → unsigned_abs (next_segment (segment_of reactor dt ps k) k y) < length ps
unfolding segment_of
next_within reactor dt ps (pos k) y h =
    next_in (outer_end ps k) (inner_end ps k) (pos k) y (length ps)
    (weaker (outer_end ps k) (k + 1 < length ps) (unsigned_abs (pos k +ℤ pos 1) < length ps) (λ room. omega (arith, ints, room)) (outer_room ps k))
    (inner_room ps k (length ps) h refl)
    h
next_within reactor dt ps (negsuc k) y h =
    next_in (mirrored_end (inner_end ps (suc k))) (mirrored_end (outer_end ps (suc k))) (negsuc k) y (length ps)
    (omega (arith, ints, h))
    (mirrored_weaker (outer_end ps (suc k)) (suc k + 1 < length ps) (unsigned_abs (negsuc k -ℤ pos 1) < length ps) (λ room. omega (arith, ints, room)) (outer_room ps (suc k)))
    h
