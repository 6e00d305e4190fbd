-- Points of characteristics and tables are known by their lines.
use Rattle.std.proofs.Common.{◌≡◌, ◌≢◌, ◌∙◌, ap, refl, arith, ◌+◌, ◌^◌, ◌<◌, ◌≤◌, Bool, true, false, List, [], ◌∷◌, ℕ, suc, ℤ, pos, negsuc, unsigned_abs, length, get_or, drop, codes, decimal}
use Rattle.std.specs.Prelude.{All, ◌≤ℤ◌, ◌<ℤ◌}
use Rattle.std.proofs.lemmas.Int.{ints}
use Rattle.std.proofs.lemmas.List.{length-drop, length-take-le}
use Rattle.std.proofs.lemmas.List.Elements.{All-cons, All-from_get_or, All-get_or, All-nil, All-same}
use Rattle.emtp_case.specs.Branch.{origin, points_of}
use Rattle.emtp_case.specs.held.Branch.{IsCharacteristic, IsSegment}
use Rattle.emtp_case.specs.held.Control.{AreTimes, HasDevicePoints, IsTable}
use Rattle.emtp_case.specs.declared.branch.Point.{Point}
use Rattle.emtp_case.specs.declared.control.DeviceCode.{DeviceCode}
use Rattle.emtp_case.specs.declared.control.DeviceCode.TheVariants.{Counter, Delay, DelayedPulse, Derivative, EffectiveValue, Extreme, Gate, GateAbove, Integral, PeakHold, SampleHold, Selector, Table, Window}
use Rattle.emtp_listing.specs.ControlLines.{table_entries, table_line}
use Rattle.emtp_listing.specs.Law.{IsFree, AllFree}
use Rattle.emtp_listing.specs.Lines.{all_separated, head_text}
use Rattle.emtp_listing.specs.NetworkLines.{segment_entries, segment_line}
use Rattle.emtp_listing.proofs.Cut.{free-both, free-entries, fronts-same}
use Rattle.emtp_listing.proofs.Entries.{figure-marked, number-marked}
use Rattle.emtp_listing.proofs.Marks.{IsMark, comma, line_end, within}
use Rattle.emtp_listing.proofs.Numbers.{decimal-free, figure-same, number-same}

-- both numbers of a point are to 10^18 in magnitude
pub record IsSmallPoint (p : Point) : Type 0 where
  pub current : unsigned_abs p.current ≤ 10 ^ 18
  pub other : unsigned_abs p.other ≤ 10 ^ 18

-- both numbers of a point are from 0 to 10^18
record IsAbove (p : Point) : Type 0 where
  current : pos 0 ≤ℤ p.current
  other : pos 0 ≤ℤ p.other

small_above : (z : ℤ) → pos 0 ≤ℤ z → z ≤ℤ pos (10 ^ 18) → unsigned_abs z ≤ 10 ^ 18
small_above (pos x) least most = omega (arith, ints, most)
small_above (negsuc x) least most = absurd (omega (arith, ints, least))

above_next : (x y : ℤ) → pos 0 ≤ℤ x → x <ℤ y → pos 0 ≤ℤ y
above_next x y least less = omega (arith, ints, least, less)

-- so many points as there are
pub points-count : (points : List Point) (first count : ℕ) → first + count ≤ length points → length (points_of points first count) ≡ count
points-count points first count there = length-take-le count (drop first points) (omega (arith, there, length-drop first points))

-- ---- characteristics

rising_points : (reactor : Bool) (dt : ℤ) (a : Point) (ps : List Point) → IsAbove a
    → ((k : ℕ) → k < length ps → IsSegment reactor dt (get_or (a ∷ ps) k origin) (get_or ps k origin)) → All IsSmallPoint ps
rising_points reactor dt a [] above each = All-nil IsSmallPoint
rising_points reactor dt a (p ∷ ps) above each =
    let first = each 0 (omega arith) in
    let current = above_next a.current p.current above.current first.current_rises in
    let other = above_next a.other p.other above.other first.other_rises in
    All-cons IsSmallPoint p ps (record { current = small_above p.current current first.current_small; other = small_above p.other other first.other_small })
    (rising_points reactor dt p ps (record { current = current; other = other }) (λ k less. each (suc k) (omega (arith, less))))

pub characteristic-small : (reactor : Bool) (dt : ℤ) (ps : List Point) → IsCharacteristic reactor dt ps → All IsSmallPoint ps
characteristic-small reactor dt ps is = rising_points reactor dt origin ps (record { current = omega (arith, ints); other = omega (arith, ints) }) is

-- ---- tables and times

table-small : (ps : List Point) → IsTable ps → All IsSmallPoint ps
table-small ps is = All-from_get_or IsSmallPoint ps origin
    (λ i less. record { current = All-get_or (λ (p : Point). unsigned_abs p.current ≤ 10 ^ 18) ps i origin less is.inputs; other = All-get_or (λ (p : Point). unsigned_abs p.other ≤ 10 ^ 18) ps i origin less is.outputs })

times_point : (p : Point) → pos 0 ≤ℤ p.current → p.other ≤ℤ pos (10 ^ 18) → p.current <ℤ p.other → IsSmallPoint p
times_point p least most less =
    record { current = small_above p.current least (below p.current p.other most less); other = small_above p.other (above_next p.current p.other least less) most }
  where
    below : (x y : ℤ) → y ≤ℤ pos (10 ^ 18) → x <ℤ y → x ≤ℤ pos (10 ^ 18)
    below x y most less = omega (arith, ints, most, less)

times-small : (ps : List Point) → AreTimes ps → All IsSmallPoint ps
times-small ps is = All-from_get_or IsSmallPoint ps origin
    (λ i less. times_point (get_or ps i origin) (All-get_or (λ (p : Point). pos 0 ≤ℤ p.current) ps i origin less is.close)
    (All-get_or (λ (p : Point). p.other ≤ℤ pos (10 ^ 18)) ps i origin less is.open) (All-get_or (λ (p : Point). p.current <ℤ p.other) ps i origin less is.closes_first))

none-small : (code : DeviceCode) (ps : List Point) → code ≢ Table → code ≢ Window → HasDevicePoints code ps → All IsSmallPoint ps
none-small code ps other still has = All-same IsSmallPoint ps [] (has.none other still) (All-nil IsSmallPoint)

pub device-small : (code : DeviceCode) (ps : List Point) → HasDevicePoints code ps → All IsSmallPoint ps
device-small Table ps has = table-small ps (has.table refl)
device-small Window ps has = times-small ps (has.times refl)
device-small Gate ps has = none-small Gate ps (λ e. absurd (cc)) (λ e. absurd (cc)) has
device-small GateAbove ps has = none-small GateAbove ps (λ e. absurd (cc)) (λ e. absurd (cc)) has
device-small Delay ps has = none-small Delay ps (λ e. absurd (cc)) (λ e. absurd (cc)) has
device-small DelayedPulse ps has = none-small DelayedPulse ps (λ e. absurd (cc)) (λ e. absurd (cc)) has
device-small Integral ps has = none-small Integral ps (λ e. absurd (cc)) (λ e. absurd (cc)) has
device-small Derivative ps has = none-small Derivative ps (λ e. absurd (cc)) (λ e. absurd (cc)) has
device-small Selector ps has = none-small Selector ps (λ e. absurd (cc)) (λ e. absurd (cc)) has
device-small SampleHold ps has = none-small SampleHold ps (λ e. absurd (cc)) (λ e. absurd (cc)) has
device-small Extreme ps has = none-small Extreme ps (λ e. absurd (cc)) (λ e. absurd (cc)) has
device-small PeakHold ps has = none-small PeakHold ps (λ e. absurd (cc)) (λ e. absurd (cc)) has
device-small Counter ps has = none-small Counter ps (λ e. absurd (cc)) (λ e. absurd (cc)) has
device-small EffectiveValue ps has = none-small EffectiveValue ps (λ e. absurd (cc)) (λ e. absurd (cc)) has

-- ---- lines of two numbers

head-free : (b number : ℕ) → IsMark b → number < 2 ^ 32 → IsFree b (head_text (codes "point") number)
head-free b number mark small = free-both b (codes "point ") (decimal number) (mark.texts (codes "point ") refl) (decimal-free b number (omega (arith, mark.low)) (omega arith))

abbrev made : ℤ → ℤ → Point
made a b = record { current = a; other = b }

segment-entries-free : (b : ℕ) (reactor : Bool) (p : Point) → IsMark b → IsSmallPoint p → AllFree b (segment_entries reactor p)
segment-entries-free b false p mark is = (
  number-marked b (codes "current") 9 (codes "A") p.current mark refl refl (within p.current is.current),
  (number-marked b (codes "voltage") 9 (codes "V") p.other mark refl refl (within p.other is.other), tt),
)
segment-entries-free b true p mark is = (
  number-marked b (codes "current") 9 (codes "A") p.current mark refl refl (within p.current is.current),
  (number-marked b (codes "flux") 12 (codes "Wb") p.other mark refl refl (within p.other is.other), tt),
)

segment-entries-same : (reactor : Bool) (p q : Point) → IsSmallPoint p → IsSmallPoint q → segment_entries reactor p ≡ segment_entries reactor q → p ≡ q
segment-entries-same false p q is js e =
    ap (λ (v : ℤ). made v p.other) (number-same (codes "current") 9 (codes "A") p.current q.current (within p.current is.current) (within q.current js.current) (ap (λ (l : List (List ℕ)). get_or l 0 []) e))
    ∙ ap (λ (v : ℤ). made q.current v) (number-same (codes "voltage") 9 (codes "V") p.other q.other (within p.other is.other) (within q.other js.other) (ap (λ (l : List (List ℕ)). get_or l 1 []) e))
segment-entries-same true p q is js e =
    ap (λ (v : ℤ). made v p.other) (number-same (codes "current") 9 (codes "A") p.current q.current (within p.current is.current) (within q.current js.current) (ap (λ (l : List (List ℕ)). get_or l 0 []) e))
    ∙ ap (λ (v : ℤ). made q.current v) (number-same (codes "flux") 12 (codes "Wb") p.other q.other (within p.other is.other) (within q.other js.other) (ap (λ (l : List (List ℕ)). get_or l 1 []) e))

pub segment-free : (reactor : Bool) (number : ℕ) (p : Point) → number < 2 ^ 32 → IsSmallPoint p → IsFree 10 (segment_line reactor number p)
segment-free reactor number p small is =
    free-both 10 (head_text (codes "point") number) (all_separated (segment_entries reactor p)) (head-free 10 number line_end small)
    (free-entries 10 (segment_entries reactor p) (omega arith) (segment-entries-free 10 reactor p line_end is))

pub segment-same : (reactor : Bool) (number : ℕ) (p q : Point) → number < 2 ^ 32 → IsSmallPoint p → IsSmallPoint q → segment_line reactor number p ≡ segment_line reactor number q → p ≡ q
segment-same reactor number p q small is js e =
    let head = head-free 44 number comma small in
    let parts = fronts-same (head_text (codes "point") number) (head_text (codes "point") number) (segment_entries reactor p) (segment_entries reactor q) head head
    (segment-entries-free 44 reactor p comma is) (segment-entries-free 44 reactor q comma js) e in
    segment-entries-same reactor p q is js parts.1

-- the numbers of a table have no unit, those of a window are times

plain-free : (b : ℕ) (p : Point) → IsMark b → IsSmallPoint p → AllFree b (table_entries Table p)
plain-free b p mark is = (
  figure-marked b (codes "input") 9 [] p.current mark refl refl (within p.current is.current),
  (figure-marked b (codes "output") 9 [] p.other mark refl refl (within p.other is.other), tt),
)

plain-same : (p q : Point) → IsSmallPoint p → IsSmallPoint q → table_entries Table p ≡ table_entries Table q → p ≡ q
plain-same p q is js e =
    ap (λ (v : ℤ). made v p.other) (figure-same (codes "input") 9 [] p.current q.current (within p.current is.current) (within q.current js.current) (ap (λ (l : List (List ℕ)). get_or l 0 []) e))
    ∙ ap (λ (v : ℤ). made q.current v) (figure-same (codes "output") 9 [] p.other q.other (within p.other is.other) (within q.other js.other) (ap (λ (l : List (List ℕ)). get_or l 1 []) e))

table-entries-free : (b : ℕ) (code : DeviceCode) (p : Point) → IsMark b → IsSmallPoint p → AllFree b (table_entries code p)
table-entries-free b Window p mark is = (
  number-marked b (codes "close") 12 (codes "s") p.current mark refl refl (within p.current is.current),
  (number-marked b (codes "open") 12 (codes "s") p.other mark refl refl (within p.other is.other), tt),
)
table-entries-free b Counter p mark is = plain-free b p mark is
table-entries-free b Delay p mark is = plain-free b p mark is
table-entries-free b DelayedPulse p mark is = plain-free b p mark is
table-entries-free b Derivative p mark is = plain-free b p mark is
table-entries-free b EffectiveValue p mark is = plain-free b p mark is
table-entries-free b Extreme p mark is = plain-free b p mark is
table-entries-free b Gate p mark is = plain-free b p mark is
table-entries-free b GateAbove p mark is = plain-free b p mark is
table-entries-free b Integral p mark is = plain-free b p mark is
table-entries-free b PeakHold p mark is = plain-free b p mark is
table-entries-free b SampleHold p mark is = plain-free b p mark is
table-entries-free b Selector p mark is = plain-free b p mark is
table-entries-free b Table p mark is = plain-free b p mark is

table-entries-same : (code : DeviceCode) (p q : Point) → IsSmallPoint p → IsSmallPoint q → table_entries code p ≡ table_entries code q → p ≡ q
table-entries-same Window p q is js e =
    ap (λ (v : ℤ). made v p.other) (number-same (codes "close") 12 (codes "s") p.current q.current (within p.current is.current) (within q.current js.current) (ap (λ (l : List (List ℕ)). get_or l 0 []) e))
    ∙ ap (λ (v : ℤ). made q.current v) (number-same (codes "open") 12 (codes "s") p.other q.other (within p.other is.other) (within q.other js.other) (ap (λ (l : List (List ℕ)). get_or l 1 []) e))
table-entries-same Counter p q is js e = plain-same p q is js e
table-entries-same Delay p q is js e = plain-same p q is js e
table-entries-same DelayedPulse p q is js e = plain-same p q is js e
table-entries-same Derivative p q is js e = plain-same p q is js e
table-entries-same EffectiveValue p q is js e = plain-same p q is js e
table-entries-same Extreme p q is js e = plain-same p q is js e
table-entries-same Gate p q is js e = plain-same p q is js e
table-entries-same GateAbove p q is js e = plain-same p q is js e
table-entries-same Integral p q is js e = plain-same p q is js e
table-entries-same PeakHold p q is js e = plain-same p q is js e
table-entries-same SampleHold p q is js e = plain-same p q is js e
table-entries-same Selector p q is js e = plain-same p q is js e
table-entries-same Table p q is js e = plain-same p q is js e

pub table-free : (code : DeviceCode) (number : ℕ) (p : Point) → number < 2 ^ 32 → IsSmallPoint p → IsFree 10 (table_line code number p)
table-free code number p small is =
    free-both 10 (head_text (codes "point") number) (all_separated (table_entries code p)) (head-free 10 number line_end small)
    (free-entries 10 (table_entries code p) (omega arith) (table-entries-free 10 code p line_end is))

pub table-same : (code : DeviceCode) (number : ℕ) (p q : Point) → number < 2 ^ 32 → IsSmallPoint p → IsSmallPoint q → table_line code number p ≡ table_line code number q → p ≡ q
table-same code number p q small is js e =
    let head = head-free 44 number comma small in
    let parts = fronts-same (head_text (codes "point") number) (head_text (codes "point") number) (table_entries code p) (table_entries code q) head head
    (table-entries-free 44 code p comma is) (table-entries-free 44 code q comma js) e in
    table-entries-same code p q is js parts.1
