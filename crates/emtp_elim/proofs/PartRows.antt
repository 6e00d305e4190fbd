-- A row on its way to be finished.
use Rattle.emtp_fix.specs.declared.limit.TheConstants.{LARGEST_ENTRY, LARGEST_RATIO}
use Rattle.std.proofs.Common.{◌≡◌, ◌≢◌, ℕ, zero, suc, ◌+◌, ◌<◌, ◌≤◌, ℤ, pos, unsigned_abs, List, length, Some, refl, ap, sym, ◌∙◌, inl, inr, add-one, arith}
use Rattle.std.specs.List.{All}
use Rattle.std.proofs.lemmas.List.{get_or_past, get_or_default}
use Rattle.std.proofs.lemmas.Bool.{cases_eq, cases_lt}
use Rattle.emtp_elim.specs.Matrix.{Matrix, item, row_of, entry}
use Rattle.emtp_elim.specs.held.Matrix.{AreWithin}
use Rattle.emtp_elim.specs.Elimination.{quotient, ratio, stage}
use Rattle.emtp_elim.specs.Fault.{row_fault}
use Rattle.emtp_elim.specs.held.Clearing.{IsFinishedRow, IsClearedRow, LeavesRangeAt}
use Rattle.emtp_elim.specs.held.Finished.{IsPartRow, IsNext, FinishesRow, FaultsRow}
use Rattle.emtp_elim.specs.declared.fault.RowCause.{RowCause}
use Rattle.emtp_elim.specs.declared.fault.RowCause.TheVariants.{Range, ZeroPivot}
use Rattle.emtp_elim.proofs.ClearedRows.{cleared_nothing}
use Rattle.emtp_elim.proofs.InRange.{StaysInRange, row_fault-none, row_fault-pivot, row_fault-range}
use Rattle.emtp_elim.proofs.Stages.{entry_start, entry_later}

-- row i stayed in range until the columns before k were cleared
pub record IsInRangeUpTo (rows : Matrix) (i k : ℕ) : Type 0 where
  pub entries : (h j : ℕ) → h ≤ k → h ≤ j → j < length (row_of rows i) → unsigned_abs (entry (stage rows h) i j) ≤ LARGEST_ENTRY
  pub ratios : (h : ℕ) → h < k → unsigned_abs (ratio (stage rows h) h i) ≤ LARGEST_RATIO

-- the columns before k have been cleared from the row that comes after the finished ones
pub record IsUnderWay (done : Matrix) (k : ℕ) (given work : List ℤ) : Type 0 where
  pub ratios : (j : ℕ) → j < k → unsigned_abs (item work j) ≤ LARGEST_RATIO
  pub entries : (j : ℕ) → k ≤ j → unsigned_abs (item work j) ≤ LARGEST_ENTRY
  pub part : (rows : Matrix) → IsNext rows done given → IsPartRow rows (length done) k work
  pub in_range : (rows : Matrix) → IsNext rows done given → IsInRangeUpTo rows (length done) k

-- ---- one step of one matrix

part_more : (rows : Matrix) (i k : ℕ) (work above new : List ℤ) → k < i → i < length rows → length above ≡ length work → length new ≡ length work
    → IsPartRow rows i k work → IsPartRow rows k k above → IsClearedRow k work above new → k < length work → IsPartRow rows i (suc k) new
part_more rows i k work above new later inside same_above same_new part upper cleared in_work =
    let ratio_is : item new k ≡ ratio (stage rows k) k i = cleared.ratio_is ∙ rw (part.entries k (omega arith) in_work, upper.entries k (omega arith) (omega arith)) refl in
    record {
      length_is = same_new ∙ part.length_is;
      ratios = λ j low. elim (cases_eq j k) [
        | inl here ↦ rw here ratio_is
        | inr other ↦ cleared.before j (omega arith) ∙ part.ratios j (omega arith)
      ];
      entries = λ j low in_new.
          let in_old : j < length work = omega arith in
          cleared.after j (omega arith) in_old
          ∙ rw (ratio_is, part.entries j (omega arith) in_old, upper.entries j (omega arith) (omega arith))
          (sym (entry_later rows k i j later (omega arith) inside (omega (arith, part.length_is))));
    }

in_range_more : (rows : Matrix) (i k : ℕ) (work above new : List ℤ) → length new ≡ length work → IsInRangeUpTo rows i k → IsPartRow rows i (suc k) new
    → IsClearedRow k work above new → IsInRangeUpTo rows i (suc k)
in_range_more rows i k work above new same_new was part cleared = record {
  entries = λ h j low from_on inside. elim (cases_eq h (suc k)) [
    | inl here ↦ rw (here, ← part.entries j (omega arith) (omega (arith, part.length_is))) (cleared.within j (omega arith) (omega (arith, part.length_is)))
    | inr earlier ↦ was.entries h j (omega arith) from_on inside
  ];
  ratios = λ h low. elim (cases_eq h k) [
    | inl here ↦ rw (here, ← part.ratios k (omega arith)) cleared.ratio_within
    | inr earlier ↦ was.ratios h (omega arith)
  ];
}

-- ---- the same, for every matrix that goes on with the row

pub within_from_all : (limit : ℕ) (xs : List ℤ) → All (λ x. unsigned_abs x ≤ limit) xs → AreWithin limit xs
within_from_all limit xs all i = elim (cases_lt i (length xs)) [
  | inl inside ↦ all i (pos 0) inside
  | inr outside ↦ rw (get_or_past xs i (pos 0) outside) (omega arith)
]

pub underway_start : (done : Matrix) (given : List ℤ) → AreWithin LARGEST_ENTRY given → IsUnderWay done 0 given given
underway_start done given small = record {
  ratios = λ j h. absurd (omega arith);
  entries = λ j h. small j;
  part = λ rows next. record {
    length_is = ap length (sym next.row_is);
    ratios = λ j h. absurd (omega arith);
    entries = λ j low inside. sym (entry_start rows (length done) j ∙ ap (λ row. item row j) next.row_is);
  };
  in_range = λ rows next. record {
    entries = λ h j low from_on inside. let first : h ≡ 0 = omega arith in
        rw (first, entry_start rows (length done) j, next.row_is) (small j);
    ratios = λ h low. absurd (omega arith);
  };
}

pub underway_more : (size k : ℕ) (done : Matrix) (given work new : List ℤ) → IsUnderWay done k given work → k < length done → length done < size
    → length work ≡ size → length new ≡ size → length (row_of done k) ≡ size → IsClearedRow k work (row_of done k) new
    → IsUnderWay done (k + 1) given new
underway_more size k done given work new was later few same_work same_new wide cleared =
    let part : (rows : Matrix) → IsNext rows done given → IsPartRow rows (length done) (suc k) new = λ rows next.
    part_more rows (length done) k work (row_of done k) new later next.within (omega (arith, wide)) (omega arith) (was.part rows next) (next.finished.finished k later) cleared (omega arith) in
    record {
      ratios = λ j low. elim (cases_eq j k) [
        | inl here ↦ rw here cleared.ratio_within
        | inr other ↦ rw (cleared.before j (omega arith)) (was.ratios j (omega arith))
      ];
      entries = λ j low. elim (cases_lt j size) [
        | inl inside ↦ cleared.within j (omega arith) (omega arith)
        | inr outside ↦ rw (get_or_past new j (pos 0) (omega arith)) (omega arith)
      ];
      part = λ rows next. rw (add-one k) (part rows next);
      in_range = λ rows next. rw (add-one k) (in_range_more rows (length done) k work (row_of done k) new (omega arith) (was.in_range rows next) (part rows next) cleared);
    }

-- a column that is clear already
pub underway_clear : (size k : ℕ) (done : Matrix) (given work : List ℤ) → IsUnderWay done k given work → k < length done → length done < size → length work ≡ size
    → length (row_of done k) ≡ size → item work k ≡ pos 0 → IsUnderWay done (k + 1) given work
underway_clear size k done given work was later few same_work wide clear =
    underway_more size k done given work work was later few same_work same_work wide (cleared_nothing k work (row_of done k) clear was.entries)

-- all columns before the first number
pub underway_from : (size first : ℕ) (done : Matrix) (given : List ℤ) → AreWithin LARGEST_ENTRY given → first ≤ length done → length done < size → length given ≡ size
    → ((i : ℕ) → i < length done → length (row_of done i) ≡ size) → ((j : ℕ) → j < first → item given j ≡ pos 0) → IsUnderWay done first given given
underway_from size zero done given small low few same wide clear = underway_start done given small
underway_from size (suc k) done given small low few same wide clear =
    let so_far = underway_from size k done given small (omega arith) few same wide (λ j below. clear j (omega arith)) in
    rw (← add-one k) (underway_clear size k done given given so_far (omega arith) few same (wide k (omega arith)) (clear k (omega arith)))

-- ---- faults

faults_for : (done : Matrix) (row : List ℤ) (cause : RowCause) → ((rows : Matrix) → IsNext rows done row → row_fault rows (length done) ≡ Some (record { row = length done; cause = cause })) → FaultsRow done row cause
faults_for done row cause is = record {
  row_fault = λ rows next. record {
    within = next.within;
    earlier = next.finished.good;
    is = is rows next;
  };
}

pub faults_start : (done : Matrix) (given : List ℤ) → (All (λ x. unsigned_abs x ≤ LARGEST_ENTRY) given → ⊥) → FaultsRow done given Range
faults_start done given out = faults_for done given Range (λ rows next. row_fault-range rows (length done) (λ in_range. out (λ j d inside.
    let same : length (row_of rows (length done)) ≡ length given = ap length next.row_is in
    let fine = in_range.entries 0 j (omega arith) (omega arith) (omega arith) in
    rw (get_or_default given j d (pos 0) inside) (rw (entry_start rows (length done) j, next.row_is) at fine))))

pub faults_clearing : (size k : ℕ) (done : Matrix) (given work : List ℤ) → IsUnderWay done k given work → k < length done → length done < size
    → length work ≡ size → IsFinishedRow size k (row_of done k) → LeavesRangeAt k work (row_of done k) → FaultsRow done given Range
faults_clearing size k done given work was later few same_work finished out = faults_for done given Range (λ rows next. row_fault-range rows (length done) (λ in_range.
    let part = was.part rows next in
    let upper = next.finished.finished k later in
    let ratio_is : quotient (item work k) (entry done k k) ≡ ratio (stage rows k) k (length done) =
    rw (part.entries k (omega arith) (omega arith), upper.entries k (omega arith) (omega (arith, finished.length_is))) refl in
    elim out [
      | inl ratio_out ↦ omega (arith, rw ratio_is at ratio_out, in_range.ratios k later)
      | inr (j, low, inside, entry_out) ↦
          let same = entry_later rows k (length done) j later low next.within (omega (arith, part.length_is)) in
          let large = rw (ratio_is, part.entries j (omega arith) inside, upper.entries j (omega arith) (omega (arith, finished.length_is)), ← same) at entry_out in
          omega (arith, large, in_range.entries (suc k) j (omega arith) (omega arith) (omega (arith, part.length_is)))
    ]))

in_range_all : (rows : Matrix) (i : ℕ) → IsInRangeUpTo rows i i → StaysInRange rows i
in_range_all rows i all = record { entries = all.entries; ratios = all.ratios }

pub faults_pivot : (size : ℕ) (done : Matrix) (given work : List ℤ) → IsUnderWay done (length done) given work → length done < size
    → length work ≡ size → item work (length done) ≡ pos 0 → FaultsRow done given ZeroPivot
faults_pivot size done given work all few same_work zero_pivot = faults_for done given ZeroPivot (λ rows next.
    row_fault-pivot rows (length done) (in_range_all rows (length done) (all.in_range rows next)) (sym ((all.part rows next).entries (length done) (omega arith) (omega arith)) ∙ zero_pivot))

pub finishes : (size : ℕ) (done : Matrix) (given work : List ℤ) → IsUnderWay done (length done) given work → length done < size
    → length work ≡ size → item work (length done) ≢ pos 0 → FinishesRow done given work
finishes size done given work all few same_work nonzero = record {
  finished = all.part;
  good = λ rows next.
      row_fault-none rows (length done) (in_range_all rows (length done) (all.in_range rows next)) (λ e. nonzero ((all.part rows next).entries (length done) (omega arith) (omega arith) ∙ e));
}
