-- A row that is written over zeros, and cleared again.
use Rattle.std.proofs.Common.{◌≡◌, ◌≢◌, ℕ, ◌+◌, ◌<◌, ◌≤◌, ℤ, pos, List, length, replicate, slice_set, length-set, refl, ap, ◌∙◌, inl, inr, arith}
use Rattle.std.proofs.lemmas.List.{get_or_past, get_or-replicate, get_or-set_same, get_or-set_other, length-replicate}
use Rattle.std.proofs.lemmas.Bool.{cases_eq, cases_lt}
use Rattle.emtp_elim.specs.Matrix.{item}
use Rattle.emtp_elim.specs.held.Extent.{IsExtent}
use Rattle.emtp_elim.specs.held.Written.{IsWritten}
use Rattle.emtp_elim.specs.held.WorkRow.{IsClearRow}
use Rattle.emtp_elim.specs.declared.extent.Extent.{Extent}

-- ---- zeros

-- a row whose numbers are 0 is clear
pub clear_by : (size : ℕ) (row : List ℤ) → length row ≡ size → ((j : ℕ) → j < length row → item row j ≡ pos 0) → IsClearRow size row
clear_by size row long each = record {
  length_is = long;
  zeros = λ j. elim (cases_lt j (length row)) [
    | inl inside ↦ each j inside
    | inr outside ↦ get_or_past row j (pos 0) outside
  ];
}

pub clear_replicate : (size : ℕ) (row : List ℤ) → row ≡ replicate size (pos 0) → IsClearRow size row
clear_replicate size row is =
    let long : length row ≡ size = ap length is ∙ length-replicate size (pos 0) in
    clear_by size row long (λ j inside. ap (λ xs. item xs j) is ∙ get_or-replicate size j (pos 0) (pos 0) (omega (arith, inside, long)))

-- nothing was written in it
pub written_nothing : (size first : ℕ) (row : List ℤ) → IsClearRow size row → IsWritten row first 0
written_nothing size first row clear = record {
  within = omega arith;
  before = λ j here. clear.zeros j;
  after = λ j here. clear.zeros j;
}

-- ---- one number more

pub written_more : (row : List ℤ) (first end column new_first new_end : ℕ) (v : ℤ) → IsWritten row first end → new_first ≤ first → new_first ≤ column → end ≤ new_end → column < new_end
    → new_end ≤ length row → IsWritten (slice_set row column v) new_first new_end
written_more row first end column new_first new_end v was low there high behind inside = record {
  within = omega (arith, inside, length-set row column v);
  before = λ j here. let other : j ≢ column = omega (arith, here, there) in rw get_or-set_other (was.before j (omega (arith, here, low)));
  after = λ j here. let other : j ≢ column = omega (arith, here, behind) in rw get_or-set_other (was.after j (omega (arith, here, high)));
}

-- ---- the extent

pub extent_written : (row : List ℤ) (first end diagonal least most : ℕ) → IsWritten row first end → least ≤ first → least ≤ diagonal → end ≤ most → diagonal < most → most ≤ length row
    → IsExtent row (record { first = least; diagonal = diagonal; end = most })
extent_written row first end diagonal least most was low there high behind inside = record {
  low = there;
  high = behind;
  within = inside;
  before = λ j here. was.before j (omega (arith, here, low));
  after = λ j here. was.after j (omega (arith, here, high));
}

-- a row with this extent, whose first columns are cleared
pub written_extent : (row : List ℤ) (extent : Extent) → IsExtent row extent → IsWritten row extent.first extent.end
written_extent row extent is = record { within = is.within; before = is.before; after = is.after }

-- one column more is cleared
pub cleared_more : (row : List ℤ) (j end : ℕ) → IsWritten row j end → j < end → IsWritten (slice_set row j (pos 0)) (j + 1) end
cleared_more row j end was inside = record {
  within = omega (arith, was.within, length-set row j (pos 0));
  before = λ i here. elim (cases_eq i j) [
    | inl same ↦ let in_row : j < length row = omega (arith, inside, was.within) in rw (same, get_or-set_same) refl
    | inr other ↦ rw get_or-set_other (was.before i (omega (arith, here, other)))
  ];
  after = λ i here. let other : i ≢ j = omega (arith, here, inside) in rw get_or-set_other (was.after i here);
}

-- all of them are
pub cleared_all : (row : List ℤ) (j end size : ℕ) → IsWritten row j end → end ≤ j → length row ≡ size → IsClearRow size row
cleared_all row j end size was past long = record {
  length_is = long;
  zeros = λ i. elim (cases_lt i j) [
    | inl before ↦ was.before i before
    | inr behind ↦ was.after i (omega (arith, behind, past))
  ];
}
