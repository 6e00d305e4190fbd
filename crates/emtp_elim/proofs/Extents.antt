-- Between which columns a row has its numbers, once a column is cleared.
use Rattle.std.proofs.Common.{◌≡◌, ℕ, ◌+◌, ◌-◌, ◌<◌, ◌≤◌, ℤ, pos, List, length, slice_index, ap, ◌∙◌, inl, inr, arith}
use Rattle.std.proofs.lemmas.List.{get_or_past}
use Rattle.std.proofs.lemmas.Bool.{cases_eq, cases_lt}
use Rattle.emtp_elim.specs.Matrix.{item}
use Rattle.emtp_elim.specs.held.Clearing.{IsClearedRow}
use Rattle.emtp_elim.specs.held.Extent.{IsClearAfter, IsExtent}
use Rattle.emtp_elim.specs.held.Stored.{AreEntries, Packs}
use Rattle.emtp_elim.specs.declared.extent.Extent.{Extent}
use Rattle.emtp_elim.proofs.Entries.{entries_wider}
use Rattle.emtp_elim.proofs.Products.{less_product-zero_right}

-- one column is cleared by a row whose numbers end before the new end
pub extent_more : (first count k end new_end : ℕ) (old above new : List ℤ) → IsExtent old (record { first = first; diagonal = count; end = end })
    → IsClearedRow k old above new → first ≤ k → k < count → end ≤ new_end → new_end ≤ length new → length new ≡ length old → IsClearAfter above new_end
    → IsExtent new (record { first = first; diagonal = count; end = new_end })
extent_more first count k end new_end old above new was cleared low later farther inside same clear = record {
  low = was.low;
  high = omega (arith, was.high);
  within = inside;
  before = λ j here. cleared.before j (omega arith) ∙ was.before j here;
  after = λ j here. elim (cases_lt j (length old)) [
    | inl in_row ↦ cleared.after j (omega (arith, was.high)) in_row ∙ rw (was.after j (omega arith), clear j here) (less_product-zero_right (pos 0) (item new k))
    | inr outside ↦ get_or_past new j (pos 0) (omega arith)
  ];
}

-- a row has no later entries
pub clear_without : (row : List ℤ) (from size : ℕ) (columns : List ℕ) (values : List ℤ) (first last end : ℕ) → AreEntries row from size columns values first last
    → length row ≡ size → last ≤ first → from ≤ end → IsClearAfter row end
clear_without row from size columns values first last end entries long none low = λ j here. elim (cases_lt j size) [
  | inl in_row ↦ entries.others j (omega arith) in_row (λ e from_on inside. absurd (omega arith))
  | inr outside ↦ get_or_past row j (pos 0) (omega arith)
]

-- none comes after the last one
pub clear_after : (row : List ℤ) (from size : ℕ) (columns : List ℕ) (values : List ℤ) (first last end : ℕ) → AreEntries row from size columns values first last
    → length row ≡ size → first < last → slice_index columns (last - 1) < end → IsClearAfter row end
clear_after row from size columns values first last end entries long some greatest = λ j here. elim (cases_lt j size) [
  | inl in_row ↦ entries.others j (omega (arith, entries.low (last - 1) (omega arith) (omega arith))) in_row (λ e from_on inside same. elim (cases_eq e (last - 1)) [
    | inl there ↦ let column : slice_index columns e ≡ slice_index columns (last - 1) = ap (slice_index columns) there in omega arith
    | inr earlier ↦ omega (arith, entries.rising e (last - 1) from_on (omega arith) (omega arith))
  ])
  | inr outside ↦ get_or_past row j (pos 0) (omega arith)
]

-- the numbers on either side of the diagonal are put
pub ratios_packed : {row : List ℤ} {extent : Extent} {columns new_columns : List ℕ} {values new_values : List ℤ} {first last : ℕ} → IsExtent row extent
    → Packs row extent.first extent.diagonal columns new_columns values new_values first last → Packs row 0 extent.diagonal columns new_columns values new_values first last
ratios_packed is packs = record {
  entries = entries_wider _ _ _ _ _ _ _ _ _ (omega arith) (omega arith) (λ j low here. is.before j here) (λ j low here. absurd (omega arith)) packs.entries;
  same_columns = packs.same_columns;
  same_values = packs.same_values;
}

pub later_packed : {row : List ℤ} {extent : Extent} {size : ℕ} {columns new_columns : List ℕ} {values new_values : List ℤ} {first last : ℕ} → IsExtent row extent → length row ≡ size
    → Packs row (extent.diagonal + 1) extent.end columns new_columns values new_values first last → Packs row (extent.diagonal + 1) size columns new_columns values new_values first last
later_packed is long packs = record {
  entries = entries_wider _ _ _ _ _ _ _ _ _ (omega arith) (omega (arith, is.within)) (λ j low here. absurd (omega arith)) (λ j low here. is.after j low) packs.entries;
  same_columns = packs.same_columns;
  same_values = packs.same_values;
}
