-- The entries of a row: its numbers that are not 0, side by side, with their columns.
use Rattle.std.proofs.Common.{◌≡◌, ◌≢◌, ◌⊎◌, ℕ, zero, suc, ◌+◌, ◌-◌, ◌<◌, ◌≤◌, nat_eq, ℤ, pos, List, length, slice_index, slice_set, refl, ap, sym, ◌∙◌, inl, inr, arith}
use Rattle.std.proofs.lemmas.List.{ext_get_or, get_or-set_same, get_or-set_other}
use Rattle.std.proofs.lemmas.List.FromFn.{length-map-range_with_len, get_or-map-range_with_len}
use Rattle.std.proofs.lemmas.Bool.{cases_eq, cases_lt, cond-true, cond-false, eq-eqb, ne_eqb}
use Rattle.emtp_elim.specs.Matrix.{item}
use Rattle.emtp_elim.specs.held.Stored.{number_in, dense_row, AreEntries}

-- one of the entries has this column
abbrev pub HasColumn : List ℕ → ℕ → ℕ → ℕ → Type 0
HasColumn columns first last j = (e : ℕ) × (first ≤ e) × (e < last) × (slice_index columns e ≡ j)

-- none of them has
abbrev pub LacksColumn : List ℕ → ℕ → ℕ → ℕ → Type 0
LacksColumn columns first last j = (e : ℕ) → first ≤ e → e < last → slice_index columns e ≢ j

pub cases_column : (columns : List ℕ) (first last j : ℕ) → HasColumn columns first last j ⊎ LacksColumn columns first last j
cases_column columns first zero j = inr (λ e low high. absurd (omega arith))
cases_column columns first (suc last) j = elim (cases_lt last first) [
  | inl before ↦ inr (λ e low high. absurd (omega arith))
  | inr inside ↦ elim (cases_eq (slice_index columns last) j) [
    | inl here ↦ inl (last, inside, omega arith, here)
    | inr other ↦ elim (cases_column columns first last j) [
      | inl (e, low, high, is) ↦ inl (e, low, omega arith, is)
      | inr none ↦ inr (λ e low high. elim (cases_eq e last) [
        | inl at ↦ rw at other
        | inr earlier ↦ none e low (omega arith)
      ])
    ]
  ]
]

-- ---- the entries of more and more columns

-- one column more, whose number is put after the entries
pub entries_more : (row : List ℤ) (from j : ℕ) (columns : List ℕ) (values : List ℤ) (first at : ℕ) (v : ℤ) → AreEntries row from j columns values first at
    → from ≤ j → at < length columns → at < length values → v ≡ item row j
    → AreEntries row from (j + 1) (slice_set columns at j) (slice_set values at v) first (at + 1)
entries_more row from j columns values first at v was low_j in_columns in_values v_is = record {
  order = omega (arith, was.order);
  few = omega (arith, was.few);
  low = λ e low high. elim (cases_eq e at) [
    | inl here ↦ rw (here, get_or-set_same) low_j
    | inr other ↦ rw get_or-set_other (was.low e low (omega arith))
  ];
  high = λ e low high. elim (cases_eq e at) [
    | inl here ↦ rw (here, get_or-set_same) (omega arith)
    | inr other ↦ rw get_or-set_other (omega (arith, was.high e low (omega arith)))
  ];
  rising = λ d e low before high.
      let earlier : d ≢ at = omega arith in
      elim (cases_eq e at) [
        | inl here ↦ rw (here, get_or-set_same, get_or-set_other) (was.high d low (omega arith))
        | inr other ↦ rw (get_or-set_other columns at d j 0 earlier, get_or-set_other columns at e j 0 other) (was.rising d e low before (omega arith))
      ];
  value_is = λ e low high. elim (cases_eq e at) [
    | inl here ↦ rw (here, get_or-set_same, get_or-set_same) v_is
    | inr other ↦ rw (get_or-set_other values at e v (pos 0) other, get_or-set_other columns at e j 0 other) (was.value_is e low (omega arith))
  ];
  others = λ h low high none. elim (cases_eq h j) [
    | inl here ↦ absurd (none at (omega (arith, was.order)) (omega arith) (get_or-set_same columns at j 0 in_columns ∙ sym here))
    | inr other ↦ was.others h low (omega arith) (λ e from_on before. let earlier : e ≢ at = omega arith in rw get_or-set_other at (none e from_on (omega arith)))
  ];
}

-- ---- the same entries elsewhere

pub entries_same : (row : List ℤ) (from upto : ℕ) (columns new_columns : List ℕ) (values new_values : List ℤ) (first last : ℕ) → AreEntries row from upto columns values first last
    → ((e : ℕ) → e < last → slice_index new_columns e ≡ slice_index columns e) → ((e : ℕ) → e < last → item new_values e ≡ item values e)
    → AreEntries row from upto new_columns new_values first last
entries_same row from upto columns new_columns values new_values first last was same_column same_value = record {
  order = was.order;
  few = was.few;
  low = λ e low high. rw (same_column e high) (was.low e low high);
  high = λ e low high. rw (same_column e high) (was.high e low high);
  rising = λ d e low before high. rw (same_column d (omega arith), same_column e high) (was.rising d e low before high);
  value_is = λ e low high. rw (same_value e high, same_column e high) (was.value_is e low high);
  others = λ j low high none. was.others j low high (λ e from_on before. rw (same_column e before) at (none e from_on before));
}

-- ---- entries in two parts

pub entries_joined : (row : List ℤ) (a b c : ℕ) (columns : List ℕ) (values : List ℤ) (first mid last : ℕ) → AreEntries row a b columns values first mid
    → AreEntries row b c columns values mid last → AreEntries row a c columns values first last
entries_joined row a b c columns values first mid last left right = record {
  order = omega (arith, left.order, right.order);
  few = omega (arith, left.few, right.few);
  low = λ e low high. elim (cases_lt e mid) [
    | inl in_left ↦ left.low e low in_left
    | inr in_right ↦ omega (arith, right.low e in_right high, left.few, left.order)
  ];
  high = λ e low high. elim (cases_lt e mid) [
    | inl in_left ↦ omega (arith, left.high e low in_left, right.few, right.order)
    | inr in_right ↦ right.high e in_right high
  ];
  rising = λ d e low before high. elim (cases_lt e mid) [
    | inl in_left ↦ left.rising d e low before in_left
    | inr in_right ↦ elim (cases_lt d mid) [
      | inl earlier ↦ omega (arith, left.high d low earlier, right.low e in_right high)
      | inr later ↦ right.rising d e later before high
    ]
  ];
  value_is = λ e low high. elim (cases_lt e mid) [
    | inl in_left ↦ left.value_is e low in_left
    | inr in_right ↦ right.value_is e in_right high
  ];
  others = λ j low high none. elim (cases_lt j b) [
    | inl in_left ↦ left.others j low in_left (λ e from_on before. none e from_on (omega (arith, right.order)))
    | inr in_right ↦ right.others j in_right high (λ e from_on before. none e (omega (arith, left.order)) before)
  ];
}

-- the same between columns that stand farther apart, where the row has only zeros besides
pub entries_wider : (row : List ℤ) (from upto low high : ℕ) (columns : List ℕ) (values : List ℤ) (first last : ℕ) → low ≤ from → upto ≤ high
    → ((j : ℕ) → low ≤ j → j < from → item row j ≡ pos 0) → ((j : ℕ) → upto ≤ j → j < high → item row j ≡ pos 0)
    → AreEntries row from upto columns values first last → AreEntries row low high columns values first last
entries_wider row from upto low high columns values first last lower higher before after was = record {
  order = was.order;
  few = omega (arith, was.few);
  low = λ e from_on inside. omega (arith, was.low e from_on inside);
  high = λ e from_on inside. omega (arith, was.high e from_on inside);
  rising = was.rising;
  value_is = was.value_is;
  others = λ j from_on inside none. elim (cases_lt j from) [
    | inl earlier ↦ before j from_on earlier
    | inr here ↦ elim (cases_lt j upto) [
      | inl among ↦ was.others j here among none
      | inr later ↦ after j later inside
    ]
  ];
}

-- ---- between two entries

-- column h comes after the entries before place e, and not after the others
pub record IsAt (columns : List ℕ) (first e last h : ℕ) : Type 0 where
  pub before : (d : ℕ) → first ≤ d → d < e → slice_index columns d < h
  pub after : (d : ℕ) → e ≤ d → d < last → h ≤ slice_index columns d

pub at_start : (row : List ℤ) (from upto : ℕ) (columns : List ℕ) (values : List ℤ) (first last h : ℕ) → AreEntries row from upto columns values first last
    → ((d : ℕ) → first ≤ d → d < last → h ≤ slice_index columns d) → IsAt columns first first last h
at_start row from upto columns values first last h entries after = record { before = λ d low high. absurd (omega arith); after = after }

pub at_end : (row : List ℤ) (from upto : ℕ) (columns : List ℕ) (values : List ℤ) (first last : ℕ) → AreEntries row from upto columns values first last
    → IsAt columns first last last upto
at_end row from upto columns values first last entries = record { before = entries.high; after = λ d low high. absurd (omega arith) }

pub at_entry : (row : List ℤ) (from upto : ℕ) (columns : List ℕ) (values : List ℤ) (first e last : ℕ) → AreEntries row from upto columns values first last
    → first ≤ e → e < last → IsAt columns first e last (slice_index columns e)
at_entry row from upto columns values first e last entries low_e inside = record {
  before = λ d low high. entries.rising d e low high inside;
  after = λ d low high. elim (cases_eq d e) [
    | inl here ↦ rw here (omega arith)
    | inr later ↦ omega (arith, entries.rising e d low_e (omega arith) high)
  ];
}

pub at_next : (row : List ℤ) (from upto : ℕ) (columns : List ℕ) (values : List ℤ) (first e last : ℕ) → AreEntries row from upto columns values first last
    → first ≤ e → e < last → IsAt columns first (e + 1) last (suc (slice_index columns e))
at_next row from upto columns values first e last entries low_e inside = record {
  before = λ d low high. elim (cases_eq d e) [
    | inl here ↦ rw here (omega arith)
    | inr earlier ↦ omega (arith, entries.rising d e low (omega arith) inside)
  ];
  after = λ d low high. omega (arith, entries.rising e d low_e (omega arith) high);
}

-- what a column without a number leaves as it is, is the same at two columns between the same entries
pub stands_still : {X : Type 0} (f : ℕ → X) (row : List ℤ) (from upto : ℕ) (columns : List ℕ) (values : List ℤ) (first e last a b : ℕ)
    → AreEntries row from upto columns values first last → IsAt columns first e last a → IsAt columns first e last b → from ≤ a → a ≤ b → b ≤ upto
    → ((j : ℕ) → from ≤ j → item row j ≡ pos 0 → f (suc j) ≡ f j) → f b ≡ f a
stands_still f row from upto columns values first e last a zero entries at_a at_b in_part low high still = let none : a ≡ zero = omega arith in ap f (sym none)
stands_still f row from upto columns values first e last a (suc b) entries at_a at_b in_part low high still = elim (cases_eq a (suc b)) [
  | inl same ↦ ap f (sym same)
  | inr below ↦
      let clear : item row b ≡ pos 0 = entries.others b (omega arith) (omega arith) (λ d from_on under is. elim (cases_lt d e) [
        | inl earlier ↦ omega (arith, at_a.before d from_on earlier)
        | inr later ↦ omega (arith, at_b.after d later under)
      ]) in
      let at_last : IsAt columns first e last b = record {
        before = λ d from_on earlier. omega (arith, at_a.before d from_on earlier);
        after = λ d later under. omega (arith, at_b.after d later under);
      } in
      still b (omega arith) clear ∙ stands_still f row from upto columns values first e last a b entries at_a at_last in_part (omega arith) (omega arith) still
]

-- ---- the row of the entries

number_in-found : (columns : List ℕ) (values : List ℤ) (first n d j : ℕ) → first ≤ d → d < first + n → slice_index columns d ≡ j
    → ((e : ℕ) → d < e → e < first + n → slice_index columns e ≢ j) → number_in columns values first n j ≡ item values d
number_in-found columns values first zero d j low inside is later = absurd (omega arith)
number_in-found columns values first (suc n) d j low inside is later = elim (cases_eq (first + n) d) [
  | inl here ↦ rw here (cond-true (nat_eq (slice_index columns d) j) _ _ (eq-eqb (slice_index columns d) j is))
  | inr other ↦ cond-false (nat_eq (slice_index columns (first + n)) j) _ _ (ne_eqb (slice_index columns (first + n)) j (later (first + n) (omega arith) (omega arith)))
      ∙ number_in-found columns values first n d j low (omega arith) is (λ e after before. later e after (omega arith))
]

number_in-none : (columns : List ℕ) (values : List ℤ) (first n j : ℕ) → ((e : ℕ) → first ≤ e → e < first + n → slice_index columns e ≢ j) → number_in columns values first n j ≡ pos 0
number_in-none columns values first zero j none = refl
number_in-none columns values first (suc n) j none =
    cond-false (nat_eq (slice_index columns (first + n)) j) _ _ (ne_eqb (slice_index columns (first + n)) j (none (first + n) (omega arith) (omega arith)))
    ∙ number_in-none columns values first n j (λ e low high. none e low (omega arith))

number_in-same : (columns new_columns : List ℕ) (values new_values : List ℤ) (first n j : ℕ) → ((e : ℕ) → e < first + n → slice_index new_columns e ≡ slice_index columns e)
    → ((e : ℕ) → e < first + n → item new_values e ≡ item values e) → number_in new_columns new_values first n j ≡ number_in columns values first n j
number_in-same columns new_columns values new_values first zero j same_column same_value = refl
number_in-same columns new_columns values new_values first (suc n) j same_column same_value =
    rw (same_column (first + n) (omega arith), same_value (first + n) (omega arith), number_in-same columns new_columns values new_values first n j (λ e h. same_column e (omega arith)) (λ e h. same_value e (omega arith))) refl

pub length-dense_row : (size : ℕ) (columns : List ℕ) (values : List ℤ) (first last : ℕ) → length (dense_row size columns values first last) ≡ size
unfolding dense_row
length-dense_row size columns values first last = length-map-range_with_len _ 0 size

item-dense_row : (size : ℕ) (columns : List ℕ) (values : List ℤ) (first last j : ℕ) → j < size
    → item (dense_row size columns values first last) j ≡ number_in columns values first (last - first) j
unfolding dense_row
item-dense_row size columns values first last j inside = get_or-map-range_with_len _ 0 size j j (pos 0) inside (omega arith)

pub dense_row_is : (row : List ℤ) (size : ℕ) (columns : List ℕ) (values : List ℤ) (first last : ℕ) → AreEntries row 0 size columns values first last → length row ≡ size
    → dense_row size columns values first last ≡ row
dense_row_is row size columns values first last all same =
    let long = length-dense_row size columns values first last in
    ext_get_or (pos 0) (dense_row size columns values first last) row (long ∙ sym same) (λ j h.
    let all_places : first + (last - first) ≡ last = omega (arith, all.order) in
    item-dense_row size columns values first last j (omega arith) ∙ elim (cases_column columns first last j) [
      | inl (d, low, high, is) ↦ number_in-found columns values first (last - first) d j low (omega arith) is (λ e after before here. omega (arith, all.rising d e low after (omega arith)))
          ∙ all.value_is d low high ∙ ap (item row) is
      | inr none ↦ number_in-none columns values first (last - first) j (λ e low before. none e low (omega arith)) ∙ sym (all.others j (omega arith) (omega arith) none)
    ])

-- the row is that of the entries alone
pub dense_row_same : (size : ℕ) (columns new_columns : List ℕ) (values new_values : List ℤ) (first last : ℕ) → first ≤ last
    → ((e : ℕ) → e < last → slice_index new_columns e ≡ slice_index columns e) → ((e : ℕ) → e < last → item new_values e ≡ item values e)
    → dense_row size new_columns new_values first last ≡ dense_row size columns values first last
dense_row_same size columns new_columns values new_values first last order same_column same_value =
    let new_long = length-dense_row size new_columns new_values first last in
    ext_get_or (pos 0) _ _ (new_long ∙ sym (length-dense_row size columns values first last)) (λ j h.
    item-dense_row size new_columns new_values first last j (omega arith)
    ∙ number_in-same columns new_columns values new_values first (last - first) j (λ e below. same_column e (omega arith)) (λ e below. same_value e (omega arith))
    ∙ sym (item-dense_row size columns values first last j (omega arith)))
