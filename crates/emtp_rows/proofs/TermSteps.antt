-- One term after another.
use Rattle.std.proofs.Common.{◌≡◌, ◌≢◌, ◌∙◌, sym, ap, ℕ, ◌+◌, ◌<◌, ◌≤◌, ◌==◌, ℤ, pos, ◌+ℤ◌, List, [], ◌∷◌, ◌++◌, length, length-append, slice_get, slice_index_or, slice_set, get_or, Option, Some, None, true, false, if◌then◌else◌, refl, inl, inr, arith}
use Rattle.std.proofs.lemmas.Bool.{cases_eq, cases_Bool}
use Rattle.std.proofs.lemmas.Int.{ints}
use Rattle.std.proofs.lemmas.List.{get_or-set_same, get_or-set_other}
use Rattle.std.proofs.lemmas.List.Elements.{All-push, All-nil}
use Rattle.std.proofs.lemmas.Option.{slice_get-get_or}
use Rattle.emtp_case.specs.Branch.{from_of, to_of}
use Rattle.emtp_case.specs.declared.branch.Branch.{Branch}
use Rattle.emtp_case.specs.declared.branch.Branch.TheVariants.{Lumped as OfLumped, Line as OfLine, Pseudo as OfPseudo, Phase as OfPhase}
use Rattle.emtp_case.specs.declared.case.Parts.{Parts}
use Rattle.emtp_rows.specs.declared.term.Amount.{Amount}
use Rattle.emtp_rows.specs.declared.term.Term.{Term}
use Rattle.emtp_case.specs.Sums.{total}
use Rattle.emtp_rows.specs.Nodal.{node_at}
use Rattle.emtp_rows.specs.held.Terms.{NodeTerm, amount_of, in_node, end_terms, terms_by, terms_at, Adds, AddsEnd, HasTerms, IsTerm, AmountIsThere, in_column}
use Rattle.emtp_case.proofs.Sums.{total-append, sum_below-more}
use Rattle.emtp_case.proofs.RowsOfNodes.{IsRowOf, is_number, isnt_number, node_low}

nothing_more : (x : ℤ) → x ≡ x +ℤ (pos 0 +ℤ pos 0)
nothing_more x = omega (arith, ints)

one_more : (x y : ℤ) → x +ℤ y ≡ x +ℤ (y +ℤ pos 0)
one_more x y = omega (arith, ints)

-- ground has no column
pub adds_ground : (case : Parts) (amount : Amount) (terms : List Term) → Adds case (record { node = 0; amount = amount } ∷ []) terms terms
adds_ground case amount terms = record {
  sums = λ own coupling j below.
      let apart : (0 == node_at case j) ≡ false = isnt_number 0 (node_at case j) (λ e. omega (arith, e, node_low case j below)) in
      rw apart (nothing_more (total (in_column own coupling j) terms));
  few = omega arith;
  exist = λ all. all;
}

column_is : (case : Parts) (n row j : ℕ) (x : ℤ) → IsRowOf case n row → j < length case.nodes → (if row == j then x else pos 0) ≡ (if n == node_at case j then x else pos 0)
column_is case n row j x is below = elim (cases_eq row j) [
  | inl same ↦
      let here : node_at case j ≡ n = ap (node_at case) (sym same) ∙ is.there in
      rw (is_number row j same, is_number n (node_at case j) (sym here)) refl
  | inr ne ↦
      let there : n ≢ node_at case j = λ e. ne (sym (is.only j below (sym e))) in
      rw (isnt_number row j ne, isnt_number n (node_at case j) there) refl
]

pub adds_term : (case : Parts) (n row : ℕ) (amount : Amount) (old new : List Term) → IsRowOf case n row → AmountIsThere (length case.branches) (length case.trios) amount → new ≡ old ++ record { column = row; amount = amount } ∷ []
    → Adds case (record { node = n; amount = amount } ∷ []) old new
adds_term case n row amount old new is there pushed =
    let t : Term = record { column = row; amount = amount } in
    let good : IsTerm (length case.nodes) (length case.branches) (length case.trios) t = record { column = is.within; amount = there } in
    record {
      sums = λ own coupling j below.
          ap (total (in_column own coupling j)) pushed
          ∙ total-append (in_column own coupling j) old t
          ∙ ap (λ x. total (in_column own coupling j) old +ℤ x) (column_is case n row j (amount_of own coupling amount) is below)
          ∙ one_more (total (in_column own coupling j) old) (if n == node_at case j then amount_of own coupling amount else pos 0);
      few = omega (arith, ap length pushed, length-append old (t ∷ []));
      exist = λ all.
          rw pushed (All-push (IsTerm (length case.nodes) (length case.branches) (length case.trios)) old t all good);
    }

-- nothing is added
pub adds_none : (case : Parts) (terms : List Term) → Adds case [] terms terms
adds_none case terms = record { sums = λ own coupling j below. omega (arith, ints); few = omega arith; exist = λ all. all }

-- one term, and then others
pub adds_then : (case : Parts) (first : NodeTerm) (more : List NodeTerm) (old mid new : List Term) → Adds case (first ∷ []) old mid → Adds case more mid new → Adds case (first ∷ more) old new
adds_then case first more old mid new one rest = record {
  sums = λ own coupling j below. omega (arith, ints, one.sums own coupling j below, rest.sums own coupling j below);
  few = omega (arith, one.few, rest.few);
  exist = λ all. rest.exist (one.exist all);
}

few_by : (case : Parts) (b : ℕ) (second : _) (x : Branch) → length (end_terms case b second x) ≤ 3
few_by case b second (OfLumped x) = omega arith
few_by case b second (OfLine x) = omega arith
few_by case b second (OfPseudo x) = omega arith
few_by case b second (OfPhase x) = omega arith

few_in : (case : Parts) (n b : ℕ) (x : Branch) → length (terms_by case n b (Some x)) ≤ 3
few_in case n b x = elim (cases_Bool (from_of x == n)) [
  | inl here ↦ rw here (few_by case b false x)
  | inr off ↦ elim (cases_Bool (to_of x == n)) [
    | inl here ↦ rw (off, here) (few_by case b true x)
    | inr none ↦ rw (off, none) (omega arith)
  ]
]

-- the terms of a branch at a node that is its first end, its second end, or neither
pub terms_first : (case : Parts) (n b : ℕ) (x : Branch) → slice_get case.branches b ≡ Some x → from_of x ≡ n → terms_at case n b ≡ end_terms case b false x
terms_first case n b x is end = ap (terms_by case n b) is ∙ by_test (is_number (from_of x) n end)
  where
    by_test : (from_of x == n) ≡ true → terms_by case n b (Some x) ≡ end_terms case b false x
    by_test e = rw e refl

pub terms_second : (case : Parts) (n b : ℕ) (x : Branch) → slice_get case.branches b ≡ Some x → from_of x ≢ n → to_of x ≡ n → terms_at case n b ≡ end_terms case b true x
terms_second case n b x is off end = ap (terms_by case n b) is ∙ by_tests (isnt_number (from_of x) n off) (is_number (to_of x) n end)
  where
    by_tests : (from_of x == n) ≡ false → (to_of x == n) ≡ true → terms_by case n b (Some x) ≡ end_terms case b true x
    by_tests e f = rw (e, f) refl

pub terms_none : (case : Parts) (n b : ℕ) (x : Branch) → slice_get case.branches b ≡ Some x → from_of x ≢ n → to_of x ≢ n → terms_at case n b ≡ []
terms_none case n b x is off none = ap (terms_by case n b) is ∙ by_tests (isnt_number (from_of x) n off) (isnt_number (to_of x) n none)
  where
    by_tests : (from_of x == n) ≡ false → (to_of x == n) ≡ false → terms_by case n b (Some x) ≡ []
    by_tests e f = rw (e, f) refl

-- no branch yet
pub terms_zero : (case : Parts) (n : ℕ) (terms : List Term) → terms ≡ [] → HasTerms case n 0 terms
terms_zero case n terms none = record {
  sums = λ own coupling j below. ap (total (in_column own coupling j)) none;
  few = omega (arith, ap length none);
  exist = rw none (All-nil (IsTerm (length case.nodes) (length case.branches) (length case.trios)));
}

few_at : (case : Parts) (n b : ℕ) (x : Option Branch) → length (terms_by case n b x) ≤ 3
few_at case n b None = omega arith
few_at case n b (Some x) = few_in case n b x

-- one branch more
pub terms_more : (case : Parts) (n count : ℕ) (old new : List Term) → HasTerms case n count old → Adds case (terms_at case n count) old new → HasTerms case n (count + 1) new
terms_more case n count old new had adds = record {
  sums = λ own coupling j below. omega (arith, ints, adds.sums own coupling j below, had.sums own coupling j below, sum_below-more count (λ b. total (in_node own coupling (node_at case j)) (terms_at case n b)));
  few = omega (arith, adds.few, had.few, few_at case n count (slice_get case.branches count));
  exist = adds.exist had.exist;
}

-- the branch that an index read
pub branch_read : (case : Parts) (bs : List Branch) (at : ℕ) (d : Branch) → bs ≡ case.branches → at < length case.branches → slice_get case.branches at ≡ Some (get_or bs at d)
branch_read case bs at d same there = slice_get-get_or case.branches at d there ∙ ap (λ xs. Some (get_or xs at d)) (sym same)

-- the same as an index read its ends
pub adds_first : (case : Parts) (n b : ℕ) (x : Branch) (ends : ℕ × ℕ) (old new : List Term) → slice_get case.branches b ≡ Some x → ends ≡ (from_of x, to_of x) → ends.0 ≡ n → Adds case (end_terms case b false x) old new → Adds case (terms_at case n b) old new
adds_first case n b x ends old new is are here adds =
    let e = terms_first case n b x is (sym (ap (λ (e : ℕ × ℕ). e.0) are) ∙ here) in
    rw e adds

pub adds_second : (case : Parts) (n b : ℕ) (x : Branch) (ends : ℕ × ℕ) (old new : List Term) → slice_get case.branches b ≡ Some x → ends ≡ (from_of x, to_of x) → ends.0 ≢ n → ends.1 ≡ n → Adds case (end_terms case b true x) old new → Adds case (terms_at case n b) old new
adds_second case n b x ends old new is are off here adds =
    let e = terms_second case n b x is (λ same. off (ap (λ (e : ℕ × ℕ). e.0) are ∙ same)) (sym (ap (λ (e : ℕ × ℕ). e.1) are) ∙ here) in
    rw e adds

pub adds_neither : (case : Parts) (n b : ℕ) (x : Branch) (ends : ℕ × ℕ) (terms : List Term) → slice_get case.branches b ≡ Some x → ends ≡ (from_of x, to_of x) → ends.0 ≢ n → ends.1 ≢ n → Adds case (terms_at case n b) terms terms
adds_neither case n b x ends terms is are off none =
    let e = terms_none case n b x is (λ same. off (ap (λ (e : ℕ × ℕ). e.0) are ∙ same)) (λ same. none (ap (λ (e : ℕ × ℕ). e.1) are ∙ same)) in
    rw e (adds_none case terms)

-- ---- all rows

-- each row holds the terms of the first `count` branches in the current equation of its node
abbrev pub HaveTerms : Parts → ℕ → List (List Term) → Type 0
HaveTerms case count rows = (i : ℕ) → i < length rows → HasTerms case (node_at case i) count (slice_index_or rows i [])

pub rows_zero : (case : Parts) (rows : List (List Term)) → ((i : ℕ) → slice_index_or rows i [] ≡ []) → HaveTerms case 0 rows
rows_zero case rows none = λ i below. terms_zero case (node_at case i) (slice_index_or rows i []) (none i)

pub rows_more : (case : Parts) (count : ℕ) (old new : List (List Term)) → length new ≡ length old → HaveTerms case count old
    → ((i : ℕ) → i < length old → Adds case (terms_at case (node_at case i) count) (slice_index_or old i []) (slice_index_or new i []))
    → HaveTerms case (count + 1) new
rows_more case count old new same had adds = λ i below. terms_more case (node_at case i) count (slice_index_or old i []) (slice_index_or new i []) (had i (omega arith)) (adds i (omega arith))

-- the terms of both ends of a branch
pub ends_added : (case : Parts) (b : ℕ) (x : Branch) (old mid new : List (List Term)) → slice_get case.branches b ≡ Some x → length mid ≡ length old → to_of x ≢ from_of x
    → AddsEnd case (from_of x) (end_terms case b false x) old mid → AddsEnd case (to_of x) (end_terms case b true x) mid new
    → (i : ℕ) → i < length old → Adds case (terms_at case (node_at case i) b) (slice_index_or old i []) (slice_index_or new i [])
ends_added case b x old mid new is same apart first second i below = elim (cases_eq (node_at case i) (from_of x)) [
  | inl here ↦
      let off : node_at case i ≢ to_of x = λ e. apart (sym e ∙ here) in
      rw (terms_first case (node_at case i) b x is (sym here), second.others i (omega arith) off) (first.here i below here)
  | inr off ↦ elim (cases_eq (node_at case i) (to_of x)) [
    | inl here ↦
        rw (terms_second case (node_at case i) b x is (λ e. off (sym e)) (sym here), ← first.others i below off) (second.here i (omega arith) here)
    | inr none ↦
        rw (terms_none case (node_at case i) b x is (λ e. off (sym e)) (λ e. none (sym e)), second.others i (omega arith) none, first.others i below off) (adds_none case (slice_index_or old i []))
  ]
]

-- those of one whose ends are the same node
pub end_added : (case : Parts) (b : ℕ) (x : Branch) (old new : List (List Term)) → slice_get case.branches b ≡ Some x → to_of x ≡ from_of x
    → AddsEnd case (from_of x) (end_terms case b false x) old new
    → (i : ℕ) → i < length old → Adds case (terms_at case (node_at case i) b) (slice_index_or old i []) (slice_index_or new i [])
end_added case b x old new is both first i below = elim (cases_eq (node_at case i) (from_of x)) [
  | inl here ↦ rw (terms_first case (node_at case i) b x is (sym here)) (first.here i below here)
  | inr off ↦
      rw (terms_none case (node_at case i) b x is (λ e. off (sym e)) (λ e. off (sym e ∙ both)), first.others i below off) (adds_none case (slice_index_or old i []))
]

-- ground has no row
pub ground_added : (case : Parts) (more : List NodeTerm) (rows : List (List Term)) → length rows ≡ length case.nodes → AddsEnd case 0 more rows rows
ground_added case more rows same = record {
  here = λ i below is. absurd (omega (arith, is, node_low case i (omega arith)));
  others = λ i below off. refl;
}

-- the row of a node is put
pub row_added : (case : Parts) (n row : ℕ) (more : List NodeTerm) (old : List (List Term)) (terms : List Term) → length old ≡ length case.nodes → IsRowOf case n row
    → Adds case more (slice_index_or old row []) terms → AddsEnd case n more old (slice_set old row terms)
row_added case n row more old terms same is adds =
    let inside : row < length old = omega (arith, is.within, same) in
    record {
      here = λ i below e. rw (is.only i (omega arith) e, get_or-set_same old row terms [] inside) adds;
      others = λ i below off. let other : i ≢ row = λ e. off (ap (node_at case) e ∙ is.there) in rw get_or-set_other refl;
    }
