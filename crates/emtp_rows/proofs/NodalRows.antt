-- The nodal matrix, entry by entry, and as its rows are filled.
use Rattle.emtp_case.specs.declared.limit.TheConstants.{MOST_BRANCHES, MOST_NODES}
use Rattle.std.proofs.Common.{◌≡◌, ◌≢◌, ◌∙◌, sym, ap, subst, ℕ, slice_get, ◌^◌, ◌<◌, ◌≤◌, ◌==◌, ℤ, pos, unsigned_abs, Bool, true, false, if◌then◌else◌, nat_lt, List, [], All, length, slice_index_or, refl, inl, inr, arith}
use Rattle.std.proofs.lemmas.Bool.{cases_lt, cases_Bool}
use Rattle.std.proofs.lemmas.Bool.Decides.{nat_tests}
use Rattle.std.proofs.lemmas.Int.{ints}
use Rattle.std.proofs.lemmas.Option.{slice_get_cases}
use Rattle.std.proofs.lemmas.List.{get_or_past, ext_get_or}
use Rattle.std.proofs.lemmas.List.FromFn.{length-map-range_with_len, get_or-map-range_with_len, fill_by_all}
use Rattle.emtp_elim.specs.Matrix.{item, row_of, entry}
use Rattle.emtp_elim.specs.held.Rows.{IsUnitRow, IsLawful}
use Rattle.emtp_elim.proofs.UnitRows.{IsTieRow}
use Rattle.emtp_fix.specs.declared.limit.TheConstants.{PICO}
use Rattle.emtp_case.specs.Branch.{from_of, to_of}
use Rattle.emtp_case.specs.held.Branch.{IsBranch}
use Rattle.emtp_case.specs.held.Case.{IsNetwork}
use Rattle.emtp_case.specs.held.Sizes.{sizes_of}
use Rattle.emtp_case.specs.declared.branch.Branch.{Branch}
use Rattle.emtp_case.specs.RowOrder.{order_of}
use Rattle.emtp_case.specs.declared.case.Parts.{Parts}
use Rattle.emtp_case.specs.declared.row_kind.RowKind.{RowKind}
use Rattle.emtp_case.specs.declared.row_kind.RowKind.TheVariants.{Kcl, Sum, Tie, Ground, Source}
use Rattle.emtp_rows.specs.declared.term.Term.{Term}
use Rattle.emtp_case.specs.Sums.{sum_below, total}
use Rattle.emtp_rows.specs.Nodal.{Nodal, between, node_at, current_entry, group_sum, entry_by, is_member, kind_at, unit, nodal_matrix}
use Rattle.emtp_case.specs.held.RowKinds.{AreKinds, TieIsThere}
use Rattle.emtp_rows.specs.held.Terms.{in_node, terms_at, IsHeld, IsSmall, HasAllTerms, AreRowTerms, kinds_from, in_column, filled_entry}
use Rattle.emtp_case.proofs.Sums.{sum_below_small, sum_below_same}
use Rattle.emtp_rows.proofs.Filled.{row_total_small}
use Rattle.emtp_case.proofs.RowsOfNodes.{fixed_within}
use Rattle.emtp_rows.proofs.Between.{terms_between}
use Rattle.emtp_rows.proofs.Phases.{branch_ends}

pub length-nodal_matrix : (s : Nodal) → length (nodal_matrix s) ≡ length s.case.nodes
unfolding nodal_matrix
length-nodal_matrix s = length-map-range_with_len _ 0 (length s.case.nodes)

pub length-nodal_row : (s : Nodal) (i : ℕ) → i < length s.case.nodes → length (row_of (nodal_matrix s) i) ≡ length s.case.nodes
unfolding nodal_matrix
length-nodal_row s i below = ap length (get_or-map-range_with_len _ 0 (length s.case.nodes) i i [] below (omega arith)) ∙ length-map-range_with_len _ 0 (length s.case.nodes)

pub nodal_entry : (s : Nodal) (i j : ℕ) → i < length s.case.nodes → j < length s.case.nodes → entry (nodal_matrix s) i j ≡ entry_by s i j (kind_at s.kinds i)
unfolding nodal_matrix
nodal_entry s i j below within =
    ap (λ row. item row j) (get_or-map-range_with_len _ 0 (length s.case.nodes) i i [] below (omega arith))
    ∙ get_or-map-range_with_len _ 0 (length s.case.nodes) j j (pos 0) within (omega arith)

-- ---- what is held is what the definition says

-- the terms of a row add up to the current equation of its node
row_is_current : (case : Parts) (rows : List (List Term)) (own coupling : List ℤ) (k j : ℕ) → IsNetwork case → HasAllTerms case rows → k < length rows → j < length case.nodes
    → total (in_column own coupling j) (slice_index_or rows k []) ≡ current_entry case own coupling (node_at case k) (node_at case j)
row_is_current case rows own coupling k j network terms below within =
    let n = node_at case k in
    let m = node_at case j in
    (terms k below).sums own coupling j within
    ∙ sum_below_same (length case.branches) (λ b. total (in_node own coupling m) (terms_at case n b)) (λ b. between case (item own b) coupling n m (slice_get case.branches b))
    (λ b there. elim ((slice_get_cases case.branches b).1) [
      | inl is ↦ rw is.2 (terms_between case own coupling n m b is.0 (ends_apart b is.0 is.1 is.3))
      | inr past ↦ absurd (omega (arith, there, past.0))
    ])
  where
    ends_apart : (b : ℕ) (x : Branch) → b < length case.branches → slice_index_or case.branches b x ≡ x → from_of x ≢ to_of x
    ends_apart b x there e = let is : IsBranch case.run (sizes_of case) case.points x = subst (IsBranch case.run (sizes_of case) case.points) e (network.branches b x there) in let ends = branch_ends case.run (sizes_of case) case.points x is in ends.apart

group_is : (case : Parts) (rows : List (List Term)) (own coupling : List ℤ) (kinds : List RowKind) (i j : ℕ) → IsNetwork case → HasAllTerms case rows → length rows ≡ length case.nodes → j < length case.nodes
    → sum_below (length rows) (λ k. if is_member kinds i k then total (in_column own coupling j) (slice_index_or rows k []) else pos 0) ≡ group_sum case kinds i (λ n. current_entry case own coupling n (node_at case j))
group_is case rows own coupling kinds i j network terms size within =
    let F : ℕ → ℤ = λ k. if is_member kinds i k then total (in_column own coupling j) (slice_index_or rows k []) else pos 0 in
    let G : ℕ → ℤ = λ k. if is_member kinds i k then current_entry case own coupling (node_at case k) (node_at case j) else pos 0 in
    let same : sum_below (length rows) F ≡ sum_below (length rows) G = sum_below_same (length rows) F G (λ k below. ap (λ x. if is_member kinds i k then x else pos 0) (row_is_current case rows own coupling k j network terms below within)) in
    same ∙ ap (λ n. sum_below n G) size

pub filled_is : (s : Nodal) (rows : List (List Term)) (i j : ℕ) (kind : RowKind) → IsNetwork s.case → HasAllTerms s.case rows → length rows ≡ length s.case.nodes → i < length s.case.nodes → j < length s.case.nodes
    → filled_entry rows s.own s.coupling s.kinds i j kind ≡ entry_by s i j kind
filled_is s rows i j Kcl network terms size below within = row_is_current s.case rows s.own s.coupling i j network terms (omega arith) within
filled_is s rows i j Sum network terms size below within = group_is s.case rows s.own s.coupling s.kinds i j network terms size within
filled_is s rows i j (Tie row) network terms size below within = refl
filled_is s rows i j Ground network terms size below within = refl
filled_is s rows i j Source network terms size below within = refl

-- a row by its entries
pub row_is : (s : Nodal) (rows : List (List Term)) (i : ℕ) (out : List ℤ) → IsNetwork s.case → HasAllTerms s.case rows → length rows ≡ length s.case.nodes → i < length s.case.nodes → length out ≡ length s.case.nodes
    → ((j : ℕ) → j < length out → item out j ≡ filled_entry rows s.own s.coupling s.kinds i j (kind_at s.kinds i)) → out ≡ row_of (nodal_matrix s) i
row_is s rows i out network terms size below long each = ext_get_or (pos 0) out (row_of (nodal_matrix s) i) (long ∙ sym (length-nodal_row s i below))
    (λ j inside. let within : j < length s.case.nodes = omega (arith, inside, long) in
    each j inside ∙ filled_is s rows i j (kind_at s.kinds i) network terms size below within ∙ sym (nodal_entry s i j below within))

-- ---- the law of rows

unit_own : (i : ℕ) → unit i i ≡ PICO
unit_own i = grind (arith, nat_tests)

unit_other : (i j : ℕ) → j ≢ i → unit i j ≡ pos 0
unit_other i j ne = grind (arith, nat_tests)

unit_small : (i j : ℕ) → unsigned_abs (unit i j) ≤ 10 ^ 12
unit_small i j = elim (cases_Bool (i == j)) [
  | inl same ↦ rw same (omega (arith, ints))
  | inr off ↦ rw off (omega (arith, ints))
]

-- what is held of a case is few and small
pub row_terms : (case : Parts) (rows : List (List Term)) (own coupling : List ℤ) → length case.branches ≤ MOST_BRANCHES → length rows ≡ length case.nodes → length own ≡ length case.branches → length coupling ≡ length case.trios → HasAllTerms case rows → AreRowTerms (length rows) (length own) (length coupling) rows
row_terms case rows own coupling few size own_size coupling_size terms k below =
    let here = terms k below in
    (omega (arith, here.few), rw (size, own_size, coupling_size) here.exist)

current_small : (case : Parts) (rows : List (List Term)) (own coupling : List ℤ) (k j : ℕ) → length case.branches ≤ MOST_BRANCHES → IsNetwork case → HasAllTerms case rows → All IsSmall own → All IsSmall coupling → k < length rows → j < length case.nodes
    → unsigned_abs (current_entry case own coupling (node_at case k) (node_at case j)) ≤ 10 ^ 22
current_small case rows own coupling k j few network terms small small' below within =
    let here = terms k below in
    let is = row_is_current case rows own coupling k j network terms below within in
    let least = row_total_small own coupling j (slice_index_or rows k []) small small' (omega (arith, here.few)) in
    rw (sym is) least

member_small : (b : Bool) (x : ℤ) (limit : ℕ) → unsigned_abs x ≤ limit → unsigned_abs (if b then x else pos 0) ≤ limit
member_small true x limit small = small
member_small false x limit small = omega (arith, ints)

entry_small : (s : Nodal) (rows : List (List Term)) (i j : ℕ) (kind : RowKind) → length s.case.branches ≤ MOST_BRANCHES → length s.case.nodes ≤ MOST_NODES → length rows ≡ length s.case.nodes → IsNetwork s.case → HasAllTerms s.case rows → All IsSmall s.own → All IsSmall s.coupling → i < length s.case.nodes → j < length s.case.nodes
    → unsigned_abs (entry_by s i j kind) ≤ 10 ^ 26
entry_small s rows i j Kcl few few_nodes size network terms small small' below within = omega (arith, current_small s.case rows s.own s.coupling i j few network terms small small' (omega arith) within)
entry_small s rows i j Sum few few_nodes size network terms small small' below within =
    let G : ℕ → ℤ = λ k. if is_member s.kinds i k then current_entry s.case s.own s.coupling (node_at s.case k) (node_at s.case j) else pos 0 in
    omega (arith, sum_below_small (length s.case.nodes) G (10 ^ 22) (λ k inside. member_small (is_member s.kinds i k) _ (10 ^ 22) (current_small s.case rows s.own s.coupling k j few network terms small small' (omega (arith, inside, size)) within)))
entry_small s rows i j (Tie row) few few_nodes size network terms small small' below within = omega (arith, ints, unit_small i j, unit_small row j)
entry_small s rows i j Ground few few_nodes size network terms small small' below within = omega (arith, unit_small i j)
entry_small s rows i j Source few few_nodes size network terms small small' below within = omega (arith, unit_small i j)

past_row : (s : Nodal) (i j : ℕ) → length s.case.nodes ≤ i → entry (nodal_matrix s) i j ≡ pos 0
past_row s i j past = ap (λ row. item row j) (get_or_past (nodal_matrix s) i [] (omega (arith, past, length-nodal_matrix s)))

past_column : (s : Nodal) (i j : ℕ) → i < length s.case.nodes → length s.case.nodes ≤ j → entry (nodal_matrix s) i j ≡ pos 0
past_column s i j below past = get_or_past (row_of (nodal_matrix s) i) j (pos 0) (omega (arith, past, length-nodal_row s i below))

-- a row whose entries are those of the unit matrix
unit_row : (s : Nodal) (i : ℕ) → i < length s.case.nodes → ((j : ℕ) → entry_by s i j (kind_at s.kinds i) ≡ unit i j) → IsUnitRow (nodal_matrix s) i
unit_row s i below each = record {
  own = nodal_entry s i i below below ∙ each i ∙ unit_own i;
  others = λ j ne. elim (cases_lt j (length s.case.nodes)) [
    | inl within ↦ nodal_entry s i j below within ∙ each j ∙ unit_other i j ne
    | inr past ↦ past_column s i j below past
  ];
}

pub source_row : (s : Nodal) (i : ℕ) → i < length s.case.nodes → kind_at s.kinds i ≡ Source → IsUnitRow (nodal_matrix s) i
source_row s i below is = unit_row s i below (λ j. ap (entry_by s i j) is)

pub ground_row : (s : Nodal) (i : ℕ) → i < length s.case.nodes → kind_at s.kinds i ≡ Ground → IsUnitRow (nodal_matrix s) i
ground_row s i below is = unit_row s i below (λ j. ap (entry_by s i j) is)

-- a row that is tied to another one
pub tie_row : (s : Nodal) (i r : ℕ) → i < length s.case.nodes → r < length s.case.nodes → r ≢ i → kind_at s.kinds i ≡ Tie r → IsTieRow (nodal_matrix s) i r
tie_row s i r below there ne is = record {
  own = nodal_entry s i i below below ∙ ap (entry_by s i i) is ∙ omega (arith, ints, unit_own i, unit_other r i (λ e. ne (sym e)));
  other = nodal_entry s i r below there ∙ ap (entry_by s i r) is ∙ omega (arith, ints, unit_own r, unit_other i r ne);
  apart = ne;
  rest = λ j a b within. nodal_entry s i j below (omega (arith, within, length-nodal_matrix s)) ∙ ap (entry_by s i j) is ∙ omega (arith, ints, unit_other i j a, unit_other r j b);
}

pub nodal_lawful : (s : Nodal) (fixed touched : ℕ) (ends : List (ℕ × ℕ)) (rows : List (List Term)) → IsHeld s.case fixed touched ends rows s.own s.coupling s.kinds → IsNetwork s.case → length s.case.nodes ≤ MOST_NODES → length s.case.branches ≤ MOST_BRANCHES → IsLawful (nodal_matrix s) (order_of s.case).fixed
nodal_lawful s fixed touched ends rows held network few_nodes few = record {
  few = omega (arith, length-nodal_matrix s, few_nodes);
  square = λ i below. length-nodal_row s i (omega (arith, below, length-nodal_matrix s)) ∙ sym (length-nodal_matrix s);
  fixed_first = omega (arith, length-nodal_matrix s, fixed_within s.case);
  units = λ i below. source_row s i (omega (arith, below, fixed_within s.case)) (held.kinds_are.sources i (omega (arith, below, held.fixed_is)));
  limit = λ i j. elim (cases_lt i (length s.case.nodes)) [
    | inl below ↦ elim (cases_lt j (length s.case.nodes)) [
      | inl within ↦ rw (nodal_entry s i j below within) (entry_small s rows i j (kind_at s.kinds i) few few_nodes held.rows_count network held.terms held.own_small held.mutual_small below within)
      | inr past ↦ rw (past_column s i j below past) (omega (arith, ints))
    ]
    | inr past ↦ rw (past_row s i j past) (omega (arith, ints))
  ];
}

-- ---- the kinds at the start

first_kind : (i fixed : ℕ) → i < fixed → (if nat_lt i fixed then Source else Kcl) ≡ Source
first_kind i fixed below = rw (is_below i fixed below) refl
  where
    is_below : (i n : ℕ) → i < n → nat_lt i n ≡ true
    is_below i n below = grind (arith, nat_tests)

tie_there : (size : ℕ) (b : Bool) → TieIsThere size (if b then Source else Kcl)
tie_there size true = tt
tie_there size false = tt

pub kinds_from-AreKinds : (size fixed : ℕ) → fixed ≤ size → AreKinds size fixed (kinds_from size fixed)
kinds_from-AreKinds size fixed within = record {
  count = length-map-range_with_len (λ i. if nat_lt i fixed then Source else Kcl) 0 size;
  sources = λ i below. get_or-map-range_with_len (λ i. if nat_lt i fixed then Source else Kcl) 0 size i i Ground (omega (arith, below, within)) (omega arith) ∙ first_kind i fixed below;
  ties = λ i d below.
      let inside : i < size = omega (arith, below, length-map-range_with_len (λ i. if nat_lt i fixed then Source else Kcl) 0 size) in
      rw (get_or-map-range_with_len (λ i. if nat_lt i fixed then Source else Kcl) 0 size i i d inside (omega arith)) (tie_there size (nat_lt i fixed));
}

pub kinds_all : (kinds : List RowKind) (size fixed i : ℕ) → length kinds ≡ size → ((k : ℕ) → k < size → slice_index_or kinds k Kcl ≡ (if nat_lt k i then Source else Kcl)) → i ≡ fixed → kinds ≡ kinds_from size fixed
kinds_all kinds size fixed i long each same = fill_by_all (λ k. if nat_lt k fixed then Source else Kcl) kinds size Kcl long (λ k below. each k below ∙ ap (λ n. if nat_lt k n then Source else Kcl) same)
