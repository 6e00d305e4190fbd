-- The table of the rows of the nodes, filled row by row.
use Rattle.emtp_case.proofs.Ordered.{one_place, range_once}
use Rattle.emtp_case.specs.held.RowTable.{AreRows}
use Rattle.std.proofs.Common.{◌∙◌, ap, arith, sym, ⊎_elim}
use Rattle.std.proofs.Math.ListN.{length-set}
use Rattle.std.proofs.lemmas.Bool.{cases_lt}
use Rattle.std.proofs.lemmas.List.{get_or-set_other, get_or-set_same, get_or_default, length-replicate}
use Rattle.std.proofs.lemmas.List.FromFn.{get_or-range_with_len, length-range_with_len}
use Rattle.std.proofs.lemmas.List.Sorted.{All-permutation, Contains-permutation, sum_by-IsPermutation}
use Rattle.std.specs.List.{Contains, range_with_len}
use Rattle.std.specs.List.Sorted.{IsPermutation}
use Rattle.std.specs.Prelude.{◌≡◌, ◌≢◌, ◌+◌, ◌-◌, ◌<◌, ◌≤◌, ◌==◌, if◌then◌else◌, All, List, length, replicate, slice_index, slice_index_or, slice_set, ℕ}

-- the rows up to a place lead back from their nodes
pub record LeadBack (n : ℕ) (nodes rows : List ℕ) : Type 0 where
  pub one_more : length rows ≡ length nodes + 1
  pub back : (row : ℕ) → row < n → slice_index rows (slice_index nodes row) ≡ row

range_within : (a n : ℕ) → All (λ x. (a ≤ x) × (x < a + n)) (range_with_len a n)
range_within a n = λ k d inside.
    let at : slice_index_or (range_with_len a n) k d ≡ a + k = get_or-range_with_len a n k d (omega (arith, length-range_with_len a n)) in
    (omega (arith, at), omega (arith, at, length-range_with_len a n))

-- each number of a list that lists 1 to its length once is in this range
pub nodes_within : (nodes : List ℕ) → IsPermutation (range_with_len 1 (length nodes)) nodes → (row : ℕ) → row < length nodes → (1 ≤ slice_index nodes row) × (slice_index nodes row ≤ length nodes)
nodes_within nodes once row inside =
    let within = All-permutation (λ x. (1 ≤ x) × (x < 1 + length nodes)) (range_with_len 1 (length nodes)) nodes once (range_within 1 (length nodes)) in
    let here = within row 0 inside in
    (here.0, omega (arith, here.1))

-- and stands at one place
pub nodes_apart : (nodes : List ℕ) → IsPermutation (range_with_len 1 (length nodes)) nodes → (i j : ℕ) → i < j → j < length nodes → slice_index nodes i ≢ slice_index nodes j
nodes_apart nodes once i j below inside = one_place nodes
    (λ v. let same = sum_by-IsPermutation (λ x. if x == v then 1 else 0) (range_with_len 1 (length nodes)) nodes once in omega (arith, same, range_once v 1 (length nodes)))
    i j below inside

-- each number of the range stands there
pub node_there : (nodes : List ℕ) → IsPermutation (range_with_len 1 (length nodes)) nodes → (node : ℕ) → 1 ≤ node → node ≤ length nodes → (row : ℕ) × (row < length nodes) × (slice_index nodes row ≡ node)
node_there nodes once node low high =
    let at : slice_index_or (range_with_len 1 (length nodes)) (node - 1) node ≡ 1 + (node - 1) = get_or-range_with_len 1 (length nodes) (node - 1) node (omega arith) in
    let there : Contains nodes node = Contains-permutation (range_with_len 1 (length nodes)) nodes node once (node - 1, omega (arith, length-range_with_len 1 (length nodes)), omega (arith, at)) in
    (there.0, there.1, get_or_default nodes there.0 0 node there.1 ∙ there.2)

pub none_lead : (nodes : List ℕ) → LeadBack 0 nodes (replicate (length nodes + 1) 0)
none_lead nodes = record { one_more = length-replicate (length nodes + 1) 0; back = λ row below. absurd (omega arith) }

-- one more row
pub leads_more : (nodes rows : List ℕ) → IsPermutation (range_with_len 1 (length nodes)) nodes → (n : ℕ) → n < length nodes → LeadBack n nodes rows → LeadBack (n + 1) nodes (slice_set rows (slice_index nodes n) n)
leads_more nodes rows once n inside h = record {
  one_more = length-set rows (slice_index nodes n) n ∙ h.one_more;
  back = λ row below. ⊎_elim
      (λ (earlier : row < n).
      get_or-set_other rows (slice_index nodes n) (slice_index nodes row) n 0 (nodes_apart nodes once row n earlier inside) ∙ h.back row earlier)
      (λ (last : n ≤ row).
      let same : row ≡ n = omega arith in
      let there = nodes_within nodes once n inside in
      ap (λ i. slice_index (slice_set rows (slice_index nodes n) n) (slice_index nodes i)) same ∙ get_or-set_same rows (slice_index nodes n) n 0 (omega (arith, there.1, h.one_more)) ∙ sym same)
      (cases_lt row n);
}

pub all_lead : (nodes rows : List ℕ) → IsPermutation (range_with_len 1 (length nodes)) nodes → (n : ℕ) → length nodes ≤ n → LeadBack n nodes rows → AreRows nodes rows
all_lead nodes rows once n past h = record {
  one_more = h.one_more;
  row_within = λ node low high.
      let at = node_there nodes once node low high in
      let leads : slice_index rows node ≡ at.0 = ap (slice_index rows) (sym at.2) ∙ h.back at.0 (omega (arith, at.1)) in
      omega (arith, leads, at.1);
  row_leads = λ node low high.
      let at = node_there nodes once node low high in
      let leads : slice_index rows node ≡ at.0 = ap (slice_index rows) (sym at.2) ∙ h.back at.0 (omega (arith, at.1)) in
      ap (slice_index nodes) leads ∙ at.2;
  node_low = λ row inside. (nodes_within nodes once row inside).0;
  node_high = λ row inside. (nodes_within nodes once row inside).1;
  node_leads = λ row inside. h.back row (omega (arith, inside));
}
