-- The doubled matrix as one of complex numbers, and its symmetry.
use Rattle.std.proofs.Common.{◌≡◌, ◌∙◌, sym, ap, ℕ, zero, suc, ◌+◌, ◌*◌, ◌/◌, ◌%◌, ◌<◌, ◌==◌, ℤ, pos, neg_ℤ, ◌*ℤ◌, Bool, true, false, if◌then◌else◌, List, length, slice_get, Option, Some, None, inl, inr, refl, arith}
use Rattle.std.proofs.lemmas.Bool.{cases_eq}
use Rattle.std.proofs.lemmas.Int.{ints}
use Rattle.emtp_case.specs.Branch.{from_of, to_of}
use Rattle.emtp_case.specs.NodeRows.{group_sum, is_member, kind_at, node_at, unit}
use Rattle.emtp_case.specs.Sums.{sum_below}
use Rattle.emtp_case.specs.declared.branch.Branch.{Branch}
use Rattle.emtp_case.specs.declared.case.Parts.{Parts}
use Rattle.emtp_case.specs.declared.row_kind.RowKind.{RowKind}
use Rattle.emtp_case.specs.declared.row_kind.RowKind.TheVariants.{Kcl, Sum, Tie, Ground, Source}
use Rattle.emtp_case.proofs.RowsOfNodes.{is_number, isnt_number}
use Rattle.emtp_case.proofs.Sums.{sum_below_same}
use Rattle.emtp_admittance.specs.Admittances.{in_block, port_at}
use Rattle.emtp_admittance.specs.declared.admittance.TwoPort.{TwoPort}
use Rattle.emtp_phasor.specs.ComplexEntries.{IsComplexAt}
use Rattle.emtp_phasor.specs.Doubled.{Doubled, admittance_entry, between_nodes, doubled_entry}
use Rattle.emtp_phasor.proofs.Blocks.{even_real, half_even, half_odd, odd_imaginary}
use Rattle.emtp_phasor.proofs.Doubling.{doubled_matrix_entry}

-- ---- one branch

between_same : (y : TwoPort) (n m : ℕ) (o : Option Branch) → between_nodes true true y n m o ≡ between_nodes false false y n m o
between_same y n m None = refl
between_same y n m (Some b) = refl

turned : (a c : Bool) (g : ℤ) → (if a then pos 1 else pos 0) *ℤ neg_ℤ g *ℤ (if c then pos 1 else pos 0) ≡ neg_ℤ ((if a then pos 1 else pos 0) *ℤ g *ℤ (if c then pos 1 else pos 0))
turned true true g = omega (arith, ints)
turned true false g = omega (arith, ints)
turned false true g = omega (arith, ints)
turned false false g = omega (arith, ints)

between_turned : (y : TwoPort) (n m : ℕ) (o : Option Branch) → between_nodes false true y n m o ≡ neg_ℤ (between_nodes true false y n m o)
between_turned y n m None = refl
between_turned y n m (Some b) =
    omega (
      arith,
      ints,
      turned (from_of b == n) (from_of b == m) y.own.susceptance,
      turned (from_of b == n) (to_of b == m) y.other.susceptance,
      turned (to_of b == n) (to_of b == m) y.own.susceptance,
      turned (to_of b == n) (from_of b == m) y.other.susceptance,
    )

swapped : (a c : Bool) (g : ℤ) → (if a then pos 1 else pos 0) *ℤ g *ℤ (if c then pos 1 else pos 0) ≡ (if c then pos 1 else pos 0) *ℤ g *ℤ (if a then pos 1 else pos 0)
swapped true true g = refl
swapped true false g = omega (arith, ints)
swapped false true g = omega (arith, ints)
swapped false false g = refl

between_swapped : (row column : Bool) (y : TwoPort) (n m : ℕ) (o : Option Branch) → between_nodes row column y n m o ≡ between_nodes row column y m n o
between_swapped row column y n m None = refl
between_swapped row column y n m (Some b) =
    omega (
      arith,
      ints,
      swapped (from_of b == n) (from_of b == m) (in_block row column y.own),
      swapped (from_of b == n) (to_of b == m) (in_block row column y.other),
      swapped (to_of b == n) (to_of b == m) (in_block row column y.own),
      swapped (to_of b == n) (from_of b == m) (in_block row column y.other),
    )

-- ---- all branches

sum_below_turned : (count : ℕ) (f g : ℕ → ℤ) → ((k : ℕ) → f k ≡ neg_ℤ (g k)) → sum_below count f ≡ neg_ℤ (sum_below count g)
sum_below_turned zero f g each = refl
sum_below_turned (suc k) f g each = omega (arith, ints, sum_below_turned k f g each, each k)

pub entry_swapped : (case : Parts) (ports : List TwoPort) (row column : Bool) (n m : ℕ) → admittance_entry case ports row column n m ≡ admittance_entry case ports row column m n
entry_swapped case ports row column n m =
    sum_below_same (length case.branches) (λ b. between_nodes row column (port_at ports b) n m (slice_get case.branches b)) (λ b. between_nodes row column (port_at ports b) m n (slice_get case.branches b))
    (λ b below. between_swapped row column (port_at ports b) n m (slice_get case.branches b))

entry_same : (case : Parts) (ports : List TwoPort) (n m : ℕ) → admittance_entry case ports true true n m ≡ admittance_entry case ports false false n m
entry_same case ports n m =
    sum_below_same (length case.branches) (λ b. between_nodes true true (port_at ports b) n m (slice_get case.branches b)) (λ b. between_nodes false false (port_at ports b) n m (slice_get case.branches b))
    (λ b below. between_same (port_at ports b) n m (slice_get case.branches b))

entry_turned : (case : Parts) (ports : List TwoPort) (n m : ℕ) → admittance_entry case ports false true n m ≡ neg_ℤ (admittance_entry case ports true false n m)
entry_turned case ports n m =
    sum_below_turned (length case.branches) (λ b. between_nodes false true (port_at ports b) n m (slice_get case.branches b)) (λ b. between_nodes true false (port_at ports b) n m (slice_get case.branches b))
    (λ b. between_turned (port_at ports b) n m (slice_get case.branches b))

-- ---- groups

member_same : (b : Bool) (x y : ℤ) → x ≡ y → (if b then x else pos 0) ≡ (if b then y else pos 0)
member_same b x y same = ap (λ z. if b then z else pos 0) same

member_turned : (b : Bool) (x y : ℤ) → x ≡ neg_ℤ y → (if b then x else pos 0) ≡ neg_ℤ (if b then y else pos 0)
member_turned true x y same = same
member_turned false x y same = refl

group_same : (case : Parts) (ports : List TwoPort) (kinds : List RowKind) (i m : ℕ) → group_sum case kinds i (λ n. admittance_entry case ports true true n m) ≡ group_sum case kinds i (λ n. admittance_entry case ports false false n m)
group_same case ports kinds i m =
    sum_below_same (length case.nodes) (λ k. if is_member kinds i k then admittance_entry case ports true true (node_at case k) m else pos 0) (λ k. if is_member kinds i k then admittance_entry case ports false false (node_at case k) m else pos 0)
    (λ k below. member_same (is_member kinds i k) (admittance_entry case ports true true (node_at case k) m) (admittance_entry case ports false false (node_at case k) m) (entry_same case ports (node_at case k) m))

group_turned : (case : Parts) (ports : List TwoPort) (kinds : List RowKind) (i m : ℕ) → group_sum case kinds i (λ n. admittance_entry case ports false true n m) ≡ neg_ℤ (group_sum case kinds i (λ n. admittance_entry case ports true false n m))
group_turned case ports kinds i m =
    sum_below_turned (length case.nodes) (λ k. if is_member kinds i k then admittance_entry case ports false true (node_at case k) m else pos 0) (λ k. if is_member kinds i k then admittance_entry case ports true false (node_at case k) m else pos 0)
    (λ k. member_turned (is_member kinds i k) (admittance_entry case ports false true (node_at case k) m) (admittance_entry case ports true false (node_at case k) m) (entry_turned case ports (node_at case k) m))

-- ---- units

unit_same : (r c : ℕ) → unit (2 * r + 1) (2 * c + 1) ≡ unit (2 * r) (2 * c)
unit_same r c = elim (cases_eq r c) [
  | inl same ↦ rw (is_number (2 * r + 1) (2 * c + 1) (omega (arith, same)), is_number (2 * r) (2 * c) (omega (arith, same))) refl
  | inr ne ↦ rw (isnt_number (2 * r + 1) (2 * c + 1) (λ e. ne (omega (arith, e))), isnt_number (2 * r) (2 * c) (λ e. ne (omega (arith, e)))) refl
]

unit_upper : (r c : ℕ) → unit (2 * r) (2 * c + 1) ≡ pos 0
unit_upper r c = rw (isnt_number (2 * r) (2 * c + 1) (λ e. omega (arith, e))) refl

unit_lower : (r c : ℕ) → unit (2 * r + 1) (2 * c) ≡ pos 0
unit_lower r c = rw (isnt_number (2 * r + 1) (2 * c) (λ e. omega (arith, e))) refl

odd_rest : (r : ℕ) → (2 * r + 1) % 2 ≡ 1
odd_rest r = omega arith

even_rest : (r k : ℕ) → k + 2 * r % 2 ≡ k
even_rest r k = omega arith

-- ---- the whole matrix

block_same : (s : Doubled) (r c : ℕ) (kind : RowKind) → doubled_entry s (2 * r + 1) (2 * c + 1) kind ≡ doubled_entry s (2 * r) (2 * c) kind
block_same s r c Kcl = rw (odd_imaginary r, odd_imaginary c, even_real r, even_real c, half_odd r, half_odd c, half_even r, half_even c) (entry_same s.case s.ports (node_at s.case r) (node_at s.case c))
block_same s r c Sum = rw (odd_imaginary r, odd_imaginary c, even_real r, even_real c, half_odd r, half_odd c, half_even r, half_even c) (group_same s.case s.ports s.kinds r (node_at s.case c))
block_same s r c (Tie row) = rw (odd_rest r, even_rest r (2 * row), unit_same r c, unit_same row c) refl
block_same s r c Ground = unit_same r c
block_same s r c Source = unit_same r c

block_turned : (s : Doubled) (r c : ℕ) (kind : RowKind) → doubled_entry s (2 * r) (2 * c + 1) kind ≡ neg_ℤ (doubled_entry s (2 * r + 1) (2 * c) kind)
block_turned s r c Kcl = rw (odd_imaginary r, odd_imaginary c, even_real r, even_real c, half_odd r, half_odd c, half_even r, half_even c) (entry_turned s.case s.ports (node_at s.case r) (node_at s.case c))
block_turned s r c Sum = rw (odd_imaginary r, odd_imaginary c, even_real r, even_real c, half_odd r, half_odd c, half_even r, half_even c) (group_turned s.case s.ports s.kinds r (node_at s.case c))
block_turned s r c (Tie row) = rw (odd_rest r, even_rest r (2 * row), unit_upper r c, unit_upper row c, unit_lower r c, unit_lower row c) refl
block_turned s r c Ground = rw (unit_upper r c, unit_lower r c) refl
block_turned s r c Source = rw (unit_upper r c, unit_lower r c) refl

pub complex_at : (s : Doubled) (r c : ℕ) → r < length s.case.nodes → c < length s.case.nodes → IsComplexAt s r c
complex_at s r c below within =
    let even = doubled_matrix_entry s (2 * r) (2 * c) (omega (arith, below)) (omega (arith, within)) in
    let odd = doubled_matrix_entry s (2 * r + 1) (2 * c + 1) (omega (arith, below)) (omega (arith, within)) in
    let upper = doubled_matrix_entry s (2 * r) (2 * c + 1) (omega (arith, below)) (omega (arith, within)) in
    let lower = doubled_matrix_entry s (2 * r + 1) (2 * c) (omega (arith, below)) (omega (arith, within)) in
    let kind : kind_at s.kinds (2 * r / 2) ≡ kind_at s.kinds r = ap (kind_at s.kinds) (half_even r) in
    let other : kind_at s.kinds ((2 * r + 1) / 2) ≡ kind_at s.kinds r = ap (kind_at s.kinds) (half_odd r) in
    record {
      real = odd ∙ ap (doubled_entry s (2 * r + 1) (2 * c + 1)) other ∙ block_same s r c (kind_at s.kinds r) ∙ sym (even ∙ ap (doubled_entry s (2 * r) (2 * c)) kind);
      imaginary = upper ∙ ap (doubled_entry s (2 * r) (2 * c + 1)) kind ∙ block_turned s r c (kind_at s.kinds r) ∙ sym (ap neg_ℤ (lower ∙ ap (doubled_entry s (2 * r + 1) (2 * c)) other));
    }
