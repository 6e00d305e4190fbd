-- What the branches put into a row, one after another.
use Rattle.emtp_case.specs.declared.limit.TheConstants.{MOST_BRANCHES}
use Rattle.std.proofs.Common.{◌≡◌, ◌≢◌, ◌∙◌, sym, ap, ℕ, ◌+◌, ◌*◌, ◌^◌, ◌<◌, ◌≤◌, ◌==◌, ◌||◌, ℤ, pos, ◌+ℤ◌, ◌*ℤ◌, unsigned_abs, Bool, true, false, if◌then◌else◌, List, All, length, length-take-le, take, slice_get, get_or, Option, Some, None, refl, subst, inl, inr, arith}
use Rattle.std.proofs.lemmas.Bool.{cases_lt}
use Rattle.std.proofs.lemmas.Bool.Decides.{nat_tests}
use Rattle.std.proofs.lemmas.Int.{ints}
use Rattle.std.proofs.lemmas.List.{get_or_past, get_or_default}
use Rattle.std.proofs.lemmas.List.Elements.{All-get_or}
use Rattle.emtp_fix.specs.declared.limit.TheConstants.{LARGEST_ENTRY}
use Rattle.std.proofs.lemmas.Option.{get_or_from_slice_get}
use Rattle.emtp_case.specs.Branch.{from_of, to_of}
use Rattle.emtp_case.specs.held.Branch.{IsBranch}
use Rattle.emtp_case.specs.held.Case.{IsNetwork}
use Rattle.emtp_case.specs.held.Sizes.{sizes_of}
use Rattle.emtp_rows.proofs.Phases.{branch_ends}
use Rattle.emtp_case.specs.Sums.{total}
use Rattle.emtp_case.specs.declared.branch.Branch.{Branch}
use Rattle.emtp_case.specs.declared.case.Parts.{Parts}
use Rattle.emtp_case.proofs.Sums.{sum_below_small, total_small}
use Rattle.emtp_admittance.specs.Admittances.{in_block, no_port, port_at}
use Rattle.emtp_admittance.specs.held.Admittances.{IsSmallPort}
use Rattle.emtp_phasor.specs.Doubled.{between_nodes, admittance_entry}
use Rattle.emtp_phasor.specs.held.HeldBranches.{branches_at, has_end_at}
use Rattle.emtp_phasor.proofs.BranchLists.{place_sum_more, places_few, places_total}
use Rattle.emtp_admittance.specs.declared.admittance.TwoPort.{TwoPort}
use Rattle.emtp_phasor.proofs.Blocks.{in_block_small}

-- ---- one branch

one : (b : Bool) (g : ℤ) → (if b then g else pos 0) ≡ pos 1 *ℤ g *ℤ (if b then pos 1 else pos 0)
one true g = omega (arith, ints)
one false g = omega (arith, ints)

none : (b : Bool) (g : ℤ) → pos 0 ≡ pos 0 *ℤ g *ℤ (if b then pos 1 else pos 0)
none true g = omega (arith, ints)
none false g = omega (arith, ints)

not_both : (p q n : ℕ) → p ≢ q → (p == n) ≡ true → (q == n) ≡ true → ⊥
not_both p q n apart e f = apart (grind (arith, nat_tests))

-- at the first end, at the second one, at none
by_first : (c d : Bool) (g h : ℤ) → (if c then g else pos 0) +ℤ (if d then h else pos 0)
    ≡ (pos 1 *ℤ g *ℤ (if c then pos 1 else pos 0) +ℤ pos 1 *ℤ h *ℤ (if d then pos 1 else pos 0)) +ℤ (pos 0 *ℤ g *ℤ (if d then pos 1 else pos 0) +ℤ pos 0 *ℤ h *ℤ (if c then pos 1 else pos 0))
by_first c d g h = omega (arith, ints, one c g, one d h, none d g, none c h)

by_second : (c d : Bool) (g h : ℤ) → (if d then g else pos 0) +ℤ (if c then h else pos 0)
    ≡ (pos 0 *ℤ g *ℤ (if c then pos 1 else pos 0) +ℤ pos 0 *ℤ h *ℤ (if d then pos 1 else pos 0)) +ℤ (pos 1 *ℤ g *ℤ (if d then pos 1 else pos 0) +ℤ pos 1 *ℤ h *ℤ (if c then pos 1 else pos 0))
by_second c d g h = omega (arith, ints, none c g, none d h, one d g, one c h)

by_none : (c d : Bool) (g h : ℤ) → pos 0
    ≡ (pos 0 *ℤ g *ℤ (if c then pos 1 else pos 0) +ℤ pos 0 *ℤ h *ℤ (if d then pos 1 else pos 0)) +ℤ (pos 0 *ℤ g *ℤ (if d then pos 1 else pos 0) +ℤ pos 0 *ℤ h *ℤ (if c then pos 1 else pos 0))
by_none c d g h = omega (arith, ints, none c g, none d h, none d g, none c h)

pub between_first : (row column : Bool) (y : TwoPort) (n m from to : ℕ) (o : Option Branch) (x : Branch) → o ≡ Some x → from ≡ from_of x → to ≡ to_of x → from ≢ to → from ≡ n
    → (if from == m then in_block row column y.own else pos 0) +ℤ (if to == m then in_block row column y.other else pos 0) ≡ between_nodes row column y n m o
between_first row column y n m from to o x is first second apart here =
    let at : (from_of x == n) ≡ true = grind (arith, nat_tests) in
    let off : (to_of x == n) ≡ false = grind (arith, nat_tests) in
    rw (is, first, second, at, off) (by_first (from_of x == m) (to_of x == m) (in_block row column y.own) (in_block row column y.other))

pub between_second : (row column : Bool) (y : TwoPort) (n m from to : ℕ) (o : Option Branch) (x : Branch) → o ≡ Some x → from ≡ from_of x → to ≡ to_of x → from ≢ n → to ≡ n
    → (if to == m then in_block row column y.own else pos 0) +ℤ (if from == m then in_block row column y.other else pos 0) ≡ between_nodes row column y n m o
between_second row column y n m from to o x is first second off here =
    let away : (from_of x == n) ≡ false = grind (arith, nat_tests) in
    let at : (to_of x == n) ≡ true = grind (arith, nat_tests) in
    rw (is, first, second, away, at) (by_second (from_of x == m) (to_of x == m) (in_block row column y.own) (in_block row column y.other))

pub between_none : (row column : Bool) (y : TwoPort) (n m from to : ℕ) (o : Option Branch) (x : Branch) → o ≡ Some x → from ≡ from_of x → to ≡ to_of x → from ≢ n → to ≢ n → pos 0 ≡ between_nodes row column y n m o
between_none row column y n m from to o x is first second off away =
    let one_off : (from_of x == n) ≡ false = grind (arith, nat_tests) in
    let other_off : (to_of x == n) ≡ false = grind (arith, nat_tests) in
    rw (is, one_off, other_off) (by_none (from_of x == m) (to_of x == m) (in_block row column y.own) (in_block row column y.other))

-- a branch elsewhere brings nothing
neither : (a b : Bool) → (a || b) ≡ false → (a ≡ false) × (b ≡ false)
neither true b e = absurd (cc)
neither false b e = (refl, e)

pub ends_away : (n : ℕ) (x : Branch) → has_end_at n (Some x) ≡ false → ((from_of x == n) ≡ false) × ((to_of x == n) ≡ false)
ends_away n x away = neither (from_of x == n) (to_of x == n) away

pub between_away : (row column : Bool) (y : TwoPort) (n m : ℕ) (o : Option Branch) → has_end_at n o ≡ false → between_nodes row column y n m o ≡ pos 0
between_away row column y n m None away = refl
between_away row column y n m (Some x) away =
    let off : (from_of x == n) ≡ false = (ends_away n x away).0 in
    let other_off : (to_of x == n) ≡ false = (ends_away n x away).1 in
    rw (off, other_off) (sym (by_none (from_of x == m) (to_of x == m) (in_block row column y.own) (in_block row column y.other)))

-- ---- magnitudes

product_small : (a c : Bool) (g : ℤ) → unsigned_abs g ≤ LARGEST_ENTRY → unsigned_abs ((if a then pos 1 else pos 0) *ℤ g *ℤ (if c then pos 1 else pos 0)) ≤ LARGEST_ENTRY
product_small true c g small = rw (sym (one c g)) (if_small c g small)
  where
    if_small : (c : Bool) (g : ℤ) → unsigned_abs g ≤ LARGEST_ENTRY → unsigned_abs (if c then g else pos 0) ≤ LARGEST_ENTRY
    if_small true g small = small
    if_small false g small = omega (arith, ints)
product_small false c g small = rw (sym (none c g)) (omega (arith, ints))

pub between_small : (row column : Bool) (y : TwoPort) (n m : ℕ) (o : Option Branch) → IsSmallPort y → unsigned_abs (between_nodes row column y n m o) ≤ 4 * LARGEST_ENTRY
between_small row column y n m None small = omega (arith, ints)
between_small row column y n m (Some x) small =
    let own = in_block_small row column y.own small.own in
    let other = in_block_small row column y.other small.other in
    omega (
      arith,
      ints,
      product_small (from_of x == n) (from_of x == m) (in_block row column y.own) own,
      product_small (from_of x == n) (to_of x == m) (in_block row column y.other) other,
      product_small (to_of x == n) (to_of x == m) (in_block row column y.own) own,
      product_small (to_of x == n) (from_of x == m) (in_block row column y.other) other,
    )

pub port_small : (ports : List TwoPort) (b : ℕ) → All IsSmallPort ports → IsSmallPort (port_at ports b)
port_small ports b small = elim (cases_lt b (length ports)) [
  | inl below ↦ All-get_or IsSmallPort ports b no_port below small
  | inr past ↦ rw (get_or_past ports b no_port past) (record {
    own = record { conductance = omega (arith, ints); susceptance = omega (arith, ints) };
    other = record { conductance = omega (arith, ints); susceptance = omega (arith, ints) };
  })
]

-- what branches put into a row stays far from the limits
pub places_small : (case : Parts) (ports : List TwoPort) (row column : Bool) (n m i : ℕ) (places : List ℕ) → All IsSmallPort ports → places ≡ branches_at case n → i ≤ length places → length case.branches ≤ MOST_BRANCHES
    → unsigned_abs (total (λ b. between_nodes row column (port_at ports b) n m (slice_get case.branches b)) (take i places)) ≤ 2 * 10 ^ 21
places_small case ports row column n m i places small are within few =
    let F : ℕ → ℤ = λ b. between_nodes row column (port_at ports b) n m (slice_get case.branches b) in
    let short : length (take i places) ≤ MOST_BRANCHES = omega (arith, length-take-le i places within, within, ap length are, places_few case n, few) in
    omega (arith, short, total_small F (4 * 10 ^ 17) (λ b. between_small row column (port_at ports b) n m (slice_get case.branches b) (port_small ports b small)) (take i places))

pub current_small : (case : Parts) (ports : List TwoPort) (row column : Bool) (n m : ℕ) → All IsSmallPort ports → length case.branches ≤ MOST_BRANCHES → unsigned_abs (admittance_entry case ports row column n m) ≤ 2 * 10 ^ 21
current_small case ports row column n m small few =
    omega (arith, few, sum_below_small (length case.branches) (λ b. between_nodes row column (port_at ports b) n m (slice_get case.branches b)) (4 * 10 ^ 17) (λ b below. between_small row column (port_at ports b) n m (slice_get case.branches b) (port_small ports b small)))

-- ---- one more

-- one branch at the node more
pub branch_more : (case : Parts) (ports : List TwoPort) (row column : Bool) (n m i : ℕ) (places : List ℕ) (start before after : ℤ) (y : TwoPort) → i < length places → y ≡ port_at ports (get_or places i 0)
    → before ≡ start +ℤ total (λ b. between_nodes row column (port_at ports b) n m (slice_get case.branches b)) (take i places)
    → after ≡ before +ℤ between_nodes row column y n m (slice_get case.branches (get_or places i 0))
    → after ≡ start +ℤ total (λ b. between_nodes row column (port_at ports b) n m (slice_get case.branches b)) (take (i + 1) places)
branch_more case ports row column n m i places start before after y inside is so_far added =
    let F : ℕ → ℤ = λ b. between_nodes row column (port_at ports b) n m (slice_get case.branches b) in
    let here : between_nodes row column y n m (slice_get case.branches (get_or places i 0)) ≡ F (get_or places i 0) = ap (λ y. between_nodes row column y n m (slice_get case.branches (get_or places i 0))) is in
    place_sum_more F places i start before (between_nodes row column y n m (slice_get case.branches (get_or places i 0))) after inside here so_far added

-- all of them
pub node_entry : (case : Parts) (ports : List TwoPort) (row column : Bool) (n m i : ℕ) (places : List ℕ) (start x : ℤ) → places ≡ branches_at case n → length places ≤ i
    → x ≡ start +ℤ total (λ b. between_nodes row column (port_at ports b) n m (slice_get case.branches b)) (take i places) → x ≡ start +ℤ admittance_entry case ports row column n m
node_entry case ports row column n m i places start x are past is =
    let F : ℕ → ℤ = λ b. between_nodes row column (port_at ports b) n m (slice_get case.branches b) in
    is ∙ ap (λ s. start +ℤ s) (places_total case n i places F (λ b away. between_away row column (port_at ports b) n m (slice_get case.branches b) away) are past)

-- ---- what an index read

pub part_small : (b : Bool) (x : ℤ) (limit : ℕ) → unsigned_abs x ≤ limit → unsigned_abs (if b then x else pos 0) ≤ limit
part_small true x limit small = small
part_small false x limit small = omega (arith, ints)

-- the ends of a branch differ
pub ends_apart : (case : Parts) (at : ℕ) (x : Branch) (from to : ℕ) → IsNetwork case → slice_get case.branches at ≡ Some x → at < length case.branches → from ≡ from_of x → to ≡ to_of x → from ≢ to
ends_apart case at x from to network is there first second =
    let fits : IsBranch case.run (sizes_of case) case.points x = subst (IsBranch case.run (sizes_of case) case.points) (get_or_from_slice_get case.branches at x x is) (network.branches at x there) in
    rw (first, second) (branch_ends case.run (sizes_of case) case.points x fits).apart

-- the port that an index read
pub port_read : (ports : List TwoPort) (at : ℕ) (d x : TwoPort) → at < length ports → get_or ports at d ≡ x → x ≡ port_at ports at
port_read ports at d x there is = sym is ∙ get_or_default ports at d no_port there

-- what a branch puts between nodes by the port that was read
pub branch_between : (case : Parts) (ports : List TwoPort) (row column : Bool) (y : TwoPort) (n m at : ℕ) → y ≡ port_at ports at → between_nodes row column y n m (slice_get case.branches at) ≡ between_nodes row column (port_at ports at) n m (slice_get case.branches at)
branch_between case ports row column y n m at is = ap (λ z. between_nodes row column z n m (slice_get case.branches at)) is

pub ends_within : (case : Parts) (at : ℕ) (x : Branch) (from to : ℕ) → IsNetwork case → slice_get case.branches at ≡ Some x → at < length case.branches → from ≡ from_of x → to ≡ to_of x → (from ≤ length case.nodes) × (to ≤ length case.nodes)
ends_within case at x from to network is there first second =
    let fits : IsBranch case.run (sizes_of case) case.points x = subst (IsBranch case.run (sizes_of case) case.points) (get_or_from_slice_get case.branches at x x is) (network.branches at x there) in
    let ends = branch_ends case.run (sizes_of case) case.points x fits in
    (rw first ends.from_there, rw second ends.to_there)
