-- The conductances between nodes: symmetric, and of branches between two nodes their sum over all nodes with ground is 0.
use Rattle.std.proofs.Common.{◌≡◌, ◌∙◌, ◌+◌, ◌<◌, ◌==◌, ℕ, zero, suc, ℤ, pos, ◌+ℤ◌, ◌-ℤ◌, ◌*ℤ◌, if◌then◌else◌, Bool, true, false, List, length, slice_get, slice_index_or, Option, Some, None, refl, ap, sym, subst, inl, inr, arith}
use Rattle.std.specs.List.{All}
use Rattle.std.proofs.lemmas.Bool.{eq-eqb, ne_eqb, true≢false}
use Rattle.std.proofs.lemmas.Int.{ints}
use Rattle.std.proofs.lemmas.Option.{slice_get_cases}
use Rattle.emtp_case.specs.Branch.{from_of, to_of}
use Rattle.emtp_case.specs.held.Branch.{IsBranch}
use Rattle.emtp_case.specs.held.Case.{IsCase}
use Rattle.emtp_case.specs.held.Sizes.{sizes_of}
use Rattle.emtp_case.specs.Sums.{sum_below}
use Rattle.emtp_case.specs.declared.branch.Branch.{Branch}
use Rattle.emtp_case.specs.declared.branch.Branch.TheVariants.{Lumped as OfLumped, Line as OfLine, Pseudo as OfPseudo, Phase as OfPhase}
use Rattle.emtp_case.specs.declared.case.Parts.{Parts}
use Rattle.emtp_elim.specs.Matrix.{item}
use Rattle.emtp_fix.proofs.Wide.{mul_add}
use Rattle.emtp_rows.specs.Nodal.{across, between, current_entry, incidence, same_node, to_ground}
use Rattle.emtp_switch.proofs.Flows.{sum_below-none, sum_below-one}
use Rattle.emtp_laws.specs.Branches.{HasTwoPolesAlone, is_two_pole}

-- ---- symmetric

-- 1 at `from`, -1 at `to`, else 0
abbrev sign : Bool → Bool → ℤ
sign p q = (if p then pos 1 else pos 0) -ℤ (if q then pos 1 else pos 0)

turn : (p q r t : Bool) (g : ℤ) → sign p q *ℤ g *ℤ sign r t ≡ sign r t *ℤ g *ℤ sign p q
turn true true true true g = omega (arith, ints)
turn true true true false g = omega (arith, ints)
turn true true false true g = omega (arith, ints)
turn true true false false g = omega (arith, ints)
turn true false true true g = omega (arith, ints)
turn true false true false g = omega (arith, ints)
turn true false false true g = omega (arith, ints)
turn true false false false g = omega (arith, ints)
turn false true true true g = omega (arith, ints)
turn false true true false g = omega (arith, ints)
turn false true false true g = omega (arith, ints)
turn false true false false g = omega (arith, ints)
turn false false true true g = omega (arith, ints)
turn false false true false g = omega (arith, ints)
turn false false false true g = omega (arith, ints)
turn false false false false g = omega (arith, ints)

abbrev pub one_if : Bool → ℤ
one_if p = if p then pos 1 else pos 0

pub turn_end : (p q : Bool) (g : ℤ) → one_if p *ℤ g *ℤ one_if q ≡ one_if q *ℤ g *ℤ one_if p
turn_end true true g = refl
turn_end true false g = omega (arith, ints)
turn_end false true g = omega (arith, ints)
turn_end false false g = refl

-- what the branch at a place puts between nodes n and m by its own conductance alone
abbrev pub own_part : ℤ → ℕ → ℕ → Option Branch → ℤ
own_part g n m None = pos 0
own_part g n m (Some (OfLumped x)) = across (OfLumped x) g n m
own_part g n m (Some (OfPseudo x)) = across (OfPseudo x) g n m
own_part g n m (Some (OfLine x)) = to_ground false (OfLine x) g n m +ℤ to_ground true (OfLine x) g n m
own_part g n m (Some (OfPhase x)) = to_ground false (OfPhase x) g n m +ℤ to_ground true (OfPhase x) g n m

pub own_symmetric : (g : ℤ) (n m : ℕ) (o : Option Branch) → own_part g n m o ≡ own_part g m n o
own_symmetric g n m None = refl
own_symmetric g n m (Some (OfLumped x)) = turn (x.from == n) (x.to == n) (x.from == m) (x.to == m) g
own_symmetric g n m (Some (OfPseudo x)) = turn (x.from == n) (x.to == n) (x.from == m) (x.to == m) g
own_symmetric g n m (Some (OfLine x)) = omega (arith, ints, turn_end (x.from == n) (x.from == m) g, turn_end (x.to == n) (x.to == m) g)
own_symmetric g n m (Some (OfPhase x)) = omega (arith, ints, turn_end (x.from == n) (x.from == m) g, turn_end (x.to == n) (x.to == m) g)

-- ---- sums over all nodes

pub sum_added : (n : ℕ) (g h : ℕ → ℤ) → sum_below n (λ j. g j +ℤ h j) ≡ sum_below n g +ℤ sum_below n h
sum_added zero g h = refl
sum_added (suc n) g h = omega (arith, ints, sum_added n g h)

pub sum_swapped : (a b : ℕ) (f : ℕ → ℕ → ℤ) → sum_below a (λ i. sum_below b (λ j. f i j)) ≡ sum_below b (λ j. sum_below a (λ i. f i j))
sum_swapped zero b f = sym (sum_below-none b (λ j. pos 0) (λ j below. refl))
sum_swapped (suc a) b f = ap (λ x. x +ℤ sum_below b (λ j. f a j)) (sum_swapped a b f) ∙ sym (sum_added b (λ j. sum_below a (λ i. f i j)) (λ j. f a j))

sum_scaled : (n : ℕ) (c : ℤ) (f : ℕ → ℤ) → sum_below n (λ j. c *ℤ f j) ≡ c *ℤ sum_below n f
sum_scaled zero c f = omega (arith, ints)
sum_scaled (suc n) c f = ap (λ x. x +ℤ c *ℤ f n) (sum_scaled n c f) ∙ sym (mul_add c (sum_below n f) (f n))

-- a node is met once
met_once : (n a : ℕ) → a < n → sum_below n (λ m. same_node a m) ≡ pos 1
met_once n a below =
    let f : ℕ → ℤ = λ m. pos 0 in
    let g : ℕ → ℤ = λ m. same_node a m in
    let here : g a ≡ pos 1 = ap (λ (b : Bool). if b then pos 1 else pos 0) (eq-eqb a a refl) in
    let none : sum_below n f ≡ pos 0 = sum_below-none n f (λ m b. refl) in
    let one = sum_below-one n a f g (pos 1) below (omega (arith, ints, here)) (λ m b ne. ap (λ (t : Bool). if t then pos 1 else pos 0) (ne_eqb a m (λ e. ne (sym e)))) in
    omega (arith, ints, one, none)

met_both : (n : ℕ) (x : Branch) → from_of x < n → to_of x < n → sum_below n (incidence x) ≡ pos 0
met_both n x in_from in_to =
    let apart : (k : ℕ) → sum_below k (λ m. same_node (from_of x) m -ℤ same_node (to_of x) m) ≡ sum_below k (λ m. same_node (from_of x) m) -ℤ sum_below k (λ m. same_node (to_of x) m) = parted (λ m. same_node (from_of x) m) (λ m. same_node (to_of x) m) in
    omega (arith, ints, apart n, met_once n (from_of x) in_from, met_once n (to_of x) in_to)
  where
    parted : (g h : ℕ → ℤ) (k : ℕ) → sum_below k (λ m. g m -ℤ h m) ≡ sum_below k g -ℤ sum_below k h
    parted g h zero = refl
    parted g h (suc k) = omega (arith, ints, parted g h k)

branch_sum_none : (case : Parts) (g : ℤ) (coupling : List ℤ) (n nodes : ℕ) (x : Branch) → is_two_pole x ≡ true → from_of x < nodes → to_of x < nodes → sum_below nodes (λ m. between case g coupling n m (Some x)) ≡ pos 0
branch_sum_none case g coupling n nodes (OfLumped x) two a b = sum_scaled nodes (incidence (OfLumped x) n *ℤ g) (incidence (OfLumped x)) ∙ ap (λ z. incidence (OfLumped x) n *ℤ g *ℤ z) (met_both nodes (OfLumped x) a b) ∙ omega (arith, ints)
branch_sum_none case g coupling n nodes (OfPseudo x) two a b = sum_scaled nodes (incidence (OfPseudo x) n *ℤ g) (incidence (OfPseudo x)) ∙ ap (λ z. incidence (OfPseudo x) n *ℤ g *ℤ z) (met_both nodes (OfPseudo x) a b) ∙ omega (arith, ints)
branch_sum_none case g coupling n nodes (OfLine x) two a b = absurd (true≢false (sym two))
branch_sum_none case g coupling n nodes (OfPhase x) two a b = absurd (true≢false (sym two))

sum_none : (case : Parts) (own coupling : List ℤ) (n nodes : ℕ) → HasTwoPolesAlone case → All (λ (x : Branch). (from_of x < nodes) × (to_of x < nodes)) case.branches → sum_below nodes (λ m. current_entry case own coupling n m) ≡ pos 0
sum_none case own coupling n nodes two ends =
    sum_swapped nodes (length case.branches) (λ m b. between case (item own b) coupling n m (slice_get case.branches b))
    ∙ sum_below-none (length case.branches) (λ b. sum_below nodes (λ m. between case (item own b) coupling n m (slice_get case.branches b))) (λ b below. elim ((slice_get_cases case.branches b).1) [
      | inl is ↦
          let x = is.0 in
          let own_two : is_two_pole x ≡ true = subst (λ (y : Branch). is_two_pole y ≡ true) is.3 (two b x below) in
          let at = ends b x below in
          ap (λ (o : Option Branch). sum_below nodes (λ m. between case (item own b) coupling n m o)) is.2
          ∙ branch_sum_none case (item own b) coupling n nodes x own_two (subst (λ (y : Branch). from_of y < nodes) is.3 at.0) (subst (λ (y : Branch). to_of y < nodes) is.3 at.1)
      | inr past ↦ absurd (omega (arith, below, past.0))
    ])

-- both ends of each branch are nodes of the case, or ground
branch_ends : (case : Parts) (x : Branch) → IsBranch case.run (sizes_of case) case.points x → (from_of x < length case.nodes + 1) × (to_of x < length case.nodes + 1)
branch_ends case (OfLumped x) h = (omega (arith, h.ends.from_there), omega (arith, h.ends.to_there))
branch_ends case (OfLine x) h = (omega (arith, h.ends.from_there), omega (arith, h.ends.to_there))
branch_ends case (OfPseudo x) h = (omega (arith, h.ends.from_there), omega (arith, h.ends.to_there))
branch_ends case (OfPhase x) h = (omega (arith, h.ends.from_there), omega (arith, h.ends.to_there))

pub sum_over_nodes : (case : Parts) (own coupling : List ℤ) (n : ℕ) → IsCase case → HasTwoPolesAlone case → sum_below (length case.nodes + 1) (λ m. current_entry case own coupling n m) ≡ pos 0
sum_over_nodes case own coupling n fits two = sum_none case own coupling n (length case.nodes + 1) two (λ b d below. branch_ends case (slice_index_or case.branches b d) (fits.draft.network.branches b d below))
