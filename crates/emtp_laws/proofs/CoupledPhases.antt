-- The conductances between nodes are symmetric, those of three-phase lines in their sum: what a phase puts at the node of the next
-- one, the next one puts at its node.
use Rattle.std.proofs.Common.{◌≡◌, ◌∙◌, ◌+◌, ◌%◌, ◌<◌, ◌≢◌, ◌==◌, ℕ, ℤ, pos, ◌+ℤ◌, ◌*ℤ◌, if◌then◌else◌, Bool, true, false, All, List, length, map, slice_get, slice_index_or, Option, Some, None, refl, ap, sym, subst, inl, inr, arith}
use Rattle.std.proofs.lemmas.Bool.{eq-eqb, eqb-true, ne_eqb, true≢false}
use Rattle.std.proofs.lemmas.Int.{ints}
use Rattle.std.proofs.lemmas.List.{get_or-map}
use Rattle.std.proofs.lemmas.Option.{slice_get_cases}
use Rattle.emtp_case.proofs.Sums.{sum_below_same}
use Rattle.emtp_case.specs.Branch.{first_of_trio}
use Rattle.emtp_case.specs.held.Branch.{AreInThrees, IsBranch, phase_at, phase_of}
use Rattle.emtp_case.specs.held.Case.{IsCase}
use Rattle.emtp_case.specs.held.Sizes.{sizes_of}
use Rattle.emtp_case.specs.Sums.{sum_below}
use Rattle.emtp_case.specs.declared.branch.Branch.{Branch}
use Rattle.emtp_case.specs.declared.branch.Branch.TheVariants.{Lumped as OfLumped, Line as OfLine, Pseudo as OfPseudo, Phase as OfPhase}
use Rattle.emtp_case.specs.declared.branch.Phase.{Phase}
use Rattle.emtp_case.specs.declared.branch.Trio.{Trio}
use Rattle.emtp_case.specs.declared.case.Parts.{Parts}
use Rattle.emtp_elim.specs.Matrix.{item}
use Rattle.emtp_laws.proofs.NodalConductances.{own_part, own_symmetric, sum_added, sum_swapped, turn_end}
use Rattle.emtp_rows.proofs.Phases.{phase_there}
use Rattle.emtp_rows.specs.Nodal.{between, current_entry, end_node, phase_node, same_node}
use Rattle.emtp_switch.proofs.Flows.{sum_below-none, sum_below-one}

-- ---- phases of one line

-- the phase so many phases behind this one stands at place c
abbrev hops : List Trio → ℕ → Option (ℕ × ℕ) → ℕ → Bool
hops trios k None c = false
hops trios k (Some x) c = (first_of_trio trios x.0 + (x.1 + k) % 3) == c

-- the mutual conductance of its line
abbrev coupled : List ℤ → Option (ℕ × ℕ) → ℤ
coupled coupling None = pos 0
coupled coupling (Some x) = item coupling x.0

-- what couples the branches at places b and c, where c is so many phases behind b
abbrev link : Parts → List ℤ → ℕ → ℕ → ℕ → ℤ
link case coupling k b c = if hops case.trios k (phase_at case.branches b) c then coupled coupling (phase_at case.branches b) else pos 0

-- each phase at a place of the case is one of three of a line that is there
ArePlaced : Parts → Type 0
ArePlaced case = (b : ℕ) (x : ℕ × ℕ) → b < length case.branches → phase_at case.branches b ≡ Some x → (x.0 < length case.trios) × (x.1 < 3)

-- the other two phases are each other's next but one
goes_round : (p : ℕ) → p < 3 → ((p + 1) % 3 + 2) % 3 ≡ p
goes_round p few = omega arith

goes_round_back : (p : ℕ) → p < 3 → ((p + 2) % 3 + 1) % 3 ≡ p
goes_round_back p few = omega arith

some_same : (x y : ℕ × ℕ) → Some x ≡ Some y → x ≡ y
some_same x y e = cc

bounds : (case : Parts) (x : Branch) (y : ℕ × ℕ) → IsBranch case.run (sizes_of case) case.points x → phase_of x ≡ Some y → (y.0 < length case.trios) × (y.1 < 3)
bounds case (OfLumped x) y h e = absurd (cc)
bounds case (OfLine x) y h e = absurd (cc)
bounds case (OfPseudo x) y h e = absurd (cc)
bounds case (OfPhase x) y h e =
    let same = some_same (x.trio, x.phase) y e in
    (subst (λ (z : ℕ × ℕ). z.0 < length case.trios) same h.trio, subst (λ (z : ℕ × ℕ). z.1 < 3) same h.phase)

-- what stands at a place
phase_is : (case : Parts) (b : ℕ) (x : Branch) → b < length case.branches → slice_index_or case.branches b x ≡ x → phase_at case.branches b ≡ phase_of x
phase_is case b x below is = get_or-map phase_of case.branches b x None below ∙ ap phase_of is

node_is : (case : Parts) (second : Bool) (b : ℕ) (x : Branch) → b < length case.branches → slice_index_or case.branches b x ≡ x → slice_index_or (map (end_node second) case.branches) b 0 ≡ end_node second x
node_is case second b x below is = get_or-map (end_node second) case.branches b x 0 below ∙ ap (end_node second) is

placed : (case : Parts) → All (IsBranch case.run (sizes_of case) case.points) case.branches → ArePlaced case
unfolding ArePlaced
placed case all b y below e = elim ((slice_get_cases case.branches b).1) [
  | inl is ↦
      let x = is.0 in
      bounds case x y (subst (IsBranch case.run (sizes_of case) case.points) is.3 (all b x below)) (sym (phase_is case b x below is.3) ∙ e)
  | inr past ↦ absurd (omega (arith, below, past.0))
]

-- ---- a link is the same seen from either phase

-- k and j phases on is once round
record AreRound (k j : ℕ) : Type 0 where
  there : (p : ℕ) → p < 3 → ((p + k) % 3 + j) % 3 ≡ p
  back : (p : ℕ) → p < 3 → ((p + j) % 3 + k) % 3 ≡ p

hop_back : (case : Parts) (coupling : List ℤ) (k j b c : ℕ) (o : Option (ℕ × ℕ)) → AreInThrees case.branches case.trios → ArePlaced case → b < length case.branches → ((p : ℕ) → p < 3 → ((p + k) % 3 + j) % 3 ≡ p)
    → phase_at case.branches b ≡ o → hops case.trios k o c ≡ true
    → (hops case.trios j (phase_at case.branches c) b ≡ true) × (coupled coupling (phase_at case.branches c) ≡ coupled coupling o)
unfolding ArePlaced
hop_back case coupling k j b c None threes are below round is h = absurd (true≢false (sym h))
hop_back case coupling k j b c (Some x) threes are below round is h =
    let few = are b x below is in
    let q = (x.1 + k) % 3 in
    let low : q < 3 = omega arith in
    let at : first_of_trio case.trios x.0 + q ≡ c = eqb-true (first_of_trio case.trios x.0 + q) c h in
    let here : phase_at case.branches c ≡ Some (x.0, q) = subst (λ (n : ℕ). phase_at case.branches n ≡ Some (x.0, q)) at (threes.phases x.0 q few.0 low) in
    let home : b ≡ first_of_trio case.trios x.0 + x.1 = threes.places b x.0 x.1 is in
    let back : first_of_trio case.trios x.0 + (q + j) % 3 ≡ b = ap (λ (p : ℕ). first_of_trio case.trios x.0 + p) (round x.1 few.1) ∙ sym home in
    (ap (λ (o : Option (ℕ × ℕ)). hops case.trios j o b) here ∙ eq-eqb (first_of_trio case.trios x.0 + (q + j) % 3) b back, ap (coupled coupling) here)

link_turned : (case : Parts) (coupling : List ℤ) (k j b c : ℕ) → AreInThrees case.branches case.trios → ArePlaced case → AreRound k j → b < length case.branches → c < length case.branches → link case coupling k b c ≡ link case coupling j c b
link_turned case coupling k j b c threes are round below under = by_tests (hops case.trios k (phase_at case.branches b) c) (hops case.trios j (phase_at case.branches c) b) refl refl
  where
    by_tests : (s t : Bool) → hops case.trios k (phase_at case.branches b) c ≡ s → hops case.trios j (phase_at case.branches c) b ≡ t
        → (if s then coupled coupling (phase_at case.branches b) else pos 0) ≡ (if t then coupled coupling (phase_at case.branches c) else pos 0)
    by_tests true true e h = sym (hop_back case coupling k j b c (phase_at case.branches b) threes are below round.there refl e).1
    by_tests true false e h = absurd (true≢false (sym (hop_back case coupling k j b c (phase_at case.branches b) threes are below round.there refl e).0 ∙ h))
    by_tests false true e h = absurd (true≢false (sym (hop_back case coupling j k c b (phase_at case.branches c) threes are under round.back refl h).0 ∙ e))
    by_tests false false e h = refl

-- ---- what the links put between two nodes

abbrev node_of : Parts → Bool → ℕ → ℕ
node_of case second b = slice_index_or (map (end_node second) case.branches) b 0

abbrev linked : Parts → List ℤ → ℕ → Bool → ℕ → ℕ → ℕ → ℕ → ℤ
linked case coupling k second n m b c = same_node (node_of case second b) n *ℤ link case coupling k b c *ℤ same_node (node_of case second c) m

abbrev links_from : Parts → List ℤ → ℕ → Bool → ℕ → ℕ → ℕ → ℤ
links_from case coupling k second n m b = sum_below (length case.branches) (λ c. linked case coupling k second n m b c)

abbrev all_links : Parts → List ℤ → ℕ → Bool → ℕ → ℕ → ℤ
all_links case coupling k second n m = sum_below (length case.branches) (λ b. links_from case coupling k second n m b)

linked_turned : (case : Parts) (coupling : List ℤ) (k j : ℕ) (second : Bool) (n m b c : ℕ) → link case coupling k b c ≡ link case coupling j c b → linked case coupling k second n m b c ≡ linked case coupling j second m n c b
linked_turned case coupling k j second n m b c e =
    turn_end (node_of case second b == n) (node_of case second c == m) (link case coupling k b c)
    ∙ ap (λ (g : ℤ). same_node (node_of case second c) m *ℤ g *ℤ same_node (node_of case second b) n) e

all_turned : (case : Parts) (coupling : List ℤ) (k j : ℕ) (second : Bool) (n m : ℕ) → AreInThrees case.branches case.trios → ArePlaced case → AreRound k j → all_links case coupling k second n m ≡ all_links case coupling j second m n
all_turned case coupling k j second n m threes are round =
    let count = length case.branches in
    sum_swapped count count (λ b c. linked case coupling k second n m b c)
    ∙ sum_below_same count (λ c. sum_below count (λ b. linked case coupling k second n m b c)) (λ c. links_from case coupling j second m n c) (λ c under.
    sum_below_same count (λ b. linked case coupling k second n m b c) (λ b. linked case coupling j second m n c b) (λ b below.
    linked_turned case coupling k j second n m b c (link_turned case coupling k j b c threes are round below under)))

-- ---- the links from one branch

nothing_between : (p q : Bool) → (if p then pos 1 else pos 0) *ℤ pos 0 *ℤ (if q then pos 1 else pos 0) ≡ pos 0
nothing_between true true = omega (arith, ints)
nothing_between true false = omega (arith, ints)
nothing_between false true = omega (arith, ints)
nothing_between false false = omega (arith, ints)

no_links : (case : Parts) (coupling : List ℤ) (k : ℕ) (second : Bool) (n m b : ℕ) → phase_at case.branches b ≡ None → links_from case coupling k second n m b ≡ pos 0
no_links case coupling k second n m b none =
    sum_below-none (length case.branches) (λ c. linked case coupling k second n m b c) (λ c below.
    ap (λ (o : Option (ℕ × ℕ)). same_node (node_of case second b) n *ℤ (if hops case.trios k o c then coupled coupling o else pos 0) *ℤ same_node (node_of case second c) m) none
    ∙ nothing_between (node_of case second b == n) (node_of case second c == m))

one_link : (case : Parts) (coupling : List ℤ) (k : ℕ) (second : Bool) (n m b : ℕ) (x : ℕ × ℕ) → AreInThrees case.branches case.trios → x.0 < length case.trios → phase_at case.branches b ≡ Some x
    → links_from case coupling k second n m b ≡ same_node (node_of case second b) n *ℤ item coupling x.0 *ℤ same_node (phase_node case second x.0 ((x.1 + k) % 3)) m
one_link case coupling k second n m b x threes there is =
    let count = length case.branches in
    let at = first_of_trio case.trios x.0 + (x.1 + k) % 3 in
    let inside : at < count = phase_there case.branches case.trios x.0 ((x.1 + k) % 3) threes there (omega arith) in
    let g : ℤ = same_node (node_of case second b) n *ℤ item coupling x.0 *ℤ same_node (node_of case second at) m in
    let f : ℕ → ℤ = λ c. pos 0 in
    let put : Bool → ℕ → ℤ = λ t c. same_node (node_of case second b) n *ℤ (if t then item coupling x.0 else pos 0) *ℤ same_node (node_of case second c) m in
    let open_at : (c : ℕ) → linked case coupling k second n m b c ≡ put (at == c) c =
    λ c. ap (λ (o : Option (ℕ × ℕ)). same_node (node_of case second b) n *ℤ (if hops case.trios k o c then coupled coupling o else pos 0) *ℤ same_node (node_of case second c) m) is in
    let here : linked case coupling k second n m b at ≡ g = open_at at ∙ ap (λ (t : Bool). put t at) (eq-eqb at at refl) in
    let elsewhere : (c : ℕ) → c < count → c ≢ at → linked case coupling k second n m b c ≡ pos 0 =
    λ c below ne. open_at c ∙ ap (λ (t : Bool). put t c) (ne_eqb at c (λ e. ne (sym e))) ∙ nothing_between (node_of case second b == n) (node_of case second c == m) in
    let zeros = sum_below-none count f (λ c below. refl) in
    let one = sum_below-one count at f (λ c. linked case coupling k second n m b c) g inside (omega (arith, ints, here)) elsewhere in
    omega (arith, ints, one, zeros)

-- ---- what a branch puts: its own part and its links

abbrev links_both : Parts → List ℤ → Bool → ℕ → ℕ → ℕ → ℤ
links_both case coupling second n m b = links_from case coupling 1 second n m b +ℤ links_from case coupling 2 second n m b

abbrev parted : Parts → ℤ → List ℤ → ℕ → ℕ → ℕ → Option Branch → ℤ
parted case g coupling n m b o = own_part g n m o +ℤ (links_both case coupling false n m b +ℤ links_both case coupling true n m b)

alone : (case : Parts) (g : ℤ) (coupling : List ℤ) (n m b : ℕ) (x : Branch) → phase_at case.branches b ≡ None → own_part g n m (Some x) ≡ parted case g coupling n m b (Some x)
alone case g coupling n m b x none =
    omega (arith, ints, no_links case coupling 1 false n m b none, no_links case coupling 2 false n m b none, no_links case coupling 1 true n m b none, no_links case coupling 2 true n m b none)

phase_link : (case : Parts) (coupling : List ℤ) (k : ℕ) (second : Bool) (n m b : ℕ) (x : Phase) → AreInThrees case.branches case.trios → x.trio < length case.trios → b < length case.branches
    → slice_index_or case.branches b (OfPhase x) ≡ OfPhase x
    → links_from case coupling k second n m b ≡ same_node (end_node second (OfPhase x)) n *ℤ item coupling x.trio *ℤ same_node (phase_node case second x.trio ((x.phase + k) % 3)) m
phase_link case coupling k second n m b x threes there below is =
    one_link case coupling k second n m b (x.trio, x.phase) threes there (phase_is case b (OfPhase x) below is)
    ∙ ap (λ (node : ℕ). same_node node n *ℤ item coupling x.trio *ℤ same_node (phase_node case second x.trio ((x.phase + k) % 3)) m) (node_is case second b (OfPhase x) below is)

branch_parted : (case : Parts) (g : ℤ) (coupling : List ℤ) (n m b : ℕ) (x : Branch) → AreInThrees case.branches case.trios → IsBranch case.run (sizes_of case) case.points x → b < length case.branches
    → slice_index_or case.branches b x ≡ x → between case g coupling n m (Some x) ≡ parted case g coupling n m b (Some x)
branch_parted case g coupling n m b (OfLumped x) threes h below is = alone case g coupling n m b (OfLumped x) (phase_is case b (OfLumped x) below is)
branch_parted case g coupling n m b (OfLine x) threes h below is = alone case g coupling n m b (OfLine x) (phase_is case b (OfLine x) below is)
branch_parted case g coupling n m b (OfPseudo x) threes h below is = alone case g coupling n m b (OfPseudo x) (phase_is case b (OfPseudo x) below is)
branch_parted case g coupling n m b (OfPhase x) threes h below is =
    let next_from = phase_link case coupling 1 false n m b x threes h.trio below is in
    let last_from = phase_link case coupling 2 false n m b x threes h.trio below is in
    let next_to = phase_link case coupling 1 true n m b x threes h.trio below is in
    let last_to = phase_link case coupling 2 true n m b x threes h.trio below is in
    omega (arith, ints, next_from, last_from, next_to, last_to)

-- ---- all branches

entry_parted : (case : Parts) (own coupling : List ℤ) (n m : ℕ) → AreInThrees case.branches case.trios → All (IsBranch case.run (sizes_of case) case.points) case.branches
    → current_entry case own coupling n m
    ≡ sum_below (length case.branches) (λ b. own_part (item own b) n m (slice_get case.branches b))
    +ℤ ((all_links case coupling 1 false n m +ℤ all_links case coupling 2 false n m) +ℤ (all_links case coupling 1 true n m +ℤ all_links case coupling 2 true n m))
entry_parted case own coupling n m threes all =
    let count = length case.branches in
    let mine : ℕ → ℤ = λ b. own_part (item own b) n m (slice_get case.branches b) in
    let next : Bool → ℕ → ℤ = λ second b. links_from case coupling 1 second n m b in
    let last : Bool → ℕ → ℤ = λ second b. links_from case coupling 2 second n m b in
    let each = sum_below_same count (λ b. between case (item own b) coupling n m (slice_get case.branches b)) (λ b. mine b +ℤ ((next false b +ℤ last false b) +ℤ (next true b +ℤ last true b))) (λ b below. elim ((slice_get_cases case.branches b).1) [
      | inl is ↦
          let x = is.0 in
          ap (λ (o : Option Branch). between case (item own b) coupling n m o) is.2
          ∙ branch_parted case (item own b) coupling n m b x threes (subst (IsBranch case.run (sizes_of case) case.points) is.3 (all b x below)) below is.3
          ∙ sym (ap (λ (o : Option Branch). parted case (item own b) coupling n m b o) is.2)
      | inr past ↦ absurd (omega (arith, below, past.0))
    ]) in
    let outer = sum_added count mine (λ b. (next false b +ℤ last false b) +ℤ (next true b +ℤ last true b)) in
    let ends = sum_added count (λ b. next false b +ℤ last false b) (λ b. next true b +ℤ last true b) in
    let from_end = sum_added count (next false) (last false) in
    let to_end = sum_added count (next true) (last true) in
    each ∙ outer ∙ omega (arith, ints, ends, from_end, to_end)

pub symmetric : (case : Parts) (own coupling : List ℤ) (n m : ℕ) → IsCase case → current_entry case own coupling n m ≡ current_entry case own coupling m n
symmetric case own coupling n m fits =
    let network = fits.draft.network in
    let threes = network.in_threes in
    let are = placed case network.branches in
    let once : AreRound 1 2 = record { there = goes_round; back = goes_round_back } in
    let twice : AreRound 2 1 = record { there = goes_round_back; back = goes_round } in
    let here = entry_parted case own coupling n m threes network.branches in
    let turned = entry_parted case own coupling m n threes network.branches in
    let mine = sum_below_same (length case.branches) (λ b. own_part (item own b) n m (slice_get case.branches b)) (λ b. own_part (item own b) m n (slice_get case.branches b)) (λ b below. own_symmetric (item own b) n m (slice_get case.branches b)) in
    let from_next = all_turned case coupling 1 2 false n m threes are once in
    let from_last = all_turned case coupling 2 1 false n m threes are twice in
    let to_next = all_turned case coupling 1 2 true n m threes are once in
    let to_last = all_turned case coupling 2 1 true n m threes are twice in
    omega (arith, ints, here, turned, mine, from_next, from_last, to_next, to_last)
