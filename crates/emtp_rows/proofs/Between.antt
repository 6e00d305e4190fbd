-- What the terms of a branch add up to is incidence times conductance times incidence.
use Rattle.std.proofs.Common.{◌≡◌, ◌≢◌, ℕ, ◌+◌, ◌==◌, ◌%◌, ℤ, pos, neg_ℤ, ◌+ℤ◌, ◌-ℤ◌, ◌*ℤ◌, Bool, true, false, if◌then◌else◌, List, [], ◌∷◌, Some, refl, arith}
use Rattle.std.proofs.lemmas.Bool.Decides.{nat_tests}
use Rattle.std.proofs.lemmas.Int.{ints}
use Rattle.emtp_elim.specs.Matrix.{item}
use Rattle.emtp_case.specs.Branch.{from_of, to_of}
use Rattle.emtp_case.specs.declared.branch.Branch.{Branch}
use Rattle.emtp_case.specs.declared.branch.Branch.TheVariants.{Lumped as OfLumped, Line as OfLine, Pseudo as OfPseudo, Phase as OfPhase}
use Rattle.emtp_case.specs.declared.branch.Phase.{Phase}
use Rattle.emtp_case.specs.declared.case.Parts.{Parts}
use Rattle.emtp_rows.specs.declared.term.Amount.TheVariants.{Own}
use Rattle.emtp_case.specs.Sums.{total}
use Rattle.emtp_rows.specs.Nodal.{between, incidence, phase_node, same_node}
use Rattle.emtp_rows.specs.held.Terms.{in_node, end_terms, terms_by, two_terms}
use Rattle.emtp_case.proofs.RowsOfNodes.{isnt_number}

-- ---- sums, by which nodes are the same

times_one : (b : Bool) (g : ℤ) → (if b then g else pos 0) ≡ g *ℤ (if b then pos 1 else pos 0)
times_one true g = omega (arith, ints)
times_one false g = omega (arith, ints)

first_end : (c d : Bool) (g : ℤ) → (if c then g else pos 0) +ℤ ((if d then neg_ℤ g else pos 0) +ℤ pos 0) ≡ (pos 1 -ℤ pos 0) *ℤ g *ℤ ((if c then pos 1 else pos 0) -ℤ (if d then pos 1 else pos 0))
first_end true true g = omega (arith, ints)
first_end true false g = omega (arith, ints)
first_end false true g = omega (arith, ints)
first_end false false g = omega (arith, ints)

second_end : (c d : Bool) (g : ℤ) → (if d then g else pos 0) +ℤ ((if c then neg_ℤ g else pos 0) +ℤ pos 0) ≡ (pos 0 -ℤ pos 1) *ℤ g *ℤ ((if c then pos 1 else pos 0) -ℤ (if d then pos 1 else pos 0))
second_end true true g = omega (arith, ints)
second_end true false g = omega (arith, ints)
second_end false true g = omega (arith, ints)
second_end false false g = omega (arith, ints)

no_end : (c d : Bool) (g : ℤ) → pos 0 ≡ (pos 0 -ℤ pos 0) *ℤ g *ℤ ((if c then pos 1 else pos 0) -ℤ (if d then pos 1 else pos 0))
no_end true true g = omega (arith, ints)
no_end true false g = omega (arith, ints)
no_end false true g = omega (arith, ints)
no_end false false g = omega (arith, ints)

-- one conductance to a node, or none
one : (b : Bool) (g : ℤ) → (if b then g else pos 0) ≡ pos 1 *ℤ g *ℤ (if b then pos 1 else pos 0)
one true g = omega (arith, ints)
one false g = omega (arith, ints)

none : (b : Bool) (g : ℤ) → pos 0 ≡ pos 0 *ℤ g *ℤ (if b then pos 1 else pos 0)
none true g = omega (arith, ints)
none false g = omega (arith, ints)

-- ---- a branch between its two nodes

two_sum : (own coupling : List ℤ) (m b p q : ℕ) (x y : Bool) → (x ≡ true → y ≡ true → ⊥)
    → total (in_node own coupling m) (if x then two_terms b p q else if y then two_terms b q p else [])
    ≡ ((if x then pos 1 else pos 0) -ℤ (if y then pos 1 else pos 0)) *ℤ item own b *ℤ (same_node p m -ℤ same_node q m)
two_sum own coupling m b p q true true apart = absurd (apart refl refl)
two_sum own coupling m b p q true false apart = first_end (p == m) (q == m) (item own b)
two_sum own coupling m b p q false true apart = second_end (p == m) (q == m) (item own b)
two_sum own coupling m b p q false false apart = no_end (p == m) (q == m) (item own b)

not_both : (p q n : ℕ) → p ≢ q → (p == n) ≡ true → (q == n) ≡ true → ⊥
not_both p q n apart e f = apart (grind (arith, nat_tests))

-- ---- a line

line_sum : (own coupling : List ℤ) (m b p q : ℕ) (x y : Bool) → (x ≡ true → y ≡ true → ⊥)
    → total (in_node own coupling m) (if x then record { node = p; amount = Own b } ∷ [] else if y then record { node = q; amount = Own b } ∷ [] else [])
    ≡ (if x then pos 1 else pos 0) *ℤ item own b *ℤ same_node p m +ℤ (if y then pos 1 else pos 0) *ℤ item own b *ℤ same_node q m
line_sum own coupling m b p q true true apart = absurd (apart refl refl)
line_sum own coupling m b p q true false apart = omega (arith, ints, one (p == m) (item own b), none (q == m) (item own b))
line_sum own coupling m b p q false true apart = omega (arith, ints, none (p == m) (item own b), one (q == m) (item own b))
line_sum own coupling m b p q false false apart = omega (arith, ints, none (p == m) (item own b), none (q == m) (item own b))

-- ---- a phase of a three-phase line

phase_sum : (case : Parts) (own coupling : List ℤ) (m b : ℕ) (p : Phase) (x y : Bool) → (x ≡ true → y ≡ true → ⊥)
    → total (in_node own coupling m) (if x then end_terms case b false (OfPhase p) else if y then end_terms case b true (OfPhase p) else [])
    ≡ ((if x then pos 1 else pos 0) *ℤ item own b *ℤ same_node p.from m
    +ℤ (if x then pos 1 else pos 0) *ℤ item coupling p.trio *ℤ same_node (phase_node case false p.trio ((p.phase + 1) % 3)) m
    +ℤ (if x then pos 1 else pos 0) *ℤ item coupling p.trio *ℤ same_node (phase_node case false p.trio ((p.phase + 2) % 3)) m)
    +ℤ ((if y then pos 1 else pos 0) *ℤ item own b *ℤ same_node p.to m
    +ℤ (if y then pos 1 else pos 0) *ℤ item coupling p.trio *ℤ same_node (phase_node case true p.trio ((p.phase + 1) % 3)) m
    +ℤ (if y then pos 1 else pos 0) *ℤ item coupling p.trio *ℤ same_node (phase_node case true p.trio ((p.phase + 2) % 3)) m)
phase_sum case own coupling m b p true true apart = absurd (apart refl refl)
phase_sum case own coupling m b p true false apart =
    omega (
      arith,
      ints,
      one (p.from == m) (item own b),
      one (phase_node case false p.trio ((p.phase + 1) % 3) == m) (item coupling p.trio),
      one (phase_node case false p.trio ((p.phase + 2) % 3) == m) (item coupling p.trio),
      none (p.to == m) (item own b),
      none (phase_node case true p.trio ((p.phase + 1) % 3) == m) (item coupling p.trio),
      none (phase_node case true p.trio ((p.phase + 2) % 3) == m) (item coupling p.trio),
    )
phase_sum case own coupling m b p false true apart =
    omega (
      arith,
      ints,
      none (p.from == m) (item own b),
      none (phase_node case false p.trio ((p.phase + 1) % 3) == m) (item coupling p.trio),
      none (phase_node case false p.trio ((p.phase + 2) % 3) == m) (item coupling p.trio),
      one (p.to == m) (item own b),
      one (phase_node case true p.trio ((p.phase + 1) % 3) == m) (item coupling p.trio),
      one (phase_node case true p.trio ((p.phase + 2) % 3) == m) (item coupling p.trio),
    )
phase_sum case own coupling m b p false false apart =
    omega (
      arith,
      ints,
      none (p.from == m) (item own b),
      none (phase_node case false p.trio ((p.phase + 1) % 3) == m) (item coupling p.trio),
      none (phase_node case false p.trio ((p.phase + 2) % 3) == m) (item coupling p.trio),
      none (p.to == m) (item own b),
      none (phase_node case true p.trio ((p.phase + 1) % 3) == m) (item coupling p.trio),
      none (phase_node case true p.trio ((p.phase + 2) % 3) == m) (item coupling p.trio),
    )

-- ---- all branches

-- the terms of a branch whose ends differ add up to what it puts between the two nodes
pub terms_between : (case : Parts) (own coupling : List ℤ) (n m b : ℕ) (x : Branch) → from_of x ≢ to_of x
    → total (in_node own coupling m) (terms_by case n b (Some x)) ≡ between case (item own b) coupling n m (Some x)
terms_between case own coupling n m b (OfLumped x) apart = two_sum own coupling m b x.from x.to (x.from == n) (x.to == n) (not_both x.from x.to n apart)
terms_between case own coupling n m b (OfPseudo x) apart = two_sum own coupling m b x.from x.to (x.from == n) (x.to == n) (not_both x.from x.to n apart)
terms_between case own coupling n m b (OfLine x) apart = line_sum own coupling m b x.from x.to (x.from == n) (x.to == n) (not_both x.from x.to n apart)
terms_between case own coupling n m b (OfPhase x) apart = phase_sum case own coupling m b x (x.from == n) (x.to == n) (not_both x.from x.to n apart)

-- a branch that doesn't end at node n puts nothing there
zero_times : (u v : ℤ) → pos 0 *ℤ u *ℤ v ≡ pos 0
zero_times u v =
    let first : pos 0 *ℤ u ≡ pos 0 = omega (arith, ints) in
    rw first (omega (arith, ints))

pub between_none : (case : Parts) (g : ℤ) (coupling : List ℤ) (n m : ℕ) (x : Branch) → from_of x ≢ n → to_of x ≢ n → between case g coupling n m (Some x) ≡ pos 0
between_none case g coupling n m (OfLumped x) off away = rw (isnt_number x.from n off, isnt_number x.to n away) (zero_times g (incidence (OfLumped x) m))
between_none case g coupling n m (OfPseudo x) off away = rw (isnt_number x.from n off, isnt_number x.to n away) (zero_times g (incidence (OfPseudo x) m))
between_none case g coupling n m (OfLine x) off away = rw (isnt_number x.from n off, isnt_number x.to n away) (omega (arith, ints, zero_times g (same_node x.from m), zero_times g (same_node x.to m)))
between_none case g coupling n m (OfPhase x) off away =
    let c = item coupling x.trio in
    rw (isnt_number x.from n off, isnt_number x.to n away)
    (omega (
      arith,
      ints,
      zero_times g (same_node x.from m),
      zero_times c (same_node (phase_node case false x.trio ((x.phase + 1) % 3)) m),
      zero_times c (same_node (phase_node case false x.trio ((x.phase + 2) % 3)) m),
      zero_times g (same_node x.to m),
      zero_times c (same_node (phase_node case true x.trio ((x.phase + 1) % 3)) m),
      zero_times c (same_node (phase_node case true x.trio ((x.phase + 2) % 3)) m),
    ))
