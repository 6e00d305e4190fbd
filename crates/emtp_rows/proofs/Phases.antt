-- The phases of a three-phase line, and its ends.
use Rattle.std.proofs.Common.{◌≡◌, ◌∙◌, sym, ℕ, ◌+◌, ◌<◌, ◌≤◌, pos, Bool, true, false, not, List, [], ◌∷◌, All, length, map, get_or, Some, None, refl, inl, inr, arith, ◌⊎◌}
use Rattle.std.proofs.lemmas.Bool.{cases_lt}
use Rattle.std.proofs.lemmas.List.{get_or-map, get_or_past, length-map}
use Rattle.emtp_case.specs.Branch.{from_of, to_of, first_of_trio}
use Rattle.emtp_case.specs.held.Branch.{IsBranch, phase_of, phase_at, AreInThrees}
use Rattle.emtp_case.specs.held.Range.{AreEnds}
use Rattle.emtp_case.specs.held.Sizes.{Sizes, sizes_of}
use Rattle.emtp_case.specs.declared.branch.Branch.{Branch}
use Rattle.emtp_case.specs.declared.branch.Branch.TheVariants.{Lumped as OfLumped, Line as OfLine, Pseudo as OfPseudo, Phase as OfPhase}
use Rattle.emtp_case.specs.declared.branch.Lumped.{Lumped}
use Rattle.emtp_case.specs.declared.branch.Pseudo.{Pseudo}
use Rattle.emtp_case.specs.declared.branch.Point.{Point}
use Rattle.emtp_case.specs.declared.branch.Trio.{Trio}
use Rattle.emtp_case.specs.declared.case.Parts.{Parts}
use Rattle.emtp_case.specs.declared.run_data.RunData.{RunData}
use Rattle.emtp_rows.specs.declared.term.Amount.TheVariants.{Own, Turned}
use Rattle.emtp_rows.specs.Nodal.{end_node, phase_node}
use Rattle.emtp_rows.specs.held.Terms.{end_terms}

-- a phase stands among the branches
pub phase_there : (branches : List Branch) (trios : List Trio) (t p : ℕ) → AreInThrees branches trios → t < length trios → p < 3 → first_of_trio trios t + p < length branches
phase_there branches trios t p threes below few =
    let at = first_of_trio trios t + p in
    let is : phase_at branches at ≡ Some (t, p) = threes.phases t p below few in
    elim (cases_lt at (length branches)) [
      | inl inside ↦ inside
      | inr past ↦
          let none : phase_at branches at ≡ None = get_or_past (map phase_of branches) at None (omega (arith, past, length-map branches phase_of)) in
          absurd (some_none (t, p) (sym is ∙ none))
    ]
  where
    some_none : (x : ℕ × ℕ) → Some x ≡ None → ⊥
    some_none x e = cc

-- where its line says that it stands
pub first_is : (trios : List Trio) (t : ℕ) (d : Trio) → t < length trios → first_of_trio trios t ≡ (get_or trios t d).first
first_is trios t d below = get_or-map (λ (x : Trio). x.first) trios t d 0 below

-- the ends of a branch of a case
pub branch_ends : (run : RunData) (n : Sizes) (points : List Point) (b : Branch) → IsBranch run n points b → AreEnds n.nodes (from_of b) (to_of b)
branch_ends run n points (OfLumped b) is = is.ends
branch_ends run n points (OfLine b) is = is.ends
branch_ends run n points (OfPseudo b) is = is.ends
branch_ends run n points (OfPhase b) is = is.ends

pub end_there : (run : RunData) (n : Sizes) (points : List Point) (second : Bool) (b : Branch) → IsBranch run n points b → end_node second b ≤ n.nodes
end_there run n points false b is = let ends = branch_ends run n points b is in ends.from_there
end_there run n points true b is = let ends = branch_ends run n points b is in ends.to_there

-- a branch whose ends touch
pub two_are : (case : Parts) (at : ℕ) (second : Bool) (b : Branch) → ((x : Lumped) × (b ≡ OfLumped x)) ⊎ ((x : Pseudo) × (b ≡ OfPseudo x))
    → end_terms case at second b ≡ record { node = end_node second b; amount = Own at } ∷ record { node = end_node (not second) b; amount = Turned at } ∷ []
two_are case at false b (inl is) = rw is.1 refl
two_are case at true b (inl is) = rw is.1 refl
two_are case at false b (inr is) = rw is.1 refl
two_are case at true b (inr is) = rw is.1 refl

-- its node is there
pub phase_within : (case : Parts) (second : Bool) (t p : ℕ) → AreInThrees case.branches case.trios → t < length case.trios → p < 3 → All (IsBranch case.run (sizes_of case) case.points) case.branches
    → phase_node case second t p ≤ length case.nodes
phase_within case second t p threes below few all =
    let at = first_of_trio case.trios t + p in
    let there = phase_there case.branches case.trios t p threes below few in
    let blank = OfLumped (record { line = 0; from = 0; to = 0; r = pos 0; l = pos 0; c = pos 0 }) in
    let is : phase_node case second t p ≡ end_node second (get_or case.branches at blank) = get_or-map (end_node second) case.branches at blank 0 there in
    rw is (end_there case.run (sizes_of case) case.points second (get_or case.branches at blank) (all at blank there))
