-- Branches and switches are named by nodes of the case.
use Rattle.std.proofs.Common.{sym, ap, subst, ℕ, ◌<◌, if◌then◌else◌, Bool, All, length, inl, inr, arith}
use Rattle.std.proofs.lemmas.Bool.{cases_eq, eq-eqb, ne_eqb}
use Rattle.std.proofs.lemmas.List.Elements.{All-map}
use Rattle.std.proofs.lemmas.List.{length-map}
use Rattle.emtp_case.specs.Branch.{from_of, to_of}
use Rattle.emtp_case.specs.EndNames.{named_end, node_of_branch, node_of_switch}
use Rattle.emtp_case.specs.held.Branch.{IsBranch}
use Rattle.emtp_case.specs.held.Case.{IsCase}
use Rattle.emtp_case.specs.held.EndNames.{IsNode}
use Rattle.emtp_case.specs.held.Range.{AreEnds}
use Rattle.emtp_case.specs.held.Sizes.{sizes_of}
use Rattle.emtp_case.specs.declared.branch.Branch.{Branch}
use Rattle.emtp_case.specs.declared.branch.Branch.TheVariants.{Lumped as OfLumped, Line as OfLine, Pseudo as OfPseudo, Phase as OfPhase}
use Rattle.emtp_case.specs.declared.case.Parts.{Parts}
use Rattle.emtp_case.specs.declared.switch.Switch.{Switch}

end_named : (case : Parts) (a b : ℕ) → AreEnds (length case.nodes) a b → IsNode case (named_end a b)
end_named case a b ends = elim (cases_eq a 0) [
  | inl here ↦ subst (IsNode case) (sym (ap (λ (t : Bool). if t then b else a) (eq-eqb a 0 here))) (record { low = omega (arith, here, ends.apart); high = ends.to_there })
  | inr ne ↦ subst (IsNode case) (sym (ap (λ (t : Bool). if t then b else a) (ne_eqb a 0 ne))) (record { low = omega (arith, ne); high = ends.from_there })
]

branch_ends : (case : Parts) (x : Branch) → IsBranch case.run (sizes_of case) case.points x → AreEnds (length case.nodes) (from_of x) (to_of x)
branch_ends case (OfLumped x) is = is.ends
branch_ends case (OfLine x) is = is.ends
branch_ends case (OfPseudo x) is = is.ends
branch_ends case (OfPhase x) is = is.ends

pub branch_named : (case : Parts) (b : ℕ) → IsCase case → b < length case.branches → IsNode case (node_of_branch case b)
branch_named case b fits inside =
    let name : Branch → ℕ = λ x. named_end (from_of x) (to_of x) in
    let each : All (λ (x : Branch). IsNode case (name x)) case.branches = λ k d below. end_named case _ _ (branch_ends case _ (fits.draft.network.branches k d below)) in
    All-map (IsNode case) name case.branches each b 0 (omega (arith, inside, length-map case.branches name))

pub switch_named : (case : Parts) (s : ℕ) → IsCase case → s < length case.switches → IsNode case (node_of_switch case s)
switch_named case s fits inside =
    let name : Switch → ℕ = λ x. named_end x.from x.to in
    let each : All (λ (x : Switch). IsNode case (name x)) case.switches = λ k d below. end_named case _ _ (fits.draft.network.switches k d below).ends in
    All-map (IsNode case) name case.switches each s 0 (omega (arith, inside, length-map case.switches name))
