-- Currents of branches, one after another.
use Rattle.std.proofs.Common.{◌≡◌, ◌∙◌, sym, ap, ℕ, ◌+◌, ◌<◌, ◌≤◌, ◌==◌, ℤ, pos, ◌-ℤ◌, Bool, true, false, not, List, length, take, slice_get, get_or, Option, Some, None, refl, arith}
use Rattle.std.proofs.lemmas.List.{get_or_default}
use Rattle.std.proofs.lemmas.Option.{slice_get-get_or}
use Rattle.emtp_case.specs.Sums.{sum_below, total}
use Rattle.emtp_case.specs.Branch.{from_of, to_of}
use Rattle.emtp_case.specs.declared.branch.Branch.{Branch}
use Rattle.emtp_case.specs.held.Case.{IsNetwork}
use Rattle.emtp_case.proofs.RowsOfNodes.{branch_read}
use Rattle.emtp_case.specs.declared.case.Parts.{Parts}
use Rattle.emtp_admittance.specs.Admittances.{no_port, port_at}
use Rattle.emtp_phasor.specs.Steady.{flows, leaving_node, leaving_through}
use Rattle.emtp_phasor.specs.held.HeldBranches.{branches_at, has_end_at}
use Rattle.emtp_phasor.specs.Volts.{source_phasors_into}
use Rattle.emtp_phasor.proofs.BranchLists.{places_total}
use Rattle.emtp_phasor.proofs.Ports.{ends_away, ends_within}
use Rattle.emtp_admittance.specs.declared.admittance.TwoPort.{TwoPort}
use Rattle.emtp_phasor.specs.declared.phasor.Phasor.{Phasor}

pub not_true : (b : Bool) → b ≡ true → not b ≡ false
not_true true e = refl
not_true false e = absurd (cc)

pub not_false : (b : Bool) → b ≡ false → not b ≡ true
not_false false e = refl
not_false true e = absurd (cc)

-- whether the currents of the branch that an index read are in range
pub flow_read : (case : Parts) (ports : List TwoPort) (volts : List Phasor) (others : List Branch) (at : ℕ) (d x : Branch) (e y : TwoPort) (r : Bool) → others ≡ case.branches → at < length case.branches → at < length ports → get_or others at d ≡ x → get_or ports at e ≡ y
    → r ≡ flows y volts (Some x) → r ≡ flows (port_at ports at) volts (slice_get case.branches at)
flow_read case ports volts others at d x e y r same there inside branch port is =
    is
    ∙ ap (λ z. flows z volts (Some x)) (sym port ∙ get_or_default ports at e no_port inside)
    ∙ ap (λ o. flows (port_at ports at) volts o) (ap Some (sym branch ∙ ap (λ bs. get_or bs at d) same) ∙ sym (slice_get-get_or case.branches at d there))

-- the branch that an index read has its ends among the voltages
pub from_there : (case : Parts) (others : List Branch) (at count : ℕ) (d : Branch) → IsNetwork case → others ≡ case.branches → at < length case.branches → count ≡ length case.nodes + 1 → from_of (get_or others at d) < count
from_there case others at count d network same there all =
    let x = get_or others at d in
    let within = ends_within case at x (from_of x) (to_of x) network (branch_read case others at d x same there refl) there refl refl in
    omega (arith, within.0, all)

pub to_there : (case : Parts) (others : List Branch) (at count : ℕ) (d : Branch) → IsNetwork case → others ≡ case.branches → at < length case.branches → count ≡ length case.nodes + 1 → to_of (get_or others at d) < count
to_there case others at count d network same there all =
    let x = get_or others at d in
    let within = ends_within case at x (from_of x) (to_of x) network (branch_read case others at d x same there refl) there refl refl in
    omega (arith, within.1, all)

-- what leaves a node through the branch that an index read
pub leaving_read : (case : Parts) (ports : List TwoPort) (volts : List Phasor) (imaginary : Bool) (n : ℕ) (others : List Branch) (at : ℕ) (d x : Branch) (e y : TwoPort) (r : ℤ) → others ≡ case.branches → at < length case.branches → at < length ports → get_or others at d ≡ x → get_or ports at e ≡ y
    → r ≡ leaving_through imaginary y volts n (Some x) → r ≡ leaving_through imaginary (port_at ports at) volts n (slice_get case.branches at)
leaving_read case ports volts imaginary n others at d x e y r same there inside branch port is =
    is
    ∙ ap (λ z. leaving_through imaginary z volts n (Some x)) (sym port ∙ get_or_default ports at e no_port inside)
    ∙ ap (λ o. leaving_through imaginary (port_at ports at) volts n o) (ap Some (sym branch ∙ ap (λ bs. get_or bs at d) same) ∙ sym (slice_get-get_or case.branches at d there))

-- nothing leaves a node through a branch elsewhere
leaving_away : (imaginary : Bool) (y : TwoPort) (volts : List Phasor) (n : ℕ) (o : Option Branch) → has_end_at n o ≡ false → leaving_through imaginary y volts n o ≡ pos 0
leaving_away imaginary y volts n None away = refl
leaving_away imaginary y volts n (Some x) away =
    let off : (from_of x == n) ≡ false = (ends_away n x away).0 in
    let other_off : (to_of x == n) ≡ false = (ends_away n x away).1 in
    rw (off, other_off) refl

-- what leaves a node, once all branches at it are added up
pub leaving_is : (case : Parts) (ports : List TwoPort) (volts : List Phasor) (imaginary : Bool) (n i : ℕ) (places : List ℕ) (sum s r : ℤ) → places ≡ branches_at case n → length places ≤ i
    → sum ≡ total (λ b. leaving_through imaginary (port_at ports b) volts n (slice_get case.branches b)) (take i places) → s ≡ source_phasors_into case imaginary n → r ≡ sum -ℤ s → r ≡ leaving_node case ports volts imaginary n
leaving_is case ports volts imaginary n i places sum s r are past is brought added =
    let F : ℕ → ℤ = λ b. leaving_through imaginary (port_at ports b) volts n (slice_get case.branches b) in
    let all = places_total case n i places F (λ b away. leaving_away imaginary (port_at ports b) volts n (slice_get case.branches b) away) are past in
    added ∙ ap (λ x. x -ℤ s) (is ∙ all) ∙ ap (λ y. sum_below (length case.branches) F -ℤ y) brought
