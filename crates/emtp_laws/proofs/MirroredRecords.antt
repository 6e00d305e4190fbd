-- What a mirrored record says of a branch or a switch.
use Rattle.std.proofs.Common.{◌≡◌, ◌∙◌, ◌+◌, ℕ, neg_ℤ, ◌-ℤ◌, List, [], ◌∷◌, map, slice_index_or, refl, ap, sym, arith}
use Rattle.std.proofs.Math.Path.{fun_ext}
use Rattle.std.proofs.lemmas.Int.{ints}
use Rattle.std.proofs.lemmas.Simd.{map-map}
use Rattle.emtp_case.specs.Branch.{first_of_trio}
use Rattle.emtp_case.specs.StepRecord.{BranchState, LumpedBranch, LineBranch, PseudoBranch, PhaseBranch, StepRecord, before_start, line_at, line_state_of, lumped_at, lumped_of, no_line, no_lumped, no_phase, no_pseudo, phase_state_at, phase_state_of, pseudo_at, pseudo_of, record_back, voltage_at}
use Rattle.emtp_case.specs.declared.branch.LumpedState.{LumpedState}
use Rattle.emtp_case.specs.declared.branch.Pseudo.{Pseudo}
use Rattle.emtp_case.specs.declared.case.Parts.{Parts}
use Rattle.emtp_line.specs.Lines as lined
use Rattle.emtp_lumped.specs.Lumps as lumped
use Rattle.emtp_pseudo.specs.Moment.{moment_at}
use Rattle.emtp_pseudo.specs.Laws as odd
use Rattle.emtp_pseudo.specs.Pseudos as pseudo
use Rattle.emtp_laws.specs.Mirror.{mirrored_line, mirrored_lumped, mirrored_phase, mirrored_bare, bare_records, mirrored_branch}
use Rattle.emtp_elim.proofs.Opposites.{item_turned, place_map}

pub back : (H : List StepRecord) (k : ℕ) → record_back (bare_records H) k ≡ mirrored_bare (record_back H k)
back H k = place_map mirrored_bare H k before_start

-- what all records say
pub over_records : {S : Type 0} (f : StepRecord → S) (t : S → S) → ((r : StepRecord) → f (mirrored_bare r) ≡ t (f r)) → (H : List StepRecord) → map f (bare_records H) ≡ map t (map f H)
over_records f t h H = map-map f mirrored_bare H ∙ ap (λ k. map k H) (fun_ext h) ∙ sym (map-map t f H)

-- what a record keeps of a branch
pub kept_at : {S : Type 0} (f : BranchState → S) (t : S → S) (none : S) → ((s : BranchState) → f (mirrored_branch s) ≡ t (f s)) → (b : ℕ) (bs : List BranchState)
    → slice_index_or (map f (map mirrored_branch bs)) b (t none) ≡ t (slice_index_or (map f bs) b none)
kept_at f t none h b bs =
    ap (λ ys. slice_index_or ys b (t none)) (map-map f mirrored_branch bs ∙ ap (λ k. map k bs) (fun_ext h) ∙ sym (map-map t f bs))
    ∙ place_map t (map f bs) b none

-- ---- series branches

lumped_of_turned : (s : BranchState) → lumped_of (mirrored_branch s) ≡ mirrored_lumped (lumped_of s)
lumped_of_turned (LumpedBranch s) = refl
lumped_of_turned (LineBranch s) = refl
lumped_of_turned (PseudoBranch s) = refl
lumped_of_turned (PhaseBranch s) = refl

newest_lumped : (past : List LumpedState) → lumped.newest (map mirrored_lumped past) ≡ mirrored_lumped (lumped.newest past)
newest_lumped [] = refl
newest_lumped (s ∷ past) = refl

pub lumped_states : (b : ℕ) (H : List StepRecord) → lumped.newest (lumped.states_of b (bare_records H)) ≡ mirrored_lumped (lumped.newest (lumped.states_of b H))
lumped_states b H =
    ap lumped.newest (over_records (lumped_at b) mirrored_lumped (λ r. kept_at lumped_of mirrored_lumped no_lumped lumped_of_turned b r.branches) H)
    ∙ newest_lumped (lumped.states_of b H)

-- ---- lines

line_of_turned : (s : BranchState) → line_state_of (mirrored_branch s) ≡ mirrored_line (line_state_of s)
line_of_turned (LumpedBranch s) = refl
line_of_turned (LineBranch s) = refl
line_of_turned (PseudoBranch s) = refl
line_of_turned (PhaseBranch s) = refl

pub line_states : (b : ℕ) (H : List StepRecord) → lined.states_of b (bare_records H) ≡ map mirrored_line (lined.states_of b H)
line_states b H = over_records (line_at b) mirrored_line (λ r. kept_at line_state_of mirrored_line no_line line_of_turned b r.branches) H

phase_of_turned : (s : BranchState) → phase_state_of (mirrored_branch s) ≡ mirrored_phase (phase_state_of s)
phase_of_turned (LumpedBranch s) = refl
phase_of_turned (LineBranch s) = refl
phase_of_turned (PseudoBranch s) = refl
phase_of_turned (PhaseBranch s) = refl

pub phase_states : (case : Parts) (t : ℕ) (H : List StepRecord) (p : ℕ) → lined.phase_states_of case t (bare_records H) p ≡ map mirrored_phase (lined.phase_states_of case t H p)
phase_states case t H p =
    over_records (phase_state_at (first_of_trio case.trios t + p)) mirrored_phase (λ r. kept_at phase_state_of mirrored_phase no_phase phase_of_turned (first_of_trio case.trios t + p) r.branches) H

-- ---- pseudo-nonlinear branches

pseudo_of_turned : (s : BranchState) → pseudo_of (mirrored_branch s) ≡ odd.mirrored_state (pseudo_of s)
pseudo_of_turned (LumpedBranch s) = refl
pseudo_of_turned (LineBranch s) = refl
pseudo_of_turned (PseudoBranch s) = refl
pseudo_of_turned (PhaseBranch s) = refl

moment_turned : (x : Pseudo) (b : ℕ) (r : StepRecord) → pseudo.moment_of x b (mirrored_bare r) ≡ odd.mirrored_moment (pseudo.moment_of x b r)
moment_turned x b r =
    let v : voltage_at x.from (mirrored_bare r) -ℤ voltage_at x.to (mirrored_bare r) ≡ neg_ℤ (voltage_at x.from r -ℤ voltage_at x.to r) =
    omega (arith, ints, item_turned r.voltages x.from, item_turned r.voltages x.to) in
    ap (λ y. moment_at y (pseudo_at b (mirrored_bare r))) v
    ∙ ap (moment_at (neg_ℤ (voltage_at x.from r -ℤ voltage_at x.to r))) (kept_at pseudo_of odd.mirrored_state no_pseudo pseudo_of_turned b r.branches)

pub moments : (x : Pseudo) (b : ℕ) (H : List StepRecord) → pseudo.moments_of x b (bare_records H) ≡ map odd.mirrored_moment (pseudo.moments_of x b H)
moments x b H = over_records (pseudo.moment_of x b) odd.mirrored_moment (moment_turned x b) H
