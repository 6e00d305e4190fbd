-- What the branches of a mirrored case bring: the same conductances, and the opposite histories and states.
use Rattle.std.proofs.Common.{◌≡◌, ◌∙◌, ◌==◌, ℕ, zero, suc, ℤ, pos, neg_ℤ, ◌+ℤ◌, ◌-ℤ◌, if◌then◌else◌, Bool, true, false, List, [], ◌∷◌, map, length, slice_get, Option, Some, None, option_map, refl, ap, sym, arith}
use Rattle.std.specs.List.{All}
use Rattle.std.proofs.Math.Path.{fun_ext}
use Rattle.std.proofs.lemmas.Int.{ints}
use Rattle.std.proofs.lemmas.List.Elements.{All-head, All-tail}
use Rattle.emtp_case.specs.Branch.{from_of, points_of, to_of}
use Rattle.emtp_case.specs.held.Branch.{IsBranch, IsCharacteristic}
use Rattle.emtp_case.specs.held.Sizes.{sizes_of}
use Rattle.emtp_case.specs.StepRecord.{BranchState, LumpedBranch, LineBranch, PseudoBranch, PhaseBranch, StepRecord}
use Rattle.emtp_case.specs.declared.branch.Branch.{Branch}
use Rattle.emtp_case.specs.declared.branch.Branch.TheVariants.{Lumped as OfLumped, Line as OfLine, Pseudo as OfPseudo, Phase as OfPhase}
use Rattle.emtp_case.specs.declared.branch.PhaseState.{PhaseState}
use Rattle.emtp_case.specs.declared.case.Parts.{Parts}
use Rattle.emtp_elim.specs.Matrix.{item, list_of}
use Rattle.emtp_elim.specs.held.Matrix.{opposites}
use Rattle.emtp_line.specs.Line.{line_histories, next_state as next_line}
use Rattle.emtp_line.specs.Lines as lined
use Rattle.emtp_line.specs.Mode.{mode_of_line}
use Rattle.emtp_line.specs.Phases.{from_histories, modes_of, phase_end, phase_from_history, phase_state, phase_to_history, to_histories}
use Rattle.emtp_lumped.specs.Companion.{companion_of}
use Rattle.emtp_lumped.specs.Lumps as lumped
use Rattle.emtp_lumped.specs.Step as series
use Rattle.emtp_net.specs.Part.{brought_by, phase_by, phase_voltages, state_by}
use Rattle.emtp_net.specs.System.{at_node, branch_sum, conductance_by, conductances, history_by, taken, through}
use Rattle.emtp_pseudo.specs.Laws as odd
use Rattle.emtp_pseudo.specs.Pseudos as pseudo
use Rattle.emtp_pseudo.specs.declared.segment.Segment.{Segment}
use Rattle.emtp_rows.specs.Nodal.{phase_node}
use Rattle.emtp_laws.specs.Mirror.{mirror_image, mirrored_line, mirrored_lumped, mirrored_phase, bare_records, mirrored_branch}
use Rattle.emtp_laws.proofs.OddBranches.{from_histories_turned, from_history, line_histories_turned, line_turned, lumped_history, lumped_turned, phase_turned, to_histories_turned, to_history}
use Rattle.emtp_laws.proofs.OddSegments.{present_turned, pseudo_history, pseudo_turned}
use Rattle.emtp_laws.proofs.MirroredRecords.{line_states, lumped_states, moments, phase_states}
use Rattle.emtp_elim.proofs.Opposites.{item_turned}
use Rattle.emtp_laws.proofs.MirroredNumbers.{sum_turned}

-- ---- conductances

conductance_same : (case : Parts) (H : List StepRecord) (b : ℕ) (o : Option Branch) → conductance_by (mirror_image case) (bare_records H) b o ≡ conductance_by case H b o
conductance_same case H b None = refl
conductance_same case H b (Some (OfLumped x)) = refl
conductance_same case H b (Some (OfLine x)) = refl
conductance_same case H b (Some (OfPseudo x)) =
    ap (λ ms. (pseudo.present case x ms).conductance) (moments x b H) ∙ ap (λ (s : Segment). s.conductance) (present_turned case x (pseudo.moments_of x b H))
conductance_same case H b (Some (OfPhase x)) = refl

pub conductances_same : (case : Parts) (H : List StepRecord) → conductances (mirror_image case) (bare_records H) ≡ conductances case H
conductances_same case H = ap (list_of (length case.branches)) (fun_ext (λ b. conductance_same case H b (slice_get case.branches b)))

-- ---- histories

abbrev pub turned_pair : ℤ × ℤ → ℤ × ℤ
turned_pair p = (neg_ℤ p.0, neg_ℤ p.1)

pub history_opposite : (case : Parts) (H : List StepRecord) (b : ℕ) (o : Option Branch) → history_by (mirror_image case) (bare_records H) b o ≡ turned_pair (history_by case H b o)
history_opposite case H b None = refl
history_opposite case H b (Some (OfLumped x)) =
    let c = companion_of case.run.dt x in
    ap through (ap (series.history_current_of c) (lumped_states b H) ∙ lumped_history c (lumped.newest (lumped.states_of b H)))
history_opposite case H b (Some (OfLine x)) =
    let m = mode_of_line case.run.dt x in
    ap taken (ap (line_histories m) (line_states b H) ∙ line_histories_turned m (lined.states_of b H))
history_opposite case H b (Some (OfPseudo x)) =
    ap through (ap (pseudo.next_history_current case x) (moments x b H) ∙ pseudo_history case x (pseudo.moments_of x b H))
history_opposite case H b (Some (OfPhase x)) =
    let m = modes_of case.run.dt (lined.trio_of case x.trio) in
    let first = lined.phase_states_of case x.trio H 0 in
    let own = lined.phase_states_of case x.trio H x.phase in
    let e = phase_states case x.trio H 0 in
    let h = phase_states case x.trio H x.phase in
    ap (λ i. taken (i, phase_to_history m (lined.phase_states_of case x.trio (bare_records H) 0) (lined.phase_states_of case x.trio (bare_records H) x.phase)))
    (ap (λ k. phase_from_history m k (lined.phase_states_of case x.trio (bare_records H) x.phase)) e ∙ ap (phase_from_history m (map mirrored_phase first)) h ∙ from_history m first own)
    ∙ ap (λ i. taken (neg_ℤ (phase_from_history m first own), i))
    (ap (λ k. phase_to_history m k (lined.phase_states_of case x.trio (bare_records H) x.phase)) e ∙ ap (phase_to_history m (map mirrored_phase first)) h ∙ to_history m first own)

-- ---- states

-- the points of a pseudo-nonlinear branch rise
abbrev pub HasCurve : Parts → Option Branch → Type 0
HasCurve case None = Unit {0}
HasCurve case (Some (OfLumped x)) = Unit {0}
HasCurve case (Some (OfLine x)) = Unit {0}
HasCurve case (Some (OfPseudo x)) = IsCharacteristic x.reactor case.run.dt (points_of case.points x.first x.count)
HasCurve case (Some (OfPhase x)) = Unit {0}

curve_of : (case : Parts) (x : Branch) → IsBranch case.run (sizes_of case) case.points x → HasCurve case (Some x)
curve_of case (OfLumped x) h = tt
curve_of case (OfLine x) h = tt
curve_of case (OfPseudo x) h = h.characteristic
curve_of case (OfPhase x) h = tt

pub has_curves : (case : Parts) (bs : List Branch) → All (IsBranch case.run (sizes_of case) case.points) bs → (b : ℕ) → HasCurve case (slice_get bs b)
has_curves case [] h b = tt
has_curves case (x ∷ bs) h zero = curve_of case x (All-head (IsBranch case.run (sizes_of case) case.points) x bs h)
has_curves case (x ∷ bs) h (suc b) = has_curves case bs (All-tail (IsBranch case.run (sizes_of case) case.points) x bs h) b

apart_turned : (vs : List ℤ) (n m : ℕ) → item (opposites vs) n -ℤ item (opposites vs) m ≡ neg_ℤ (item vs n -ℤ item vs m)
apart_turned vs n m = omega (arith, ints, item_turned vs n, item_turned vs m)

-- a state of one kind as one of a branch
as_branch : {S : Type 0} (f : S → BranchState) (t : S → S) → ((s : S) → mirrored_branch (f s) ≡ f (t s)) → (o : Option S) → option_map f (option_map t o) ≡ option_map mirrored_branch (option_map f o)
as_branch f t h None = refl
as_branch f t h (Some s) = ap Some (sym (h s))

voltages_three : (case : Parts) (second : Bool) (t : ℕ) (vs : List ℤ) → phase_voltages (mirror_image case) second t (opposites vs) ≡ opposites (phase_voltages case second t vs)
voltages_three case second t vs =
    let n = phase_node case second t in
    ap (λ x. x ∷ item (opposites vs) (n 1) ∷ item (opposites vs) (n 2) ∷ []) (item_turned vs (n 0))
    ∙ ap (λ x. neg_ℤ (item vs (n 0)) ∷ x ∷ item (opposites vs) (n 2) ∷ []) (item_turned vs (n 1))
    ∙ ap (λ x. neg_ℤ (item vs (n 0)) ∷ neg_ℤ (item vs (n 1)) ∷ x ∷ []) (item_turned vs (n 2))

pub state_opposite : (case : Parts) (H : List StepRecord) (vs : List ℤ) (b : ℕ) (o : Option Branch) → HasCurve case o
    → state_by (mirror_image case) (bare_records H) (opposites vs) b o ≡ option_map mirrored_branch (state_by case H vs b o)
state_opposite case H vs b None h = refl
state_opposite case H vs b (Some (OfLumped x)) h =
    let c = companion_of case.run.dt x in
    let s = lumped.newest (lumped.states_of b H) in
    let v = item vs x.from -ℤ item vs x.to in
    ap (option_map LumpedBranch) (
    ap (λ z. series.next_state c (lumped.newest (lumped.states_of b (bare_records H))) z) (apart_turned vs x.from x.to)
    ∙ ap (λ z. series.next_state c z (neg_ℤ v)) (lumped_states b H)
    ∙ lumped_turned c s v
    ) ∙ as_branch LumpedBranch mirrored_lumped (λ s. refl) (series.next_state c s v)
state_opposite case H vs b (Some (OfLine x)) h =
    let m = mode_of_line case.run.dt x in
    let past = lined.states_of b H in
    ap (option_map LineBranch) (
    ap (λ z. next_line m z (item (opposites vs) x.from) (item (opposites vs) x.to)) (line_states b H)
    ∙ ap (λ z. next_line m (map mirrored_line past) z (item (opposites vs) x.to)) (item_turned vs x.from)
    ∙ ap (λ z. next_line m (map mirrored_line past) (neg_ℤ (item vs x.from)) z) (item_turned vs x.to)
    ∙ line_turned m past (item vs x.from) (item vs x.to)
    ) ∙ as_branch LineBranch mirrored_line (λ s. refl) (next_line m past (item vs x.from) (item vs x.to))
state_opposite case H vs b (Some (OfPseudo x)) h =
    let past = pseudo.moments_of x b H in
    let v = item vs x.from -ℤ item vs x.to in
    ap (option_map PseudoBranch) (
    ap (λ z. pseudo.next_of case x (pseudo.moments_of x b (bare_records H)) z) (apart_turned vs x.from x.to)
    ∙ ap (λ z. pseudo.next_of case x z (neg_ℤ v)) (moments x b H)
    ∙ pseudo_turned case x past v h
    ) ∙ as_branch PseudoBranch odd.mirrored_state (λ s. refl) (pseudo.next_of case x past v)
state_opposite case H vs b (Some (OfPhase x)) h =
    let m = modes_of case.run.dt (lined.trio_of case x.trio) in
    let past = lined.phase_states_of case x.trio H in
    let e : lined.phase_states_of case x.trio (bare_records H) ≡ (λ p. map mirrored_phase (past p)) = fun_ext (phase_states case x.trio H) in
    let v = phase_voltages case false x.trio vs in
    let w = phase_voltages case true x.trio vs in
    let there = phase_voltages (mirror_image case) false x.trio (opposites vs) in
    let beyond = phase_voltages (mirror_image case) true x.trio (opposites vs) in
    ap (option_map PhaseBranch) (
    ap (λ (f : ℕ → List PhaseState). phase_state (phase_end m (from_histories m f) there) (phase_end m (to_histories m f) beyond) x.phase) e
    ∙ ap (λ z. phase_state (phase_end m z there) (phase_end m (to_histories m (λ p. map mirrored_phase (past p))) beyond) x.phase) (from_histories_turned m past)
    ∙ ap (λ z. phase_state (phase_end m (opposites (from_histories m past)) there) (phase_end m z beyond) x.phase) (to_histories_turned m past)
    ∙ ap (λ z. phase_state (phase_end m (opposites (from_histories m past)) z) (phase_end m (opposites (to_histories m past)) beyond) x.phase) (voltages_three case false x.trio vs)
    ∙ ap (λ z. phase_state (phase_end m (opposites (from_histories m past)) (opposites v)) (phase_end m (opposites (to_histories m past)) z) x.phase) (voltages_three case true x.trio vs)
    ∙ phase_turned m (from_histories m past) v (to_histories m past) w x.phase
    ) ∙ as_branch PhaseBranch mirrored_phase (λ s. refl) (phase_by case vs x m past)

-- ---- what they bring to nodes

node_opposite : (n : ℕ) (o : Option Branch) (p : ℤ × ℤ) → at_node n o (turned_pair p) ≡ neg_ℤ (at_node n o p)
node_opposite n None p = refl
node_opposite n (Some b) p = by_tests (from_of b == n) (to_of b == n)
  where
    by_tests : (f t : Bool) → (if f then neg_ℤ p.0 else pos 0) +ℤ (if t then neg_ℤ p.1 else pos 0) ≡ neg_ℤ ((if f then p.0 else pos 0) +ℤ (if t then p.1 else pos 0))
    by_tests true true = omega (arith, ints)
    by_tests true false = omega (arith, ints)
    by_tests false true = omega (arith, ints)
    by_tests false false = refl

pub branch_sum_opposite : (case : Parts) (f g : ℕ → ℤ × ℤ) (n : ℕ) → ((b : ℕ) → g b ≡ turned_pair (f b)) → branch_sum (mirror_image case) g n ≡ neg_ℤ (branch_sum case f n)
branch_sum_opposite case f g n h =
    sum_turned (length case.branches) (λ b. at_node n (slice_get case.branches b) (f b)) (λ b. at_node n (slice_get case.branches b) (g b))
    (λ b. ap (at_node n (slice_get case.branches b)) (h b) ∙ node_opposite n (slice_get case.branches b) (f b))

pub brought_opposite : (o : Option BranchState) → brought_by (option_map mirrored_branch o) ≡ turned_pair (brought_by o)
brought_opposite None = refl
brought_opposite (Some (LumpedBranch s)) = refl
brought_opposite (Some (LineBranch s)) = refl
brought_opposite (Some (PseudoBranch s)) = refl
brought_opposite (Some (PhaseBranch s)) = refl
