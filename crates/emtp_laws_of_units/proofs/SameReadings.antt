-- Records that read alike bring the same into a step, and keep the same of it.
use Rattle.std.proofs.Common.{◌≡◌, ◌∙◌, ◌+◌, ◌-◌, ap, sym, refl, ℕ, zero, suc, ℤ, pos, neg_ℤ, ◌+ℤ◌, ◌-ℤ◌, ◌*ℤ◌, true, false, List, [], ◌∷◌, map, replicate, slice_index_or, Option, Some, None, option_map}
use Rattle.emtp_case.specs.Branch.{first_of_trio}
use Rattle.emtp_case.specs.StepRecord.{BranchState, LineBranch, LumpedBranch, PhaseBranch, PseudoBranch, StepRecord, before_start, branch_at_rest, latest, line_at, line_state_of, lumped_at, lumped_of, no_line, no_lumped, no_phase, no_pseudo, phase_state_at, phase_state_of, pseudo_at, pseudo_of, record_back, voltage_at}
use Rattle.emtp_case.specs.declared.branch.Branch.{Branch}
use Rattle.emtp_case.specs.declared.branch.Branch.TheVariants.{Line as OfLine, Lumped as OfLumped, Phase as OfPhase, Pseudo as OfPseudo}
use Rattle.emtp_case.specs.declared.branch.LineState.{LineState}
use Rattle.emtp_case.specs.declared.branch.LumpedState.{LumpedState}
use Rattle.emtp_case.specs.declared.branch.PhaseState.{PhaseState}
use Rattle.emtp_case.specs.declared.branch.Pseudo.{Pseudo}
use Rattle.emtp_case.specs.declared.case.Parts.{Parts}
use Rattle.emtp_case.specs.declared.source.Source.{Source}
use Rattle.emtp_elim.specs.Matrix.{item}
use Rattle.emtp_fix.specs.Rounding.{near}
use Rattle.emtp_fix.specs.declared.limit.TheConstants.{PICO}
use Rattle.emtp_hist.specs.History.{value_before}
use Rattle.emtp_line.specs.Line.{from_waves, line_histories, line_state, to_waves}
use Rattle.emtp_line.specs.Lines as lined
use Rattle.emtp_line.specs.Mode.{mode_of_line}
use Rattle.emtp_line.specs.Phases.{Modes, from_histories, modes_of, phase_end, phase_from_history, phase_from_waves, phase_state, phase_to_history, phase_to_waves, to_histories, zero_from_waves, zero_to_waves}
use Rattle.emtp_line.specs.Wave.{between, history_of, past_wave}
use Rattle.emtp_line.specs.declared.mode.Mode.{Mode}
use Rattle.emtp_lumped.specs.Companion.{companion_of}
use Rattle.emtp_lumped.specs.Lumps as lumped
use Rattle.emtp_lumped.specs.Step as series
use Rattle.emtp_net.specs.Part.{NetworkPart, phase_voltages, state_by}
use Rattle.emtp_net.specs.System.{conductance_by, history_by, taken, through}
use Rattle.emtp_net.specs.held.Part.{network_of}
use Rattle.emtp_pseudo.specs.Moment.{moment_at, segment_in}
use Rattle.emtp_pseudo.specs.Pseudos as pseudo
use Rattle.emtp_pseudo.specs.Step as segmented
use Rattle.emtp_pseudo.specs.declared.moment.Moment.{Moment}
use Rattle.emtp_laws.proofs.AlikeRows.{Other, changed}

-- ---- what is read of a record

-- the network reads the same of two records
pub record ReadAlike (r s : StepRecord) : Type 0 where
  pub voltages : (node : ℕ) → voltage_at node r ≡ voltage_at node s
  pub lumps : (b : ℕ) → lumped_at b r ≡ lumped_at b s
  pub lines : (b : ℕ) → line_at b r ≡ line_at b s
  pub pseudos : (b : ℕ) → pseudo_at b r ≡ pseudo_at b s
  pub phases : (b : ℕ) → phase_state_at b r ≡ phase_state_at b s

-- and of two pasts, record by record, and before record 0
abbrev pub PastsReadAlike : List StepRecord → List StepRecord → Type 0
PastsReadAlike K H = (k : ℕ) → ReadAlike (record_back K k) (record_back H k)

pub reads_itself : (r : StepRecord) → ReadAlike r r
reads_itself r = record { voltages = λ n. refl; lumps = λ b. refl; lines = λ b. refl; pseudos = λ b. refl; phases = λ b. refl }

pub read_on : (r s t : StepRecord) → ReadAlike r s → ReadAlike s t → ReadAlike r t
read_on r s t one other = record {
  voltages = λ n. one.voltages n ∙ other.voltages n;
  lumps = λ b. one.lumps b ∙ other.lumps b;
  lines = λ b. one.lines b ∙ other.lines b;
  pseudos = λ b. one.pseudos b ∙ other.pseudos b;
  phases = λ b. one.phases b ∙ other.phases b;
}

pub read_back : (r s : StepRecord) → ReadAlike r s → ReadAlike s r
read_back r s same = record {
  voltages = λ n. sym (same.voltages n);
  lumps = λ b. sym (same.lumps b);
  lines = λ b. sym (same.lines b);
  pseudos = λ b. sym (same.pseudos b);
  phases = λ b. sym (same.phases b);
}

-- the network of a record is all that is read of it
pub network_read : (r s : StepRecord) → network_of r ≡ network_of s → ReadAlike r s
network_read r s same = record {
  voltages = λ n. ap (λ (p : NetworkPart). slice_index_or p.voltages n (pos 0)) same;
  lumps = λ b. ap (λ (p : NetworkPart). slice_index_or (map lumped_of p.branches) b no_lumped) same;
  lines = λ b. ap (λ (p : NetworkPart). slice_index_or (map line_state_of p.branches) b no_line) same;
  pseudos = λ b. ap (λ (p : NetworkPart). slice_index_or (map pseudo_of p.branches) b no_pseudo) same;
  phases = λ b. ap (λ (p : NetworkPart). slice_index_or (map phase_state_of p.branches) b no_phase) same;
}

-- ---- rest

pub nothing_at : (n node : ℕ) → slice_index_or (replicate n (pos 0)) node (pos 0) ≡ pos 0
nothing_at zero node = refl
nothing_at (suc n) zero = refl
nothing_at (suc n) (suc node) = nothing_at n node

-- what branches keep at rest, where f reads one kind of them
pub rest_reads : {S : Type 0} (f : BranchState → S) (none : S) → ((y : Branch) → f (branch_at_rest y) ≡ none) → (bs : List Branch) (b : ℕ) → slice_index_or (map f (map branch_at_rest bs)) b none ≡ none
rest_reads f none each [] b = refl
rest_reads f none each (y ∷ bs) zero = each y
rest_reads f none each (y ∷ bs) (suc b) = rest_reads f none each bs b

pub lumped_rests : (y : Branch) → lumped_of (branch_at_rest y) ≡ no_lumped
lumped_rests (OfLumped x) = refl
lumped_rests (OfLine x) = refl
lumped_rests (OfPseudo x) = refl
lumped_rests (OfPhase x) = refl

pub line_rests : (y : Branch) → line_state_of (branch_at_rest y) ≡ no_line
line_rests (OfLumped x) = refl
line_rests (OfLine x) = refl
line_rests (OfPseudo x) = refl
line_rests (OfPhase x) = refl

pub pseudo_rests : (y : Branch) → pseudo_of (branch_at_rest y) ≡ no_pseudo
pseudo_rests (OfLumped x) = refl
pseudo_rests (OfLine x) = refl
pseudo_rests (OfPseudo x) = refl
pseudo_rests (OfPhase x) = refl

pub phase_rests : (y : Branch) → phase_state_of (branch_at_rest y) ≡ no_phase
phase_rests (OfLumped x) = refl
phase_rests (OfLine x) = refl
phase_rests (OfPseudo x) = refl
phase_rests (OfPhase x) = refl

-- ---- what is read of a past

-- each number that two pasts keep of a branch is the same, k records back, where it is 0 before record 0
abbrev pub KeepSame : (S : Type 0) → S → List S → List S → Type 0
KeepSame S none ps qs = (f : S → ℤ) → f none ≡ pos 0 → (k : ℕ) → value_before (map f ps) k ≡ value_before (map f qs) k

number_back : {S : Type 0} (f : S → ℤ) (g : StepRecord → S) → f (g before_start) ≡ pos 0 → (H : List StepRecord) (k : ℕ) → value_before (map f (map g H)) k ≡ f (g (record_back H k))
number_back f g none [] k = sym none
number_back f g none (r ∷ H) zero = refl
number_back f g none (r ∷ H) (suc k) = number_back f g none H k

keep_same : {S : Type 0} (none : S) (g : StepRecord → S) → g before_start ≡ none → (K H : List StepRecord) → ((k : ℕ) → g (record_back K k) ≡ g (record_back H k)) → KeepSame S none (map g K) (map g H)
keep_same none g start K H same = λ f empty k.
    let before = ap f start ∙ empty in
    number_back f g before K k ∙ ap f (same k) ∙ sym (number_back f g before H k)

newest_lumped : (b : ℕ) (H : List StepRecord) → lumped.newest (lumped.states_of b H) ≡ lumped_at b (latest H)
newest_lumped b [] = refl
newest_lumped b (r ∷ H) = refl

newest_moment : (x : Pseudo) (b : ℕ) (H : List StepRecord) → pseudo.newest (pseudo.moments_of x b H) ≡ pseudo.moment_of x b (latest H)
newest_moment x b [] = refl
newest_moment x b (r ∷ H) = refl

-- ---- history currents

past_same : (m : Mode) (xs ys : List ℤ) → ((k : ℕ) → value_before xs k ≡ value_before ys k) → past_wave m xs ≡ past_wave m ys
past_same m xs ys same =
    ap (λ z. between m z (value_before xs m.steps)) (same (m.steps - 1)) ∙ ap (λ z. between m (value_before ys (m.steps - 1)) z) (same m.steps)

history_alike : (m : Mode) (xs ys us ws : List ℤ) → ((k : ℕ) → value_before xs k ≡ value_before ys k) → ((k : ℕ) → value_before us k ≡ value_before ws k) → history_of m xs us ≡ history_of m ys ws
history_alike m xs ys us ws other own =
    ap (λ p. neg_ℤ (near (m.far_share *ℤ p) PICO) -ℤ near (m.near_share *ℤ past_wave m us) PICO) (past_same m xs ys other)
    ∙ ap (λ p. neg_ℤ (near (m.far_share *ℤ past_wave m ys) PICO) -ℤ near (m.near_share *ℤ p) PICO) (past_same m us ws own)

line_alike : (m : Mode) (ps qs : List LineState) → KeepSame LineState no_line ps qs → line_histories m ps ≡ line_histories m qs
line_alike m ps qs same =
    let from = same (λ s. s.from_wave) refl in
    let to = same (λ s. s.to_wave) refl in
    ap (λ h. (h, history_of m (from_waves ps) (to_waves ps))) (history_alike m (to_waves ps) (to_waves qs) (from_waves ps) (from_waves qs) to from)
    ∙ ap (λ h. (history_of m (to_waves qs) (from_waves qs), h)) (history_alike m (from_waves ps) (from_waves qs) (to_waves ps) (to_waves qs) from to)

from_alike : (m : Modes) (first head past own : List PhaseState) → KeepSame PhaseState no_phase first head → KeepSame PhaseState no_phase past own → phase_from_history m first past ≡ phase_from_history m head own
from_alike m first head past own zeros same =
    ap (λ h. h +ℤ history_of m.positive (phase_to_waves past) (phase_from_waves past))
    (history_alike m.zero_sequence (zero_to_waves first) (zero_to_waves head) (zero_from_waves first) (zero_from_waves head) (zeros (λ s. s.to_zero_wave) refl) (zeros (λ s. s.from_zero_wave) refl))
    ∙ ap (λ h. history_of m.zero_sequence (zero_to_waves head) (zero_from_waves head) +ℤ h)
    (history_alike m.positive (phase_to_waves past) (phase_to_waves own) (phase_from_waves past) (phase_from_waves own) (same (λ s. s.to_wave) refl) (same (λ s. s.from_wave) refl))

to_alike : (m : Modes) (first head past own : List PhaseState) → KeepSame PhaseState no_phase first head → KeepSame PhaseState no_phase past own → phase_to_history m first past ≡ phase_to_history m head own
to_alike m first head past own zeros same =
    ap (λ h. h +ℤ history_of m.positive (phase_from_waves past) (phase_to_waves past))
    (history_alike m.zero_sequence (zero_from_waves first) (zero_from_waves head) (zero_to_waves first) (zero_to_waves head) (zeros (λ s. s.from_zero_wave) refl) (zeros (λ s. s.to_zero_wave) refl))
    ∙ ap (λ h. history_of m.zero_sequence (zero_from_waves head) (zero_to_waves head) +ℤ h)
    (history_alike m.positive (phase_from_waves past) (phase_from_waves own) (phase_to_waves past) (phase_to_waves own) (same (λ s. s.from_wave) refl) (same (λ s. s.to_wave) refl))

three_alike : (f g : ℕ → ℤ) → ((p : ℕ) → f p ≡ g p) → f 0 ∷ f 1 ∷ f 2 ∷ [] ≡ g 0 ∷ g 1 ∷ g 2 ∷ []
three_alike f g same =
    ap (λ z. z ∷ f 1 ∷ f 2 ∷ []) (same 0) ∙ ap (λ z. g 0 ∷ z ∷ f 2 ∷ []) (same 1) ∙ ap (λ z. g 0 ∷ g 1 ∷ z ∷ []) (same 2)

froms_alike : (m : Modes) (past own : ℕ → List PhaseState) → ((p : ℕ) → KeepSame PhaseState no_phase (past p) (own p)) → from_histories m past ≡ from_histories m own
froms_alike m past own same =
    three_alike (λ p. phase_from_history m (past 0) (past p)) (λ p. phase_from_history m (own 0) (own p)) (λ p. from_alike m (past 0) (own 0) (past p) (own p) (same 0) (same p))

tos_alike : (m : Modes) (past own : ℕ → List PhaseState) → ((p : ℕ) → KeepSame PhaseState no_phase (past p) (own p)) → to_histories m past ≡ to_histories m own
tos_alike m past own same =
    three_alike (λ p. phase_to_history m (past 0) (past p)) (λ p. phase_to_history m (own 0) (own p)) (λ p. to_alike m (past 0) (own 0) (past p) (own p) (same 0) (same p))

-- ---- the branches of a step

-- the same case with other sources
abbrev pub having : List Source → Parts → Other
having sources case = record { dt = case.run.dt; steps = case.run.steps; sources = sources; tacs_sources = case.tacs_sources }

module _ (case : Parts) (sources : List Source) (K H : List StepRecord) (same : PastsReadAlike K H) where
  lumped_same : (b : ℕ) → lumped.newest (lumped.states_of b K) ≡ lumped.newest (lumped.states_of b H)
  lumped_same b = newest_lumped b K ∙ (same 0).lumps b ∙ sym (newest_lumped b H)

  moment_same : (x : Pseudo) (b : ℕ) → pseudo.newest (pseudo.moments_of x b K) ≡ pseudo.newest (pseudo.moments_of x b H)
  moment_same x b =
      newest_moment x b K
      ∙ ap (λ v. moment_at (v -ℤ voltage_at x.to (latest K)) (pseudo_at b (latest K))) ((same 0).voltages x.from)
      ∙ ap (λ v. moment_at (voltage_at x.from (latest H) -ℤ v) (pseudo_at b (latest K))) ((same 0).voltages x.to)
      ∙ ap (moment_at (voltage_at x.from (latest H) -ℤ voltage_at x.to (latest H))) ((same 0).pseudos b)
      ∙ sym (newest_moment x b H)

  line_same : (b : ℕ) → KeepSame LineState no_line (lined.states_of b K) (lined.states_of b H)
  line_same b = keep_same no_line (line_at b) refl K H (λ k. (same k).lines b)

  phase_same : (t p : ℕ) → KeepSame PhaseState no_phase (lined.phase_states_of case t K p) (lined.phase_states_of case t H p)
  phase_same t p = keep_same no_phase (phase_state_at (first_of_trio case.trios t + p)) refl K H (λ k. (same k).phases (first_of_trio case.trios t + p))

  pub conductance_same : (b : ℕ) (o : Option Branch) → conductance_by (changed (having sources case) case) K b o ≡ conductance_by case H b o
  conductance_same b None = refl
  conductance_same b (Some (OfLumped x)) = refl
  conductance_same b (Some (OfLine x)) = refl
  conductance_same b (Some (OfPseudo x)) = ap (λ (m : Moment). (segment_in case x m.state.segment).conductance) (moment_same x b)
  conductance_same b (Some (OfPhase x)) = refl

  pub history_same : (b : ℕ) (o : Option Branch) → history_by (changed (having sources case) case) K b o ≡ history_by case H b o
  history_same b None = refl
  history_same b (Some (OfLumped x)) = ap (λ (s : LumpedState). through (series.history_current_of (companion_of case.run.dt x) s)) (lumped_same b)
  history_same b (Some (OfLine x)) = ap taken (line_alike (mode_of_line case.run.dt x) (lined.states_of b K) (lined.states_of b H) (line_same b))
  history_same b (Some (OfPseudo x)) = ap (λ (m : Moment). through (segmented.history_current_of x.reactor (segment_in case x m.state.segment) m)) (moment_same x b)
  history_same b (Some (OfPhase x)) =
      let m = modes_of case.run.dt (lined.trio_of case x.trio) in
      let past = lined.phase_states_of case x.trio K in
      let own = lined.phase_states_of case x.trio H in
      ap (λ h. taken (h, phase_to_history m (past 0) (past x.phase))) (from_alike m (past 0) (own 0) (past x.phase) (own x.phase) (phase_same x.trio 0) (phase_same x.trio x.phase))
      ∙ ap (λ h. taken (phase_from_history m (own 0) (own x.phase), h)) (to_alike m (past 0) (own 0) (past x.phase) (own x.phase) (phase_same x.trio 0) (phase_same x.trio x.phase))

  pub state_same : (vs : List ℤ) (b : ℕ) (o : Option Branch) → state_by (changed (having sources case) case) K vs b o ≡ state_by case H vs b o
  state_same vs b None = refl
  state_same vs b (Some (OfLumped x)) = ap (λ (s : LumpedState). option_map LumpedBranch (series.next_state (companion_of case.run.dt x) s (item vs x.from -ℤ item vs x.to))) (lumped_same b)
  state_same vs b (Some (OfLine x)) =
      ap (λ h. option_map LineBranch (line_state (mode_of_line case.run.dt x) h (item vs x.from) (item vs x.to))) (line_alike (mode_of_line case.run.dt x) (lined.states_of b K) (lined.states_of b H) (line_same b))
  state_same vs b (Some (OfPseudo x)) =
      ap (λ (m : Moment). option_map PseudoBranch (segmented.next_state x.reactor case.run.dt (segment_in case x m.state.segment) m (item vs x.from -ℤ item vs x.to))) (moment_same x b)
  state_same vs b (Some (OfPhase x)) =
      let m = modes_of case.run.dt (lined.trio_of case x.trio) in
      let past = lined.phase_states_of case x.trio K in
      let own = lined.phase_states_of case x.trio H in
      let near_end = phase_voltages case false x.trio vs in
      let far_end = phase_voltages case true x.trio vs in
      ap (λ h. option_map PhaseBranch (phase_state (phase_end m h near_end) (phase_end m (to_histories m past) far_end) x.phase)) (froms_alike m past own (phase_same x.trio))
      ∙ ap (λ h. option_map PhaseBranch (phase_state (phase_end m (from_histories m own) near_end) (phase_end m h far_end) x.phase)) (tos_alike m past own (phase_same x.trio))
