-- Until its later sources begin a network without switches stays at rest, to the last digit.
use Rattle.std.proofs.Common.{◌≡◌, ◌∙◌, ◌+◌, ◌≤◌, ap, sym, subst, refl, ℕ, zero, suc, ℤ, pos, neg_ℤ, ◌-ℤ◌, ◌*ℤ◌, ◌≤ℤ◌, All, IsSome, true, List, [], ◌∷◌, drop, length, map, get_or, replicate, slice_get, Option, Some, None, Result, Ok, Err, option_map, arith}
use Rattle.std.specs.List.{range_with_len}
use Rattle.std.specs.Prelude.{unwrap_or}
use Rattle.std.proofs.lemmas.Int.{ints}
use Rattle.std.proofs.lemmas.List.FromFn.{length-map-range_with_len}
use Rattle.std.proofs.lemmas.Option.{slice_get-map, slice_get_within}
use Rattle.emtp_case.specs.held.Case.{IsCase}
use Rattle.emtp_case.specs.StepRecord.{BranchState, LineBranch, LumpedBranch, PhaseBranch, PseudoBranch, StepRecord, before_start, branch_at_rest, latest, line_state_of, lumped_of, no_line, no_lumped, no_phase, no_pseudo, phase_state_of, pseudo_of, record_back, rest_of, starting_state}
use Rattle.emtp_case.specs.declared.branch.Branch.{Branch}
use Rattle.emtp_case.specs.declared.branch.Branch.TheVariants.{Line as OfLine, Lumped as OfLumped, Phase as OfPhase, Pseudo as OfPseudo}
use Rattle.emtp_case.specs.declared.branch.LineState.{LineState}
use Rattle.emtp_case.specs.declared.branch.LumpedState.{LumpedState}
use Rattle.emtp_case.specs.declared.branch.PhaseState.{PhaseState}
use Rattle.emtp_case.specs.declared.branch.PseudoState.{PseudoState}
use Rattle.emtp_case.specs.declared.case.Parts.{Parts}
use Rattle.emtp_case.specs.declared.source.Shape.{Shape}
use Rattle.emtp_case.specs.declared.source.Shape.TheVariants.{Cosine, NodeVoltage, Pulse, Ramp, Saw, Step, SwitchCurrent, SwitchStatus, Tacs}
use Rattle.emtp_case.specs.declared.switch.Switch.{Switch}
use Rattle.emtp_elim.specs.Matrix.{item}
use Rattle.emtp_elim.specs.held.Matrix.{opposites}
use Rattle.emtp_line.specs.Line.{next_state as next_line}
use Rattle.emtp_line.specs.Lines as lined
use Rattle.emtp_line.specs.Mode.{mode_of_line}
use Rattle.emtp_line.specs.Phases.{modes_of}
use Rattle.emtp_lumped.specs.Lumps as lumped
use Rattle.emtp_machine.specs.held.Laws.{IsChain}
use Rattle.emtp_machine.specs.Next.{next}
use Rattle.emtp_net.proofs.Bringing.{record_reads}
use Rattle.emtp_net.specs.Part.{NetworkPart, phase_by, state_at, state_by, voltages_of}
use Rattle.emtp_net.specs.Step.{network_part}
use Rattle.emtp_net.specs.declared.fault.NetFault.{NetFault}
use Rattle.emtp_net.specs.held.Moving.{IsNext}
use Rattle.emtp_net.specs.held.Part.{network_of}
use Rattle.emtp_case.specs.NodeRows.{row_at}
use Rattle.emtp_pseudo.specs.Pseudos as pseudo
use Rattle.emtp_laws.specs.Mirror.{HasNoSign, is_plain_kind, is_plain_shape, mirror_image, mirrored_branch, mirrored_part, mirrored_records, mirrored_source, mirrored_step}
use Rattle.emtp_laws.proofs.SolvedSteps.{step_solved}
use Rattle.emtp_laws_of_units.specs.Later.{StartsFromRest, goes_from_its_start, later_source, with_later_sources}
use Rattle.emtp_laws_of_units.proofs.ChangedSources.{ActAlike, same_step}
use Rattle.emtp_laws_of_units.proofs.CommonTimes.{whole_made}
use Rattle.emtp_laws_of_units.proofs.LaterSources.{not_active, not_begun_at_rest, not_yet}
use Rattle.emtp_laws_of_units.proofs.LineSteps.{is_next, part_moved}
use Rattle.emtp_laws_of_units.proofs.Memoryless.{no_items}
use Rattle.emtp_laws_of_units.proofs.SameReadings.{ReadAlike, line_rests, lumped_rests, network_read, nothing_at, phase_rests, pseudo_rests, read_on, reads_itself, rest_reads}

-- ---- records of rest

-- the network of each record is that of record 0
abbrev pub AreAtRest : Parts → List StepRecord → Type 0
AreAtRest case [] = Unit {0}
AreAtRest case (r ∷ H) = (network_of r ≡ network_of (rest_of case)) × AreAtRest case H

pub nothing_read : (case : Parts) → ReadAlike (rest_of case) before_start
nothing_read case = record {
  voltages = nothing_at (length case.nodes + 1);
  lumps = rest_reads lumped_of no_lumped lumped_rests case.branches;
  lines = rest_reads line_state_of no_line line_rests case.branches;
  pseudos = rest_reads pseudo_of no_pseudo pseudo_rests case.branches;
  phases = rest_reads phase_state_of no_phase phase_rests case.branches;
}

-- they read as if they weren't there
pub rest_read : (case : Parts) (H : List StepRecord) → AreAtRest case H → (k : ℕ) → ReadAlike (record_back H k) before_start
rest_read case [] rest k = reads_itself before_start
rest_read case (r ∷ H) rest zero =
    read_on r (rest_of case) before_start (network_read r (rest_of case) rest.0) (nothing_read case)
rest_read case (r ∷ H) rest (suc k) = rest_read case H rest.1 k

-- ---- numbers that are their own opposites

own_opposite : (x : ℤ) → neg_ℤ x ≡ x → x ≡ pos 0
own_opposite x e = omega (arith, ints, e)

zeros : (xs : List ℤ) → opposites xs ≡ xs → xs ≡ replicate (length xs) (pos 0)
zeros [] own = refl
zeros (x ∷ xs) own =
    ap (λ z. z ∷ xs) (own_opposite x (ap (λ ys. item ys 0) own)) ∙ ap (λ zs. pos 0 ∷ zs) (zeros xs (ap (λ ys. drop 1 ys) own))

lumped_made : (i l c h : ℤ) → i ≡ pos 0 → l ≡ pos 0 → c ≡ pos 0 → h ≡ pos 0 → (let s : LumpedState = record { current = i; v_l = l; v_c = c; history_voltage = h } in s) ≡ no_lumped
lumped_made i l c h e f g k = rw (e, f, g, k) refl

lumped_still : (s : LumpedState) → mirrored_branch (LumpedBranch s) ≡ LumpedBranch s → s ≡ no_lumped
lumped_still s own =
    let still : (f : LumpedState → ℤ) → f (lumped_of (mirrored_branch (LumpedBranch s))) ≡ neg_ℤ (f s) → f s ≡ pos 0 = λ f turned. own_opposite (f s) (sym turned ∙ ap (λ b. f (lumped_of b)) own) in
    lumped_made s.current s.v_l s.v_c s.history_voltage (still (λ t. t.current) refl) (still (λ t. t.v_l) refl) (still (λ t. t.v_c) refl) (still (λ t. t.history_voltage) refl)

line_made : (i j v w : ℤ) → i ≡ pos 0 → j ≡ pos 0 → v ≡ pos 0 → w ≡ pos 0 → (let s : LineState = record { from_current = i; to_current = j; from_wave = v; to_wave = w } in s) ≡ no_line
line_made i j v w e f g k = rw (e, f, g, k) refl

line_still : (s : LineState) → mirrored_branch (LineBranch s) ≡ LineBranch s → s ≡ no_line
line_still s own =
    let still : (f : LineState → ℤ) → f (line_state_of (mirrored_branch (LineBranch s))) ≡ neg_ℤ (f s) → f s ≡ pos 0 = λ f turned. own_opposite (f s) (sym turned ∙ ap (λ b. f (line_state_of b)) own) in
    line_made s.from_current s.to_current s.from_wave s.to_wave (still (λ t. t.from_current) refl) (still (λ t. t.to_current) refl) (still (λ t. t.from_wave) refl) (still (λ t. t.to_wave) refl)

pseudo_made : (i k y : ℤ) → i ≡ pos 0 → k ≡ pos 0 → y ≡ pos 0 → (let s : PseudoState = record { current = i; segment = k; flux = y } in s) ≡ no_pseudo
pseudo_made i k y e f g = rw (e, f, g) refl

pseudo_still : (s : PseudoState) → mirrored_branch (PseudoBranch s) ≡ PseudoBranch s → s ≡ no_pseudo
pseudo_still s own =
    let still : (f : PseudoState → ℤ) → f (pseudo_of (mirrored_branch (PseudoBranch s))) ≡ neg_ℤ (f s) → f s ≡ pos 0 = λ f turned. own_opposite (f s) (sym turned ∙ ap (λ b. f (pseudo_of b)) own) in
    pseudo_made s.current s.segment s.flux (still (λ t. t.current) refl) (still (λ t. t.segment) refl) (still (λ t. t.flux) refl)

phase_made : (i j v w x y : ℤ) → i ≡ pos 0 → j ≡ pos 0 → v ≡ pos 0 → w ≡ pos 0 → x ≡ pos 0 → y ≡ pos 0
    → (let s : PhaseState = record { from_current = i; to_current = j; from_wave = v; to_wave = w; from_zero_wave = x; to_zero_wave = y } in s) ≡ no_phase
phase_made i j v w x y e f g h k l = rw (e, f, g, h, k, l) refl

phase_still : (s : PhaseState) → mirrored_branch (PhaseBranch s) ≡ PhaseBranch s → s ≡ no_phase
phase_still s own =
    let still : (f : PhaseState → ℤ) → f (phase_state_of (mirrored_branch (PhaseBranch s))) ≡ neg_ℤ (f s) → f s ≡ pos 0 = λ f turned. own_opposite (f s) (sym turned ∙ ap (λ b. f (phase_state_of b)) own) in
    phase_made s.from_current s.to_current s.from_wave s.to_wave s.from_zero_wave s.to_zero_wave (still (λ t. t.from_current) refl) (still (λ t. t.to_current) refl) (still (λ t. t.from_wave) refl) (still (λ t. t.to_wave) refl)
    (still (λ t. t.from_zero_wave) refl) (still (λ t. t.to_zero_wave) refl)

-- ---- a step from rest

-- the state of one kind that a branch has
kept : {S : Type 0} (f : S → BranchState) (o : Option S) (s : BranchState) → option_map f o ≡ Some s → (t : S) × (s ≡ f t)
kept f (Some t) s is = (t, cc)
kept f None s is = absurd (cc)

-- a branch that keeps its own mirror image keeps nothing
at_rest : (case : Parts) (H : List StepRecord) (vs : List ℤ) (b : ℕ) (x : Branch) (s : BranchState) → state_by case H vs b (Some x) ≡ Some s → mirrored_branch s ≡ s → s ≡ branch_at_rest x
at_rest case H vs b (OfLumped x) s is own =
    let t = kept LumpedBranch (lumped.next_of case x (lumped.states_of b H) (item vs x.from -ℤ item vs x.to)) s is in
    t.1 ∙ ap LumpedBranch (lumped_still t.0 (subst (λ z. mirrored_branch z ≡ z) t.1 own))
at_rest case H vs b (OfLine x) s is own =
    let t = kept LineBranch (next_line (mode_of_line case.run.dt x) (lined.states_of b H) (item vs x.from) (item vs x.to)) s is in
    t.1 ∙ ap LineBranch (line_still t.0 (subst (λ z. mirrored_branch z ≡ z) t.1 own))
at_rest case H vs b (OfPseudo x) s is own =
    let t = kept PseudoBranch (pseudo.next_of case x (pseudo.moments_of x b H) (item vs x.from -ℤ item vs x.to)) s is in
    t.1 ∙ ap PseudoBranch (pseudo_still t.0 (subst (λ z. mirrored_branch z ≡ z) t.1 own))
at_rest case H vs b (OfPhase x) s is own =
    let t = kept PhaseBranch (phase_by case vs x (modes_of case.run.dt (lined.trio_of case x.trio)) (lined.phase_states_of case x.trio H)) s is in
    t.1 ∙ ap PhaseBranch (phase_still t.0 (subst (λ z. mirrored_branch z ≡ z) t.1 own))

-- what is made place by place is what is made of the elements
by_places : {A B : Type 0} (f : ℕ → B) (g : A → B) (xs : List A) (a : ℕ) → ((k : ℕ) (x : A) → slice_get xs k ≡ Some x → f (a + k) ≡ g x) → map f (range_with_len a (length xs)) ≡ map g xs
by_places f g [] a each = refl
by_places f g (x ∷ xs) a each =
    let here : a ≡ a + 0 = omega arith in
    let later : (k : ℕ) → a + 1 + k ≡ a + suc k = λ k. omega arith in
    ap (λ y. y ∷ map f (range_with_len (a + 1) (length xs))) (ap f here ∙ each 0 x refl)
    ∙ ap (λ ys. g x ∷ ys) (by_places f g xs (a + 1) (λ k y is. ap f (later k) ∙ each (suc k) y is))

voltage_count : (case : Parts) (x : List ℤ) → length (voltages_of case x) ≡ length case.nodes + 1
unfolding voltages_of
voltage_count case x = omega (arith, length-map-range_with_len (λ n. item x (row_at case n)) 1 (length case.nodes))

-- parts of the same numbers
same_parts : (p q : NetworkPart) → p.voltages ≡ q.voltages → p.branches ≡ q.branches → p.switch_states ≡ q.switch_states → p.switch_currents ≡ q.switch_currents → p ≡ q
same_parts p q v b s i =
    ap (λ vs. let r : NetworkPart = record p { voltages = vs } in r) v
    ∙ ap (λ bs. let r : NetworkPart = record { voltages = q.voltages; branches = bs; switch_states = p.switch_states; switch_currents = p.switch_currents } in r) b
    ∙ ap (λ ss. let r : NetworkPart = record { voltages = q.voltages; branches = q.branches; switch_states = ss; switch_currents = p.switch_currents } in r) s
    ∙ ap (λ is. let r : NetworkPart = record { voltages = q.voltages; branches = q.branches; switch_states = q.switch_states; switch_currents = is } in r) i

own_part : (o : Result NetworkPart NetFault) (part : NetworkPart) → o ≡ Ok part → mirrored_step o ≡ o → mirrored_part part ≡ part
own_part (Ok p) part is own = cc
own_part (Err fault) part is own = absurd (cc)

some_state : (o : Option BranchState) → IsSome o → (s : BranchState) × (o ≡ Some s)
some_state (Some s) some = (s, refl)
some_state None some = absurd (cc)

one_state : (s t : BranchState) → Some s ≡ Some t → s ≡ t
one_state s t same = cc

-- a step of a case without switches that is its own mirror image comes to rest
part_at_rest : (case : Parts) (H : List StepRecord) (r : StepRecord) → case.switches ≡ [] → next case H ≡ Ok r → mirrored_step (network_part case H) ≡ network_part case H → network_of r ≡ network_of (rest_of case)
part_at_rest case H r none is own =
    let made = whole_made case H r is in
    let from = part_moved case H (network_of r) made in
    let solved = step_solved case H (network_of r) made in
    let next : IsNext case H r.voltages r = is_next case H (network_of r) r from refl in
    let image = own_part (network_part case H) (network_of r) made own in
    let turned : map mirrored_branch r.branches ≡ r.branches = ap (λ (p : NetworkPart). p.branches) image in
    let count : length r.voltages ≡ length case.nodes + 1 = ap length solved.voltages ∙ voltage_count case _ in
    let no_switch : length case.switches ≡ 0 = ap length none in
    let voltages : r.voltages ≡ replicate (length case.nodes + 1) (pos 0) = zeros r.voltages (ap (λ (p : NetworkPart). p.voltages) image) ∙ ap (λ n. replicate n (pos 0)) count in
    let branches : r.branches ≡ map branch_at_rest case.branches =
    next.branches ∙ by_places (λ b. unwrap_or (state_at case H r.voltages b) (LumpedBranch no_lumped)) branch_at_rest case.branches 0 (λ b x there.
    let at : 0 + b ≡ b = omega arith in
    let inside = slice_get_within case.branches b x there in
    let s = some_state (state_at case H r.voltages b) (from.in_range b inside) in
    let read = record_reads case H r.voltages r b s.0 next inside s.1 in
    let same = sym (ap (option_map mirrored_branch) read) ∙ sym (slice_get-map mirrored_branch r.branches b) ∙ ap (λ bs. slice_get bs b) turned ∙ read in
    ap (λ k. unwrap_or (state_at case H r.voltages k) (LumpedBranch no_lumped)) at ∙ ap (λ o. unwrap_or o (LumpedBranch no_lumped)) s.1
    ∙ at_rest case H r.voltages b x s.0 (ap (state_by case H r.voltages b) (sym there) ∙ s.1) (one_state (mirrored_branch s.0) s.0 same)) in
    same_parts (network_of r) (network_of (rest_of case)) voltages branches
    (solved.states ∙ no_items (length case.switches) _ no_switch ∙ sym (ap (λ (ss : List Switch). map (λ (s : Switch). starting_state s.kind) ss) none))
    (solved.currents ∙ no_items (length case.switches) _ no_switch ∙ sym (ap (λ (ss : List Switch). replicate (length ss) (pos 0)) none))

-- ---- up to the step at which the sources begin

plain_from : (shape : Shape) → goes_from_its_start shape ≡ true → is_plain_shape shape ≡ true
plain_from Step from = refl
plain_from (Ramp rise) from = refl
plain_from (Cosine freq phase) from = refl
plain_from (Tacs var) from = absurd (cc)
plain_from (Pulse period width) from = absurd (cc)
plain_from (Saw period) from = absurd (cc)
plain_from (NodeVoltage node) from = refl
plain_from (SwitchCurrent switch) from = refl
plain_from (SwitchStatus switch) from = refl

no_switch_at : (ss : List Switch) (P : Switch → Type 0) → ss ≡ [] → All P ss
no_switch_at ss P none = λ k d below. absurd (omega (arith, below, ap length none))

pub has_no_sign : (case : Parts) → StartsFromRest case → HasNoSign case
has_no_sign case from = record {
  switches = no_switch_at case.switches (λ (s : Switch). is_plain_kind s.kind ≡ true) from.switches;
  sources = λ i d below. plain_from (get_or case.sources i d).shape (from.sources i d below).shape;
}

pub some_time : (case : Parts) → IsCase case → pos 1 ≤ℤ case.run.dt
some_time case fits = above case.run.dt fits.draft.run.dt.least
  where
    above : (z : ℤ) → pos 1000 ≤ℤ z → pos 1 ≤ℤ z
    above z l = omega (arith, ints, l)

-- with the opposite amplitudes a step of the network is the mirror image
abbrev pub StepsAreOdd : Parts → Type 0
StepsAreOdd case = (H : List StepRecord) → network_part (mirror_image case) (mirrored_records H) ≡ mirrored_step (network_part case H)

module _ (case : Parts) (k : ℕ) (fits : IsCase case) (from : StartsFromRest case) (odd : StepsAreOdd case) where
  -- at time 0 no source acts, so that the step from nothing is its own mirror image
  first_own : mirrored_step (network_part case []) ≡ network_part case []
  first_own =
      let act : ActAlike case mirrored_source [] [] = record {
        nodes = λ s. refl;
        currents = λ s. refl;
        values = λ i d below.
            let s = get_or case.sources i d in
            let early = not_begun_at_rest case.run s (from.sources i d below) in
            not_active case.run [] (mirrored_source s) 0 early ∙ sym (not_active case.run [] s 0 early);
      } in
      sym (odd []) ∙ same_step case mirrored_source [] [] act from.switches (λ i. reads_itself before_start)

  -- and each step from rest, before the later sources begin, is that step
  rest_step : (H : List StepRecord) → length H ≤ k → AreAtRest (with_later_sources k case) H → network_part (with_later_sources k case) H ≡ network_part case []
  rest_step H few rest =
      let act : ActAlike case (later_source (pos k *ℤ case.run.dt)) H [] = record {
        nodes = λ s. refl;
        currents = λ s. refl;
        values = λ i d below.
            let s = get_or case.sources i d in
            not_active case.run (latest H).values (later_source (pos k *ℤ case.run.dt) s) (length H) (not_yet case.run s k (length H) (some_time case fits) (from.sources i d below) few)
            ∙ sym (not_active case.run [] s 0 (not_begun_at_rest case.run s (from.sources i d below)));
      } in
      same_step case (later_source (pos k *ℤ case.run.dt)) H [] act from.switches (rest_read (with_later_sources k case) H rest)

  own_step : (H : List StepRecord) → length H ≤ k → AreAtRest (with_later_sources k case) H → mirrored_step (network_part (with_later_sources k case) H) ≡ network_part (with_later_sources k case) H
  own_step H few rest = ap mirrored_step (rest_step H few rest) ∙ first_own ∙ sym (rest_step H few rest)

  pub chain_rests : (H : List StepRecord) → IsChain (with_later_sources k case) H → length H ≤ k + 1 → AreAtRest (with_later_sources k case) H
  chain_rests [] is few = absurd is
  chain_rests (r ∷ []) is few = (ap network_of is, tt)
  chain_rests (r ∷ s ∷ past) is few =
      let H = s ∷ past in
      let fewer : length H ≤ k = omega (arith, few) in
      let rest = chain_rests (s ∷ past) is.1 (omega (arith, fewer)) in
      (part_at_rest (with_later_sources k case) H r from.switches is.0 (own_step H fewer rest), rest)
