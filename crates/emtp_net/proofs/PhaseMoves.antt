-- The three phases of a line moved at the place of phase 0.
use Rattle.std.proofs.Common.{◌≡◌, ◌≢◌, ◌∙◌, sym, ap, subst, ℕ, zero, suc, ◌+◌, ◌-◌, ◌<◌, ℤ, pos, true, false, All, List, [], ◌∷◌, length, get_or, slice_get, IsSome, Option, option_map, Some, None, Result, Ok, Err, refl, inl, inr, arith}
use Rattle.std.proofs.lemmas.Bool.{cases_eq}
use Rattle.std.proofs.lemmas.Option.{slice_get-get_or}
use Rattle.emtp_case.specs.Branch.{first_of_trio}
use Rattle.emtp_case.specs.held.Branch.{AreInThrees, IsBranch, phase_at, phase_of}
use Rattle.emtp_case.specs.held.Case.{IsNetwork}
use Rattle.emtp_case.specs.held.Sizes.{sizes_of}
use Rattle.emtp_case.specs.StepRecord.{StepRecord, PhaseBranch, no_phase, phase_state_at, phase_state_of}
use Rattle.emtp_case.specs.declared.branch.Branch.{Branch}
use Rattle.emtp_case.specs.declared.branch.Branch.TheVariants.{Lumped as OfLumped, Line as OfLine, Pseudo as OfPseudo, Phase as OfPhase}
use Rattle.emtp_case.specs.declared.branch.Line.{Line}
use Rattle.emtp_case.specs.declared.branch.Lumped.{Lumped}
use Rattle.emtp_case.specs.declared.branch.Phase.{Phase}
use Rattle.emtp_case.specs.declared.branch.PhaseState.{PhaseState}
use Rattle.emtp_case.specs.declared.branch.Pseudo.{Pseudo}
use Rattle.emtp_case.specs.declared.case.Parts.{Parts}
use Rattle.emtp_line.specs.held.Held.{PhaseStands, state_at as phase_in, with_states}
use Rattle.emtp_line.specs.Lines as lined
use Rattle.emtp_line.specs.held.Lines as held_lined
use Rattle.emtp_line.specs.Phases.{from_histories, modes_of, phase_end, phase_state, to_histories, zero_from_waves, zero_to_waves}
use Rattle.emtp_line.specs.held.Phases.{next_phases, three_of}
use Rattle.emtp_line.specs.held.Waves.{WavesStand}
use Rattle.emtp_line.specs.declared.phase_states.PhaseRange.{PhaseRange}
use Rattle.emtp_lumped.specs.Lumps as lumped
use Rattle.emtp_lumped.specs.held.Lumps as held_lumped
use Rattle.emtp_net.proofs.Moves.{is_next, next_record, next_state_read, phase_read, upto_before, upto_here, upto_other, some_is, other_kind}
use Rattle.emtp_net.proofs.Nodes.{branch_fits}
use Rattle.emtp_net.specs.held.Branches.{HasCase}
use Rattle.emtp_net.specs.held.Moving.{HasMoved, HasStopped, StandsBefore, head_by, upto}
use Rattle.emtp_net.specs.Part.{phase_voltages, state_at, state_by}
use Rattle.emtp_net.specs.declared.branches.Branches.{Branches}
use Rattle.emtp_pseudo.specs.Pseudos as pseudo
use Rattle.emtp_pseudo.specs.held.Pseudos as held_pseudo
use Rattle.emtp_rows.proofs.Phases.{phase_there}

-- ---- three states

three_first : (a b c : Option PhaseState) (states : List PhaseState) → three_of a b c ≡ Ok states → (a ≡ Some (phase_in states 0)) × (b ≡ Some (phase_in states 1)) × (c ≡ Some (phase_in states 2))
three_first None b c states is = absurd (cc)
three_first (Some x) None c states is = absurd (cc)
three_first (Some x) (Some y) None states is = absurd (cc)
three_first (Some x) (Some y) (Some z) states is =
    let same : x ∷ y ∷ z ∷ [] ≡ states = cc in
    (ap (λ s. Some (phase_in s 0)) same, ap (λ s. Some (phase_in s 1)) same, ap (λ s. Some (phase_in s 2)) same)

-- ---- the phase at a place

some_pair : (a b : ℕ × ℕ) → Some a ≡ Some b → a ≡ b
some_pair a b e = cc

-- the branch that is phase p of a three-phase line
pub phase_branch : (case : Parts) (t p : ℕ) → AreInThrees case.branches case.trios → t < length case.trios → p < 3 → (x : Phase) × (slice_get case.branches (first_of_trio case.trios t + p) ≡ Some (OfPhase x)) × (x.trio ≡ t) × (x.phase ≡ p)
phase_branch case t p threes below few =
    let at = first_of_trio case.trios t + p in
    let there : at < length case.branches = phase_there case.branches case.trios t p threes below few in
    let blank = OfLumped (record { line = 0; from = 0; to = 0; r = pos 0; l = pos 0; c = pos 0 }) in
    let y = get_or case.branches at blank in
    let read : slice_get case.branches at ≡ Some y = slice_get-get_or case.branches at blank there in
    let is : phase_of y ≡ Some (t, p) = sym (phase_read case at y there read) ∙ threes.phases t p below few in
    of_kind y read is
  where
    of_kind : (y : Branch) → slice_get case.branches (first_of_trio case.trios t + p) ≡ Some y → phase_of y ≡ Some (t, p) → (x : Phase) × (slice_get case.branches (first_of_trio case.trios t + p) ≡ Some (OfPhase x)) × (x.trio ≡ t) × (x.phase ≡ p)
    of_kind (OfLumped y) read is = absurd (cc)
    of_kind (OfLine y) read is = absurd (cc)
    of_kind (OfPseudo y) read is = absurd (cc)
    of_kind (OfPhase y) read is =
        let same : (y.trio, y.phase) ≡ (t, p) = some_pair (y.trio, y.phase) (t, p) is in
        (y, read, ap (λ (e : ℕ × ℕ). e.0) same, ap (λ (e : ℕ × ℕ). e.1) same)

-- what its law makes of it
abbrev pub phase_next : Parts → List StepRecord → List ℤ → ℕ → ℕ → Option PhaseState
phase_next case H vs t p =
    phase_state (phase_end (modes_of case.run.dt (lined.trio_of case t)) (from_histories (modes_of case.run.dt (lined.trio_of case t)) (lined.phase_states_of case t H)) (phase_voltages case false t vs))
    (phase_end (modes_of case.run.dt (lined.trio_of case t)) (to_histories (modes_of case.run.dt (lined.trio_of case t)) (lined.phase_states_of case t H)) (phase_voltages case true t vs)) p

pub phase_state_is : (case : Parts) (H : List StepRecord) (vs : List ℤ) (t p : ℕ) → AreInThrees case.branches case.trios → t < length case.trios → p < 3 → state_at case H vs (first_of_trio case.trios t + p) ≡ option_map PhaseBranch (phase_next case H vs t p)
phase_state_is case H vs t p threes below few =
    let found = phase_branch case t p threes below few in
    ap (state_by case H vs (first_of_trio case.trios t + p)) found.1 ∙ ap (λ u. option_map PhaseBranch (phase_next case H vs u found.0.phase)) found.2 ∙ ap (λ q. option_map PhaseBranch (phase_next case H vs t q)) found.3

-- ---- a place where a phase stands

-- the branch that begins a three-phase line is no phase of another one, and phases other than 0 begin none
pub begins_one : (case : Parts) (at t : ℕ) (x : Phase) → AreInThrees case.branches case.trios → t < length case.trios → at < length case.branches → slice_get case.branches at ≡ Some (OfPhase x) → first_of_trio case.trios t ≡ at → (x.trio ≡ t) × (x.phase ≡ 0)
begins_one case at t x threes below there is e =
    let first : phase_at case.branches (first_of_trio case.trios t + 0) ≡ Some (t, 0) = threes.phases t 0 below (omega arith) in
    let same : first_of_trio case.trios t + 0 ≡ at = omega (arith, e) in
    let pair : (x.trio, x.phase) ≡ (t, 0) = some_pair (x.trio, x.phase) (t, 0) (sym (phase_read case at (OfPhase x) there is) ∙ ap (phase_at case.branches) (sym same) ∙ first) in
    (ap (λ (e : ℕ × ℕ). e.0) pair, ap (λ (e : ℕ × ℕ). e.1) pair)

not_lumped : (x : Phase) (y : Lumped) → OfLumped y ≡ OfPhase x → ⊥
not_lumped x y e = cc

not_line : (x : Phase) (y : Line) → OfLine y ≡ OfPhase x → ⊥
not_line x y e = cc

not_pseudo : (x : Phase) (y : Pseudo) → OfPseudo y ≡ OfPhase x → ⊥
not_pseudo x y e = cc

-- what moves at its place is a phase of its line, if anything does
pub moves_with : (case : Parts) (at b : ℕ) (x : Phase) (y : Branch) → AreInThrees case.branches case.trios → All (IsBranch case.run (sizes_of case) case.points) case.branches → at < length case.branches → slice_get case.branches at ≡ Some (OfPhase x) → b < length case.branches → slice_get case.branches b ≡ Some y → head_by case b (Some y) ≡ at
    → (x.phase ≡ 0) × (p : ℕ) × (p < 3) × (b ≡ first_of_trio case.trios x.trio + p)
moves_with case at b x (OfLumped y) threes all there is below here head = absurd (not_lumped x y (other_kind case at b (OfPhase x) (OfLumped y) is here head))
moves_with case at b x (OfLine y) threes all there is below here head = absurd (not_line x y (other_kind case at b (OfPhase x) (OfLine y) is here head))
moves_with case at b x (OfPseudo y) threes all there is below here head = absurd (not_pseudo x y (other_kind case at b (OfPhase x) (OfPseudo y) is here head))
moves_with case at b x (OfPhase y) threes all there is below here head =
    let fits = branch_fits case b (OfPhase y) all below here in
    let line = begins_one case at y.trio x threes fits.trio there is head in
    let place : b ≡ first_of_trio case.trios y.trio + y.phase = threes.places b y.trio y.phase (phase_read case b (OfPhase y) below here) in
    (line.1, y.phase, fits.phase, place ∙ ap (λ t. first_of_trio case.trios t + y.phase) (sym line.0))

-- ---- phases 1 and 2 move with phase 0

pub phase_waits : (case : Parts) (H : List StepRecord) (vs : List ℤ) (at : ℕ) (x : Phase) (s : Branches) (i : ℤ) → IsNetwork case → at < length case.branches → slice_get case.branches at ≡ Some (OfPhase x) → x.phase ≢ 0 → StandsBefore s case H vs at → HasMoved s s case H vs at i
phase_waits case H vs at x s i network there is later before = record {
  stands = λ r next upto_at. record {
    lumps = λ b y here.
        let ne : b ≢ at = λ e. not_lumped x y (other_kind case at b (OfPhase x) (OfLumped y) is here e) in
        subst (λ h. held_lumped.StandsAt s.lumps b (lumped.states_of b h)) (sym (upto_other at b r H ne)) (upto_at.lumps b y here);
    lines = λ b y here.
        let ne : b ≢ at = λ e. not_line x y (other_kind case at b (OfPhase x) (OfLine y) is here e) in
        subst (λ h. held_lined.StandsAt s.lines b (lined.states_of b h)) (sym (upto_other at b r H ne)) (upto_at.lines b y here);
    trios = λ u below.
        let ne : first_of_trio case.trios u ≢ at = λ e. later (begins_one case at u x network.in_threes below there is e).1 in
        subst (λ h. held_lined.TrioStandsAt s.lines u (lined.phase_states_of case u h)) (sym (upto_other at (first_of_trio case.trios u) r H ne)) (upto_at.trios u below);
    pseudos = λ b y here.
        let ne : b ≢ at = λ e. not_pseudo x y (other_kind case at b (OfPhase x) (OfPseudo y) is here e) in
        subst (λ h. held_pseudo.StandsAt s.pseudos b (pseudo.moments_of y b h)) (sym (upto_other at b r H ne)) (upto_at.pseudos b y here);
  };
  in_range = λ b below head.
      let y = get_or case.branches b (OfPhase x) in
      let read : slice_get case.branches b ≡ Some y = slice_get-get_or case.branches b (OfPhase x) below in
      absurd (later (moves_with case at b x y network.in_threes network.branches there is below read (sym (ap (head_by case b) read) ∙ head)).0);
  lumped = λ y r next here. absurd (not_lumped x y (other_kind case at at (OfPhase x) (OfLumped y) is here refl));
  pseudo = λ y r next here. absurd (not_pseudo x y (other_kind case at at (OfPhase x) (OfPseudo y) is here refl));
}

-- ---- phase 0

-- the place of phase 0 is where its line begins
pub begins_here : (case : Parts) (at : ℕ) (x : Phase) → AreInThrees case.branches case.trios → at < length case.branches → slice_get case.branches at ≡ Some (OfPhase x) → x.phase ≡ 0 → at ≡ first_of_trio case.trios x.trio
begins_here case at x threes there is first = omega (arith, threes.places at x.trio x.phase (phase_read case at (OfPhase x) there is), first)

phase_in_range : (case : Parts) (H : List StepRecord) (vs : List ℤ) (t p : ℕ) (state : PhaseState) → AreInThrees case.branches case.trios → t < length case.trios → p < 3 → phase_next case H vs t p ≡ Some state → state_at case H vs (first_of_trio case.trios t + p) ≡ Some (PhaseBranch state)
phase_in_range case H vs t p state threes below few is = phase_state_is case H vs t p threes below few ∙ ap (option_map PhaseBranch) is

each_of_three : (P : ℕ → Type 0) → P 0 → P 1 → P 2 → (p : ℕ) → p < 3 → P p
each_of_three P a b c zero few = a
each_of_three P a b c (suc zero) few = b
each_of_three P a b c (suc (suc zero)) few = c
each_of_three P a b c (suc (suc (suc p))) few = absurd (omega arith)

pub trio_moves : (case : Parts) (H : List StepRecord) (vs : List ℤ) (at : ℕ) (x : Phase) (s t : Branches) (is_i : List ℤ) (i : ℤ) → IsNetwork case → HasCase s case → at < length case.branches → slice_get case.branches at ≡ Some (OfPhase x) → x.phase ≡ 0 → t.lumps ≡ s.lumps → t.pseudos ≡ s.pseudos
    → held_lined.TrioMoves s.lines t.lines x.trio (phase_voltages case false x.trio vs) (phase_voltages case true x.trio vs) (Ok is_i) → StandsBefore s case H vs at → HasMoved s t case H vs at i
trio_moves case H vs at x s t is_i i network same there is first lumps pseudos moves before =
    let threes = network.in_threes in
    let fits = branch_fits case at (OfPhase x) network.branches there is in
    let line_there : x.trio < length case.trios = fits.trio in
    let begin : first_of_trio case.trios x.trio ≡ at = sym (begins_here case at x threes there is first) in
    let start = next_record H case vs in
    let at_rest = before start (is_next case H vs) in
    let past = lined.phase_states_of case x.trio H in
    let stood : held_lined.TrioStandsAt s.lines x.trio past = subst (λ h. held_lined.TrioStandsAt s.lines x.trio (lined.phase_states_of case x.trio h)) (ap (λ n. upto at n start H) begin ∙ upto_before at start H) (at_rest.trios x.trio line_there) in
    let moved = moves.moved past stood in
    let states = moved.states in
    let made = subst (λ (p : Parts). next_phases (modes_of p.run.dt (lined.trio_of p x.trio)) past (phase_voltages case false x.trio vs) (phase_voltages case true x.trio vs) ≡ Ok states) same.lines moved.is in
    let three = three_first (phase_next case H vs x.trio 0) (phase_next case H vs x.trio 1) (phase_next case H vs x.trio 2) states made in
    let state : (p : ℕ) → p < 3 → state_at case H vs (first_of_trio case.trios x.trio + p) ≡ Some (PhaseBranch (phase_in states p)) =
    each_of_three (λ p. state_at case H vs (first_of_trio case.trios x.trio + p) ≡ Some (PhaseBranch (phase_in states p)))
    (phase_in_range case H vs x.trio 0 (phase_in states 0) threes line_there (omega arith) three.0)
    (phase_in_range case H vs x.trio 1 (phase_in states 1) threes line_there (omega arith) three.1)
    (phase_in_range case H vs x.trio 2 (phase_in states 2) threes line_there (omega arith) three.2) in
    record {
      stands = λ r next upto_at. record {
        lumps = λ b y here.
            let ne : b ≢ at = λ e. not_lumped x y (other_kind case at b (OfPhase x) (OfLumped y) is here e) in
            subst (λ h. held_lumped.StandsAt t.lumps b (lumped.states_of b h)) (sym (upto_other at b r H ne)) (subst (λ z. held_lumped.StandsAt z b (lumped.states_of b (upto at b r H))) (sym lumps) (upto_at.lumps b y here));
        lines = λ b y here.
            let ne : b ≢ at = λ e. not_line x y (other_kind case at b (OfPhase x) (OfLine y) is here e) in
            subst (λ h. held_lined.StandsAt t.lines b (lined.states_of b h)) (sym (upto_other at b r H ne)) (moves.lines b (lined.states_of b (upto at b r H)) (upto_at.lines b y here));
        trios = λ u below. elim (cases_eq u x.trio) [
          | inl e ↦
              let newest : (p : ℕ) → p < 3 → phase_state_at (first_of_trio case.trios x.trio + p) r ≡ phase_in states p =
              λ p few. next_state_read phase_state_of no_phase case H vs r (first_of_trio case.trios x.trio + p) (PhaseBranch (phase_in states p)) next (phase_there case.branches case.trios x.trio p threes line_there few) (state p few) in
              let told : held_lined.TrioStandsAt t.lines x.trio (lined.phase_states_of case x.trio (r ∷ H)) = trio_told t.lines x.trio (with_states states past) (lined.phase_states_of case x.trio (r ∷ H)) moved.stands
              (λ p few. ap (λ z. z ∷ past p) (sym (newest p few))) in
              let all : held_lined.TrioStandsAt t.lines x.trio (lined.phase_states_of case x.trio (upto (at + 1) (first_of_trio case.trios x.trio) r H)) =
              subst (λ h. held_lined.TrioStandsAt t.lines x.trio (lined.phase_states_of case x.trio h)) (sym (ap (λ n. upto (at + 1) n r H) begin ∙ upto_here at r H)) told in
              subst (λ k. held_lined.TrioStandsAt t.lines k (lined.phase_states_of case k (upto (at + 1) (first_of_trio case.trios k) r H))) (sym e) all
          | inr ne ↦
              let off : first_of_trio case.trios u ≢ at = λ e. ne (sym (begins_one case at u x threes below there is e).0) in
              subst (λ h. held_lined.TrioStandsAt t.lines u (lined.phase_states_of case u h)) (sym (upto_other at (first_of_trio case.trios u) r H off)) (moves.others u (lined.phase_states_of case u (upto at (first_of_trio case.trios u) r H)) ne (upto_at.trios u below))
        ];
        pseudos = λ b y here.
            let ne : b ≢ at = λ e. not_pseudo x y (other_kind case at b (OfPhase x) (OfPseudo y) is here e) in
            subst (λ h. held_pseudo.StandsAt t.pseudos b (pseudo.moments_of y b h)) (sym (upto_other at b r H ne)) (subst (λ z. held_pseudo.StandsAt z b (pseudo.moments_of y b (upto at b r H))) (sym pseudos) (upto_at.pseudos b y here));
      };
      in_range = λ b below head.
          let y = get_or case.branches b (OfPhase x) in
          let read : slice_get case.branches b ≡ Some y = slice_get-get_or case.branches b (OfPhase x) below in
          let found = moves_with case at b x y threes network.branches there is below read (sym (ap (head_by case b) read) ∙ head) in
          subst (λ k. IsSome (state_at case H vs k)) (sym found.3) (some_is (state_at case H vs (first_of_trio case.trios x.trio + found.1)) (PhaseBranch (phase_in states found.1)) (state found.1 found.2));
      lumped = λ y r next here. absurd (not_lumped x y (other_kind case at at (OfPhase x) (OfLumped y) is here refl));
      pseudo = λ y r next here. absurd (not_pseudo x y (other_kind case at at (OfPhase x) (OfPseudo y) is here refl));
    }
  where
    trio_told : (lines : held_lined.Lining) (u : ℕ) (old new : ℕ → List PhaseState) → held_lined.TrioStandsAt lines u old → ((p : ℕ) → p < 3 → old p ≡ new p) → held_lined.TrioStandsAt lines u new
    trio_told lines u old new told same =
        let held = held_lined.trio_held lines.trios u in
        let zeroth = same 0 (omega arith) in
        record {
          there = told.there;
          stands = record {
            zero_sequence = subst (λ q. WavesStand held.zero_sequence (zero_from_waves q) (zero_to_waves q)) zeroth told.stands.zero_sequence;
            first = subst (PhaseStands held.first) zeroth told.stands.first;
            second = subst (PhaseStands held.second) (same 1 (omega arith)) told.stands.second;
            third = subst (PhaseStands held.third) (same 2 (omega arith)) told.stands.third;
          };
        }

-- the first phase out of range
record IsFirstNone (of : ℕ → Option PhaseState) (p : ℕ) : Type 0 where
  few : p < 3
  none : of p ≡ None
  earlier : (q : ℕ) → q < p → IsSome (of q)

abbrev err_of : PhaseRange → Result (List PhaseState) PhaseRange
err_of e = Err e

phase_is : (a b : PhaseRange) → err_of a ≡ err_of b → b.phase ≡ a.phase
phase_is a b e = cc

three_stops : (of : ℕ → Option PhaseState) (fault : PhaseRange) → three_of (of 0) (of 1) (of 2) ≡ Err fault → IsFirstNone of fault.phase
three_stops of fault is = by_first (of 0) (of 1) (of 2) refl refl refl is
  where
    by_first : (a b c : Option PhaseState) → of 0 ≡ a → of 1 ≡ b → of 2 ≡ c → three_of a b c ≡ Err fault → IsFirstNone of fault.phase
    by_first None b c e0 e1 e2 is =
        let at : fault.phase ≡ 0 = phase_is (record { phase = 0 }) fault is in
        record { few = omega (arith, at); none = ap of at ∙ e0; earlier = λ q less. absurd (omega (arith, less, at)) }
    by_first (Some x) None c e0 e1 e2 is =
        let at : fault.phase ≡ 1 = phase_is (record { phase = 1 }) fault is in
        record {
          few = omega (arith, at);
          none = ap of at ∙ e1;
          earlier = λ q less. let first : q ≡ 0 = omega (arith, less, at) in subst (λ k. IsSome (of k)) (sym first) (some_is (of 0) x e0);
        }
    by_first (Some x) (Some y) None e0 e1 e2 is =
        let at : fault.phase ≡ 2 = phase_is (record { phase = 2 }) fault is in
        record {
          few = omega (arith, at);
          none = ap of at ∙ e2;
          earlier = λ q less. elim (cases_eq q 0) [
            | inl first ↦ subst (λ k. IsSome (of k)) (sym first) (some_is (of 0) x e0)
            | inr ne ↦ let second : q ≡ 1 = omega (arith, less, at, ne) in subst (λ k. IsSome (of k)) (sym second) (some_is (of 1) y e1)
          ];
        }
    by_first (Some x) (Some y) (Some z) e0 e1 e2 is = absurd (cc)

pub trio_stops : (case : Parts) (H : List StepRecord) (vs : List ℤ) (at : ℕ) (x : Phase) (s t : Branches) (fault : PhaseRange) → IsNetwork case → HasCase s case → at < length case.branches → slice_get case.branches at ≡ Some (OfPhase x) → x.phase ≡ 0
    → held_lined.TrioMoves s.lines t.lines x.trio (phase_voltages case false x.trio vs) (phase_voltages case true x.trio vs) (Err fault) → StandsBefore s case H vs at → (fault.phase < 3) × HasStopped case H vs at (at + fault.phase)
trio_stops case H vs at x s t fault network same there is first moves before =
    let threes = network.in_threes in
    let fits = branch_fits case at (OfPhase x) network.branches there is in
    let begin : first_of_trio case.trios x.trio ≡ at = sym (begins_here case at x threes there is first) in
    let start = next_record H case vs in
    let at_rest = before start (is_next case H vs) in
    let past = lined.phase_states_of case x.trio H in
    let stood : held_lined.TrioStandsAt s.lines x.trio past = subst (λ h. held_lined.TrioStandsAt s.lines x.trio (lined.phase_states_of case x.trio h)) (ap (λ n. upto at n start H) begin ∙ upto_before at start H) (at_rest.trios x.trio fits.trio) in
    let made = subst (λ (p : Parts). next_phases (modes_of p.run.dt (lined.trio_of p x.trio)) past (phase_voltages case false x.trio vs) (phase_voltages case true x.trio vs) ≡ Err fault) same.lines (moves.out past stood) in
    let stop = three_stops (phase_next case H vs x.trio) fault made in
    let place : (q : ℕ) → first_of_trio case.trios x.trio + q ≡ at + q = λ q. ap (λ n. n + q) begin in
    let state : (q : ℕ) → q < 3 → state_at case H vs (at + q) ≡ option_map PhaseBranch (phase_next case H vs x.trio q) = λ q few. ap (state_at case H vs) (sym (place q)) ∙ phase_state_is case H vs x.trio q threes fits.trio few in (
      stop.few,
      record {
        later = omega arith;
        there = omega (arith, place fault.phase, phase_there case.branches case.trios x.trio fault.phase threes fits.trio stop.few);
        none = state fault.phase stop.few ∙ ap (option_map PhaseBranch) stop.none;
        earlier = λ b more less.
            let q = b - at in
            let under : q < fault.phase = omega (arith, more, less) in
            let is_b : at + q ≡ b = omega (arith, more) in
            subst (λ k. IsSome (state_at case H vs k)) is_b (subst IsSome (sym (state q (omega (arith, under, stop.few)))) (mapped (phase_next case H vs x.trio q) (stop.earlier q under)));
      },
    )
  where
    mapped : (o : Option PhaseState) → IsSome o → IsSome (option_map PhaseBranch o)
    mapped (Some x) some = refl
    mapped None some = absurd (cc)
