-- One branch moved.
use Rattle.std.proofs.Common.{◌≡◌, ◌≢◌, ◌∙◌, sym, ap, subst, ℕ, ◌+◌, ◌<◌, ◌≤◌, ℤ, pos, ◌-ℤ◌, All, true, false, if◌then◌else◌, nat_lt, List, [], ◌∷◌, length, map, get_or, slice_get, slice_index_or, IsSome, Option, option_map, unwrap_or, Some, None, Ok, Err, refl, inl, inr, arith}
use Rattle.std.proofs.lemmas.Option.{get_or_from_slice_get, slice_get-get_or}
use Rattle.std.proofs.lemmas.Bool.{cases_eq}
use Rattle.std.proofs.lemmas.Bool.Decides.{nat_tests}
use Rattle.std.proofs.lemmas.List.{get_or-map}
use Rattle.std.proofs.lemmas.List.FromFn.{get_or-map-range_with_len, length-map-range_with_len}
use Rattle.emtp_case.specs.held.Case.{IsNetwork}
use Rattle.emtp_case.specs.held.Sizes.{sizes_of}
use Rattle.emtp_case.specs.Branch.{first_of_trio}
use Rattle.emtp_case.specs.held.Branch.{AreInThrees, IsBranch, phase_at, phase_of}
use Rattle.emtp_case.specs.StepRecord.{StepRecord, BranchState, LumpedBranch, LineBranch, PseudoBranch, current_of, line_at, line_state_of, lumped_at, lumped_of, no_line, no_lumped, no_pseudo, pseudo_at, pseudo_of, voltage_at}
use Rattle.emtp_case.specs.declared.branch.Branch.{Branch}
use Rattle.emtp_case.specs.declared.branch.Branch.TheVariants.{Lumped as OfLumped, Line as OfLine, Pseudo as OfPseudo, Phase as OfPhase}
use Rattle.emtp_case.specs.declared.branch.Line.{Line}
use Rattle.emtp_case.specs.declared.branch.Lumped.{Lumped}
use Rattle.emtp_case.specs.declared.branch.Pseudo.{Pseudo}
use Rattle.emtp_case.specs.declared.case.Parts.{Parts}
use Rattle.emtp_elim.specs.Matrix.{item}
use Rattle.emtp_fix.specs.declared.limit.OutOfRange.{OutOfRange}
use Rattle.emtp_line.specs.Line.{next_state as next_line}
use Rattle.emtp_line.specs.Lines as lined
use Rattle.emtp_line.specs.held.Lines as held_lined
use Rattle.emtp_line.specs.Mode.{mode_of_line}
use Rattle.emtp_lumped.specs.Lumps as lumped
use Rattle.emtp_lumped.specs.held.Lumps as held_lumped
use Rattle.emtp_pseudo.specs.Moment.{moment_at}
use Rattle.emtp_pseudo.specs.Pseudos as pseudo
use Rattle.emtp_pseudo.specs.held.Pseudos as held_pseudo
use Rattle.emtp_net.proofs.Nodes.{branch_fits, branch_in}
use Rattle.emtp_net.specs.held.Branches.{HasCase}
use Rattle.emtp_net.specs.held.Moving.{HasMoved, HasStopped, IsNext, StandsBefore, head_at, head_by, upto}
use Rattle.emtp_net.specs.Part.{state_at, state_by, states_at}
use Rattle.emtp_net.specs.declared.branches.Branches.{Branches}

some_same : (x y : Branch) → Some x ≡ Some y → x ≡ y
some_same x y e = cc

-- ---- a record that may follow

pub next_record : List StepRecord → Parts → List ℤ → StepRecord
next_record H case vs = record { voltages = vs; branches = states_at case H vs; switch_states = []; switch_currents = []; values = []; blocks = []; devices = [] }

pub is_next : (case : Parts) (H : List StepRecord) (vs : List ℤ) → IsNext case H vs (next_record H case vs)
unfolding next_record
is_next case H vs = record { voltages = refl; branches = refl }

abbrev rest : BranchState
rest = LumpedBranch no_lumped

-- what a record that may follow keeps of a branch
pub next_state_read : {X : Type 0} (f : BranchState → X) (d : X) (case : Parts) (H : List StepRecord) (vs : List ℤ) (r : StepRecord) (b : ℕ) (state : BranchState) → IsNext case H vs r → b < length case.branches → state_at case H vs b ≡ Some state → slice_index_or (map f r.branches) b d ≡ f state
next_state_read f d case H vs r b state next below is =
    let g : ℕ → BranchState = λ b. unwrap_or (state_at case H vs b) (LumpedBranch no_lumped) in
    let size = length-map-range_with_len g 0 (length case.branches) in
    let read : get_or (states_at case H vs) b rest ≡ state = get_or-map-range_with_len g 0 (length case.branches) b b rest below (omega arith) ∙ ap (λ o. unwrap_or o (LumpedBranch no_lumped)) is in
    ap (λ bs. slice_index_or (map f bs) b d) next.branches ∙ get_or-map f (states_at case H vs) b rest d (omega (arith, below, size)) ∙ ap f read

-- ---- what has moved

pub is_less : (a b : ℕ) → a < b → nat_lt a b ≡ true
is_less a b less = grind (arith, nat_tests)

pub isnt_less : (a b : ℕ) → b ≤ a → nat_lt a b ≡ false
isnt_less a b more = grind (arith, nat_tests)

pub upto_before : (at : ℕ) (r : StepRecord) (H : List StepRecord) → upto at at r H ≡ H
upto_before at r H = ap (λ b. if b then r ∷ H else H) (isnt_less at at (omega arith))

pub upto_here : (at : ℕ) (r : StepRecord) (H : List StepRecord) → upto (at + 1) at r H ≡ r ∷ H
upto_here at r H = ap (λ b. if b then r ∷ H else H) (is_less at (at + 1) (omega arith))

pub upto_other : (at b : ℕ) (r : StepRecord) (H : List StepRecord) → b ≢ at → upto (at + 1) b r H ≡ upto at b r H
upto_other at b r H ne = ap (λ x. if x then r ∷ H else H) (same at b ne)
  where
    same : (at b : ℕ) → b ≢ at → nat_lt b (at + 1) ≡ nat_lt b at
    same at b ne = grind (arith, nat_tests)

-- ---- places of kinds

-- the branch at a place, of which its phase is read
pub phase_read : (case : Parts) (at : ℕ) (x : Branch) → at < length case.branches → slice_get case.branches at ≡ Some x → phase_at case.branches at ≡ phase_of x
phase_read case at x there is = get_or-map phase_of case.branches at x None there ∙ ap phase_of (get_or_from_slice_get case.branches at x x is)

-- a branch that is no phase doesn't stand where a three-phase line begins
pub begins_elsewhere : (case : Parts) (at t : ℕ) (x : Branch) → AreInThrees case.branches case.trios → t < length case.trios → at < length case.branches → slice_get case.branches at ≡ Some x → phase_of x ≡ None → first_of_trio case.trios t ≢ at
begins_elsewhere case at t x threes below there is single e =
    let first : phase_at case.branches (first_of_trio case.trios t + 0) ≡ Some (t, 0) = threes.phases t 0 below (omega arith) in
    let same : first_of_trio case.trios t + 0 ≡ at = omega (arith, e) in
    some_none (t, 0) (sym first ∙ ap (phase_at case.branches) same ∙ phase_read case at x there is ∙ single)
  where
    some_none : (y : ℕ × ℕ) → Some y ≡ None → ⊥
    some_none y e = cc

-- so nothing else moves at its place
pub moves_alone : (case : Parts) (at b : ℕ) (x y : Branch) → AreInThrees case.branches case.trios → All (IsBranch case.run (sizes_of case) case.points) case.branches → at < length case.branches → slice_get case.branches at ≡ Some x → phase_of x ≡ None
    → b < length case.branches → slice_get case.branches b ≡ Some y → head_by case b (Some y) ≡ at → b ≡ at
moves_alone case at b x (OfLumped y) threes all there is single below here head = head
moves_alone case at b x (OfLine y) threes all there is single below here head = head
moves_alone case at b x (OfPseudo y) threes all there is single below here head = head
moves_alone case at b x (OfPhase y) threes all there is single below here head =
    let fits = branch_fits case b (OfPhase y) all below here in
    absurd (begins_elsewhere case at y.trio x threes fits.trio there is single head)

-- each that moves at its place is in range where it is
pub alone_in_range : (case : Parts) (H : List StepRecord) (vs : List ℤ) (at : ℕ) (x : Branch) → IsNetwork case → at < length case.branches → slice_get case.branches at ≡ Some x → phase_of x ≡ None → IsSome (state_at case H vs at)
    → (b : ℕ) → b < length case.branches → head_at case b ≡ at → IsSome (state_at case H vs b)
alone_in_range case H vs at x network there is single here b below head =
    let y = get_or case.branches b x in
    let read : slice_get case.branches b ≡ Some y = slice_get-get_or case.branches b x below in
    let same : b ≡ at = moves_alone case at b x y network.in_threes network.branches there is single below read (sym (ap (head_by case b) read) ∙ head) in
    subst (λ k. IsSome (state_at case H vs k)) (sym same) here

-- ---- series branches

pub some_is : {X : Type 0} (o : Option X) (x : X) → o ≡ Some x → IsSome o
some_is o x is = rw is refl

pub other_kind : (case : Parts) (at b : ℕ) (x y : Branch) → slice_get case.branches at ≡ Some x → slice_get case.branches b ≡ Some y → b ≡ at → y ≡ x
other_kind case at b x y is here same = some_same y x (sym here ∙ ap (slice_get case.branches) same ∙ is)

lumped_state : (case held : Parts) (H : List StepRecord) (vs : List ℤ) (at : ℕ) (x : Lumped) → held ≡ case → slice_get case.branches at ≡ Some (OfLumped x) → state_at case H vs at ≡ option_map LumpedBranch (lumped.next_of held x (lumped.states_of at H) (item vs x.from -ℤ item vs x.to))
lumped_state case held H vs at x same is = ap (state_by case H vs at) is ∙ ap (λ p. option_map LumpedBranch (lumped.next_of p x (lumped.states_of at H) (item vs x.from -ℤ item vs x.to))) (sym same)

pub lumped_moves : (case : Parts) (H : List StepRecord) (vs : List ℤ) (at : ℕ) (x : Lumped) (s t : Branches) (i : ℤ) → IsNetwork case → HasCase s case → at < length case.branches → slice_get case.branches at ≡ Some (OfLumped x) → t.lines ≡ s.lines → t.pseudos ≡ s.pseudos
    → held_lumped.Moves s.lumps t.lumps at (item vs x.from -ℤ item vs x.to) (Ok i) → StandsBefore s case H vs at → HasMoved s t case H vs at i
lumped_moves case H vs at x s t i network same there is lines pseudos moves before =
    let held : held_lumped.IsSeries s.lumps.case at x = branch_in s.lumps.case case at (OfLumped x) same.lumps is in
    let at_rest = before (next_record H case vs) (is_next case H vs) in
    let stood : held_lumped.StandsAt s.lumps at (lumped.states_of at H) = subst (λ h. held_lumped.StandsAt s.lumps at (lumped.states_of at h)) (upto_before at (next_record H case vs) H) (at_rest.lumps at x is) in
    let moved = moves.moved x (lumped.states_of at H) held stood in
    let state : state_at case H vs at ≡ Some (LumpedBranch moved.state) = lumped_state case s.lumps.case H vs at x same.lumps is ∙ ap (option_map LumpedBranch) moved.is in
    record {
      stands = λ r next upto_at. record {
        lumps = λ b y here. elim (cases_eq b at) [
          | inl e ↦
              let newest : lumped_at at r ≡ moved.state = next_state_read lumped_of no_lumped case H vs r at (LumpedBranch moved.state) next there state in
              let told : held_lumped.StandsAt t.lumps at (lumped_at at r ∷ lumped.states_of at H) = subst (λ z. held_lumped.StandsAt t.lumps at (z ∷ lumped.states_of at H)) (sym newest) moved.stands in
              let all : held_lumped.StandsAt t.lumps at (lumped.states_of at (upto (at + 1) at r H)) = subst (λ h. held_lumped.StandsAt t.lumps at (lumped.states_of at h)) (sym (upto_here at r H)) told in
              subst (λ k. held_lumped.StandsAt t.lumps k (lumped.states_of k (upto (at + 1) k r H))) (sym e) all
          | inr ne ↦ subst (λ h. held_lumped.StandsAt t.lumps b (lumped.states_of b h)) (sym (upto_other at b r H ne)) (moves.others b (lumped.states_of b (upto at b r H)) ne (upto_at.lumps b y here))
        ];
        lines = λ b y here.
            let ne : b ≢ at = λ e. lumped_line x y (other_kind case at b (OfLumped x) (OfLine y) is here e) in
            subst (λ h. held_lined.StandsAt t.lines b (lined.states_of b h)) (sym (upto_other at b r H ne)) (subst (λ z. held_lined.StandsAt z b (lined.states_of b (upto at b r H))) (sym lines) (upto_at.lines b y here));
        trios = λ u below.
            let ne : first_of_trio case.trios u ≢ at = begins_elsewhere case at u (OfLumped x) network.in_threes below there is refl in
            subst (λ h. held_lined.TrioStandsAt t.lines u (lined.phase_states_of case u h)) (sym (upto_other at (first_of_trio case.trios u) r H ne)) (subst (λ z. held_lined.TrioStandsAt z u (lined.phase_states_of case u (upto at (first_of_trio case.trios u) r H))) (sym lines) (upto_at.trios u below));
        pseudos = λ b y here.
            let ne : b ≢ at = λ e. lumped_pseudo x y (other_kind case at b (OfLumped x) (OfPseudo y) is here e) in
            subst (λ h. held_pseudo.StandsAt t.pseudos b (pseudo.moments_of y b h)) (sym (upto_other at b r H ne)) (subst (λ z. held_pseudo.StandsAt z b (pseudo.moments_of y b (upto at b r H))) (sym pseudos) (upto_at.pseudos b y here));
      };
      in_range = alone_in_range case H vs at (OfLumped x) network there is refl (some_is (state_at case H vs at) (LumpedBranch moved.state) state);
      lumped = λ y r next here. moved.current ∙ sym (next_state_read current_of (pos 0) case H vs r at (LumpedBranch moved.state) next there state);
      pseudo = λ y r next here. absurd (lumped_pseudo x y (other_kind case at at (OfLumped x) (OfPseudo y) is here refl));
    }
  where
    lumped_line : (x : Lumped) (y : Line) → OfLine y ≡ OfLumped x → ⊥
    lumped_line x y e = cc

    lumped_pseudo : (x : Lumped) (y : Pseudo) → OfPseudo y ≡ OfLumped x → ⊥
    lumped_pseudo x y e = cc

pub lumped_stops : (case : Parts) (H : List StepRecord) (vs : List ℤ) (at : ℕ) (x : Lumped) (s t : Branches) (e : OutOfRange) → HasCase s case → at < length case.branches → slice_get case.branches at ≡ Some (OfLumped x)
    → held_lumped.Moves s.lumps t.lumps at (item vs x.from -ℤ item vs x.to) (Err e) → StandsBefore s case H vs at → HasStopped case H vs at at
lumped_stops case H vs at x s t e same there is moves before =
    let held : held_lumped.IsSeries s.lumps.case at x = branch_in s.lumps.case case at (OfLumped x) same.lumps is in
    let at_rest = before (next_record H case vs) (is_next case H vs) in
    let stood : held_lumped.StandsAt s.lumps at (lumped.states_of at H) = subst (λ h. held_lumped.StandsAt s.lumps at (lumped.states_of at h)) (upto_before at (next_record H case vs) H) (at_rest.lumps at x is) in
    record {
      later = omega arith;
      there = there;
      none = lumped_state case s.lumps.case H vs at x same.lumps is ∙ ap (option_map LumpedBranch) (moves.out x (lumped.states_of at H) held stood);
      earlier = λ b more less. absurd (omega (arith, more, less));
    }

-- ---- lines

line_state : (case held : Parts) (H : List StepRecord) (vs : List ℤ) (at : ℕ) (x : Line) → held ≡ case → slice_get case.branches at ≡ Some (OfLine x) → state_at case H vs at ≡ option_map LineBranch (next_line (mode_of_line held.run.dt x) (lined.states_of at H) (item vs x.from) (item vs x.to))
line_state case held H vs at x same is = ap (state_by case H vs at) is ∙ ap (λ (p : Parts). option_map LineBranch (next_line (mode_of_line p.run.dt x) (lined.states_of at H) (item vs x.from) (item vs x.to))) (sym same)

pub line_moves : (case : Parts) (H : List StepRecord) (vs : List ℤ) (at : ℕ) (x : Line) (s t : Branches) (i : ℤ) → IsNetwork case → HasCase s case → at < length case.branches → slice_get case.branches at ≡ Some (OfLine x) → t.lumps ≡ s.lumps → t.pseudos ≡ s.pseudos
    → held_lined.Moves s.lines t.lines at (item vs x.from) (item vs x.to) (Ok i) → StandsBefore s case H vs at → HasMoved s t case H vs at i
line_moves case H vs at x s t i network same there is lumps pseudos moves before =
    let held : held_lined.IsLineAt s.lines.case at x = branch_in s.lines.case case at (OfLine x) same.lines is in
    let at_rest = before (next_record H case vs) (is_next case H vs) in
    let stood : held_lined.StandsAt s.lines at (lined.states_of at H) = subst (λ h. held_lined.StandsAt s.lines at (lined.states_of at h)) (upto_before at (next_record H case vs) H) (at_rest.lines at x is) in
    let moved = moves.moved x (lined.states_of at H) held stood in
    let state : state_at case H vs at ≡ Some (LineBranch moved.state) = line_state case s.lines.case H vs at x same.lines is ∙ ap (option_map LineBranch) moved.is in
    record {
      stands = λ r next upto_at. record {
        lumps = λ b y here.
            let ne : b ≢ at = λ e. line_lumped x y (other_kind case at b (OfLine x) (OfLumped y) is here e) in
            subst (λ h. held_lumped.StandsAt t.lumps b (lumped.states_of b h)) (sym (upto_other at b r H ne)) (subst (λ z. held_lumped.StandsAt z b (lumped.states_of b (upto at b r H))) (sym lumps) (upto_at.lumps b y here));
        lines = λ b y here. elim (cases_eq b at) [
          | inl e ↦
              let newest : line_at at r ≡ moved.state = next_state_read line_state_of no_line case H vs r at (LineBranch moved.state) next there state in
              let told : held_lined.StandsAt t.lines at (line_at at r ∷ lined.states_of at H) = subst (λ z. held_lined.StandsAt t.lines at (z ∷ lined.states_of at H)) (sym newest) moved.stands in
              let all : held_lined.StandsAt t.lines at (lined.states_of at (upto (at + 1) at r H)) = subst (λ h. held_lined.StandsAt t.lines at (lined.states_of at h)) (sym (upto_here at r H)) told in
              subst (λ k. held_lined.StandsAt t.lines k (lined.states_of k (upto (at + 1) k r H))) (sym e) all
          | inr ne ↦ subst (λ h. held_lined.StandsAt t.lines b (lined.states_of b h)) (sym (upto_other at b r H ne)) (moves.others b (lined.states_of b (upto at b r H)) ne (upto_at.lines b y here))
        ];
        trios = λ u below.
            let ne : first_of_trio case.trios u ≢ at = begins_elsewhere case at u (OfLine x) network.in_threes below there is refl in
            subst (λ h. held_lined.TrioStandsAt t.lines u (lined.phase_states_of case u h)) (sym (upto_other at (first_of_trio case.trios u) r H ne)) (moves.trios u (lined.phase_states_of case u (upto at (first_of_trio case.trios u) r H)) (upto_at.trios u below));
        pseudos = λ b y here.
            let ne : b ≢ at = λ e. line_pseudo x y (other_kind case at b (OfLine x) (OfPseudo y) is here e) in
            subst (λ h. held_pseudo.StandsAt t.pseudos b (pseudo.moments_of y b h)) (sym (upto_other at b r H ne)) (subst (λ z. held_pseudo.StandsAt z b (pseudo.moments_of y b (upto at b r H))) (sym pseudos) (upto_at.pseudos b y here));
      };
      in_range = alone_in_range case H vs at (OfLine x) network there is refl (some_is (state_at case H vs at) (LineBranch moved.state) state);
      lumped = λ y r next here. absurd (line_lumped x y (other_kind case at at (OfLine x) (OfLumped y) is here refl));
      pseudo = λ y r next here. absurd (line_pseudo x y (other_kind case at at (OfLine x) (OfPseudo y) is here refl));
    }
  where
    line_lumped : (x : Line) (y : Lumped) → OfLumped y ≡ OfLine x → ⊥
    line_lumped x y e = cc

    line_pseudo : (x : Line) (y : Pseudo) → OfPseudo y ≡ OfLine x → ⊥
    line_pseudo x y e = cc

pub line_stops : (case : Parts) (H : List StepRecord) (vs : List ℤ) (at : ℕ) (x : Line) (s t : Branches) (e : OutOfRange) → HasCase s case → at < length case.branches → slice_get case.branches at ≡ Some (OfLine x)
    → held_lined.Moves s.lines t.lines at (item vs x.from) (item vs x.to) (Err e) → StandsBefore s case H vs at → HasStopped case H vs at at
line_stops case H vs at x s t e same there is moves before =
    let held : held_lined.IsLineAt s.lines.case at x = branch_in s.lines.case case at (OfLine x) same.lines is in
    let at_rest = before (next_record H case vs) (is_next case H vs) in
    let stood : held_lined.StandsAt s.lines at (lined.states_of at H) = subst (λ h. held_lined.StandsAt s.lines at (lined.states_of at h)) (upto_before at (next_record H case vs) H) (at_rest.lines at x is) in
    record {
      later = omega arith;
      there = there;
      none = line_state case s.lines.case H vs at x same.lines is ∙ ap (option_map LineBranch) (moves.out x (lined.states_of at H) held stood);
      earlier = λ b more less. absurd (omega (arith, more, less));
    }

-- ---- pseudo-nonlinear branches

pseudo_state : (case held : Parts) (H : List StepRecord) (vs : List ℤ) (at : ℕ) (x : Pseudo) → held ≡ case → slice_get case.branches at ≡ Some (OfPseudo x) → state_at case H vs at ≡ option_map PseudoBranch (pseudo.next_of held x (pseudo.moments_of x at H) (item vs x.from -ℤ item vs x.to))
pseudo_state case held H vs at x same is = ap (state_by case H vs at) is ∙ ap (λ p. option_map PseudoBranch (pseudo.next_of p x (pseudo.moments_of x at H) (item vs x.from -ℤ item vs x.to))) (sym same)

pub pseudo_moves : (case : Parts) (H : List StepRecord) (vs : List ℤ) (at : ℕ) (x : Pseudo) (s t : Branches) (i : ℤ) → IsNetwork case → HasCase s case → at < length case.branches → slice_get case.branches at ≡ Some (OfPseudo x) → t.lumps ≡ s.lumps → t.lines ≡ s.lines
    → held_pseudo.Moves s.pseudos t.pseudos at (item vs x.from -ℤ item vs x.to) (Ok i) → StandsBefore s case H vs at → HasMoved s t case H vs at i
pseudo_moves case H vs at x s t i network same there is lumps lines moves before =
    let v = item vs x.from -ℤ item vs x.to in
    let held : held_pseudo.IsPseudoAt s.pseudos.case at x = branch_in s.pseudos.case case at (OfPseudo x) same.pseudos is in
    let at_rest = before (next_record H case vs) (is_next case H vs) in
    let stood : held_pseudo.StandsAt s.pseudos at (pseudo.moments_of x at H) = subst (λ h. held_pseudo.StandsAt s.pseudos at (pseudo.moments_of x at h)) (upto_before at (next_record H case vs) H) (at_rest.pseudos at x is) in
    let moved = moves.moved x (pseudo.moments_of x at H) held stood in
    let state : state_at case H vs at ≡ Some (PseudoBranch moved.state) = pseudo_state case s.pseudos.case H vs at x same.pseudos is ∙ ap (option_map PseudoBranch) moved.is in
    record {
      stands = λ r next upto_at. record {
        lumps = λ b y here.
            let ne : b ≢ at = λ e. pseudo_lumped x y (other_kind case at b (OfPseudo x) (OfLumped y) is here e) in
            subst (λ h. held_lumped.StandsAt t.lumps b (lumped.states_of b h)) (sym (upto_other at b r H ne)) (subst (λ z. held_lumped.StandsAt z b (lumped.states_of b (upto at b r H))) (sym lumps) (upto_at.lumps b y here));
        lines = λ b y here.
            let ne : b ≢ at = λ e. pseudo_line x y (other_kind case at b (OfPseudo x) (OfLine y) is here e) in
            subst (λ h. held_lined.StandsAt t.lines b (lined.states_of b h)) (sym (upto_other at b r H ne)) (subst (λ z. held_lined.StandsAt z b (lined.states_of b (upto at b r H))) (sym lines) (upto_at.lines b y here));
        trios = λ u below.
            let ne : first_of_trio case.trios u ≢ at = begins_elsewhere case at u (OfPseudo x) network.in_threes below there is refl in
            subst (λ h. held_lined.TrioStandsAt t.lines u (lined.phase_states_of case u h)) (sym (upto_other at (first_of_trio case.trios u) r H ne)) (subst (λ z. held_lined.TrioStandsAt z u (lined.phase_states_of case u (upto at (first_of_trio case.trios u) r H))) (sym lines) (upto_at.trios u below));
        pseudos = λ b y here. elim (cases_eq b at) [
          | inl e ↦
              let same_card : y ≡ x = pseudo_same y x (other_kind case at b (OfPseudo x) (OfPseudo y) is here e) in
              let newest : pseudo_at at r ≡ moved.state = next_state_read pseudo_of no_pseudo case H vs r at (PseudoBranch moved.state) next there state in
              let volts : voltage_at x.from r -ℤ voltage_at x.to r ≡ v = ap (λ us. item us x.from -ℤ item us x.to) next.voltages in
              let moment : pseudo.moment_of x at r ≡ moment_at v moved.state = ap (λ z. moment_at z (pseudo_at at r)) volts ∙ ap (moment_at v) newest in
              let told : held_pseudo.StandsAt t.pseudos at (pseudo.moment_of x at r ∷ pseudo.moments_of x at H) = subst (λ m. held_pseudo.StandsAt t.pseudos at (m ∷ pseudo.moments_of x at H)) (sym moment) moved.stands in
              let all : held_pseudo.StandsAt t.pseudos at (pseudo.moments_of x at (upto (at + 1) at r H)) = subst (λ h. held_pseudo.StandsAt t.pseudos at (pseudo.moments_of x at h)) (sym (upto_here at r H)) told in
              let own : held_pseudo.StandsAt t.pseudos at (pseudo.moments_of y at (upto (at + 1) at r H)) = subst (λ c. held_pseudo.StandsAt t.pseudos at (pseudo.moments_of c at (upto (at + 1) at r H))) (sym same_card) all in
              subst (λ k. held_pseudo.StandsAt t.pseudos k (pseudo.moments_of y k (upto (at + 1) k r H))) (sym e) own
          | inr ne ↦ subst (λ h. held_pseudo.StandsAt t.pseudos b (pseudo.moments_of y b h)) (sym (upto_other at b r H ne)) (moves.others b (pseudo.moments_of y b (upto at b r H)) ne (upto_at.pseudos b y here))
        ];
      };
      in_range = alone_in_range case H vs at (OfPseudo x) network there is refl (some_is (state_at case H vs at) (PseudoBranch moved.state) state);
      lumped = λ y r next here. absurd (pseudo_lumped x y (other_kind case at at (OfPseudo x) (OfLumped y) is here refl));
      pseudo = λ y r next here. moved.current ∙ sym (next_state_read current_of (pos 0) case H vs r at (PseudoBranch moved.state) next there state);
    }
  where
    pseudo_lumped : (x : Pseudo) (y : Lumped) → OfLumped y ≡ OfPseudo x → ⊥
    pseudo_lumped x y e = cc

    pseudo_line : (x : Pseudo) (y : Line) → OfLine y ≡ OfPseudo x → ⊥
    pseudo_line x y e = cc

    pseudo_same : (y x : Pseudo) → OfPseudo y ≡ OfPseudo x → y ≡ x
    pseudo_same y x e = cc

pub pseudo_stops : (case : Parts) (H : List StepRecord) (vs : List ℤ) (at : ℕ) (x : Pseudo) (s t : Branches) (e : OutOfRange) → HasCase s case → at < length case.branches → slice_get case.branches at ≡ Some (OfPseudo x)
    → held_pseudo.Moves s.pseudos t.pseudos at (item vs x.from -ℤ item vs x.to) (Err e) → StandsBefore s case H vs at → HasStopped case H vs at at
pseudo_stops case H vs at x s t e same there is moves before =
    let held : held_pseudo.IsPseudoAt s.pseudos.case at x = branch_in s.pseudos.case case at (OfPseudo x) same.pseudos is in
    let at_rest = before (next_record H case vs) (is_next case H vs) in
    let stood : held_pseudo.StandsAt s.pseudos at (pseudo.moments_of x at H) = subst (λ h. held_pseudo.StandsAt s.pseudos at (pseudo.moments_of x at h)) (upto_before at (next_record H case vs) H) (at_rest.pseudos at x is) in
    record {
      later = omega arith;
      there = there;
      none = pseudo_state case s.pseudos.case H vs at x same.pseudos is ∙ ap (option_map PseudoBranch) (moves.out x (pseudo.moments_of x at H) held stood);
      earlier = λ b more less. absurd (omega (arith, more, less));
    }
