-- What the list of held branches says of a branch.
use Rattle.std.proofs.Common.{◌≡◌, ◌≢◌, ◌∙◌, ap, sym, subst, refl, zero, suc, inl, inr, ℕ, ◌+◌, ◌<◌, pos, ℤ, List, [], ◌∷◌, ◌++◌, length, map, replicate, get_or, slice_set, unsigned_abs, Option, Some, None, Ok, Err, option_map, ◌-ℤ◌, FitsSigned, rules, arith}
use mir.Syntax.{w64, w128}
use Rattle.std.proofs.lemmas.Bool.{cases_eq, cases_lt}
use Rattle.std.proofs.lemmas.List.{get_or_default, get_or-set_same, get_or-set_other, length-append}
use Rattle.std.proofs.lemmas.Option.{slice_get_within, get_or_from_slice_get}
use Rattle.std.proofs.Math.ListN.{length-set, get_or-append}
use Rattle.std.proofs.Math.Seq.{get_or-append_seam}
use Rattle.emtp_case.specs.Branch.{points_of}
use Rattle.emtp_case.specs.held.Branch.{IsBranch, IsPseudo}
use Rattle.emtp_case.specs.held.Case.{IsCase}
use Rattle.emtp_case.specs.held.Sizes.{sizes_of}
use Rattle.emtp_case.specs.StepRecord.{rest_of, branch_at_rest, pseudo_of, no_pseudo}
use Rattle.emtp_case.specs.declared.branch.Branch.{Branch}
use Rattle.emtp_case.specs.declared.branch.Branch.TheVariants.{Lumped as OfLumped, Line as OfLine, Pseudo as OfPseudo, Phase as OfPhase}
use Rattle.emtp_case.specs.declared.branch.Pseudo.{Pseudo}
use Rattle.emtp_case.specs.declared.branch.PseudoState.{PseudoState}
use Rattle.emtp_case.specs.declared.case.Parts.{Parts}
use Rattle.emtp_fix.specs.declared.limit.OutOfRange.{OutOfRange}
use Rattle.emtp_pseudo.specs.Moment.{moment_at, segment_in}
use Rattle.emtp_pseudo.specs.held.Held.{HasNumbers, IsHeld, IsHeldAtRest, IsOfBranch, moment_in}
use Rattle.emtp_pseudo.specs.Pseudos.{moment_of, newest, next_of, next_history_current, present}
use Rattle.emtp_pseudo.specs.held.Pseudos.{HeldPseudos, AreHeld, AreHeldAtRest, IsPseudoAt, Moves, StandsAt, StandsFor, branch_at, no_branch}
use Rattle.emtp_pseudo.specs.Segment.{next_segment}
use Rattle.emtp_pseudo.specs.Step.{history_current_of, moment_at_rest, next_state}
use Rattle.emtp_pseudo.specs.declared.held.HeldBranch.{HeldBranch}
use Rattle.emtp_pseudo.specs.declared.moment.Moment.{Moment}
use Rattle.emtp_pseudo.specs.declared.segment.Segment.{Segment}
use Rattle.emtp_pseudo.proofs.Segments.{count_is, next_within}

-- what a contract sees of these branches, in lists of these capacities
abbrev pub shown : Parts → List ℕ → List HeldBranch → HeldPseudos
shown case capacities held = record { case = case; held = held; capacities = capacities }

-- ---- a branch read

pub pseudo_fits : (case : Parts) (b : ℕ) (x : Pseudo) → IsCase case → IsPseudoAt case b x → IsPseudo case.run (sizes_of case) case.points x
pseudo_fits case b x h at =
    subst (IsBranch case.run (sizes_of case) case.points) (get_or_from_slice_get case.branches b (OfPseudo x) (OfPseudo x) at) (h.draft.network.branches b (OfPseudo x) (slice_get_within case.branches b (OfPseudo x) at))

pub branch_has_numbers : (case : Parts) (x : Branch) → IsBranch case.run (sizes_of case) case.points x → HasNumbers case x
branch_has_numbers case (OfLumped b) h = tt
branch_has_numbers case (OfLine b) h = tt
branch_has_numbers case (OfPseudo b) h = h
branch_has_numbers case (OfPhase b) h = tt

-- a branch of the case that is seen is one of the case that is held
pub at_seen : {capacities : List ℕ} (case : Parts) (held : List HeldBranch) (s : HeldPseudos) (b : ℕ) (x : Pseudo) → shown case capacities held ≡ s → IsPseudoAt s.case b x → IsPseudoAt case b x
at_seen case held s b x same at = subst (λ (t : HeldPseudos). IsPseudoAt t.case b x) (sym same) at

pub there : (case : Parts) (held : List HeldBranch) (b : ℕ) (x : Pseudo) → AreHeld case held → IsPseudoAt case b x → b < length held
there case held b x h at = omega (arith, h.one_each, slice_get_within case.branches b (OfPseudo x) at)

-- what an index read is the branch at the place
pub branch_read : (held : List HeldBranch) (b : ℕ) (r : HeldBranch) → b < length held → r ≡ get_or held b r → r ≡ branch_at held b
branch_read held b r within e = e ∙ get_or_default held b r no_branch within

-- and held
pub held_read : (case : Parts) (held : List HeldBranch) (b : ℕ) (x : Pseudo) (r : HeldBranch) → AreHeld case held → IsPseudoAt case b x → r ≡ get_or held b r → IsHeld case x r
held_read case held b x r h at e = subst (IsHeld case x) (sym (branch_read held b r (there case held b x h at) e)) (h.fit b x at)

-- it is that of its own card
pub own_held : (case : Parts) (x : Pseudo) (r : HeldBranch) → IsHeld case x r → IsHeld case r.card r
own_held case x r h = subst (λ (y : Pseudo). IsHeld case y r) (sym h.card) h

pub own_card : (case : Parts) (b : ℕ) (x : Pseudo) (r : HeldBranch) → IsCase case → IsPseudoAt case b x → IsHeld case x r → IsPseudo case.run (sizes_of case) case.points r.card
own_card case b x r fits at h = subst (IsPseudo case.run (sizes_of case) case.points) (sym h.card) (pseudo_fits case b x fits at)

one_card : (case : Parts) (b : ℕ) (x y : Pseudo) → IsPseudoAt case b x → IsPseudoAt case b y → x ≡ y
one_card case b x y at at' = ap card_or (sym at ∙ at')
  where
    card_or : Option Branch → Pseudo
    card_or None = x
    card_or (Some (OfLumped b)) = x
    card_or (Some (OfLine b)) = x
    card_or (Some (OfPseudo b)) = b
    card_or (Some (OfPhase b)) = x

-- the moment that an index read
moment_read : {capacities : List ℕ} (case : Parts) (held : List HeldBranch) (b : ℕ) (past : List Moment) (r : HeldBranch) → StandsAt (shown case capacities held) b past → r ≡ get_or held b r → r.moment ≡ newest past
moment_read case held b past r stands e = ap moment_in (branch_read held b r stands.there e) ∙ stands.latest

-- its segment and its history current are those of the records
segment_read : (case : Parts) (x : Pseudo) (past : List Moment) (r : HeldBranch) → IsHeld case x r → r.moment ≡ newest past → r.segment ≡ present case x past
segment_read case x past r h moment = h.segment ∙ ap (λ (m : Moment). segment_in case x m.state.segment) moment

pub conductance_read : {capacities : List ℕ} (case : Parts) (held : List HeldBranch) (b : ℕ) (x : Pseudo) (past : List Moment) (r : HeldBranch) → AreHeld case held → IsPseudoAt case b x → StandsAt (shown case capacities held) b past → r ≡ get_or held b r → r.segment.conductance ≡ (present case x past).conductance
conductance_read case held b x past r h at stands e = ap (λ (s : Segment). s.conductance) (segment_read case x past r (held_read case held b x r h at e) (moment_read case held b past r stands e))

pub history_read : {capacities : List ℕ} (case : Parts) (held : List HeldBranch) (b : ℕ) (x : Pseudo) (past : List Moment) (r : HeldBranch) → AreHeld case held → IsPseudoAt case b x → StandsAt (shown case capacities held) b past → r ≡ get_or held b r → r.history_current ≡ next_history_current case x past
history_read case held b x past r h at stands e =
    let fit = held_read case held b x r h at e in
    let moment = moment_read case held b past r stands e in
    fit.history ∙ ap (λ (s : Segment). history_current_of x.reactor s r.moment) (segment_read case x past r fit moment) ∙ ap (history_current_of x.reactor (present case x past)) moment

-- a step from what is held is that of the records
next_read : (case : Parts) (x : Pseudo) (r : HeldBranch) (past : List Moment) (v : ℤ) → IsHeld case x r → r.moment ≡ newest past → next_state r.card.reactor case.run.dt r.segment r.moment v ≡ next_of case x past v
next_read case x r past v h moment =
    ap (λ (y : Pseudo). next_state y.reactor case.run.dt r.segment r.moment v) h.card
    ∙ ap (λ (s : Segment). next_state x.reactor case.run.dt s r.moment v) (segment_read case x past r h moment)
    ∙ ap (λ (m : Moment). next_state x.reactor case.run.dt (present case x past) m v) moment

-- it stays among the segments
pub after_within : (case : Parts) (x : Pseudo) (r : HeldBranch) (y k : ℤ) → IsPseudo case.run (sizes_of case) case.points x → IsHeld case x r → k ≡ next_segment r.segment r.moment.state.segment y → unsigned_abs k < x.count
after_within case x r y k fits h e =
    let count : length (points_of case.points x.first x.count) ≡ x.count = count_is case.points x.first x.count fits.there in
    let is : k ≡ next_segment (segment_in case x r.moment.state.segment) r.moment.state.segment y = e ∙ ap (λ (s : Segment). next_segment s r.moment.state.segment y) h.segment in
    let w = next_within x.reactor case.run.dt (points_of case.points x.first x.count) r.moment.state.segment y (omega (arith, count, h.within)) in
    omega (arith, count, w, ap unsigned_abs is)

-- ---- a branch written

pub held_set : (case : Parts) (held : List HeldBranch) (at : ℕ) (x : Pseudo) (new : HeldBranch) → AreHeld case held → IsPseudoAt case at x → IsHeld case x new → AreHeld case (slice_set held at new)
held_set case held at x new h is fits = record {
  one_each = length-set held at new ∙ h.one_each;
  fit = λ b y is'. elim (cases_eq b at) [
    | inl e ↦
        let here : IsPseudoAt case at y = subst (λ (j : ℕ). IsPseudoAt case j y) e is' in
        let same : branch_at (slice_set held at new) b ≡ new = ap (branch_at (slice_set held at new)) e ∙ get_or-set_same held at new no_branch (there case held at x h is) in
        subst (IsHeld case y) (sym same) (subst (λ (z : Pseudo). IsHeld case z new) (one_card case at x y is here) fits)
    | inr ne ↦ subst (IsHeld case y) (sym (get_or-set_other held at b new no_branch ne)) (h.fit b y is')
  ];
}

stands-set : {capacities : List ℕ} (case : Parts) (held : List HeldBranch) (at : ℕ) (new : HeldBranch) (past : List Moment) → at < length held → StandsAt (shown case capacities (slice_set held at new)) at (new.moment ∷ past)
stands-set case held at new past within = record {
  there = omega (arith, length-set held at new, within);
  latest = ap moment_in (get_or-set_same held at new no_branch within);
}

stands-other : {capacities : List ℕ} (case : Parts) (held : List HeldBranch) (at b : ℕ) (new : HeldBranch) (past : List Moment) → b ≢ at → StandsAt (shown case capacities held) b past → StandsAt (shown case capacities (slice_set held at new)) b past
stands-other case held at b new past apart stands = record {
  there = omega (arith, length-set held at new, stands.there);
  latest = ap moment_in (get_or-set_other held at b new no_branch apart) ∙ stands.latest;
}

-- ---- a branch moved

-- the difference of two voltages of 64 bits
pub apart_fits : (v w : ℤ) → FitsSigned w64 v → FitsSigned w64 w → FitsSigned w128 (v -ℤ w)
apart_fits v w h k = search rules

-- the next state that the branch after a step has
record Given (v : ℤ) (o : Option PseudoState) (new : HeldBranch) : Type 0 where
  state : PseudoState
  is : o ≡ Some state
  moment : new.moment ≡ moment_at v state

given : (v : ℤ) (o : Option PseudoState) (new : HeldBranch) → Some new.moment ≡ option_map (moment_at v) o → Given v o new
given v (Some state) new e = record { state = state; is = refl; moment = cc }
given v None new e = absurd (cc)

none : (v : ℤ) (o : Option PseudoState) → None ≡ option_map (moment_at v) o → o ≡ None
none v (Some state) e = absurd (cc)
none v None e = refl

pub moves-ok : {capacities : List ℕ} (case : Parts) (held : List HeldBranch) (at : ℕ) (r new : HeldBranch) (v i : ℤ) → AreHeld case held → at < length held → r ≡ get_or held at r → Some new.moment ≡ option_map (moment_at v) (next_state r.card.reactor case.run.dt r.segment r.moment v) → i ≡ new.moment.state.current
    → Moves (shown case capacities held) (shown case capacities (slice_set held at new)) at v (Ok i)
moves-ok {capacities = capacities} case held at r new v i h within read after current =
    let left : HeldPseudos = shown case capacities (slice_set held at new) in
    let g = given v (next_state r.card.reactor case.run.dt r.segment r.moment v) new after in
    record {
      case = refl;
      capacities = refl;
      moved = λ x past is stands. record {
        state = g.state;
        is = sym (next_read case x r past v (held_read case held at x r h is read) (moment_read case held at past r stands read)) ∙ g.is;
        current = current ∙ ap (λ (m : Moment). m.state.current) g.moment;
        stands = subst (λ (m : Moment). StandsAt left at (m ∷ past)) g.moment (stands-set case held at new past within);
      };
      out = λ x past is stands. tt;
      others = λ b past apart stands. stands-other case held at b new past apart stands;
      same = tt;
    }

pub moves-out : {capacities : List ℕ} (case : Parts) (held : List HeldBranch) (at : ℕ) (r : HeldBranch) (v : ℤ) (e : OutOfRange) → AreHeld case held → r ≡ get_or held at r → None ≡ option_map (moment_at v) (next_state r.card.reactor case.run.dt r.segment r.moment v)
    → Moves (shown case capacities held) (shown case capacities held) at v (Err e)
moves-out case held at r v e h read after = record {
  case = refl;
  capacities = refl;
  moved = λ x past is stands. tt;
  out = λ x past is stands. sym (next_read case x r past v (held_read case held at x r h is read) (moment_read case held at past r stands read)) ∙ none v (next_state r.card.reactor case.run.dt r.segment r.moment v) after;
  others = λ b past apart stands. stands;
  same = refl;
}

-- ---- at rest

pub none_at_rest : (case : Parts) → AreHeldAtRest case 0 []
none_at_rest case = record { count = refl; each = λ b x less at. absurd (omega (arith, less)) }

of_branch : (case : Parts) (x : Pseudo) (branch : Branch) (h : HeldBranch) → branch ≡ OfPseudo x → IsOfBranch case branch h → IsHeldAtRest case x h
of_branch case x (OfPseudo y) h e fits = let same : y ≡ x = cc in subst (λ (z : Pseudo). IsHeldAtRest case z h) same fits
of_branch case x (OfLumped y) h e fits = absurd (cc)
of_branch case x (OfLine y) h e fits = absurd (cc)
of_branch case x (OfPhase y) h e fits = absurd (cc)

-- one more branch
pub one_more_at_rest : (case : Parts) (n : ℕ) (held : List HeldBranch) (branch d : Branch) (h : HeldBranch) → AreHeldAtRest case n held → branch ≡ get_or case.branches n d → IsOfBranch case branch h → AreHeldAtRest case (n + 1) (held ++ h ∷ [])
one_more_at_rest case n held branch d h before read fits = record {
  count = omega (arith, before.count, length-append held (h ∷ []));
  each = λ b x less at. elim (cases_lt b n) [
    | inl old ↦ subst (IsHeldAtRest case x) (sym (get_or-append held (h ∷ []) no_branch b (omega (arith, old, before.count)))) (before.each b x old at)
    | inr new ↦
        let here : b ≡ length held = omega (arith, new, less, before.count) in
        let same : branch_at (held ++ h ∷ []) b ≡ h = ap (branch_at (held ++ h ∷ [])) here ∙ get_or-append_seam held h [] no_branch in
        let at' : IsPseudoAt case n x = subst (λ (j : ℕ). IsPseudoAt case j x) (omega (arith, new, less)) at in
        let is : branch ≡ OfPseudo x = read ∙ get_or_from_slice_get case.branches n (OfPseudo x) d at' in
        subst (IsHeldAtRest case x) (sym same) (of_branch case x branch h is fits)
  ];
}

pub rest_held : (case : Parts) (held : List HeldBranch) → AreHeldAtRest case (length case.branches) held → AreHeld case held
rest_held case held h = record { one_each = h.count; fit = λ b x at. (h.each b x (slice_get_within case.branches b (OfPseudo x) at) at).held }

-- of record 0 all numbers are 0
rest_pseudo : (x : Branch) → pseudo_of (branch_at_rest x) ≡ no_pseudo
rest_pseudo (OfLumped b) = refl
rest_pseudo (OfLine b) = refl
rest_pseudo (OfPseudo b) = refl
rest_pseudo (OfPhase b) = refl

rest_pseudos : (xs : List Branch) (b : ℕ) → get_or (map pseudo_of (map branch_at_rest xs)) b no_pseudo ≡ no_pseudo
rest_pseudos [] b = refl
rest_pseudos (x ∷ xs) zero = rest_pseudo x
rest_pseudos (x ∷ xs) (suc b) = rest_pseudos xs b

zeros : (n k : ℕ) → get_or (replicate n (pos 0)) k (pos 0) ≡ pos 0
zeros zero k = refl
zeros (suc n) zero = refl
zeros (suc n) (suc k) = zeros n k

rest_moment : (case : Parts) (b : ℕ) (x : Pseudo) → moment_of x b (rest_of case) ≡ moment_at_rest
rest_moment case b x = rw (rest_pseudos case.branches b, zeros (length case.nodes + 1) x.from, zeros (length case.nodes + 1) x.to) refl

pub rest_stands_for : {capacities : List ℕ} (case : Parts) (held : List HeldBranch) → AreHeldAtRest case (length case.branches) held → StandsFor (shown case capacities held) (rest_of case ∷ [])
rest_stands_for case held h b x at =
    let within = slice_get_within case.branches b (OfPseudo x) at in
    record {
      there = omega (arith, h.count, within);
      latest = (h.each b x within at).rest ∙ sym (rest_moment case b x);
    }
