-- All branches moved, one after the other.
use Rattle.std.proofs.Common.{◌≡◌, ◌∙◌, sym, ap, subst, ℕ, ◌+◌, ◌<◌, ◌≤◌, ℤ, pos, if◌then◌else◌, List, ◌∷◌, length, get_or, slice_get, slice_set, get_or-set_same, get_or-set_other, IsSome, Some, inl, inr, arith}
use Rattle.std.proofs.lemmas.Bool.{cases_eq, cases_lt}
use Rattle.std.proofs.lemmas.Option.{slice_get-get_or, slice_get_within}
use Rattle.emtp_case.specs.Branch.{first_of_trio}
use Rattle.emtp_case.specs.held.Case.{IsNetwork}
use Rattle.emtp_case.specs.StepRecord.{StepRecord, branch_current_at}
use Rattle.emtp_case.specs.declared.branch.Branch.{Branch}
use Rattle.emtp_case.specs.declared.branch.Branch.TheVariants.{Lumped as OfLumped, Line as OfLine, Pseudo as OfPseudo, Phase as OfPhase}
use Rattle.emtp_case.specs.declared.branch.Lumped.{Lumped}
use Rattle.emtp_case.specs.declared.branch.Pseudo.{Pseudo}
use Rattle.emtp_case.specs.declared.case.Parts.{Parts}
use Rattle.emtp_elim.specs.Matrix.{item}
use Rattle.emtp_line.specs.Lines as lined
use Rattle.emtp_line.specs.held.Lines as held_lined
use Rattle.emtp_lumped.specs.Lumps as lumped
use Rattle.emtp_lumped.specs.held.Lumps as held_lumped
use Rattle.emtp_net.proofs.Moves.{phase_read, is_less, isnt_less}
use Rattle.emtp_net.proofs.Nodes.{branch_in}
use Rattle.emtp_net.specs.held.Branches.{HasCase, StandsFor}
use Rattle.emtp_net.specs.held.Moving.{AreCurrents, AreInRange, HasStopped, IsFirstOut, IsNext, StandsBefore, head_at, head_by, upto}
use Rattle.emtp_net.specs.Part.{state_at}
use Rattle.emtp_net.specs.declared.branches.Branches.{Branches}
use Rattle.emtp_pseudo.specs.Pseudos as pseudo
use Rattle.emtp_pseudo.specs.held.Pseudos as held_pseudo
use Rattle.emtp_rows.proofs.Phases.{phase_there}

-- ---- before the first branch, and after the last one

upto_none : (b : ℕ) (r : StepRecord) (H : List StepRecord) → upto 0 b r H ≡ H
upto_none b r H = ap (λ x. if x then r ∷ H else H) (isnt_less b 0 (omega arith))

upto_all : (n b : ℕ) (r : StepRecord) (H : List StepRecord) → b < n → upto n b r H ≡ r ∷ H
upto_all n b r H below = ap (λ x. if x then r ∷ H else H) (is_less b n below)

pub none_moved : (case : Parts) (H : List StepRecord) (vs : List ℤ) (s : Branches) → HasCase s case → StandsFor s H → StandsBefore s case H vs 0
none_moved case H vs s same stands = λ r next. record {
  lumps = λ b x is. subst (λ h. held_lumped.StandsAt s.lumps b (lumped.states_of b h)) (sym (upto_none b r H)) (stands.lumps b x (branch_in s.lumps.case case b (OfLumped x) same.lumps is));
  lines = λ b x is. subst (λ h. held_lined.StandsAt s.lines b (lined.states_of b h)) (sym (upto_none b r H)) (stands.lines.lines b x (branch_in s.lines.case case b (OfLine x) same.lines is));
  trios = λ t below.
      let there : t < length s.lines.case.trios = omega (arith, below, ap (λ (p : Parts). length p.trios) same.lines) in
      subst (λ h. held_lined.TrioStandsAt s.lines t (lined.phase_states_of case t h)) (sym (upto_none (first_of_trio case.trios t) r H)) (subst (λ p. held_lined.TrioStandsAt s.lines t (lined.phase_states_of p t H)) same.lines (stands.lines.trios t there));
  pseudos = λ b x is. subst (λ h. held_pseudo.StandsAt s.pseudos b (pseudo.moments_of x b h)) (sym (upto_none b r H)) (stands.pseudos b x (branch_in s.pseudos.case case b (OfPseudo x) same.pseudos is));
}

pub all_moved : (case : Parts) (H : List StepRecord) (vs : List ℤ) (s : Branches) (n : ℕ) → IsNetwork case → HasCase s case → length case.branches ≤ n → StandsBefore s case H vs n → (r : StepRecord) → IsNext case H vs r → StandsFor s (r ∷ H)
all_moved case H vs s n network same all before = λ r next.
    let stood = before r next in
    record {
      lumps = λ b x is.
          let here = branch_in case s.lumps.case b (OfLumped x) (sym same.lumps) is in
          subst (λ h. held_lumped.StandsAt s.lumps b (lumped.states_of b h)) (upto_all n b r H (omega (arith, all, slice_get_within case.branches b (OfLumped x) here))) (stood.lumps b x here);
      lines = record {
        lines = λ b x is.
            let here = branch_in case s.lines.case b (OfLine x) (sym same.lines) is in
            subst (λ h. held_lined.StandsAt s.lines b (lined.states_of b h)) (upto_all n b r H (omega (arith, all, slice_get_within case.branches b (OfLine x) here))) (stood.lines b x here);
        trios = λ t below.
            let there : t < length case.trios = omega (arith, below, ap (λ (p : Parts). length p.trios) same.lines) in
            let first = phase_there case.branches case.trios t 0 network.in_threes there (omega arith) in
            let here = subst (λ h. held_lined.TrioStandsAt s.lines t (lined.phase_states_of case t h)) (upto_all n (first_of_trio case.trios t) r H (omega (arith, all, first))) (stood.trios t there) in
            subst (λ p. held_lined.TrioStandsAt s.lines t (lined.phase_states_of p t (r ∷ H))) (sym same.lines) here;
      };
      pseudos = λ b x is.
          let here = branch_in case s.pseudos.case b (OfPseudo x) (sym same.pseudos) is in
          subst (λ h. held_pseudo.StandsAt s.pseudos b (pseudo.moments_of x b h)) (upto_all n b r H (omega (arith, all, slice_get_within case.branches b (OfPseudo x) here))) (stood.pseudos b x here);
    }

-- ---- in range

-- what moves with a branch stands no later than the branch
head_within : (case : Parts) (b : ℕ) (y : Branch) → IsNetwork case → b < length case.branches → slice_get case.branches b ≡ Some y → head_by case b (Some y) ≤ b
head_within case b (OfLumped y) network below is = omega arith
head_within case b (OfLine y) network below is = omega arith
head_within case b (OfPseudo y) network below is = omega arith
head_within case b (OfPhase y) network below is = omega (arith, network.in_threes.places b y.trio y.phase (phase_read case b (OfPhase y) below is))

pub head_no_later : (case : Parts) (b : ℕ) → IsNetwork case → b < length case.branches → head_at case b ≤ b
head_no_later case b network below =
    let blank = OfLumped (record { line = 0; from = 0; to = 0; r = pos 0; l = pos 0; c = pos 0 }) in
    let y = get_or case.branches b blank in
    let read : slice_get case.branches b ≡ Some y = slice_get-get_or case.branches b blank below in
    omega (arith, ap (head_by case b) read, head_within case b y network below read)

pub range_more : (case : Parts) (H : List StepRecord) (vs : List ℤ) (at : ℕ) → AreInRange case H vs at → ((b : ℕ) → b < length case.branches → head_at case b ≡ at → IsSome (state_at case H vs b)) → AreInRange case H vs (at + 1)
range_more case H vs at before here b below head = elim (cases_eq (head_at case b) at) [
  | inl e ↦ here b below e
  | inr ne ↦ before b below (omega (arith, head, ne))
]

pub first_out : (case : Parts) (H : List StepRecord) (vs : List ℤ) (at k : ℕ) → IsNetwork case → AreInRange case H vs at → HasStopped case H vs at k → IsFirstOut case H vs k
first_out case H vs at k network before stopped = record {
  there = stopped.there;
  none = stopped.none;
  earlier = λ b less. elim (cases_lt b at) [
    | inl early ↦ let below : b < length case.branches = omega (arith, less, stopped.there) in before b below (omega (arith, early, head_no_later case b network below))
    | inr late ↦ stopped.earlier b late less
  ];
}

pub all_in_range : (case : Parts) (H : List StepRecord) (vs : List ℤ) (n : ℕ) → IsNetwork case → length case.branches ≤ n → AreInRange case H vs n → (b : ℕ) → b < length case.branches → IsSome (state_at case H vs b)
all_in_range case H vs n network all before b below = before b below (omega (arith, all, below, head_no_later case b network below))

-- ---- currents

pub currents_more : (case : Parts) (old : List ℤ) (at : ℕ) (i : ℤ) (r : StepRecord) → at < length old → AreCurrents case old r at
    → ((x : Lumped) → held_lumped.IsSeries case at x → i ≡ branch_current_at at r) → ((x : Pseudo) → held_pseudo.IsPseudoAt case at x → i ≡ branch_current_at at r) → AreCurrents case (slice_set old at i) r (at + 1)
currents_more case old at i r inside before lumped_is pseudo_is = record {
  lumps = λ b x below is. elim (cases_eq b at) [
    | inl e ↦ subst (λ k. item (slice_set old at i) k ≡ branch_current_at k r) (sym e) (get_or-set_same old at i (pos 0) inside ∙ lumped_is x (subst (λ k. held_lumped.IsSeries case k x) e is))
    | inr ne ↦ get_or-set_other old at b i (pos 0) ne ∙ before.lumps b x (omega (arith, below, ne)) is
  ];
  pseudos = λ b x below is. elim (cases_eq b at) [
    | inl e ↦ subst (λ k. item (slice_set old at i) k ≡ branch_current_at k r) (sym e) (get_or-set_same old at i (pos 0) inside ∙ pseudo_is x (subst (λ k. held_pseudo.IsPseudoAt case k x) e is))
    | inr ne ↦ get_or-set_other old at b i (pos 0) ne ∙ before.pseudos b x (omega (arith, below, ne)) is
  ];
}
