-- What is held of three-phase lines.
use Rattle.emtp_case.specs.held.RunData.{IsTimeStep}
use Rattle.std.proofs.Common.{◌≡◌, ◌≢◌, ◌∙◌, ap, sym, subst, refl, zero, suc, ℕ, ◌+◌, ◌<◌, ℤ, pos, List, [], ◌∷◌, ◌++◌, All, length, map, get_or, slice_set, inl, inr, arith}
use Rattle.std.proofs.lemmas.Bool.{cases_eq}
use Rattle.std.proofs.lemmas.Int.{ints}
use Rattle.std.proofs.lemmas.List.{get_or-map, get_or_default, get_or-set_same, get_or-set_other, length-map}
use Rattle.std.proofs.lemmas.List.Elements.{All-set, All-map, All-weaker}
use Rattle.std.proofs.Math.ListN.{length-set}
use Rattle.std.proofs.Math.Seq.{map-set_same}
use Rattle.std.specs.List.{concat}
use Rattle.emtp_case.specs.Branch.{first_of_trio}
use Rattle.emtp_case.specs.held.Branch.{IsTrio}
use Rattle.emtp_case.specs.held.Case.{IsCase}
use Rattle.emtp_case.specs.StepRecord.{rest_of, branch_at_rest, phase_state_of, no_phase}
use Rattle.emtp_case.specs.declared.branch.Branch.{Branch}
use Rattle.emtp_case.specs.declared.branch.Branch.TheVariants.{Lumped as OfLumped, Line as OfLine, Pseudo as OfPseudo, Phase as OfPhase}
use Rattle.emtp_case.specs.declared.branch.LineState.{LineState}
use Rattle.emtp_case.specs.declared.branch.PhaseState.{PhaseState}
use Rattle.emtp_case.specs.declared.branch.Trio.{Trio}
use Rattle.emtp_case.specs.declared.case.Parts.{Parts}
use Rattle.emtp_case.specs.declared.run_data.RunData.{RunData}
use Rattle.emtp_line.specs.held.Held.{IsHeld, IsHeldTrio, PhaseStands, TrioStands, held_at_rest, held_modes, phase_held, trio_at_rest}
use Rattle.emtp_line.specs.Lines.{trio_of, no_trio, phase_states_of}
use Rattle.emtp_line.specs.held.Lines.{IsLining, TrioStandsAt, capacities_of, line_rings, rings_of, trio_held, trio_rings}
use Rattle.emtp_line.specs.held.Mode.{IsMode}
use Rattle.emtp_line.specs.Phases.{Modes, modes_of, mode_of_trio, phase_from_waves, phase_to_waves}
use Rattle.emtp_line.specs.held.Waves.{WavesStand}
use Rattle.emtp_line.specs.declared.held.HeldLine.{HeldLine}
use Rattle.emtp_line.specs.declared.held_trio.HeldTrio.{HeldTrio}
use Rattle.emtp_line.specs.declared.mode.Mode.{Mode}
use Rattle.emtp_line.proofs.Bounds.{mode_fits, own_range, mutual_small}
use Rattle.emtp_line.proofs.Holding.{rest_waves, rest_held, rest_waves_stand, rings_kept, shown}

-- ---- one of the three phases

pub phase_fits : (x : HeldTrio) (p : ℕ) → IsHeldTrio x → p < 3 → IsHeld (phase_held x p)
phase_fits x zero h below = h.first
phase_fits x (suc zero) h below = h.second
phase_fits x (suc (suc zero)) h below = h.third
phase_fits x (suc (suc (suc p))) h below = absurd (omega (arith, below))

pub phase_mode : (x : HeldTrio) (p : ℕ) → IsHeldTrio x → p < 3 → (phase_held x p).waves.mode ≡ x.first.waves.mode
phase_mode x zero h below = refl
phase_mode x (suc zero) h below = h.second_mode
phase_mode x (suc (suc zero)) h below = h.third_mode
phase_mode x (suc (suc (suc p))) h below = absurd (omega (arith, below))

pub phase_stands : (x : HeldTrio) (past : ℕ → List PhaseState) (p : ℕ) → TrioStands x past → p < 3 → PhaseStands (phase_held x p) (past p)
phase_stands x past zero h below = h.first
phase_stands x past (suc zero) h below = h.second
phase_stands x past (suc (suc zero)) h below = h.third
phase_stands x past (suc (suc (suc p))) h below = absurd (omega (arith, below))

-- ---- rest

pub trio_mode-fits : (run : RunData) (t : Trio) (m : ℕ) → IsTimeStep run.dt → IsTrio run t → m < 2 → IsMode (mode_of_trio run.dt t m)
trio_mode-fits run t m step h below = mode_fits run.dt _ _ _ step (h m below)

pub rest_trio : (run : RunData) (t : Trio) → IsTimeStep run.dt → IsTrio run t → IsHeldTrio (trio_at_rest run.dt t)
rest_trio run t step h =
    let zero' = trio_mode-fits run t 0 step h (omega arith) in
    let positive = trio_mode-fits run t 1 step h (omega arith) in
    let own = own_range _ _ zero'.conductance positive.conductance in
    record {
      zero_sequence = rest_waves (mode_of_trio run.dt t 0) zero';
      first = rest_held (mode_of_trio run.dt t 1) positive;
      second = rest_held (mode_of_trio run.dt t 1) positive;
      third = rest_held (mode_of_trio run.dt t 1) positive;
      second_mode = refl;
      third_mode = refl;
      own = refl;
      coupling = refl;
      own_small = omega (arith, ints, own.least, own.most);
      coupling_small = mutual_small _ _ zero'.conductance positive.conductance;
    }

rest_phase : (m : Mode) → PhaseStands (held_at_rest m) (no_phase ∷ [])
rest_phase m = record { from_current = refl; to_current = refl; waves = rest_waves_stand m }

-- of record 0 all numbers are 0
rest_numbers : (bs : List Branch) (b : ℕ) → get_or (map phase_state_of (map branch_at_rest bs)) b no_phase ≡ no_phase
rest_numbers [] b = refl
rest_numbers (OfLumped x ∷ bs) zero = refl
rest_numbers (OfLine x ∷ bs) zero = refl
rest_numbers (OfPseudo x ∷ bs) zero = refl
rest_numbers (OfPhase x ∷ bs) zero = refl
rest_numbers (x ∷ bs) (suc b) = rest_numbers bs b

rest_trio_stands : (dt : ℤ) (t : Trio) (past : ℕ → List PhaseState) → past 0 ≡ no_phase ∷ [] → past 1 ≡ no_phase ∷ [] → past 2 ≡ no_phase ∷ [] → TrioStands (trio_at_rest dt t) past
rest_trio_stands dt t past a b c = record {
  zero_sequence = rw a (rest_waves_stand (mode_of_trio dt t 0));
  first = rw a (rest_phase (mode_of_trio dt t 1));
  second = rw b (rest_phase (mode_of_trio dt t 1));
  third = rw c (rest_phase (mode_of_trio dt t 1));
}

-- the three-phase line at a place of those at rest
rest_read : (p : Parts) (t : ℕ) → t < length p.trios → trio_held (map (trio_at_rest p.run.dt) p.trios) t ≡ trio_at_rest p.run.dt (trio_of p t)
rest_read p t there = get_or-map (trio_at_rest p.run.dt) p.trios t no_trio (trio_at_rest (pos 1) no_trio) there

-- those at rest stand for record 0
pub rest_trios_stand : {n m : ℕ} (p : Parts) (lines : List HeldLine) (trios : List HeldTrio) (t : ℕ) → trios ≡ map (trio_at_rest p.run.dt) p.trios → t < length p.trios → TrioStandsAt (shown p n m lines trios) t (phase_states_of p t (rest_of p ∷ []))
rest_trios_stand p lines trios t are there = record {
  there = omega (arith, ap length are, length-map p.trios (trio_at_rest p.run.dt), there);
  stands = subst (λ (x : HeldTrio). TrioStands x (phase_states_of p t (rest_of p ∷ []))) (sym (ap (λ xs. trio_held xs t) are ∙ rest_read p t there))
      (rest_trio_stands p.run.dt (trio_of p t) (phase_states_of p t (rest_of p ∷ [])) (silent 0) (silent 1) (silent 2));
}
  where
    silent : (k : ℕ) → phase_states_of p t (rest_of p ∷ []) k ≡ no_phase ∷ []
    silent k = ap (λ (s : PhaseState). s ∷ []) (rest_numbers p.branches (first_of_trio p.trios t + k))

pub rest_trios_fit : (p : Parts) → IsCase p → All IsHeldTrio (map (trio_at_rest p.run.dt) p.trios)
rest_trios_fit p h = All-map IsHeldTrio (trio_at_rest p.run.dt) p.trios
    (All-weaker (IsTrio p.run) (λ t. IsHeldTrio (trio_at_rest p.run.dt t)) (λ t fits. rest_trio p.run t h.draft.run.dt fits) p.trios h.draft.network.trios)

pub rest_trio_modes : (p : Parts) (t : ℕ) → t < length p.trios → held_modes (trio_held (map (trio_at_rest p.run.dt) p.trios) t) ≡ modes_of p.run.dt (trio_of p t)
rest_trio_modes p t there = ap held_modes (rest_read p t there)

-- ---- a three-phase line read

pub trio_within : (p : Parts) (lines : List HeldLine) (trios : List HeldTrio) (t : ℕ) → IsLining p lines trios → t < length p.trios → t < length trios
trio_within p lines trios t h there = omega (arith, h.one_each_trio, there)

-- what an index read is the three-phase line at the place
pub trio_read : (trios : List HeldTrio) (t : ℕ) (r : HeldTrio) → t < length trios → r ≡ get_or trios t r → r ≡ trio_held trios t
trio_read trios t r within e = e ∙ get_or_default trios t r (trio_at_rest (pos 1) no_trio) within

pub held_trio_read : (p : Parts) (lines : List HeldLine) (trios : List HeldTrio) (t : ℕ) → IsLining p lines trios → t < length trios → IsHeldTrio (trio_held trios t)
held_trio_read p lines trios t h within = h.trios_fit t (trio_at_rest (pos 1) no_trio) within

-- ---- a three-phase line moved

pub lining-set_trio : (p : Parts) (lines : List HeldLine) (trios : List HeldTrio) (at : ℕ) (next : HeldTrio) → IsLining p lines trios → at < length trios → held_modes next ≡ held_modes (trio_held trios at) → IsHeldTrio next → IsLining p lines (slice_set trios at next)
lining-set_trio p lines trios at next h within same fits = record {
  one_each = h.one_each;
  one_each_trio = length-set trios at next ∙ h.one_each_trio;
  modes = h.modes;
  trio_modes = λ t there. elim (cases_eq t at) [
    | inl e ↦ subst (λ (k : ℕ). held_modes (trio_held (slice_set trios at next) k) ≡ modes_of p.run.dt (trio_of p k)) (sym e)
        (ap held_modes (get_or-set_same trios at next (trio_at_rest (pos 1) no_trio) within) ∙ same ∙ h.trio_modes at (subst (λ (k : ℕ). k < length p.trios) e there))
    | inr ne ↦ ap held_modes (get_or-set_other trios at t next (trio_at_rest (pos 1) no_trio) ne) ∙ h.trio_modes t there
  ];
  lines_fit = h.lines_fit;
  trios_fit = All-set IsHeldTrio trios at next fits h.trios_fit;
}

pub trio_stands-set : {n m : ℕ} (p : Parts) (lines : List HeldLine) (trios : List HeldTrio) (at : ℕ) (next : HeldTrio) (past : ℕ → List PhaseState) → at < length trios → TrioStands next past → TrioStandsAt (shown p n m lines (slice_set trios at next)) at past
trio_stands-set p lines trios at next past within stands = record {
  there = omega (arith, length-set trios at next, within);
  stands = subst (λ (x : HeldTrio). TrioStands x past) (sym (get_or-set_same trios at next (trio_at_rest (pos 1) no_trio) within)) stands;
}

pub trio_stands-other : {n m : ℕ} (p : Parts) (lines : List HeldLine) (trios : List HeldTrio) (at t : ℕ) (next : HeldTrio) (past : ℕ → List PhaseState) → t ≢ at → TrioStandsAt (shown p n m lines trios) t past → TrioStandsAt (shown p n m lines (slice_set trios at next)) t past
trio_stands-other p lines trios at t next past apart stands = record {
  there = omega (arith, length-set trios at next, stands.there);
  stands = subst (λ (x : HeldTrio). TrioStands x past) (sym (get_or-set_other trios at t next (trio_at_rest (pos 1) no_trio) apart)) stands.stands;
}

-- a phase after a push
pub phase_pushed : (old new : HeldLine) (part : LineState) (s : PhaseState) (past : List PhaseState) → part ≡ record { from_current = s.from_current; to_current = s.to_current; from_wave = s.from_wave; to_wave = s.to_wave } → new.from_current ≡ part.from_current → new.to_current ≡ part.to_current
    → ((from to : List ℤ) → WavesStand old.waves from to → WavesStand new.waves (part.from_wave ∷ from) (part.to_wave ∷ to)) → PhaseStands old past → PhaseStands new (s ∷ past)
phase_pushed old new part s past is from to waves stands = record {
  from_current = from ∙ ap (λ (x : LineState). x.from_current) is;
  to_current = to ∙ ap (λ (x : LineState). x.to_current) is;
  waves = rw is at waves (phase_from_waves past) (phase_to_waves past) stands.waves;
}

-- the rings of a three-phase line whose modes stay keep their capacities
pub trio_rings_kept : (old new : HeldTrio) → IsHeldTrio old → IsHeldTrio new → held_modes new ≡ held_modes old → trio_rings new ≡ trio_rings old
trio_rings_kept old new was is same =
    let positive : new.first.waves.mode ≡ old.first.waves.mode = ap (λ (m : Modes). m.positive) same in
    let zero_sequence = rings_kept old.zero_sequence new.zero_sequence was.zero_sequence is.zero_sequence (ap (λ (m : Modes). m.zero_sequence) same) in
    let first = rings_kept old.first.waves new.first.waves was.first.waves is.first.waves positive in
    let second = rings_kept old.second.waves new.second.waves was.second.waves is.second.waves (is.second_mode ∙ positive ∙ sym was.second_mode) in
    let third = rings_kept old.third.waves new.third.waves was.third.waves is.third.waves (is.third_mode ∙ positive ∙ sym was.third_mode) in
    ap (λ (rings : List ℕ). rings ++ line_rings new.first ++ line_rings new.second ++ line_rings new.third) zero_sequence
    ∙ ap (λ (rings : List ℕ). rings_of old.zero_sequence ++ rings ++ line_rings new.second ++ line_rings new.third) first
    ∙ ap (λ (rings : List ℕ). rings_of old.zero_sequence ++ line_rings old.first ++ rings ++ line_rings new.third) second
    ∙ ap (λ (rings : List ℕ). rings_of old.zero_sequence ++ line_rings old.first ++ line_rings old.second ++ rings) third

-- and one whose rings do leaves all capacities
pub trio_capacities-set : (n m : ℕ) (lines : List HeldLine) (trios : List HeldTrio) (at : ℕ) (new : HeldTrio) → trio_rings new ≡ trio_rings (trio_held trios at) → capacities_of n m lines (slice_set trios at new) ≡ capacities_of n m lines trios
trio_capacities-set n m lines trios at new same =
    ap (λ (rings : List (List ℕ)). n ∷ m ∷ concat (map line_rings lines) ++ concat rings) (map-set_same trio_rings trios at new (trio_at_rest (pos 1) no_trio) same)
