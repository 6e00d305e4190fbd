-- What the lists of held lines and three-phase lines say of a branch.
use Rattle.emtp_case.specs.held.RunData.{IsTimeStep}
use Rattle.std.proofs.Common.{◌≡◌, ◌≢◌, ◌∙◌, ap, sym, subst, refl, zero, suc, ℕ, ◌+◌, ◌<◌, ℤ, pos, List, [], ◌∷◌, ◌++◌, All, length, map, get_or, slice_set, inl, inr, arith}
use Rattle.std.proofs.lemmas.Bool.{cases_eq}
use Rattle.std.proofs.lemmas.List.{get_or-map, get_or_default, get_or-set_same, get_or-set_other, length-map}
use Rattle.std.proofs.lemmas.List.Elements.{All-set, All-map, All-weaker}
use Rattle.std.proofs.lemmas.Option.{slice_get_within, get_or_from_slice_get}
use Rattle.std.proofs.Math.ListN.{length-set}
use Rattle.std.proofs.Math.Seq.{map-set_same}
use Rattle.std.specs.List.{concat}
use Rattle.emtp_case.specs.held.Branch.{IsBranch}
use Rattle.emtp_case.specs.held.Case.{IsCase}
use Rattle.emtp_case.specs.held.Sizes.{Sizes, sizes_of}
use Rattle.emtp_case.specs.StepRecord.{rest_of, branch_at_rest, line_state_of, no_line}
use Rattle.emtp_case.specs.declared.branch.Branch.{Branch}
use Rattle.emtp_case.specs.declared.branch.Branch.TheVariants.{Lumped as OfLumped, Line as OfLine, Pseudo as OfPseudo, Phase as OfPhase}
use Rattle.emtp_case.specs.declared.branch.Line.{Line}
use Rattle.emtp_case.specs.declared.branch.LineState.{LineState}
use Rattle.emtp_case.specs.declared.branch.Point.{Point}
use Rattle.emtp_case.specs.declared.case.Parts.{Parts}
use Rattle.emtp_case.specs.declared.run_data.RunData.{RunData}
use Rattle.emtp_hist.specs.History.{value_before}
use Rattle.emtp_line.specs.held.Held.{IsHeld, LineStands, held_at_rest}
use Rattle.emtp_line.specs.Lines.{states_of}
use Rattle.emtp_line.specs.held.Lines.{Lining, IsLining, IsLineAt, StandsAt, HasMode, capacities_of, line_rings, mode_at, rest_at, rings_of, line_held, no_mode, trio_rings}
use Rattle.emtp_line.specs.Mode.{mode_of_line}
use Rattle.emtp_line.specs.held.Mode.{IsMode}
use Rattle.emtp_line.specs.held.Waves.{IsWaves, WavesStand, waves_at_rest}
use Rattle.emtp_line.specs.declared.held.HeldLine.{HeldLine}
use Rattle.emtp_line.specs.declared.held_trio.HeldTrio.{HeldTrio}
use Rattle.emtp_line.specs.declared.mode.Mode.{Mode}
use Rattle.emtp_line.specs.declared.waves.Waves.{Waves}
use Rattle.emtp_line.proofs.Bounds.{mode_fits, no_mode_fits}
use Rattle.emtp_line.proofs.Physics.{no_history}

-- what a contract sees of these lines, in lists of these capacities
abbrev pub shown : Parts → ℕ → ℕ → List HeldLine → List HeldTrio → Lining
shown p n m lines trios = record { case = p; lines = lines; trios = trios; capacities = capacities_of n m lines trios }

-- ---- rest

pub rest_waves : (m : Mode) → IsMode m → IsWaves (waves_at_rest m)
rest_waves m h = record { mode = h; from_depth = refl; to_depth = refl; from_small = omega arith; to_small = omega arith }

pub rest_held : (m : Mode) → IsMode m → IsHeld (held_at_rest m)
rest_held m h = record { waves = rest_waves m h; from_small = omega arith; to_small = omega arith }

none_before : (k : ℕ) → value_before (pos 0 ∷ []) k ≡ pos 0
none_before zero = refl
none_before (suc k) = refl

-- the waves of record 0 make no history current
pub rest_waves_stand : (m : Mode) → WavesStand (waves_at_rest m) (pos 0 ∷ []) (pos 0 ∷ [])
rest_waves_stand m = record {
  from_waves = refl;
  to_waves = refl;
  from_history = sym (no_history m (pos 0 ∷ []) (pos 0 ∷ []) none_before none_before);
  to_history = sym (no_history m (pos 0 ∷ []) (pos 0 ∷ []) none_before none_before);
}

rest_line_stands : (m : Mode) → LineStands (held_at_rest m) (no_line ∷ [])
rest_line_stands m = record { from_current = refl; to_current = refl; waves = rest_waves_stand m }

-- ---- all branches of record 0

pub branch_has_mode : (run : RunData) (n : Sizes) (points : List Point) (b : Branch) → IsBranch run n points b → HasMode run.dt b
branch_has_mode run n points (OfLumped b) h = tt
branch_has_mode run n points (OfLine b) h = h.numbers
branch_has_mode run n points (OfPseudo b) h = tt
branch_has_mode run n points (OfPhase b) h = tt

pub mode_at-fits : (dt : ℤ) → IsTimeStep dt → (b : Branch) → HasMode dt b → IsMode (mode_at dt b)
mode_at-fits dt step (OfLumped b) h = no_mode_fits
mode_at-fits dt step (OfLine b) h = mode_fits dt b.zc b.r b.delay step h
mode_at-fits dt step (OfPseudo b) h = no_mode_fits
mode_at-fits dt step (OfPhase b) h = no_mode_fits

-- the line at a place of those at rest
pub rest_read : (p : Parts) (b : ℕ) (x : Line) → IsLineAt p b x → line_held (map (rest_at p.run.dt) p.branches) b ≡ held_at_rest (mode_of_line p.run.dt x)
rest_read p b x line =
    get_or-map (rest_at p.run.dt) p.branches b (OfLine x) (held_at_rest no_mode) (slice_get_within p.branches b (OfLine x) line)
    ∙ ap (rest_at p.run.dt) (get_or_from_slice_get p.branches b (OfLine x) (OfLine x) line)

pub rest_lines_fit : (p : Parts) → IsCase p → All IsHeld (map (rest_at p.run.dt) p.branches)
rest_lines_fit p h = All-map IsHeld (rest_at p.run.dt) p.branches
    (All-weaker (IsBranch p.run (sizes_of p) p.points) (λ b. IsHeld (rest_at p.run.dt b))
    (λ b fits. rest_held (mode_at p.run.dt b) (mode_at-fits p.run.dt h.draft.run.dt b (branch_has_mode p.run (sizes_of p) p.points b fits))) p.branches h.draft.network.branches)

-- of record 0 all numbers are 0
rest_numbers : (bs : List Branch) (b : ℕ) → get_or (map line_state_of (map branch_at_rest bs)) b no_line ≡ no_line
rest_numbers [] b = refl
rest_numbers (OfLumped x ∷ bs) zero = refl
rest_numbers (OfLine x ∷ bs) zero = refl
rest_numbers (OfPseudo x ∷ bs) zero = refl
rest_numbers (OfPhase x ∷ bs) zero = refl
rest_numbers (x ∷ bs) (suc b) = rest_numbers bs b

-- the lines at rest stand for it
pub rest_stands : {n m : ℕ} (p : Parts) (lines : List HeldLine) (trios : List HeldTrio) (b : ℕ) (x : Line) → lines ≡ map (rest_at p.run.dt) p.branches → IsLineAt p b x → StandsAt (shown p n m lines trios) b (states_of b (rest_of p ∷ []))
rest_stands p lines trios b x are line = record {
  there = omega (arith, ap length are, length-map p.branches (rest_at p.run.dt), slice_get_within p.branches b (OfLine x) line);
  stands = subst (λ (s : LineState). LineStands (line_held lines b) (s ∷ [])) (sym (rest_numbers p.branches b))
      (subst (λ (k : HeldLine). LineStands k (no_line ∷ [])) (sym (ap (λ ks. line_held ks b) are ∙ rest_read p b x line)) (rest_line_stands (mode_of_line p.run.dt x)));
}

-- ---- a line read

pub line_within : (p : Parts) (lines : List HeldLine) (trios : List HeldTrio) (b : ℕ) (x : Line) → IsLining p lines trios → IsLineAt p b x → b < length lines
line_within p lines trios b x h line = omega (arith, h.one_each, slice_get_within p.branches b (OfLine x) line)

-- what an index read is the line at the place
pub line_read : (lines : List HeldLine) (b : ℕ) (r : HeldLine) → b < length lines → r ≡ get_or lines b r → r ≡ line_held lines b
line_read lines b r within e = e ∙ get_or_default lines b r (held_at_rest no_mode) within

pub held_read : (p : Parts) (lines : List HeldLine) (trios : List HeldTrio) (b : ℕ) → IsLining p lines trios → b < length lines → IsHeld (line_held lines b)
held_read p lines trios b h within = h.lines_fit b (held_at_rest no_mode) within

-- ---- a line moved

pub lining-set : (p : Parts) (lines : List HeldLine) (trios : List HeldTrio) (at : ℕ) (next : HeldLine) → IsLining p lines trios → at < length lines → next.waves.mode ≡ (line_held lines at).waves.mode → IsHeld next → IsLining p (slice_set lines at next) trios
lining-set p lines trios at next h within same fits = record {
  one_each = length-set lines at next ∙ h.one_each;
  one_each_trio = h.one_each_trio;
  modes = λ b x line. elim (cases_eq b at) [
    | inl e ↦ subst (λ (k : ℕ). (line_held (slice_set lines at next) k).waves.mode ≡ mode_of_line p.run.dt x) (sym e)
        (ap (λ (k : HeldLine). k.waves.mode) (get_or-set_same lines at next (held_at_rest no_mode) within) ∙ same ∙ h.modes at x (subst (λ (k : ℕ). IsLineAt p k x) e line))
    | inr ne ↦ ap (λ (k : HeldLine). k.waves.mode) (get_or-set_other lines at b next (held_at_rest no_mode) ne) ∙ h.modes b x line
  ];
  trio_modes = h.trio_modes;
  lines_fit = All-set IsHeld lines at next fits h.lines_fit;
  trios_fit = h.trios_fit;
}

pub stands-set : {n m : ℕ} (p : Parts) (lines : List HeldLine) (trios : List HeldTrio) (at : ℕ) (next : HeldLine) (past : List LineState) → at < length lines → LineStands next past → StandsAt (shown p n m (slice_set lines at next) trios) at past
stands-set p lines trios at next past within stands = record {
  there = omega (arith, length-set lines at next, within);
  stands = subst (λ (k : HeldLine). LineStands k past) (sym (get_or-set_same lines at next (held_at_rest no_mode) within)) stands;
}

pub stands-other : {n m : ℕ} (p : Parts) (lines : List HeldLine) (trios : List HeldTrio) (at b : ℕ) (next : HeldLine) (past : List LineState) → b ≢ at → StandsAt (shown p n m lines trios) b past → StandsAt (shown p n m (slice_set lines at next) trios) b past
stands-other p lines trios at b next past apart stands = record {
  there = omega (arith, length-set lines at next, stands.there);
  stands = subst (λ (k : HeldLine). LineStands k past) (sym (get_or-set_other lines at b next (held_at_rest no_mode) apart)) stands.stands;
}

-- waves of one mode have rings of one capacity
pub rings_kept : (old new : Waves) → IsWaves old → IsWaves new → new.mode ≡ old.mode → rings_of new ≡ rings_of old
rings_kept old new was is same =
    let from : new.from.depth ≡ old.from.depth = is.from_depth ∙ ap (λ (m : Mode). m.steps + 1) same ∙ sym was.from_depth in
    let to : new.to.depth ≡ old.to.depth = is.to_depth ∙ ap (λ (m : Mode). m.steps + 1) same ∙ sym was.to_depth in
    ap (λ (k : ℕ). k ∷ new.to.depth ∷ []) from ∙ ap (λ (k : ℕ). old.from.depth ∷ k ∷ []) to

-- a line whose rings keep their capacities leaves all capacities
pub capacities-set : (n m : ℕ) (lines : List HeldLine) (trios : List HeldTrio) (at : ℕ) (new : HeldLine) → line_rings new ≡ line_rings (line_held lines at) → capacities_of n m (slice_set lines at new) trios ≡ capacities_of n m lines trios
capacities-set n m lines trios at new same =
    ap (λ (rings : List (List ℕ)). n ∷ m ∷ concat rings ++ concat (map trio_rings trios)) (map-set_same line_rings lines at new (held_at_rest no_mode) same)
