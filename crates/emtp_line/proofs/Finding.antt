-- What the lines hold at a branch.
use Rattle.std.proofs.Common.{◌≡◌, ◌∙◌, ap, sym, subst, refl, ℕ, ◌<◌, ◌+ℤ◌, ℤ, List, length, get_or, slice_get, Option, Some, None, unwrap_or, arith}
use Rattle.std.proofs.lemmas.Option.{slice_get_within, slice_get-get_or}
use Rattle.emtp_case.specs.held.Branch.{IsBranch, phase_of}
use Rattle.emtp_case.specs.held.Case.{IsCase}
use Rattle.emtp_case.specs.held.Range.{IsBetween}
use Rattle.emtp_case.specs.held.Sizes.{sizes_of}
use Rattle.emtp_case.specs.declared.branch.Branch.{Branch}
use Rattle.emtp_case.specs.declared.branch.Branch.TheVariants.{Lumped as OfLumped, Line as OfLine, Pseudo as OfPseudo, Phase as OfPhase}
use Rattle.emtp_case.specs.declared.branch.Line.{Line}
use Rattle.emtp_case.specs.declared.branch.LineState.{LineState}
use Rattle.emtp_case.specs.declared.branch.Phase.{Phase}
use Rattle.emtp_case.specs.declared.branch.PhaseState.{PhaseState}
use Rattle.emtp_case.specs.declared.case.Parts.{Parts}
use Rattle.emtp_fix.specs.declared.limit.TheConstants.{LARGEST_ENTRY}
use Rattle.emtp_line.specs.held.Held.{IsHeld, IsHeldTrio, LineStands, TrioStands, held_modes, newest, newest_phase, phase_held}
use Rattle.emtp_line.specs.Line.{line_histories}
use Rattle.emtp_line.specs.Lines.{trio_of}
use Rattle.emtp_line.specs.held.Lines.{Lining, IsLining, IsLineAt, IsPhaseAt, HasWaves, StandsAt, TrioStandsAt, line_held, trio_held}
use Rattle.emtp_line.specs.Mode.{mode_of_line}
use Rattle.emtp_line.specs.Phases.{Modes, modes_of, own_conductance, phase_from_history, phase_to_history}
use Rattle.emtp_line.specs.declared.held.HeldLine.{HeldLine}
use Rattle.emtp_line.specs.declared.held_trio.HeldTrio.{HeldTrio}
use Rattle.emtp_line.specs.declared.mode.Mode.{Mode}
use Rattle.emtp_line.proofs.Bounds.{own_range}
use Rattle.emtp_line.proofs.Holding.{line_read, held_read}
use Rattle.emtp_line.proofs.Trios.{trio_read, held_trio_read, phase_mode, phase_stands}

-- ---- the kind of a branch

pub waves_within : (case : Parts) (b : ℕ) (o : Option Branch) → slice_get case.branches b ≡ o → HasWaves o → b < length case.branches
waves_within case b None e h = absurd h
waves_within case b (Some x) e h = slice_get_within case.branches b x e

-- a branch that is a phase, with its three-phase line and its number
record Phased (case : Parts) (b t p : ℕ) : Type 0 where
  phase : Phase
  is : IsPhaseAt case b phase
  trio : t ≡ phase.trio
  number : p ≡ phase.phase
  there : t < length case.trios
  below : p < 3

phased_by : (case : Parts) (b t p : ℕ) (y : Branch) → slice_get case.branches b ≡ Some y → IsBranch case.run (sizes_of case) case.points y → Some (t, p) ≡ phase_of y → Phased case b t p
phased_by case b t p (OfLumped x) at fits e = absurd (cc)
phased_by case b t p (OfLine x) at fits e = absurd (cc)
phased_by case b t p (OfPseudo x) at fits e = absurd (cc)
phased_by case b t p (OfPhase x) at fits e =
    let trio : t ≡ x.trio = ap (λ (o : Option (ℕ × ℕ)). (unwrap_or o (0, 0)).0) e in
    let number : p ≡ x.phase = ap (λ (o : Option (ℕ × ℕ)). (unwrap_or o (0, 0)).1) e in
    record { phase = x; is = at; trio = trio; number = number; there = omega (arith, trio, fits.trio); below = omega (arith, number, fits.phase) }

-- a branch that is a single line
record Lined (case : Parts) (b : ℕ) : Type 0 where
  line : Line
  is : IsLineAt case b line

lined_by : (case : Parts) (b : ℕ) (y : Branch) → slice_get case.branches b ≡ Some y → HasWaves (Some y) → None ≡ phase_of y → Lined case b
lined_by case b (OfLumped x) at h e = absurd h
lined_by case b (OfLine x) at h e = record { line = x; is = at }
lined_by case b (OfPseudo x) at h e = absurd h
lined_by case b (OfPhase x) at h e = absurd (cc)

not_both : (case : Parts) (b : ℕ) (x : Line) (y : Phase) → IsLineAt case b x → IsPhaseAt case b y → ⊥
not_both case b x y line phase = apart (sym line ∙ phase)
  where
    apart : Some (OfLine x) ≡ Some (OfPhase y) → ⊥
    apart e = absurd (cc)

same_phase : (case : Parts) (b : ℕ) (x y : Phase) → IsPhaseAt case b x → IsPhaseAt case b y → x ≡ y
same_phase case b x y p q = one (sym p ∙ q)
  where
    one : Some (OfPhase x) ≡ Some (OfPhase y) → x ≡ y
    one e = cc

same_line : (case : Parts) (b : ℕ) (x y : Line) → IsLineAt case b x → IsLineAt case b y → x ≡ y
same_line case b x y p q = one (sym p ∙ q)
  where
    one : Some (OfLine x) ≡ Some (OfLine y) → x ≡ y
    one e = cc

-- ---- what is held there

pub record FoundPhase (s : Lining) (b t p : ℕ) (r : HeldTrio) : Type 0 where
  phased : Phased s.case b t p
  pub held : IsHeldTrio r
  is : r ≡ trio_held s.trios t
  modes : held_modes r ≡ modes_of s.case.run.dt (trio_of s.case t)
  pub below : p < 3

pub record FoundLine (s : Lining) (b : ℕ) (r : HeldLine) : Type 0 where
  lined : Lined s.case b
  pub held : IsHeld r
  is : r ≡ line_held s.lines b
  mode : r.waves.mode ≡ mode_of_line s.case.run.dt lined.line

pub found_phase : (s : Lining) (b t p : ℕ) (d : Branch) (r : HeldTrio) → IsLining s.case s.lines s.trios → IsCase s.case → HasWaves (slice_get s.case.branches b) → Some (t, p) ≡ phase_of (get_or s.case.branches b d) → r ≡ get_or s.trios t r → FoundPhase s b t p r
found_phase s b t p d r h fits waves e read =
    let there = waves_within s.case b (slice_get s.case.branches b) refl waves in
    let found = phased_by s.case b t p (get_or s.case.branches b d) (slice_get-get_or s.case.branches b d there) (fits.draft.network.branches b d there) e in
    let within : t < length s.trios = omega (arith, h.one_each_trio, found.there) in
    let is = trio_read s.trios t r within read in
    record {
      phased = found;
      held = subst IsHeldTrio (sym is) (held_trio_read s.case s.lines s.trios t h within);
      is = is;
      modes = ap held_modes is ∙ h.trio_modes t found.there;
      below = found.below;
    }

pub found_line : (s : Lining) (b : ℕ) (d : Branch) (r : HeldLine) → IsLining s.case s.lines s.trios → HasWaves (slice_get s.case.branches b) → None ≡ phase_of (get_or s.case.branches b d) → r ≡ get_or s.lines b r → FoundLine s b r
found_line s b d r h waves e read =
    let there = waves_within s.case b (slice_get s.case.branches b) refl waves in
    let at = slice_get-get_or s.case.branches b d there in
    let found = lined_by s.case b (get_or s.case.branches b d) at (subst HasWaves at waves) e in
    let within : b < length s.lines = omega (arith, h.one_each, there) in
    let is = line_read s.lines b r within read in
    record {
      lined = found;
      held = subst IsHeld (sym is) (held_read s.case s.lines s.trios b h within);
      is = is;
      mode = ap (λ (k : HeldLine). k.waves.mode) is ∙ h.modes b found.line found.is;
    }

-- ---- its numbers

pub no_line_found : (s : Lining) (b t p : ℕ) (r : HeldTrio) (x : Line) → FoundPhase s b t p r → IsLineAt s.case b x → ⊥
no_line_found s b t p r x f line = not_both s.case b x f.phased.phase line f.phased.is

pub no_phase_found : (s : Lining) (b : ℕ) (r : HeldLine) (x : Phase) → FoundLine s b r → IsPhaseAt s.case b x → ⊥
no_phase_found s b r x f phase = not_both s.case b f.lined.line x f.lined.is phase

pub own_between : (r : HeldTrio) → IsHeldTrio r → IsBetween 0 LARGEST_ENTRY r.own
own_between r h = subst (IsBetween 0 LARGEST_ENTRY) (sym h.own) (own_range r.zero_sequence.mode.conductance r.first.waves.mode.conductance h.zero_sequence.mode.conductance h.first.waves.mode.conductance)

pub phase_own : (s : Lining) (b t p : ℕ) (r : HeldTrio) (x : Phase) → FoundPhase s b t p r → IsPhaseAt s.case b x → r.own ≡ own_conductance (modes_of s.case.run.dt (trio_of s.case x.trio))
phase_own s b t p r x f at =
    let one = same_phase s.case b f.phased.phase x f.phased.is at in
    f.held.own ∙ ap own_conductance f.modes ∙ ap (λ (k : ℕ). own_conductance (modes_of s.case.run.dt (trio_of s.case k))) (f.phased.trio ∙ ap (λ (y : Phase). y.trio) one)

pub line_conductance : (s : Lining) (b : ℕ) (r : HeldLine) (x : Line) → FoundLine s b r → IsLineAt s.case b x → r.waves.mode.conductance ≡ (mode_of_line s.case.run.dt x).conductance
line_conductance s b r x f at = ap (λ (m : Mode). m.conductance) f.mode ∙ ap (λ (y : Line). (mode_of_line s.case.run.dt y).conductance) (same_line s.case b f.lined.line x f.lined.is at)

pub line_histories_held : (s : Lining) (b : ℕ) (r : HeldLine) (x : Line) (past : List LineState) → FoundLine s b r → IsLineAt s.case b x → StandsAt s b past → ◌≡◌ {A = ℤ × ℤ} (r.waves.from_history, r.waves.to_history) (line_histories (mode_of_line s.case.run.dt x) past)
line_histories_held s b r x past f at stands =
    let here : LineStands r past = subst (λ (k : HeldLine). LineStands k past) (sym f.is) stands.stands in
    let mode : r.waves.mode ≡ mode_of_line s.case.run.dt x = f.mode ∙ ap (mode_of_line s.case.run.dt) (same_line s.case b f.lined.line x f.lined.is at) in
    rw (here.waves.from_history, here.waves.to_history, mode) refl

pub line_currents_held : (s : Lining) (b : ℕ) (r : HeldLine) (past : List LineState) → FoundLine s b r → StandsAt s b past → ◌≡◌ {A = ℤ × ℤ} (r.from_current, r.to_current) ((newest past).from_current, (newest past).to_current)
line_currents_held s b r past f stands =
    let here : LineStands r past = subst (λ (k : HeldLine). LineStands k past) (sym f.is) stands.stands in
    rw (here.from_current, here.to_current) refl

-- what a phase stands for, read at its own number
phase_here : (s : Lining) (b t p : ℕ) (r : HeldTrio) (x : Phase) (past : ℕ → List PhaseState) → FoundPhase s b t p r → IsPhaseAt s.case b x → TrioStandsAt s x.trio past → TrioStands r past
phase_here s b t p r x past f at stands =
    let one = same_phase s.case b f.phased.phase x f.phased.is at in
    subst (λ (k : HeldTrio). TrioStands k past) (sym (f.is ∙ ap (λ (k : ℕ). trio_held s.trios k) (f.phased.trio ∙ ap (λ (y : Phase). y.trio) one))) stands.stands

pub phase_histories_held : (s : Lining) (b t p : ℕ) (r : HeldTrio) (x : Phase) (past : ℕ → List PhaseState) → FoundPhase s b t p r → IsPhaseAt s.case b x → TrioStandsAt s x.trio past
    → ◌≡◌ {A = ℤ × ℤ} (r.zero_sequence.from_history +ℤ (phase_held r p).waves.from_history, r.zero_sequence.to_history +ℤ (phase_held r p).waves.to_history)
    (phase_from_history (modes_of s.case.run.dt (trio_of s.case x.trio)) (past 0) (past x.phase), phase_to_history (modes_of s.case.run.dt (trio_of s.case x.trio)) (past 0) (past x.phase))
phase_histories_held s b t p r x past f at stands =
    let one = same_phase s.case b f.phased.phase x f.phased.is at in
    let here = phase_here s b t p r x past f at stands in
    let phase = phase_stands r past p here f.below in
    let positive = phase_mode r p f.held f.below in
    let modes : held_modes r ≡ modes_of s.case.run.dt (trio_of s.case x.trio) = f.modes ∙ ap (λ (k : ℕ). modes_of s.case.run.dt (trio_of s.case k)) (f.phased.trio ∙ ap (λ (y : Phase). y.trio) one) in
    let number : p ≡ x.phase = f.phased.number ∙ ap (λ (y : Phase). y.phase) one in
    let held : ◌≡◌ {A = ℤ × ℤ} (r.zero_sequence.from_history +ℤ (phase_held r p).waves.from_history, r.zero_sequence.to_history +ℤ (phase_held r p).waves.to_history) (phase_from_history (held_modes r) (past 0) (past p), phase_to_history (held_modes r) (past 0) (past p)) =
    rw (here.zero_sequence.from_history, here.zero_sequence.to_history, phase.waves.from_history, phase.waves.to_history, positive) refl in
    held ∙ ap (λ (m : Modes). (phase_from_history m (past 0) (past p), phase_to_history m (past 0) (past p))) modes
    ∙ ap (λ (k : ℕ). (phase_from_history (modes_of s.case.run.dt (trio_of s.case x.trio)) (past 0) (past k), phase_to_history (modes_of s.case.run.dt (trio_of s.case x.trio)) (past 0) (past k))) number

pub phase_currents_held : (s : Lining) (b t p : ℕ) (r : HeldTrio) (x : Phase) (past : ℕ → List PhaseState) → FoundPhase s b t p r → IsPhaseAt s.case b x → TrioStandsAt s x.trio past
    → ◌≡◌ {A = ℤ × ℤ} ((phase_held r p).from_current, (phase_held r p).to_current) ((newest_phase (past x.phase)).from_current, (newest_phase (past x.phase)).to_current)
phase_currents_held s b t p r x past f at stands =
    let one = same_phase s.case b f.phased.phase x f.phased.is at in
    let phase = phase_stands r past p (phase_here s b t p r x past f at stands) f.below in
    let number : p ≡ x.phase = f.phased.number ∙ ap (λ (y : Phase). y.phase) one in
    let held : ◌≡◌ {A = ℤ × ℤ} ((phase_held r p).from_current, (phase_held r p).to_current) ((newest_phase (past p)).from_current, (newest_phase (past p)).to_current) = rw (phase.from_current, phase.to_current) refl in
    held ∙ ap (λ (k : ℕ). ((newest_phase (past k)).from_current, (newest_phase (past k)).to_current)) number
