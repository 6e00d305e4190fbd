-- What the list of held branches says of a branch.
use Rattle.emtp_case.specs.held.RunData.{IsTimeStep}
use Rattle.std.proofs.Common.{◌≡◌, ◌≢◌, ◌∙◌, ap, sym, subst, refl, ℕ, zero, suc, ◌<◌, ℤ, pos, List, [], ◌∷◌, length, map, slice_set, get_or, ◌^◌, ◌≤◌, unsigned_abs, Some, None, Ok, Err, inl, inr, arith}
use Rattle.std.proofs.lemmas.Bool.{cases_eq}
use Rattle.std.proofs.lemmas.Int.{ints}
use Rattle.std.proofs.lemmas.List.{get_or-map, get_or_default, get_or-set_same, get_or-set_other, length-map}
use Rattle.std.proofs.lemmas.List.Elements.{All-map, All-set, All-weaker}
use Rattle.std.proofs.lemmas.Option.{slice_get_within, get_or_from_slice_get}
use Rattle.std.proofs.Math.ListN.{length-set}
use Rattle.emtp_case.specs.held.Branch.{IsBranch}
use Rattle.emtp_case.specs.held.Sizes.{Sizes, sizes_of}
use Rattle.emtp_case.specs.held.Case.{IsCase}
use Rattle.emtp_case.specs.StepRecord.{no_lumped, lumped_of, branch_at_rest, rest_of}
use Rattle.emtp_case.specs.declared.branch.Branch.{Branch}
use Rattle.emtp_case.specs.declared.branch.Branch.TheVariants.{Lumped as OfLumped, Line as OfLine, Pseudo as OfPseudo, Phase as OfPhase}
use Rattle.emtp_case.specs.declared.branch.Lumped.{Lumped}
use Rattle.emtp_case.specs.declared.branch.LumpedState.{LumpedState}
use Rattle.emtp_case.specs.declared.branch.Point.{Point}
use Rattle.emtp_case.specs.declared.case.Parts.{Parts}
use Rattle.emtp_case.specs.declared.run_data.RunData.{RunData}
use Rattle.emtp_fix.specs.declared.limit.TheConstants.{PICO}
use Rattle.emtp_fix.proofs.Quotients.{near-product, near-times_zero}
use Rattle.emtp_lumped.specs.Companion.{companion_of}
use Rattle.emtp_lumped.specs.held.Companion.{IsCompanion}
use Rattle.emtp_fix.specs.declared.limit.OutOfRange.{OutOfRange}
use Rattle.emtp_lumped.specs.Step.{history_current_of, next_state}
use Rattle.emtp_lumped.specs.held.Step.{IsInRange}
use Rattle.emtp_lumped.specs.held.Held.{IsHeld, held_at_rest}
use Rattle.emtp_lumped.specs.Lumps.{states_of, newest, next_of}
use Rattle.emtp_lumped.specs.held.Lumps.{Lumping, IsLumping, IsSeries, StandsAt, StandsFor, HasNumbers, rest_at, branch_at, no_companion, Moves}
use Rattle.emtp_lumped.specs.declared.companion.Companion.{Companion}
use Rattle.emtp_lumped.specs.declared.held.HeldBranch.{HeldBranch}
use Rattle.emtp_lumped.proofs.Bounds.{companion-fits}

-- what a contract sees of these branches, in lists of these capacities
abbrev pub shown : Parts → List ℕ → List HeldBranch → Lumping
shown p capacities held = record { case = p; held = held; capacities = capacities }

-- ---- one branch

-- a history current is far below the limits of 128 bits
pub history-small : (c : Companion) (s : LumpedState) → IsCompanion c → IsInRange s → unsigned_abs (history_current_of c s) ≤ 10 ^ 30
history-small c s fits range = near-product c.conductance s.history_voltage PICO (10 ^ 17) (10 ^ 18) (10 ^ 12) (10 ^ 30) (omega (arith, ints, fits.conductance.least, fits.conductance.most)) range.history (omega arith) (omega arith)

pub rest-history : (c : Companion) → pos 0 ≡ history_current_of c no_lumped
rest-history c = sym (near-times_zero c.conductance PICO)

pub rest-held : (c : Companion) → IsCompanion c → IsHeld (held_at_rest c)
rest-held c fits = record {
  companion = fits;
  state = record { current = omega arith; inductor = omega arith; capacitor = omega arith; history = omega arith };
  history = record { far = omega (arith); is = λ small. rest-history c };
}

pub no_companion-fits : IsCompanion no_companion
no_companion-fits = record {
  conductance = record { least = omega (arith, ints); most = omega (arith, ints) };
  inductor = record { least = omega (arith, ints); most = omega (arith, ints) };
  capacitor = record { least = omega (arith, ints); most = omega (arith, ints) };
}

-- ---- all branches

pub branch_has_numbers : (run : RunData) (n : Sizes) (points : List Point) (b : Branch) → IsBranch run n points b → HasNumbers run.dt b
branch_has_numbers run n points (OfLumped b) h = h.numbers
branch_has_numbers run n points (OfLine b) h = tt
branch_has_numbers run n points (OfPseudo b) h = tt
branch_has_numbers run n points (OfPhase b) h = tt

rest-fits : (dt : ℤ) → IsTimeStep dt → (b : Branch) → HasNumbers dt b → IsHeld (rest_at dt b)
rest-fits dt step (OfLumped b) h = rest-held (companion_of dt b) (companion-fits dt b step h)
rest-fits dt step (OfLine b) h = rest-held no_companion no_companion-fits
rest-fits dt step (OfPseudo b) h = rest-held no_companion no_companion-fits
rest-fits dt step (OfPhase b) h = rest-held no_companion no_companion-fits

-- the branch at a place of those at rest
rest-read : (p : Parts) (b : ℕ) (x : Lumped) → IsSeries p b x → branch_at (map (rest_at p.run.dt) p.branches) b ≡ held_at_rest (companion_of p.run.dt x)
rest-read p b x series =
    get_or-map (rest_at p.run.dt) p.branches b (OfLumped x) (held_at_rest no_companion) (slice_get_within p.branches b (OfLumped x) series)
    ∙ ap (rest_at p.run.dt) (get_or_from_slice_get p.branches b (OfLumped x) (OfLumped x) series)

-- the branches of record 0 are held
pub rest-lumping : (p : Parts) (held : List HeldBranch) → IsCase p → held ≡ map (rest_at p.run.dt) p.branches → IsLumping p held
rest-lumping p held h is = subst (IsLumping p) (sym is) (record {
  one_each = length-map p.branches (rest_at p.run.dt);
  companions = λ b x series. ap (λ (k : HeldBranch). k.companion) (rest-read p b x series);
  fit = All-map IsHeld (rest_at p.run.dt) p.branches
      (All-weaker (IsBranch p.run (sizes_of p) p.points) (λ b. IsHeld (rest_at p.run.dt b))
      (λ b fits. rest-fits p.run.dt h.draft.run.dt b (branch_has_numbers p.run (sizes_of p) p.points b fits)) p.branches h.draft.network.branches);
})

-- and stand for any past whose newest numbers are all 0
rest-stands : {capacities : List ℕ} (p : Parts) (held : List HeldBranch) (b : ℕ) (x : Lumped) (past : List LumpedState) → held ≡ map (rest_at p.run.dt) p.branches → IsSeries p b x → newest past ≡ no_lumped → StandsAt (shown p capacities held) b past
rest-stands p held b x past is series none = record {
  there = omega (arith, ap length is, length-map p.branches (rest_at p.run.dt), slice_get_within p.branches b (OfLumped x) series);
  latest = ap (λ (hs : List HeldBranch). (branch_at hs b).state) is ∙ ap (λ (k : HeldBranch). k.state) (rest-read p b x series) ∙ sym none;
}

-- of record 0 all numbers are 0
rest-numbers : (bs : List Branch) (b : ℕ) → get_or (map lumped_of (map branch_at_rest bs)) b no_lumped ≡ no_lumped
rest-numbers [] b = refl
rest-numbers (OfLumped x ∷ bs) zero = refl
rest-numbers (OfLine x ∷ bs) zero = refl
rest-numbers (OfPseudo x ∷ bs) zero = refl
rest-numbers (OfPhase x ∷ bs) zero = refl
rest-numbers (x ∷ bs) (suc b) = rest-numbers bs b

-- so they stand for its list
pub rest-stands-for : {capacities : List ℕ} (p : Parts) (held : List HeldBranch) → held ≡ map (rest_at p.run.dt) p.branches → StandsFor (shown p capacities held) (rest_of p ∷ [])
rest-stands-for p held is b x series = rest-stands p held b x (states_of b (rest_of p ∷ [])) is series (rest-numbers p.branches b)

-- ---- a branch read

pub series_within : (p : Parts) (held : List HeldBranch) (b : ℕ) (x : Lumped) → IsLumping p held → IsSeries p b x → b < length held
series_within p held b x h series = omega (arith, h.one_each, slice_get_within p.branches b (OfLumped x) series)

-- the same of a value that is seen
pub seen_within : {capacities : List ℕ} (p : Parts) (held : List HeldBranch) (s : Lumping) (b : ℕ) (x : Lumped) → shown p capacities held ≡ s → IsLumping p held → IsSeries s.case b x → b < length held
seen_within p held s b x same h series = series_within p held b x h (subst (λ (t : Lumping). IsSeries t.case b x) (sym same) series)

-- what an index read is the branch at the place
pub branch_read : (held : List HeldBranch) (b : ℕ) (r : HeldBranch) → b < length held → r ≡ get_or held b r → r ≡ branch_at held b
branch_read held b r within e = e ∙ get_or_default held b r (held_at_rest no_companion) within

pub held_read : (p : Parts) (held : List HeldBranch) (b : ℕ) → IsLumping p held → b < length held → IsHeld (branch_at held b)
held_read p held b h within = h.fit b (held_at_rest no_companion) within

-- ---- a branch written

pub lumping-set : (p : Parts) (held : List HeldBranch) (at : ℕ) (next : HeldBranch) → IsLumping p held → at < length held → next.companion ≡ (branch_at held at).companion → IsHeld next → IsLumping p (slice_set held at next)
lumping-set p held at next h within same fits = record {
  one_each = length-set held at next ∙ h.one_each;
  companions = λ b x series. elim (cases_eq b at) [
    | inl e ↦ subst (λ (k : ℕ). (branch_at (slice_set held at next) k).companion ≡ companion_of p.run.dt x) (sym e)
        (ap (λ (k : HeldBranch). k.companion) (get_or-set_same held at next (held_at_rest no_companion) within) ∙ same ∙ h.companions at x (subst (λ (k : ℕ). IsSeries p k x) e series))
    | inr ne ↦ ap (λ (k : HeldBranch). k.companion) (get_or-set_other held at b next (held_at_rest no_companion) ne) ∙ h.companions b x series
  ];
  fit = All-set IsHeld held at next fits h.fit;
}

stands-set : {capacities : List ℕ} (p : Parts) (held : List HeldBranch) (at : ℕ) (next : HeldBranch) (past : List LumpedState) → at < length held → StandsAt (shown p capacities (slice_set held at next)) at (next.state ∷ past)
stands-set p held at next past within = record {
  there = omega (arith, length-set held at next, within);
  latest = ap (λ (k : HeldBranch). k.state) (get_or-set_same held at next (held_at_rest no_companion) within);
}

stands-other : {capacities : List ℕ} (p : Parts) (held : List HeldBranch) (at b : ℕ) (next : HeldBranch) (past : List LumpedState) → b ≢ at → StandsAt (shown p capacities held) b past → StandsAt (shown p capacities (slice_set held at next)) b past
stands-other p held at b next past apart stands = record {
  there = omega (arith, length-set held at next, stands.there);
  latest = ap (λ (k : HeldBranch). k.state) (get_or-set_other held at b next (held_at_rest no_companion) apart) ∙ stands.latest;
}

-- ---- a branch moved

-- what a step at the branch makes of its past is what the companion of its card makes of it
next-read : {capacities : List ℕ} (p : Parts) (held : List HeldBranch) (at : ℕ) (v : ℤ) (x : Lumped) (past : List LumpedState) → IsLumping p held → IsSeries p at x → StandsAt (shown p capacities held) at past → next_of p x past v ≡ next_state (branch_at held at).companion (branch_at held at).state v
next-read p held at v x past h series stands = rw (h.companions at x series, stands.latest) refl

pub moves-ok : {capacities : List ℕ} (p : Parts) (held : List HeldBranch) (at : ℕ) (v i : ℤ) (next : HeldBranch) → IsLumping p held → at < length held → next_state (branch_at held at).companion (branch_at held at).state v ≡ Some next.state → i ≡ next.state.current
    → Moves (shown p capacities held) (shown p capacities (slice_set held at next)) at v (Ok i)
moves-ok p held at v i next h within after current = record {
  case = refl;
  capacities = refl;
  moved = λ x past series stands. record {
    state = next.state;
    is = next-read p held at v x past h series stands ∙ after;
    current = current;
    stands = stands-set p held at next past within;
  };
  out = λ x past series stands. tt;
  others = λ b past apart stands. stands-other p held at b next past apart stands;
  same = tt;
}

pub moves-out : {capacities : List ℕ} (p : Parts) (held : List HeldBranch) (at : ℕ) (v : ℤ) (e : OutOfRange) → IsLumping p held → next_state (branch_at held at).companion (branch_at held at).state v ≡ None
    → Moves (shown p capacities held) (shown p capacities held) at v (Err e)
moves-out p held at v e h after = record {
  case = refl;
  capacities = refl;
  moved = λ x past series stands. tt;
  out = λ x past series stands. next-read p held at v x past h series stands ∙ after;
  others = λ b past apart stands. stands;
  same = refl;
}
