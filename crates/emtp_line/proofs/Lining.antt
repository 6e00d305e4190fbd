-- The lines of record 0, and a step of a line among all others.
use Rattle.std.proofs.Common.{◌≡◌, ◌∙◌, ap, sym, subst, refl, ℕ, ◌<◌, ℤ, pos, List, [], ◌∷◌, length, map, slice_set, Result, Ok, Err, IfOk, IfErr, OnErr, None}
use Rattle.std.proofs.lemmas.List.{length-map, set-get_or}
use Rattle.emtp_case.specs.held.Case.{IsCase}
use Rattle.emtp_case.specs.StepRecord.{rest_of}
use Rattle.emtp_case.specs.declared.branch.LineState.{LineState}
use Rattle.emtp_case.specs.declared.branch.PhaseState.{PhaseState}
use Rattle.emtp_case.specs.declared.case.Parts.{Parts}
use Rattle.emtp_fix.specs.declared.limit.OutOfRange.{OutOfRange}
use Rattle.emtp_line.specs.held.Held.{LineStands, LineMoved, TrioStands, TrioMoved, held_at_rest, held_modes, trio_at_rest, with_states}
use Rattle.emtp_line.specs.Line.{next_state}
use Rattle.emtp_line.specs.Lines.{no_trio}
use Rattle.emtp_line.specs.held.Lines.{IsLining, StandsFor, Moves, TrioMoves, line_rings, rest_at, line_held, trio_held, no_mode, trio_rings}
use Rattle.emtp_line.specs.Phases.{Modes}
use Rattle.emtp_line.specs.held.Phases.{next_phases}
use Rattle.emtp_line.specs.declared.held.HeldLine.{HeldLine}
use Rattle.emtp_line.specs.declared.held_trio.HeldTrio.{HeldTrio}
use Rattle.emtp_line.specs.declared.mode.Mode.{Mode}
use Rattle.emtp_line.specs.declared.phase_states.PhaseRange.{PhaseRange}
use Rattle.emtp_line.proofs.Holding.{capacities-set, rest_lines_fit, rest_stands, rest_read, shown, stands-set, stands-other}
use Rattle.emtp_line.proofs.Trios.{rest_trios_fit, rest_trio_modes, rest_trios_stand, trio_capacities-set, trio_stands-set, trio_stands-other}

-- ---- record 0

pub rest_lining : (p : Parts) (lines : List HeldLine) (trios : List HeldTrio) → IsCase p → lines ≡ map (rest_at p.run.dt) p.branches → trios ≡ map (trio_at_rest p.run.dt) p.trios → IsLining p lines trios
rest_lining p lines trios h are trios_are = rw (are, trios_are) (record {
  one_each = length-map p.branches (rest_at p.run.dt);
  one_each_trio = length-map p.trios (trio_at_rest p.run.dt);
  modes = λ b x line. ap (λ (k : HeldLine). k.waves.mode) (rest_read p b x line);
  trio_modes = rest_trio_modes p;
  lines_fit = rest_lines_fit p h;
  trios_fit = rest_trios_fit p h;
})

pub rest_stands_for : {n m : ℕ} (p : Parts) (lines : List HeldLine) (trios : List HeldTrio) → lines ≡ map (rest_at p.run.dt) p.branches → trios ≡ map (trio_at_rest p.run.dt) p.trios → StandsFor (shown p n m lines trios) (rest_of p ∷ [])
rest_stands_for p lines trios are trios_are = record {
  lines = λ b x line. rest_stands p lines trios b x are line;
  trios = λ t there. rest_trios_stand p lines trios t trios_are there;
}

-- ---- a step

-- a line's step among all lines is its own step
pub moves : {n m : ℕ} (p : Parts) (lines : List HeldLine) (trios : List HeldTrio) (at : ℕ) (v w : ℤ) (result : Result ℤ OutOfRange) (old new : HeldLine) → IsLining p lines trios → at < length lines → old ≡ line_held lines at
    → ((past : List LineState) → LineStands old past → IfOk result (LineMoved new past (next_state old.waves.mode past v w)))
    → ((past : List LineState) → LineStands old past → OnErr result (next_state old.waves.mode past v w ≡ None))
    → OnErr result (new ≡ old) → line_rings new ≡ line_rings old
    → Moves (shown p n m lines trios) (shown p n m (slice_set lines at new) trios) at v w result
moves {n = n} {m = m} p lines trios at v w (Ok i) old new h within read moved out same rings = record {
  case = refl;
  capacities = capacities-set n m lines trios at new (rings ∙ ap line_rings read);
  moved = λ x past line stands.
      let m = moved past (subst (λ (k : HeldLine). LineStands k past) (sym read) stands.stands) in
      record {
        state = m.state;
        is = ap (λ (n : Mode). next_state n past v w) (sym (ap (λ (k : HeldLine). k.waves.mode) read ∙ h.modes at x line)) ∙ m.is;
        current = m.current;
        stands = stands-set p lines trios at new (m.state ∷ past) within m.stands;
      };
  out = λ x past line stands. tt;
  others = λ b past apart stands. stands-other p lines trios at b new past apart stands;
  trios = λ t past stands. record { there = stands.there; stands = stands.stands };
  same = tt;
}
moves {n = n} {m = m} p lines trios at v w (Err e) old new h within read moved out same rings =
    let kept : slice_set lines at new ≡ lines = ap (slice_set lines at) (same ∙ read) ∙ set-get_or lines at (held_at_rest no_mode) in
    record {
      case = refl;
      capacities = capacities-set n m lines trios at new (rings ∙ ap line_rings read);
      moved = λ x past line stands. tt;
      out = λ x past line stands. ap (λ (n : Mode). next_state n past v w) (sym (ap (λ (k : HeldLine). k.waves.mode) read ∙ h.modes at x line)) ∙ out past (subst (λ (k : HeldLine). LineStands k past) (sym read) stands.stands);
      others = λ b past apart stands. stands-other p lines trios at b new past apart stands;
      trios = λ t past stands. record { there = stands.there; stands = stands.stands };
      same = ap (λ (ks : List HeldLine). shown p n m ks trios) kept;
    }

-- and the same of a three-phase line
pub trio_moves : {n m : ℕ} (p : Parts) (lines : List HeldLine) (trios : List HeldTrio) (at : ℕ) (v w : List ℤ) (result : Result (List ℤ) PhaseRange) (old new : HeldTrio) → IsLining p lines trios → at < length p.trios → at < length trios → old ≡ trio_held trios at
    → ((past : ℕ → List PhaseState) → TrioStands old past → IfOk result (TrioMoved new past (next_phases (held_modes old) past v w)))
    → ((past : ℕ → List PhaseState) → TrioStands old past → IfErr result (λ fault. next_phases (held_modes old) past v w ≡ Err fault))
    → OnErr result (new ≡ old) → trio_rings new ≡ trio_rings old → IfErr result (λ fault. fault.phase < 3)
    → TrioMoves (shown p n m lines trios) (shown p n m lines (slice_set trios at new)) at v w result
trio_moves {n = n} {m = m} p lines trios at v w (Ok i) old new h there within read moved out same rings few = record {
  case = refl;
  capacities = trio_capacities-set n m lines trios at new (rings ∙ ap trio_rings read);
  moved = λ past stands.
      let m = moved past (subst (λ (k : HeldTrio). TrioStands k past) (sym read) stands.stands) in
      record {
        states = m.states;
        is = ap (λ (n : Modes). next_phases n past v w) (sym (ap held_modes read ∙ h.trio_modes at there)) ∙ m.is;
        currents = m.currents;
        stands = trio_stands-set p lines trios at new (with_states m.states past) within m.stands;
      };
  out = λ past stands. tt;
  others = λ t past apart stands. trio_stands-other p lines trios at t new past apart stands;
  lines = λ b past stands. record { there = stands.there; stands = stands.stands };
  same = tt;
  phase = tt;
}
trio_moves {n = n} {m = m} p lines trios at v w (Err e) old new h there within read moved out same rings few =
    let kept : slice_set trios at new ≡ trios = ap (slice_set trios at) (same ∙ read) ∙ set-get_or trios at (trio_at_rest (pos 1) no_trio) in
    record {
      case = refl;
      capacities = trio_capacities-set n m lines trios at new (rings ∙ ap trio_rings read);
      moved = λ past stands. tt;
      out = λ past stands. ap (λ (n : Modes). next_phases n past v w) (sym (ap held_modes read ∙ h.trio_modes at there)) ∙ out past (subst (λ (k : HeldTrio). TrioStands k past) (sym read) stands.stands);
      others = λ t past apart stands. trio_stands-other p lines trios at t new past apart stands;
      lines = λ b past stands. record { there = stands.there; stands = stands.stands };
      same = ap (λ (ks : List HeldTrio). shown p n m lines ks) kept;
      phase = few;
    }
