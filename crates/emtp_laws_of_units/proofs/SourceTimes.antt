-- A source acts from its start to its stop.
use Rattle.std.proofs.Common.{◌≡◌, ◌∙◌, ◌&&◌, ◌<ℤ◌, ◌≤ℤ◌, ◌*ℤ◌, ap, sym, subst, refl, inl, inr, ℕ, ℤ, pos, int_lt, not, if◌then◌else◌, Bool, true, false, List, [], ◌∷◌, length, slice_index_or, Option, Some, None, IfSome, IsSomeAnd, arith}
use Rattle.std.proofs.lemmas.Int.{ints}
use Rattle.emtp_case.specs.StepRecord.{StepRecord, latest}
use Rattle.emtp_case.specs.held.Case.{IsCase}
use Rattle.emtp_case.specs.declared.case.Parts.{Parts}
use Rattle.emtp_case.specs.declared.source.Source.{Source}
use Rattle.emtp_machine.specs.Laws.{records_upto}
use Rattle.emtp_net.specs.System.{source_value}
use Rattle.emtp_wave.specs.Wave.{active_value, is_active, is_over}
use Rattle.emtp_laws.specs.Nodes.{AreSourcesKept}
use Rattle.emtp_laws.proofs.ExactSources.{run_kept}
use Rattle.emtp_laws_of_units.specs.Stops.{ActsWithin, AreTimesKept, IsOutside, IsWithin}

-- ---- its times

before : (a b : ℤ) → a <ℤ b → int_lt a b ≡ true
before a b e = grind (arith, ints)

not_before : (a b : ℤ) → b ≤ℤ a → int_lt a b ≡ false
not_before a b e = grind (arith, ints)

over : (stop : Option ℤ) (t : ℤ) → IsSomeAnd stop (λ s. s <ℤ t) → is_over stop t ≡ true
over None t late = absurd late
over (Some s) t late = before s t late

not_over : (stop : Option ℤ) (t : ℤ) → IfSome stop (λ s. t ≤ℤ s) → is_over stop t ≡ false
not_over None t early = refl
not_over (Some s) t early = not_before s t early

neither : (a : Bool) → a && false ≡ false
neither true = refl
neither false = refl

idle : (s : Source) (t : ℤ) → IsOutside s t → is_active s t ≡ false
idle s t (inl early) = ap (λ b. not b && not (is_over s.stop t)) (before t s.start early)
idle s t (inr late) = ap (λ b. not (int_lt t s.start) && not b) (over s.stop t late) ∙ neither (not (int_lt t s.start))

acting : (s : Source) (t : ℤ) → IsWithin s t → is_active s t ≡ true
acting s t is = ap (λ b. not b && not (is_over s.stop t)) (not_before t s.start is.begun) ∙ ap (λ b. not b) (not_over s.stop t is.going)

acts : (s : Source) (tacs : List ℤ) (t : ℤ) → ActsWithin s t (if is_active s t then active_value tacs s t s.shape else pos 0)
unfolding active_value
acts s tacs t = record {
  outside = λ out. ap (λ b. if b then active_value tacs s t s.shape else pos 0) (idle s t out);
  inside = λ shape is. ap (λ b. if b then active_value tacs s t s.shape else pos 0) (acting s t is) ∙ ap (active_value tacs s t) shape;
}

-- ---- in steps and records

pub step_acts : (case : Parts) (H : List StepRecord) (s : Source) → ActsWithin s (pos (length H) *ℤ case.run.dt) (source_value case H s)
step_acts case H s = acts s (latest H).values (pos (length H) *ℤ case.run.dt)

kept_act : (case : Parts) (H : List StepRecord) → AreSourcesKept case H → AreTimesKept case H
kept_act case [] kept = tt
kept_act case (r ∷ []) kept = tt
kept_act case (r ∷ q ∷ past) kept = λ k d inside voltage.
    subst (ActsWithin (slice_index_or case.sources k d) (pos (length (q ∷ past)) *ℤ case.run.dt)) (sym (kept k d inside voltage))
    (step_acts case (q ∷ past) (slice_index_or case.sources k d))

pub run_acts : (case : Parts) (n : ℕ) → IsCase case → AreTimesKept case (records_upto case n)
run_acts case n fits = kept_act case (records_upto case n) (run_kept case n fits)
