-- The warning of a branch in which a current drifts.
use Rattle.std.proofs.Common.{◌≡◌, ◌∙◌, [], ◌∷◌, ap, refl, Bool, true, false, List, Option, ℤ}
use Rattle.emtp_acting.specs.Clean.{clean_inductance}
use Rattle.emtp_acting.specs.Fictitious.{drift_of, fictitious_of, resistance_of}
use Rattle.emtp_acting.specs.declared.fictitious.Fictitious.{Fictitious}
use Rattle.emtp_case.specs.declared.branch.Lumped.{Lumped}
use Rattle.emtp_warnings.proofs.Adding.{nothing, rewritten}
use Rattle.emtp_warnings.specs.ActingWarnings.{drift_by, drift_warnings, drifts_in}
use Rattle.emtp_warnings.specs.AddsTo.{AddsTo}
use Rattle.emtp_warnings.specs.Finding.{found, of_line}
use Rattle.emtp_warnings.specs.declared.finding.Finding.TheVariants.{Drifts}
use Rattle.emtp_warnings.specs.declared.finding.Warning.{Warning}

abbrev told : Lumped → ℤ → ℤ → Option ℤ → List Warning
told b r d clean = of_line b.line (Drifts r d clean) ∷ []

there : (f : Fictitious) (dt time : ℤ) (b : Lumped) → drifts_in f time b ≡ true → told b (resistance_of f) (drift_of f time b.l) (clean_inductance dt time b) ≡ drift_by f dt time b
there f dt time b does = rw does refl

none : (f : Fictitious) (dt time : ℤ) (b : Lumped) → drifts_in f time b ≡ false → [] ≡ drift_by f dt time b
none f dt time b never = rw never refl

pub drift-added : {old new : List Warning} (dt time : ℤ) (b : Lumped) (f : Fictitious) (r d : ℤ) (clean : Option ℤ) (row : Bool × Warning) → f ≡ fictitious_of dt b → drifts_in f time b ≡ true
    → r ≡ resistance_of f → d ≡ drift_of f time b.l → clean ≡ clean_inductance dt time b
    → row ≡ (true, of_line b.line (Drifts r d clean)) → AddsTo old (found (row ∷ [])) new → AddsTo old (drift_warnings dt time b) new
drift-added dt time b f r d clean row made does e g h is add =
    rewritten
    (ap (λ (x : Bool × Warning). found (x ∷ [])) is ∙ ap (λ x. told b x d clean) e ∙ ap (λ x. told b (resistance_of f) x clean) g ∙ ap (told b (resistance_of f) (drift_of f time b.l)) h
    ∙ there f dt time b does ∙ ap (λ (x : Fictitious). drift_by x dt time b) made)
    add

pub no_drift-added : {old : List Warning} (dt time : ℤ) (b : Lumped) (f : Fictitious) → f ≡ fictitious_of dt b → drifts_in f time b ≡ false → AddsTo old (drift_warnings dt time b) old
no_drift-added {old} dt time b f made never = rewritten (none f dt time b never ∙ ap (λ (x : Fictitious). drift_by x dt time b) made) (nothing old)
