-- Sources of the control whose value the card gives.
use Rattle.std.proofs.Common.{◌≡◌, sym, subst, refl, ℕ, ℤ, List, Result, Ok, Err}
use Rattle.std.specs.Option.{ForSome}
use Rattle.std.specs.Prelude.{IfOk}
use Rattle.emtp_fix.specs.declared.limit.TheConstants.{LARGEST_TIME}
use Rattle.emtp_card.specs.declared.fault.Fault.{Fault}
use Rattle.emtp_card.specs.declared.reason.Why.{Why}
use Rattle.emtp_case.specs.held.Range.{IsBetween}
use Rattle.emtp_case.specs.declared.source.Shape.{Shape}
use Rattle.emtp_case.specs.declared.source.Shape.TheVariants.{Cosine, Pulse, Saw, Step}
use Rattle.emtp_netcards.proofs.Readings.{each_of, made_of}
use Rattle.emtp_netcards.specs.Reading.{both, in_column}
use Rattle.emtp_netcards.specs.held.Reading.{judged}
use Rattle.emtp_netcards.specs.SourceCard.{active_times}
use Rattle.emtp_netcards.specs.held.Fields.{IsSmall}
use Rattle.emtp_taccards.specs.TacsSourceCard.{Course, Times, cosine_of, driven, level_of, pulse_of, saw_of, value_of}
use Rattle.emtp_taccards.specs.held.TacsSourceCard.{IsDriven, IsSignal}
use Rattle.emtp_taccards.specs.declared.tacs_source_card.Signal.{Signal}
use Rattle.emtp_taccards.specs.declared.tacs_source_card.Signal.TheVariants.{Cosine as CosineSignal, Level, NodeVoltage as OfNode, Pulse as PulseSignal, Saw as SawSignal, SwitchCurrent as OfSwitch, SwitchStatus as StatusOfSwitch}

-- a course that the card gives, with the times of its card
pub driven_signal : (course : Result Course Fault) (times : Result Times Fault) → IfOk course IsDriven → IfOk times (λ t. IsSmall t.0) → IfOk times (λ t. ForSome t.1 (IsBetween 1 LARGEST_TIME))
    → IfOk (both course times) (λ signal. IsSignal signal.0 signal.1)
driven_signal (Ok course) (Ok times) given start stop = record { small = given.small; start = start; stop = stop; shape = given.shape; numbers = λ s a b c. given.numbers s }
driven_signal (Ok course) (Err f) given start stop = tt
driven_signal (Err f) (Ok times) given start stop = tt
driven_signal (Err f) (Err g) given start stop = tt

-- ---- the shape that a type gives

abbrev as_level : ℤ → Course
as_level amplitude = (Step, amplitude)

abbrev as_cosine : ℤ × (ℤ × ℤ) → Course
as_cosine p = (Cosine p.1.0 p.1.1, p.0)

abbrev as_pulse : ℤ × (ℤ × ℤ) → Course
as_pulse p = (Pulse p.1.0 p.1.1, p.0)

abbrev as_saw : ℤ × ℤ → Course
as_saw p = (Saw p.1, p.0)

abbrev Of : (Shape → Type 0) → Course → Type 0
Of P course = P course.0

of_level : (P : Shape → Type 0) (Q : Type 0) (line : List ℕ) (course : Course) → level_of line ≡ Ok course → P course.0 → (P Step → Q) → Q
unfolding level_of
of_level P Q line course e h so = made_of Q _ as_level course e (λ x read same. so (subst (Of P) (sym same) h))

of_cosine : (P : Shape → Type 0) (Q : Type 0) (line : List ℕ) (course : Course) → cosine_of line ≡ Ok course → P course.0 → ((freq phase : ℤ) → P (Cosine freq phase) → Q) → Q
unfolding cosine_of
of_cosine P Q line course e h so = made_of Q _ as_cosine course e (λ x read same. so x.1.0 x.1.1 (subst (Of P) (sym same) h))

of_pulse : (P : Shape → Type 0) (Q : Type 0) (line : List ℕ) (course : Course) → pulse_of line ≡ Ok course → P course.0 → ((period width : ℤ) → P (Pulse period width) → Q) → Q
unfolding pulse_of
of_pulse P Q line course e h so = made_of Q _ as_pulse course e (λ x read same. so x.1.0 x.1.1 (subst (Of P) (sym same) h))

of_saw : (P : Shape → Type 0) (Q : Type 0) (line : List ℕ) (course : Course) → saw_of line ≡ Ok course → P course.0 → ((period : ℤ) → P (Saw period) → Q) → Q
unfolding saw_of
of_saw P Q line course e h so = made_of Q _ as_saw course e (λ x read same. so x.1 (subst (Of P) (sym same) h))

-- the course of a source that its card drives
course_of : (line : List ℕ) (course : Result Course Fault) (value : Course × Times) → driven line course ≡ Ok value → course ≡ Ok value.0
course_of line course value e = (each_of course (active_times line) value e).0

-- two cards of one type have the same value, if what gives the shape of the first is the same of both
pub same_by_shape : (x y : List ℕ) (P : Shape → Type 0) → (P Step → driven x (level_of x) ≡ driven y (level_of y)) → ((freq phase : ℤ) → P (Cosine freq phase) → driven x (cosine_of x) ≡ driven y (cosine_of y))
    → ((period width : ℤ) → P (Pulse period width) → driven x (pulse_of x) ≡ driven y (pulse_of y)) → ((period : ℤ) → P (Saw period) → driven x (saw_of x) ≡ driven y (saw_of y))
    → (type : Result Signal Why) (value : Course × Times) → judged (in_column 1 type) (value_of x) ≡ Ok value → P value.0.0 → judged (in_column 1 type) (value_of x) ≡ judged (in_column 1 type) (value_of y)
same_by_shape x y P level cosine pulse saw (Ok Level) value e h = of_level P _ x value.0 (course_of x (level_of x) value e) h level
same_by_shape x y P level cosine pulse saw (Ok CosineSignal) value e h = of_cosine P _ x value.0 (course_of x (cosine_of x) value e) h cosine
same_by_shape x y P level cosine pulse saw (Ok PulseSignal) value e h = of_pulse P _ x value.0 (course_of x (pulse_of x) value e) h pulse
same_by_shape x y P level cosine pulse saw (Ok SawSignal) value e h = of_saw P _ x value.0 (course_of x (saw_of x) value e) h saw
same_by_shape x y P level cosine pulse saw (Ok OfNode) value e h = refl
same_by_shape x y P level cosine pulse saw (Ok OfSwitch) value e h = refl
same_by_shape x y P level cosine pulse saw (Ok StatusOfSwitch) value e h = refl
same_by_shape x y P level cosine pulse saw (Err why) value e h = refl
