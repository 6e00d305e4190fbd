-- Time and measuring switches don't see signs.
use Rattle.std.proofs.Common.{◌≡◌, ◌∙◌, ◌&&◌, ◌||◌, ℕ, zero, suc, ℤ, pos, negsuc, neg_ℤ, int_le, int_lt, nat_le, unsigned_abs, if◌then◌else◌, Bool, true, false, List, [], ◌∷◌, map, length, Option, refl, ap, arith}
use Rattle.std.specs.List.{All, range_with_len}
use Rattle.std.proofs.Math.Path.{fun_ext}
use Rattle.std.proofs.lemmas.Bool.Decides.{nat_tests}
use Rattle.std.proofs.lemmas.List.{length-map}
use Rattle.std.proofs.lemmas.List.Elements.{All-head, All-tail}
use Rattle.emtp_case.specs.RunData.{time_of}
use Rattle.emtp_case.specs.StepRecord.{StepRecord, latest, record_back, switch_current_at, switch_state_at}
use Rattle.emtp_case.specs.declared.case.Parts.{Parts}
use Rattle.emtp_case.specs.declared.switch.Switch.{Switch}
use Rattle.emtp_case.specs.declared.switch.SwitchKind.{SwitchKind}
use Rattle.emtp_case.specs.declared.switch.SwitchKind.TheVariants.{Control, Measuring, Time, Valve}
use Rattle.emtp_case.specs.declared.switch.SwitchState.{SwitchState}
use Rattle.emtp_case.specs.declared.switch.SwitchState.TheVariants.{Closed, Opened, Waiting}
use Rattle.emtp_switch.specs.Groups.{switch_at}
use Rattle.emtp_switch.specs.States.{breaker_state, interrupts, is_due, next_state, next_states, oppose, state_after, view_of}
use Rattle.emtp_laws.specs.Mirror.{HasNoSign, is_plain_kind, mirror_image, mirrored_bare, bare_records}
use Rattle.emtp_laws.proofs.MirroredRecords.{back}
use Rattle.emtp_elim.proofs.Opposites.{abs_neg, item_turned}

above : (a : ℤ) → int_lt (neg_ℤ a) (pos 0) ≡ int_lt (pos 0) a
above (pos zero) = refl
above (pos (suc n)) = grind (arith, nat_tests)
above (negsuc n) = grind (arith, nat_tests)

below : (a : ℤ) → int_lt (pos 0) (neg_ℤ a) ≡ int_lt a (pos 0)
below (pos zero) = refl
below (pos (suc n)) = grind (arith, nat_tests)
below (negsuc n) = grind (arith, nat_tests)

or_turned : (x y : Bool) → x || y ≡ y || x
or_turned true true = refl
or_turned true false = refl
or_turned false true = refl
or_turned false false = refl

oppose_same : (a b : ℤ) → oppose (neg_ℤ a) (neg_ℤ b) ≡ oppose a b
oppose_same a b =
    ap (λ x. x && int_lt (pos 0) (neg_ℤ b) || int_lt (pos 0) (neg_ℤ a) && int_lt (neg_ℤ b) (pos 0)) (above a)
    ∙ ap (λ x. int_lt (pos 0) a && x || int_lt (pos 0) (neg_ℤ a) && int_lt (neg_ℤ b) (pos 0)) (below b)
    ∙ ap (λ x. int_lt (pos 0) a && int_lt b (pos 0) || x && int_lt (neg_ℤ b) (pos 0)) (below a)
    ∙ ap (λ x. int_lt (pos 0) a && int_lt b (pos 0) || int_lt a (pos 0) && x) (above b)
    ∙ or_turned (int_lt (pos 0) a && int_lt b (pos 0)) (int_lt a (pos 0) && int_lt (pos 0) b)

interrupts_same : (margin a b x y : ℤ) → x ≡ neg_ℤ a → y ≡ neg_ℤ b → interrupts margin x y ≡ interrupts margin a b
interrupts_same margin a b x y e h =
    ap (λ z. interrupts margin z y) e ∙ ap (interrupts margin (neg_ℤ a)) h
    ∙ ap (λ n. nat_le n (unsigned_abs margin) || oppose (neg_ℤ a) (neg_ℤ b)) (abs_neg a)
    ∙ ap (λ o. nat_le (unsigned_abs a) (unsigned_abs margin) || o) (oppose_same a b)

-- a breaker sees the time, and its current without sign
breaker_same : (close : ℤ) (open_at : Option ℤ) (margin : ℤ) (case : Parts) (H : List StepRecord) (x : Switch) (s : ℕ) (state : SwitchState)
    → breaker_state close open_at margin (view_of (mirror_image case) (bare_records H) x s) state ≡ breaker_state close open_at margin (view_of case H x s) state
breaker_same close open_at margin case H x s Waiting = ap (λ n. if int_le close (time_of case.run n) then Closed else Waiting) (length-map H mirrored_bare)
breaker_same close open_at margin case H x s Closed =
    ap (λ n. if is_due open_at (time_of case.run n) && interrupts margin (switch_current_at s (latest (bare_records H))) (switch_current_at s (record_back (bare_records H) 1)) then Opened else Closed) (length-map H mirrored_bare)
    ∙ ap (λ b. if is_due open_at (time_of case.run (length H)) && b then Opened else Closed)
    (interrupts_same margin (switch_current_at s (latest H)) (switch_current_at s (record_back H 1)) _ _
    (ap (switch_current_at s) (back H 0) ∙ item_turned (latest H).switch_currents s)
    (ap (switch_current_at s) (back H 1) ∙ item_turned (record_back H 1).switch_currents s))
breaker_same close open_at margin case H x s Opened = refl

after_same : (k : SwitchKind) (case : Parts) (H : List StepRecord) (x : Switch) (s : ℕ) (state : SwitchState) → is_plain_kind k ≡ true
    → state_after k (view_of (mirror_image case) (bare_records H) x s) state ≡ state_after k (view_of case H x s) state
after_same (Time close open_at margin) case H x s state plain = breaker_same close open_at margin case H x s state
after_same Measuring case H x s state plain = refl
after_same (Valve ignition holding control) case H x s state plain = absurd (cc)
after_same (Control control) case H x s state plain = absurd (cc)

plain_at : (switches : List Switch) → All (λ (s : Switch). is_plain_kind s.kind ≡ true) switches → (s : ℕ) → is_plain_kind (switch_at switches s).kind ≡ true
plain_at [] all s = refl
plain_at (x ∷ switches) all zero = All-head (λ (s : Switch). is_plain_kind s.kind ≡ true) x switches all
plain_at (x ∷ switches) all (suc s) = plain_at switches (All-tail (λ (s : Switch). is_plain_kind s.kind ≡ true) x switches all) s

next_same : (case : Parts) (H : List StepRecord) → HasNoSign case → (s : ℕ) → next_state (mirror_image case) (bare_records H) s ≡ next_state case H s
next_same case H plain s =
    let x = switch_at case.switches s in
    ap (λ (r : StepRecord). state_after x.kind (view_of (mirror_image case) (bare_records H) x s) (switch_state_at s r)) (back H 0)
    ∙ after_same x.kind case H x s (switch_state_at s (latest H)) (plain_at case.switches plain.switches s)

pub states_same : (case : Parts) (H : List StepRecord) → HasNoSign case → next_states (mirror_image case) (bare_records H) ≡ next_states case H
states_same case H plain = ap (λ (f : ℕ → SwitchState). map f (range_with_len 0 (length case.switches))) (fun_ext (next_same case H plain))
