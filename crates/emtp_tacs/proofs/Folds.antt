-- The folds over cards, one card more.
use Rattle.std.proofs.Common.{◌≡◌, ◌≢◌, ◌∙◌, sym, ap, subst, refl, inl, inr, ℕ, zero, suc, ◌+◌, ◌<◌, ◌≤◌, ℤ, nat_lt, Bool, true, false, ◌&&◌, ◌||◌, if◌then◌else◌, unsigned_abs, List, ◌∷◌, length, slice_get, slice_set, Option, Some, None, Result, Ok, Err, FitsSigned, to_z, of_z, add-one, arith}
use mir.Syntax.{w64, w128}
use Rattle.std.proofs.Math.ListN.{length-set}
use Rattle.std.proofs.lemmas.Bool.{cases_eq, cases_lt, false≢true}
use Rattle.std.proofs.lemmas.Bool.Decides.{nat_tests}
use Rattle.std.proofs.lemmas.Int.{to_z-of_z}
use Rattle.std.proofs.lemmas.List.{get_or-set_same, get_or-set_other}
use Rattle.std.proofs.lemmas.List.Elements.{All-set}
use Rattle.std.proofs.lemmas.Option.{slice_get_within}
use Rattle.emtp_case.specs.held.Control.{AreKnown, var_of}
use Rattle.emtp_case.specs.StepRecord.{StepRecord, no_device}
use Rattle.emtp_case.specs.declared.case.Parts.{Parts}
use Rattle.emtp_case.specs.declared.control.Device.{Device}
use Rattle.emtp_case.specs.declared.control.DeviceState.{DeviceState}
use Rattle.emtp_case.specs.declared.control.Extra.{Extra}
use Rattle.emtp_case.specs.declared.control.Extra.TheVariants.{Device as OfDevice, Formula as OfFormula}
use Rattle.emtp_case.specs.declared.control.Formula.{Formula}
use Rattle.emtp_case.specs.declared.control.Group.{Group}
use Rattle.emtp_case.specs.declared.control.Group.TheVariants.{Input, Inside, Output}
use Rattle.emtp_case.specs.declared.source.Source.{Source}
use Rattle.emtp_devices.specs.Device.{next_state}
use Rattle.emtp_devices.specs.Devices.{states_of}
use Rattle.emtp_devices.specs.held.Devices.{HasMoved, HeldDevices, IsDeviceAt, Moves, StandsAt}
use Rattle.emtp_fix.specs.Limit.{in_range}
use Rattle.emtp_fix.specs.declared.limit.OutOfRange.{OutOfRange}
use Rattle.emtp_fix.specs.declared.limit.TheConstants.{LARGEST_VALUE}
use Rattle.emtp_tacs.specs.held.Stages.{IsSoFar, Reaches, is_done, is_done_by, past_of}
use Rattle.emtp_fix.specs.Chain.{◌>>=◌}
use Rattle.emtp_tacs.specs.Step.{Measured, SoFar, device_by, extra_at, extra_by, extra_of, formula_value, group_of, in_turn, is_in_pass, range_fault, source_at, source_by, source_value, written}
use Rattle.emtp_tacs.specs.declared.fault.TacsFault.{TacsFault}

-- ---- values

pub known-set : (case : Parts) (values : List ℤ) (var : ℕ) (y : ℤ) → unsigned_abs y ≤ LARGEST_VALUE → AreKnown case values → AreKnown case (slice_set values var y)
known-set case values var y small known = record {
  one_each = length-set values var y ∙ known.one_each;
  small = All-set (λ (v : ℤ). unsigned_abs v ≤ LARGEST_VALUE) values var y small known.small;
}

-- a number of 64 bits, in 128
pub wide_is : (z : ℤ) → FitsSigned w64 z → to_z w128 (of_z w128 z) ≡ z
wide_is z fits =
    let wide : FitsSigned w128 z = record { sfits = omega (arith, fits.sfits) } in
    to_z-of_z w128 z wide

-- ---- cards in turn

pub in_turn_more : (f : ℕ → SoFar → Result SoFar TacsFault) (n : ℕ) (s t : SoFar) → in_turn f n s ≡ Ok t → in_turn f (n + 1) s ≡ f n t
in_turn_more f n s t is = rw add-one (ap (λ d. d >>= f n) is)

-- a fault stays
pub in_turn_ends : (f : ℕ → SoFar → Result SoFar TacsFault) (n m : ℕ) (s : SoFar) (fault : TacsFault) → n ≤ m → in_turn f n s ≡ Err fault → in_turn f m s ≡ Err fault
in_turn_ends f n zero s fault below is =
    let e : n ≡ 0 = omega arith in
    subst (λ k. in_turn f k s ≡ Err fault) e is
in_turn_ends f n (suc m) s fault below is = elim (cases_eq n (suc m)) [
  | inl e ↦ subst (λ k. in_turn f k s ≡ Err fault) e is
  | inr ne ↦ ap (λ d. d >>= f m) (in_turn_ends f n m s fault (omega arith) is)
]

-- ---- sources

-- a source more
pub source_written : (case : Parts) (step : ℕ) (m : Measured) (start : SoFar) (values : List ℤ) (devices : List DeviceState) (at : ℕ) (x : Source) (y : ℤ) → slice_get case.tacs_sources at ≡ Some x → in_range (source_value case step m x x.shape) ≡ Some y
    → in_turn (source_at case step m) at start ≡ Ok (record { values = values; devices = devices })
    → in_turn (source_at case step m) (at + 1) start ≡ Ok (record { values = slice_set values x.node y; devices = devices })
source_written case step m start values devices at x y here value so_far =
    let s : SoFar = record { values = values; devices = devices } in
    in_turn_more (source_at case step m) at start s so_far ∙ ap (source_by case step m s) here ∙ ap (written x.node s) value

-- a source out of range
pub source_out : (case : Parts) (step : ℕ) (m : Measured) (start : SoFar) (values : List ℤ) (devices : List DeviceState) (at : ℕ) (x : Source) → slice_get case.tacs_sources at ≡ Some x → in_range (source_value case step m x x.shape) ≡ None
    → in_turn (source_at case step m) at start ≡ Ok (record { values = values; devices = devices })
    → in_turn (source_at case step m) (length case.tacs_sources) start ≡ Err (range_fault x.node)
source_out case step m start values devices at x here value so_far =
    let s : SoFar = record { values = values; devices = devices } in
    let within : at < length case.tacs_sources = slice_get_within case.tacs_sources at x here in
    in_turn_ends (source_at case step m) (at + 1) (length case.tacs_sources) start (range_fault x.node) (omega arith)
    (in_turn_more (source_at case step m) at start s so_far ∙ ap (source_by case step m s) here ∙ ap (written x.node s) value)

-- ---- which cards are done

less : (at n : ℕ) → at < n → nat_lt at n ≡ true
less at n below = grind (arith, nat_tests)

not_less : (at n : ℕ) → n ≤ at → nat_lt at n ≡ false
not_less at n past = grind (arith, nat_tests)

less_other : (n at : ℕ) → at ≢ n → nat_lt at (n + 1) ≡ nat_lt at n
less_other n at ne = elim (cases_lt at n) [
  | inl below ↦ less at (n + 1) (omega arith) ∙ sym (less at n below)
  | inr past ↦ not_less at (n + 1) (omega arith) ∙ sym (not_less at n past)
]

or_true : (b : Bool) → (b || true) ≡ true
or_true true = refl
or_true false = refl

and_false : (b : Bool) → (b && false) ≡ false
and_false true = refl
and_false false = refl

-- a card belongs to one pass
not_early : (g : Group) → is_in_pass false g ≡ true → is_in_pass true g ≡ false
not_early Input is = absurd (false≢true is)
not_early Inside is = refl
not_early Output is = refl

not_late : (g : Group) → is_in_pass false g ≡ false → is_in_pass true g ≡ true
not_late Input is = refl
not_late Inside is = absurd (false≢true (sym is))
not_late Output is = absurd (false≢true (sym is))

-- another card is done where it was
done_other_by : (early : Bool) (n at : ℕ) (e : Option Extra) → at ≢ n → is_done_by early (n + 1) at e ≡ is_done_by early n at e
done_other_by true n at None ne = refl
done_other_by false n at None ne = refl
done_other_by true n at (Some e) ne = ap (λ b. is_in_pass true (group_of e) && b) (less_other n at ne)
done_other_by false n at (Some e) ne = ap (λ b. is_in_pass true (group_of e) || b) (less_other n at ne)

done_other : (case : Parts) (early : Bool) (n at : ℕ) → at ≢ n → is_done case early (n + 1) at ≡ is_done case early n at
done_other case early n at ne = done_other_by early n at (slice_get case.extras at) ne

-- a card of the pass is done after its place, and not before it
done_after : (case : Parts) (early : Bool) (n : ℕ) (e : Extra) → slice_get case.extras n ≡ Some e → is_in_pass early (group_of e) ≡ true → is_done case early (n + 1) n ≡ true
done_after case true n e here in_pass = ap (is_done_by true (n + 1) n) here ∙ ap (λ b. b && nat_lt n (n + 1)) in_pass ∙ less n (n + 1) (omega arith)
done_after case false n e here in_pass = ap (is_done_by false (n + 1) n) here ∙ ap (λ b. is_in_pass true (group_of e) || b) (less n (n + 1) (omega arith)) ∙ or_true (is_in_pass true (group_of e))

not_done_before : (case : Parts) (early : Bool) (n : ℕ) (e : Extra) → slice_get case.extras n ≡ Some e → is_in_pass early (group_of e) ≡ true → is_done case early n n ≡ false
not_done_before case true n e here in_pass = ap (is_done_by true n n) here ∙ ap (λ b. is_in_pass true (group_of e) && b) (not_less n n (omega arith)) ∙ and_false (is_in_pass true (group_of e))
not_done_before case false n e here in_pass = ap (is_done_by false n n) here ∙ ap (λ b. b || nat_lt n n) (not_early (group_of e) in_pass) ∙ not_less n n (omega arith)

-- a card of the other pass is done where it was
done_skipped : (case : Parts) (early : Bool) (n : ℕ) (e : Extra) → slice_get case.extras n ≡ Some e → is_in_pass early (group_of e) ≡ false → is_done case early (n + 1) n ≡ is_done case early n n
done_skipped case true n e here off =
    (ap (is_done_by true (n + 1) n) here ∙ ap (λ b. b && nat_lt n (n + 1)) off) ∙ sym (ap (is_done_by true n n) here ∙ ap (λ b. b && nat_lt n n) off)
done_skipped case false n e here off =
    (ap (is_done_by false (n + 1) n) here ∙ ap (λ b. b || nat_lt n (n + 1)) (not_late (group_of e) off)) ∙ sym (ap (is_done_by false n n) here ∙ ap (λ b. b || nat_lt n n) (not_late (group_of e) off))

-- ---- what the step has so far

-- past a card of the other pass
skipped : (case : Parts) (H : List StepRecord) (early : Bool) (at : ℕ) (values : List ℤ) (held : HeldDevices) (s : SoFar) (e : Extra) → slice_get case.extras at ≡ Some e → is_in_pass early (group_of e) ≡ false
    → IsSoFar case H early at values held s → IsSoFar case H early (at + 1) values held s
skipped case H early at values held s e here off so_far = record {
  values_are = so_far.values_are;
  count = so_far.count;
  devices = λ k x is.
      let same : is_done case early (at + 1) k ≡ is_done case early at k = elim (cases_eq k at) [
        | inl q ↦ subst (λ (j : ℕ). is_done case early (at + 1) j ≡ is_done case early at j) (sym q) (done_skipped case early at e here off)
        | inr ne ↦ done_other case early at k ne
      ] in
      subst (λ d. StandsAt held k (past_of d s.devices H k)) (sym same) (so_far.devices k x is);
}

not_both : (o : Option Extra) (x : Formula) (z : Device) → o ≡ Some (OfFormula x) → o ≡ Some (OfDevice z) → ⊥
not_both o x z a b = cc

-- a formula was computed
formula_done : (case : Parts) (H : List StepRecord) (early : Bool) (at : ℕ) (values : List ℤ) (held : HeldDevices) (s : SoFar) (x : Formula) (y : ℤ) → slice_get case.extras at ≡ Some (OfFormula x)
    → IsSoFar case H early at values held s → IsSoFar case H early (at + 1) (slice_set values x.var y) held (record s { values = slice_set s.values x.var y })
formula_done case H early at values held s x y here so_far = record {
  values_are = ap (λ vs. slice_set vs x.var y) so_far.values_are;
  count = so_far.count;
  devices = λ k z is. elim (cases_eq k at) [
    | inl q ↦ absurd (not_both (slice_get case.extras at) x z here (subst (λ (j : ℕ). IsDeviceAt case j z) q is))
    | inr ne ↦ subst (λ d. StandsAt held k (past_of d s.devices H k)) (sym (done_other case early at k ne)) (so_far.devices k z is)
  ];
}

-- a device moved
device_done : (case : Parts) (H : List StepRecord) (early : Bool) (at : ℕ) (values : List ℤ) (held moved : HeldDevices) (s : SoFar) (x : Device) (d : DeviceState) → slice_get case.extras at ≡ Some (OfDevice x) → is_in_pass early x.group ≡ true
    → StandsAt moved at (d ∷ states_of at H) → ((k : ℕ) (past : List DeviceState) → k ≢ at → StandsAt held k past → StandsAt moved k past)
    → IsSoFar case H early at values held s → IsSoFar case H early (at + 1) (slice_set values x.var d.output) moved (record { values = slice_set s.values x.var d.output; devices = slice_set s.devices at d })
device_done case H early at values held moved s x d here in_pass stands others so_far =
    let within : at < length s.devices = omega (arith, slice_get_within case.extras at (OfDevice x) here, so_far.count) in
    record {
      values_are = ap (λ vs. slice_set vs x.var d.output) so_far.values_are;
      count = length-set s.devices at d ∙ so_far.count;
      devices = λ k z is. elim (cases_eq k at) [
        | inl q ↦ subst (λ (j : ℕ). StandsAt moved j (past_of (is_done case early (at + 1) j) (slice_set s.devices at d) H j)) (sym q)
            (subst (λ b. StandsAt moved at (past_of b (slice_set s.devices at d) H at)) (sym (done_after case early at (OfDevice x) here in_pass))
            (subst (λ (p : DeviceState). StandsAt moved at (p ∷ states_of at H)) (sym (get_or-set_same s.devices at d no_device within)) stands))
        | inr ne ↦ subst (λ b. StandsAt moved k (past_of b (slice_set s.devices at d) H k)) (sym (done_other case early at k ne))
            (subst (λ (p : DeviceState). StandsAt moved k (if is_done case early at k then p ∷ states_of k H else states_of k H)) (sym (get_or-set_other s.devices at k d no_device ne))
            (others k (past_of (is_done case early at k) s.devices H k) ne (so_far.devices k z is)))
      ];
    }

-- ---- the card at a place

formula_reaches : (case : Parts) (H : List StepRecord) (early : Bool) (at : ℕ) (values : List ℤ) (held : HeldDevices) (s : SoFar) (x : Formula) (y : ℤ) → slice_get case.extras at ≡ Some (OfFormula x) → formula_value values x ≡ Some y
    → IsSoFar case H early at values held s → Reaches (Ok tt) case H early (at + 1) (slice_set values x.var y) held (extra_of case H at s (OfFormula x))
formula_reaches case H early at values held s x y here value so_far =
    let is : extra_of case H at s (OfFormula x) ≡ Ok (record s { values = slice_set s.values x.var y }) = ap (written x.var s) (ap (λ vs. formula_value vs x) (sym so_far.values_are) ∙ value) in
    subst (λ (d : Result SoFar TacsFault). Reaches (Ok tt) case H early (at + 1) (slice_set values x.var y) held d) (sym is) (formula_done case H early at values held s x y here so_far)

-- the next state of a device, from what the step has so far
next_is : (case : Parts) (H : List StepRecord) (at step : ℕ) (values : List ℤ) (s : SoFar) (x : Device) (p : Parts) → p ≡ case → step ≡ length H → values ≡ s.values → next_state case x (length H) s.values (states_of at H) ≡ next_state p x step values (states_of at H)
next_is case H at step values s x p same step_is values_are =
    ap (λ n. next_state case x n s.values (states_of at H)) (sym step_is) ∙ ap (λ vs. next_state case x step vs (states_of at H)) (sym values_are) ∙ ap (λ (q : Parts). next_state q x step values (states_of at H)) (sym same)

device_reaches : (case : Parts) (H : List StepRecord) (early : Bool) (at step : ℕ) (values : List ℤ) (held moved : HeldDevices) (s : SoFar) (x : Device) (y : ℤ) → slice_get case.extras at ≡ Some (OfDevice x) → is_in_pass early x.group ≡ true → held.case ≡ case → step ≡ length H
    → Moves held moved at step values (Ok y)
    → IsSoFar case H early at values held s → Reaches (Ok tt) case H early (at + 1) (slice_set values x.var y) moved (extra_of case H at s (OfDevice x))
device_reaches case H early at step values held moved s x y here in_pass same step_is moves so_far =
    let stood : StandsAt held at (states_of at H) = subst (λ b. StandsAt held at (past_of b s.devices H at)) (not_done_before case early at (OfDevice x) here in_pass) (so_far.devices at x here) in
    let m : HasMoved moved at (states_of at H) (next_state held.case x step values (states_of at H)) y = moves.moved x (states_of at H) (subst (λ (p : Parts). IsDeviceAt p at x) (sym same) here) stood in
    let is : extra_of case H at s (OfDevice x) ≡ Ok (record { values = slice_set s.values x.var m.state.output; devices = slice_set s.devices at m.state }) = ap (device_by at x.var s) (next_is case H at step values s x held.case same step_is so_far.values_are ∙ m.is) in
    subst (λ (z : ℤ). Reaches (Ok tt) case H early (at + 1) (slice_set values x.var z) moved (extra_of case H at s (OfDevice x))) (sym m.output)
    (subst (λ (d : Result SoFar TacsFault). Reaches (Ok tt) case H early (at + 1) (slice_set values x.var m.state.output) moved d) (sym is) (device_done case H early at values held moved s x m.state here in_pass m.stands moves.others so_far))

-- the card at a place was computed, whatever it is
pub card_reaches : (case : Parts) (H : List StepRecord) (early : Bool) (at step : ℕ) (values : List ℤ) (held moved : HeldDevices) (s : SoFar) (e : Extra) (var : ℕ) (y : ℤ) → slice_get case.extras at ≡ Some e → is_in_pass early (group_of e) ≡ true → var ≡ var_of e → held.case ≡ case → step ≡ length H
    → ((x : Device) → IsDeviceAt case at x → Moves held moved at step values (Ok y))
    → ((x : Formula) → slice_get case.extras at ≡ Some (OfFormula x) → formula_value values x ≡ Some y)
    → ((x : Formula) → slice_get case.extras at ≡ Some (OfFormula x) → moved ≡ held)
    → IsSoFar case H early at values held s → Reaches (Ok tt) case H early (at + 1) (slice_set values var y) moved (extra_of case H at s e)
card_reaches case H early at step values held moved s (OfDevice x) var y here in_pass var_is same step_is device formula formula_same so_far =
    subst (λ (v : ℕ). Reaches (Ok tt) case H early (at + 1) (slice_set values v y) moved (extra_of case H at s (OfDevice x))) (sym var_is) (device_reaches case H early at step values held moved s x y here in_pass same step_is (device x here) so_far)
card_reaches case H early at step values held moved s (OfFormula x) var y here in_pass var_is same step_is device formula formula_same so_far =
    subst (λ (v : ℕ). Reaches (Ok tt) case H early (at + 1) (slice_set values v y) moved (extra_of case H at s (OfFormula x))) (sym var_is)
    (subst (λ (h : HeldDevices). Reaches (Ok tt) case H early (at + 1) (slice_set values x.var y) h (extra_of case H at s (OfFormula x))) (sym (formula_same x here)) (formula_reaches case H early at values held s x y here (formula x here) so_far))

-- the card at a place is out of range
pub card_out : (case : Parts) (H : List StepRecord) (early : Bool) (at step : ℕ) (values : List ℤ) (held moved : HeldDevices) (s : SoFar) (e : Extra) (var : ℕ) (error : OutOfRange) → slice_get case.extras at ≡ Some e → is_in_pass early (group_of e) ≡ true → var ≡ var_of e → held.case ≡ case → step ≡ length H
    → ((x : Device) → IsDeviceAt case at x → Moves held moved at step values (Err error))
    → ((x : Formula) → slice_get case.extras at ≡ Some (OfFormula x) → formula_value values x ≡ None)
    → IsSoFar case H early at values held s → extra_of case H at s e ≡ Err (range_fault var)
card_out case H early at step values held moved s (OfDevice x) var error here in_pass var_is same step_is device formula so_far =
    let stood : StandsAt held at (states_of at H) = subst (λ b. StandsAt held at (past_of b s.devices H at)) (not_done_before case early at (OfDevice x) here in_pass) (so_far.devices at x here) in
    let out : next_state held.case x step values (states_of at H) ≡ None = (device x here).out x (states_of at H) (subst (λ (p : Parts). IsDeviceAt p at x) (sym same) here) stood in
    ap (device_by at x.var s) (next_is case H at step values s x held.case same step_is so_far.values_are ∙ out) ∙ ap (λ v. Err (range_fault v)) (sym var_is)
card_out case H early at step values held moved s (OfFormula x) var error here in_pass var_is same step_is device formula so_far =
    ap (written x.var s) (ap (λ vs. formula_value vs x) (sym so_far.values_are) ∙ formula x here) ∙ ap (λ v. Err (range_fault v)) (sym var_is)

-- ---- one pass

extra_is : (case : Parts) (H : List StepRecord) (early : Bool) (at : ℕ) (s : SoFar) (e : Extra) (b : Bool) → slice_get case.extras at ≡ Some e → is_in_pass early (group_of e) ≡ b → extra_at case H early at s ≡ (if b then extra_of case H at s e else Ok s)
extra_is case H early at s e b here is = ap (extra_by case H early at s) here ∙ ap (λ c. if c then extra_of case H at s e else Ok s) is

after_card : (case : Parts) (H : List StepRecord) (early : Bool) (at : ℕ) (result : Result (Unit {0}) TacsFault) (before after : List ℤ) (held moved : HeldDevices) (e : Extra) (d : Result SoFar TacsFault) → slice_get case.extras at ≡ Some e → is_in_pass early (group_of e) ≡ true
    → ((s : SoFar) → IsSoFar case H early at before held s → Reaches result case H early (at + 1) after moved (extra_of case H at s e))
    → Reaches (Ok tt) case H early at before held d → Reaches result case H early (at + 1) after moved (d >>= extra_at case H early at)
after_card case H early at result before after held moved e (Ok s) here in_pass step is =
    subst (λ (d : Result SoFar TacsFault). Reaches result case H early (at + 1) after moved d) (sym (extra_is case H early at s e true here in_pass)) (step s is)
after_card case H early at result before after held moved e (Err fault) here in_pass step is = absurd is

-- a card of the pass more
pub pass_more : (case : Parts) (H : List StepRecord) (early : Bool) (at : ℕ) (result : Result (Unit {0}) TacsFault) (before after : List ℤ) (held moved : HeldDevices) (e : Extra) (start : SoFar) → slice_get case.extras at ≡ Some e → is_in_pass early (group_of e) ≡ true
    → ((s : SoFar) → IsSoFar case H early at before held s → Reaches result case H early (at + 1) after moved (extra_of case H at s e))
    → Reaches (Ok tt) case H early at before held (in_turn (extra_at case H early) at start) → Reaches result case H early (at + 1) after moved (in_turn (extra_at case H early) (at + 1) start)
pass_more case H early at result before after held moved e start here in_pass step is =
    let one : at + 1 ≡ suc at = add-one at in
    subst (λ (n : ℕ). Reaches result case H early (at + 1) after moved (in_turn (extra_at case H early) n start)) (sym one)
    (after_card case H early at result before after held moved e (in_turn (extra_at case H early) at start) here in_pass step is)

after_skipped : (case : Parts) (H : List StepRecord) (early : Bool) (at : ℕ) (values : List ℤ) (held : HeldDevices) (e : Extra) (d : Result SoFar TacsFault) → slice_get case.extras at ≡ Some e → is_in_pass early (group_of e) ≡ false
    → Reaches (Ok tt) case H early at values held d → Reaches (Ok tt) case H early (at + 1) values held (d >>= extra_at case H early at)
after_skipped case H early at values held e (Ok s) here off is =
    subst (λ (d : Result SoFar TacsFault). Reaches (Ok tt) case H early (at + 1) values held d) (sym (extra_is case H early at s e false here off)) (skipped case H early at values held s e here off is)
after_skipped case H early at values held e (Err fault) here off is = absurd is

-- a card of the other pass more
pub pass_skips : (case : Parts) (H : List StepRecord) (early : Bool) (at : ℕ) (values : List ℤ) (held : HeldDevices) (e : Extra) (start : SoFar) → slice_get case.extras at ≡ Some e → is_in_pass early (group_of e) ≡ false
    → Reaches (Ok tt) case H early at values held (in_turn (extra_at case H early) at start) → Reaches (Ok tt) case H early (at + 1) values held (in_turn (extra_at case H early) (at + 1) start)
pass_skips case H early at values held e start here off is =
    let one : at + 1 ≡ suc at = add-one at in
    subst (λ (n : ℕ). Reaches (Ok tt) case H early (at + 1) values held (in_turn (extra_at case H early) n start)) (sym one)
    (after_skipped case H early at values held e (in_turn (extra_at case H early) at start) here off is)

ended : (case : Parts) (H : List StepRecord) (early : Bool) (n : ℕ) (values : List ℤ) (held : HeldDevices) (d : Result SoFar TacsFault) (fault : TacsFault) → Reaches (Err fault) case H early n values held d → d ≡ Err fault
ended case H early n values held (Ok s) fault is = absurd is
ended case H early n values held (Err e) fault is = ap Err (sym is)

-- a pass that ended in a fault
pub pass_ends : (case : Parts) (H : List StepRecord) (early : Bool) (n m : ℕ) (values after : List ℤ) (held moved : HeldDevices) (fault : TacsFault) (start : SoFar) → n ≤ m
    → Reaches (Err fault) case H early n values held (in_turn (extra_at case H early) n start) → Reaches (Err fault) case H early m after moved (in_turn (extra_at case H early) m start)
pass_ends case H early n m values after held moved fault start below is =
    subst (λ (d : Result SoFar TacsFault). Reaches (Err fault) case H early m after moved d) (sym (in_turn_ends (extra_at case H early) n m start fault below (ended case H early n values held (in_turn (extra_at case H early) n start) fault is))) refl

-- ---- before the first card

pub none_done : (case : Parts) (at : ℕ) → is_done case true 0 at ≡ false
none_done case at = by_card (slice_get case.extras at)
  where
    by_card : (o : Option Extra) → is_done_by true 0 at o ≡ false
    by_card None = refl
    by_card (Some e) = ap (λ b. is_in_pass true (group_of e) && b) (not_less at 0 (omega arith)) ∙ and_false (is_in_pass true (group_of e))
