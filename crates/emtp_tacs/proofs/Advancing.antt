-- The stages of a step, one after the other.
use Rattle.std.proofs.Common.{◌≡◌, ◌∙◌, ◌<◌, ◌∷◌, sym, ap, subst, ℕ, ℤ, nat_lt, Bool, true, false, List, length, slice_index_or, ◌&&◌, ◌||◌, Result, Ok, Err, refl, arith}
use Rattle.std.proofs.lemmas.Bool.Decides.{nat_tests}
use Rattle.std.proofs.lemmas.Option.{slice_get_within}
use Rattle.emtp_case.specs.StepRecord.{StepRecord, no_device}
use Rattle.emtp_case.specs.declared.case.Parts.{Parts}
use Rattle.emtp_case.specs.declared.control.Device.{Device}
use Rattle.emtp_case.specs.declared.control.Extra.TheVariants.{Device as OfDevice}
use Rattle.emtp_devices.specs.Devices.{states_of}
use Rattle.emtp_devices.specs.held.Devices.{HeldDevices, IsDeviceAt, StandsAt, StandsFor as DevicesStandFor}
use Rattle.emtp_tacs.specs.Part.{ControlPart}
use Rattle.emtp_fix.specs.Chain.{◌>>=◌}
use Rattle.emtp_tacs.specs.Step.{Measured, SoFar, Solved, blocks, completed, control_step, extras, is_in_pass, known_before}
use Rattle.emtp_blocks.specs.held.BlockRows.{Blocking, StandsFor as BlocksStandFor}
use Rattle.emtp_blocks.specs.System.{matrix}
use Rattle.emtp_tacs.specs.held.Stages.{Advances, HaveMoved, Solves, HoldsVariables, IsSoFar, Reaches, VariablesStandFor, is_done, past_of}
use Rattle.emtp_tacs.specs.declared.block_system.BlockSystem.{BlockSystem}
use Rattle.emtp_tacs.specs.declared.fault.TacsFault.{TacsFault}
use Rattle.emtp_tacs.specs.declared.variables.Variables.{Variables}

-- ---- what a stage of cards answers

-- a stage that was reached: the definition has this, and it is what the step has so far
pub record Reached (case : Parts) (H : List StepRecord) (early : Bool) (n : ℕ) (values : List ℤ) (held : HeldDevices) (defined : Result SoFar TacsFault) : Type 0 where
  pub s : SoFar
  pub is : defined ≡ Ok s
  pub so_far : IsSoFar case H early n values held s

pub reached : (case : Parts) (H : List StepRecord) (early : Bool) (n : ℕ) (values : List ℤ) (held : HeldDevices) (defined : Result SoFar TacsFault) → Reaches (Ok tt) case H early n values held defined → Reached case H early n values held defined
reached case H early n values held (Ok s) is = record { s = s; is = refl; so_far = is }
reached case H early n values held (Err fault) is = absurd is

pub refused : (case : Parts) (H : List StepRecord) (early : Bool) (n : ℕ) (values : List ℤ) (held : HeldDevices) (defined : Result SoFar TacsFault) (e : TacsFault) → Reaches (Err e) case H early n values held defined → defined ≡ Err e
refused case H early n values held (Ok s) e is = absurd is
refused case H early n values held (Err fault) e is = ap Err (sym is)

-- ---- how a step ends

pub known_ends : (case : Parts) (H : List StepRecord) (m : Measured) (e : TacsFault) → known_before case H m ≡ Err e → control_step case H m ≡ Err e
unfolding control_step
known_ends case H m e is = ap (λ d. d >>= (λ known. blocks case H known.values >>= completed case H known)) is

pub blocks_end : (case : Parts) (H : List StepRecord) (m : Measured) (s : SoFar) (e : TacsFault) → known_before case H m ≡ Ok s → blocks case H s.values ≡ Err e → control_step case H m ≡ Err e
unfolding control_step
blocks_end case H m s e known is = ap (λ d. d >>= (λ known. blocks case H known.values >>= completed case H known)) known ∙ ap (λ d. d >>= completed case H s) is

by_solved : (case : Parts) (H : List StepRecord) (m : Measured) (s : SoFar) (t : Solved) → known_before case H m ≡ Ok s → blocks case H s.values ≡ Ok t → control_step case H m ≡ completed case H s t
unfolding control_step
by_solved case H m s t known is = ap (λ d. d >>= (λ known. blocks case H known.values >>= completed case H known)) known ∙ ap (λ d. d >>= completed case H s) is

pub rest_ends : (case : Parts) (H : List StepRecord) (m : Measured) (s : SoFar) (t : Solved) (e : TacsFault) → known_before case H m ≡ Ok s → blocks case H s.values ≡ Ok t → extras case H false (record s { values = t.values }) ≡ Err e → control_step case H m ≡ Err e
rest_ends case H m s t e known solved is =
    by_solved case H m s t known solved ∙ ap (λ d. d >>= (λ (last : SoFar). Ok (record { values = last.values; blocks = t.blocks; devices = last.devices }))) is

pub step_made : (case : Parts) (H : List StepRecord) (m : Measured) (s last : SoFar) (t : Solved) → known_before case H m ≡ Ok s → blocks case H s.values ≡ Ok t → extras case H false (record s { values = t.values }) ≡ Ok last
    → control_step case H m ≡ Ok (record { values = last.values; blocks = t.blocks; devices = last.devices })
step_made case H m s last t known solved is =
    by_solved case H m s t known solved ∙ ap (λ d. d >>= (λ (last : SoFar). Ok (record { values = last.values; blocks = t.blocks; devices = last.devices }))) is

-- ---- devices between the passes

less : (at n : ℕ) → at < n → nat_lt at n ≡ true
less at n below = grind (arith, nat_tests)

none_less : (at : ℕ) → nat_lt at 0 ≡ false
none_less at = grind (arith, nat_tests)

-- what the earlier pass did is done when the later one begins
is_done_between : (case : Parts) (at : ℕ) (x : Device) → IsDeviceAt case at x → is_done case true (length case.extras) at ≡ is_done case false 0 at
is_done_between case at x is =
    rw (is, less at (length case.extras) (slice_get_within case.extras at (OfDevice x) is), none_less at) (by_pass (is_in_pass true x.group))
  where
    by_pass : (b : Bool) → (b && true) ≡ (b || false)
    by_pass true = refl
    by_pass false = refl

-- after both passes all is done
is_done_at_end : (case : Parts) (at : ℕ) (x : Device) → IsDeviceAt case at x → is_done case false (length case.extras) at ≡ true
is_done_at_end case at x is =
    rw (is, less at (length case.extras) (slice_get_within case.extras at (OfDevice x) is)) (by_pass (is_in_pass true x.group))
  where
    by_pass : (b : Bool) → (b || true) ≡ true
    by_pass true = refl
    by_pass false = refl

-- what the step has so far, with the outputs of the blocks
pub between : (case : Parts) (H : List StepRecord) (values outputs : List ℤ) (held : HeldDevices) (s : SoFar) → IsSoFar case H true (length case.extras) values held s → IsSoFar case H false 0 outputs held (record s { values = outputs })
between case H values outputs held s so_far = record {
  values_are = refl;
  count = so_far.count;
  devices = λ at x is. subst (λ d. StandsAt held at (past_of d s.devices H at)) (is_done_between case at x is) (so_far.devices at x is);
}

-- after both passes the devices stand for the records and a further one that keeps what the step has
pub devices_next : (case : Parts) (H : List StepRecord) (values : List ℤ) (held : HeldDevices) (s : SoFar) (r : StepRecord) → held.case ≡ case → IsSoFar case H false (length case.extras) values held s → r.devices ≡ s.devices → DevicesStandFor held (r ∷ H)
devices_next case H values held s r same so_far kept = λ at x there.
    let is : IsDeviceAt case at x = subst (λ (p : Parts). IsDeviceAt p at x) same there in
    let done = subst (λ d. StandsAt held at (past_of d s.devices H at)) (is_done_at_end case at x is) (so_far.devices at x is) in
    subst (λ ds. StandsAt held at (slice_index_or ds at no_device ∷ states_of at H)) (sym kept) done

-- the variables after both passes
pub variables_next : (case : Parts) (H : List StepRecord) (v : Variables) (s : SoFar) (r : StepRecord) → HoldsVariables case v → IsSoFar case H false (length case.extras) v.values.items v.devices s → r.values ≡ s.values → r.devices ≡ s.devices → VariablesStandFor case v (r ∷ H)
variables_next case H v s r holds so_far values devices = record {
  devices = devices_next case H v.values.items v.devices s r holds.devices so_far devices;
  devices_count = ap length devices ∙ so_far.count;
  values = so_far.values_are ∙ sym values;
}

-- ---- what the block system answers

pub record SystemSolved (blocks_after : Blocking) (values : List ℤ) (H : List StepRecord) (defined : Result Solved TacsFault) : Type 0 where
  pub t : Solved
  pub is : defined ≡ Ok t
  pub moved : HaveMoved blocks_after values H t

pub solved : (b : Blocking) (values : List ℤ) (H : List StepRecord) (defined : Result Solved TacsFault) → Solves (Ok tt) b values H defined → SystemSolved b values H defined
solved b values H (Ok t) is = record { t = t; is = refl; moved = is }
solved b values H (Err fault) is = absurd is

pub unsolved : (b : Blocking) (values : List ℤ) (H : List StepRecord) (defined : Result Solved TacsFault) (e : TacsFault) → Solves (Err e) b values H defined → defined ≡ Err e
unsolved b values H (Ok t) e is = absurd is
unsolved b values H (Err fault) e is = ap Err (sym is)

-- ---- the whole step

ends_in : (case : Parts) (H : List StepRecord) (v : Variables) (system : BlockSystem) (m : Measured) (result : Result (Unit {0}) TacsFault) (e : TacsFault) → result ≡ Err e → control_step case H m ≡ Err e → Advances result case H v system (control_step case H m)
ends_in case H v system m result e answered is = subst (λ r. Advances r case H v system (control_step case H m)) (sym answered) (subst (Advances (Err e) case H v system) (sym is) refl)

-- a fault of a card before the blocks
pub known_refused : (case : Parts) (H : List StepRecord) (m : Measured) (n : ℕ) (values : List ℤ) (held : HeldDevices) (e : TacsFault) → Reaches (Err e) case H true n values held (known_before case H m) → control_step case H m ≡ Err e
known_refused case H m n values held e is = known_ends case H m e (refused case H true n values held (known_before case H m) e is)

-- a fault of the blocks
pub blocks_refused : (case : Parts) (H : List StepRecord) (m : Measured) (values seen outputs : List ℤ) (held : HeldDevices) (b : Blocking) (e : TacsFault)
    → seen ≡ values → Reaches (Ok tt) case H true (length case.extras) values held (known_before case H m) → Solves (Err e) b outputs H (blocks case H seen) → control_step case H m ≡ Err e
blocks_refused case H m values seen outputs held b e read known is =
    let r = reached case H true (length case.extras) values held (known_before case H m) known in
    blocks_end case H m r.s e r.is (sym (ap (blocks case H) (read ∙ r.so_far.values_are)) ∙ unsolved b outputs H (blocks case H seen) e is)

-- what the step has so far when the later pass begins, and how it goes on
pub record BlocksDone (case : Parts) (H : List StepRecord) (m : Measured) (b : Blocking) (outputs : List ℤ) (held : HeldDevices) : Type 0 where
  pub s : SoFar
  pub t : Solved
  pub known : known_before case H m ≡ Ok s
  pub solved_is : blocks case H s.values ≡ Ok t
  pub moved : HaveMoved b outputs H t
  pub so_far : IsSoFar case H false 0 outputs held (record s { values = t.values })

pub blocks_done : (case : Parts) (H : List StepRecord) (m : Measured) (values outputs : List ℤ) (held : HeldDevices) (b : Blocking)
    → Reaches (Ok tt) case H true (length case.extras) values held (known_before case H m) → Solves (Ok tt) b outputs H (blocks case H values) → BlocksDone case H m b outputs held
blocks_done case H m values outputs held b known is =
    let r = reached case H true (length case.extras) values held (known_before case H m) known in
    let d = solved b outputs H (blocks case H values) is in
    record {
      s = r.s;
      t = d.t;
      known = r.is;
      solved_is = sym (ap (blocks case H) r.so_far.values_are) ∙ d.is;
      moved = d.moved;
      so_far = subst (λ ys. IsSoFar case H false 0 outputs held (record r.s { values = ys })) d.moved.values_are (between case H values outputs held r.s r.so_far);
    }

-- a fault of a card after the blocks, or none: the step is made
pub advances : (case : Parts) (H : List StepRecord) (m : Measured) (result : Result (Unit {0}) TacsFault) (b : Blocking) (outputs : List ℤ) (held : HeldDevices) (v : Variables) (system : BlockSystem)
    → HoldsVariables case v → system.blocks ≡ b → system.kept.rows ≡ matrix case H → (d : BlocksDone case H m b outputs held)
    → Reaches result case H false (length case.extras) v.values.items v.devices (extras case H false (record d.s { values = d.t.values })) → Advances result case H v system (control_step case H m)
advances case H m (Err e) b outputs held v system holds same kept d rest =
    ends_in case H v system m (Err e) e refl (rest_ends case H m d.s d.t e d.known d.solved_is (refused case H false (length case.extras) v.values.items v.devices _ e rest))
advances case H m (Ok u) b outputs held v system holds same kept d rest =
    let r = reached case H false (length case.extras) v.values.items v.devices _ rest in
    let made = step_made case H m d.s r.s d.t d.known d.solved_is r.is in
    subst (Advances (Ok tt) case H v system) (sym made) (record {
      variables_stand = λ n is. variables_next case H v r.s n holds r.so_far (ap (λ (p : ControlPart). p.values) is) (ap (λ (p : ControlPart). p.devices) is);
      blocks_stand = λ n is. subst (λ (s : Blocking). BlocksStandFor s (n ∷ H)) (sym same) (d.moved.stands n (ap (λ (p : ControlPart). p.blocks) is));
      kept = kept;
    })
