-- The chain of a step, link by link.
use Rattle.std.proofs.Common.{◌≡◌, ◌∙◌, ap, refl, ℤ, pos, ◌+ℤ◌, ◌-ℤ◌, ◌*ℤ◌, Option, Some, arith}
use Rattle.std.proofs.lemmas.Int.{ints}
use Rattle.emtp_case.specs.StepRecord.{no_lumped}
use Rattle.emtp_case.specs.declared.branch.LumpedState.{LumpedState}
use Rattle.emtp_fix.specs.Limit.{in_range, ◌>>=◌}
use Rattle.emtp_fix.specs.Rounding.{near}
use Rattle.emtp_fix.specs.declared.limit.TheConstants.{MICRO, PICO}
use Rattle.emtp_fix.proofs.Quotients.{near-times_zero, near-zero_times}
use Rattle.emtp_fix.proofs.Ranges.{in_range-chain}
use Rattle.emtp_lumped.specs.declared.companion.Companion.{Companion}
use Rattle.emtp_lumped.specs.held.Companion.{IsResistor}
use Rattle.emtp_lumped.specs.Step.{current_of, inductor_voltage_of, capacitor_voltage_of, history_voltage_of, next_state}
use Rattle.emtp_lumped.specs.held.Step.{HasNoHistory, current_alone}

-- the chain with its four links given
abbrev linked : ℤ → (ℤ → ℤ) → (ℤ → ℤ) → (ℤ → ℤ → ℤ → ℤ) → Option LumpedState
linked i v_l v_c e = do
  i ← in_range i
  l ← in_range (v_l i)
  c ← in_range (v_c i)
  h ← in_range (e i l c)
  Some (record { current = i; v_l = l; v_c = c; history_voltage = h })

-- where all links after a current give 0, the current is kept alone
alone : (i j : ℤ) (v_l v_c : ℤ → ℤ) (e : ℤ → ℤ → ℤ → ℤ) → i ≡ j → v_l j ≡ pos 0 → v_c j ≡ pos 0 → e j (pos 0) (pos 0) ≡ pos 0 → linked i v_l v_c e ≡ current_alone j
alone i j v_l v_c e is no_l no_c no_e =
    ap (λ z. linked z v_l v_c e) is
    ∙ in_range-chain j
    (λ k. in_range (v_l k) >>= (λ l. in_range (v_c k) >>= (λ c. in_range (e k l c) >>= (λ h. Some (record { current = k; v_l = l; v_c = c; history_voltage = h })))))
    (λ k. Some (record { current = k; v_l = pos 0; v_c = pos 0; history_voltage = pos 0 }))
    (rw (no_l, no_c, no_e) refl)

-- at rest and with no voltage nothing moves
pub rest_stays : (c : Companion) → next_state c no_lumped (pos 0) ≡ Some no_lumped
unfolding next_state
rest_stays c =
    alone (current_of c no_lumped (pos 0)) (pos 0) (inductor_voltage_of c no_lumped) (capacitor_voltage_of c no_lumped) (history_voltage_of c)
    (ap (λ z. z +ℤ z) (near-times_zero c.conductance PICO))
    (ap (λ z. z -ℤ pos 0) (near-times_zero c.inductor MICRO))
    (ap (λ z. pos 0 +ℤ z) (near-times_zero c.capacitor MICRO))
    (ap (λ z. pos 0 +ℤ z) (near-times_zero (c.inductor -ℤ c.capacitor) MICRO))

-- the current of a resistor is that of its conductance, whatever current was before
pub resistor_forgets : (c : Companion) (old : LumpedState) (v : ℤ) → IsResistor c → HasNoHistory old → next_state c old v ≡ current_alone (near (c.conductance *ℤ v) PICO)
unfolding next_state
resistor_forgets c old v plain none =
    let i = near (c.conductance *ℤ v) PICO in
    let past : near (c.conductance *ℤ old.history_voltage) PICO ≡ pos 0 = rw none.no_history (near-times_zero c.conductance PICO) in
    let v_l : near (c.inductor *ℤ (i -ℤ old.current)) MICRO ≡ pos 0 = rw plain.no_inductor (near-zero_times (i -ℤ old.current) MICRO) in
    let v_c : near (c.capacitor *ℤ (i +ℤ old.current)) MICRO ≡ pos 0 = rw plain.no_capacitor (near-zero_times (i +ℤ old.current) MICRO) in
    let e : near ((c.inductor -ℤ c.capacitor) *ℤ i) MICRO ≡ pos 0 = rw (plain.no_inductor, plain.no_capacitor) (near-zero_times i MICRO) in
    alone (current_of c old v) i (inductor_voltage_of c old) (capacitor_voltage_of c old) (history_voltage_of c)
    (omega (arith, ints, past))
    (omega (arith, ints, v_l, none.no_v_l))
    (omega (arith, ints, v_c, none.no_v_c))
    (omega (arith, ints, e))
