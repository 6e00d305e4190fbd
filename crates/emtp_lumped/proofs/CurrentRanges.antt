-- The current that a series branch keeps of a step is in range.
use Rattle.std.proofs.Common.{ℤ, Some, IfSome}
use Rattle.emtp_case.specs.declared.branch.LumpedState.{LumpedState}
use Rattle.emtp_fix.proofs.Ranges.{IsSmall, chain-all, chain-any, in_range-within}
use Rattle.emtp_fix.specs.Limit.{in_range, ◌>>=◌}
use Rattle.emtp_lumped.specs.Step.{capacitor_voltage_of, current_of, history_voltage_of, inductor_voltage_of, next_state}
use Rattle.emtp_lumped.specs.declared.companion.Companion.{Companion}

pub current_small : (c : Companion) (old : LumpedState) (v : ℤ) → IfSome (next_state c old v) (λ s. IsSmall s.current)
unfolding next_state
current_small c old v =
    let Q : LumpedState → Type 0 = λ s. IsSmall s.current in
    chain-all IsSmall Q (in_range (current_of c old v))
    (λ i. in_range (inductor_voltage_of c old i) >>= (λ l. in_range (capacitor_voltage_of c old i) >>= (λ k. in_range (history_voltage_of c i l k) >>= (λ e. Some (record { current = i; v_l = l; v_c = k; history_voltage = e })))))
    (in_range-within (current_of c old v))
    (λ i small. chain-any Q (in_range (inductor_voltage_of c old i)) (λ l. in_range (capacitor_voltage_of c old i) >>= (λ k. in_range (history_voltage_of c i l k) >>= (λ e. Some (record { current = i; v_l = l; v_c = k; history_voltage = e }))))
    (λ l. chain-any Q (in_range (capacitor_voltage_of c old i)) (λ k. in_range (history_voltage_of c i l k) >>= (λ e. Some (record { current = i; v_l = l; v_c = k; history_voltage = e })))
    (λ k. chain-any Q (in_range (history_voltage_of c i l k)) (λ e. Some (record { current = i; v_l = l; v_c = k; history_voltage = e })) (λ e. small))))
