-- A step whose numbers are known to be in range.
use Rattle.std.proofs.Common.{◌≡◌, ◌∙◌, ap, refl, ◌≤◌, ◌+ℤ◌, ◌-ℤ◌, ◌*ℤ◌, ℤ, pos, unsigned_abs, Some, arith}
use Rattle.std.proofs.lemmas.Int.{ints}
use Rattle.emtp_case.specs.declared.branch.LumpedState.{LumpedState}
use Rattle.emtp_fix.specs.Limit.{in_range}
use Rattle.emtp_fix.specs.Rounding.{near}
use Rattle.emtp_fix.specs.declared.limit.TheConstants.{LARGEST_VALUE, MICRO, PICO}
use Rattle.emtp_fix.proofs.Quotients.{near-zero_times}
use Rattle.emtp_fix.proofs.Ranges.{in_range-some}
use Rattle.emtp_lumped.specs.declared.companion.Companion.{Companion}
use Rattle.emtp_lumped.specs.Step.{history_current_of, current_of, inductor_voltage_of, capacitor_voltage_of, history_voltage_of, next_state}

pub next_is : (c : Companion) (old : LumpedState) (v i v_l v_c e : ℤ) → in_range (current_of c old v) ≡ Some i → in_range (inductor_voltage_of c old i) ≡ Some v_l
    → in_range (capacitor_voltage_of c old i) ≡ Some v_c → in_range (history_voltage_of c i v_l v_c) ≡ Some e
    → next_state c old v ≡ Some (record { current = i; v_l = v_l; v_c = v_c; history_voltage = e })
unfolding next_state
next_is c old v i v_l v_c e i_is v_l_is v_c_is e_is = rw (i_is, v_l_is, v_c_is, e_is) refl

-- the same from the sums as they are computed
pub series_next : (c : Companion) (old : LumpedState) (history v i v_l v_c e : ℤ) → history ≡ history_current_of c old
    → in_range (history +ℤ near (c.conductance *ℤ v) PICO) ≡ Some i
    → in_range ((pos 0 -ℤ old.v_l) +ℤ near (c.inductor *ℤ (i -ℤ old.current)) MICRO) ≡ Some v_l
    → in_range (old.v_c +ℤ near (c.capacitor *ℤ (i +ℤ old.current)) MICRO) ≡ Some v_c
    → in_range ((v_l -ℤ v_c) +ℤ near ((c.inductor -ℤ c.capacitor) *ℤ i) MICRO) ≡ Some e
    → next_state c old v ≡ Some (record { current = i; v_l = v_l; v_c = v_c; history_voltage = e })
series_next c old history v i v_l v_c e kept i_is v_l_is v_c_is e_is =
    let i_same : current_of c old v ≡ history +ℤ near (c.conductance *ℤ v) PICO = omega (arith, ints, kept) in
    let v_l_same : inductor_voltage_of c old i ≡ (pos 0 -ℤ old.v_l) +ℤ near (c.inductor *ℤ (i -ℤ old.current)) MICRO = omega (arith, ints) in
    next_is c old v i v_l v_c e (ap in_range i_same ∙ i_is) (ap in_range v_l_same ∙ v_l_is) v_c_is e_is

-- of a branch without capacitance
pub inductive_next : (c : Companion) (old : LumpedState) (history v i v_l e : ℤ) → c.capacitor ≡ pos 0 → unsigned_abs old.v_c ≤ LARGEST_VALUE → history ≡ history_current_of c old
    → in_range (history +ℤ near (c.conductance *ℤ v) PICO) ≡ Some i
    → in_range ((pos 0 -ℤ old.v_l) +ℤ near (c.inductor *ℤ (i -ℤ old.current)) MICRO) ≡ Some v_l
    → in_range ((v_l -ℤ old.v_c) +ℤ near (c.inductor *ℤ i) MICRO) ≡ Some e
    → next_state c old v ≡ Some (record { current = i; v_l = v_l; v_c = old.v_c; history_voltage = e })
inductive_next c old history v i v_l e none small kept i_is v_l_is e_is =
    let product : near (c.capacitor *ℤ (i +ℤ old.current)) MICRO ≡ pos 0 = rw none (near-zero_times (i +ℤ old.current) MICRO) in
    let stays : old.v_c +ℤ near (c.capacitor *ℤ (i +ℤ old.current)) MICRO ≡ old.v_c = omega (arith, ints, product) in
    let z_same : c.inductor -ℤ c.capacitor ≡ c.inductor = omega (arith, ints, none) in
    let e_same : (v_l -ℤ old.v_c) +ℤ near ((c.inductor -ℤ c.capacitor) *ℤ i) MICRO ≡ (v_l -ℤ old.v_c) +ℤ near (c.inductor *ℤ i) MICRO = rw z_same refl in
    series_next c old history v i v_l old.v_c e kept i_is v_l_is (ap in_range stays ∙ in_range-some old.v_c small) (ap in_range e_same ∙ e_is)

-- of a branch without inductance
pub capacitive_next : (c : Companion) (old : LumpedState) (history v i v_c e : ℤ) → c.inductor ≡ pos 0 → unsigned_abs old.v_l ≤ LARGEST_VALUE → history ≡ history_current_of c old
    → in_range (history +ℤ near (c.conductance *ℤ v) PICO) ≡ Some i
    → in_range (old.v_c +ℤ near (c.capacitor *ℤ (i +ℤ old.current)) MICRO) ≡ Some v_c
    → in_range (((pos 0 -ℤ old.v_l) -ℤ v_c) +ℤ near ((pos 0 -ℤ c.capacitor) *ℤ i) MICRO) ≡ Some e
    → next_state c old v ≡ Some (record { current = i; v_l = pos 0 -ℤ old.v_l; v_c = v_c; history_voltage = e })
capacitive_next c old history v i v_c e none small kept i_is v_c_is e_is =
    let product : near (c.inductor *ℤ (i -ℤ old.current)) MICRO ≡ pos 0 = rw none (near-zero_times (i -ℤ old.current) MICRO) in
    let turned : unsigned_abs (pos 0 -ℤ old.v_l) ≤ LARGEST_VALUE = omega (arith, ints, small) in
    let turns : (pos 0 -ℤ old.v_l) +ℤ near (c.inductor *ℤ (i -ℤ old.current)) MICRO ≡ pos 0 -ℤ old.v_l = omega (arith, ints, product) in
    let e_same : ((pos 0 -ℤ old.v_l) -ℤ v_c) +ℤ near ((c.inductor -ℤ c.capacitor) *ℤ i) MICRO ≡ ((pos 0 -ℤ old.v_l) -ℤ v_c) +ℤ near ((pos 0 -ℤ c.capacitor) *ℤ i) MICRO = rw none refl in
    series_next c old history v i (pos 0 -ℤ old.v_l) v_c e kept i_is (ap in_range turns ∙ in_range-some (pos 0 -ℤ old.v_l) turned) v_c_is (ap in_range e_same ∙ e_is)
