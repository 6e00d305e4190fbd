-- One step of a series branch in whole numbers, by the trapezoidal rule.
use Rattle.std.specs.Prelude.{◌+ℤ◌, ◌-ℤ◌, ◌*ℤ◌, ℤ, Option, Some}
use Rattle.emtp_case.specs.declared.branch.LumpedState.{LumpedState}
use Rattle.emtp_fix.specs.Limit.{in_range, ◌>>=◌}
use Rattle.emtp_fix.specs.Rounding.{near}
use Rattle.emtp_fix.specs.declared.limit.TheConstants.{MICRO, PICO}
use Rattle.emtp_lumped.specs.declared.companion.Companion.{Companion}

-- J = g*e', the history current of the next step
abbrev pub history_current_of : Companion → LumpedState → ℤ
history_current_of c old = near (c.conductance *ℤ old.history_voltage) PICO

-- i = g*v + J
abbrev pub current_of : Companion → LumpedState → ℤ → ℤ
current_of c old v = near (c.conductance *ℤ v) PICO +ℤ history_current_of c old

-- vL = zL*(i - i') - vL'
abbrev pub inductor_voltage_of : Companion → LumpedState → ℤ → ℤ
inductor_voltage_of c old i = near (c.inductor *ℤ (i -ℤ old.current)) MICRO -ℤ old.v_l

-- vC = vC' + zC*(i + i')
abbrev pub capacitor_voltage_of : Companion → LumpedState → ℤ → ℤ
capacitor_voltage_of c old i = old.v_c +ℤ near (c.capacitor *ℤ (i +ℤ old.current)) MICRO

-- e = vL - vC + (zL - zC)*i
abbrev pub history_voltage_of : Companion → ℤ → ℤ → ℤ → ℤ
history_voltage_of c i v_l v_c = (v_l -ℤ v_c) +ℤ near ((c.inductor -ℤ c.capacitor) *ℤ i) MICRO

-- what the next record keeps at a branch voltage; none where one of the numbers is out of range
unfoldable pub next_state : Companion → LumpedState → ℤ → Option LumpedState
next_state c old v = do
  i ← in_range (current_of c old v)
  v_l ← in_range (inductor_voltage_of c old i)
  v_c ← in_range (capacitor_voltage_of c old i)
  e ← in_range (history_voltage_of c i v_l v_c)
  Some (record { current = i; v_l = v_l; v_c = v_c; history_voltage = e })
