-- A resistor takes power, and never gives it.
use Rattle.std.proofs.Common.{◌≡◌, ◌∙◌, suc, ℤ, pos, negsuc, neg_ℤ, ◌*ℤ◌, ◌≤ℤ◌, Option, Some, None, IfSome, refl, ap, sym, subst, arith}
use Rattle.std.proofs.Math.IntN.{*ℤ_comm}
use Rattle.std.proofs.lemmas.Int.{ints}
use Rattle.emtp_case.specs.declared.branch.LumpedState.{LumpedState}
use Rattle.emtp_fix.proofs.Quotients.{near-mul_neg, near-nonneg, near-times_zero}
use Rattle.emtp_fix.proofs.Ranges.{chain-any, in_range-is}
use Rattle.emtp_fix.proofs.Wide.{mul_neg}
use Rattle.emtp_fix.specs.Limit.{in_range, ◌>>=◌}
use Rattle.emtp_fix.specs.Rounding.{near}
use Rattle.emtp_fix.specs.declared.limit.TheConstants.{PICO}
use Rattle.emtp_lumped.specs.held.Companion.{IsCompanion}
use Rattle.emtp_lumped.specs.Step.{capacitor_voltage_of, current_of, history_voltage_of, inductor_voltage_of, next_state}
use Rattle.emtp_lumped.specs.held.Step.{HasNoHistory}
use Rattle.emtp_lumped.specs.declared.companion.Companion.{Companion}

product_nonneg : (a b : ℤ) → pos 0 ≤ℤ a → pos 0 ≤ℤ b → pos 0 ≤ℤ (a *ℤ b)
product_nonneg (pos a) (pos b) p q = omega (arith, ints)
product_nonneg (pos a) (negsuc b) p q = absurd (omega (arith, ints, q))
product_nonneg (negsuc a) b p q = absurd (omega (arith, ints, p))

-- a conductance takes power at either sign of the voltage
pub takes_power : (g v : ℤ) → pos 0 ≤ℤ g → pos 0 ≤ℤ (v *ℤ near (g *ℤ v) PICO)
takes_power g (pos v) low =
    let some : pos 0 ≤ℤ near (g *ℤ pos v) PICO = near-nonneg (g *ℤ pos v) PICO (product_nonneg g (pos v) low (omega (arith, ints))) (omega (arith, ints)) in
    product_nonneg (pos v) (near (g *ℤ pos v) PICO) (omega (arith, ints)) some
takes_power g (negsuc v) low =
    let w : ℤ = pos (suc v) in
    let some : pos 0 ≤ℤ near (g *ℤ w) PICO = near-nonneg (g *ℤ w) PICO (product_nonneg g w low (omega (arith, ints))) (omega (arith, ints)) in
    let turned : near (g *ℤ negsuc v) PICO ≡ neg_ℤ (near (g *ℤ w) PICO) = near-mul_neg g w PICO in
    let same : negsuc v *ℤ near (g *ℤ negsuc v) PICO ≡ w *ℤ near (g *ℤ w) PICO =
    ap (λ y. negsuc v *ℤ y) turned ∙ mul_neg (negsuc v) (near (g *ℤ w) PICO) ∙ ap neg_ℤ (*ℤ_comm (neg_ℤ w) (near (g *ℤ w) PICO) ∙ mul_neg (near (g *ℤ w) PICO) w ∙ ap neg_ℤ (*ℤ_comm (near (g *ℤ w) PICO) w)) ∙ twice (w *ℤ near (g *ℤ w) PICO) in
    subst (λ z. pos 0 ≤ℤ z) (sym same) (product_nonneg w (near (g *ℤ w) PICO) (omega (arith, ints)) some)
  where
    twice : (x : ℤ) → neg_ℤ (neg_ℤ x) ≡ x
    twice x = omega (arith, ints)

-- the current of what is kept is that of the rule
kept_current : (c : Companion) (old : LumpedState) (v : ℤ) (o : Option ℤ) (f : ℤ → Option LumpedState) → ((i : ℤ) → IfSome (f i) (λ (s : LumpedState). s.current ≡ i)) → in_range (current_of c old v) ≡ o → IfSome (o >>= f) (λ (s : LumpedState). s.current ≡ current_of c old v)
kept_current c old v None f each is = tt
kept_current c old v (Some i) f each is = weaker (f i) (each i) (in_range-is (current_of c old v) i is)
  where
    weaker : (o : Option LumpedState) → IfSome o (λ (s : LumpedState). s.current ≡ i) → i ≡ current_of c old v → IfSome o (λ (s : LumpedState). s.current ≡ current_of c old v)
    weaker None h e = tt
    weaker (Some s) h e = h ∙ e

-- what is kept with a current
abbrev kept_with : Companion → LumpedState → ℤ → ℤ → ℤ → ℤ → LumpedState
kept_with c old i v_l v_c e = record { current = i; v_l = v_l; v_c = v_c; history_voltage = e }

abbrev HasCurrent : ℤ → LumpedState → Type 0
HasCurrent i s = s.current ≡ i

after_capacitor : (c : Companion) (old : LumpedState) (i v_l v_c : ℤ) → IfSome (in_range (history_voltage_of c i v_l v_c) >>= (λ e. Some (kept_with c old i v_l v_c e))) (HasCurrent i)
after_capacitor c old i v_l v_c = chain-any (HasCurrent i) (in_range (history_voltage_of c i v_l v_c)) (λ e. Some (kept_with c old i v_l v_c e)) (λ e. refl)

after_inductor : (c : Companion) (old : LumpedState) (i v_l : ℤ) → IfSome (in_range (capacitor_voltage_of c old i) >>= (λ v_c. in_range (history_voltage_of c i v_l v_c) >>= (λ e. Some (kept_with c old i v_l v_c e)))) (HasCurrent i)
after_inductor c old i v_l = chain-any (HasCurrent i) (in_range (capacitor_voltage_of c old i)) (λ v_c. in_range (history_voltage_of c i v_l v_c) >>= (λ e. Some (kept_with c old i v_l v_c e))) (after_capacitor c old i v_l)

abbrev after : Companion → LumpedState → ℤ → Option LumpedState
after c old i = in_range (inductor_voltage_of c old i) >>= (λ v_l. in_range (capacitor_voltage_of c old i) >>= (λ v_c. in_range (history_voltage_of c i v_l v_c) >>= (λ e. Some (kept_with c old i v_l v_c e))))

pub next_current : (c : Companion) (old : LumpedState) (v : ℤ) → IfSome (next_state c old v) (λ (s : LumpedState). s.current ≡ current_of c old v)
unfolding next_state
next_current c old v =
    kept_current c old v (in_range (current_of c old v)) (after c old) (λ i. chain-any (HasCurrent i) (in_range (inductor_voltage_of c old i)) (λ v_l. in_range (capacitor_voltage_of c old i) >>= (λ v_c. in_range (history_voltage_of c i v_l v_c) >>= (λ e. Some (kept_with c old i v_l v_c e)))) (after_inductor c old i)) refl

pub resistor_takes : (c : Companion) (old : LumpedState) (v : ℤ) → IsCompanion c → HasNoHistory old → IfSome (next_state c old v) (λ (s : LumpedState). pos 0 ≤ℤ (v *ℤ s.current))
resistor_takes c old v ranges none = weaker (next_state c old v) (next_current c old v)
  where
    alone : current_of c old v ≡ near (c.conductance *ℤ v) PICO
    alone = let nothing : near (c.conductance *ℤ old.history_voltage) PICO ≡ pos 0 = ap (λ e. near (c.conductance *ℤ e) PICO) none.no_history ∙ near-times_zero c.conductance PICO in omega (arith, ints, nothing)

    weaker : (o : Option LumpedState) → IfSome o (λ (s : LumpedState). s.current ≡ current_of c old v) → IfSome o (λ (s : LumpedState). pos 0 ≤ℤ (v *ℤ s.current))
    weaker None h = tt
    weaker (Some s) h = subst (λ i. pos 0 ≤ℤ (v *ℤ i)) (sym (h ∙ alone)) (takes_power c.conductance v ranges.conductance.least)
