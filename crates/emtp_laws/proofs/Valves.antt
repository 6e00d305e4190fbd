-- Valves in the steps and the records of a run.
use Rattle.std.proofs.Common.{◌≡◌, ◌∙◌, ◌⊎◌, ◌↔◌, ◌&&◌, ◌<◌, ◌<ℤ◌, ◌≤ℤ◌, ℕ, ℤ, pos, int_lt, int_le, if◌then◌else◌, Bool, true, false, List, [], ◌∷◌, length, slice_index_or, Ok, refl, ap, sym, subst, inl, inr, arith}
use Rattle.std.proofs.lemmas.Bool.{true≢false}
use Rattle.std.proofs.lemmas.Int.{ints}
use Rattle.std.proofs.lemmas.List.FromFn.{get_or-map-range_with_len}
use Rattle.emtp_case.specs.StepRecord.{StepRecord, latest, switch_state_at}
use Rattle.emtp_case.specs.declared.case.Parts.{Parts}
use Rattle.emtp_case.specs.declared.switch.SwitchKind.{SwitchKind}
use Rattle.emtp_case.specs.declared.switch.SwitchKind.TheVariants.{Valve}
use Rattle.emtp_case.specs.declared.switch.SwitchState.{SwitchState}
use Rattle.emtp_case.specs.declared.switch.SwitchState.TheVariants.{Closed, Opened, Waiting}
use Rattle.emtp_machine.proofs.Chains.{chain}
use Rattle.emtp_machine.specs.Laws.{records_upto}
use Rattle.emtp_machine.specs.held.Laws.{IsChain}
use Rattle.emtp_machine.specs.Next.{next}
use Rattle.emtp_net.specs.Part.{NetworkPart}
use Rattle.emtp_switch.specs.Groups.{switch_at}
use Rattle.emtp_switch.specs.States.{control_of, is_on, next_state, next_states, state_after, valve_state, view_of}
use Rattle.emtp_switch.specs.declared.states.View.{View}
use Rattle.emtp_laws.specs.Switches.{GoValvesRightly, GoesByItsNumbers, GoesRightly}
use Rattle.emtp_laws.proofs.SolvedSteps.{next_made, step_solved}

-- ---- its rule

less : (a b : ℤ) → int_lt a b ≡ true → a <ℤ b
less a b e = grind (arith, ints)

not_less : (a b : ℤ) → int_lt a b ≡ false → b ≤ℤ a
not_less a b e = grind (arith, ints)

at_most : (a b : ℤ) → int_le a b ≡ true → a ≤ℤ b
at_most a b e = grind (arith, ints)

not_at_most : (a b : ℤ) → int_le a b ≡ false → b <ℤ a
not_at_most a b e = grind (arith, ints)

holds_by : (current holding : ℤ) → ((if int_lt current holding then Opened else Closed) ≡ Closed) ↔ (holding ≤ℤ current)
holds_by current holding = go (int_lt current holding) refl
  where
    go : (t : Bool) → int_lt current holding ≡ t → ((if t then Opened else Closed) ≡ Closed) ↔ (holding ≤ℤ current)
    go true e = (λ closed. absurd (cc), λ least. absurd (omega (arith, ints, less current holding e, least)))
    go false e = (λ closed. not_less current holding e, λ least. refl)

fires_by : (ignition voltage : ℤ) (on : Bool) → ((if int_lt (pos 0) voltage && int_le ignition voltage && on then Closed else Opened) ≡ Closed) ↔ ((pos 0 <ℤ voltage) × (ignition ≤ℤ voltage) × (on ≡ true))
fires_by ignition voltage on = go (int_lt (pos 0) voltage) (int_le ignition voltage) on refl refl
  where
    go : (a b c : Bool) → int_lt (pos 0) voltage ≡ a → int_le ignition voltage ≡ b → ((if a && b && c then Closed else Opened) ≡ Closed) ↔ ((pos 0 <ℤ voltage) × (ignition ≤ℤ voltage) × (c ≡ true))
    go true true true e f = (λ closed. (less (pos 0) voltage e, at_most ignition voltage f, refl), λ all. refl)
    go true true false e f = (λ closed. absurd (cc), λ all. absurd (true≢false (sym all.2)))
    go true false c e f = (λ closed. absurd (cc), λ all. absurd (omega (arith, ints, not_at_most ignition voltage f, all.1)))
    go false b c e f = (λ closed. absurd (cc), λ all. absurd (omega (arith, ints, not_less (pos 0) voltage e, all.0)))

either : (t : Bool) → ((if t then Opened else Closed) ≡ Closed) ⊎ ((if t then Opened else Closed) ≡ Opened)
either true = inr refl
either false = inl refl

or_else : (t : Bool) → ((if t then Closed else Opened) ≡ Closed) ⊎ ((if t then Closed else Opened) ≡ Opened)
or_else true = inl refl
or_else false = inr refl

goes : (ignition holding : ℤ) (seen : View) (before : SwitchState) → GoesByItsNumbers ignition holding seen.voltage seen.current seen.on before (valve_state ignition holding seen before)
goes ignition holding seen Closed = record {
  holds = λ closed. holds_by seen.current holding;
  fires = λ off. absurd (true≢false off);
  opens = either (int_lt seen.current holding);
}
goes ignition holding seen Opened = record {
  holds = λ closed. absurd (true≢false (sym closed));
  fires = λ off. fires_by ignition seen.voltage seen.on;
  opens = or_else (int_lt (pos 0) seen.voltage && int_le ignition seen.voltage && seen.on);
}
goes ignition holding seen Waiting = record {
  holds = λ closed. absurd (true≢false (sym closed));
  fires = λ off. fires_by ignition seen.voltage seen.on;
  opens = or_else (int_lt (pos 0) seen.voltage && int_le ignition seen.voltage && seen.on);
}

pub step_goes : (case : Parts) (H : List StepRecord) (s : ℕ) → GoesRightly case s (latest H) (next_state case H s)
step_goes case H s ignition holding control kind =
    subst (λ (k : SwitchKind). GoesByItsNumbers ignition holding seen.voltage seen.current (is_on control (latest H)) (switch_state_at s (latest H)) (state_after k (by k) (switch_state_at s (latest H))))
    (sym kind) (goes ignition holding (by (Valve ignition holding control)) (switch_state_at s (latest H)))
  where
    seen : View
    seen = view_of case H (switch_at case.switches s) s

    by : SwitchKind → View
    by k = record (view_of case H (switch_at case.switches s) s) { on = is_on (control_of k) (latest H) }

-- ---- a run

-- the state of a switch in a record is that of its rule
state_is : (case : Parts) (H : List StepRecord) (r : StepRecord) (k : ℕ) → next case H ≡ Ok r → k < length case.switches → next_state case H k ≡ switch_state_at k r
state_is case H r k is inside =
    let from = next_made case H r is in
    let states : r.switch_states ≡ next_states case H = ap (λ (p : NetworkPart). p.switch_states) from.is ∙ (step_solved case H from.part from.made).states in
    sym (ap (λ ss. slice_index_or ss k Waiting) states ∙ get_or-map-range_with_len (next_state case H) 0 (length case.switches) k k Waiting inside (omega arith))

chain_goes : (case : Parts) (H : List StepRecord) → IsChain case H → GoValvesRightly case H
chain_goes case [] is = tt
chain_goes case (r ∷ []) is = tt
chain_goes case (r ∷ s ∷ past) is = λ k inside. subst (GoesRightly case k s) (state_is case (s ∷ past) r k is.0 inside) (step_goes case (s ∷ past) k)

pub run_goes : (case : Parts) (n : ℕ) → GoValvesRightly case (records_upto case n)
run_goes case n = chain_goes case (records_upto case n) (chain case n)
