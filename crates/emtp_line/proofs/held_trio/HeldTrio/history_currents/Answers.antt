use Rattle.std.proofs.Common.{◌≡◌, ◌∙◌, ap, subst, sym, ℤ, arith, refl}
use Rattle.std.proofs.lemmas.Int.{ints}
use Rattle.emtp_line.specs.held.Held.{IsHeld, phase_held}
use Rattle.emtp_line.specs.declared.held.HeldLine.{HeldLine}
use Rattle.emtp_line.proofs.Trios.{phase_fits}
use Rattle.emtp_line.proofs.held_trio.HeldTrio.history_currents.Goals as goal

pub history_currents-from-requires : goal.history_currents-from-requires
history_currents-from-requires c = subst IsHeld (sym c.phase.ensures) (phase_fits c.args.self.now c.args.phase c.requires.held c.requires.phase)

pub returns-clause-value : goal.returns-clause-value
returns-clause-value c =
    let x = c.args.self.now in
    let h = phase_fits x c.args.phase c.requires.held c.requires.phase in
    let e : ◌≡◌ {A = ℤ × ℤ} c.history_currents-from.result ((phase_held x c.args.phase).waves.from_history, (phase_held x c.args.phase).waves.to_history) = c.history_currents-from.ensures.value ∙ ap (λ (k : HeldLine). (k.waves.from_history, k.waves.to_history)) c.phase.ensures in
    let f : c.history_currents-from.result.0 ≡ (phase_held x c.args.phase).waves.from_history = ap (λ (p : ℤ × ℤ). p.0) e in
    let t : c.history_currents-from.result.1 ≡ (phase_held x c.args.phase).waves.to_history = ap (λ (p : ℤ × ℤ). p.1) e in
    pair (omega (arith, ints, f, c.requires.held.zero_sequence.from_small, h.waves.from_small)) (omega (arith, ints, t, c.requires.held.zero_sequence.to_small, h.waves.to_small))
  where
    pair : {a b a' b' : ℤ} → a ≡ a' → b ≡ b' → ◌≡◌ {A = ℤ × ℤ} (a, b) (a', b')
    pair p q = rw (p, q) refl

pub overflow_add-result : goal.overflow_add-result
overflow_add-result c = omega (arith, ints, c.requires.held.zero_sequence.from_small, c.history_currents-from.ensures.from_bound)

pub overflow_add-result-2 : goal.overflow_add-result-2
overflow_add-result-2 c = omega (arith, ints, c.requires.held.zero_sequence.to_small, c.history_currents-from.ensures.to_bound)

pub returns-clause-from_bound : goal.returns-clause-from_bound
returns-clause-from_bound c =
    let is = ap (λ (p : ℤ × ℤ). p.0) (returns-clause-value c) in
    let h = phase_fits c.args.self.now c.args.phase c.requires.held c.requires.phase in
    omega (arith, ints, is, c.requires.held.zero_sequence.from_small, h.waves.from_small)

pub returns-clause-to_bound : goal.returns-clause-to_bound
returns-clause-to_bound c =
    let is = ap (λ (p : ℤ × ℤ). p.1) (returns-clause-value c) in
    let h = phase_fits c.args.self.now c.args.phase c.requires.held c.requires.phase in
    omega (arith, ints, is, c.requires.held.zero_sequence.to_small, h.waves.to_small)
