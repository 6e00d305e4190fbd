use Rattle.std.proofs.Common.{◌∙◌, FitsSigned, arith, rules}
use mir.Syntax.{w128}
use Rattle.std.proofs.lemmas.Int.{ints, to_z-of_z}
use Rattle.emtp_lumped.specs.Step.{next_state}
use Rattle.emtp_lumped.proofs.step.next.Goals as goal

pub current-requires-clause-companion : goal.current-requires-clause-companion
current-requires-clause-companion c = c.requires.companion

pub current-requires-clause-old : goal.current-requires-clause-old
current-requires-clause-old c = c.requires.old

pub current-requires-clause-history : goal.current-requires-clause-history
current-requires-clause-history c = let h : FitsSigned w128 c.args.history = c.ranges.history in to_z-of_z w128 c.args.history h ∙ c.requires.history

pub current-requires-clause-v : goal.current-requires-clause-v
current-requires-clause-v c = omega (arith, ints, c.requires.v)

pub inductor_voltage-requires-clause-companion : goal.inductor_voltage-requires-clause-companion
inductor_voltage-requires-clause-companion c = c.requires.companion

pub inductor_voltage-requires-clause-old : goal.inductor_voltage-requires-clause-old
inductor_voltage-requires-clause-old c = c.requires.old

pub inductor_voltage-requires-clause-i : goal.inductor_voltage-requires-clause-i
inductor_voltage-requires-clause-i c = omega (arith, ints, c.in_ok-current.ensures.bound)

pub capacitor_voltage-requires-clause-companion : goal.capacitor_voltage-requires-clause-companion
capacitor_voltage-requires-clause-companion c = c.requires.companion

pub capacitor_voltage-requires-clause-old : goal.capacitor_voltage-requires-clause-old
capacitor_voltage-requires-clause-old c = c.requires.old

pub capacitor_voltage-requires-clause-i : goal.capacitor_voltage-requires-clause-i
capacitor_voltage-requires-clause-i c = omega (arith, ints, c.in_ok-current.ensures.bound)

pub history_voltage-requires-clause-companion : goal.history_voltage-requires-clause-companion
history_voltage-requires-clause-companion c = c.requires.companion

pub history_voltage-requires-clause-i : goal.history_voltage-requires-clause-i
history_voltage-requires-clause-i c = omega (arith, ints, c.in_ok-current.ensures.bound)

pub history_voltage-requires-clause-v_l : goal.history_voltage-requires-clause-v_l
history_voltage-requires-clause-v_l c = omega (arith, ints, c.in_ok-v_l.ensures.bound)

pub history_voltage-requires-clause-v_c : goal.history_voltage-requires-clause-v_c
history_voltage-requires-clause-v_c c = omega (arith, ints, c.in_ok-v_c.ensures.bound)

pub returns-in_err-current-clause-range : goal.returns-in_err-current-clause-range
returns-in_err-current-clause-range c = rw c.from_residual.ensures tt

pub returns-in_err-v_l-clause-range : goal.returns-in_err-v_l-clause-range
returns-in_err-v_l-clause-range c = rw c.from_residual-in_err-v_l.ensures tt

pub returns-in_err-v_c-clause-range : goal.returns-in_err-v_c-clause-range
returns-in_err-v_c-clause-range c = rw c.from_residual-in_err-v_c.ensures tt

pub returns-in_err-history_voltage-clause-range : goal.returns-in_err-history_voltage-clause-range
returns-in_err-history_voltage-clause-range c = rw c.from_residual-in_err-history_voltage.ensures tt

pub returns-in_err-current-clause-value : goal.returns-in_err-current-clause-value
unfolding next_state
returns-in_err-current-clause-value c = search rules

pub returns-in_err-v_l-clause-value : goal.returns-in_err-v_l-clause-value
unfolding next_state
returns-in_err-v_l-clause-value c = search rules

pub returns-in_err-v_c-clause-value : goal.returns-in_err-v_c-clause-value
unfolding next_state
returns-in_err-v_c-clause-value c = search rules

pub returns-in_err-history_voltage-clause-value : goal.returns-in_err-history_voltage-clause-value
unfolding next_state
returns-in_err-history_voltage-clause-value c = search rules

pub returns-clause-value : goal.returns-clause-value
unfolding next_state
returns-clause-value c = search rules

pub returns-clause-range : goal.returns-clause-range
returns-clause-range c = record {
  current = omega (arith, ints, c.in_ok-current.ensures.bound);
  inductor = omega (arith, ints, c.in_ok-v_l.ensures.bound);
  capacitor = omega (arith, ints, c.in_ok-v_c.ensures.bound);
  history = omega (arith, ints, c.in_ok-history_voltage.ensures.bound);
}
