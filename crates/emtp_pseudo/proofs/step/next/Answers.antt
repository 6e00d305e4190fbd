use Rattle.std.proofs.Common.{◌∙◌, FitsSigned, arith, rules}
use mir.Syntax.{w64, w128}
use Rattle.std.proofs.lemmas.Int.{ints, to_z-of_z}
use Rattle.emtp_pseudo.specs.Step.{next_state}
use Rattle.emtp_pseudo.proofs.step.next.Goals as goal

pub current-requires-clause-segment : goal.current-requires-clause-segment
current-requires-clause-segment c = c.requires.segment

pub current-requires-clause-history : goal.current-requires-clause-history
current-requires-clause-history c = let h : FitsSigned w128 c.args.history = c.ranges.history in to_z-of_z w128 c.args.history h ∙ c.requires.history

pub current-requires-clause-small : goal.current-requires-clause-small
current-requires-clause-small c = omega (arith, ints, c.requires.small)

pub current-requires-clause-v : goal.current-requires-clause-v
current-requires-clause-v c = omega (arith, ints, c.requires.v)

pub flux-requires-clause-dt : goal.flux-requires-clause-dt
flux-requires-clause-dt c = let dt : FitsSigned w64 c.args.dt = c.ranges.dt in rw (to_z-of_z w64 c.args.dt dt) c.requires.dt

pub flux-requires-clause-old : goal.flux-requires-clause-old
flux-requires-clause-old c = c.requires.old

pub flux-requires-clause-v : goal.flux-requires-clause-v
flux-requires-clause-v c = omega (arith, ints, c.requires.v)

pub number_after-segment-requires : goal.number_after-segment-requires
number_after-segment-requires c = c.requires.old

pub returns-in_err-current-clause-value : goal.returns-in_err-current-clause-value
unfolding next_state
returns-in_err-current-clause-value c = search rules

pub returns-in_err-current-clause-current : goal.returns-in_err-current-clause-current
returns-in_err-current-clause-current c = rw c.from_residual.ensures tt

pub returns-in_err-current-clause-flux : goal.returns-in_err-current-clause-flux
returns-in_err-current-clause-flux c = rw c.from_residual.ensures tt

pub returns-in_err-current-clause-segment : goal.returns-in_err-current-clause-segment
returns-in_err-current-clause-segment c = rw c.from_residual.ensures tt

pub returns-in_err-flux-clause-value : goal.returns-in_err-flux-clause-value
unfolding next_state
returns-in_err-flux-clause-value c = search rules

pub returns-in_err-flux-clause-current : goal.returns-in_err-flux-clause-current
returns-in_err-flux-clause-current c = rw c.from_residual-in_err-flux.ensures tt

pub returns-in_err-flux-clause-flux : goal.returns-in_err-flux-clause-flux
returns-in_err-flux-clause-flux c = rw c.from_residual-in_err-flux.ensures tt

pub returns-in_err-flux-clause-segment : goal.returns-in_err-flux-clause-segment
returns-in_err-flux-clause-segment c = rw c.from_residual-in_err-flux.ensures tt

pub returns-clause-value : goal.returns-clause-value
unfolding next_state
returns-clause-value c = search rules

pub returns-clause-current : goal.returns-clause-current
returns-clause-current c = omega (arith, ints, c.in_ok-current.ensures.bound)

pub returns-clause-flux : goal.returns-clause-flux
returns-clause-flux c = omega (arith, ints, c.in_ok-flux.ensures.bound)
