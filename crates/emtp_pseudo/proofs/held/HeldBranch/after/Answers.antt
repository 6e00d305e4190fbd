use Rattle.std.proofs.Common.{◌∙◌, ap, Option, Some, option_map, ◌<◌, unsigned_abs, arith, rules, FitsSigned}
use mir.Syntax.{w64, w128}
use Rattle.std.proofs.lemmas.Int.{ints, to_z-of_z}
use Rattle.emtp_case.specs.declared.branch.PseudoState.{PseudoState}
use Rattle.emtp_pseudo.specs.Moment.{moment_at}
use Rattle.emtp_pseudo.specs.declared.moment.Moment.{Moment}
use Rattle.emtp_pseudo.proofs.Holding.{after_within}
use Rattle.emtp_pseudo.proofs.held.HeldBranch.after.Goals as goal

pub with-requires-clause-within : goal.with-requires-clause-within
with-requires-clause-within c = after_within c.args.case.now.parts c.args.self.now.card c.args.self.now _ c.in_ok-state.state.segment c.requires.card c.requires.held c.in_ok-state.ensures.segment

pub with-requires-clause-moment : goal.with-requires-clause-moment
with-requires-clause-moment c =
    let v : FitsSigned w128 c.args.v = c.ranges.v in
    let within : unsigned_abs c.in_ok-state.state.segment < c.args.self.now.card.count = after_within c.args.case.now.parts c.args.self.now.card c.args.self.now _ c.in_ok-state.state.segment c.requires.card c.requires.held c.in_ok-state.ensures.segment in
    record {
      current = c.in_ok-state.ensures.current;
      segment = omega (arith, within, c.requires.card.few);
      flux = c.in_ok-state.ensures.flux;
      voltage = omega (arith, ints, c.requires.v);
    }

pub returns-clause-value : goal.returns-clause-value
returns-clause-value c =
    let v : FitsSigned w128 c.args.v = c.ranges.v in
    let dt : FitsSigned w64 c.args.case.now.parts.run.dt = search rules in
    let moment = simp to_z-of_z at c.with.ensures.moment in
    let value = simp to_z-of_z at c.in_ok-state.ensures.value in
    ap (λ (m : Moment). Some m) moment ∙ ap (λ (o : Option PseudoState). option_map (moment_at c.args.v) o) value

pub returns-in_err-state-clause-value : goal.returns-in_err-state-clause-value
returns-in_err-state-clause-value c =
    let v : FitsSigned w128 c.args.v = c.ranges.v in
    let dt : FitsSigned w64 c.args.case.now.parts.run.dt = search rules in
    let value = simp to_z-of_z at c.in_err-state.ensures.value in
    rw c.from_residual.ensures (ap (λ (o : Option PseudoState). option_map (moment_at c.args.v) o) value)

pub next-requires-clause-segment : goal.next-requires-clause-segment
next-requires-clause-segment c = c.requires.held.sound

pub next-requires-clause-old : goal.next-requires-clause-old
next-requires-clause-old c = c.requires.held.moment

pub next-requires-clause-history : goal.next-requires-clause-history
next-requires-clause-history c = let kept : FitsSigned w128 c.args.self.now.history_current = search rules in to_z-of_z w128 c.args.self.now.history_current kept ∙ c.requires.held.history

pub next-requires-clause-small : goal.next-requires-clause-small
next-requires-clause-small c = omega (arith, ints, c.requires.held.history_small)

pub next-requires-clause-v : goal.next-requires-clause-v
next-requires-clause-v c = omega (arith, ints, c.requires.v)

pub with-requires-clause-card : goal.with-requires-clause-card
with-requires-clause-card c = c.requires.card

pub with-requires-clause-held : goal.with-requires-clause-held
with-requires-clause-held c = c.requires.held

pub returns-clause-held : goal.returns-clause-held
returns-clause-held c = c.with.ensures.held

pub returns-in_err-state-clause-held : goal.returns-in_err-state-clause-held
returns-in_err-state-clause-held c = rw c.from_residual.ensures tt
