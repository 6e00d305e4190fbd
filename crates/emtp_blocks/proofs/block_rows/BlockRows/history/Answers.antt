use Rattle.std.proofs.Common.{◌∙◌, sym, ap, subst, All, length, ℕ, List}
use Rattle.emtp_case.specs.held.Control.{AreKnown}
use Rattle.emtp_case.specs.declared.control.BlockState.{BlockState}
use Rattle.emtp_blocks.specs.held.Block.{IsKept}
use Rattle.emtp_blocks.specs.held.BlockRows.{Blocking, StandsAt, StandsFor}
use Rattle.emtp_blocks.specs.System.{right}
use Rattle.emtp_blocks.proofs.Systems.{diagram_seen}
use Rattle.emtp_blocks.proofs.block_rows.BlockRows.history.Goals as goal

pub fill_right-requires-clause-diagram : goal.fill_right-requires-clause-diagram
fill_right-requires-clause-diagram c = diagram_seen c.self.inside.case.now.parts _ _ _ _ c.deref.ensures.value c.deref-2.ensures.value c.self.invariant.diagram

pub fill_right-requires-clause-state_each : goal.fill_right-requires-clause-state_each
fill_right-requires-clause-state_each c = ap length c.deref-3.ensures.value ∙ c.self.invariant.state_each

pub fill_right-requires-clause-states_fit : goal.fill_right-requires-clause-states_fit
fill_right-requires-clause-states_fit c = subst (All IsKept) (sym c.deref-3.ensures.value) c.self.invariant.states_fit

pub fill_right-requires-clause-known : goal.fill_right-requires-clause-known
fill_right-requires-clause-known c = subst (λ (s : Blocking). AreKnown s.case c.args.known.now) (sym c.self.view_is) c.requires.known

pub fill_right-requires-clause-rhs : goal.fill_right-requires-clause-rhs
fill_right-requires-clause-rhs c = c.requires.rhs ∙ ap (λ (s : Blocking). length s.case.blocks) (sym c.self.view_is)

pub returns-clause-value : goal.returns-clause-value
returns-clause-value c = λ H stands.
    let stood = let P : Blocking → Type 0 = λ s. StandsFor s H in subst P (sym c.self.view_is) stands in
    let Q : List BlockState → Type 0 = λ ks. (i : ℕ) → StandsAt c.self.inside.case.now.parts ks H i in
    c.fill_right.ensures.value H (subst Q (sym c.deref-3.ensures.value) stood.blocks) ∙ ap (λ (s : Blocking). right s.case H c.args.known.now) c.self.view_is

pub returns-clause-small : goal.returns-clause-small
returns-clause-small c = c.fill_right.ensures.small
