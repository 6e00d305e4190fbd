use Rattle.std.proofs.Common.{◌≡◌, ◌∙◌, ◌<◌, sym, ap, length, refl, not, slice_get, arith, inl, inr}
use Rattle.std.proofs.lemmas.Bool.{cases_lt}
use Rattle.emtp_case.proofs.Places.{first_at, first_none}
use Rattle.emtp_admittance.specs.Admittances.{port_at}
use Rattle.emtp_phasor.specs.Steady.{flows}
use Rattle.emtp_phasor.proofs.Flowing.{flow_read, not_true, not_false}
use Rattle.emtp_phasor.proofs.flow.first_out.Goals as goal

pub returns-then-not-flows-clause-value : goal.returns-then-not-flows-clause-value
returns-then-not-flows-clause-value c =
    let case = c.args.case.now.parts in
    let at = c.loop-at.at in
    let there : at < length case.branches = omega (arith, c.loop-at-test.true, ap length c.as_slice-branches.ensures) in
    let here = flow_read case c.args.ports.now c.args.volts.now c.as_slice-branches.result.now at _ _ _ _ _ c.as_slice-branches.ensures there (omega (arith, there, c.requires.ports)) refl refl c.flows.ensures in
    sym (first_at (λ b. not (flows (port_at c.args.ports.now b) c.args.volts.now (slice_get case.branches b))) (length case.branches) at there (λ b below. not_true _ (c.loop-at.invariant b below)) (not_false _ (sym here ∙ c.if-not-flows.true)))

pub loop-at-preserved : goal.loop-at-preserved
loop-at-preserved c = λ b below.
    let case = c.args.case.now.parts in
    let at = c.loop-at.at in
    let there : at < length case.branches = omega (arith, c.loop-at-test.true, ap length c.as_slice-branches.ensures) in
    let here = flow_read case c.args.ports.now c.args.volts.now c.as_slice-branches.result.now at _ _ _ _ _ c.as_slice-branches.ensures there (omega (arith, there, c.requires.ports)) refl refl c.flows.ensures in
    elim (cases_lt b at) [
      | inl before ↦ c.loop-at.invariant b before
      | inr later ↦
          let same : b ≡ at = omega (arith, later, below) in
          rw same (sym here ∙ c.if-not-flows.false)
    ]

pub returns-clause-value : goal.returns-clause-value
returns-clause-value c =
    let case = c.args.case.now.parts in
    sym (first_none (λ b. not (flows (port_at c.args.ports.now b) c.args.volts.now (slice_get case.branches b))) (length case.branches) (λ b below. not_true _ (c.loop-at.invariant b (omega (arith, below, c.loop-at-test.false, ap length c.as_slice-branches.ensures)))))
