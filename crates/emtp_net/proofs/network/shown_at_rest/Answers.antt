use Rattle.std.proofs.Common.{◌≡◌, ◌∙◌, ap, length, arith}
use Rattle.std.specs.Vec.{with_items}
use Rattle.std.proofs.lemmas.List.{with_items_is}
use Rattle.emtp_net.proofs.Resting.{nothing_made}
use Rattle.emtp_net.proofs.network.shown_at_rest.Goals as goal

marked : (c : goal.After-closed-3-1) → (with_items c.in_ok-closed.closed c.write_closed.new.out).items ≡ c.write_closed.new.out
marked c = with_items_is c.in_ok-closed.closed c.write_closed.new.out (c.write_closed.auto.out ∙ c.deref_mut.ensures.len)

pub returns-clause-closed : goal.returns-clause-closed
returns-clause-closed c = marked c ∙ c.write_closed.ensures

pub returns-clause-count : goal.returns-clause-count
returns-clause-count c = omega (arith, ap length (marked c), c.write_closed.auto.out, c.deref_mut.ensures.len, c.in_ok-closed.ensures.len, c.len-4.ensures)

pub returns-in_err-voltages : goal.returns-in_err-voltages
returns-in_err-voltages c =
    let r = c.from_residual in
    record {
      voltages = nothing_made _ _ r.result r.ensures.1;
      currents = nothing_made _ _ r.result r.ensures.1;
      switch_currents = nothing_made _ _ r.result r.ensures.1;
      closed = nothing_made _ _ r.result r.ensures.1;
      count = nothing_made _ _ r.result r.ensures.1;
    }

pub returns-in_err-currents : goal.returns-in_err-currents
returns-in_err-currents c =
    let r = c.from_residual-in_err-currents in
    record {
      voltages = nothing_made _ _ r.result r.ensures.1;
      currents = nothing_made _ _ r.result r.ensures.1;
      switch_currents = nothing_made _ _ r.result r.ensures.1;
      closed = nothing_made _ _ r.result r.ensures.1;
      count = nothing_made _ _ r.result r.ensures.1;
    }

pub returns-in_err-switch_currents : goal.returns-in_err-switch_currents
returns-in_err-switch_currents c =
    let r = c.from_residual-in_err-switch_currents in
    record {
      voltages = nothing_made _ _ r.result r.ensures.1;
      currents = nothing_made _ _ r.result r.ensures.1;
      switch_currents = nothing_made _ _ r.result r.ensures.1;
      closed = nothing_made _ _ r.result r.ensures.1;
      count = nothing_made _ _ r.result r.ensures.1;
    }

pub returns-in_err-closed : goal.returns-in_err-closed
returns-in_err-closed c =
    let r = c.from_residual-in_err-closed in
    record {
      voltages = nothing_made _ _ r.result r.ensures.1;
      currents = nothing_made _ _ r.result r.ensures.1;
      switch_currents = nothing_made _ _ r.result r.ensures.1;
      closed = nothing_made _ _ r.result r.ensures.1;
      count = nothing_made _ _ r.result r.ensures.1;
    }
