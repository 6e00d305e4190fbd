use Rattle.std.proofs.Common.{sym, ap, subst}
use Rattle.emtp_phasor.specs.held.Ending.{EndsAlways}
use Rattle.emtp_phasor.specs.held.Opening.{IsClosed, IsTiedBy}
use Rattle.emtp_phasor.specs.Steady.{ending_at}
use Rattle.emtp_machine.specs.declared.end.Cause.TheVariants.{Tied}
use Rattle.emtp_phasor.proofs.Steadying.{steady_tied}
use Rattle.emtp_phasor.proofs.resting_network.stop_of.Goals as goal

pub returns-in-Tied : goal.returns-in-Tied
returns-in-Tied c =
    let case = c.args.case.now.parts in
    let tied : IsTiedBy case c.in-Tied.switch = subst (IsClosed case) c.in-Tied.is c.requires in
    let ends : EndsAlways case (ending_at c.switch_name.result Tied) = record {
      is = λ freq. steady_tied case freq c.in-Tied.switch (ending_at c.switch_name.result Tied) tied.is (ap (λ n. ending_at n Tied) c.switch_name.ensures.value);
      node = c.switch_name.ensures.node;
    } in
    subst (EndsAlways case) (sym c.ending_at.ensures) ends
