use Rattle.std.proofs.Common.{codes, refl}
use Rattle.emtp_listing.specs.Entry.{variable_entry}
use Rattle.emtp_listing.proofs.Loops.{entry-more}
use Rattle.emtp_listing.proofs.extra.put_variables.Goals as goal

pub loop-var-preserved : goal.loop-var-preserved
loop-var-preserved c =
    entry-more (variable_entry (codes "names") c.args.parts.now.vars) c.args.vars.now c.args.vars.now c.loop-var.var-index _ refl c.loop-var-test.true c.loop-var.invariant c.in_ok-put_variable.ensures
