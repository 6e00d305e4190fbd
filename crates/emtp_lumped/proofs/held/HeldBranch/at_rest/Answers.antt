use Rattle.emtp_lumped.proofs.Holding.{rest-held}
use Rattle.emtp_lumped.proofs.held.HeldBranch.at_rest.Goals as goal

pub returns-clause-held : goal.returns-clause-held
returns-clause-held c = rest-held c.args.companion c.requires
