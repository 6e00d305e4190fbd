use Rattle.std.proofs.Common.{◌∙◌, rules}
use Rattle.emtp_devices.proofs.held.HeldDevice.step.Goals as goal

pub returns-in-Some-clause-fits : goal.returns-in-Some-clause-fits
returns-in-Some-clause-fits c = record {
  held = c.push.ensures.fits;
  depth = c.push.ensures.depth ∙ c.requires.held.depth;
  squares = c.push.ensures.sum;
}

pub returns-in-None-clause-same : goal.returns-in-None-clause-same
returns-in-None-clause-same c = search rules
