use Rattle.emtp_devices.proofs.Resting.{rest_are_held, rest_stands_for}
use Rattle.emtp_devices.proofs.devices.Devices.open.Goals as goal

pub invariant_of-result : goal.invariant_of-result
invariant_of-result c = rest_are_held c.args.case.now.parts c.in_ok-held.held.items c.args.case.now.fits c.in_ok-held.ensures

pub returns-clause-stands : goal.returns-clause-stands
returns-clause-stands c = rest_stands_for c.args.case.now.parts c.in_ok-held.held.items c.in_ok-held.ensures
