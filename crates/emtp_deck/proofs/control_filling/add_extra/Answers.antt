use Rattle.std.proofs.Common.{◌≡◌, ◌+◌, ◌-◌, ap, arith, drop, length, subst, take, ℕ}
use Rattle.emtp_case.specs.held.Control.{HasDevicePoints}
use Rattle.emtp_case.specs.held.Sizes.{sizes_of}
use Rattle.emtp_deck.proofs.ControlRecords.{device_fits, formula_fits}
use Rattle.emtp_deck.proofs.control_filling.add_extra.Goals as goal

pub add_device-requires-clause-card : goal.add_device-requires-clause-card
add_device-requires-clause-card c =
    let ok = c.in_ok-device-in-Device.ensures.ok in
    let few = rw ok at c.in_ok-device-in-Device.ensures.few in
    let entry = rw c.in-Device.is at c.requires.entry in
    let sensible = rw c.in-Device.is at c.requires.sensible in
    rw ok (device_fits (sizes_of c.args.draft.now.parts) c.args.variables.now.keys c.in-Device.card (ap length c.requires.variables) entry.due sensible few)

pub add_device-requires-clause-points : goal.add_device-requires-clause-points
add_device-requires-clause-points c =
    let ok = c.in_ok-device-in-Device.ensures.ok in
    let entry = rw c.in-Device.is at c.requires.entry in
    let same : c.in-Device.count ≡ c.in-Device.first + c.in-Device.count - c.in-Device.first = omega arith in
    rw ok (subst (λ (n : ℕ). HasDevicePoints c.in-Device.card.code (take n (drop c.in-Device.first c.args.points.now))) same entry.fit)

pub add_formula-requires-clause-fits : goal.add_formula-requires-clause-fits
add_formula-requires-clause-fits c =
    let ok = c.in_ok-formula_of-in-Formula.ensures.ok in
    let entry = rw c.in-Formula.is at c.requires.entry in
    let sensible = rw c.in-Formula.is at c.requires.sensible in
    rw ok (formula_fits (sizes_of c.args.draft.now.parts) c.args.variables.now.keys c.in-Formula.card (ap length c.requires.variables) entry sensible)
