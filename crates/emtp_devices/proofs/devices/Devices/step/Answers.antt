use Rattle.std.proofs.Common.{◌∙◌, ap, sym, subst, get_or, slice_set, List, arith}
use Rattle.emtp_case.specs.held.Control.{IsDevice}
use Rattle.emtp_case.specs.held.Sizes.{sizes_of}
use Rattle.emtp_case.specs.declared.control.Device.{Device}
use Rattle.emtp_case.specs.declared.control.Extra.{Extra}
use Rattle.emtp_devices.specs.held.Devices.{HeldDevices, Moves}
use Rattle.emtp_devices.specs.held.Held.{IsHeldOf}
use Rattle.emtp_devices.specs.declared.held.HeldDevice.{HeldDevice}
use Rattle.emtp_devices.proofs.Holding.{at_seen, capacities-set, card_fits, card_is, held_fits, held_read, held_set, moves, ring_kept, shown, there}
use Rattle.emtp_devices.proofs.devices.Devices.step.Goals as goal

pub index_mut-requires : goal.index_mut-requires
index_mut-requires c =
    let case = c.self.inside.case.now.parts in
    let held = c.self.inside.held.items in
    let x = c.requires.device.0 in
    let at = at_seen case held c.args.self.now c.args.extra x c.self.view_is c.requires.device.1 in
    omega (arith, there case held c.args.extra x c.self.invariant at, c.self.inside.held.ok.0)

pub step-requires-clause-device : goal.step-requires-clause-device
step-requires-clause-device c =
    let case = c.self.inside.case.now.parts in
    let held = c.self.inside.held.items in
    let x = c.requires.device.0 in
    let at = at_seen case held c.args.self.now c.args.extra x c.self.view_is c.requires.device.1 in
    let e = c.index-as_slice-extra.result in
    let card = card_is case held c.args.self.now c.args.extra x c.in-Device.device e c.self.view_is c.requires.device.1 (c.index-as_slice-extra.is ∙ ap (λ (es : List Extra). get_or es c.args.extra e) c.as_slice.ensures) c.in-Device.is in
    subst (IsDevice (sizes_of case) case.points) (sym card) (card_fits case c.args.extra x c.self.inside.case.now.fits at)

pub step-requires-clause-held : goal.step-requires-clause-held
step-requires-clause-held c =
    let case = c.self.inside.case.now.parts in
    let held = c.self.inside.held.items in
    let x = c.requires.device.0 in
    let at = at_seen case held c.args.self.now c.args.extra x c.self.view_is c.requires.device.1 in
    let e = c.index-as_slice-extra.result in
    let card = card_is case held c.args.self.now c.args.extra x c.in-Device.device e c.self.view_is c.requires.device.1 (c.index-as_slice-extra.is ∙ ap (λ (es : List Extra). get_or es c.args.extra e) c.as_slice.ensures) c.in-Device.is in
    subst (λ (y : Device). IsHeldOf case.run.dt y c.index_mut.result.now) (sym card) (held_fits case held c.args.extra x c.index_mut.result.now c.self.invariant at c.index_mut.ensures.value)

pub invariant_of-self : goal.invariant_of-self
invariant_of-self c =
    let case = c.self.inside.case.now.parts in
    let held = c.self.inside.held.items in
    let x = c.requires.device.0 in
    let at = at_seen case held c.args.self.now c.args.extra x c.self.view_is c.requires.device.1 in
    let e = c.index-as_slice-extra.result in
    let card = card_is case held c.args.self.now c.args.extra x c.in-Device.device e c.self.view_is c.requires.device.1 (c.index-as_slice-extra.is ∙ ap (λ (es : List Extra). get_or es c.args.extra e) c.as_slice.ensures) c.in-Device.is in
    held_set case held c.args.extra x c.step.new.self c.self.invariant at (subst (λ (y : Device). IsHeldOf case.run.dt y c.step.new.self) card c.step.ensures.fits)

pub returns-clause-moves : goal.returns-clause-moves
returns-clause-moves c =
    let case = c.self.inside.case.now.parts in
    let held = c.self.inside.held.items in
    let x = c.requires.device.0 in
    let at = at_seen case held c.args.self.now c.args.extra x c.self.view_is c.requires.device.1 in
    let e = c.index-as_slice-extra.result in
    let card = card_is case held c.args.self.now c.args.extra x c.in-Device.device e c.self.view_is c.requires.device.1 (c.index-as_slice-extra.is ∙ ap (λ (es : List Extra). get_or es c.args.extra e) c.as_slice.ensures) c.in-Device.is in
    let left : HeldDevices = shown case c.self.inside.held.cap (slice_set held c.args.extra c.step.new.self) in
    let moved = rw card at c.step.ensures.moved in
    let out = rw card at c.step.ensures.out in
    subst (λ (s : HeldDevices). Moves s left c.args.extra c.args.step c.args.values.now c.step.result) c.self.view_is
    (moves case held c.args.extra c.args.step c.args.values.now c.step.result x c.index_mut.result.now c.step.new.self c.self.invariant at c.index_mut.ensures.value moved out c.step.ensures.same)

pub returns-clause-capacities : goal.returns-clause-capacities
returns-clause-capacities c =
    let case = c.self.inside.case.now.parts in
    let held = c.self.inside.held.items in
    let x = c.requires.device.0 in
    let at = at_seen case held c.args.self.now c.args.extra x c.self.view_is c.requires.device.1 in
    let e = c.index-as_slice-extra.result in
    let card = card_is case held c.args.self.now c.args.extra x c.in-Device.device e c.self.view_is c.requires.device.1 (c.index-as_slice-extra.is ∙ ap (λ (es : List Extra). get_or es c.args.extra e) c.as_slice.ensures) c.in-Device.is in
    let before = held_fits case held c.args.extra x c.index_mut.result.now c.self.invariant at c.index_mut.ensures.value in
    let after = subst (λ (y : Device). IsHeldOf case.run.dt y c.step.new.self) card c.step.ensures.fits in
    let read = held_read held c.args.extra c.index_mut.result.now (there case held c.args.extra x c.self.invariant at) c.index_mut.ensures.value in
    let ring = ring_kept case.run.dt x c.index_mut.result.now c.step.new.self before after ∙ ap (λ (h : HeldDevice). h.inputs.depth) read in
    capacities-set c.self.inside.held.cap held c.args.extra c.step.new.self ring ∙ ap (λ (s : HeldDevices). s.capacities) c.self.view_is
