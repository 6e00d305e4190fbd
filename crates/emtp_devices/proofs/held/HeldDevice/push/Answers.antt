use Rattle.std.proofs.Common.{◌≡◌, ◌≤◌, ◌∙◌, ◌∷◌, All, ap, sym, subst, take, unsigned_abs, arith}
use mir.Syntax.{w128}
use Rattle.std.proofs.lemmas.Int.{to_z-of_z}
use Rattle.std.proofs.lemmas.List.{take-take}
use Rattle.emtp_devices.specs.Device.{sum_of_squares}
use Rattle.emtp_devices.proofs.Rings.{pushed-small}
use Rattle.emtp_fix.specs.declared.limit.TheConstants.{LARGEST_VALUE}
use Rattle.emtp_fix.proofs.Wide.{through_64}
use Rattle.emtp_devices.proofs.held.HeldDevice.push.Goals as goal

-- the inputs held after the push
now_held : (c : goal.After-push) → c.push.new.self.values ≡ take c.args.self.now.depth (c.args.state.now.input ∷ c.args.self.now.inputs.values)
now_held c =
    let pushed = rw (through_64 c.args.state.now.input c.requires.input) at (c.push.ensures.pushes _ c.requires.held.itself) in
    pushed ∙ ap (λ n. take n (c.args.state.now.input ∷ c.args.self.now.inputs.values)) (c.push.ensures.depth ∙ c.requires.held.ring)

pub next_squares-self-requires-clause-sum : goal.next_squares-self-requires-clause-sum
next_squares-self-requires-clause-sum c = c.requires.sum

pub next_squares-self-requires-clause-s : goal.next_squares-self-requires-clause-s
next_squares-self-requires-clause-s c = rw (through_64 c.args.state.now.input c.requires.input) c.requires.input

pub next_squares-self-requires-clause-held : goal.next_squares-self-requires-clause-held
next_squares-self-requires-clause-held c = c.requires.held

pub returns-clause-stands : goal.returns-clause-stands
returns-clause-stands c = λ past stands.
    let input = through_64 c.args.state.now.input c.requires.input in
    record { output = through_64 c.args.state.now.output c.requires.output; inputs = rw input at (c.push.ensures.pushes _ stands.inputs) }

pub returns-clause-sum : goal.returns-clause-sum
returns-clause-sum c = λ is.
    let squares = rw (through_64 c.args.state.now.input c.requires.input) at (c.next_squares-self.ensures is) in
    to_z-of_z w128 c.next_squares-self.result (record { sfits = c.next_squares-self.type_inv }) ∙ squares ∙ ap sum_of_squares (sym (now_held c))

pub returns-clause-fits : goal.returns-clause-fits
returns-clause-fits c =
    let held = c.requires.held in
    let depth = c.push.ensures.depth ∙ held.ring in
    let input = c.args.state.now.input in
    let values = c.args.self.now.inputs.values in
    let k = c.args.self.now.depth in
    record {
      some = held.some;
      few = held.few;
      ring = depth;
      itself = now_held c ∙ sym (take-take k k (input ∷ values) (omega arith)) ∙ ap (take k) (sym (now_held c)) ∙ ap (λ n. take n c.push.new.self.values) (sym depth);
      output_small = rw (through_64 c.args.state.now.output c.requires.output) c.requires.output;
      inputs_small = subst (All (λ s. unsigned_abs s ≤ LARGEST_VALUE)) (sym (now_held c)) (pushed-small k input values c.requires.input held.inputs_small);
    }
