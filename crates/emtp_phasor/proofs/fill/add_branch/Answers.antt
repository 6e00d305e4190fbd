use Rattle.std.proofs.Common.{◌<◌, ◌/◌, ◌∙◌, ap, ℕ, ◌==◌, length, refl, arith}
use Rattle.std.proofs.lemmas.Int.{ints}
use Rattle.emtp_fix.specs.declared.limit.TheConstants.{LARGEST_ENTRY}
use Rattle.emtp_case.specs.NodeRows.{node_at}
use Rattle.emtp_case.proofs.RowsOfNodes.{branch_read}
use Rattle.emtp_admittance.specs.Admittances.{in_block, is_imaginary}
use Rattle.emtp_phasor.proofs.Blocks.{in_block_small}
use Rattle.emtp_phasor.proofs.Ports.{between_first, between_second, between_none, branch_between, ends_apart, ends_within, part_small}
use Rattle.emtp_phasor.proofs.fill.add_branch.Goals as goal

pub add_end-requires-clause-node : goal.add_end-requires-clause-node
add_end-requires-clause-node c =
    let case = c.args.network.case.now.parts in
    let is = branch_read case c.as_slice.result.now c.args.at _ _ c.as_slice.ensures c.requires.there refl in
    (ends_within case c.args.at _ c.ends-from.result.0 c.ends-from.result.1 c.args.network.case.now.fits.draft.network is c.requires.there (ap (λ (e : ℕ × ℕ). e.0) c.ends-from.ensures) (ap (λ (e : ℕ × ℕ). e.1) c.ends-from.ensures)).0

pub add_end-requires-then-from-node-clause-node : goal.add_end-requires-then-from-node-clause-node
add_end-requires-then-from-node-clause-node c =
    let case = c.args.network.case.now.parts in
    let is = branch_read case c.as_slice.result.now c.args.at _ _ c.as_slice.ensures c.requires.there refl in
    (ends_within case c.args.at _ c.ends-from.result.0 c.ends-from.result.1 c.args.network.case.now.fits.draft.network is c.requires.there (ap (λ (e : ℕ × ℕ). e.0) c.ends-from.ensures) (ap (λ (e : ℕ × ℕ). e.1) c.ends-from.ensures)).1

pub add_end-requires-then-to-node-clause-node : goal.add_end-requires-then-to-node-clause-node
add_end-requires-then-to-node-clause-node c =
    let case = c.args.network.case.now.parts in
    let is = branch_read case c.as_slice.result.now c.args.at _ _ c.as_slice.ensures c.requires.there refl in
    (ends_within case c.args.at _ c.ends-from.result.0 c.ends-from.result.1 c.args.network.case.now.fits.draft.network is c.requires.there (ap (λ (e : ℕ × ℕ). e.0) c.ends-from.ensures) (ap (λ (e : ℕ × ℕ). e.1) c.ends-from.ensures)).1

pub add_end-requires-then-to-node-2-clause-node : goal.add_end-requires-then-to-node-2-clause-node
add_end-requires-then-to-node-2-clause-node c =
    let case = c.args.network.case.now.parts in
    let is = branch_read case c.as_slice.result.now c.args.at _ _ c.as_slice.ensures c.requires.there refl in
    (ends_within case c.args.at _ c.ends-from.result.0 c.ends-from.result.1 c.args.network.case.now.fits.draft.network is c.requires.there (ap (λ (e : ℕ × ℕ). e.0) c.ends-from.ensures) (ap (λ (e : ℕ × ℕ). e.1) c.ends-from.ensures)).0

pub add_end-requires-then-from-node-clause-bound : goal.add_end-requires-then-from-node-clause-bound
add_end-requires-then-from-node-clause-bound c = λ j below.
    let here : j < length c.args.out.now = omega (arith, below, c.add_end.ensures.same) in
    let own = c.port_at-port.result.own in
    let small = part_small (c.ends-from.result.0 == node_at c.args.network.case.now.parts (j / 2)) (in_block c.args.imaginary (is_imaginary j) own) LARGEST_ENTRY (in_block_small c.args.imaginary (is_imaginary j) own c.port_at-port.ensures.small.own) in
    omega (arith, ints, c.add_end.ensures.value j here, c.requires.bound j here, small)

pub add_end-requires-then-to-node-2-clause-bound : goal.add_end-requires-then-to-node-2-clause-bound
add_end-requires-then-to-node-2-clause-bound c = λ j below.
    let here : j < length c.args.out.now = omega (arith, below, c.add_end-then-to-node.ensures.same) in
    let own = c.port_at-port.result.own in
    let small = part_small (c.ends-from.result.1 == node_at c.args.network.case.now.parts (j / 2)) (in_block c.args.imaginary (is_imaginary j) own) LARGEST_ENTRY (in_block_small c.args.imaginary (is_imaginary j) own c.port_at-port.ensures.small.own) in
    omega (arith, ints, c.add_end-then-to-node.ensures.value j here, c.requires.bound j here, small)

pub returns-then-from-node-clause-value : goal.returns-then-from-node-clause-value
returns-then-from-node-clause-value c = λ j below.
    let case = c.args.network.case.now.parts in
    let m = node_at case (j / 2) in
    let y = c.port_at-port.result in
    let is = branch_read case c.as_slice.result.now c.args.at _ _ c.as_slice.ensures c.requires.there refl in
    let one = c.add_end.ensures.value j below in
    let two = c.add_end-then-from-node.ensures.value j (omega (arith, below, c.add_end.ensures.same)) in
    let sum = between_first c.args.imaginary (is_imaginary j) y c.args.node m c.ends-from.result.0 c.ends-from.result.1 _ _ is (ap (λ (e : ℕ × ℕ). e.0) c.ends-from.ensures) (ap (λ (e : ℕ × ℕ). e.1) c.ends-from.ensures)
    (ends_apart case c.args.at _ c.ends-from.result.0 c.ends-from.result.1 c.args.network.case.now.fits.draft.network is c.requires.there (ap (λ (e : ℕ × ℕ). e.0) c.ends-from.ensures) (ap (λ (e : ℕ × ℕ). e.1) c.ends-from.ensures)) c.if-from-node.true in
    omega (arith, ints, one, two, sum, branch_between case c.args.network.ports.now c.args.imaginary (is_imaginary j) y c.args.node m c.args.at c.port_at-port.ensures.value)

pub returns-then-to-node-clause-value : goal.returns-then-to-node-clause-value
returns-then-to-node-clause-value c = λ j below.
    let case = c.args.network.case.now.parts in
    let m = node_at case (j / 2) in
    let y = c.port_at-port.result in
    let is = branch_read case c.as_slice.result.now c.args.at _ _ c.as_slice.ensures c.requires.there refl in
    let one = c.add_end-then-to-node.ensures.value j below in
    let two = c.add_end-then-to-node-2.ensures.value j (omega (arith, below, c.add_end-then-to-node.ensures.same)) in
    let sum = between_second c.args.imaginary (is_imaginary j) y c.args.node m c.ends-from.result.0 c.ends-from.result.1 _ _ is (ap (λ (e : ℕ × ℕ). e.0) c.ends-from.ensures) (ap (λ (e : ℕ × ℕ). e.1) c.ends-from.ensures) c.if-from-node.false c.if-to-node.true in
    omega (arith, ints, one, two, sum, branch_between case c.args.network.ports.now c.args.imaginary (is_imaginary j) y c.args.node m c.args.at c.port_at-port.ensures.value)

pub returns-else-to-node-clause-value : goal.returns-else-to-node-clause-value
returns-else-to-node-clause-value c = λ j below.
    let case = c.args.network.case.now.parts in
    let m = node_at case (j / 2) in
    let y = c.port_at-port.result in
    let is = branch_read case c.as_slice.result.now c.args.at _ _ c.as_slice.ensures c.requires.there refl in
    let none = between_none c.args.imaginary (is_imaginary j) y c.args.node m c.ends-from.result.0 c.ends-from.result.1 _ _ is (ap (λ (e : ℕ × ℕ). e.0) c.ends-from.ensures) (ap (λ (e : ℕ × ℕ). e.1) c.ends-from.ensures) c.if-from-node.false c.if-to-node.false in
    omega (arith, ints, none, branch_between case c.args.network.ports.now c.args.imaginary (is_imaginary j) y c.args.node m c.args.at c.port_at-port.ensures.value)

pub add_end-requires-then-from-node-clause-out : goal.add_end-requires-then-from-node-clause-out
add_end-requires-then-from-node-clause-out c = c.add_end.ensures.same ∙ c.requires.out

pub add_end-requires-then-to-node-2-clause-out : goal.add_end-requires-then-to-node-2-clause-out
add_end-requires-then-to-node-2-clause-out c = c.add_end-then-to-node.ensures.same ∙ c.requires.out

pub returns-then-from-node-clause-same : goal.returns-then-from-node-clause-same
returns-then-from-node-clause-same c = c.add_end-then-from-node.ensures.same ∙ c.add_end.ensures.same

pub returns-then-to-node-clause-same : goal.returns-then-to-node-clause-same
returns-then-to-node-clause-same c = c.add_end-then-to-node-2.ensures.same ∙ c.add_end-then-to-node.ensures.same
