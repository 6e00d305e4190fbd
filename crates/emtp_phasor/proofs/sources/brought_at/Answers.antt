use Rattle.std.proofs.Common.{◌∙◌, ◌+◌, ◌*◌, sym, ap, length, arith}
use Rattle.std.proofs.lemmas.Int.{ints}
use Rattle.emtp_case.specs.NodeRows.{node_at}
use Rattle.emtp_phasor.specs.Volts.{source_phasors_into}
use Rattle.emtp_phasor.proofs.Sourcing.{brought_imaginary, brought_real, length-brought}
use Rattle.emtp_phasor.proofs.sources.brought_at.Goals as goal

pub bounds-brought-row : goal.bounds-brought-row
bounds-brought-row c = omega (arith, c.requires.row, ap length c.requires.network.brought_are, length-brought c.args.network.case.now.parts)

pub bounds-brought-row-else-imaginary : goal.bounds-brought-row-else-imaginary
bounds-brought-row-else-imaginary c = omega (arith, c.requires.row, ap length c.requires.network.brought_are, length-brought c.args.network.case.now.parts)

pub returns-then-imaginary-clause-value : goal.returns-then-imaginary-clause-value
returns-then-imaginary-clause-value c =
    let case = c.args.network.case.now.parts in
    let row = c.args.row in
    let is = brought_imaginary case c.args.network.brought.now row c.requires.network.brought_are c.requires.row ∙ ap (λ b. source_phasors_into case b (node_at case row)) (sym c.if-imaginary.true) in
    omega (arith, ints, is, c.requires.network.brought_small (2 * row + 1) (omega (arith, c.requires.row)))

pub returns-else-imaginary-clause-value : goal.returns-else-imaginary-clause-value
returns-else-imaginary-clause-value c =
    let case = c.args.network.case.now.parts in
    let row = c.args.row in
    let is = brought_real case c.args.network.brought.now row c.requires.network.brought_are c.requires.row ∙ ap (λ b. source_phasors_into case b (node_at case row)) (sym c.if-imaginary.false) in
    omega (arith, ints, is, c.requires.network.brought_small (2 * row) (omega (arith, c.requires.row)))

pub returns-then-imaginary-clause-small : goal.returns-then-imaginary-clause-small
returns-then-imaginary-clause-small c = omega (arith, ints, c.requires.network.brought_small (2 * c.args.row + 1) (omega (arith, c.requires.row)))

pub returns-else-imaginary-clause-small : goal.returns-else-imaginary-clause-small
returns-else-imaginary-clause-small c = omega (arith, ints, c.requires.network.brought_small (2 * c.args.row) (omega (arith, c.requires.row)))
