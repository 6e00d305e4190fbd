use Rattle.std.proofs.Common.{◌∙◌, ◌+ℤ◌, ap, length, arith}
use Rattle.std.proofs.lemmas.List.{length-map}
use Rattle.emtp_elim.specs.Matrix.{item}
use Rattle.emtp_rows.specs.held.Terms.{end_rows}
use Rattle.emtp_net.proofs.Ends.{ends_at}
use Rattle.emtp_net.proofs.sums.add_ends.Goals as goal

pub bounds-rows-at : goal.bounds-rows-at
bounds-rows-at c = omega (arith, ap length c.requires.rows, length-map c.args.case.now.parts.branches (end_rows c.args.case.now.parts), c.requires.there)

pub returns : goal.returns
returns c = λ j below.
    let case = c.args.case.now.parts in
    c.add_in_rows.ensures j below
    ∙ ap (λ z. item c.args.out.now j +ℤ z) (ends_at case c.args.rows.now c.args.at _ j c.args.ends.0 c.args.ends.1 c.requires.rows c.requires.there (omega (arith, below, c.requires.out)))
