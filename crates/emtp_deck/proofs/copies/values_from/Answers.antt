use Rattle.std.proofs.Common.{◌∙◌, sym}
use Rattle.emtp_deck.proofs.Copying.{earlier}
use Rattle.emtp_deck.proofs.copies.values_from.Goals as goal

pub returns-in-Some-clause-taken : goal.returns-in-Some-clause-taken
returns-in-Some-clause-taken c =
    let p = c.args.draft.now.parts in
    rw c.in-Copied.is (earlier p _ c.node_number.result c.node_number-in-Copied.result c.in-Some.branch c.args.draft.now.fits.network.branches
    (sym (rw c.as_slice.ensures at c.first_of_kind-found.ensures) ∙ c.in-Some.is))
