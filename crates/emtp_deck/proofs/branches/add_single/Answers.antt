use Rattle.emtp_case.specs.declared.limit.TheConstants.{MOST_HISTORY_VALUES}
use Rattle.std.proofs.Common.{◌≡◌, ◌∙◌, ◌+◌, ◌≤◌, length, subst, sym}
use Rattle.emtp_case.specs.HistoryValues.{history_values_of}
use Rattle.emtp_case.specs.held.Range.{AreEnds}
use Rattle.emtp_deck.specs.Copies.{values_behind}
use Rattle.emtp_deck.specs.declared.copies.ValuesFrom.TheVariants.{Card as OwnValues, Earlier}
use Rattle.emtp_deck.proofs.Modes.{moved_fits, moved_values}
use Rattle.emtp_deck.proofs.branches.add_single.Goals as goal

pub moved-branch-requires : goal.moved-branch-requires
moved-branch-requires c = (rw c.in-Earlier.is at c.requires.kind).there

pub add_own-requires-clause-history : goal.add_own-requires-clause-history
add_own-requires-clause-history c =
    let from : values_behind c.args.draft.now.parts c.args.card.now ≡ OwnValues = sym c.requires.values ∙ c.in-Card.is in
    rw from at c.requires.sensible.history

pub add_branch-requires-clause-fits : goal.add_branch-requires-clause-fits
add_branch-requires-clause-fits c =
    let p = c.args.draft.now.parts in
    let ends : AreEnds (length p.nodes) c.node_number-from.result c.node_number-to.result
    = rw (c.node_number-from.ensures, c.node_number-to.ensures, c.requires.nodes) c.requires.sensible.ends in
    rw c.moved-branch.ensures
    (moved_fits p c.args.card.now.line c.node_number-from.result c.node_number-to.result c.in-Earlier.branch c.args.draft.now.fits.network.trios ends (rw c.in-Earlier.is at c.requires.kind).there)

pub add_branch-requires-clause-history : goal.add_branch-requires-clause-history
add_branch-requires-clause-history c =
    let p = c.args.draft.now.parts in
    let from : values_behind p c.args.card.now ≡ Earlier c.in-Earlier.branch = sym c.requires.values ∙ c.in-Earlier.is in
    let few = rw from at c.requires.sensible.history in
    rw c.moved-branch.ensures
    (subst (λ n. history_values_of p + n ≤ MOST_HISTORY_VALUES) (moved_values p c.args.card.now.line c.node_number-from.result c.node_number-to.result c.in-Earlier.branch) few)
