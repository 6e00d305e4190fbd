use Rattle.std.proofs.Common.{◌≡◌, ◌∙◌, refl}
use Rattle.emtp_case.proofs.Growth.{no_ok}
use Rattle.emtp_deck.specs.Deck.{case_of}
use Rattle.emtp_deck.specs.held.Filling.{made_of}
use Rattle.emtp_deck.specs.Made.{all_asked}
use Rattle.emtp_deck.proofs.Keeping.{on_ok}
use Rattle.emtp_deck.proofs.Wanting.{want_left}
use Rattle.emtp_deck.proofs.reading.add_sources_and_channels.Goals as goal

pub add_tacs_sources-requires : goal.add_tacs_sources-requires
add_tacs_sources-requires c =
    let whole = c.requires.control in
    rw (c.as_slice-sources.ensures, c.as_slice.ensures) (record { filling = c.requires.filling; room = whole.few; switches = whole.switches; cards = whole.sources; sensible = whole.sensible })

pub add_asked-requires : goal.add_asked-requires
add_asked-requires c =
    let before = c.requires.filling in
    rw (c.in_ok-add_tacs_sources.ensures.ok, c.in_ok-add_tacs_sources.ensures.asked) (record { empty = before.no_channels; few = before.few; there = before.there; stored = c.requires.stored })

pub returns-in_err-add_tacs_sources : goal.returns-in_err-add_tacs_sources
returns-in_err-add_tacs_sources c = let r = c.from_residual in record { ok = no_ok _ r.result r.ensures.0; err = want_left r.result _ r.ensures.1 c.in_err-add_tacs_sources.ensures.err }

pub returns : goal.returns
returns c =
    let before = c.requires.filling in
    let f = c.args.filling.now in
    let whole : record c.add_tacs_sources.new.filling.draft.parts { channels = all_asked c.add_tacs_sources.new.filling.asked } ≡ case_of c.args.deck.now (made_of f)
    = rw (c.in_ok-add_tacs_sources.ensures.ok, c.in_ok-add_tacs_sources.ensures.asked, c.as_slice-sources.ensures, c.as_slice.ensures, before.nodes, before.variables) refl in
    record { ok = on_ok c.add_asked.result (λ all. all ∙ whole) c.add_asked.ensures.ok; err = c.add_asked.ensures.err }
