use Rattle.std.proofs.Common.{ap, arith, codes, ◌∙◌, ◌∷◌, ◌-◌, [], Bool, List, ℕ}
use Rattle.std.proofs.lemmas.List.{get_or-map}
use Rattle.emtp_case.specs.Channel.{is_status}
use Rattle.emtp_case.specs.ChannelName.{text_of}
use Rattle.emtp_listing.specs.ChannelLines.{record_entry}
use Rattle.emtp_listing.specs.Entry.{word_entry}
use Rattle.emtp_listing.proofs.Chains.{last, retext, reword, then}
use Rattle.emtp_listing.proofs.channel.put_channel.Goals as goal

pub returns : goal.returns
returns c =
    let p = c.args.case.now.parts in
    then c.in_ok-put_head.ensures (then (reword c.measured_word.ensures c.in_ok-put_word.ensures) (then c.in_ok-put_measured.ensures
    (then (retext (ap (λ (w : List ℕ). 44 ∷ 32 ∷ word_entry (codes "name") w)
    (get_or-map (text_of p) p.channels (c.args.number - 1) c.args.channel.now [] (omega (arith, c.requires.some, c.requires.there)) ∙ ap (text_of p) (c.requires.is c.args.channel.now))) c.in_ok-put_name.ensures)
    (last (retext (ap (λ (s : Bool). 44 ∷ 32 ∷ record_entry s c.args.number c.args.states) c.is_status.ensures
    ∙ ap (λ (k : ℕ). 44 ∷ 32 ∷ record_entry (is_status c.args.channel.now) c.args.number k) c.requires.states) c.in_ok-put_record_number.ensures)))))
