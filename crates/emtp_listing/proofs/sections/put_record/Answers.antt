use Rattle.std.proofs.Common.{ap, arith, codes, count_by, length, of_z, to_z, ◌≡◌, ◌∙◌, ◌∷◌, ◌*◌, ◌-◌, List, ℕ, ℤ}
use mir.Syntax.{w64}
use Rattle.std.proofs.lemmas.Int.{ints}
use Rattle.emtp_case.specs.Channel.{is_status}
use Rattle.emtp_case.specs.declared.channel.Channel.{Channel}
use Rattle.emtp_listing.specs.Entry.{count_entry, limited_entry, number_entry}
use Rattle.emtp_case.specs.declared.limit.TheConstants.{MOST_HISTORY_VALUES, MOST_STORED_VALUES}
use Rattle.emtp_listing.proofs.Chains.{ended, last, one, retext, then}
use Rattle.emtp_listing.proofs.sections.put_record.Goals as goal

pub returns : goal.returns
returns c =
    let p = c.args.parts.now in
    let end : to_z w64 (of_z w64 c.time-end.result) ≡ c.time-end.result = omega (arith, ints, c.time-end.type_inv) in
    let states : c.states_among-states.result ≡ count_by is_status p.channels = c.states_among-states.ensures.value ∙ ap (λ (cs : List Channel). count_by is_status cs) c.as_slice.ensures in
    let analog = ap (λ (n : ℕ). n - c.states_among-states.result) c.len-channels.ensures ∙ ap (λ (n : ℕ). length p.channels - n) states in
    let values = ap (λ (n : ℕ). n * c.samples-samples.result) c.len-channels.ensures ∙ ap (λ (n : ℕ). length p.channels * n) c.samples-samples.ensures.value in
    ended
    (then (one c.in_ok-put.ensures)
    (then (retext (ap (λ (z : ℤ). 44 ∷ 32 ∷ number_entry (codes "end") 12 (codes "s") z) (end ∙ c.time-end.ensures.value)) c.in_ok-put_quantity.ensures)
    (then (retext (ap (λ (n : ℕ). 44 ∷ 32 ∷ count_entry (codes "samples") n) c.samples-samples.ensures.value) c.in_ok-put_count.ensures)
    (then (retext (ap (λ (n : ℕ). 44 ∷ 32 ∷ count_entry (codes "analog channels") n) analog) c.in_ok-put_count-2.ensures)
    (then (retext (ap (λ (n : ℕ). 44 ∷ 32 ∷ count_entry (codes "status channels") n) states) c.in_ok-put_count-3.ensures)
    (then (retext (ap (λ (n : ℕ). 44 ∷ 32 ∷ limited_entry (codes "values") MOST_STORED_VALUES n) values) c.in_ok-put_limited.ensures)
    (last (retext (ap (λ (n : ℕ). 44 ∷ 32 ∷ limited_entry (codes "history values") MOST_HISTORY_VALUES n) c.history_values-history.ensures) c.in_ok-put_limited-2.ensures)))))))) c.in_ok-put_end.ensures
