use Rattle.std.proofs.Common.{◌∷◌, ap, codes, ℕ}
use Rattle.emtp_listing.specs.Entry.{count_entry, limited_entry}
use Rattle.emtp_case.specs.declared.limit.TheConstants.{MOST_BRANCHES, MOST_CHANNELS, MOST_CONTROL_CARDS, MOST_NODES, MOST_SOURCES, MOST_SWITCHES}
use Rattle.emtp_listing.proofs.Chains.{ended, last, one, retext, then}
use Rattle.emtp_listing.proofs.sections.put_case.Goals as goal

pub returns : goal.returns
returns c = ended (then (one c.in_ok-put.ensures) (then (retext (ap (λ (n : ℕ). 44 ∷ 32 ∷ limited_entry (codes "nodes") MOST_NODES n) c.len.ensures) c.in_ok-put_limited.ensures) (then (retext (ap (λ (n : ℕ). 44 ∷ 32 ∷ count_entry (codes "variables") n) c.len-2.ensures) c.in_ok-put_count.ensures) (then (retext (ap (λ (n : ℕ). 44 ∷ 32 ∷ limited_entry (codes "branches") MOST_BRANCHES n) c.len-3.ensures) c.in_ok-put_limited-2.ensures) (then (retext (ap (λ (n : ℕ). 44 ∷ 32 ∷ count_entry (codes "three-phase lines") n) c.len-4.ensures) c.in_ok-put_count-2.ensures) (then (retext (ap (λ (n : ℕ). 44 ∷ 32 ∷ limited_entry (codes "switches") MOST_SWITCHES n) c.len-5.ensures) c.in_ok-put_limited-3.ensures) (then (retext (ap (λ (n : ℕ). 44 ∷ 32 ∷ limited_entry (codes "sources") MOST_SOURCES n) c.len-6.ensures) c.in_ok-put_limited-4.ensures) (then (retext (ap (λ (n : ℕ). 44 ∷ 32 ∷ limited_entry (codes "control sources") MOST_CONTROL_CARDS n) c.len-7.ensures) c.in_ok-put_limited-5.ensures) (then (retext (ap (λ (n : ℕ). 44 ∷ 32 ∷ limited_entry (codes "blocks") MOST_CONTROL_CARDS n) c.len-8.ensures) c.in_ok-put_limited-6.ensures) (then (retext (ap (λ (n : ℕ). 44 ∷ 32 ∷ limited_entry (codes "supplemental cards") MOST_CONTROL_CARDS n) c.len-9.ensures) c.in_ok-put_limited-7.ensures) (last (retext (ap (λ (n : ℕ). 44 ∷ 32 ∷ limited_entry (codes "channels") MOST_CHANNELS n) c.len-10.ensures) c.in_ok-put_limited-8.ensures)))))))))))) c.in_ok-put_end.ensures
