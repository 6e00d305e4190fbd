use Rattle.std.proofs.Common.{◌∙◌, ◌∷◌, List, ap, arith, codes, refl, ℕ}
use Rattle.emtp_listing.specs.Entry.{word_entry}
use Rattle.emtp_listing.specs.Listing.{name_line}
use Rattle.emtp_listing.proofs.Loops.{number-more}
use Rattle.emtp_listing.proofs.Chains.{last, retext, then}
use Rattle.emtp_listing.proofs.sections.put_names.Goals as goal

pub loop-name-preserved : goal.loop-name-preserved
loop-name-preserved c = record {
  number = omega (arith, c.loop-name.invariant.number);
  text = number-more (name_line c.args.word.now) c.args.names.now c.args.names.now c.loop-name.name-index c.args.first c.loop-name.number _ refl c.loop-name-test.true c.loop-name.invariant.number
      c.loop-name.invariant.text
      (then c.in_ok-put_head.ensures (last (retext (ap (λ (w : List ℕ). 44 ∷ 32 ∷ word_entry (codes "name") w) (c.as_slice.ensures.bytes ∙ c.name-item.is)) c.in_ok-put_named.ensures)))
      c.in_ok-put_end.ensures;
}
