use Rattle.std.proofs.Common.{◌≡◌, ◌∙◌, subst, ◌∷◌, [], length, get_or, All, length-append, to_z, of_z, arith}
use mir.Syntax.{w64}
use Rattle.std.proofs.lemmas.Int.{ints}
use Rattle.std.proofs.lemmas.List.Elements.{All-append}
use Rattle.std.proofs.lemmas.Option.{get_or_from_slice_get}
use Rattle.emtp_case.specs.declared.control.Block.{Block}
use Rattle.emtp_blocks.specs.held.Block.{IsLaw, IsLawOf}
use Rattle.emtp_blocks.proofs.LawLists.{laws_more}
use Rattle.emtp_blocks.proofs.block_rows.laws_of.Goals as goal

pub loop-at-preserved : goal.loop-at-preserved
loop-at-preserved c =
    let case = c.args.case.now.parts in
    let at = c.loop-at.at in
    let b = c.index-as_slice-at.result in
    let read : b ≡ get_or case.blocks at b = rw c.as_slice.ensures at c.index-as_slice-at.is in
    let dt : to_z w64 (of_z w64 case.run.dt) ≡ case.run.dt = omega (arith, ints, c.args.case.now.fits.draft.run.dt.least, c.args.case.now.fits.draft.run.dt.most) in
    let items = c.in_ok-push.ensures.items in
    let single : All IsLaw (c.law.result ∷ []) = search arith in
    record {
      each = rw items (omega (arith, length-append c.loop-at.laws.items (c.law.result ∷ []), c.loop-at.invariant.each));
      are = laws_more case c.loop-at.laws.items c.push.new.self.items at c.law.result c.loop-at.invariant.each items (λ x there.
          let same : b ≡ x = read ∙ get_or_from_slice_get case.blocks at x b there in
          let P : Block → Type 0 = λ y. IsLawOf case.run.dt y c.law.result in
          subst P same (rw dt at c.law.ensures.value)) c.loop-at.invariant.are;
      fit = rw items (All-append IsLaw c.loop-at.laws.items (c.law.result ∷ []) c.loop-at.invariant.fit single);
    }

pub returns-clause-are : goal.returns-clause-are
returns-clause-are c =
    let all : c.loop-at.at ≡ length c.args.case.now.parts.blocks = omega arith in
    rw all at c.loop-at.invariant.are
