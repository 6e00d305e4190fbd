use Rattle.std.proofs.Common.{◌∙◌, sym, ap, ◌++◌, ◌∷◌, [], map, arith}
use Rattle.std.specs.List.{range_with_len}
use Rattle.std.proofs.lemmas.List.FromFn.{map-range_with_len_more}
use Rattle.emtp_blocks.specs.System.{block_of}
use Rattle.emtp_blocks.proofs.block_rows.places_of.Goals as goal

pub loop-var-preserved : goal.loop-var-preserved
loop-var-preserved c =
    let case = c.args.case.now.parts in
    let v = c.loop-var.var in
    let found = rw c.as_slice.ensures at c.block_of.ensures in
    c.in_ok-push.ensures.items ∙ ap (λ xs. xs ++ c.block_of.result ∷ []) c.loop-var.invariant ∙ ap (λ p. map (block_of case) (range_with_len 0 v) ++ p ∷ []) found ∙ sym (map-range_with_len_more (block_of case) 0 v v (omega arith))
