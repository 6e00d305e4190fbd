use Rattle.std.proofs.Common.{rules, ◌≡◌, ◌∙◌, ap, sym, ◌+◌, ◌<◌, ◌++◌, [], ◌∷◌, length, length-append, length-take, get_or, take, ℤ, pos, to_z, of_z, FitsSigned, arith, append_assoc, if◌then◌else◌, Bool, ℕ}
use mir.Syntax.{w64}
use Rattle.std.proofs.lemmas.Int.{to_z-of_z}
use Rattle.std.proofs.lemmas.List.{take_more}
use Rattle.std.proofs.lemmas.List.Edits.{insert_end}
use Rattle.std.specs.List.{insert}
use Rattle.emtp_machine.proofs.samples.put_behind.Goals as goal

pub loop-value-preserved : goal.loop-value-preserved
loop-value-preserved c =
    let xs = c.loop-value.all.items in
    let old = c.args.all.now.items in
    let values = c.args.values.now in
    let k = c.loop-value.value-index in
    let before : xs ≡ old ++ take k values = c.loop-value.invariant.items in
    let count : length xs ≡ length old + k = ap length before ∙ omega (arith, length-append old (take k values), length-take k values) in
    let room : c.args.all.now.cap ≡ c.loop-value.all.cap = sym c.loop-value.invariant.block.1.0 in
    let size : c.loop-value.all.len ≡ length xs = omega arith in
    let long : c.loop-value.all.len < c.loop-value.all.cap = omega (arith, count, room, size) in
    let value : ℤ = get_or values k (pos 0) in
    let fits : FitsSigned w64 value = search rules in
    let same : to_z w64 (of_z w64 value) ≡ value = to_z-of_z w64 value fits in
    let made = c.insert.ensures.succeeds long in
    let put = c.insert.ensures.items ∙ ap (λ (b : Bool). if b then insert xs c.len.result (to_z w64 (of_z w64 value)) else xs) made in
    let block = c.insert.ensures.in_place long in
    record {
      items =
          put ∙ ap (λ (n : ℕ). insert xs n (to_z w64 (of_z w64 value))) (c.len.ensures ∙ size) ∙ ap (insert xs (length xs)) same ∙ insert_end xs value
          ∙ ap (λ ys. ys ++ value ∷ []) before ∙ append_assoc old (take k values) (value ∷ []) ∙ ap (λ ys. old ++ ys) (sym (take_more values k (pos 0) c.loop-value-test.true));
      block = (block.0 ∙ c.loop-value.invariant.block.0, (block.1.0 ∙ c.loop-value.invariant.block.1.0, block.1.1 ∙ c.loop-value.invariant.block.1.1));
    }
