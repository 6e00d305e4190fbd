use Rattle.std.proofs.Common.{◌≡◌, ◌∙◌, ◌++◌, ◌∷◌, ◌<◌, ◌+◌, [], ap, arith, FitsSigned, length, map, of_z, rules, slice_set, sym, take, to_z, ℤ}
use mir.Syntax.{w64}
use Rattle.std.proofs.lemmas.Int.{to_z-of_z}
use Rattle.std.proofs.lemmas.List.{map_more, take_more_set}
use Rattle.emtp_case.specs.declared.source.Source.{Source}
use Rattle.emtp_wave.specs.Wave.{value_of}
use Rattle.emtp_net.proofs.right.fill_values.Goals as goal

pub loop-at-preserved : goal.loop-at-preserved
loop-at-preserved c =
    let at = c.loop-at.at in
    let out = c.loop-at.out in
    let read = c.as_slice-sources.result.now in
    let value : Source → ℤ = λ s. value_of c.args.case.now.parts.run c.args.tacs.now s c.args.step in
    let inside : at < length out = omega (arith, c.loop-at-test.true, ap length c.as_slice-sources.ensures, c.loop-at.auto.out, c.requires.out) in
    let fits : FitsSigned w64 c.value.result = search rules in
    let written = to_z w64 (of_z w64 c.value.result) in
    let before : take at out ≡ map value (take at read) = c.loop-at.invariant ∙ ap (λ l. map value (take at l)) (sym c.as_slice-sources.ensures) in
    let more : take (at + 1) (slice_set out at written) ≡ map value (take (at + 1) read)
    = take_more_set out at written inside ∙ ap (λ l. l ++ written ∷ []) before ∙ ap (λ x. map value (take at read) ++ x ∷ []) (to_z-of_z w64 c.value.result fits ∙ c.value.ensures.value) ∙ sym (map_more value read at _ c.loop-at-test.true) in
    more ∙ ap (λ l. map value (take (at + 1) l)) c.as_slice-sources.ensures
