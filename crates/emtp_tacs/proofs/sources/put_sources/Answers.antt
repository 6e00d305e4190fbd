use Rattle.std.proofs.Common.{◌≡◌, ◌∙◌, ◌<◌, ap, sym, subst, get_or, List, length, slice_get, pos, to_z, of_z, false, FitsSigned, Some, None, arith, rules}
use mir.Syntax.{w64, w128}
use Rattle.std.proofs.lemmas.Int.{to_z-of_z}
use Rattle.std.proofs.lemmas.Option.{slice_get-get_or}
use Rattle.emtp_case.specs.declared.source.Shape.TheVariants.{Step}
use Rattle.emtp_case.specs.declared.source.Source.{Source}
use Rattle.emtp_fix.specs.Limit.{in_range}
use Rattle.emtp_fix.proofs.Wide.{through_64}
use Rattle.emtp_tacs.specs.held.Stages.{measured_by}
use Rattle.emtp_tacs.specs.Step.{Measured, source_value}
use Rattle.emtp_tacs.proofs.Folds.{known-set, source_out, source_written, wide_is}
use Rattle.emtp_tacs.proofs.sources.put_sources.Goals as goal

pub returns-in-None-clause-sources : goal.returns-in-None-clause-sources
returns-in-None-clause-sources c = λ devices.
    let case = c.args.case.now.parts in
    let at = c.loop-at.at in
    let m : Measured = measured_by c.args.measured in
    let blank : Source = record { line = 0; node = 0; current = false; shape = Step; amplitude = pos 0; start = pos 0; stop = None } in
    let x = get_or case.tacs_sources at blank in
    let within : at < length case.tacs_sources = omega (arith, c.loop-at-test.true, c.len-at-end.ensures) in
    let here : slice_get case.tacs_sources at ≡ Some x = slice_get-get_or case.tacs_sources at blank within in
    let fits : FitsSigned w64 c.source_value-value.result = search rules in
    let narrow : to_z w64 (of_z w64 c.source_value-value.result) ≡ c.source_value-value.result = to_z-of_z w64 c.source_value-value.result fits in
    let wide : to_z w128 (of_z w128 c.source_value-value.result) ≡ c.source_value-value.result = wide_is c.source_value-value.result fits in
    let given = subst (λ (xs : List Source). c.source_value-value.result ≡ source_value case c.args.step m (get_or xs at blank) (get_or xs at blank).shape) c.as_slice.ensures c.source_value-value.ensures in
    let asked = rw (narrow, wide) at c.in-None.ensures.value in
    rw (c.range_fault.ensures, c.as_slice.ensures) (source_out case c.args.step m (record { values = c.args.values.now; devices = devices }) c.loop-at.values devices at x here (sym (asked ∙ ap in_range given)) (c.loop-at.invariant.so_far devices))

pub loop-at-preserved : goal.loop-at-preserved
loop-at-preserved c =
    let case = c.args.case.now.parts in
    let at = c.loop-at.at in
    let m : Measured = measured_by c.args.measured in
    let blank : Source = record { line = 0; node = 0; current = false; shape = Step; amplitude = pos 0; start = pos 0; stop = None } in
    let x = get_or case.tacs_sources at blank in
    let within : at < length case.tacs_sources = omega (arith, c.loop-at-test.true, c.len-at-end.ensures) in
    let here : slice_get case.tacs_sources at ≡ Some x = slice_get-get_or case.tacs_sources at blank within in
    let fits : FitsSigned w64 c.source_value-value.result = search rules in
    let narrow : to_z w64 (of_z w64 c.source_value-value.result) ≡ c.source_value-value.result = to_z-of_z w64 c.source_value-value.result fits in
    let wide : to_z w128 (of_z w128 c.source_value-value.result) ≡ c.source_value-value.result = wide_is c.source_value-value.result fits in
    let given = subst (λ (xs : List Source). c.source_value-value.result ≡ source_value case c.args.step m (get_or xs at blank) (get_or xs at blank).shape) c.as_slice.ensures c.source_value-value.ensures in
    let asked = rw (narrow, wide) at c.in-Some.ensures.value in
    let kept : to_z w64 (of_z w64 c.in-Some.value) ≡ c.in-Some.value = through_64 c.in-Some.value c.in-Some.ensures.bound in
    rw (c.as_slice.ensures, kept) (record {
      known = known-set case c.loop-at.values x.node c.in-Some.value c.in-Some.ensures.bound c.loop-at.invariant.known;
      so_far = λ devices. source_written case c.args.step m (record { values = c.args.values.now; devices = devices }) c.loop-at.values devices at x c.in-Some.value here (sym (asked ∙ ap in_range given)) (c.loop-at.invariant.so_far devices);
    })
