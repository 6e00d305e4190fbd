use Rattle.std.proofs.Common.{◌≡◌, ◌∙◌, ◌<◌, length, refl, to_z, of_z, arith}
use mir.Syntax.{w128}
use Rattle.std.proofs.lemmas.Int.{ints}
use Rattle.std.proofs.lemmas.List.{get_or_default}
use Rattle.emtp_case.specs.NodeRows.{node_at}
use Rattle.emtp_case.specs.declared.row_kind.RowKind.TheVariants.{Ground, Kcl}
use Rattle.emtp_phasor.proofs.Judging.{residual_kcl, residual_sum}
use Rattle.emtp_phasor.proofs.flow.residual.Goals as goal

pub bounds : goal.bounds
bounds c = omega (arith, c.requires.network.kinds_count, c.requires.row)

pub returns-in-Kcl-clause-value : goal.returns-in-Kcl-clause-value
returns-in-Kcl-clause-value c =
    let case = c.args.network.case.now.parts in
    let kinds = c.args.network.kinds.now in
    let row = c.args.row in
    let inside : row < length kinds = omega (arith, c.requires.network.kinds_count, c.requires.row) in
    let kind = get_or_default kinds row Ground Kcl inside ∙ c.in-Kcl.is in
    let wide : to_z w128 (of_z w128 c.greater.result) ≡ c.greater.result = omega (arith, ints, c.greater.ensures.bound) in
    let one : to_z w128 (of_z w128 c.leaving.result) ≡ c.leaving.result = omega (arith, ints, c.leaving.ensures.bound) in
    let two : to_z w128 (of_z w128 c.leaving-in-Kcl.result) ≡ c.leaving-in-Kcl.result = omega (arith, ints, c.leaving-in-Kcl.ensures.bound) in
    let value = rw (one, two) at c.greater.ensures.value in
    wide ∙ value ∙ residual_kcl case c.args.network.ports.now c.args.volts.now kinds row (node_at case row) c.leaving.result c.leaving-in-Kcl.result c.requires.kinds kind refl c.leaving.ensures.value c.leaving-in-Kcl.ensures.value

pub returns-in-Sum-clause-value : goal.returns-in-Sum-clause-value
returns-in-Sum-clause-value c =
    let case = c.args.network.case.now.parts in
    let kinds = c.args.network.kinds.now in
    let row = c.args.row in
    let inside : row < length kinds = omega (arith, c.requires.network.kinds_count, c.requires.row) in
    let kind = get_or_default kinds row Ground Kcl inside ∙ c.in-Sum.is in
    let wide : to_z w128 (of_z w128 c.greater-in-Sum.result) ≡ c.greater-in-Sum.result = omega (arith, ints, c.greater-in-Sum.ensures.bound) in
    let one : to_z w128 (of_z w128 c.leaving_group.result) ≡ c.leaving_group.result = omega (arith, ints, c.leaving_group.ensures.bound) in
    let two : to_z w128 (of_z w128 c.leaving_group-in-Sum.result) ≡ c.leaving_group-in-Sum.result = omega (arith, ints, c.leaving_group-in-Sum.ensures.bound) in
    let value = rw (one, two) at c.greater-in-Sum.ensures.value in
    wide ∙ value ∙ residual_sum case c.args.network.ports.now c.args.volts.now kinds row c.leaving_group.result c.leaving_group-in-Sum.result c.requires.kinds kind c.leaving_group.ensures.value c.leaving_group-in-Sum.ensures.value
