use Rattle.std.proofs.Common.{◌≡◌, ◌∙◌, sym, ap, slice_get, Some, to_z, of_z, arith}
use mir.Syntax.{w64}
use Rattle.std.proofs.lemmas.Int.{ints}
use Rattle.emtp_case.specs.declared.branch.Branch.TheVariants.{Lumped as OfLumped, Line as OfLine, Pseudo as OfPseudo, Phase as OfPhase}
use Rattle.emtp_case.specs.declared.case.Parts.{Parts}
use Rattle.emtp_line.specs.Lines as lined
use Rattle.emtp_line.specs.Mode.{mode_of_line}
use Rattle.emtp_line.specs.Phases.{modes_of, own_conductance}
use Rattle.emtp_lumped.specs.Companion.{companion_of}
use Rattle.emtp_pseudo.specs.Pseudos as pseudo
use Rattle.emtp_net.specs.System.{conductance_by}
use Rattle.emtp_case.proofs.RowsOfNodes.{branch_read}
use Rattle.emtp_net.proofs.Nodes.{branch_in, branch_held}
use Rattle.emtp_net.proofs.branches.Branches.conductance.Goals as goal

pub returns-in-Lumped-clause-value : goal.returns-in-Lumped-clause-value
returns-in-Lumped-clause-value c = λ H stands.
    let case = c.args.case.now.parts in
    let at = c.args.at in
    let x = c.in-Lumped.field-0 in
    let is : slice_get case.branches at ≡ Some (OfLumped x) = branch_read case _ at _ (OfLumped x) c.as_slice.ensures c.requires.there c.in-Lumped.is in
    let held = branch_in c.args.self.now.lumps.case case at (OfLumped x) c.requires.same.lumps is in
    let wide : to_z w64 (of_z w64 c.conductance.result) ≡ c.conductance.result = omega (arith, ints, c.conductance.ensures.bound.least, c.conductance.ensures.bound.most) in
    wide ∙ c.conductance.ensures.value x held ∙ ap (λ (p : Parts). (companion_of p.run.dt x).conductance) c.requires.same.lumps ∙ sym (ap (conductance_by case H at) is)

pub returns-in-Line-clause-value : goal.returns-in-Line-clause-value
returns-in-Line-clause-value c = λ H stands.
    let case = c.args.case.now.parts in
    let at = c.args.at in
    let x = c.in-Line.field-0 in
    let is : slice_get case.branches at ≡ Some (OfLine x) = branch_read case _ at _ (OfLine x) c.as_slice.ensures c.requires.there c.in-Line.is in
    let held = branch_in c.args.self.now.lines.case case at (OfLine x) c.requires.same.lines is in
    let wide : to_z w64 (of_z w64 c.conductance-in-Line.result) ≡ c.conductance-in-Line.result = omega (arith, ints, c.conductance-in-Line.ensures.bound.least, c.conductance-in-Line.ensures.bound.most) in
    wide ∙ c.conductance-in-Line.ensures.line x held ∙ ap (λ (p : Parts). (mode_of_line p.run.dt x).conductance) c.requires.same.lines ∙ sym (ap (conductance_by case H at) is)

pub returns-in-Pseudo-clause-value : goal.returns-in-Pseudo-clause-value
returns-in-Pseudo-clause-value c = λ H stands.
    let case = c.args.case.now.parts in
    let at = c.args.at in
    let x = c.in-Pseudo.field-0 in
    let is : slice_get case.branches at ≡ Some (OfPseudo x) = branch_read case _ at _ (OfPseudo x) c.as_slice.ensures c.requires.there c.in-Pseudo.is in
    let held = branch_in c.args.self.now.pseudos.case case at (OfPseudo x) c.requires.same.pseudos is in
    let wide : to_z w64 (of_z w64 c.conductance-in-Pseudo.result) ≡ c.conductance-in-Pseudo.result = omega (arith, ints, c.conductance-in-Pseudo.ensures.bound.least, c.conductance-in-Pseudo.ensures.bound.most) in
    wide ∙ c.conductance-in-Pseudo.ensures.value x (pseudo.moments_of x at H) held (stands.pseudos at x held) ∙ ap (λ (p : Parts). (pseudo.present p x (pseudo.moments_of x at H)).conductance) c.requires.same.pseudos ∙ sym (ap (conductance_by case H at) is)

pub returns-in-Phase-clause-value : goal.returns-in-Phase-clause-value
returns-in-Phase-clause-value c = λ H stands.
    let case = c.args.case.now.parts in
    let at = c.args.at in
    let x = c.in-Phase.field-0 in
    let is : slice_get case.branches at ≡ Some (OfPhase x) = branch_read case _ at _ (OfPhase x) c.as_slice.ensures c.requires.there c.in-Phase.is in
    let held = branch_in c.args.self.now.lines.case case at (OfPhase x) c.requires.same.lines is in
    let wide : to_z w64 (of_z w64 c.conductance-in-Phase.result) ≡ c.conductance-in-Phase.result = omega (arith, ints, c.conductance-in-Phase.ensures.bound.least, c.conductance-in-Phase.ensures.bound.most) in
    wide ∙ c.conductance-in-Phase.ensures.phase x held ∙ ap (λ (p : Parts). own_conductance (modes_of p.run.dt (lined.trio_of p x.trio))) c.requires.same.lines ∙ sym (ap (conductance_by case H at) is)

pub returns-in-Lumped-clause-small : goal.returns-in-Lumped-clause-small
returns-in-Lumped-clause-small c = omega (arith, ints, c.conductance.ensures.bound.least, c.conductance.ensures.bound.most)

pub returns-in-Line-clause-small : goal.returns-in-Line-clause-small
returns-in-Line-clause-small c = omega (arith, ints, c.conductance-in-Line.ensures.bound.least, c.conductance-in-Line.ensures.bound.most)

pub returns-in-Pseudo-clause-small : goal.returns-in-Pseudo-clause-small
returns-in-Pseudo-clause-small c = omega (arith, ints, c.conductance-in-Pseudo.ensures.bound.least, c.conductance-in-Pseudo.ensures.bound.most)

pub returns-in-Phase-clause-small : goal.returns-in-Phase-clause-small
returns-in-Phase-clause-small c = omega (arith, ints, c.conductance-in-Phase.ensures.bound.least, c.conductance-in-Phase.ensures.bound.most)

pub conductance-requires : goal.conductance-requires
conductance-requires c =
    let x = c.in-Lumped.field-0 in
    (x, branch_held _ c.args.case.now.parts _ c.args.at _ (OfLumped x) c.requires.same.lumps c.as_slice.ensures c.requires.there c.in-Lumped.is)

pub conductance-requires-in-Line : goal.conductance-requires-in-Line
conductance-requires-in-Line c = rw (branch_held c.args.self.now.lines.case c.args.case.now.parts _ c.args.at _ (OfLine c.in-Line.field-0) c.requires.same.lines c.as_slice.ensures c.requires.there c.in-Line.is) tt

pub conductance-requires-in-Pseudo : goal.conductance-requires-in-Pseudo
conductance-requires-in-Pseudo c =
    let x = c.in-Pseudo.field-0 in
    (x, branch_held _ c.args.case.now.parts _ c.args.at _ (OfPseudo x) c.requires.same.pseudos c.as_slice.ensures c.requires.there c.in-Pseudo.is)

pub conductance-requires-in-Phase : goal.conductance-requires-in-Phase
conductance-requires-in-Phase c = rw (branch_held c.args.self.now.lines.case c.args.case.now.parts _ c.args.at _ (OfPhase c.in-Phase.field-0) c.requires.same.lines c.as_slice.ensures c.requires.there c.in-Phase.is) tt
