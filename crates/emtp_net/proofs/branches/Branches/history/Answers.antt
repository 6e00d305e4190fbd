use Rattle.std.proofs.Common.{◌≡◌, ◌∙◌, ◌<◌, sym, length, ap, slice_get, Some, to_z, of_z, arith}
use mir.Syntax.{w128}
use Rattle.std.proofs.lemmas.Int.{ints}
use Rattle.emtp_case.specs.declared.branch.Branch.TheVariants.{Lumped as OfLumped, Line as OfLine, Pseudo as OfPseudo, Phase as OfPhase}
use Rattle.emtp_case.specs.declared.case.Parts.{Parts}
use Rattle.emtp_line.specs.Line.{line_histories}
use Rattle.emtp_line.specs.Lines as lined
use Rattle.emtp_line.specs.Mode.{mode_of_line}
use Rattle.emtp_line.specs.Phases.{modes_of, phase_from_history, phase_to_history}
use Rattle.emtp_lumped.specs.Companion.{companion_of}
use Rattle.emtp_lumped.specs.Lumps as lumped
use Rattle.emtp_lumped.specs.Step.{history_current_of}
use Rattle.emtp_pseudo.specs.Pseudos as pseudo
use Rattle.emtp_net.specs.System.{history_by, taken, through}
use Rattle.emtp_case.proofs.RowsOfNodes.{branch_read}
use Rattle.emtp_net.proofs.Nodes.{branch_fits, branch_in, branch_held}
use Rattle.emtp_net.proofs.branches.Branches.history.Goals as goal

pub returns-in-Lumped-clause-value : goal.returns-in-Lumped-clause-value
returns-in-Lumped-clause-value c = λ H stands.
    let case = c.args.case.now.parts in
    let at = c.args.at in
    let x = c.in-Lumped.field-0 in
    let is : slice_get case.branches at ≡ Some (OfLumped x) = branch_read case _ at _ (OfLumped x) c.as_slice.ensures c.requires.there c.in-Lumped.is in
    let held = branch_in c.args.self.now.lumps.case case at (OfLumped x) c.requires.same.lumps is in
    let j = c.history_current.result in
    let wide : to_z w128 (of_z w128 j) ≡ j = omega (arith, ints, c.history_current.ensures.bound) in
    let value : j ≡ history_current_of (companion_of case.run.dt x) (lumped.newest (lumped.states_of at H)) =
    c.history_current.ensures.value x (lumped.states_of at H) held (stands.lumps at x held) ∙ ap (λ (p : Parts). history_current_of (companion_of p.run.dt x) (lumped.newest (lumped.states_of at H))) c.requires.same.lumps in
    c.through.ensures.value ∙ ap through (wide ∙ value) ∙ sym (ap (history_by case H at) is)

pub returns-in-Line-clause-value : goal.returns-in-Line-clause-value
returns-in-Line-clause-value c = λ H stands.
    let case = c.args.case.now.parts in
    let at = c.args.at in
    let x = c.in-Line.field-0 in
    let is : slice_get case.branches at ≡ Some (OfLine x) = branch_read case _ at _ (OfLine x) c.as_slice.ensures c.requires.there c.in-Line.is in
    let held = branch_in c.args.self.now.lines.case case at (OfLine x) c.requires.same.lines is in
    let value = c.history_currents.ensures.line x (lined.states_of at H) held (stands.lines.lines at x held) ∙ ap (λ (p : Parts). line_histories (mode_of_line p.run.dt x) (lined.states_of at H)) c.requires.same.lines in
    c.taken.ensures.value ∙ ap taken value ∙ sym (ap (history_by case H at) is)

pub returns-in-Pseudo-clause-value : goal.returns-in-Pseudo-clause-value
returns-in-Pseudo-clause-value c = λ H stands.
    let case = c.args.case.now.parts in
    let at = c.args.at in
    let x = c.in-Pseudo.field-0 in
    let is : slice_get case.branches at ≡ Some (OfPseudo x) = branch_read case _ at _ (OfPseudo x) c.as_slice.ensures c.requires.there c.in-Pseudo.is in
    let held = branch_in c.args.self.now.pseudos.case case at (OfPseudo x) c.requires.same.pseudos is in
    let j = c.history_current-in-Pseudo.result in
    let wide : to_z w128 (of_z w128 j) ≡ j = omega (arith, ints, c.history_current-in-Pseudo.ensures.bound) in
    let value : j ≡ pseudo.next_history_current case x (pseudo.moments_of x at H) =
    c.history_current-in-Pseudo.ensures.value x (pseudo.moments_of x at H) held (stands.pseudos at x held) ∙ ap (λ (p : Parts). pseudo.next_history_current p x (pseudo.moments_of x at H)) c.requires.same.pseudos in
    c.through-in-Pseudo.ensures.value ∙ ap through (wide ∙ value) ∙ sym (ap (history_by case H at) is)

pub returns-in-Phase-clause-value : goal.returns-in-Phase-clause-value
returns-in-Phase-clause-value c = λ H stands.
    let case = c.args.case.now.parts in
    let at = c.args.at in
    let x = c.in-Phase.field-0 in
    let is : slice_get case.branches at ≡ Some (OfPhase x) = branch_read case _ at _ (OfPhase x) c.as_slice.ensures c.requires.there c.in-Phase.is in
    let held = branch_in c.args.self.now.lines.case case at (OfPhase x) c.requires.same.lines is in
    let fits = branch_fits case at (OfPhase x) c.args.case.now.fits.draft.network.branches c.requires.there is in
    let there : x.trio < length c.args.self.now.lines.case.trios = omega (arith, fits.trio, ap (λ (p : Parts). length p.trios) c.requires.same.lines) in
    let value = c.history_currents-in-Phase.ensures.phase x (lined.phase_states_of c.args.self.now.lines.case x.trio H) held (stands.lines.trios x.trio there)
    ∙ ap (λ (p : Parts). (phase_from_history (modes_of p.run.dt (lined.trio_of p x.trio)) (lined.phase_states_of p x.trio H 0) (lined.phase_states_of p x.trio H x.phase), phase_to_history (modes_of p.run.dt (lined.trio_of p x.trio)) (lined.phase_states_of p x.trio H 0) (lined.phase_states_of p x.trio H x.phase))) c.requires.same.lines in
    c.taken-in-Phase.ensures.value ∙ ap taken value ∙ sym (ap (history_by case H at) is)

pub through-requires : goal.through-requires
through-requires c = omega (arith, ints, c.history_current.ensures.bound)

pub through-requires-in-Pseudo : goal.through-requires-in-Pseudo
through-requires-in-Pseudo c = omega (arith, ints, c.history_current-in-Pseudo.ensures.bound)

pub taken-requires-clause-first : goal.taken-requires-clause-first
taken-requires-clause-first c = omega (arith, ints, c.history_currents.ensures.from_bound)

pub taken-requires-clause-second : goal.taken-requires-clause-second
taken-requires-clause-second c = omega (arith, ints, c.history_currents.ensures.to_bound)

pub taken-requires-in-Phase-clause-first : goal.taken-requires-in-Phase-clause-first
taken-requires-in-Phase-clause-first c = omega (arith, ints, c.history_currents-in-Phase.ensures.from_bound)

pub taken-requires-in-Phase-clause-second : goal.taken-requires-in-Phase-clause-second
taken-requires-in-Phase-clause-second c = omega (arith, ints, c.history_currents-in-Phase.ensures.to_bound)

pub history_current-requires : goal.history_current-requires
history_current-requires c =
    let x = c.in-Lumped.field-0 in
    (x, branch_held _ c.args.case.now.parts _ c.args.at _ (OfLumped x) c.requires.same.lumps c.as_slice.ensures c.requires.there c.in-Lumped.is)

pub history_currents-requires : goal.history_currents-requires
history_currents-requires c = rw (branch_held c.args.self.now.lines.case c.args.case.now.parts _ c.args.at _ (OfLine c.in-Line.field-0) c.requires.same.lines c.as_slice.ensures c.requires.there c.in-Line.is) tt

pub history_current-requires-in-Pseudo : goal.history_current-requires-in-Pseudo
history_current-requires-in-Pseudo c =
    let x = c.in-Pseudo.field-0 in
    (x, branch_held _ c.args.case.now.parts _ c.args.at _ (OfPseudo x) c.requires.same.pseudos c.as_slice.ensures c.requires.there c.in-Pseudo.is)

pub history_currents-requires-in-Phase : goal.history_currents-requires-in-Phase
history_currents-requires-in-Phase c = rw (branch_held c.args.self.now.lines.case c.args.case.now.parts _ c.args.at _ (OfPhase c.in-Phase.field-0) c.requires.same.lines c.as_slice.ensures c.requires.there c.in-Phase.is) tt
