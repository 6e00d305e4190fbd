use Rattle.std.proofs.Common.{◌≡◌, ◌∙◌, ◌<◌, ◌+◌, ◌∷◌, sym, ap, to_z, of_z, length, slice_get, Some, rules, arith}
use mir.Syntax.{w64, w128}
use Rattle.std.proofs.lemmas.Int.{to_z-of_z}
use Rattle.emtp_case.specs.Branch.{first_of_trio}
use Rattle.emtp_case.specs.StepRecord.{phase_state_at}
use Rattle.emtp_case.specs.declared.branch.Branch.TheVariants.{Lumped as OfLumped, Line as OfLine, Pseudo as OfPseudo, Phase as OfPhase}
use Rattle.emtp_case.specs.declared.branch.PhaseState.{PhaseState}
use Rattle.emtp_case.specs.declared.case.Parts.{Parts}
use Rattle.emtp_elim.specs.Matrix.{item}
use Rattle.emtp_line.specs.Line.{next_state as next_line}
use Rattle.emtp_line.specs.Lines as lined
use Rattle.emtp_line.specs.Mode.{mode_of_line}
use Rattle.emtp_net.proofs.Bringing.{line_brings, lumped_brings, phase_brings, pseudo_brings}
use Rattle.emtp_net.proofs.Moves.{phase_read}
use Rattle.emtp_case.proofs.RowsOfNodes.{branch_read}
use Rattle.emtp_net.proofs.Nodes.{branch_fits, branch_in, branch_held}
use Rattle.emtp_net.proofs.PhaseMoves.{phase_next}
use Rattle.emtp_net.specs.System.{taken, through}
use Rattle.emtp_net.specs.Part.{state_by}
use Rattle.emtp_net.proofs.branches.Branches.brought.Goals as goal

pub returns-in-Lumped-clause-value : goal.returns-in-Lumped-clause-value
returns-in-Lumped-clause-value c = λ H vs r next moved.
    let case = c.args.case.now.parts in
    let at = c.args.at in
    let x = c.in-Lumped.field-0 in
    let is : slice_get case.branches at ≡ Some (OfLumped x) = branch_read case _ at _ (OfLumped x) c.as_slice.ensures c.requires.there c.in-Lumped.is in
    let i = item c.args.currents.now at in
    let same = to_z-of_z w128 (to_z w64 (of_z w64 i)) (search rules) ∙ to_z-of_z w64 i (search rules) in
    c.through.ensures.value ∙ ap through same ∙ lumped_brings case H vs c.args.currents.now r c.args.self.now at x c.requires.there is next moved

pub returns-in-Pseudo-clause-value : goal.returns-in-Pseudo-clause-value
returns-in-Pseudo-clause-value c = λ H vs r next moved.
    let case = c.args.case.now.parts in
    let at = c.args.at in
    let x = c.in-Pseudo.field-0 in
    let is : slice_get case.branches at ≡ Some (OfPseudo x) = branch_read case _ at _ (OfPseudo x) c.as_slice.ensures c.requires.there c.in-Pseudo.is in
    let i = item c.args.currents.now at in
    let same = to_z-of_z w128 (to_z w64 (of_z w64 i)) (search rules) ∙ to_z-of_z w64 i (search rules) in
    c.through-in-Pseudo.ensures.value ∙ ap through same ∙ pseudo_brings case H vs c.args.currents.now r c.args.self.now at x c.requires.there is next moved

pub returns-in-Line-clause-value : goal.returns-in-Line-clause-value
returns-in-Line-clause-value c = λ H vs r next moved.
    let case = c.args.case.now.parts in
    let at = c.args.at in
    let x = c.in-Line.field-0 in
    let is : slice_get case.branches at ≡ Some (OfLine x) = branch_read case _ at _ (OfLine x) c.as_slice.ensures c.requires.there c.in-Line.is in
    let held = branch_in c.args.self.now.lines.case case at (OfLine x) c.requires.same.lines is in
    let stands = moved.stands r next in
    let value = c.end_currents.ensures.line x (lined.states_of at (r ∷ H)) held (stands.lines.lines at x held) in
    c.taken.ensures.value ∙ ap taken (c.wide.ensures.value ∙ value) ∙ line_brings case H vs c.args.currents.now r c.args.self.now at x (next_line (mode_of_line case.run.dt x) (lined.states_of at H) (item vs x.from) (item vs x.to)) c.requires.there (ap (state_by case H vs at) is) next moved

pub returns-in-Phase-clause-value : goal.returns-in-Phase-clause-value
returns-in-Phase-clause-value c = λ H vs r next moved.
    let case = c.args.case.now.parts in
    let at = c.args.at in
    let x = c.in-Phase.field-0 in
    let is : slice_get case.branches at ≡ Some (OfPhase x) = branch_read case _ at _ (OfPhase x) c.as_slice.ensures c.requires.there c.in-Phase.is in
    let network = c.args.case.now.fits.draft.network in
    let held = branch_in c.args.self.now.lines.case case at (OfPhase x) c.requires.same.lines is in
    let fits = branch_fits case at (OfPhase x) network.branches c.requires.there is in
    let stands = moved.stands r next in
    let there : x.trio < length c.args.self.now.lines.case.trios = omega (arith, fits.trio, ap (λ (p : Parts). length p.trios) c.requires.same.lines) in
    let place : at ≡ first_of_trio case.trios x.trio + x.phase = network.in_threes.places at x.trio x.phase (phase_read case at (OfPhase x) c.requires.there is) in
    let value = c.end_currents-in-Phase.ensures.phase x (lined.phase_states_of c.args.self.now.lines.case x.trio (r ∷ H)) held (stands.lines.trios x.trio there) in
    let newest : phase_state_at (first_of_trio c.args.self.now.lines.case.trios x.trio + x.phase) r ≡ phase_state_at at r = ap (λ (p : Parts). phase_state_at (first_of_trio p.trios x.trio + x.phase) r) c.requires.same.lines ∙ ap (λ n. phase_state_at n r) (sym place) in
    c.taken-in-Phase.ensures.value ∙ ap taken (c.wide-in-Phase.ensures.value ∙ value) ∙ ap (λ (z : PhaseState). taken (z.from_current, z.to_current)) newest
    ∙ phase_brings case H vs c.args.currents.now r c.args.self.now at (phase_next case H vs x.trio x.phase) c.requires.there (ap (state_by case H vs at) is) next moved

pub end_currents-requires : goal.end_currents-requires
end_currents-requires c = rw (branch_held c.args.self.now.lines.case c.args.case.now.parts _ c.args.at _ (OfLine c.in-Line.field-0) c.requires.same.lines c.as_slice.ensures c.requires.there c.in-Line.is) tt

pub end_currents-requires-in-Phase : goal.end_currents-requires-in-Phase
end_currents-requires-in-Phase c = rw (branch_held c.args.self.now.lines.case c.args.case.now.parts _ c.args.at _ (OfPhase c.in-Phase.field-0) c.requires.same.lines c.as_slice.ensures c.requires.there c.in-Phase.is) tt
