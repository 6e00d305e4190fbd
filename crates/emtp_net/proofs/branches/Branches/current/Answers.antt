use Rattle.std.proofs.Common.{◌≡◌, ◌∙◌, ◌<◌, ◌+◌, ◌∷◌, sym, ap, length, slice_get, Some, ℤ, to_z, of_z, rules, arith}
use mir.Syntax.{w64}
use Rattle.std.proofs.lemmas.Int.{ints, to_z-of_z}
use Rattle.emtp_case.specs.Branch.{first_of_trio}
use Rattle.emtp_case.specs.StepRecord.{phase_state_at}
use Rattle.emtp_case.specs.declared.branch.Branch.TheVariants.{Line as OfLine, Lumped as OfLumped, Phase as OfPhase, Pseudo as OfPseudo}
use Rattle.emtp_case.specs.declared.branch.PhaseState.{PhaseState}
use Rattle.emtp_case.specs.declared.case.Parts.{Parts}
use Rattle.emtp_elim.specs.Matrix.{item}
use Rattle.emtp_line.specs.Lines as lined
use Rattle.emtp_net.proofs.Moves.{phase_read}
use Rattle.emtp_case.proofs.RowsOfNodes.{branch_read}
use Rattle.emtp_net.proofs.Nodes.{branch_fits, branch_in, branch_held}
use Rattle.emtp_net.proofs.branches.Branches.current.Goals as goal

pub returns-in-Lumped : goal.returns-in-Lumped
returns-in-Lumped c = λ r past stands currents lines.
    let at = c.args.at in
    let x = c.in-Lumped.field-0 in
    let is = branch_read c.args.case.now.parts _ at _ (OfLumped x) c.as_slice.ensures c.requires.there c.in-Lumped.is in
    to_z-of_z w64 (item c.args.currents.now at) (search rules) ∙ currents.lumps at x c.requires.there is

pub returns-in-Pseudo : goal.returns-in-Pseudo
returns-in-Pseudo c = λ r past stands currents lines.
    let at = c.args.at in
    let x = c.in-Pseudo.field-0 in
    let is = branch_read c.args.case.now.parts _ at _ (OfPseudo x) c.as_slice.ensures c.requires.there c.in-Pseudo.is in
    to_z-of_z w64 (item c.args.currents.now at) (search rules) ∙ currents.pseudos at x c.requires.there is

pub returns-in-Line : goal.returns-in-Line
returns-in-Line c = λ r past stands currents lines.
    let at = c.args.at in
    let x = c.in-Line.field-0 in
    let is = branch_read c.args.case.now.parts _ at _ (OfLine x) c.as_slice.ensures c.requires.there c.in-Line.is in
    let held = branch_in c.args.self.now.lines.case c.args.case.now.parts at (OfLine x) c.requires.same.lines is in
    let value = c.end_currents.ensures.line x (lined.states_of at (r ∷ past)) held (stands.lines.lines at x held) in
    let wide : to_z w64 (of_z w64 c.end_currents.result.0) ≡ c.end_currents.result.0 = omega (arith, ints, c.end_currents.ensures.from_bound) in
    wide ∙ ap (λ (p : ℤ × ℤ). p.0) value ∙ sym (lines.lines at x is)

pub returns-in-Phase : goal.returns-in-Phase
returns-in-Phase c = λ r past stands currents lines.
    let case = c.args.case.now.parts in
    let at = c.args.at in
    let x = c.in-Phase.field-0 in
    let network = c.args.case.now.fits.draft.network in
    let is : slice_get case.branches at ≡ Some (OfPhase x) = branch_read case _ at _ (OfPhase x) c.as_slice.ensures c.requires.there c.in-Phase.is in
    let held = branch_in c.args.self.now.lines.case case at (OfPhase x) c.requires.same.lines is in
    let fits = branch_fits case at (OfPhase x) network.branches c.requires.there is in
    let there : x.trio < length c.args.self.now.lines.case.trios = omega (arith, fits.trio, ap (λ (p : Parts). length p.trios) c.requires.same.lines) in
    let place : at ≡ first_of_trio case.trios x.trio + x.phase = network.in_threes.places at x.trio x.phase (phase_read case at (OfPhase x) c.requires.there is) in
    let value = c.end_currents-in-Phase.ensures.phase x (lined.phase_states_of c.args.self.now.lines.case x.trio (r ∷ past)) held (stands.lines.trios x.trio there) in
    let newest : phase_state_at (first_of_trio c.args.self.now.lines.case.trios x.trio + x.phase) r ≡ phase_state_at at r = ap (λ (p : Parts). phase_state_at (first_of_trio p.trios x.trio + x.phase) r) c.requires.same.lines ∙ ap (λ n. phase_state_at n r) (sym place) in
    let wide : to_z w64 (of_z w64 c.end_currents-in-Phase.result.0) ≡ c.end_currents-in-Phase.result.0 = omega (arith, ints, c.end_currents-in-Phase.ensures.from_bound) in
    wide ∙ ap (λ (p : ℤ × ℤ). p.0) value ∙ ap (λ (z : PhaseState). z.from_current) newest ∙ sym (lines.phases at x is)

pub end_currents-requires : goal.end_currents-requires
end_currents-requires c = rw (branch_held c.args.self.now.lines.case c.args.case.now.parts _ c.args.at _ (OfLine c.in-Line.field-0) c.requires.same.lines c.as_slice.ensures c.requires.there c.in-Line.is) tt

pub end_currents-requires-in-Phase : goal.end_currents-requires-in-Phase
end_currents-requires-in-Phase c = rw (branch_held c.args.self.now.lines.case c.args.case.now.parts _ c.args.at _ (OfPhase c.in-Phase.field-0) c.requires.same.lines c.as_slice.ensures c.requires.there c.in-Phase.is) tt
