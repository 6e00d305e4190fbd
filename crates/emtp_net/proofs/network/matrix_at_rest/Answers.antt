use Rattle.std.proofs.Common.{◌≡◌, ◌∙◌, ◌∷◌, [], ap, length, pos}
use Rattle.std.proofs.lemmas.List.{length-replicate}
use Rattle.emtp_case.specs.StepRecord.{rest_of}
use Rattle.emtp_case.specs.declared.case.Parts.{Parts}
use Rattle.emtp_rows.specs.Nodal.{Nodal}
use Rattle.emtp_rows.specs.held.Terms.{nodal_at_rest}
use Rattle.emtp_net.specs.System.{conductances, couplings}
use Rattle.emtp_net.proofs.Resting.{rows_rest}
use Rattle.emtp_net.proofs.network.matrix_at_rest.Goals as goal

coupled : (case : Parts) (old new : Nodal) → new ≡ record old { coupling = couplings case } → old ≡ nodal_at_rest case → new ≡ record (nodal_at_rest case) { coupling = couplings case }
coupled case old new set rest = set ∙ ap (λ (n : Nodal). record n { coupling = couplings case }) rest

pub set_all_conductances-requires-clause-rows : goal.set_all_conductances-requires-clause-rows
set_all_conductances-requires-clause-rows c =
    ap (λ (n : Nodal). n.case) (coupled c.args.case.now.parts c.in_ok-rows.rows.nodal c.set_couplings.new.rows.nodal c.set_couplings.ensures c.in_ok-rows.ensures.nodal)

pub set_all_conductances-requires-clause-own : goal.set_all_conductances-requires-clause-own
set_all_conductances-requires-clause-own c =
    ap (λ (n : Nodal). length n.own) (coupled c.args.case.now.parts c.in_ok-rows.rows.nodal c.set_couplings.new.rows.nodal c.set_couplings.ensures c.in_ok-rows.ensures.nodal)
    ∙ length-replicate (length c.args.case.now.parts.branches) (pos 0)

pub returns-clause-rows : goal.returns-clause-rows
returns-clause-rows c =
    let case = c.args.case.now.parts in
    let H = rest_of case ∷ [] in
    rows_rest case H c.set_all_conductances.new.rows c.in_ok-kept.kept
    (c.set_all_conductances.ensures.set H c.requires.rest
    ∙ ap (λ (n : Nodal). record n { own = conductances case H }) (coupled case c.in_ok-rows.rows.nodal c.set_couplings.new.rows.nodal c.set_couplings.ensures c.in_ok-rows.ensures.nodal))
    c.in_ok-kept.ensures
