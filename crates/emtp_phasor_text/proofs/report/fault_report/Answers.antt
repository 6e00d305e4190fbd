use Rattle.std.proofs.Common.{◌∙◌, ap, subst, ◌++◌, FitsSigned, rules}
use mir.Syntax.{w128}
use Rattle.std.proofs.lemmas.Int.{to_z-of_z}
use Rattle.emtp_phasor.specs.held.Solving.{FaultsAt}
use Rattle.emtp_phasor_text.specs.Texts.{refusal_note, steady_end_note}
use Rattle.emtp_phasor_text.proofs.Told.{end_told, refused_told}
use Rattle.emtp_phasor_text.proofs.report.fault_report.Goals as goal

pub returns-in_ok-put_refusal-in-Refused : goal.returns-in_ok-put_refusal-in-Refused
returns-in_ok-put_refusal-in-Refused c =
    let case = c.args.case.now.parts in
    let known = subst (FaultsAt case c.args.given) c.in-Refused.is c.requires in
    refused_told case c.args.given c.in-Refused.line c.in-Refused.reason c.from_vec.result known
    (c.from_vec.ensures ∙ c.in_ok-put_refusal-in-Refused.ensures ∙ ap (λ l. l ++ refusal_note c.in-Refused.line c.in-Refused.reason) c.new-text.ensures.items)

pub returns-in_ok-put_end-in-Ended : goal.returns-in_ok-put_end-in-Ended
returns-in_ok-put_end-in-Ended c =
    let case = c.args.case.now.parts in
    let known = subst (FaultsAt case c.args.given) c.in-Ended.is c.requires in
    let fit : FitsSigned w128 c.in-Ended.measured = search rules in
    let put = rw (to_z-of_z w128 c.in-Ended.measured fit) at c.in_ok-put_end-in-Ended.ensures in
    end_told case c.args.given c.in-Ended.name c.in-Ended.cause c.in-Ended.measured c.from_vec-in-Ended.result known
    (c.from_vec-in-Ended.ensures ∙ put ∙ ap (λ l. l ++ steady_end_note c.in-Ended.cause c.in-Ended.name c.in-Ended.measured) c.new-text.ensures.items)
