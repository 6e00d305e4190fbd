use Rattle.std.proofs.Common.{◌++◌, ◌∷◌, ◌∙◌, [], List, ap, codes, ℕ}
use Rattle.emtp_listing.specs.Lines.{lines_text, numbered}
use Rattle.emtp_listing.specs.Listing.{case_line, control_part, listed_lines, listing, name_line, network_lines, record_line, run_line}
use Rattle.emtp_listing.proofs.Chains.{lines_then, retext}
use Rattle.emtp_listing.proofs.sections.listing.Goals as goal

pub returns : goal.returns
unfolding listing
returns c =
    let p = c.args.case.now.parts in
    let ns = numbered (name_line (codes "node")) 1 p.nodes in
    let vs = numbered (name_line (codes "variable")) 0 p.vars in
    let all =
    lines_then (case_line p ∷ []) (run_line p.run ∷ record_line p ∷ (ns ++ (vs ++ (network_lines p ++ control_part p)))) c.in_ok-put_case.ensures
    (lines_then (run_line p.run ∷ []) (record_line p ∷ (ns ++ (vs ++ (network_lines p ++ control_part p)))) c.in_ok-put_run.ensures
    (lines_then (record_line p ∷ []) (ns ++ (vs ++ (network_lines p ++ control_part p))) c.in_ok-put_record.ensures
    (lines_then ns (vs ++ (network_lines p ++ control_part p)) (retext (ap (λ (xs : List (List ℕ)). lines_text (numbered (name_line (codes "node")) 1 xs)) c.as_slice.ensures) c.in_ok-put_names.ensures)
    (lines_then vs (network_lines p ++ control_part p) (retext (ap (λ (xs : List (List ℕ)). lines_text (numbered (name_line (codes "variable")) 0 xs)) c.as_slice-2.ensures) c.in_ok-put_names-2.ensures)
    (lines_then (network_lines p) (control_part p) c.in_ok-put_network.ensures c.in_ok-put_control.ensures))))) in
    all.is ∙ ap (λ (t : List ℕ). t ++ lines_text (listed_lines p)) c.new-out.ensures.items
