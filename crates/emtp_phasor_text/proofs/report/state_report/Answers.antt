use Rattle.std.proofs.Common.{◌∙◌, ap, ◌++◌, FitsSigned, rules}
use mir.Syntax.{w64, w128}
use Rattle.std.proofs.lemmas.Int.{to_z-of_z}
use Rattle.emtp_phasor_text.specs.Texts.{steady_summary}
use Rattle.emtp_phasor_text.proofs.Told.{state_told}
use Rattle.emtp_phasor_text.proofs.report.state_report.Goals as goal

pub returns : goal.returns
returns c =
    let case = c.args.case.now.parts in
    let p = c.args.state.now in
    let f : FitsSigned w64 c.args.state.now.freq = search rules in
    let r : FitsSigned w128 c.args.state.now.residual = search rules in
    let put = rw (to_z-of_z w64 c.args.state.now.freq f, to_z-of_z w128 c.args.state.now.residual r, c.as_slice.ensures, c.deref.ensures.value) at c.in_ok-put_steady.ensures in
    state_told case c.args.given p c.from_vec.result c.requires
    (c.from_vec.ensures ∙ put ∙ ap (λ l. l ++ steady_summary case.nodes p.freq p.residual p.volts.items) c.new-text.ensures.items)
