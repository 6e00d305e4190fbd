use Rattle.std.proofs.Common.{◌≡◌, ◌∙◌, ap, sym, subst, ◌<◌, length, FitsSigned, rules}
use mir.Syntax.{w64}
use Rattle.std.proofs.lemmas.Int.{to_z-of_z}
use Rattle.emtp_line.specs.Lines.{trio_of}
use Rattle.emtp_line.specs.held.Lines.{Lining}
use Rattle.emtp_line.specs.Phases.{modes_of, mutual_conductance}
use Rattle.emtp_line.specs.declared.held_trio.HeldTrio.{HeldTrio}
use Rattle.emtp_line.proofs.Holding.{shown}
use Rattle.emtp_line.proofs.Trios.{trio_within, trio_read, held_trio_read}
use Rattle.emtp_line.proofs.lines.Lines.mutual.Goals as goal

pub returns-clause-value : goal.returns-clause-value
returns-clause-value c =
    let seen : Lining = shown c.self.inside.case.now.parts c.self.inside.lines.cap c.self.inside.trios.cap c.self.inside.lines.items c.self.inside.trios.items in
    let same : seen ≡ c.args.self.now = c.self.view_is in
    let there = let P = λ (s : Lining). c.args.trio < length s.case.trios in subst P (sym same) c.requires in
    let within = trio_within seen.case seen.lines seen.trios c.args.trio c.self.invariant there in
    let read = trio_read seen.trios c.args.trio c.index.result.now within c.index.ensures in
    let held = held_trio_read seen.case seen.lines seen.trios c.args.trio c.self.invariant within in
    let g : FitsSigned w64 c.index.result.now.coupling = search rules in
    let P = λ (s : Lining). c.index.result.now.coupling ≡ mutual_conductance (modes_of s.case.run.dt (trio_of s.case c.args.trio)) in
    to_z-of_z w64 c.index.result.now.coupling g ∙ subst P same (ap (λ (x : HeldTrio). x.coupling) read ∙ held.coupling ∙ ap mutual_conductance (c.self.invariant.trio_modes c.args.trio there))
