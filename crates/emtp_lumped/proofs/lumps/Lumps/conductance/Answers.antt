use Rattle.std.proofs.Common.{◌≡◌, ◌∙◌, ap, sym, subst, [], ◌∷◌, FitsSigned, rules}
use mir.Syntax.{w64}
use Rattle.std.proofs.lemmas.Int.{to_z-of_z}
use Rattle.emtp_case.specs.held.Range.{IsBetween}
use Rattle.emtp_fix.specs.declared.limit.TheConstants.{LARGEST_ENTRY}
use Rattle.emtp_lumped.specs.Companion.{companion_of}
use Rattle.emtp_lumped.specs.declared.companion.Companion.{Companion}
use Rattle.emtp_lumped.specs.held.Lumps.{Lumping, IsSeries}
use Rattle.emtp_lumped.specs.declared.held.HeldBranch.{HeldBranch}
use Rattle.emtp_lumped.proofs.Holding.{series_within, branch_read, held_read, shown}
use Rattle.emtp_lumped.proofs.lumps.Lumps.conductance.Goals as goal

pub returns-clause-bound : goal.returns-clause-bound
returns-clause-bound c =
    let case = c.self.inside.case.now.parts in
    let held = c.self.inside.held.items in
    let same : shown case (c.self.inside.held.cap ∷ []) held ≡ c.args.self.now = c.self.view_is in
    let series = subst (λ (s : Lumping). IsSeries s.case c.args.branch c.requires.0) (sym same) c.requires.1 in
    let within = series_within case held c.args.branch c.requires.0 c.self.invariant series in
    let read = branch_read held c.args.branch c.index.result.now within c.index.ensures in
    let range = (held_read case held c.args.branch c.self.invariant within).companion.conductance in
    let g : FitsSigned w64 c.index.result.now.companion.conductance = search rules in
    subst (IsBetween 0 LARGEST_ENTRY) (sym (to_z-of_z w64 c.index.result.now.companion.conductance g ∙ ap (λ (k : HeldBranch). k.companion.conductance) read)) range

pub returns-clause-value : goal.returns-clause-value
returns-clause-value c = λ x series'.
    let case = c.self.inside.case.now.parts in
    let held = c.self.inside.held.items in
    let same : shown case (c.self.inside.held.cap ∷ []) held ≡ c.args.self.now = c.self.view_is in
    let series = subst (λ (s : Lumping). IsSeries s.case c.args.branch x) (sym same) series' in
    let within = series_within case held c.args.branch x c.self.invariant series in
    let read = branch_read held c.args.branch c.index.result.now within c.index.ensures in
    let g : FitsSigned w64 c.index.result.now.companion.conductance = search rules in
    to_z-of_z w64 c.index.result.now.companion.conductance g
    ∙ ap (λ (k : HeldBranch). k.companion.conductance) read
    ∙ ap (λ (k : Companion). k.conductance) (c.self.invariant.companions c.args.branch x series)
    ∙ ap (λ (s : Lumping). (companion_of s.case.run.dt x).conductance) same
