use Rattle.std.proofs.Common.{◌≡◌, ◌∙◌, ap, sym, subst, [], ◌∷◌, unsigned_abs, ◌≤◌, ◌^◌, arith}
use Rattle.emtp_fix.proofs.Wide.{through}
use Rattle.emtp_lumped.specs.Companion.{companion_of}
use Rattle.emtp_lumped.specs.Step.{history_current_of}
use Rattle.emtp_lumped.specs.declared.companion.Companion.{Companion}
use Rattle.emtp_lumped.specs.Lumps.{newest}
use Rattle.emtp_lumped.specs.held.Held.{IsHeld}
use Rattle.emtp_lumped.specs.held.Lumps.{Lumping, IsSeries, StandsAt, branch_at}
use Rattle.emtp_lumped.specs.declared.held.HeldBranch.{HeldBranch}
use Rattle.emtp_lumped.proofs.Holding.{series_within, branch_read, held_read, history-small, shown}
use Rattle.emtp_lumped.proofs.lumps.Lumps.history_current.Goals as goal

pub history_current-requires : goal.history_current-requires
history_current-requires c =
    let case = c.self.inside.case.now.parts in
    let held = c.self.inside.held.items in
    let same : shown case (c.self.inside.held.cap ∷ []) held ≡ c.args.self.now = c.self.view_is in
    let series = subst (λ (s : Lumping). IsSeries s.case c.args.branch c.requires.0) (sym same) c.requires.1 in
    let within = series_within case held c.args.branch c.requires.0 c.self.invariant series in
    let read = branch_read held c.args.branch c.index.result.now within c.index.ensures in
    subst IsHeld (sym read) (held_read case held c.args.branch c.self.invariant within)

pub returns-clause-bound : goal.returns-clause-bound
returns-clause-bound c =
    let case = c.self.inside.case.now.parts in
    let held = c.self.inside.held.items in
    let same : shown case (c.self.inside.held.cap ∷ []) held ≡ c.args.self.now = c.self.view_is in
    let series = subst (λ (s : Lumping). IsSeries s.case c.args.branch c.requires.0) (sym same) c.requires.1 in
    let within = series_within case held c.args.branch c.requires.0 c.self.invariant series in
    let read = branch_read held c.args.branch c.index.result.now within c.index.ensures in
    let h = held_read case held c.args.branch c.self.invariant within in
    let is = c.history_current.ensures ∙ ap (λ (k : HeldBranch). history_current_of k.companion k.state) read in
    let small : unsigned_abs c.history_current.result ≤ 10 ^ 30 =
    omega (arith, ap unsigned_abs is, history-small (branch_at held c.args.branch).companion (branch_at held c.args.branch).state h.companion h.state) in
    rw (through c.history_current.result (omega (arith, small))) small

pub returns-clause-value : goal.returns-clause-value
returns-clause-value c = λ x past series' stands'.
    let case = c.self.inside.case.now.parts in
    let held = c.self.inside.held.items in
    let same : shown case (c.self.inside.held.cap ∷ []) held ≡ c.args.self.now = c.self.view_is in
    let series = subst (λ (s : Lumping). IsSeries s.case c.args.branch x) (sym same) series' in
    let stands = subst (λ (s : Lumping). StandsAt s c.args.branch past) (sym same) stands' in
    let within = series_within case held c.args.branch x c.self.invariant series in
    let read = branch_read held c.args.branch c.index.result.now within c.index.ensures in
    let h = held_read case held c.args.branch c.self.invariant within in
    let is = c.history_current.ensures ∙ ap (λ (k : HeldBranch). history_current_of k.companion k.state) read in
    let small : unsigned_abs c.history_current.result ≤ 10 ^ 30 =
    omega (arith, ap unsigned_abs is, history-small (branch_at held c.args.branch).companion (branch_at held c.args.branch).state h.companion h.state) in
    through c.history_current.result (omega (arith, small))
    ∙ is
    ∙ ap (λ (k : Companion). history_current_of k (branch_at held c.args.branch).state) (c.self.invariant.companions c.args.branch x series)
    ∙ ap (history_current_of (companion_of case.run.dt x)) stands.latest
    ∙ ap (λ (s : Lumping). history_current_of (companion_of s.case.run.dt x) (newest past)) same
