use Rattle.std.proofs.Common.{◌≡◌, ◌∙◌, ◌+◌, ℕ, List, [], ◌∷◌, length, sym, subst, refl, arith}
use Rattle.emtp_case.specs.StepRecord.{StepRecord, latest, pseudo_at}
use Rattle.emtp_case.specs.declared.branch.Pseudo.{Pseudo}
use Rattle.emtp_case.specs.declared.case.Parts.{Parts}
use Rattle.emtp_pseudo.specs.Pseudos.{moments_of, newest}
use Rattle.emtp_pseudo.specs.held.Pseudos.{IsPseudoAt}
use Rattle.emtp_net.proofs.Holding.{seen}
use Rattle.emtp_net.specs.held.Branches.{HasCase}
use Rattle.emtp_net.specs.held.Network.{Net, StandsFor}
use Rattle.emtp_net.specs.declared.branches.Branches.{Branches}
use Rattle.emtp_net.proofs.network.Network.pseudo.Goals as goal

-- the newest of what some records say of a branch is what the last one keeps
last_state : (x : Pseudo) (b made : ℕ) (H : List StepRecord) → made + 1 ≡ length H → (newest (moments_of x b H)).state ≡ pseudo_at b (latest H)
last_state x b made [] long = absurd (omega (arith, long))
last_state x b made (r ∷ past) long = refl

-- the branch is one of the case that the laws have
there : (m now : Net) (branches : Branches) (b : ℕ) (x : Pseudo) → m ≡ now → HasCase branches m.case → IsPseudoAt now.case b x → IsPseudoAt branches.pseudos.case b x
there m now branches b x view has at =
    subst (λ (p : Parts). IsPseudoAt p b x) (sym has.pseudos) (subst (λ (n : Net). IsPseudoAt n.case b x) (sym view) at)

pub state-requires : goal.state-requires
state-requires c =
    let s = c.self.inside in
    (c.requires.0, there (seen s) c.args.self.now s.branches c.args.branch c.requires.0 c.self.view_is c.self.invariant.branches_case c.requires.1)

pub returns-clause-value : goal.returns-clause-value
returns-clause-value c = λ H stands.
    let s = c.self.inside in
    let x = c.requires.0 in
    let stood : StandsFor (seen s) H = subst (λ (n : Net). StandsFor n H) (sym c.self.view_is) stands in
    let at = there (seen s) c.args.self.now s.branches c.args.branch x c.self.view_is c.self.invariant.branches_case c.requires.1 in
    c.state.ensures.value (moments_of x c.args.branch H) (stood.branches.pseudos c.args.branch x at) ∙ last_state x c.args.branch s.made H stood.steps
