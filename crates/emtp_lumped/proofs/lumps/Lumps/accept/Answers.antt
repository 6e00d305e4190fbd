use Rattle.std.proofs.Common.{◌≡◌, ◌∙◌, refl, ap, sym, subst, [], ◌∷◌, ◌-ℤ◌, List, slice_set, Ok, Err, FitsSigned, to_z, of_z, rules}
use mir.Syntax.{w64}
use Rattle.std.proofs.lemmas.Int.{to_z-of_z}
use Rattle.std.proofs.lemmas.List.{set-get_or}
use Rattle.emtp_lumped.specs.held.Lumps.{Lumping, Moves, no_companion}
use Rattle.emtp_lumped.specs.held.Held.{held_at_rest}
use Rattle.emtp_lumped.specs.Step.{next_state}
use Rattle.emtp_lumped.specs.declared.held.HeldBranch.{HeldBranch}
use Rattle.emtp_lumped.proofs.Holding.{seen_within, branch_read, lumping-set, moves-ok, moves-out, shown}
use Rattle.emtp_lumped.proofs.lumps.Lumps.accept.Goals as goal

pub returns-then-not-step : goal.returns-then-not-step
returns-then-not-step c =
    let p = c.self.inside.case.now.parts in
    let held = c.self.inside.held.items in
    let v : FitsSigned w64 c.args.v = c.ranges.v in
    let w : FitsSigned w64 c.args.w = c.ranges.w in
    let within = seen_within p held c.args.self.now c.args.branch c.requires.0 c.self.view_is c.self.invariant c.requires.1 in
    let read = branch_read held c.args.branch c.index_mut-held.result.now within c.index_mut-held.ensures.value in
    let out = simp to_z-of_z at (c.if-not-step.ensures.out refl) in
    let none = sym (ap (λ (k : HeldBranch). next_state k.companion k.state (c.args.v -ℤ c.args.w)) read) ∙ out in
    let same : slice_set held c.args.branch c.step.new.self ≡ held = ap (slice_set held c.args.branch) (c.if-not-step.ensures.same refl ∙ read) ∙ set-get_or held c.args.branch (held_at_rest no_companion) in
    subst (λ (s : Lumping). Moves s (shown p (c.self.inside.held.cap ∷ []) (slice_set held c.args.branch c.step.new.self)) c.args.branch (c.args.v -ℤ c.args.w) (Err (record {}))) c.self.view_is
    (subst (λ (hs : List HeldBranch). Moves (shown p (c.self.inside.held.cap ∷ []) held) (shown p (c.self.inside.held.cap ∷ []) hs) c.args.branch (c.args.v -ℤ c.args.w) (Err (record {}))) (sym same)
    (moves-out p held c.args.branch (c.args.v -ℤ c.args.w) (record {}) c.self.invariant none))

pub invariant_of-self-2 : goal.invariant_of-self-2
invariant_of-self-2 c =
    let p = c.self.inside.case.now.parts in
    let held = c.self.inside.held.items in
    let within = seen_within p held c.args.self.now c.args.branch c.requires.0 c.self.view_is c.self.invariant c.requires.1 in
    let read = branch_read held c.args.branch c.index_mut-held.result.now within c.index_mut-held.ensures.value in
    lumping-set p held c.args.branch c.step.new.self c.self.invariant within (c.step.ensures.companion ∙ ap (λ (k : HeldBranch). k.companion) read) c.step.ensures.held

pub returns : goal.returns
returns c =
    let p = c.self.inside.case.now.parts in
    let held = c.self.inside.held.items in
    let v : FitsSigned w64 c.args.v = c.ranges.v in
    let w : FitsSigned w64 c.args.w = c.ranges.w in
    let within = seen_within p held c.args.self.now c.args.branch c.requires.0 c.self.view_is c.self.invariant c.requires.1 in
    let read = branch_read held c.args.branch c.index_mut-held.result.now within c.index_mut-held.ensures.value in
    let moved = simp to_z-of_z at (c.if-not-step.ensures.moved refl) in
    let after = sym (ap (λ (k : HeldBranch). next_state k.companion k.state (c.args.v -ℤ c.args.w)) read) ∙ moved in
    let left : Lumping = shown p (c.self.inside.held.cap ∷ []) (slice_set held c.args.branch c.step.new.self) in
    let i : FitsSigned w64 c.step.new.self.state.current = search rules in
    subst (λ (s : Lumping). Moves s left c.args.branch (c.args.v -ℤ c.args.w) (Ok (to_z w64 (of_z w64 c.step.new.self.state.current)))) c.self.view_is
    (moves-ok p held c.args.branch (c.args.v -ℤ c.args.w) (to_z w64 (of_z w64 c.step.new.self.state.current)) c.step.new.self c.self.invariant within after (to_z-of_z w64 c.step.new.self.state.current i))
