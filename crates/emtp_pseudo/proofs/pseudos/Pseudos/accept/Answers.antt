use Rattle.std.proofs.Common.{subst, [], ◌∷◌, ◌-ℤ◌, slice_set, Ok, Err, to_z, of_z, FitsSigned, rules, arith}
use mir.Syntax.{w64, w128}
use Rattle.std.proofs.lemmas.Int.{to_z-of_z}
use Rattle.emtp_case.specs.declared.branch.Pseudo.{Pseudo}
use Rattle.emtp_pseudo.specs.held.Held.{IsHeld}
use Rattle.emtp_pseudo.specs.held.Pseudos.{HeldPseudos, Moves}
use Rattle.emtp_pseudo.proofs.Holding.{at_seen, there, held_read, own_held, own_card, held_set, apart_fits, moves-ok, moves-out, shown}
use Rattle.emtp_pseudo.proofs.pseudos.Pseudos.accept.Goals as goal

pub after-requires-clause-card : goal.after-requires-clause-card
after-requires-clause-card c =
    let at = at_seen c.self.inside.case.now.parts c.self.inside.held.items c.args.self.now c.args.branch c.requires.0 c.self.view_is c.requires.1 in
    let read = held_read c.self.inside.case.now.parts c.self.inside.held.items c.args.branch c.requires.0 c.index.result.now c.self.invariant at c.index.ensures in
    own_card c.self.inside.case.now.parts c.args.branch c.requires.0 c.index.result.now c.self.inside.case.now.fits at read

pub after-requires-clause-held : goal.after-requires-clause-held
after-requires-clause-held c =
    let at = at_seen c.self.inside.case.now.parts c.self.inside.held.items c.args.self.now c.args.branch c.requires.0 c.self.view_is c.requires.1 in
    let read = held_read c.self.inside.case.now.parts c.self.inside.held.items c.args.branch c.requires.0 c.index.result.now c.self.invariant at c.index.ensures in
    own_held c.self.inside.case.now.parts c.requires.0 c.index.result.now read

pub index_mut-requires : goal.index_mut-requires
index_mut-requires c =
    let at = at_seen c.self.inside.case.now.parts c.self.inside.held.items c.args.self.now c.args.branch c.requires.0 c.self.view_is c.requires.1 in
    omega (arith, there c.self.inside.case.now.parts c.self.inside.held.items c.args.branch c.requires.0 c.self.invariant at, c.self.inside.held.ok.0)

pub invariant_of-self : goal.invariant_of-self
invariant_of-self c =
    let at = at_seen c.self.inside.case.now.parts c.self.inside.held.items c.args.self.now c.args.branch c.requires.0 c.self.view_is c.requires.1 in
    let read = held_read c.self.inside.case.now.parts c.self.inside.held.items c.args.branch c.requires.0 c.index.result.now c.self.invariant at c.index.ensures in
    let case = c.self.inside.case.now.parts in
    held_set case c.self.inside.held.items c.args.branch c.requires.0 c.in-Some.held c.self.invariant at (let P = λ (y : Pseudo). IsHeld case y c.in-Some.held in subst P read.card c.in-Some.ensures.held)

pub returns-in-Some : goal.returns-in-Some
returns-in-Some c =
    let at = at_seen c.self.inside.case.now.parts c.self.inside.held.items c.args.self.now c.args.branch c.requires.0 c.self.view_is c.requires.1 in
    let case = c.self.inside.case.now.parts in
    let held = c.self.inside.held.items in
    let within = there case held c.args.branch c.requires.0 c.self.invariant at in
    let v : FitsSigned w64 c.args.v = c.ranges.v in
    let w : FitsSigned w64 c.args.w = c.ranges.w in
    let v' : FitsSigned w128 c.args.v = search rules in
    let w' : FitsSigned w128 c.args.w = search rules in
    let dv : FitsSigned w128 (c.args.v -ℤ c.args.w) = apart_fits c.args.v c.args.w v w in
    let value = simp to_z-of_z at c.in-Some.ensures.value in
    let left : HeldPseudos = shown case (c.self.inside.held.cap ∷ []) (slice_set held c.args.branch c.in-Some.held) in
    let i : FitsSigned w64 c.in-Some.held.moment.state.current = search rules in
    subst (λ (s : HeldPseudos). Moves s left c.args.branch (c.args.v -ℤ c.args.w) (Ok (to_z w64 (of_z w64 c.in-Some.held.moment.state.current)))) c.self.view_is
    (moves-ok case held c.args.branch c.index.result.now c.in-Some.held (c.args.v -ℤ c.args.w) (to_z w64 (of_z w64 c.in-Some.held.moment.state.current)) c.self.invariant within c.index.ensures value (to_z-of_z w64 c.in-Some.held.moment.state.current i))

pub returns-in-None : goal.returns-in-None
returns-in-None c =
    let case = c.self.inside.case.now.parts in
    let held = c.self.inside.held.items in
    let v : FitsSigned w64 c.args.v = c.ranges.v in
    let w : FitsSigned w64 c.args.w = c.ranges.w in
    let v' : FitsSigned w128 c.args.v = search rules in
    let w' : FitsSigned w128 c.args.w = search rules in
    let dv : FitsSigned w128 (c.args.v -ℤ c.args.w) = apart_fits c.args.v c.args.w v w in
    let value = simp to_z-of_z at c.in-None.ensures.value in
    subst (λ (s : HeldPseudos). Moves s s c.args.branch (c.args.v -ℤ c.args.w) (Err (record {}))) c.self.view_is
    (moves-out case held c.args.branch c.index.result.now (c.args.v -ℤ c.args.w) (record {}) c.self.invariant c.index.ensures value)
