use Rattle.std.proofs.Common.{◌≡◌, ◌∙◌, ◌<◌, sym, ap, subst, refl, pos, length, length-set, slice_set, get_or-set_same, get_or-set_other, to_z, of_z, arith}
use mir.Syntax.{w64}
use Rattle.std.proofs.lemmas.Int.{ints}
use Rattle.emtp_case.specs.declared.case.Parts.{Parts}
use Rattle.emtp_elim.specs.Matrix.{item}
use Rattle.emtp_net.proofs.Conductances.{fixed_at, stays_at}
use Rattle.emtp_net.specs.held.Holding.{HasFixed}
use Rattle.emtp_rows.specs.Nodal.{Nodal}
use Rattle.emtp_net.proofs.factor.set_pseudo.Goals as goal

pub set_conductance-requires-clause-there : goal.set_conductance-requires-clause-there
set_conductance-requires-clause-there c = omega (arith, c.requires.there, ap (λ (p : Parts). length p.branches) c.requires.rows)

-- what is set
record IsSet (c : goal.After-set_conductance) : Type 0 where
  nodal : c.set_conductance.new.self.nodal ≡ record c.args.rows.now.nodal { own = slice_set c.args.rows.now.nodal.own c.args.at c.conductance.result }
  inside : c.args.at < length c.args.rows.now.nodal.own

is_set : (c : goal.After-set_conductance) → IsSet c
is_set c =
    let g = c.conductance.result in
    let wide : to_z w64 (of_z w64 g) ≡ g = omega (arith, ints, c.conductance.ensures.small) in
    record { nodal = rw wide at c.set_conductance.ensures.nodal; inside = omega (arith, c.requires.own, c.requires.there) }

pub returns-then-is_pseudo-clause-value : goal.returns-then-is_pseudo-clause-value
returns-then-is_pseudo-clause-value c = λ H stands.
    let s = is_set c in
    ap (λ (n : Nodal). item n.own c.args.at) s.nodal ∙ get_or-set_same c.args.rows.now.nodal.own c.args.at c.conductance.result (pos 0) s.inside ∙ c.conductance.ensures.value H stands

pub returns-then-is_pseudo-clause-others : goal.returns-then-is_pseudo-clause-others
returns-then-is_pseudo-clause-others c = λ b ne.
    ap (λ (n : Nodal). item n.own b) (is_set c).nodal ∙ get_or-set_other c.args.rows.now.nodal.own c.args.at b c.conductance.result (pos 0) ne

pub returns-then-is_pseudo-clause-fixed : goal.returns-then-is_pseudo-clause-fixed
returns-then-is_pseudo-clause-fixed c =
    let case = c.args.case.now.parts in
    let own = c.args.rows.now.nodal.own in
    let fixed = fixed_at case own c.as_slice.result.now c.args.at _ c.is_pseudo.result c.conductance.result c.requires.fixed c.as_slice.ensures c.requires.there c.is_pseudo.ensures c.if-is_pseudo.true in
    subst (HasFixed case) (sym (ap (λ (n : Nodal). n.own) (is_set c).nodal)) fixed

pub returns-then-is_pseudo-clause-touched : goal.returns-then-is_pseudo-clause-touched
returns-then-is_pseudo-clause-touched c = c.set_conductance.ensures.touched

pub returns-then-is_pseudo-clause-rest : goal.returns-then-is_pseudo-clause-rest
returns-then-is_pseudo-clause-rest c =
    let s = is_set c in
    s.nodal ∙ ap (λ xs. record c.args.rows.now.nodal { own = xs }) (sym (ap (λ (n : Nodal). n.own) s.nodal))

pub returns-then-is_pseudo-clause-room : goal.returns-then-is_pseudo-clause-room
returns-then-is_pseudo-clause-room c = ap (λ (n : Nodal). length n.own) (is_set c).nodal ∙ length-set c.args.rows.now.nodal.own c.args.at c.conductance.result ∙ c.requires.own

pub returns-else-is_pseudo-clause-value : goal.returns-else-is_pseudo-clause-value
returns-else-is_pseudo-clause-value c = λ H stands.
    stays_at c.args.case.now.parts H c.args.rows.now.nodal.own c.as_slice.result.now c.args.at _ c.is_pseudo.result c.requires.fixed c.as_slice.ensures c.requires.there c.is_pseudo.ensures c.if-is_pseudo.false

pub returns-else-is_pseudo-clause-others : goal.returns-else-is_pseudo-clause-others
returns-else-is_pseudo-clause-others c = λ b ne. refl

pub returns-else-is_pseudo-clause-fixed : goal.returns-else-is_pseudo-clause-fixed
returns-else-is_pseudo-clause-fixed c = c.requires.fixed

pub returns-else-is_pseudo-clause-touched : goal.returns-else-is_pseudo-clause-touched
returns-else-is_pseudo-clause-touched c = record { earlier = omega arith; before = refl }
