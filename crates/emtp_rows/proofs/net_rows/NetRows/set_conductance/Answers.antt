use Rattle.std.proofs.Common.{◌≡◌, ◌∙◌, ◌<◌, pos, sym, ap, subst, [], ◌∷◌, length, get_or, slice_get, slice_set, Some, to_z, of_z, FitsSigned, refl, length-set, arith}
use mir.Syntax.{w64}
use Rattle.std.proofs.lemmas.Int.{ints, to_z-of_z}
use Rattle.std.proofs.lemmas.List.{set-get_or}
use Rattle.std.proofs.lemmas.List.Elements.{All-set}
use Rattle.std.proofs.lemmas.Option.{slice_get-get_or}
use Rattle.emtp_case.specs.declared.branch.Branch.TheVariants.{Lumped as OfLumped}
use Rattle.emtp_rows.specs.held.Terms.{IsSmall}
use Rattle.emtp_rows.specs.held.Touched.{NodalRows, Touches}
use Rattle.emtp_rows.proofs.Touching.{conductance_touches, ends_read, ends_within, later_at}
use Rattle.emtp_rows.proofs.net_rows.NetRows.set_conductance.Goals as goal

pub touched_by_branch-row-requires-clause-from_row : goal.touched_by_branch-row-requires-clause-from_row
touched_by_branch-row-requires-clause-from_row c =
    let inside = c.self.inside in
    let case = inside.case.now.parts in
    let there : c.args.branch < length case.branches = omega (arith, c.requires.there, ap (λ (s : NodalRows). length s.nodal.case.branches) c.self.view_is) in
    let e = c.index-then-index-g.result.now in
    let held = ends_read case inside.ends.items c.args.branch e c.self.invariant.ends_are there c.index-then-index-g.ensures in
    omega (arith, (ends_within case inside.ends.items c.args.branch e c.self.invariant.ends_are held).0, c.deref.ensures.len, c.self.invariant.kinds_are.count)

pub touched_by_branch-row-requires-clause-to_row : goal.touched_by_branch-row-requires-clause-to_row
touched_by_branch-row-requires-clause-to_row c =
    let inside = c.self.inside in
    let case = inside.case.now.parts in
    let there : c.args.branch < length case.branches = omega (arith, c.requires.there, ap (λ (s : NodalRows). length s.nodal.case.branches) c.self.view_is) in
    let e = c.index-then-index-g.result.now in
    let held = ends_read case inside.ends.items c.args.branch e c.self.invariant.ends_are there c.index-then-index-g.ensures in
    omega (arith, (ends_within case inside.ends.items c.args.branch e c.self.invariant.ends_are held).1, c.deref.ensures.len, c.self.invariant.kinds_are.count)

pub returns-then-index-g-clause-touched : goal.returns-then-index-g-clause-touched
returns-then-index-g-clause-touched c =
    let inside = c.self.inside in
    let case = inside.case.now.parts in
    let seen : NodalRows = record { nodal = record { case = case; own = inside.own.items; coupling = inside.coupling.items; kinds = inside.kinds.items }; touched = inside.touched; capacities = inside.own.cap ∷ inside.coupling.cap ∷ inside.kinds.cap ∷ [] } in
    let there : c.args.branch < length case.branches = omega (arith, c.requires.there, ap (λ (s : NodalRows). length s.nodal.case.branches) c.self.view_is) in
    let x = get_or case.branches c.args.branch (OfLumped (record { line = 0; from = 0; to = 0; r = pos 0; l = pos 0; c = pos 0 })) in
    let is : slice_get case.branches c.args.branch ≡ Some x = slice_get-get_or case.branches c.args.branch _ there in
    let e = c.index-then-index-g.result.now in
    let held = ends_read case inside.ends.items c.args.branch e c.self.invariant.ends_are there c.index-then-index-g.ensures in
    let at_from = rw c.deref.ensures.value at c.touched_by_branch-row.ensures.at_from in
    let at_to = rw c.deref.ensures.value at c.touched_by_branch-row.ensures.at_to in
    let later = later_at case inside.kinds.items inside.ends.items c.args.branch c.touched_by_branch-row.result x e c.self.invariant.ends_are is held at_from at_to in
    let g = to_z w64 (of_z w64 c.args.g) in
    let left = seen.capacities in
    let touches = conductance_touches {capacities = left} seen c.args.branch c.touched_by_branch-row.result c.min-self-inside.result x g c.self.invariant.touched_within c.min-self-inside.ensures is later in
    let P : NodalRows → Type 0 = λ s. Touches s (record { nodal = record seen.nodal { own = slice_set seen.nodal.own c.args.branch g }; touched = c.min-self-inside.result; capacities = left }) in
    subst P c.self.view_is touches

pub returns-else-index-g-clause-nodal : goal.returns-else-index-g-clause-nodal
returns-else-index-g-clause-nodal c =
    let inside = c.self.inside in
    let seen : NodalRows = record { nodal = record { case = inside.case.now.parts; own = inside.own.items; coupling = inside.coupling.items; kinds = inside.kinds.items }; touched = inside.touched; capacities = inside.own.cap ∷ inside.coupling.cap ∷ inside.kinds.cap ∷ [] } in
    let there : c.args.branch < length inside.own.items = omega (arith, c.requires.there, ap (λ (s : NodalRows). length s.nodal.case.branches) c.self.view_is, c.self.invariant.own_count) in
    let now = c.index.result.now in
    let small : IsSmall now = subst IsSmall (sym c.index.ensures) (c.self.invariant.own_small c.args.branch now there) in
    let same : now ≡ c.args.g = omega (arith, ints, c.if-index-g.false, small) in
    let stays : slice_set inside.own.items c.args.branch c.args.g ≡ inside.own.items = ap (slice_set inside.own.items c.args.branch) (sym same ∙ c.index.ensures) ∙ set-get_or inside.own.items c.args.branch now in
    let P : NodalRows → Type 0 = λ s. s.nodal ≡ record s.nodal { own = slice_set s.nodal.own c.args.branch c.args.g } in
    subst P c.self.view_is (sym (ap (λ own. record seen.nodal { own = own }) stays))

pub invariant_of-self : goal.invariant_of-self
invariant_of-self c =
    let was = c.self.invariant in
    let own = c.self.inside.own.items in
    let g = to_z w64 (of_z w64 c.args.g) in
    let small : IsSmall g = omega (arith, ints, c.requires.small) in
    record {
      fixed_is = was.fixed_is;
      touched_within = omega (arith, was.touched_within, c.min-self-inside.ensures);
      ends_are = was.ends_are;
      rows_count = was.rows_count;
      terms = was.terms;
      own_count = length-set own c.args.branch g ∙ was.own_count;
      own_small = All-set IsSmall own c.args.branch g small was.own_small;
      mutual_count = was.mutual_count;
      mutual_small = was.mutual_small;
      kinds_are = was.kinds_are;
    }

pub returns-then-index-g-clause-nodal : goal.returns-then-index-g-clause-nodal
returns-then-index-g-clause-nodal c = let g : FitsSigned w64 c.args.g = c.ranges.g in rw (to_z-of_z w64 c.args.g g, ← c.self.view_is) refl

pub returns-else-index-g-clause-touched : goal.returns-else-index-g-clause-touched
returns-else-index-g-clause-touched c = record { earlier = omega arith; before = refl }

pub returns-else-index-g-clause-same : goal.returns-else-index-g-clause-same
returns-else-index-g-clause-same c = λ _. refl
