use Rattle.std.proofs.Common.{◌≡◌, ◌∙◌, ◌<◌, sym, ap, subst, [], ◌∷◌, length, slice_set, to_z, of_z, FitsSigned, refl, length-set, arith}
use mir.Syntax.{w64}
use Rattle.std.proofs.lemmas.Int.{ints, to_z-of_z}
use Rattle.std.proofs.lemmas.List.{length-map, set-get_or}
use Rattle.std.proofs.lemmas.List.Elements.{All-set}
use Rattle.emtp_rows.specs.held.Terms.{IsSmall, end_rows}
use Rattle.emtp_rows.specs.held.Touched.{NodalRows, Touches}
use Rattle.emtp_rows.proofs.Phases.{first_is, phase_there}
use Rattle.emtp_rows.proofs.Touching.{coupling_touches, ends_within, phases_later}
use Rattle.emtp_rows.proofs.net_rows.NetRows.set_mutual.Goals as goal

pub touched_by_phases-row-requires-clause-there : goal.touched_by_phases-row-requires-clause-there
touched_by_phases-row-requires-clause-there c =
    let inside = c.self.inside in
    let case = inside.case.now.parts in
    let there : c.args.trio < length case.trios = omega (arith, c.requires.there, ap (λ (s : NodalRows). length s.nodal.case.trios) c.self.view_is) in
    let last = phase_there case.branches case.trios c.args.trio 2 inside.case.now.fits.draft.network.in_threes there (omega arith) in
    let first = first_is case.trios c.args.trio (record { first = 0; zc = []; r = []; delay = [] }) there in
    rw c.as_slice.ensures (omega (arith, first, last, c.deref-then-index-g.ensures.len, ap length c.self.invariant.ends_are, length-map case.branches (end_rows case)))

pub touched_by_phases-row-requires-clause-rows : goal.touched_by_phases-row-requires-clause-rows
touched_by_phases-row-requires-clause-rows c = λ b e held.
    let inside = c.self.inside in
    let case = inside.case.now.parts in
    let within = ends_within case inside.ends.items b e c.self.invariant.ends_are (rw c.deref-then-index-g.ensures.value at held) in
    (omega (arith, within.0, c.deref.ensures.len, c.self.invariant.kinds_are.count), omega (arith, within.1, c.deref.ensures.len, c.self.invariant.kinds_are.count))

pub returns-then-index-g-clause-touched : goal.returns-then-index-g-clause-touched
returns-then-index-g-clause-touched c =
    let inside = c.self.inside in
    let case = inside.case.now.parts in
    let network = inside.case.now.fits.draft.network in
    let seen : NodalRows = record { nodal = record { case = case; own = inside.own.items; coupling = inside.coupling.items; kinds = inside.kinds.items }; touched = inside.touched; capacities = inside.own.cap ∷ inside.coupling.cap ∷ inside.kinds.cap ∷ [] } in
    let there : c.args.trio < length case.trios = omega (arith, c.requires.there, ap (λ (s : NodalRows). length s.nodal.case.trios) c.self.view_is) in
    let first = first_is case.trios c.args.trio (record { first = 0; zc = []; r = []; delay = [] }) there in
    let rows = rw (c.as_slice.ensures, sym first, c.deref.ensures.value, c.deref-then-index-g.ensures.value) at c.touched_by_phases-row.ensures in
    let later = phases_later case inside.kinds.items inside.ends.items c.args.trio c.touched_by_phases-row.result network.in_threes network.branches c.self.invariant.ends_are rows in
    let g = to_z w64 (of_z w64 c.args.g) in
    let left = seen.capacities in
    let touches = coupling_touches {capacities = left} seen c.args.trio c.touched_by_phases-row.result c.min-self-inside.result g c.self.invariant.touched_within c.min-self-inside.ensures later in
    let P : NodalRows → Type 0 = λ s. Touches s (record { nodal = record seen.nodal { coupling = slice_set seen.nodal.coupling c.args.trio g }; touched = c.min-self-inside.result; capacities = left }) in
    subst P c.self.view_is touches

pub returns-else-index-g-clause-nodal : goal.returns-else-index-g-clause-nodal
returns-else-index-g-clause-nodal c =
    let inside = c.self.inside in
    let seen : NodalRows = record { nodal = record { case = inside.case.now.parts; own = inside.own.items; coupling = inside.coupling.items; kinds = inside.kinds.items }; touched = inside.touched; capacities = inside.own.cap ∷ inside.coupling.cap ∷ inside.kinds.cap ∷ [] } in
    let there : c.args.trio < length inside.coupling.items = omega (arith, c.requires.there, ap (λ (s : NodalRows). length s.nodal.case.trios) c.self.view_is, c.self.invariant.mutual_count) in
    let now = c.index.result.now in
    let small : IsSmall now = subst IsSmall (sym c.index.ensures) (c.self.invariant.mutual_small c.args.trio now there) in
    let same : now ≡ c.args.g = omega (arith, ints, c.if-index-g.false, small) in
    let stays : slice_set inside.coupling.items c.args.trio c.args.g ≡ inside.coupling.items = ap (slice_set inside.coupling.items c.args.trio) (sym same ∙ c.index.ensures) ∙ set-get_or inside.coupling.items c.args.trio now in
    let P : NodalRows → Type 0 = λ s. s.nodal ≡ record s.nodal { coupling = slice_set s.nodal.coupling c.args.trio c.args.g } in
    subst P c.self.view_is (sym (ap (λ coupling. record seen.nodal { coupling = coupling }) stays))

pub invariant_of-self : goal.invariant_of-self
invariant_of-self c =
    let was = c.self.invariant in
    let coupling = c.self.inside.coupling.items in
    let g = to_z w64 (of_z w64 c.args.g) in
    let small : IsSmall g = omega (arith, ints, c.requires.small) in
    record {
      fixed_is = was.fixed_is;
      touched_within = omega (arith, was.touched_within, c.min-self-inside.ensures);
      ends_are = was.ends_are;
      rows_count = was.rows_count;
      terms = was.terms;
      own_count = was.own_count;
      own_small = was.own_small;
      mutual_count = length-set coupling c.args.trio g ∙ was.mutual_count;
      mutual_small = All-set IsSmall coupling c.args.trio g small was.mutual_small;
      kinds_are = was.kinds_are;
    }

pub returns-then-index-g-clause-nodal : goal.returns-then-index-g-clause-nodal
returns-then-index-g-clause-nodal c = let g : FitsSigned w64 c.args.g = c.ranges.g in rw (to_z-of_z w64 c.args.g g, ← c.self.view_is) refl

pub returns-else-index-g-clause-touched : goal.returns-else-index-g-clause-touched
returns-else-index-g-clause-touched c = record { earlier = omega arith; before = refl }

pub returns-else-index-g-clause-same : goal.returns-else-index-g-clause-same
returns-else-index-g-clause-same c = λ _. refl
