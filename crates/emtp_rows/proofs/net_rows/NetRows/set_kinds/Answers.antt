use Rattle.std.proofs.Common.{◌≡◌, ℕ, ◌∙◌, sym, ap, subst, List, [], ◌∷◌, length, arith}
use Rattle.std.proofs.Math.Nat.{min-le_left, min-eq_left}
use Rattle.emtp_case.specs.RowOrder.{order_of}
use Rattle.emtp_case.specs.declared.row_kind.RowKind.{RowKind}
use Rattle.emtp_case.specs.held.RowKinds.{AreKinds}
use Rattle.emtp_rows.specs.held.Touched.{NodalRows, Touches}
use Rattle.emtp_rows.proofs.Touching.{kinds_touch}
use Rattle.emtp_rows.proofs.net_rows.NetRows.set_kinds.Goals as goal

pub touched_by_kinds-row-requires : goal.touched_by_kinds-row-requires
touched_by_kinds-row-requires c =
    let size = ap (λ (s : NodalRows). length s.nodal.case.nodes) c.self.view_is in
    omega (arith, c.deref.ensures.len, c.self.invariant.kinds_are.count, c.requires.count, size)

pub invariant_of-self : goal.invariant_of-self
invariant_of-self c =
    let inside = c.self.inside in
    let P : NodalRows → Type 0 = λ s. AreKinds (length s.nodal.case.nodes) (order_of s.nodal.case).fixed c.args.kinds.now in
    let asked = subst P (sym c.self.view_is) c.requires in
    let Q : List RowKind → Type 0 = λ ks. AreKinds (length inside.case.now.parts.nodes) (order_of inside.case.now.parts).fixed ks in
    let written = subst Q (sym c.copy_from_slice.ensures.items) asked in
    record {
      fixed_is = c.self.invariant.fixed_is;
      touched_within = omega (arith, c.min-self-inside.ensures, min-le_left inside.touched c.touched_by_kinds-row.result, c.self.invariant.touched_within);
      ends_are = c.self.invariant.ends_are;
      rows_count = c.self.invariant.rows_count;
      terms = c.self.invariant.terms;
      own_count = c.self.invariant.own_count;
      own_small = c.self.invariant.own_small;
      mutual_count = c.self.invariant.mutual_count;
      mutual_small = c.self.invariant.mutual_small;
      kinds_are = rw c.self.invariant.fixed_is written;
    }

pub returns-clause-touched : goal.returns-clause-touched
returns-clause-touched c =
    let inside = c.self.inside in
    let seen : NodalRows = record { nodal = record { case = inside.case.now.parts; own = inside.own.items; coupling = inside.coupling.items; kinds = inside.kinds.items }; touched = inside.touched; capacities = inside.own.cap ∷ inside.coupling.cap ∷ inside.kinds.cap ∷ [] } in
    let size = ap (λ (s : NodalRows). length s.nodal.case.nodes) c.self.view_is in
    let new = c.copy_from_slice.new.self.items in
    let agrees = rw (c.deref.ensures.value, sym c.copy_from_slice.ensures.items) at c.touched_by_kinds-row.ensures.agrees in
    let left = inside.own.cap ∷ inside.coupling.cap ∷ c.copy_from_slice.new.self.cap ∷ [] in
    let touches = kinds_touch {capacities = left} seen new c.touched_by_kinds-row.result c.min-self-inside.result c.self.invariant.touched_within c.min-self-inside.ensures (ap length c.copy_from_slice.ensures.items ∙ c.requires.count ∙ sym size) agrees in
    let P : NodalRows → Type 0 = λ s. Touches s (record { nodal = record seen.nodal { kinds = new }; touched = c.min-self-inside.result; capacities = left }) in
    subst P c.self.view_is touches

pub returns-clause-same : goal.returns-clause-same
returns-clause-same c = λ same.
    let inside = c.self.inside in
    let kinds : inside.kinds.items ≡ c.args.self.now.nodal.kinds = ap (λ (s : NodalRows). s.nodal.kinds) c.self.view_is in
    let size = ap (λ (s : NodalRows). length s.nodal.case.nodes) c.self.view_is in
    let row = c.touched_by_kinds-row.ensures.same (c.deref.ensures.value ∙ kinds ∙ sym same) in
    let first : c.min-self-inside.result ≡ inside.touched = c.min-self-inside.ensures ∙ min-eq_left (omega (arith, row, c.requires.count, size, c.self.invariant.touched_within)) in
    let written : c.copy_from_slice.new.self.items ≡ inside.kinds.items = c.copy_from_slice.ensures.items ∙ same ∙ sym kinds in
    rw (first, written, c.copy_from_slice.ensures.capacity) c.self.view_is

pub returns-clause-capacities : goal.returns-clause-capacities
returns-clause-capacities c =
    let inside = c.self.inside in
    ap (λ (n : ℕ). inside.own.cap ∷ inside.coupling.cap ∷ n ∷ []) c.copy_from_slice.ensures.capacity ∙ ap (λ (s : NodalRows). s.capacities) c.self.view_is
