use Rattle.std.proofs.Common.{◌≡◌, ◌∙◌, ◌<◌, ◌≤◌, ◌^◌, ℕ, ℤ, List, sym, ap, subst, length, unsigned_abs, refl, arith}
use Rattle.std.specs.Vec.{with_items}
use Rattle.std.proofs.lemmas.List.{with_items_is}
use Rattle.emtp_case.specs.declared.case.Parts.{Parts}
use Rattle.emtp_elim.specs.Matrix.{item}
use Rattle.emtp_net.specs.held.Holding.{HasRoom}
use Rattle.emtp_net.specs.Part.{leaving_rows}
use Rattle.emtp_net.specs.declared.nodal_system.NodalSystem.{NodalSystem}
use Rattle.emtp_net.proofs.Moves.{is_next, next_record}
use Rattle.emtp_net.proofs.nodal_system.NodalSystem.find_leaving.Goals as goal

room : (case : Parts) (s : NodalSystem) (l : List ℤ) → HasRoom case s → length l ≡ length s.right.items → (with_items s.right l).items ≡ l → HasRoom case (record s { right = with_items s.right l })
room case s l has long is = record { kinds = has.kinds; ties = has.ties; places = has.places; ends = has.ends; values = has.values; right = ap length is ∙ long ∙ has.right; x = has.x }

small : (n m : ℕ) (l out : List ℤ) → ((j : ℕ) → j < m → unsigned_abs (item out j) ≤ 10 ^ 24) → m ≡ n → l ≡ out → (j : ℕ) → j < n → unsigned_abs (item l j) ≤ 10 ^ 24
small n m l out each same is j below = subst (λ xs. unsigned_abs (item xs j) ≤ 10 ^ 24) (sym is) (each j (omega (arith, below, same)))

pub fill_leaving-requires : goal.fill_leaving-requires
fill_leaving-requires c =
    record {
      order = c.requires.order;
      rows = c.deref-2.ensures.value ∙ c.requires.room.ends;
      same = c.requires.same;
      currents = c.requires.currents;
      values = ap length c.deref.ensures.value ∙ c.requires.room.values;
      out = ap length c.deref_mut.ensures.value ∙ c.requires.room.right;
    }

pub returns : goal.returns
returns c =
    record {
      room = room c.args.network.case.now.parts c.args.self.now c.fill_leaving.new.out c.requires.room (c.fill_leaving.auto.out ∙ ap length c.deref_mut.ensures.value) (with_items_is c.args.self.now.right c.fill_leaving.new.out (c.fill_leaving.auto.out ∙ c.deref_mut.ensures.len));
      capacities = refl;
      kinds = refl;
      decided = refl;
      leaving = λ H vs moved values.
          let case = c.args.network.case.now.parts in
          let next = is_next case H vs in
          with_items_is c.args.self.now.right c.fill_leaving.new.out (c.fill_leaving.auto.out ∙ c.deref_mut.ensures.len) ∙ c.fill_leaving.ensures.value H vs (next_record H case vs) next moved (c.deref.ensures.value ∙ values) ∙ ap (leaving_rows case H) next.branches;
      small = small _ _ _ c.fill_leaving.new.out c.fill_leaving.ensures.small (ap length c.deref_mut.ensures.value ∙ c.requires.room.right) (with_items_is c.args.self.now.right c.fill_leaving.new.out (c.fill_leaving.auto.out ∙ c.deref_mut.ensures.len));
    }
