use Rattle.std.proofs.Common.{◌≡◌, ◌∙◌, sym, ap, subst, [], ◌∷◌, ◌++◌, ℕ, ℤ, All, List, length, arith, take, take_at, drop, Option}
use Rattle.emtp_blocks.specs.held.Block.{IsKept}
use Rattle.emtp_blocks.specs.held.BlockRows.{AreUnknowns, Blocking, IsHeld, StandsAt, StandsFor, limiters_kept}
use Rattle.emtp_blocks.specs.declared.law.BlockLaw.{BlockLaw}
use Rattle.emtp_case.specs.held.Control.{AreKnown}
use Rattle.emtp_case.specs.declared.case.Parts.{Parts}
use Rattle.emtp_case.specs.declared.control.BlockState.{BlockState}
use Rattle.emtp_blocks.proofs.OneByOne.{none_out_is, outputs_all, stands_next, limiters_same}
use Rattle.emtp_blocks.proofs.Systems.{diagram_seen}
use Rattle.emtp_blocks.proofs.block_rows.BlockRows.accept.Goals as goal

pub returns-in-Err-clause-value : goal.returns-in-Err-clause-value
returns-in-Err-clause-value c = λ H stands.
    let seen : Blocking = record { case = c.self.inside.case.now.parts; states = c.self.inside.states.items; moved = c.self.inside.moved; capacities = c.self.inside.states.cap ∷ c.self.inside.out.cap ∷ [] } in
    let same : seen ≡ c.args.self.now = c.self.view_is in
    let stands' = let P : Blocking → Type 0 = λ s. StandsFor s H in subst P (sym same) stands in
    let Q : List BlockState → Type 0 = λ ks. (i : ℕ) → StandsAt seen.case ks H i in
    c.in-Err.ensures.value H (subst Q (sym c.deref_mut.ensures.value) stands'.blocks)

pub returns-clause-value : goal.returns-clause-value
returns-clause-value c = λ H stands.
    let seen : Blocking = record { case = c.self.inside.case.now.parts; states = c.self.inside.states.items; moved = c.self.inside.moved; capacities = c.self.inside.states.cap ∷ c.self.inside.out.cap ∷ [] } in
    let same : seen ≡ c.args.self.now = c.self.view_is in
    let stands' = let P : Blocking → Type 0 = λ s. StandsFor s H in subst P (sym same) stands in
    let Q : List BlockState → Type 0 = λ ks. (i : ℕ) → StandsAt seen.case ks H i in
    let all = c.in-Ok.ensures.value H (subst Q (sym c.deref_mut.ensures.value) stands'.blocks) in
    let known = c.args.known.now in
    let xs = c.args.x.now in
    let size : length c.accept_all.new.states ≡ c.self.inside.states.len = omega (arith, c.deref_mut.ensures.len, c.accept_all.auto.states) in
    let size' : length c.accept_all.new.out ≡ c.self.inside.out.len = omega (arith, c.deref_mut-2.ensures.len, c.accept_all.auto.out) in
    let S = take_at c.accept_all.new.states (drop (length c.accept_all.new.states) c.self.inside.states.items) c.self.inside.states.len size in
    let O = take_at c.accept_all.new.out (drop (length c.accept_all.new.out) c.self.inside.out.items) c.self.inside.out.len size' in
    let long : length c.accept_all.new.out ≡ length seen.case.blocks = omega (arith, c.deref_mut-2.ensures.len, c.accept_all.auto.out, c.self.invariant.out_each, ap length c.deref_mut-2.ensures.value) in
    let kept_long : length c.accept_all.new.states ≡ length seen.case.blocks = omega (arith, c.deref_mut.ensures.len, c.accept_all.auto.states, c.self.invariant.state_each, ap length c.deref_mut.ensures.value) in
    record {
      in_range = none_out_is seen.case H known xs all.in_range;
      recorded = c.copy_from_slice.ensures.after ∙ c.deref-3.ensures.value ∙ O ∙ outputs_all seen.case c.accept_all.new.out H known xs long all.outputs_are;
      stands = λ r is. record {
        one_each = ap length S ∙ kept_long;
        blocks = let R : List BlockState → Type 0 = λ ks. (i : ℕ) → StandsAt seen.case ks (r ∷ H) i in subst R (sym S) (stands_next seen.case c.accept_all.new.states c.accept_all.new.out H known xs r all is);
      };
    }

pub returns-clause-moved : goal.returns-clause-moved
returns-clause-moved c = λ still.
    let size : length c.accept_all.new.states ≡ c.self.inside.states.len = omega (arith, c.deref_mut.ensures.len, c.accept_all.auto.states) in
    let S = take_at c.accept_all.new.states (drop (length c.accept_all.new.states) c.self.inside.states.items) c.self.inside.states.len size in
    let told = rw c.deref_mut.ensures.value at (c.in-Ok.ensures.moved still) in
    let same = ap (λ (s : Blocking). limiters_kept s.states) c.self.view_is in
    ap limiters_kept S ∙ sym (limiters_same c.self.inside.states.items c.accept_all.new.states (omega (arith, c.deref_mut.ensures.len, c.accept_all.auto.states, ap length c.deref_mut.ensures.value)) told) ∙ same

pub returns-clause-small : goal.returns-clause-small
returns-clause-small c =
    let seen : Blocking = record { case = c.self.inside.case.now.parts; states = c.self.inside.states.items; moved = c.self.inside.moved; capacities = c.self.inside.states.cap ∷ c.self.inside.out.cap ∷ [] } in
    let size' : length c.accept_all.new.out ≡ c.self.inside.out.len = omega (arith, c.deref_mut-2.ensures.len, c.accept_all.auto.out) in
    let O = take_at c.accept_all.new.out (drop (length c.accept_all.new.out) c.self.inside.out.items) c.self.inside.out.len size' in
    let R : List ℤ → Type 0 = λ xs. AreUnknowns seen.case xs in
    let here = subst R (sym (c.copy_from_slice.ensures.after ∙ c.deref-3.ensures.value ∙ O)) c.in-Ok.ensures.small in
    let P : Blocking → Type 0 = λ s. AreUnknowns s.case c.copy_from_slice.new.self in
    subst P c.self.view_is here

pub accept_all-requires-clause-diagram : goal.accept_all-requires-clause-diagram
accept_all-requires-clause-diagram c = diagram_seen c.self.inside.case.now.parts _ _ _ _ c.deref.ensures.value c.deref-2.ensures.value c.self.invariant.diagram

pub accept_all-requires-clause-state_each : goal.accept_all-requires-clause-state_each
accept_all-requires-clause-state_each c = ap length c.deref_mut.ensures.value ∙ c.self.invariant.state_each

pub accept_all-requires-clause-states_fit : goal.accept_all-requires-clause-states_fit
accept_all-requires-clause-states_fit c = subst (All IsKept) (sym c.deref_mut.ensures.value) c.self.invariant.states_fit

pub accept_all-requires-clause-values : goal.accept_all-requires-clause-values
accept_all-requires-clause-values c = record {
  known = subst (λ (s : Blocking). AreKnown s.case c.args.known.now) (sym c.self.view_is) c.requires.known;
  solved = subst (λ (s : Blocking). AreUnknowns s.case c.args.x.now) (sym c.self.view_is) c.requires.x;
}

pub accept_all-requires-clause-out : goal.accept_all-requires-clause-out
accept_all-requires-clause-out c = ap length c.deref_mut-2.ensures.value ∙ c.self.invariant.out_each

-- lists of the same lengths are written over those that were held
still_held : (case : Parts) (places : List (Option ℕ)) (laws : List BlockLaw) (states states-2 : List BlockState) (out out-2 : List ℤ) (n m : ℕ) → IsHeld case places laws states out → length states-2 ≡ n → n ≡ length states → length out-2 ≡ m → m ≡ length out → All IsKept states-2
    → IsHeld case places laws (take n (states-2 ++ drop (length states-2) states)) (take m (out-2 ++ drop (length out-2) out))
still_held case places laws states states-2 out out-2 n m held sized states_sized out_sized out_held kept =
    let S = take_at states-2 (drop (length states-2) states) n sized in
    let O = take_at out-2 (drop (length out-2) out) m out_sized in
    record {
      diagram = held.diagram;
      state_each = ap length S ∙ sized ∙ states_sized ∙ held.state_each;
      states_fit = subst (All IsKept) (sym S) kept;
      out_each = ap length O ∙ out_sized ∙ out_held ∙ held.out_each;
    }

pub invariant_of-self : goal.invariant_of-self
invariant_of-self c =
    let inside = c.self.inside in
    still_held inside.case.now.parts inside.places.items inside.laws.items inside.states.items c.accept_all.new.states inside.out.items c.accept_all.new.out inside.states.len inside.out.len c.self.invariant
    (omega (arith, c.deref_mut.ensures.len, c.accept_all.auto.states)) (omega (arith, inside.states.ok.0)) (omega (arith, c.deref_mut-2.ensures.len, c.accept_all.auto.out)) (omega (arith, inside.out.ok.0)) c.accept_all.ensures.kept

pub invariant_of-self-2 : goal.invariant_of-self-2
invariant_of-self-2 c =
    let inside = c.self.inside in
    still_held inside.case.now.parts inside.places.items inside.laws.items inside.states.items c.accept_all.new.states inside.out.items c.accept_all.new.out inside.states.len inside.out.len c.self.invariant
    (omega (arith, c.deref_mut.ensures.len, c.accept_all.auto.states)) (omega (arith, inside.states.ok.0)) (omega (arith, c.deref_mut-2.ensures.len, c.accept_all.auto.out)) (omega (arith, inside.out.ok.0)) c.accept_all.ensures.kept

pub returns-in-Err-clause-case : goal.returns-in-Err-clause-case
returns-in-Err-clause-case c = ap (λ (s : Blocking). s.case) c.self.view_is

pub returns-clause-case : goal.returns-clause-case
returns-clause-case c = ap (λ (s : Blocking). s.case) c.self.view_is

pub returns-in-Err-clause-block : goal.returns-in-Err-clause-block
returns-in-Err-clause-block c = omega (arith, c.in-Err.ensures.block, ap (λ (s : Blocking). length s.case.blocks) c.self.view_is)

pub returns-in-Err-clause-capacities : goal.returns-in-Err-clause-capacities
returns-in-Err-clause-capacities c = ap (λ (s : Blocking). s.capacities) c.self.view_is

pub returns-clause-capacities : goal.returns-clause-capacities
returns-clause-capacities c = ap (λ (s : Blocking). s.capacities) c.self.view_is
