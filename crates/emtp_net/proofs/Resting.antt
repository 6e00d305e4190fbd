-- A network at rest.
use Rattle.std.proofs.Common.{◌≡◌, ◌∙◌, sym, ap, subst, ℕ, zero, suc, ◌+◌, ◌≤◌, ◌<◌, ℤ, pos, Bool, List, [], ◌∷◌, All, Result, Ok, Err, IfOk, IsErrAnd, length, map, replicate, slice_get, slice_index_or, unsigned_abs, refl, arith}
use Rattle.std.proofs.lemmas.Int.{ints}
use Rattle.std.proofs.lemmas.List.{length-replicate}
use Rattle.std.proofs.lemmas.List.FromFn.{length-map-range_with_len}
use Rattle.emtp_case.specs.StepRecord.{StepRecord, is_closed, rest_of}
use Rattle.emtp_case.specs.declared.case.Parts.{Parts}
use Rattle.emtp_elim.specs.Matrix.{item}
use Rattle.emtp_fix.specs.declared.limit.TheConstants.{LARGEST_VALUE}
use Rattle.emtp_rows.proofs.NodalRows.{length-nodal_matrix}
use Rattle.emtp_rows.specs.Nodal.{Nodal, nodal_matrix}
use Rattle.emtp_rows.specs.held.Terms.{nodal_at_rest}
use Rattle.emtp_rows.specs.held.Touched.{NodalRows}
use Rattle.emtp_switch.specs.held.Switching as switching
use Rattle.emtp_tail.specs.held.Good.{Good}
use Rattle.emtp_net.specs.held.Branches.{StandsFor as BranchesStandFor}
use Rattle.emtp_net.specs.held.Holding.{HasFixed, HasShown, HoldsRows}
use Rattle.emtp_net.specs.held.Moving.{AreCurrents, AreLineCurrents}
use Rattle.emtp_net.specs.held.Network.{Net, StandsFor}
use Rattle.emtp_net.specs.System.{conductance_by, conductances, couplings}
use Rattle.emtp_net.proofs.Conductances.{fixed_all}
use Rattle.emtp_net.proofs.LineCurrents.{currents_rest, line_currents_rest}

-- a way out by an error promises nothing of what it would have made
pub nothing_made : {A E : Type 0} (P : A → Type 0) (Q : E → Type 0) (result : Result A E) → IsErrAnd result Q → IfOk result P
nothing_made P Q (Ok x) is = absurd is
nothing_made P Q (Err e) is = tt

pub rows_rest : (case : Parts) (H : List StepRecord) (rows : NodalRows) (kept : Good) → rows.nodal ≡ record (nodal_at_rest case) { own = conductances case H; coupling = couplings case } → kept ≡ record { size = length (nodal_matrix rows.nodal); rows = []; done = []; capacities = kept.capacities } → HoldsRows case rows kept
rows_rest case H rows kept are is = record {
  case_is = ap (λ (n : Nodal). n.case) are;
  own_room = ap (λ (n : Nodal). length n.own) are ∙ length-map-range_with_len (λ b. conductance_by case H b (slice_get case.branches b)) 0 (length case.branches);
  fixed = subst (HasFixed case) (sym (ap (λ (n : Nodal). n.own) are)) (fixed_all case H);
  coupling_is = ap (λ (n : Nodal). n.coupling) are;
  kept_size = ap (λ (k : Good). k.size) is ∙ length-nodal_matrix rows.nodal ∙ ap (λ (n : Nodal). length n.case.nodes) are;
  kept_stands = λ n early few.
      let none : n ≡ 0 = omega (arith, few, ap (λ (k : Good). length k.rows) is) in
      rw none refl;
}

zeros_small : (n k : ℕ) (d : ℤ) → k < n → unsigned_abs (slice_index_or (replicate n (pos 0)) k d) ≤ LARGEST_VALUE
zeros_small zero k d below = absurd (omega (arith, below))
zeros_small (suc n) zero d below = omega (arith, ints)
zeros_small (suc n) (suc k) d below = zeros_small n k d (omega (arith, below))

pub shown_rest : (case : Parts) (voltages currents switch_currents : List ℤ) (closed : List Bool) → voltages ≡ replicate (length case.nodes + 1) (pos 0) → currents ≡ replicate (length case.branches) (pos 0) → switch_currents ≡ replicate (length case.switches) (pos 0) → length closed ≡ length case.switches
    → HasShown case voltages currents switch_currents closed
shown_rest case voltages currents switch_currents closed vs is ss count = record {
  voltages_count = ap length vs ∙ length-replicate (length case.nodes + 1) (pos 0);
  voltages_small = subst (All (λ v. unsigned_abs v ≤ LARGEST_VALUE)) (sym vs) (λ k d below. zeros_small (length case.nodes + 1) k d (omega (arith, below, length-replicate (length case.nodes + 1) (pos 0))));
  currents_count = ap length is ∙ length-replicate (length case.branches) (pos 0);
  switch_count = ap length ss ∙ length-replicate (length case.switches) (pos 0);
  closed_count = count;
}

zero_at : (n b : ℕ) → item (replicate n (pos 0)) b ≡ pos 0
zero_at zero b = refl
zero_at (suc n) zero = refl
zero_at (suc n) (suc b) = zero_at n b

pub stands_rest : (case : Parts) (s : Net) → s.case ≡ case → BranchesStandFor s.branches (rest_of case ∷ []) → switching.StandsFor s.switches (rest_of case ∷ []) → HoldsRows case s.rows s.kept → s.kept.rows ≡ []
    → s.voltages ≡ replicate (length case.nodes + 1) (pos 0) → s.currents ≡ replicate (length case.branches) (pos 0) → s.switch_currents ≡ replicate (length case.switches) (pos 0) → s.closed ≡ map is_closed s.switches.states → s.made ≡ 0 → s.redone ≡ 0 → StandsFor s (rest_of case ∷ [])
stands_rest case s same branches switches rows none voltages currents switch_currents closed made redone = record {
  branches = branches;
  switches = switches;
  voltages = voltages;
  currents = subst (λ (p : Parts). AreCurrents p s.currents (rest_of case) (length p.branches)) (sym same) (record {
    lumps = λ b x below is. ap (λ xs. item xs b) currents ∙ zero_at (length case.branches) b ∙ sym (currents_rest case.branches b);
    pseudos = λ b x below is. ap (λ xs. item xs b) currents ∙ zero_at (length case.branches) b ∙ sym (currents_rest case.branches b);
  });
  line_currents = subst (λ (p : Parts). AreLineCurrents p (rest_of case)) (sym same) (line_currents_rest case);
  switch_currents = switch_currents;
  closed = closed ∙ ap (map is_closed) switches.states_are;
  kept = none;
  kept_size = rows.kept_size ∙ ap (λ (p : Parts). length p.nodes) (sym same);
  steps = omega (arith, made);
  redone = redone;
}
