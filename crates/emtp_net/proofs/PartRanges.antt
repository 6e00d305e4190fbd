-- The voltages and currents of a step that is made are in range.
use Rattle.std.proofs.Common.{◌≡◌, ◌∙◌, sym, ap, subst, ℕ, ℤ, pos, Bool, true, false, not, All, List, length, get_or, map, Option, Some, None, IfSome, unwrap_or, Result, Ok, Err, refl, arith}
use Rattle.std.specs.List.{range_with_len}
use Rattle.std.specs.Prelude.{slice_get}
use Rattle.std.proofs.lemmas.Bool.{leb-true}
use Rattle.std.proofs.lemmas.List.Elements.{All-from_get_or, All-map}
use Rattle.std.proofs.lemmas.List.FromFn.{get_or-range_with_len, length-range_with_len}
use Rattle.emtp_case.proofs.Places.{position-None}
use Rattle.emtp_case.specs.NodeRows.{node_at}
use Rattle.emtp_case.specs.StepRecord.{BranchState, LumpedBranch, StepRecord, current_of, no_lumped}
use Rattle.emtp_case.specs.declared.case.Parts.{Parts}
use Rattle.emtp_elim.proofs.Outcomes.{outcome_small}
use Rattle.emtp_elim.specs.Matrix.{item}
use Rattle.emtp_elim.specs.held.Matrix.{AreWithin}
use Rattle.emtp_elim.specs.Outcome.{outcome}
use Rattle.emtp_elim.specs.declared.fault.PlainFault.{PlainFault}
use Rattle.emtp_fix.proofs.Chaining.{same_ok, then_ok, unless_ok}
use Rattle.emtp_fix.proofs.Ranges.{IsSmall}
use Rattle.emtp_fix.specs.Chain.{◌>>=◌}
use Rattle.emtp_fix.specs.Limit.{is_within}
use Rattle.emtp_fix.specs.declared.limit.TheConstants.{LARGEST_VALUE}
use Rattle.emtp_net.proofs.BranchRanges.{state_small}
use Rattle.emtp_net.proofs.Ending.{part_branches, part_voltages}
use Rattle.emtp_net.specs.Part.{NetworkPart, first_out, node_of_branch, part_at, state_at, states_at, voltages_of}
use Rattle.emtp_net.specs.Residual.{residual_of}
use Rattle.emtp_net.specs.Step.{balanced, first_beyond, first_unbalanced, moved, node_of_switch, named, network_part, solution, switched, untied}
use Rattle.emtp_net.specs.System.{matrix, right}
use Rattle.emtp_net.specs.declared.fault.NetFault.TheVariants.{Range, Residual}
use Rattle.emtp_net.proofs.NodeVoltages.{voltages_small}

-- no voltage and no current of the part exceeds its range
pub record IsPartInRange (part : NetworkPart) : Type 0 where
  pub voltages : All IsSmall part.voltages
  pub branch_currents : All IsSmall (map current_of part.branches)
  pub switch_currents : All IsSmall part.switch_currents

-- what a branch keeps where it is in range, and none of another
kept_small : (o : Option BranchState) → IfSome o (λ s. IsSmall (current_of s)) → IsSmall (current_of (unwrap_or o (LumpedBranch no_lumped)))
kept_small None small = omega arith
kept_small (Some s) small = small

currents_small : (case : Parts) (H : List StepRecord) (vs : List ℤ) → All IsSmall (map current_of (states_at case H vs))
currents_small case H vs =
    let kept : ℕ → BranchState = λ b. unwrap_or (state_at case H vs b) (LumpedBranch no_lumped) in
    All-map IsSmall current_of (states_at case H vs) (All-map (λ s. IsSmall (current_of s)) kept (range_with_len 0 (length case.branches)) (λ k d below.
    let b = get_or (range_with_len 0 (length case.branches)) k d in
    kept_small (state_at case H vs b) (state_small case H vs b (slice_get case.branches b))))

not_out : (b : Bool) → not b ≡ false → b ≡ true
not_out true is = refl
not_out false is = absurd (cc)

switches_small : (currents : List ℤ) → first_beyond currents ≡ None → All IsSmall currents
switches_small currents none = All-from_get_or IsSmall currents (pos 0) (λ s below.
    let n = length currents in
    let test : ℕ → Bool = λ k. not (is_within LARGEST_VALUE (item currents k)) in
    let off = position-None test (range_with_len 0 n) none s 0 (omega (arith, below, length-range_with_len 0 n)) in
    let at : get_or (range_with_len 0 n) s 0 ≡ s = omega (arith, get_or-range_with_len 0 n s 0 below) in
    leb-true _ _ (not_out (is_within LARGEST_VALUE (item currents s)) (ap test (sym at) ∙ off)))

named_ok : (case : Parts) (o : Result (List ℤ) PlainFault) (x : List ℤ) → named case o ≡ Ok x → o ≡ Ok x
named_ok case (Ok y) x is = ap (λ (z : List ℤ). Ok z) (same_ok y x is)
named_ok case (Err fault) x is = absurd (cc)

pub part_small : (case : Parts) (H : List StepRecord) (part : NetworkPart) → network_part case H ≡ Ok part → IsPartInRange part
unfolding network_part
part_small case H part made =
    let one = then_ok (untied case H) (λ none. solution case H >>= (λ x. moved case H (voltages_of case x) >>= (λ part. switched case part >>= (λ within. balanced case H within)))) part made in
    let two = then_ok (solution case H) (λ x. moved case H (voltages_of case x) >>= (λ part. switched case part >>= (λ within. balanced case H within))) part one.2 in
    let three = then_ok (moved case H (voltages_of case two.0)) (λ part. switched case part >>= (λ within. balanced case H within)) part two.2 in
    let four = then_ok (switched case three.0) (λ within. balanced case H within) part three.2 in
    let vs = voltages_of case two.0 in
    let in_range = unless_ok (first_out case H vs) (λ b. Range (node_of_branch case b)) (Ok (part_at case H vs)) three.0 three.1 in
    let carried = unless_ok (first_beyond three.0.switch_currents) (λ s. Range (node_of_switch case s)) (Ok three.0) four.0 four.1 in
    let judged = unless_ok (first_unbalanced case H four.0.branches) (λ i. Residual (node_at case i) (pos (residual_of case H four.0.branches i))) (Ok four.0) part four.2 in
    let last : three.0 ≡ part = same_ok three.0 four.0 carried.1 ∙ same_ok four.0 part judged.1 in
    let at : part_at case H vs ≡ three.0 = same_ok (part_at case H vs) three.0 in_range.1 in
    let small : AreWithin LARGEST_VALUE two.0 = outcome_small (matrix case H) (right case H) two.0 (named_ok case (outcome (matrix case H) (right case H)) two.0 two.1) in
    subst IsPartInRange last (record {
      voltages = subst (All IsSmall) (sym (part_voltages case H vs) ∙ ap (λ (p : NetworkPart). p.voltages) at) (voltages_small case two.0 small);
      branch_currents = subst (λ bs. All IsSmall (map current_of bs)) (sym (part_branches case H vs) ∙ ap (λ (p : NetworkPart). p.branches) at) (currents_small case H vs);
      switch_currents = switches_small three.0.switch_currents carried.0;
    })
