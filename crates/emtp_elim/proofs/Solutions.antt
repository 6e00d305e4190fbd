-- Right sides and unknowns by finished rows are those of full elimination.
use Rattle.emtp_fix.specs.declared.limit.TheConstants.{LARGEST_VALUE}
use Rattle.std.proofs.Common.{◌≡◌, ℕ, zero, suc, ◌+◌, ◌-◌, ◌<◌, ◌≤◌, ℤ, pos, List, length, drop, refl, ap, sym, ◌∙◌, Ok, Err, arith}
use Rattle.std.proofs.lemmas.List.{get_or-drop}
use Rattle.emtp_elim.specs.Matrix.{Matrix, item, row_of, entry, products}
use Rattle.emtp_elim.specs.held.Matrix.{AreWithin, IsSquare}
use Rattle.emtp_elim.specs.Elimination.{last_unknowns, stage, stage_right, solution}
use Rattle.emtp_elim.specs.held.Fault.{IsGoodMatrix, IsRightFault}
use Rattle.emtp_elim.specs.held.Finished.{AreAllFinished}
use Rattle.emtp_elim.specs.held.Substitution.{AreReduced, IsLastFault, SolvesAs}
use Rattle.emtp_elim.specs.declared.fault.PlainFault.TheVariants.{Solve}
use Rattle.emtp_elim.proofs.Stages.{length-stage, entry_settled, right_settled}
use Rattle.emtp_elim.proofs.InRange.{unknown_fault-none, unknown_fault-some}
use Rattle.emtp_elim.proofs.Outcomes.{outcome_right, outcome_unknown, outcome_solved}
use Rattle.emtp_elim.proofs.Unknowns.{last_unknowns-none, last_unknowns-more, length-last_unknowns}

products_same : (xs ys zs : List ℤ) (n : ℕ) → ((h : ℕ) → h < n → item xs h ≡ item ys h) → products xs zs n ≡ products ys zs n
products_same xs ys zs zero same = refl
products_same xs ys zs (suc n) same = rw (products_same xs ys zs n (λ h low. same h (omega arith)), same n (omega arith)) refl

-- from the diagonal on, a finished row is that of the last stage
entry_last : (rows done : Matrix) → AreAllFinished rows done → IsSquare done → (k j : ℕ) → k < length done → k ≤ j → j < length done
    → entry done k j ≡ entry (stage rows (length rows)) k j
entry_last rows done all square k j inside low in_row =
    let part = all.finished.finished k inside in
    let width : length (row_of done k) ≡ length done = square k inside in
    let last : k + (length rows - k) ≡ length rows = omega (arith, all.all) in
    part.entries j low (omega arith) ∙ sym (entry_settled rows k j (length rows - k) (omega (arith, all.all)) (omega (arith, part.length_is))) ∙ ap (λ n. entry (stage rows n) k j) last

-- so the unknowns of the finished rows are the solution
unknowns_last : (rows done : Matrix) (given right : List ℤ) → AreAllFinished rows done → IsSquare done → length given ≡ length done → AreReduced rows given (length done) right
    → (n : ℕ) → n ≤ length done → last_unknowns done right n ≡ last_unknowns (stage rows (length rows)) (stage_right rows given (length rows)) n
unknowns_last rows done given right all square same reduced zero low = last_unknowns-none done right ∙ sym (last_unknowns-none (stage rows (length rows)) (stage_right rows given (length rows)))
unknowns_last rows done given right all square same reduced (suc n) low =
    let last = stage rows (length rows) in
    let last_right = stage_right rows given (length rows) in
    let k = length done - suc n in
    let later = last_unknowns last last_right n in
    let earlier : last_unknowns done right n ≡ later = unknowns_last rows done given right all square same reduced n (omega arith) in
    let count : length later ≡ n = length-last_unknowns last last_right n in
    let height : length last ≡ length done = length-stage rows (length rows) ∙ sym all.all in
    let inside : k < length done = omega arith in
    let right_is : item right k ≡ item last_right k =
    reduced.reduced k inside ∙ sym (right_settled rows given k (length rows - k) (omega arith)) ∙ ap (λ m. item (stage_right rows given m) k) (omega (arith, all.all)) in
    let pivot_is : entry done k k ≡ entry last k k = entry_last rows done all square k k inside (omega arith) inside in
    let sum_is : products (drop (suc k) (row_of done k)) later (length later) ≡ products (drop (suc k) (row_of last k)) later (length later) =
    products_same _ _ later (length later) (λ h before.
    get_or-drop (suc k) (row_of done k) h (pos 0) ∙ entry_last rows done all square k (suc k + h) inside (omega arith) (omega arith) ∙ sym (get_or-drop (suc k) (row_of last k) h (pos 0))) in
    last_unknowns-more done right n ∙ rw (earlier, right_is, sum_is, pivot_is) (sym (rw height at (last_unknowns-more last last_right n)))

solution_is : (rows done : Matrix) (given right : List ℤ) → AreAllFinished rows done → IsSquare done → length given ≡ length done → AreReduced rows given (length done) right
    → last_unknowns done right (length done) ≡ solution rows given
solution_is rows done given right all square same reduced =
    unknowns_last rows done given right all square same reduced (length done) (omega arith) ∙ ap (last_unknowns (stage rows (length rows)) (stage_right rows given (length rows))) all.all

all_good : (rows done : Matrix) → AreAllFinished rows done → IsGoodMatrix rows
all_good rows done all = record { each = λ i h. all.finished.good i (omega (arith, all.all)) }

-- ---- what full elimination of each such matrix ends with

pub solves_right_fault : (done : Matrix) (given : List ℤ) (i : ℕ) → ((rows : Matrix) → AreAllFinished rows done → IsRightFault rows given i)
    → SolvesAs done given (Err (Solve (record { row = i })))
solves_right_fault done given i fault = record { outcome_is = λ rows all. outcome_right rows given i (all_good rows done all) (fault rows all) }

pub solves_unknown_fault : (done : Matrix) (given right : List ℤ) (i : ℕ) → IsSquare done → length given ≡ length done
    → ((rows : Matrix) → AreAllFinished rows done → AreReduced rows given (length given) right) → IsLastFault done right i → SolvesAs done given (Err (Solve (record { row = i })))
solves_unknown_fault done given right i square same reduced fault = record {
  outcome_is = λ rows all.
      let same_x = solution_is rows done given right all square same (rw same at (reduced rows all)) in
      outcome_unknown rows given i (all_good rows done all) (record {
        within = omega (arith, fault.within, all.all);
        right_sides = λ h low. (reduced rows all).in_range h (omega (arith, all.all));
        later = λ h low high. unknown_fault-none rows given h (rw same_x at (fault.later h low (omega (arith, all.all))));
        is = unknown_fault-some rows given i (rw same_x at fault.out);
      });
}

pub solves_ok : (done : Matrix) (given right x : List ℤ) → IsSquare done → length given ≡ length done
    → ((rows : Matrix) → AreAllFinished rows done → AreReduced rows given (length given) right) → x ≡ last_unknowns done right (length done) → AreWithin LARGEST_VALUE x
    → SolvesAs done given (Ok x)
solves_ok done given right x square same reduced x_is small = record {
  outcome_is = λ rows all.
      let same_x : x ≡ solution rows given = x_is ∙ solution_is rows done given right all square same (rw same at (reduced rows all)) in
      rw same_x (outcome_solved rows given (all_good rows done all) (λ i h. (reduced rows all).in_range i (omega (arith, all.all))) (λ i h. unknown_fault-none rows given i (rw same_x at (small i))));
}
