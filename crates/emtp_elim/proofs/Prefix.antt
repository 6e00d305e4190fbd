-- A finished row depends on the rows before it and its own alone.
use Rattle.std.proofs.Common.{◌≡◌, ℕ, ◌<◌, ◌≤◌, [], length, take, refl, ap, sym, ◌∙◌, arith}
use Rattle.std.proofs.lemmas.List.{get_or-take, length-take-le, length-take}
use Rattle.emtp_elim.specs.Matrix.{Matrix, row_of, entry}
use Rattle.emtp_elim.specs.Elimination.{ratio, stage}
use Rattle.emtp_elim.specs.held.Finished.{AreFinished}
use Rattle.emtp_elim.proofs.InRange.{StaysInRange, row_fault-fine, row_fault-none}
use Rattle.emtp_elim.proofs.Stages.{entry_same}

-- what is finished of one matrix is finished of another that begins with the same rows
pub finished_other : (a b done : Matrix) → take (length done) a ≡ take (length done) b → AreFinished a done → AreFinished b done
finished_other a b done agree was =
    let n = length done in
    let in_b : n ≤ length b = omega (arith, was.within, ap length agree, length-take n a, length-take n b) in
    let same : (h : ℕ) → h < n → row_of a h ≡ row_of b h = λ h low. sym (get_or-take n a h [] low) ∙ ap (λ (m : Matrix). row_of m h) agree ∙ get_or-take n b h [] low in
    let stage_same : (k h j : ℕ) → h < n → entry (stage a k) h j ≡ entry (stage b k) h j = entry_same a b n was.within in_b same in
    let ratio_same : (k i : ℕ) → k < n → i < n → ratio (stage a k) k i ≡ ratio (stage b k) k i = λ k i low high. rw (stage_same k i k high, stage_same k k k low) refl in
    record {
      within = in_b;
      finished = λ i h. record {
        length_is = (was.finished i h).length_is ∙ ap length (same i h);
        ratios = λ j before. (was.finished i h).ratios j before ∙ ratio_same j i (omega arith) h;
        entries = λ j from_on inside. (was.finished i h).entries j from_on inside ∙ stage_same i i j h;
      };
      good = λ i h.
          let fine = row_fault-fine a i (was.good i h) in
          let in_range : StaysInRange b i = record {
            entries = λ k j before from_on inside. rw (← stage_same k i j h) (fine.0.entries k j before from_on (rw (← same i h) at inside));
            ratios = λ k before. rw (← ratio_same k i (omega arith) h) (fine.0.ratios k before);
          } in
          row_fault-none b i in_range (λ e. fine.1 (stage_same i i i h ∙ e));
    }

-- and fewer rows are finished too
pub finished_fewer : (rows done : Matrix) (n : ℕ) → n ≤ length done → AreFinished rows done → AreFinished rows (take n done)
finished_fewer rows done n few was =
    let count : length (take n done) ≡ n = length-take-le n done few in
    record {
      within = omega (arith, was.within);
      finished = λ i h. rw (get_or-take n done i [] (omega arith)) (was.finished i (omega arith));
      good = λ i h. was.good i (omega arith);
    }
