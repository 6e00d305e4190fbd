-- One finished row after another, in a matrix.
use Rattle.std.proofs.Common.{◌≡◌, ℕ, ◌<◌, ℤ, List, [], length, ap, sym, ◌∙◌, inl, inr, arith}
use Rattle.std.proofs.lemmas.List.{get_or-take}
use Rattle.std.proofs.lemmas.Bool.{cases_eq}
use Rattle.emtp_elim.specs.Matrix.{Matrix, row_of}
use Rattle.emtp_elim.specs.held.Finished.{Finished, AreFinished, IsNext, IsRowAdded, AddsRow}

pub next_row : (rows done : Matrix) (n : ℕ) (row : List ℤ) → AreFinished rows done → length done ≡ n → n < length rows → row ≡ row_of rows n → IsNext rows done row
next_row rows done n row finished count inside row_is = record { finished = finished; within = omega arith; row_is = ap (row_of rows) count ∙ sym row_is }

-- one more row, which is what elimination makes of it
pub adds_row : (old new : Finished) (row : List ℤ) → IsRowAdded old new row → AddsRow old new row
adds_row old new row added =
    let same : (i : ℕ) → i < length old.rows → row_of new.rows i ≡ row_of old.rows i = λ i h.
    sym (get_or-take (length old.rows) new.rows i [] h) ∙ ap (λ m. row_of m i) added.earlier in
    record {
      same_size = added.same_size;
      earlier = added.earlier;
      one_more = added.one_more;
      finished = λ rows next. record {
        within = omega (arith, added.one_more, next.within);
        finished = λ i h. elim (cases_eq i (length old.rows)) [
          | inl last ↦ rw last (added.finishes.finished rows next)
          | inr earlier ↦ let before : i < length old.rows = omega (arith, added.one_more) in rw (same i before) (next.finished.finished i before)
        ];
        good = λ i h. elim (cases_eq i (length old.rows)) [
          | inl last ↦ rw last (added.finishes.good rows next)
          | inr earlier ↦ next.finished.good i (omega (arith, added.one_more))
        ];
      };
    }
