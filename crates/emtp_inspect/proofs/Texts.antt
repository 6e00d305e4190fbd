-- The text of the first lines.
use Rattle.std.proofs.Common.{◌≡◌, ◌∙◌, sym, ap, arith, ◌+◌, ◌++◌, List, [], ◌∷◌, ℕ, zero, suc, append_assoc, take, Option, Some, unwrap_or}
use Rattle.std.specs.Prelude.{slice_get}
use Rattle.emtp_listing.specs.Lines.{lines_text}

text-more : (lines : List (List ℕ)) (at : ℕ) (line : List ℕ) → slice_get lines at ≡ Some line → lines_text (take (suc at) lines) ≡ lines_text (take at lines) ++ (line ++ 10 ∷ [])
text-more [] at line is = absurd (cc)
text-more (x ∷ xs) zero line is = let same : x ≡ line = ap (λ (o : Option (List ℕ)). unwrap_or o []) is in ap (λ (t : List ℕ). t ++ 10 ∷ []) same
text-more (x ∷ xs) (suc at) line is = ap (λ (t : List ℕ). x ++ 10 ∷ t) (text-more xs at line is) ∙ sym (append_assoc x (10 ∷ lines_text (take at xs)) (line ++ 10 ∷ []))

-- one line more, and its end
pub line-more : (lines : List (List ℕ)) (at : ℕ) (line old one new : List ℕ) → slice_get lines at ≡ Some line → old ≡ lines_text (take at lines) → one ≡ old ++ line → new ≡ one ++ 10 ∷ []
    → new ≡ lines_text (take (at + 1) lines)
line-more lines at line old one new is was put end =
    end ∙ ap (λ (t : List ℕ). t ++ 10 ∷ []) put ∙ append_assoc old line (10 ∷ []) ∙ ap (λ (t : List ℕ). t ++ (line ++ 10 ∷ [])) was
    ∙ sym (text-more lines at line is) ∙ ap (λ (k : ℕ). lines_text (take k lines)) (next at)
  where
    next : (k : ℕ) → suc k ≡ k + 1
    next k = omega arith
