-- Pieces of a text, one after another.
use Rattle.std.proofs.Common.{◌≡◌, ◌∙◌, ap, ℕ, ◌≤◌, List, [], ◌∷◌, ◌++◌, length, Result, Ok, Err, OnOk, refl, arith}
use Rattle.std.proofs.lemmas.List.{append_assoc}
use Rattle.emtp_phasor.specs.declared.line.ScanLine.{ScanLine}
use Rattle.emtp_phasor_text.specs.Texts.{resonance_lines}

-- a piece more
pub one_more : (old done prev x new : List ℕ) → prev ≡ old ++ done → new ≡ prev ++ x → new ≡ old ++ (done ++ x)
one_more old done prev x new is put = put ∙ ap (λ l. l ++ x) is ∙ append_assoc old done x

-- the last piece, where there was memory for it
pub at_last : {A E : Type 0} (r : Result A E) (old done prev x new : List ℕ) → prev ≡ old ++ done → OnOk r (new ≡ prev ++ x) → OnOk r (new ≡ old ++ (done ++ x))
at_last (Ok u) old done prev x new is put = one_more old done prev x new is put
at_last (Err e) old done prev x new is put = put

-- fewer than three lines have no resonance
pub no_resonance : (lines : List ScanLine) → length lines ≤ 2 → resonance_lines lines ≡ []
no_resonance [] few = refl
no_resonance (a ∷ []) few = refl
no_resonance (a ∷ b ∷ []) few = refl
no_resonance (a ∷ b ∷ c ∷ more) few = absurd (omega (arith, few))
