-- Texts that are put piece by piece.
use Rattle.std.proofs.Common.{◌≡◌, ◌++◌, ◌∙◌, ap, List, ℕ, Ok, Err, Result, append_assoc}
use Rattle.std.specs.Result.{OnOk}

-- a piece behind another one
pub next_piece : {A E : Type 0} (r : Result A E) (old mid new a b : List ℕ) → mid ≡ old ++ a → OnOk r (new ≡ mid ++ b) → OnOk r (new ≡ old ++ (a ++ b))
next_piece (Ok x) old mid new a b first second = second ∙ ap (λ (t : List ℕ). t ++ b) first ∙ append_assoc old a b
next_piece (Err e) old mid new a b first second = tt
