-- Texts that are put one behind the other.
use Rattle.std.proofs.Common.{◌≡◌, ◌++◌, ◌∙◌, ap, List, ℕ, append_assoc}

-- a text behind the old one
pub record Puts (old text new : List ℕ) : Type 0 where
  pub is : new ≡ old ++ text

pub one : {old text new : List ℕ} → new ≡ old ++ text → Puts old text new
one e = record { is = e }

pub then : {old mid new a b : List ℕ} → Puts old a mid → Puts mid b new → Puts old (a ++ b) new
then {old} {mid} {new} {a} {b} first more = record { is = more.is ∙ ap (λ (t : List ℕ). t ++ b) first.is ∙ append_assoc old a b }

pub whole : {old text new : List ℕ} → Puts old text new → new ≡ old ++ text
whole puts = puts.is
