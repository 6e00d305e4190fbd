-- One line more of those that may end a section.
use Rattle.std.proofs.Common.{◌≡◌, ◌++◌, ◌∙◌, ◌+◌, ◌≤◌, ◌⊎◌, inl, inr, min, length, arith, sym, ap, refl, List, [], ◌∷◌, ℕ, zero, suc, append_assoc, drop, Some}
use Rattle.std.specs.Prelude.{slice_get}
use Rattle.std.proofs.lemmas.List.{drop_all, append-nil}
use Rattle.emtp_causes.specs.Sections.{after, end_text, sections_from}
use Rattle.emtp_causes.specs.declared.sections.Section.{Section}
use Rattle.emtp_walk.specs.declared.kind.LineReading.{LineReading}
use Rattle.emtp_walk.proofs.Walking.{drop_here}

pub line-more : (section : Section) (readings : List LineReading) (lines : List (List ℕ)) (at : ℕ) (reading : LineReading) (line : List ℕ) (out new whole : List ℕ)
    → slice_get readings at ≡ Some reading → slice_get lines at ≡ Some line → out ++ sections_from section (at + 1) (drop at readings) (drop at lines) ≡ whole
    → new ≡ out ++ end_text section (at + 1) line reading.kind
    → new ++ sections_from (after section reading.kind) (at + 1 + 1) (drop (at + 1) readings) (drop (at + 1) lines) ≡ whole
line-more section readings lines at reading line out new whole read found h put =
    let behind = sections_from (after section reading.kind) (at + 1 + 1) (drop (at + 1) readings) (drop (at + 1) lines) in
    ap (λ (t : List ℕ). t ++ behind) put
    ∙ append_assoc out (end_text section (at + 1) line reading.kind) behind
    ∙ sym (ap (λ (ls : List (List ℕ)). out ++ sections_from section (at + 1) (reading ∷ drop (at + 1) readings) ls) (drop_here lines at line found))
    ∙ sym (ap (λ (rs : List LineReading). out ++ sections_from section (at + 1) rs (drop at lines)) (drop_here readings at reading read))
    ∙ h

none-left : (section : Section) (readings : List LineReading) (lines : List (List ℕ)) (at number : ℕ) → (length lines ≤ at) ⊎ (length readings ≤ at) → sections_from section number (drop at readings) (drop at lines) ≡ []
none-left section readings lines at number (inl end) = ap (λ (ls : List (List ℕ)). sections_from section number (drop at readings) ls) (drop_all at lines end)
none-left section readings lines at number (inr end) = ap (λ (rs : List LineReading). sections_from section number rs (drop at lines)) (drop_all at readings end) ∙ no_readings (drop at lines)
  where
    no_readings : (ls : List (List ℕ)) → sections_from section number [] ls ≡ []
    no_readings [] = refl
    no_readings (l ∷ ls) = refl

-- one of two numbers is the lesser one
lesser : (a b : ℕ) → (a ≤ min a b) ⊎ (b ≤ min a b)
lesser zero b = inl (omega arith)
lesser (suc a) zero = inr (omega arith)
lesser (suc a) (suc b) = further (lesser a b)
  where
    further : (a ≤ min a b) ⊎ (b ≤ min a b) → (suc a ≤ min (suc a) (suc b)) ⊎ (suc b ≤ min (suc a) (suc b))
    further (inl h) = inl (omega (arith, h))
    further (inr h) = inr (omega (arith, h))

pub all-read : (section : Section) (readings : List LineReading) (lines : List (List ℕ)) (at : ℕ) (out whole : List ℕ) → min (length lines) (length readings) ≤ at
    → out ++ sections_from section (at + 1) (drop at readings) (drop at lines) ≡ whole → out ≡ whole
all-read section readings lines at out whole end h =
    sym (append-nil out) ∙ sym (ap (λ (t : List ℕ). out ++ t) (none-left section readings lines at (at + 1) (past (lesser (length lines) (length readings))))) ∙ h
  where
    past : (length lines ≤ min (length lines) (length readings)) ⊎ (length readings ≤ min (length lines) (length readings)) → (length lines ≤ at) ⊎ (length readings ≤ at)
    past (inl k) = inl (omega (arith, k, end))
    past (inr k) = inr (omega (arith, k, end))
