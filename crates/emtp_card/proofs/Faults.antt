-- The least fault of a table is in it, and none comes before it.
use Rattle.std.proofs.Common.{subst, IfSome, ◌≡◌, sym, ℕ, ◌==◌, Bool, true, false, ◌||◌, ◌&&◌, List, [], ◌∷◌, Option, Some, None, option_map, ◌⊎◌, inl, inr, refl, arith}
use Rattle.std.specs.Prelude.{fold, nat_lt, if◌then◌else◌}
use Rattle.std.proofs.lemmas.Bool.Decides.{nat_tests}
use Rattle.emtp_card.specs.Lines.{fault_of_line, is_section_end}
use Rattle.emtp_card.specs.Reason.{reason_number}
use Rattle.emtp_card.specs.declared.reason.Why.{Why}
use Rattle.emtp_card.specs.Fault.{bad_at, comes_before, judge, judge_by, lesser, least}
use Rattle.emtp_card.specs.held.Fault.{IsIn, IsLeastOf, IsNotAfter, judge_due}
use Rattle.emtp_card.specs.declared.fault.Fault.{Fault}

before : ℕ → ℕ → ℕ → ℕ → Bool
before c n d m = nat_lt c d || ((c == d) && nat_lt n m)

kept : (c n d m e k : ℕ) → before d m c n ≡ false → before c n e k ≡ false → before d m e k ≡ false
unfolding before
kept c n d m e k h h' = grind (arith, nat_tests)

passed : (c n d m e k : ℕ) → before d m c n ≡ true → before d m e k ≡ false → before c n e k ≡ false
unfolding before
passed c n d m e k h h' = grind (arith, nat_tests)

not_itself : (c n : ℕ) → before c n c n ≡ false
unfolding before
not_itself c n = grind (arith, nat_tests)

kept_fault : (a b f : Fault) → comes_before b a ≡ false → comes_before a f ≡ false → comes_before b f ≡ false
unfolding before
kept_fault a b f h h' = kept a.column (reason_number a.why) b.column (reason_number b.why) f.column (reason_number f.why) h h'

passed_fault : (a b f : Fault) → comes_before b a ≡ true → comes_before b f ≡ false → comes_before a f ≡ false
unfolding before
passed_fault a b f h h' = passed a.column (reason_number a.why) b.column (reason_number b.why) f.column (reason_number f.why) h h'

itself : (f : Fault) → comes_before f f ≡ false
unfolding before
itself f = not_itself f.column (reason_number f.why)

-- what a fold has found: the fault it began with, or one of the list; none of them comes before it
record Found (start : Option Fault) (gs : List (Option Fault)) (f : Fault) : Type 0 where
  there : (start ≡ Some f) ⊎ IsIn f gs
  begun : (x : Fault) → start ≡ Some x → comes_before x f ≡ false
  rest : IsNotAfter f gs

-- the lesser of two, seen from a fault that neither comes before
lesser_of : (a b : Fault) (is : Bool) (f : Fault) → comes_before b a ≡ is → ((x : Fault) → (if is then Some b else Some a) ≡ Some x → comes_before x f ≡ false) → (comes_before a f ≡ false) × (comes_before b f ≡ false)
lesser_of a b true f h all = let hb = all b refl in (passed_fault a b f h hb, hb)
lesser_of a b false f h all = let ha = all a refl in (ha, kept_fault a b f h ha)

which : (a b : Fault) (is : Bool) (f : Fault) → (if is then Some b else Some a) ≡ Some f → (let s : Option Fault = Some a in s ≡ Some f) ⊎ (let s : Option Fault = Some b in s ≡ Some f)
which a b true f e = inr e
which a b false f e = inl e

found : (start : Option Fault) (gs : List (Option Fault)) (f : Fault) → fold lesser start gs ≡ Some f → Found start gs f
found start [] f e = record { there = inl e; begun = λ x h. let same : x ≡ f = cc in subst (λ y. comes_before y f ≡ false) (sym same) (itself f); rest = tt }
found None (g ∷ gs) f e =
    let r = found g gs f e in
    record { there = inr r.there; begun = λ x h. absurd (cc); rest = (r.begun, r.rest) }
found (Some a) (None ∷ gs) f e =
    let r = found (Some a) gs f e in
    record { there = elim r.there [ inl s ↦ inl s | inr i ↦ inr (inr i) ]; begun = r.begun; rest = ((λ x h. absurd (cc)), r.rest) }
found (Some a) (Some b ∷ gs) f e =
    let r = found (if comes_before b a then Some b else Some a) gs f e in
    let both = lesser_of a b (comes_before b a) f refl r.begun in
    record {
      there = elim r.there [ inl s ↦ elim (which a b (comes_before b a) f s) [ inl p ↦ inl p | inr q ↦ inr (inl q) ] | inr i ↦ inr (inr i) ];
      begun = λ x h. let same : a ≡ x = cc in subst (λ y. comes_before y f ≡ false) same both.0;
      rest = ((λ x h. let same : b ≡ x = cc in subst (λ y. comes_before y f ≡ false) same both.1), r.rest);
    }

pub least_is_least : (faults : List (Option Fault)) (f : Fault) → least faults ≡ Some f → IsLeastOf faults f
unfolding least
least_is_least faults f e =
    let r = found None faults f e in
    record { there = elim r.there [ inl s ↦ absurd (cc) | inr i ↦ i ]; first = r.rest }

pub some_least : (r : Option Fault) (faults : List (Option Fault)) → r ≡ least faults → IfSome r (IsLeastOf faults)
some_least None faults e = tt
some_least (Some f) faults e = least_is_least faults f (sym e)

-- no entry of a table has a fault
abbrev pub AreNone : List (Option Fault) → Type 0
AreNone [] = Unit {0}
AreNone (f ∷ fs) = (f ≡ None) × AreNone fs

chosen : (a b : Fault) (before : Bool) → (if before then Some b else Some a) ≡ None → ⊥
chosen a b true e = cc
chosen a b false e = cc

lesser_none : (a b : Option Fault) → lesser a b ≡ None → (a ≡ None) × (b ≡ None)
lesser_none None b e = (refl, e)
lesser_none (Some a) None e = cc
lesser_none (Some a) (Some b) e = absurd (chosen a b (comes_before b a) e)

fold_none : (start : Option Fault) (fs : List (Option Fault)) → fold lesser start fs ≡ None → (start ≡ None) × AreNone fs
fold_none start [] e = (e, tt)
fold_none start (f ∷ fs) e =
    let rest = fold_none (lesser start f) fs e in
    let both = lesser_none start f rest.0 in
    (both.0, (both.1, rest.1))

-- a card that isn't refused has no fault in any field
pub least_none : (fs : List (Option Fault)) → least fs ≡ None → AreNone fs
unfolding least
least_none fs e = (fold_none None fs e).1

judged : (number : ℕ) (found : Option (ℕ × Why)) (fields : Option Fault) → judge_by number found fields ≡ None → fields ≡ None
judged number (Some f) fields e = cc
judged number None (Some f) e = cc
judged number None None e = refl

pub judge_none : (number : ℕ) (line : List ℕ) (fields : Option Fault) → judge number line fields ≡ None → fields ≡ None
judge_none number line fields e = judged number (fault_of_line line) fields e

due : (number : ℕ) (line : List ℕ) (ends : Bool) (fields : Option Fault) → (if ends then option_map (bad_at number) fields else judge number line fields) ≡ None → fields ≡ None
due number line true (Some f) e = cc
due number line true None e = refl
due number line false fields e = judge_none number line fields e

pub judge_due_none : (number : ℕ) (line : List ℕ) (fields : Option Fault) → judge_due number line fields ≡ None → fields ≡ None
judge_due_none number line fields e = due number line (is_section_end line) fields e
