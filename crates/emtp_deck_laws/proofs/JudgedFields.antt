-- What is read of several fields is refused for the least of their faults.
use Rattle.std.proofs.Common.{◌≡◌, sym, subst, refl, ℕ, ◌==◌, Bool, true, false, ◌||◌, ◌&&◌, List, [], ◌∷◌, ◌++◌, Option, Some, None, Result, Ok, Err, inl, inr, arith}
use Rattle.std.specs.Prelude.{if◌then◌else◌, nat_lt}
use Rattle.std.proofs.lemmas.Bool.Decides.{nat_tests}
use Rattle.emtp_card.proofs.Faults.{AreNone}
use Rattle.emtp_card.specs.Fault.{comes_before, filled_with}
use Rattle.emtp_card.specs.Reason.{reason_number}
use Rattle.emtp_card.specs.held.Fault.{IsIn, IsLeastOf, IsNotAfter, fault_at}
use Rattle.emtp_card.specs.declared.fault.Fault.{Fault}
use Rattle.emtp_card.specs.declared.reason.Why.{Why}
use Rattle.emtp_netcards.specs.Reading.{◌>>=◌, both, in_column}

-- a reading and all faults that its fields have: none where it is read, else the least of them
abbrev pub IsJudgedBy : {A : Type 0} → Result A Fault → List (Option Fault) → Type 0
IsJudgedBy (Ok x) faults = AreNone faults
IsJudgedBy (Err f) faults = IsLeastOf faults f

-- ---- the order of faults

ordered : ℕ → ℕ → ℕ → ℕ → Bool
ordered c n d m = nat_lt c d || ((c == d) && nat_lt n m)

not_itself : (c n : ℕ) → ordered c n c n ≡ false
unfolding ordered
not_itself c n = grind (arith, nat_tests)

up : (c n d m e k : ℕ) → ordered c n d m ≡ false → ordered d m e k ≡ false → ordered c n e k ≡ false
unfolding ordered
up c n d m e k h i = grind (arith, nat_tests)

over : (c n d m e k : ℕ) → ordered c n d m ≡ false → ordered e k d m ≡ true → ordered c n e k ≡ false
unfolding ordered
over c n d m e k h i = grind (arith, nat_tests)

itself : (f : Fault) → comes_before f f ≡ false
unfolding ordered
itself f = not_itself f.column (reason_number f.why)

-- what doesn't come before g doesn't come before f, where g doesn't
up_fault : (x g f : Fault) → comes_before x g ≡ false → comes_before g f ≡ false → comes_before x f ≡ false
unfolding ordered
up_fault x g f h i = up x.column (reason_number x.why) g.column (reason_number g.why) f.column (reason_number f.why) h i

-- what doesn't come before f doesn't come before g, where g comes before f
over_fault : (x f g : Fault) → comes_before x f ≡ false → comes_before g f ≡ true → comes_before x g ≡ false
unfolding ordered
over_fault x f g h i = over x.column (reason_number x.why) f.column (reason_number f.why) g.column (reason_number g.why) h i

-- ---- two lists

no_more : (fs gs : List (Option Fault)) → AreNone fs → AreNone gs → AreNone (fs ++ gs)
no_more [] gs none more = more
no_more (f ∷ fs) gs none more = (none.0, no_more fs gs none.1 more)

in_front : (fs gs : List (Option Fault)) (f : Fault) → IsIn f fs → IsIn f (fs ++ gs)
in_front [] gs f i = elim i [ ]
in_front (h ∷ fs) gs f (inl e) = inl e
in_front (h ∷ fs) gs f (inr i) = inr (in_front fs gs f i)

in_behind : (fs gs : List (Option Fault)) (f : Fault) → IsIn f gs → IsIn f (fs ++ gs)
in_behind [] gs f i = i
in_behind (h ∷ fs) gs f i = inr (in_behind fs gs f i)

after_both : (fs gs : List (Option Fault)) (f : Fault) → IsNotAfter f fs → IsNotAfter f gs → IsNotAfter f (fs ++ gs)
after_both [] gs f p q = q
after_both (h ∷ fs) gs f p q = (p.0, after_both fs gs f p.1 q)

after_none : (fs : List (Option Fault)) (f : Fault) → AreNone fs → IsNotAfter f fs
after_none [] f none = tt
after_none (h ∷ fs) f none = (λ x e. let is = none.0 in absurd (cc), after_none fs f none.1)

after_other : (fs : List (Option Fault)) (f g : Fault) → ((x : Fault) → comes_before x f ≡ false → comes_before x g ≡ false) → IsNotAfter f fs → IsNotAfter g fs
after_other [] f g moves p = tt
after_other (h ∷ fs) f g moves p = (λ x e. moves x (p.0 x e), after_other fs f g moves p.1)

-- ---- two readings

pub joined : {A B : Type 0} (a : Result A Fault) (b : Result B Fault) (fs gs : List (Option Fault)) → IsJudgedBy a fs → IsJudgedBy b gs → IsJudgedBy (both a b) (fs ++ gs)
joined (Ok x) (Ok y) fs gs p q = no_more fs gs p q
joined (Ok x) (Err g) fs gs p q = record { there = in_behind fs gs g q.there; first = after_both fs gs g (after_none fs g p) q.first }
joined (Err f) (Ok y) fs gs p q = record { there = in_front fs gs f p.there; first = after_both fs gs f p.first (after_none gs f q) }
joined (Err f) (Err g) fs gs p q = by_order (comes_before g f) refl
  where
    lesser : Bool → Fault
    lesser is = if is then g else f

    by_order : (is : Bool) → comes_before g f ≡ is → IsLeastOf (fs ++ gs) (lesser is)
    by_order true e = record { there = in_behind fs gs g q.there; first = after_both fs gs g (after_other fs f g (λ x h. over_fault x f g h e) p.first) q.first }
    by_order false e = record { there = in_front fs gs f p.there; first = after_both fs gs f p.first (after_other gs g f (λ x h. up_fault x g f h e) q.first) }

-- a rule that answers always adds no fault
pub then_made : {A B : Type 0} (read : Result A Fault) (rule : A → Result B Fault) (fs : List (Option Fault)) → ((x : A) → (y : B) × (rule x ≡ Ok y)) → IsJudgedBy read fs → IsJudgedBy (read >>= rule) fs
then_made (Ok x) rule fs made h = subst (λ r. IsJudgedBy r fs) (sym (made x).1) h
then_made (Err f) rule fs made h = h

-- a rule of which the faults stand behind those of what it reads
pub then_judged : {A B : Type 0} (x : A) (rule : A → Result B Fault) (fs gs : List (Option Fault)) → AreNone fs → IsJudgedBy (rule x) gs → IsJudgedBy (rule x) (fs ++ gs)
then_judged x rule fs gs none h = behind (rule x) h
  where
    behind : {B : Type 0} (r : Result B Fault) → IsJudgedBy r gs → IsJudgedBy r (fs ++ gs)
    behind (Ok y) h = no_more fs gs none h
    behind (Err g) h = record { there = in_behind fs gs g h.there; first = after_both fs gs g (after_none fs g none) h.first }

-- a refusal stands where what lies behind has no fault
pub none_behind : (fs gs : List (Option Fault)) (f : Fault) → IsLeastOf fs f → AreNone gs → IsLeastOf (fs ++ gs) f
none_behind fs gs f h none = record { there = in_front fs gs f h.there; first = after_both fs gs f h.first (after_none gs f none) }

-- ---- one field

pub alone : (f : Fault) → IsLeastOf (Some f ∷ []) f
alone f = record { there = inl refl; first = (λ x e. let same : f ≡ x = cc in subst (λ y. comes_before y f ≡ false) same (itself f), tt) }

pub field_alone : {A : Type 0} (column : ℕ) (field : Result A Why) → IsJudgedBy (in_column column field) (fault_at column field ∷ [])
field_alone column (Ok x) = (refl, tt)
field_alone column (Err why) = alone (record { column = column; why = why })

pub filled_alone : {A : Type 0} (column : ℕ) (blank : A) (field : Result (Option A) Why) → IsJudgedBy (in_column column (filled_with blank field)) (fault_at column field ∷ [])
filled_alone column blank (Ok None) = (refl, tt)
filled_alone column blank (Ok (Some x)) = (refl, tt)
filled_alone column blank (Err why) = alone (record { column = column; why = why })
