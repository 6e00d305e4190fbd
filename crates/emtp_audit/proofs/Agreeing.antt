-- Lines and fields that meet their rules.
use Rattle.std.proofs.Common.{◌≡◌, ◌++◌, ◌∙◌, ap, ℕ, ◌+◌, Bool, List, [], ◌∷◌, None, refl}
use Rattle.emtp_audit.specs.Rules.{Rule, LineRule, Anything, Fields, fields_differ, line_differs, lines_differ, cause_or_later, differs_or_later, comma_fields}

-- each field passes its rule, and none is missing or too many
abbrev pub Pass : List Rule → List (List ℕ) → Type 0
Pass [] [] = Unit {0}
Pass [] (field ∷ fields) = ⊥
Pass (rule ∷ rules) [] = ⊥
Pass (rule ∷ rules) (field ∷ fields) = (rule field ≡ None) × Pass rules fields

pub pass-both : (rules more : List Rule) (fields others : List (List ℕ)) → Pass rules fields → Pass more others → Pass (rules ++ more) (fields ++ others)
pass-both [] more [] others first second = second
pass-both [] more (field ∷ fields) others first second = absurd first
pass-both (rule ∷ rules) more [] others first second = absurd first
pass-both (rule ∷ rules) more (field ∷ fields) others first second = (first.0, pass-both rules more fields others first.1 second)

-- so none of them differs
pub pass-none : (dat : Bool) (line number : ℕ) (rules : List Rule) (fields : List (List ℕ)) → Pass rules fields → fields_differ dat line number rules fields ≡ None
pass-none dat line number [] [] pass = refl
pass-none dat line number [] (field ∷ fields) pass = absurd pass
pass-none dat line number (rule ∷ rules) [] pass = absurd pass
pass-none dat line number (rule ∷ rules) (field ∷ fields) pass =
    ap (λ o. cause_or_later dat line number o (fields_differ dat line (number + 1) rules fields)) pass.0
    ∙ pass-none dat line (number + 1) rules fields pass.1

-- a line meets its rule
abbrev pub Meets : LineRule → List ℕ → Type 0
Meets Anything line = Unit {0}
Meets (Fields rules) line = Pass rules (comma_fields line)

pub meets-none : (dat : Bool) (number : ℕ) (rule : LineRule) (line : List ℕ) → Meets rule line → line_differs dat number rule line ≡ None
meets-none dat number Anything line meets = refl
meets-none dat number (Fields rules) line meets = pass-none dat number 1 rules (comma_fields line) meets

-- each line meets its rule, and none is missing or too many
abbrev pub Agree : List LineRule → List (List ℕ) → Type 0
Agree [] [] = Unit {0}
Agree [] (line ∷ lines) = ⊥
Agree (rule ∷ rules) [] = ⊥
Agree (rule ∷ rules) (line ∷ lines) = Meets rule line × Agree rules lines

pub agree-both : (rules more : List LineRule) (lines others : List (List ℕ)) → Agree rules lines → Agree more others → Agree (rules ++ more) (lines ++ others)
agree-both [] more [] others first second = second
agree-both [] more (line ∷ lines) others first second = absurd first
agree-both (rule ∷ rules) more [] others first second = absurd first
agree-both (rule ∷ rules) more (line ∷ lines) others first second = (first.0, agree-both rules more lines others first.1 second)

pub agree-none : (dat : Bool) (number : ℕ) (rules : List LineRule) (lines : List (List ℕ)) → Agree rules lines → lines_differ dat number rules lines ≡ None
agree-none dat number [] [] agree = refl
agree-none dat number [] (line ∷ lines) agree = absurd agree
agree-none dat number (rule ∷ rules) [] agree = absurd agree
agree-none dat number (rule ∷ rules) (line ∷ lines) agree =
    ap (λ o. differs_or_later o (lines_differ dat (number + 1) rules lines)) (meets-none dat number rule line agree.0)
    ∙ agree-none dat (number + 1) rules lines agree.1
