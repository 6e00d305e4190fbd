-- One column more.
use Rattle.std.proofs.Common.{◌≡◌, ◌++◌, ◌∙◌, ◌+◌, arith, ap, refl, subst, List, ℕ, suc, append_assoc}
use Rattle.emtp_fields.specs.Fields.{field_ending, fields_up_to}
use Rattle.emtp_walk.specs.declared.kind.Kind.{Kind}
use Rattle.emtp_warnings.specs.ColumnWarnings.{first_to}

turn : (ruler line : List ℕ) (kind : Kind) (before : ℕ)
    → fields_up_to ruler line kind before ++ field_ending ruler line kind (first_to ruler before) (before + 1) ≡ fields_up_to ruler line kind (before + 1)
turn ruler line kind before =
    let e : suc before ≡ before + 1 = omega arith in
    subst (λ (n : ℕ). fields_up_to ruler line kind before ++ field_ending ruler line kind (first_to ruler before) n ≡ fields_up_to ruler line kind n) e refl

-- the field that ends with it behind those before
pub fields-more : (old mid new ruler line : List ℕ) (kind : Kind) (before first : ℕ) → first ≡ first_to ruler before → mid ≡ old ++ fields_up_to ruler line kind before
    → new ≡ mid ++ field_ending ruler line kind first (before + 1) → new ≡ old ++ fields_up_to ruler line kind (before + 1)
fields-more old mid new ruler line kind before first begins front added =
    added
    ∙ ap (λ (t : List ℕ). t ++ field_ending ruler line kind first (before + 1)) front
    ∙ append_assoc old (fields_up_to ruler line kind before) (field_ending ruler line kind first (before + 1))
    ∙ ap (λ (f : ℕ). old ++ (fields_up_to ruler line kind before ++ field_ending ruler line kind f (before + 1))) begins
    ∙ ap (λ (t : List ℕ). old ++ t) (turn ruler line kind before)
