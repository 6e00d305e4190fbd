-- What the fields of a line say.
use Rattle.std.proofs.Common.{◌≡◌, ◌∙◌, sym, ap, ℕ, ℤ, pos, unsigned_abs, List, [], ◌∷◌, get_or, Option, Some, unwrap_or}
use Rattle.emtp_audit.specs.Cfg.{scale_number, scale_on, rates_number, rates_on, unit_number, unit_on}
use Rattle.emtp_audit.specs.Rules.{comma_fields}
use Rattle.emtp_audit.specs.held.Walk.{Behind}
use Rattle.emtp_audit.specs.declared.scale.Scale.{Scale}

pub unit_on-first : (text field : List ℕ) (rest fields : List (List ℕ)) (unit : ℤ) → fields ≡ comma_fields text → fields ≡ field ∷ rest → Some unit ≡ unit_number field → unit ≡ unit_on text
unfolding unit_on
unit_on-first text field rest fields unit of first is =
    ap (λ (o : Option ℤ). unwrap_or o (pos 0)) is
    ∙ ap (λ (fs : List (List ℕ)). unwrap_or (unit_number (get_or fs 0 [])) (pos 0)) (sym first ∙ of)

pub rates_on-first : (text field : List ℕ) (rest fields : List (List ℕ)) (rates : ℤ) → fields ≡ comma_fields text → fields ≡ field ∷ rest → Some rates ≡ rates_number field → unsigned_abs rates ≡ rates_on text
unfolding rates_on
rates_on-first text field rest fields rates of first is =
    ap (λ (o : Option ℤ). unsigned_abs (unwrap_or o (pos 0))) is
    ∙ ap (λ (fs : List (List ℕ)). unsigned_abs (unwrap_or (rates_number (get_or fs 0 [])) (pos 0))) (sym first ∙ of)

pub scale_on-behind : (text : List ℕ) (fields rest : List (List ℕ)) (scale : Scale) → fields ≡ comma_fields text → Behind fields 5 rest
    → scale.a ≡ unwrap_or (scale_number (get_or rest 0 [])) (pos 0) → scale.b ≡ unwrap_or (scale_number (get_or rest 1 [])) (pos 0) → scale ≡ scale_on text
unfolding scale_on
scale_on-behind text fields rest scale of behind a b =
    let made : ℤ → ℤ → Scale = λ a b. record { a = a; b = b } in
    let number : List ℕ → ℤ = λ field. unwrap_or (scale_number field) (pos 0) in
    let fifth = ap number (sym (behind 0) ∙ ap (λ (fs : List (List ℕ)). get_or fs 5 []) of) in
    let sixth = ap number (sym (behind 1) ∙ ap (λ (fs : List (List ℕ)). get_or fs 6 []) of) in
    ap (λ (x : ℤ). made x scale.b) (a ∙ fifth) ∙ ap (made (number (get_or (comma_fields text) 5 []))) (b ∙ sixth)
