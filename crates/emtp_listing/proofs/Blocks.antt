-- Inputs, limits and blocks are known by their lines.
use Rattle.std.proofs.Common.{◌≡◌, ◌++◌, ◌∙◌, sym, ap, refl, arith, ◌^◌, ◌<◌, ◌≤◌, Bool, true, false, List, [], ℕ, ℤ, unsigned_abs, length, get_or, drop, codes, decimal}
use Rattle.std.specs.Prelude.{All}
use Rattle.std.proofs.lemmas.List.Elements.{All-get_or, All-weaker}
use Rattle.emtp_case.specs.held.Control.{IsBlock, IsBound}
use Rattle.emtp_case.specs.held.Name.{IsName}
use Rattle.emtp_case.specs.declared.control.Block.{Block}
use Rattle.emtp_case.specs.declared.control.Bound.{Bound}
use Rattle.emtp_case.specs.declared.control.Bound.TheVariants.{Fixed, Named, None as NoBound}
use Rattle.emtp_case.specs.declared.control.Input.{Input}
use Rattle.emtp_listing.specs.ControlLines.{block_entries, block_lines, bound_entry, input_entries, input_entry, polynomial_line, power_entry, input_sign}
use Rattle.emtp_listing.specs.Law.{IsFree, AllFree, AreApart, Around, HasPowers, HasVarNames}
use Rattle.emtp_listing.specs.Lines.{all_separated, numbered}
use Rattle.emtp_listing.proofs.Branches.{card-free, card-same}
use Rattle.emtp_listing.proofs.Cut.{entries-same, free-both, free-entries}
use Rattle.emtp_listing.proofs.Entries.{count-marked, figure-marked}
use Rattle.emtp_listing.proofs.Lists.{map-free, map-same, numbered-free, numbered-same}
use Rattle.emtp_listing.proofs.Marks.{IsMark, IsText, comma, line_end, name-text, text-both, within, word-free, word-same}
use Rattle.emtp_listing.proofs.Numbers.{count-same, decimal-free, figure-free, figure-same}
use Rattle.emtp_listing.proofs.Words.{variable-free, variable-same}

-- ---- inputs

sign-text : (t : Bool) → IsText (input_sign t)
sign-text false = refl
sign-text true = refl

input-free : (b : ℕ) (vars : List (List ℕ)) (i : Input) → IsMark b → All IsName vars → i.var < length vars → IsFree b (input_entry vars i)
input-free b vars i mark names there =
    word-free b (codes "input") (input_sign i.minus ++ get_or vars i.var []) mark refl
    (text-both (input_sign i.minus) (get_or vars i.var []) (sign-text i.minus) (name-text (get_or vars i.var []) (All-get_or IsName vars i.var [] there names)))

signed-same : (vars : List (List ℕ)) (s t : Bool) (v w : ℕ) → AreApart vars → v < length vars → w < length vars → input_sign s ++ get_or vars v [] ≡ input_sign t ++ get_or vars w [] → (s ≡ t) × (v ≡ w)
signed-same vars false false v w apart there there_w e = (refl, apart v w there there_w (ap (λ (l : List ℕ). drop 1 l) e))
signed-same vars false true v w apart there there_w e = let l : 43 ≡ 45 = ap (λ (l : List ℕ). get_or l 0 0) e in absurd (omega (arith, l))
signed-same vars true false v w apart there there_w e = let l : 45 ≡ 43 = ap (λ (l : List ℕ). get_or l 0 0) e in absurd (omega (arith, l))
signed-same vars true true v w apart there there_w e = (refl, apart v w there there_w (ap (λ (l : List ℕ). drop 1 l) e))

input-same : (vars : List (List ℕ)) (i j : Input) → AreApart vars → i.var < length vars → j.var < length vars → input_entry vars i ≡ input_entry vars j → i ≡ j
input-same vars i j apart there there_j e =
    let parts = signed-same vars i.minus j.minus i.var j.var apart there there_j (word-same (codes "input") (input_sign i.minus ++ get_or vars i.var []) (input_sign j.minus ++ get_or vars j.var []) e) in
    ap (λ (v : ℕ). made v i.minus) parts.1 ∙ ap (λ (m : Bool). made j.var m) parts.0
  where
    made : ℕ → Bool → Input
    made a b = record { var = a; minus = b }

pub inputs-free : (b : ℕ) (vars : List (List ℕ)) (is : List Input) → IsMark b → All IsName vars → length is < 2 ^ 64 → All (λ (i : Input). i.var < length vars) is → AllFree b (input_entries vars is)
inputs-free b vars is mark names few there =
    (count-marked b (codes "inputs") (length is) mark refl few, map-free b (input_entry vars) (λ (i : Input). i.var < length vars) (λ i h. input-free b vars i mark names h) is there)

pub inputs-same : (vars : List (List ℕ)) (is js : List Input) → AreApart vars → All (λ (i : Input). i.var < length vars) is → All (λ (i : Input). i.var < length vars) js
    → input_entries vars is ≡ input_entries vars js → is ≡ js
inputs-same vars is js apart there there_j e =
    map-same (input_entry vars) (λ (i : Input). i.var < length vars) (λ (i : Input). i.var < length vars) (λ i j h k same. input-same vars i j apart h k same) is js there there_j (ap (λ (l : List (List ℕ)). drop 1 l) e)

-- ---- limits

bound-free : (b : ℕ) (side : List ℕ) (w : Around) (vars : List (List ℕ)) (x : Bound) → IsMark b → IsText side → HasVarNames w vars → IsBound w.sizes x → IsFree b (bound_entry side vars x)
bound-free b side w vars NoBound mark sided named is = mark.texts (codes "no " ++ side) (text-both (codes "no ") side refl sided)
bound-free b side w vars (Fixed x) mark sided named is = figure-marked b (codes "fixed " ++ side) 9 [] x mark (text-both (codes "fixed ") side refl sided) refl (within x is)
bound-free b side w vars (Named v) mark sided named is = variable-free b (codes "variable " ++ side) vars v mark (text-both (codes "variable ") side refl sided) named.names (omega (arith, named.count, is))

first_differs : (x y : List ℕ) (a b : ℕ) → get_or x 0 0 ≡ a → get_or y 0 0 ≡ b → (a ≡ b → ⊥) → x ≡ y → ⊥
first_differs x y a b at_x at_y other e = other (sym at_x ∙ ap (λ (l : List ℕ). get_or l 0 0) e ∙ at_y)

bound-same : (side : List ℕ) (w v : Around) (vars : List (List ℕ)) (x y : Bound) → HasVarNames w vars → HasVarNames v vars → AreApart vars → IsBound w.sizes x → IsBound v.sizes y
    → bound_entry side vars x ≡ bound_entry side vars y → x ≡ y
bound-same side w v vars NoBound NoBound named named2 apart is js e = refl
bound-same side w v vars (Fixed x) (Fixed y) named named2 apart is js e = ap (λ (z : ℤ). Fixed z) (figure-same (codes "fixed " ++ side) 9 [] x y (within x is) (within y js) e)
bound-same side w v vars (Named m) (Named n) named named2 apart is js e =
    ap (λ (z : ℕ). Named z) (variable-same (codes "variable " ++ side) vars m n apart (omega (arith, named.count, is)) (omega (arith, named2.count, js)) e)
bound-same side w v vars NoBound (Fixed y) named named2 apart is js e = absurd (first_differs (bound_entry side vars NoBound) (bound_entry side vars (Fixed y)) 110 102 refl refl (λ f. omega (arith, f)) e)
bound-same side w v vars NoBound (Named n) named named2 apart is js e = absurd (first_differs (bound_entry side vars NoBound) (bound_entry side vars (Named n)) 110 118 refl refl (λ f. omega (arith, f)) e)
bound-same side w v vars (Fixed x) NoBound named named2 apart is js e = absurd (first_differs (bound_entry side vars (Fixed x)) (bound_entry side vars NoBound) 102 110 refl refl (λ f. omega (arith, f)) e)
bound-same side w v vars (Fixed x) (Named n) named named2 apart is js e = absurd (first_differs (bound_entry side vars (Fixed x)) (bound_entry side vars (Named n)) 102 118 refl refl (λ f. omega (arith, f)) e)
bound-same side w v vars (Named m) NoBound named named2 apart is js e = absurd (first_differs (bound_entry side vars (Named m)) (bound_entry side vars NoBound) 118 110 refl refl (λ f. omega (arith, f)) e)
bound-same side w v vars (Named m) (Fixed y) named named2 apart is js e = absurd (first_differs (bound_entry side vars (Named m)) (bound_entry side vars (Fixed y)) 118 102 refl refl (λ f. omega (arith, f)) e)

-- ---- polynomials

abbrev IsCoefficient : ℤ → Type 0
IsCoefficient x = unsigned_abs x ≤ 10 ^ 18

power-free : (b n : ℕ) (x : ℤ) → IsMark b → n < 2 ^ 32 → IsCoefficient x → IsFree b (power_entry n x)
power-free b n x mark small is =
    figure-free b (codes "s^" ++ decimal n) 12 [] x mark.low (free-both b (codes "s^") (decimal n) (mark.texts (codes "s^") refl) (decimal-free b n (omega (arith, mark.low)) (omega arith))) refl (within x is)

powers-free : (b : ℕ) (card : List ℤ) → IsMark b → length card ≡ 8 → All IsCoefficient card → AllFree b (numbered power_entry 0 card)
powers-free b card mark eight is = numbered-free b (2 ^ 32) power_entry IsCoefficient (λ n x less h. power-free b n x mark less h) 0 card (omega (arith, eight)) is

polynomial-free : (word : List ℕ) (card : List ℤ) → IsText word → length card ≡ 8 → All IsCoefficient card → IsFree 10 (polynomial_line word card)
polynomial-free word card named eight is =
    free-both 10 word (all_separated (numbered power_entry 0 card)) (line_end.texts word named) (free-entries 10 (numbered power_entry 0 card) (omega arith) (powers-free 10 card line_end eight is))

powers-same : (x y : List ℤ) → length x ≡ 8 → length y ≡ 8 → All IsCoefficient x → All IsCoefficient y → all_separated (numbered power_entry 0 x) ≡ all_separated (numbered power_entry 0 y) → x ≡ y
powers-same x y eight eight2 is js e =
    numbered-same (2 ^ 32) power_entry power_entry IsCoefficient IsCoefficient (λ n a b less h k same. figure-same (codes "s^" ++ decimal n) 12 [] a b (within a h) (within b k) same) 0 x y (omega (arith, eight)) is js
    (entries-same (numbered power_entry 0 x) (numbered power_entry 0 y) (powers-free 44 x comma eight is) (powers-free 44 y comma eight2 js) e)

-- ---- blocks

pub there-among : (w : Around) (vars : List (List ℕ)) (is : List Input) → HasVarNames w vars → All (λ (i : Input). i.var < w.sizes.vars) is → All (λ (i : Input). i.var < length vars) is
there-among w vars is named all = among w.sizes.vars (length vars) is named.count all
  where
    among : (n m : ℕ) (is : List Input) → n ≡ m → All (λ (i : Input). i.var < n) is → All (λ (i : Input). i.var < m) is
    among n m is same all = All-weaker (λ (i : Input). i.var < n) (λ (i : Input). i.var < m) (λ i h. omega (arith, same, h)) is all

block-entries-free : (b : ℕ) (w : Around) (vars : List (List ℕ)) (x : Block) → IsMark b → HasVarNames w vars → IsBlock w.run w.sizes x → AllFree b (block_entries vars x)
block-entries-free b w vars x mark named is = (
  variable-free b (codes "NAME") vars x.var mark refl named.names (omega (arith, named.count, is.there)),
  (
    count-marked b (codes "order") x.order mark refl (omega (arith, is.order)),
    (
      figure-marked b (codes "gain") 12 [] x.gain mark refl refl (within x.gain is.gain),
      (
        bound-free b (codes "low limit") w vars x.low mark refl named is.low,
        (
          bound-free b (codes "high limit") w vars x.high mark refl named is.high,
          inputs-free b vars x.inputs mark named.names (omega (arith, is.few_inputs)) (there-among w vars x.inputs named is.inputs),
        ),
      ),
    ),
  ),
)

pub block-free : (w : Around) (vars : List (List ℕ)) (x : Block) → HasVarNames w vars → IsBlock w.run w.sizes x → HasPowers x → AllFree 10 (block_lines vars x)
block-free w vars x named is has = (
  card-free 10 x.line (codes "block") (block_entries vars x) (omega arith) has.line refl refl (block-entries-free 10 w vars x line_end named is),
  (polynomial-free (codes "numerator") x.top refl has.top is.top, (polynomial-free (codes "denominator") x.bottom refl has.bottom is.bottom, tt)),
)

pub block-same : (w v : Around) (vars : List (List ℕ)) (x y : Block) (s t : List (List ℕ)) → HasVarNames w vars → HasVarNames v vars → AreApart vars
    → IsBlock w.run w.sizes x → IsBlock v.run v.sizes y → HasPowers x → HasPowers y → block_lines vars x ++ s ≡ block_lines vars y ++ t → (x ≡ y) × (s ≡ t)
block-same w v vars x y s t named named2 apart is js has hbs e =
    let parts = card-same x.line y.line (codes "block") (codes "block") (block_entries vars x) (block_entries vars y) has.line hbs.line refl refl
    (block-entries-free 44 w vars x comma named is) (block-entries-free 44 v vars y comma named2 js) (ap (λ (l : List (List ℕ)). get_or l 0 []) e) in
    let e1 = variable-same (codes "NAME") vars x.var y.var apart (omega (arith, named.count, is.there)) (omega (arith, named2.count, js.there)) (ap (λ (l : List (List ℕ)). get_or l 0 []) parts.1.1) in
    let e2 = count-same (codes "order") x.order y.order (omega (arith, is.order)) (omega (arith, js.order)) (ap (λ (l : List (List ℕ)). get_or l 1 []) parts.1.1) in
    let e3 = figure-same (codes "gain") 12 [] x.gain y.gain (within x.gain is.gain) (within y.gain js.gain) (ap (λ (l : List (List ℕ)). get_or l 2 []) parts.1.1) in
    let e4 = bound-same (codes "low limit") w v vars x.low y.low named named2 apart is.low js.low (ap (λ (l : List (List ℕ)). get_or l 3 []) parts.1.1) in
    let e5 = bound-same (codes "high limit") w v vars x.high y.high named named2 apart is.high js.high (ap (λ (l : List (List ℕ)). get_or l 4 []) parts.1.1) in
    let e6 = inputs-same vars x.inputs y.inputs apart (there-among w vars x.inputs named is.inputs) (there-among v vars y.inputs named2 js.inputs) (ap (λ (l : List (List ℕ)). drop 5 l) parts.1.1) in
    let e7 = powers-same x.top y.top has.top hbs.top is.top js.top (ap (λ (l : List (List ℕ)). drop 9 (get_or l 1 [])) e) in
    let e8 = powers-same x.bottom y.bottom has.bottom hbs.bottom is.bottom js.bottom (ap (λ (l : List (List ℕ)). drop 11 (get_or l 2 [])) e) in (
      ap (λ (z : ℕ). made z x.var x.order x.inputs x.gain x.top x.bottom x.low x.high) parts.0
          ∙ ap (λ (z : ℕ). made y.line z x.order x.inputs x.gain x.top x.bottom x.low x.high) e1
          ∙ ap (λ (z : ℕ). made y.line y.var z x.inputs x.gain x.top x.bottom x.low x.high) e2
          ∙ ap (λ (z : List Input). made y.line y.var y.order z x.gain x.top x.bottom x.low x.high) e6
          ∙ ap (λ (z : ℤ). made y.line y.var y.order y.inputs z x.top x.bottom x.low x.high) e3
          ∙ ap (λ (z : List ℤ). made y.line y.var y.order y.inputs y.gain z x.bottom x.low x.high) e7
          ∙ ap (λ (z : List ℤ). made y.line y.var y.order y.inputs y.gain y.top z x.low x.high) e8
          ∙ ap (λ (z : Bound). made y.line y.var y.order y.inputs y.gain y.top y.bottom z x.high) e4
          ∙ ap (λ (z : Bound). made y.line y.var y.order y.inputs y.gain y.top y.bottom y.low z) e5,
      ap (λ (l : List (List ℕ)). drop 3 l) e,
    )
  where
    made : ℕ → ℕ → ℕ → List Input → ℤ → List ℤ → List ℤ → Bound → Bound → Block
    made a b c d e f g h i = record { line = a; var = b; order = c; inputs = d; gain = e; top = f; bottom = g; low = h; high = i }
