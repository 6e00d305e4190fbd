-- Formulas are known by their lines.
use Rattle.std.proofs.Common.{◌≡◌, ◌++◌, ◌+◌, ◌∙◌, sym, ap, refl, arith, subst, ◌^◌, ◌<◌, Bool, true, false, List, [], ◌∷◌, ℕ, length, map, get_or, drop, take, codes, decimal}
use Rattle.std.specs.Prelude.{◌&&◌, All, if◌then◌else◌}
use Rattle.std.proofs.lemmas.List.Elements.{All-weaker}
use Rattle.emtp_case.specs.held.Control.{IsFormula}
use Rattle.emtp_case.specs.held.Expr.{FitsPlaces, IsWhole}
use Rattle.emtp_case.specs.held.Name.{IsName}
use Rattle.emtp_case.specs.declared.control.Formula.{Formula}
use Rattle.emtp_case.specs.declared.control.Group.{Group}
use Rattle.emtp_case.specs.declared.control.Group.TheVariants.{Input as BeforeBlocks, Inside, Output}
use Rattle.emtp_case.specs.declared.expr.BinaryOp.{BinaryOp}
use Rattle.emtp_case.specs.declared.expr.BinaryOp.TheVariants.{Add, And, Div, Eq, Ge, Gt, Le, Lt, Mul, Ne, Or, Sub}
use Rattle.emtp_case.specs.declared.expr.Node.{Node}
use Rattle.emtp_case.specs.declared.expr.UnaryOp.{UnaryOp}
use Rattle.emtp_case.specs.declared.expr.UnaryOp.TheVariants.{Abs, Minus, Not, Sign, Sqrt, Trunc}
use Rattle.emtp_fix.specs.declared.limit.TheConstants.{LARGEST_VALUE}
use Rattle.emtp_listing.specs.ControlLines.{formula_entries, group_number}
use Rattle.emtp_listing.specs.Entry.{count_entry, variable_entry, word_entry}
use Rattle.emtp_listing.specs.ExpressionText.{binary_text, binary_word, expression_text, is_new, is_plain, opening, unary_text, variable_text}
use Rattle.emtp_listing.specs.Law.{IsFree, AllFree, AreApart, Around, HasVarNames}
use Rattle.emtp_listing.proofs.Cut.{free-both}
use Rattle.emtp_listing.proofs.Entries.{count-marked}
use Rattle.emtp_listing.proofs.Lists.{all-free, front-same, map-free, map-length, map-same}
use Rattle.emtp_listing.proofs.Marks.{IsMark, IsText, between-small, name_at-text, word-same}
use Rattle.emtp_listing.proofs.Numbers.{count-same, decimal-free, fixed-free}
use Rattle.emtp_listing.proofs.Trees.{Amount, IsTree, One, Place, Tree, Two, nodes_of, text_of, tree-fits, whole-tree}
use Rattle.emtp_listing.proofs.TreeTexts.{HasVars, tree-same}
use Rattle.emtp_listing.proofs.Words.{variable-free, variable-same}

-- ---- groups, by the numbers of their cards

pub group-small : (g : Group) → group_number g < 2 ^ 64
group-small BeforeBlocks = omega arith
group-small Inside = omega arith
group-small Output = omega arith

group_numbers-same : (g h : Group) → group_number g ≡ group_number h → g ≡ h
group_numbers-same BeforeBlocks BeforeBlocks e = refl
group_numbers-same BeforeBlocks Inside e = absurd (omega (arith, e))
group_numbers-same BeforeBlocks Output e = absurd (omega (arith, e))
group_numbers-same Inside BeforeBlocks e = absurd (omega (arith, e))
group_numbers-same Inside Inside e = refl
group_numbers-same Inside Output e = absurd (omega (arith, e))
group_numbers-same Output BeforeBlocks e = absurd (omega (arith, e))
group_numbers-same Output Inside e = absurd (omega (arith, e))
group_numbers-same Output Output e = refl

pub group-same : (name : List ℕ) (g h : Group) → count_entry name (group_number g) ≡ count_entry name (group_number h) → g ≡ h
group-same name g h e = group_numbers-same g h (count-same name (group_number g) (group_number h) (group-small g) (group-small h) e)

-- ---- the text of an expression

opening-text : (op : UnaryOp) → IsText (opening op)
opening-text Minus = refl
opening-text Not = refl
opening-text Abs = refl
opening-text Sqrt = refl
opening-text Trunc = refl
opening-text Sign = refl

binary-text : (op : BinaryOp) → IsText (binary_word op)
binary-text Add = refl
binary-text Sub = refl
binary-text Mul = refl
binary-text Div = refl
binary-text Gt = refl
binary-text Ge = refl
binary-text Lt = refl
binary-text Le = refl
binary-text Eq = refl
binary-text Ne = refl
binary-text And = refl
binary-text Or = refl

unary-free : (b : ℕ) (op : UnaryOp) (a : List ℕ) → IsMark b → IsFree b a → IsFree b (unary_text op a)
unary-free b op a mark f = free-both b (opening op) (a ++ 41 ∷ []) (mark.texts (opening op) (opening-text op)) (free-both b a (41 ∷ []) f (mark.texts (41 ∷ []) refl))

joined-free : (b : ℕ) (op : BinaryOp) (x y : List ℕ) → IsMark b → IsFree b x → IsFree b y → IsFree b (binary_text op x y)
joined-free b op x y mark f g =
    free-both b (40 ∷ []) (x ++ 32 ∷ (binary_word op ++ 32 ∷ (y ++ 41 ∷ []))) (mark.texts (40 ∷ []) refl)
    (free-both b x (32 ∷ (binary_word op ++ 32 ∷ (y ++ 41 ∷ []))) f
    (free-both b (32 ∷ []) (binary_word op ++ 32 ∷ (y ++ 41 ∷ [])) (mark.texts (32 ∷ []) refl)
    (free-both b (binary_word op) (32 ∷ (y ++ 41 ∷ [])) (mark.texts (binary_word op) (binary-text op))
    (free-both b (32 ∷ []) (y ++ 41 ∷ []) (mark.texts (32 ∷ []) refl) (free-both b y (41 ∷ []) g (mark.texts (41 ∷ []) refl))))))

place-free : (b : ℕ) (names : List (List ℕ)) (vars : List ℕ) (at : ℕ) → IsMark b → All IsName names → All (λ v. v < length names) vars → at < length vars → length vars < 2 ^ 63
    → IsFree b (variable_text names vars at)
place-free b names vars at mark named there within few =
    either (is_plain (get_or names (get_or vars at 0) []) && is_new (get_or vars at 0) (take at vars))
  where
    either : (c : Bool) → IsFree b (if c then get_or names (get_or vars at 0) [] else 35 ∷ decimal (at + 1))
    either true = mark.texts (get_or names (get_or vars at 0) []) (name_at-text names (get_or vars at 0) named)
    either false = free-both b (35 ∷ []) (decimal (at + 1)) (mark.texts (35 ∷ []) refl) (decimal-free b (at + 1) (omega (arith, mark.low)) (omega (arith, within, few)))

tree-free : (b : ℕ) (names : List (List ℕ)) (vars : List ℕ) (t : Tree) → IsMark b → All IsName names → All (λ v. v < length names) vars → length vars < 2 ^ 63 → IsTree (length vars) t
    → IsFree b (text_of names vars t)
tree-free b names vars (Amount x) mark named there few is = fixed-free b x 9 mark.low (between-small 0 LARGEST_VALUE x (omega arith) is)
tree-free b names vars (Place at) mark named there few is = place-free b names vars at mark named there is few
tree-free b names vars (One op a) mark named there few is = unary-free b op (text_of names vars a) mark (tree-free b names vars a mark named there few is)
tree-free b names vars (Two op a c) mark named there few is =
    joined-free b op (text_of names vars a) (text_of names vars c) mark (tree-free b names vars a mark named there few is.0) (tree-free b names vars c mark named there few is.1)

expression-free : (b : ℕ) (names : List (List ℕ)) (vars : List ℕ) (nodes : List Node) → IsMark b → All IsName names → All (λ v. v < length names) vars → length vars < 2 ^ 63
    → All (FitsPlaces (length vars)) nodes → IsWhole nodes → IsFree b (expression_text names vars nodes)
expression-free b names vars nodes mark named there few fits is =
    let has = whole-tree names vars nodes is in
    subst (IsFree b) (sym has.text_is) (tree-free b names vars has.tree mark named there few (tree-fits (length vars) has.tree (subst (All (FitsPlaces (length vars))) (sym has.nodes_are) fits)))

expression-same : (names : List (List ℕ)) (vars : List ℕ) (x y : List Node) → HasVars names vars → All (FitsPlaces (length vars)) x → All (FitsPlaces (length vars)) y → IsWhole x → IsWhole y
    → expression_text names vars x ≡ expression_text names vars y → x ≡ y
expression-same names vars x y has fits fits2 is js e =
    let one = whole-tree names vars x is in
    let two = whole-tree names vars y js in
    let trees = tree-same names vars one.tree two.tree has (tree-fits (length vars) one.tree (subst (All (FitsPlaces (length vars))) (sym one.nodes_are) fits))
    (tree-fits (length vars) two.tree (subst (All (FitsPlaces (length vars))) (sym two.nodes_are) fits2)) (sym one.text_is ∙ e ∙ two.text_is) in
    sym one.nodes_are ∙ ap nodes_of trees ∙ two.nodes_are

-- ---- formulas

among-names : (n m : ℕ) (vs : List ℕ) → n ≡ m → All (λ v. v < n) vs → All (λ v. v < m) vs
among-names n m vs same all = All-weaker (λ v. v < n) (λ v. v < m) (λ v h. omega (arith, same, h)) vs all

value-free : (b : ℕ) (text : List ℕ) → IsMark b → IsFree b text → IsFree b (word_entry (codes "value") text)
value-free b text mark free = free-both b (codes "value=") text (mark.texts (codes "value=") refl) free

pub formula-free : (b : ℕ) (w : Around) (vars : List (List ℕ)) (x : Formula) → IsMark b → HasVarNames w vars → length x.vars < 2 ^ 63 → IsFormula w.sizes x → AllFree b (formula_entries vars x)
formula-free b w vars x mark named few is =
    let names = among-names w.sizes.vars (length vars) x.vars named.count is.names in (
      variable-free b (codes "NAME") vars x.var mark refl named.names (omega (arith, named.count, is.there)),
      (
        count-marked b (codes "card") (group_number x.group) mark refl (group-small x.group),
        (
          count-marked b (codes "variables") (length x.vars) mark refl (omega (arith, few)),
          all-free b (map (variable_entry (codes "names") vars) x.vars) (word_entry (codes "value") (expression_text vars x.vars x.expr) ∷ [])
              (map-free b (variable_entry (codes "names") vars) (λ v. v < length vars) (λ v h. variable-free b (codes "names") vars v mark refl named.names h) x.vars names)
              (value-free b (expression_text vars x.vars x.expr) mark (expression-free b vars x.vars x.expr mark named.names names few is.nodes is.whole), tt),
        ),
      ),
    )

pub formula-same : (w v : Around) (vars : List (List ℕ)) (x y : Formula) → HasVarNames w vars → HasVarNames v vars → AreApart vars → length x.vars < 2 ^ 63 → length y.vars < 2 ^ 63
    → IsFormula w.sizes x → IsFormula v.sizes y → x.line ≡ y.line → formula_entries vars x ≡ formula_entries vars y → x ≡ y
formula-same w v vars x y named named2 apart few few2 is js line e =
    let e1 = variable-same (codes "NAME") vars x.var y.var apart (omega (arith, named.count, is.there)) (omega (arith, named2.count, js.there)) (ap (λ (l : List (List ℕ)). get_or l 0 []) e) in
    let e2 = group-same (codes "card") x.group y.group (ap (λ (l : List (List ℕ)). get_or l 1 []) e) in
    let long = count-same (codes "variables") (length x.vars) (length y.vars) (omega (arith, few)) (omega (arith, few2)) (ap (λ (l : List (List ℕ)). get_or l 2 []) e) in
    let text = word_entry (codes "value") (expression_text vars x.vars x.expr) in
    let text2 = word_entry (codes "value") (expression_text vars y.vars y.expr) in
    let parts = front-same (map (variable_entry (codes "names") vars) x.vars) (map (variable_entry (codes "names") vars) y.vars) (text ∷ []) (text2 ∷ [])
    (map-length (variable_entry (codes "names") vars) x.vars ∙ long ∙ sym (map-length (variable_entry (codes "names") vars) y.vars)) (ap (λ (l : List (List ℕ)). drop 3 l) e) in
    let names = among-names w.sizes.vars (length vars) x.vars named.count is.names in
    let e3 = map-same (variable_entry (codes "names") vars) (λ v. v < length vars) (λ v. v < length vars) (λ m n h k same. variable-same (codes "names") vars m n apart h k same) x.vars y.vars
    names (among-names v.sizes.vars (length vars) y.vars named2.count js.names) parts.0 in
    let values = word-same (codes "value") (expression_text vars x.vars x.expr) (expression_text vars y.vars y.expr) (ap (λ (l : List (List ℕ)). get_or l 0 []) parts.1) in
    let e4 = expression-same vars x.vars x.expr y.expr (record { apart = apart; there = names; few = few }) is.nodes (subst (λ (vs : List ℕ). All (FitsPlaces (length vs)) y.expr) (sym e3) js.nodes) is.whole js.whole
    (values ∙ ap (λ (vs : List ℕ). expression_text vars vs y.expr) (sym e3)) in
    ap (λ (z : ℕ). made z x.var x.group x.expr x.vars) line
    ∙ ap (λ (z : ℕ). made y.line z x.group x.expr x.vars) e1
    ∙ ap (λ (z : Group). made y.line y.var z x.expr x.vars) e2
    ∙ ap (λ (z : List Node). made y.line y.var y.group z x.vars) e4
    ∙ ap (λ (z : List ℕ). made y.line y.var y.group y.expr z) e3
  where
    made : ℕ → ℕ → Group → List Node → List ℕ → Formula
    made a b c d e = record { line = a; var = b; group = c; expr = d; vars = e }
