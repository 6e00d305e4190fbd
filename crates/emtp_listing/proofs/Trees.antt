-- The nodes of a whole expression are those of a tree, and the text of the expression is the tree's.
use Rattle.std.proofs.Common.{◌≡◌, ◌++◌, ◌∙◌, ◌+◌, ◌<◌, sym, ap, refl, arith, Bool, true, false, List, [], ◌∷◌, ℕ, ℤ, suc, Option, Some, None, map, length, get_or, append_assoc, append-nil}
use Rattle.std.specs.Prelude.{All, if◌then◌else◌, nat_lt}
use Rattle.std.proofs.lemmas.List.Elements.{All-cons, All-head, All-nil, All-tail}
use Rattle.emtp_case.specs.held.Expr.{FitsPlaces, IsWhole, height, height_after}
use Rattle.emtp_case.specs.held.Range.{IsBetween}
use Rattle.emtp_case.specs.declared.expr.BinaryOp.{BinaryOp}
use Rattle.emtp_case.specs.declared.expr.Node.{Node}
use Rattle.emtp_case.specs.declared.expr.Node.TheVariants.{Binary, Number, Unary, Var}
use Rattle.emtp_case.specs.declared.expr.UnaryOp.{UnaryOp}
use Rattle.emtp_fix.specs.Decimal.{fixed_text}
use Rattle.emtp_fix.specs.declared.limit.TheConstants.{LARGEST_VALUE}
use Rattle.emtp_listing.specs.ExpressionText.{binary_text, expression_text, texts_after, texts_of, unary_text, variable_text}

pub data Tree : Type 0 where
  Amount : ℤ → Tree
  Place : ℕ → Tree
  One : UnaryOp → Tree → Tree
  Two : BinaryOp → Tree → Tree → Tree

abbrev pub nodes_of : Tree → List Node
nodes_of (Amount x) = Number x ∷ []
nodes_of (Place at) = Var at ∷ []
nodes_of (One op a) = nodes_of a ++ Unary op ∷ []
nodes_of (Two op a b) = nodes_of a ++ (nodes_of b ++ Binary op ∷ [])

abbrev pub text_of : List (List ℕ) → List ℕ → Tree → List ℕ
text_of names vars (Amount x) = fixed_text x 9
text_of names vars (Place at) = variable_text names vars at
text_of names vars (One op a) = unary_text op (text_of names vars a)
text_of names vars (Two op a b) = binary_text op (text_of names vars a) (text_of names vars b)

-- numbers are in range, and places among so many
abbrev pub IsTree : ℕ → Tree → Type 0
IsTree places (Amount x) = IsBetween 0 LARGEST_VALUE x
IsTree places (Place at) = at < places
IsTree places (One op a) = IsTree places a
IsTree places (Two op a b) = IsTree places a × IsTree places b

-- ---- trees that wait, the newest first

abbrev grown : Node → List Tree → List Tree
grown (Number x) ts = Amount x ∷ ts
grown (Var at) ts = Place at ∷ ts
grown (Unary op) [] = []
grown (Unary op) (a ∷ ts) = One op a ∷ ts
grown (Binary op) [] = []
grown (Binary op) (b ∷ []) = b ∷ []
grown (Binary op) (b ∷ a ∷ ts) = Two op a b ∷ ts

abbrev all_grown : List Node → List Tree → List Tree
all_grown [] ts = ts
all_grown (n ∷ ns) ts = all_grown ns (grown n ts)

abbrev flat : List Tree → List Node
flat [] = []
flat (t ∷ ts) = flat ts ++ nodes_of t

-- ---- their texts

text-grown : (names : List (List ℕ)) (vars : List ℕ) (n : Node) (ts : List Tree) → texts_after names vars n (map (text_of names vars) ts) ≡ map (text_of names vars) (grown n ts)
text-grown names vars (Number x) ts = refl
text-grown names vars (Var at) ts = refl
text-grown names vars (Unary op) [] = refl
text-grown names vars (Unary op) (a ∷ ts) = refl
text-grown names vars (Binary op) [] = refl
text-grown names vars (Binary op) (b ∷ []) = refl
text-grown names vars (Binary op) (b ∷ a ∷ ts) = refl

texts-grown : (names : List (List ℕ)) (vars : List ℕ) (ns : List Node) (ts : List Tree) → texts_of names vars ns (map (text_of names vars) ts) ≡ map (text_of names vars) (all_grown ns ts)
texts-grown names vars [] ts = refl
texts-grown names vars (n ∷ ns) ts = ap (λ (texts : List (List ℕ)). texts_of names vars ns texts) (text-grown names vars n ts) ∙ texts-grown names vars ns (grown n ts)

-- ---- their nodes, where each operator has what it works on

some-same : (m k : ℕ) → Some m ≡ Some k → m ≡ k
some-same m k e = ap (λ (o : Option ℕ). or_zero o) e
  where
    or_zero : Option ℕ → ℕ
    or_zero None = 0
    or_zero (Some x) = x

none-some : (k : ℕ) → None ≡ Some k → ⊥
none-some k e = let l : 0 ≡ 1 = ap (λ (o : Option ℕ). is_some o) e in omega (arith, l)
  where
    is_some : Option ℕ → ℕ
    is_some None = 0
    is_some (Some x) = 1

some-if : (b : Bool) (m k : ℕ) → (if b then Some m else None) ≡ Some k → m ≡ k
some-if true m k e = some-same m k e
some-if false m k e = absurd (none-some k e)

-- so many trees have these nodes, in which one more stands behind the others
record Grows (n : Node) (ts us : List Tree) (k : ℕ) : Type 0 where
  pub nodes : flat us ≡ flat ts ++ n ∷ []
  pub count : length us ≡ k

node-grown : (n : Node) (ts : List Tree) (k : ℕ) → height_after n (length ts) ≡ Some k → Grows n ts (grown n ts) k
node-grown (Number x) ts k e = record { nodes = refl; count = count (length ts) k (some-if (nat_lt (length ts) 86) (length ts + 1) k e) }
  where
    count : (h k : ℕ) → h + 1 ≡ k → suc h ≡ k
    count h k e = omega (arith, e)
node-grown (Var at) ts k e = record { nodes = refl; count = count (length ts) k (some-if (nat_lt (length ts) 86) (length ts + 1) k e) }
  where
    count : (h k : ℕ) → h + 1 ≡ k → suc h ≡ k
    count h k e = omega (arith, e)
node-grown (Unary op) [] k e = absurd (none-some k e)
node-grown (Unary op) (a ∷ ts) k e = record { nodes = sym (append_assoc (flat ts) (nodes_of a) (Unary op ∷ [])); count = some-same (suc (length ts)) k e }
node-grown (Binary op) [] k e = absurd (none-some k e)
node-grown (Binary op) (b ∷ []) k e = absurd (none-some k e)
node-grown (Binary op) (b ∷ a ∷ ts) k e = record {
  nodes = sym (append_assoc (flat ts ++ nodes_of a) (nodes_of b) (Binary op ∷ []) ∙ append_assoc (flat ts) (nodes_of a) (nodes_of b ++ Binary op ∷ []));
  count = some-same (suc (length ts)) k e;
}

height-none : (ns : List Node) → height ns None ≡ None
height-none [] = refl
height-none (n ∷ ns) = refl

record AllGrow (ns : List Node) (ts us : List Tree) (k : ℕ) : Type 0 where
  pub nodes : flat us ≡ flat ts ++ ns
  pub count : length us ≡ k

nodes-grown : (ns : List Node) (ts : List Tree) (k : ℕ) → height ns (Some (length ts)) ≡ Some k → AllGrow ns ts (all_grown ns ts) k
nodes-grown [] ts k e = record { nodes = sym (append-nil (flat ts)); count = some-same (length ts) k e }
nodes-grown (n ∷ ns) ts k e = go (nodes-grown ns (grown n ts) k) (height_after n (length ts)) refl e
  where
    go : (height ns (Some (length (grown n ts))) ≡ Some k → AllGrow ns (grown n ts) (all_grown ns (grown n ts)) k)
        → (o : Option ℕ) → height_after n (length ts) ≡ o → height ns o ≡ Some k → AllGrow (n ∷ ns) ts (all_grown ns (grown n ts)) k
    go others None same h = absurd (none-some k (sym (height-none ns) ∙ h))
    go others (Some m) same h =
        let one = node-grown n ts m same in
        let rest = others (ap (λ (c : ℕ). height ns (Some c)) one.count ∙ h) in
        record { nodes = rest.nodes ∙ ap (λ (front : List Node). front ++ ns) one.nodes ∙ append_assoc (flat ts) (n ∷ []) ns; count = rest.count }

-- ---- a whole expression

-- a tree with these nodes and this text
pub record HasTree (names : List (List ℕ)) (vars : List ℕ) (nodes : List Node) : Type 0 where
  pub tree : Tree
  pub nodes_are : nodes_of tree ≡ nodes
  pub text_is : expression_text names vars nodes ≡ text_of names vars tree

pub whole-tree : (names : List (List ℕ)) (vars : List ℕ) (nodes : List Node) → IsWhole nodes → HasTree names vars nodes
whole-tree names vars nodes is = one (all_grown nodes []) (nodes-grown nodes [] 1 is.one) (texts-grown names vars nodes [])
  where
    one : (us : List Tree) → AllGrow nodes [] us 1 → texts_of names vars nodes [] ≡ map (text_of names vars) us → HasTree names vars nodes
    one [] all texts = absurd (omega (arith, all.count))
    one (t ∷ []) all texts = record { tree = t; nodes_are = all.nodes; text_is = ap (λ (l : List (List ℕ)). get_or l 0 []) texts }
    one (t ∷ u ∷ us) all texts = absurd (omega (arith, all.count))

all-left : {X : Type 0} (P : X → Type 0) (xs ys : List X) → All P (xs ++ ys) → All P xs
all-left P [] ys all = All-nil P
all-left P (x ∷ xs) ys all = All-cons P x xs (All-head P x (xs ++ ys) all) (all-left P xs ys (All-tail P x (xs ++ ys) all))

all-right : {X : Type 0} (P : X → Type 0) (xs ys : List X) → All P (xs ++ ys) → All P ys
all-right P [] ys all = all
all-right P (x ∷ xs) ys all = all-right P xs ys (All-tail P x (xs ++ ys) all)

pub tree-fits : (places : ℕ) (t : Tree) → All (FitsPlaces places) (nodes_of t) → IsTree places t
tree-fits places (Amount x) all = All-head (FitsPlaces places) (Number x) [] all
tree-fits places (Place at) all = All-head (FitsPlaces places) (Var at) [] all
tree-fits places (One op a) all = tree-fits places a (all-left (FitsPlaces places) (nodes_of a) (Unary op ∷ []) all)
tree-fits places (Two op a b) all =
    let right = all-right (FitsPlaces places) (nodes_of a) (nodes_of b ++ Binary op ∷ []) all in
    (tree-fits places a (all-left (FitsPlaces places) (nodes_of a) (nodes_of b ++ Binary op ∷ []) all), tree-fits places b (all-left (FitsPlaces places) (nodes_of b) (Binary op ∷ []) right))
