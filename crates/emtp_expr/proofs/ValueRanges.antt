-- A value of an expression is in range where the values of its names and its numbers are.
use Rattle.std.proofs.Common.{◌+◌, ℕ, ℤ, pos, negsuc, neg_ℤ, ◌+ℤ◌, ◌-ℤ◌, ◌*ℤ◌, unsigned_abs, Bool, true, false, All, List, [], ◌∷◌, Option, Some, None, IfSome, arith}
use Rattle.std.proofs.Math.Nat.{div-mul-le_self}
use Rattle.std.proofs.lemmas.Int.{ints}
use Rattle.std.proofs.lemmas.List.Elements.{All-cons, All-head, All-nil, All-tail}
use Rattle.std.specs.Ordering.{int_eq}
use Rattle.std.specs.Prelude.{int_lt, if◌then◌else◌}
use Rattle.emtp_case.specs.held.Expr.{FitsPlaces}
use Rattle.emtp_case.specs.declared.expr.BinaryOp.{BinaryOp}
use Rattle.emtp_case.specs.declared.expr.BinaryOp.TheVariants.{Add, Sub, Mul, Div, Gt, Ge, Lt, Le, Eq, Ne, And, Or}
use Rattle.emtp_case.specs.declared.expr.Node.{Node}
use Rattle.emtp_case.specs.declared.expr.Node.TheVariants.{Number, Var, Unary, Binary}
use Rattle.emtp_case.specs.declared.expr.UnaryOp.{UnaryOp}
use Rattle.emtp_case.specs.declared.expr.UnaryOp.TheVariants.{Minus, Not, Abs, Sqrt, Trunc, Sign}
use Rattle.emtp_fix.proofs.Ranges.{IsSmall, in_range-within, item_small}
use Rattle.emtp_fix.specs.Limit.{in_range}
use Rattle.emtp_fix.specs.Root.{isqrt}
use Rattle.emtp_fix.specs.Rounding.{near}
use Rattle.emtp_fix.specs.declared.limit.TheConstants.{NANO}
use Rattle.emtp_expr.specs.Value.{after, after_all, binary, divided, only, push_value, signum, square_root, truth, unary, value, whole}
use Rattle.emtp_expr.specs.held.Value.{AreInRange}

-- ---- operators

truth_small : (holds : Bool) → IsSmall (truth holds)
truth_small true = omega arith
truth_small false = omega arith

signum_small : (x : ℤ) → IsSmall (signum x)
signum_small x = by (int_lt (pos 0) x) (int_lt x (pos 0))
  where
    by : (above below : Bool) → IsSmall (if above then NANO else (if below then neg_ℤ NANO else pos 0))
    by true below = omega arith
    by false true = omega arith
    by false false = omega arith

whole_small : (x : ℤ) → IsSmall x → IsSmall (whole x)
whole_small (pos x) small = omega (arith, small, div-mul-le_self x (unsigned_abs NANO))
whole_small (negsuc x) small = omega (arith, ints, small, div-mul-le_self (x + 1) (unsigned_abs NANO))

root_small : (x : ℤ) → IfSome (square_root x) IsSmall
root_small x = by (int_lt x (pos 0)) (isqrt (x *ℤ NANO))
  where
    by : (below : Bool) (y : ℤ) → IfSome (let o : Option ℤ = if below then None else in_range y in o) IsSmall
    by true y = tt
    by false y = in_range-within y

unary_small : (op : UnaryOp) (x : ℤ) → IsSmall x → IfSome (unary op x) IsSmall
unfolding unary
unary_small Minus x small = omega (arith, ints, small)
unary_small Not x small = truth_small _
unary_small Abs x small = small
unary_small Sqrt x small = root_small x
unary_small Trunc x small = whole_small x small
unary_small Sign x small = signum_small x

divided_small : (a b : ℤ) → IfSome (divided a b) IsSmall
divided_small a b = by (int_eq b (pos 0)) (near (a *ℤ NANO) b)
  where
    by : (none : Bool) (y : ℤ) → IfSome (let o : Option ℤ = if none then None else in_range y in o) IsSmall
    by true y = tt
    by false y = in_range-within y

binary_small : (op : BinaryOp) (a b : ℤ) → IfSome (binary op a b) IsSmall
unfolding binary
binary_small Add a b = in_range-within (a +ℤ b)
binary_small Sub a b = in_range-within (a -ℤ b)
binary_small Mul a b = in_range-within (near (a *ℤ b) NANO)
binary_small Div a b = divided_small a b
binary_small Gt a b = truth_small _
binary_small Ge a b = truth_small _
binary_small Lt a b = truth_small _
binary_small Le a b = truth_small _
binary_small Eq a b = truth_small _
binary_small Ne a b = truth_small _
binary_small And a b = truth_small _
binary_small Or a b = truth_small _

-- ---- nodes

pushed_small : (stack : List ℤ) (o : Option ℤ) → AreInRange stack → IfSome o IsSmall → IfSome (push_value stack o) AreInRange
pushed_small stack None small value_small = tt
pushed_small stack (Some x) small value_small = All-cons IsSmall x stack value_small small

after_small : (values : List ℤ) (places : ℕ) (node : Node) (stack : List ℤ) → AreInRange values → FitsPlaces places node → AreInRange stack → IfSome (after values node stack) AreInRange
after_small values places (Number x) stack names fits small = All-cons IsSmall x stack (omega (arith, ints, fits.least, fits.most)) small
after_small values places (Var at) stack names fits small = All-cons IsSmall _ stack (item_small values at names) small
after_small values places (Unary op) [] names fits small = tt
after_small values places (Unary op) (a ∷ stack) names fits small = pushed_small stack (unary op a) (All-tail IsSmall a stack small) (unary_small op a (All-head IsSmall a stack small))
after_small values places (Binary op) [] names fits small = tt
after_small values places (Binary op) (b ∷ []) names fits small = tt
after_small values places (Binary op) (b ∷ a ∷ stack) names fits small =
    pushed_small stack (binary op a b) (All-tail IsSmall a stack (All-tail IsSmall b (a ∷ stack) small)) (binary_small op a b)

all_small : (values : List ℤ) (places : ℕ) (nodes : List Node) (stack : Option (List ℤ)) → AreInRange values → All (FitsPlaces places) nodes → IfSome stack AreInRange → IfSome (after_all values nodes stack) AreInRange
all_small values places nodes None names fits small = tt
all_small values places [] (Some stack) names fits small = small
all_small values places (node ∷ nodes) (Some stack) names fits small =
    all_small values places nodes (after values node stack) names (All-tail (FitsPlaces places) node nodes fits) (after_small values places node stack names (All-head (FitsPlaces places) node nodes fits) small)

only_small : (stack : Option (List ℤ)) → IfSome stack AreInRange → IfSome (only stack) IsSmall
only_small None small = tt
only_small (Some []) small = tt
only_small (Some (x ∷ stack)) small = All-head IsSmall x stack small

pub value_small : (values : List ℤ) (places : ℕ) (nodes : List Node) → AreInRange values → All (FitsPlaces places) nodes → IfSome (value values nodes) IsSmall
unfolding value
value_small values places nodes names fits = only_small (after_all values nodes (Some [])) (all_small values places nodes (Some []) names fits (All-nil IsSmall))
