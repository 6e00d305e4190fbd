-- The value of an expression, in nano: 1 is 10^9.
use Rattle.std.specs.Prelude.{◌+◌, ◌*◌, ℤ, pos, negsuc, neg_ℤ, ◌+ℤ◌, ◌-ℤ◌, ◌*ℤ◌, ◌/◌, int_lt, unsigned_abs, Bool, ◌&&◌, ◌||◌, not, List, [], ◌∷◌, slice_index_or, Option, Some, None, if◌then◌else◌}
use Rattle.std.specs.Ordering.{int_eq}
use Rattle.emtp_case.specs.declared.expr.BinaryOp.{BinaryOp}
use Rattle.emtp_case.specs.declared.expr.BinaryOp.TheVariants.{Add, Sub, Mul, Div, Gt, Ge, Lt, Le, Eq, Ne, And, Or}
use Rattle.emtp_case.specs.declared.expr.Node.{Node}
use Rattle.emtp_case.specs.declared.expr.Node.TheVariants.{Number, Var, Unary, Binary}
use Rattle.emtp_case.specs.declared.expr.UnaryOp.{UnaryOp}
use Rattle.emtp_case.specs.declared.expr.UnaryOp.TheVariants.{Minus, Not, Abs, Sqrt, Trunc, Sign}
use Rattle.emtp_fix.specs.Limit.{in_range}
use Rattle.emtp_fix.specs.Root.{isqrt}
use Rattle.emtp_fix.specs.Rounding.{near}
use Rattle.emtp_fix.specs.declared.limit.TheConstants.{NANO}

-- Operators

-- what relations and conditions give
abbrev pub truth : Bool → ℤ
truth holds = if holds then NANO else pos 0

-- what counts as true
abbrev pub is_true : ℤ → Bool
is_true x = int_lt (pos 0) x

-- none of a number below 0
abbrev pub square_root : ℤ → Option ℤ
square_root x = if int_lt x (pos 0) then None else in_range (isqrt (x *ℤ NANO))

-- without the decimals
abbrev pub whole : ℤ → ℤ
whole (pos x) = pos (x / unsigned_abs NANO * unsigned_abs NANO)
whole (negsuc x) = neg_ℤ (pos ((x + 1) / unsigned_abs NANO * unsigned_abs NANO))

-- 1, 0 or -1
abbrev pub signum : ℤ → ℤ
signum x = if int_lt (pos 0) x then NANO else if int_lt x (pos 0) then neg_ℤ NANO else pos 0

-- functions, and the operators of one value
unfoldable pub unary : UnaryOp → ℤ → Option ℤ
unary Minus x = Some (neg_ℤ x)
unary Not x = Some (truth (not (is_true x)))
unary Abs x = Some (pos (unsigned_abs x))
unary Sqrt x = square_root x
unary Trunc x = Some (whole x)
unary Sign x = Some (signum x)

-- none by 0
abbrev pub divided : ℤ → ℤ → Option ℤ
divided a b = if int_eq b (pos 0) then None else in_range (near (a *ℤ NANO) b)

-- the operators between two values; both sides are always computed
unfoldable pub binary : BinaryOp → ℤ → ℤ → Option ℤ
binary Add a b = in_range (a +ℤ b)
binary Sub a b = in_range (a -ℤ b)
binary Mul a b = in_range (near (a *ℤ b) NANO)
binary Div a b = divided a b
binary Gt a b = Some (truth (int_lt b a))
binary Ge a b = Some (truth (not (int_lt a b)))
binary Lt a b = Some (truth (int_lt a b))
binary Le a b = Some (truth (not (int_lt b a)))
binary Eq a b = Some (truth (int_eq a b))
binary Ne a b = Some (truth (not (int_eq a b)))
binary And a b = Some (truth (is_true a && is_true b))
binary Or a b = Some (truth (is_true a || is_true b))

-- Nodes

abbrev pub push_value : List ℤ → Option ℤ → Option (List ℤ)
push_value stack None = None
push_value stack (Some x) = Some (x ∷ stack)

-- the stack of values after a node, the newest first; none where a value is out of range or there are too few
abbrev pub after : List ℤ → Node → List ℤ → Option (List ℤ)
after values (Number x) stack = Some (x ∷ stack)
after values (Var place) stack = Some (slice_index_or values place (pos 0) ∷ stack)
after values (Unary op) [] = None
after values (Unary op) (a ∷ stack) = push_value stack (unary op a)
after values (Binary op) [] = None
after values (Binary op) (b ∷ []) = None
after values (Binary op) (b ∷ a ∷ stack) = push_value stack (binary op a b)

abbrev pub after_all : List ℤ → List Node → Option (List ℤ) → Option (List ℤ)
after_all values nodes None = None
after_all values [] (Some stack) = Some stack
after_all values (node ∷ nodes) (Some stack) = after_all values nodes (after values node stack)

abbrev pub only : Option (List ℤ) → Option ℤ
only None = None
only (Some []) = None
only (Some (x ∷ stack)) = Some x

-- the value of an expression; none where it is out of range
unfoldable pub value : List ℤ → List Node → Option ℤ
value values nodes = only (after_all values nodes (Some []))
