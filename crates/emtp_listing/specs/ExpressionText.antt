-- The text of an expression as a formula has it, with all its parentheses.
use Rattle.std.specs.Prelude.{◌+◌, ◌++◌, ◌==◌, ◌&&◌, ◌∷◌, [], Bool, false, List, codes, decimal, not, slice_index_or, take, ℕ, if◌then◌else◌}
use Rattle.std.specs.Char.{is_ascii_alphabetic, is_ascii_alphanumeric}
use Rattle.std.specs.List.{list_all}
use Rattle.emtp_case.specs.declared.expr.BinaryOp.{BinaryOp}
use Rattle.emtp_case.specs.declared.expr.BinaryOp.TheVariants.{Add, And, Div, Eq, Ge, Gt, Le, Lt, Mul, Ne, Or, Sub}
use Rattle.emtp_case.specs.declared.expr.Node.{Node}
use Rattle.emtp_case.specs.declared.expr.Node.TheVariants.{Binary, Number, Unary, Var}
use Rattle.emtp_case.specs.declared.expr.UnaryOp.{UnaryOp}
use Rattle.emtp_case.specs.declared.expr.UnaryOp.TheVariants.{Abs, Minus, Not, Sign, Sqrt, Trunc}
use Rattle.emtp_fix.specs.Decimal.{fixed_text}

-- what stands before the one value that is worked on; a closing parenthesis stands behind it
abbrev pub opening : UnaryOp → List ℕ
opening Minus = codes "(-"
opening Not = codes "(.NOT. "
opening Abs = codes "ABS("
opening Sqrt = codes "SQRT("
opening Trunc = codes "TRUNC("
opening Sign = codes "SIGN("

abbrev pub unary_text : UnaryOp → List ℕ → List ℕ
unary_text op a = opening op ++ (a ++ 41 ∷ [])

abbrev pub binary_word : BinaryOp → List ℕ
binary_word Add = codes "+"
binary_word Sub = codes "-"
binary_word Mul = codes "*"
binary_word Div = codes "/"
binary_word Gt = codes ".GT."
binary_word Ge = codes ".GE."
binary_word Lt = codes ".LT."
binary_word Le = codes ".LE."
binary_word Eq = codes ".EQ."
binary_word Ne = codes ".NE."
binary_word And = codes ".AND."
binary_word Or = codes ".OR."

-- the operator between two blanks and its two sides, in parentheses
abbrev pub binary_text : BinaryOp → List ℕ → List ℕ → List ℕ
binary_text op a b = 40 ∷ (a ++ 32 ∷ (binary_word op ++ 32 ∷ (b ++ 41 ∷ [])))

-- a name that a formula can have: a letter, then letters and digits
abbrev pub is_plain : List ℕ → Bool
is_plain [] = false
is_plain (letter ∷ others) = is_ascii_alphabetic letter && list_all is_ascii_alphanumeric others

-- a variable isn't among these
abbrev pub is_new : ℕ → List ℕ → Bool
is_new var vars = list_all (λ x. not (x == var)) vars

-- A variable of a formula by its name. One whose name no formula can have, and one that the formula lists before as well,
-- would be ambiguous: it stands by its place, `#2`. No formula that is read has either.
abbrev pub variable_text : List (List ℕ) → List ℕ → ℕ → List ℕ
variable_text names vars at =
    if is_plain (slice_index_or names (slice_index_or vars at 0) []) && is_new (slice_index_or vars at 0) (take at vars)
    then slice_index_or names (slice_index_or vars at 0) [] else 35 ∷ decimal (at + 1)

-- An operator makes one text of those that it works on, the newest first. Where there are none, as in no whole expression,
-- they stay.

abbrev pub unary_after : UnaryOp → List (List ℕ) → List (List ℕ)
unary_after op [] = []
unary_after op (a ∷ texts) = unary_text op a ∷ texts

abbrev pub binary_after : BinaryOp → List (List ℕ) → List (List ℕ)
binary_after op [] = []
binary_after op (b ∷ []) = b ∷ []
binary_after op (b ∷ a ∷ texts) = binary_text op a b ∷ texts

-- the texts after a node
abbrev pub texts_after : List (List ℕ) → List ℕ → Node → List (List ℕ) → List (List ℕ)
texts_after names vars (Number x) texts = fixed_text x 9 ∷ texts
texts_after names vars (Var at) texts = variable_text names vars at ∷ texts
texts_after names vars (Unary op) texts = unary_after op texts
texts_after names vars (Binary op) texts = binary_after op texts

-- the same after some nodes
abbrev pub texts_of : List (List ℕ) → List ℕ → List Node → List (List ℕ) → List (List ℕ)
texts_of names vars [] texts = texts
texts_of names vars (node ∷ nodes) texts = texts_of names vars nodes (texts_after names vars node texts)

-- the one text of an expression, whose variables have these names
abbrev pub expression_text : List (List ℕ) → List ℕ → List Node → List ℕ
expression_text names vars nodes = slice_index_or (texts_of names vars nodes []) 0 []
