-- What waits while an expression is read, the newest first.
use Rattle.std.specs.Prelude.{ℕ, ◌==◌, nat_lt, Bool, true, false, List, [], ◌∷◌, ◌++◌, Option, Some, None, if◌then◌else◌}
use Rattle.emtp_case.specs.declared.expr.BinaryOp.{BinaryOp}
use Rattle.emtp_case.specs.declared.expr.BinaryOp.TheVariants.{Add, Sub, Mul, Div, Gt, Ge, Lt, Le, Eq, Ne, And, Or}
use Rattle.emtp_case.specs.declared.expr.Node.{Node}
use Rattle.emtp_case.specs.declared.expr.Node.TheVariants.{Unary, Binary as BinaryNode}
use Rattle.emtp_case.specs.declared.expr.UnaryOp.TheVariants.{Minus, Not as NotOp}
use Rattle.emtp_expr.specs.declared.pending.Pending.{Pending}
use Rattle.emtp_expr.specs.declared.pending.Pending.TheVariants.{Group, Binary, Not as NotPending, Sign}

-- how tightly an operator binds
abbrev pub rank_of : BinaryOp → ℕ
rank_of Or = 1
rank_of And = 2
rank_of Gt = 4
rank_of Ge = 4
rank_of Lt = 4
rank_of Le = 4
rank_of Eq = 4
rank_of Ne = 4
rank_of Add = 5
rank_of Sub = 5
rank_of Mul = 6
rank_of Div = 6

-- the same of what waits; a parenthesis doesn't bind
abbrev pub rank : Pending → ℕ
rank (Group f) = 0
rank (Binary op) = rank_of op
rank NotPending = 3
rank (Sign minus) = 5

-- the node that it becomes
abbrev pub node_made : Pending → Option Node
node_made (Group None) = None
node_made (Group (Some f)) = Some (Unary f)
node_made (Binary op) = Some (BinaryNode op)
node_made NotPending = Some (Unary NotOp)
node_made (Sign true) = Some (Unary Minus)
node_made (Sign false) = None

abbrev pub option_nodes : Option Node → List Node
option_nodes None = []
option_nodes (Some node) = node ∷ []

-- the nodes that come next once it is ended
abbrev pub emitted : Pending → List Node
emitted p = option_nodes (node_made p)

-- all that waits and binds at least so tightly is ended: what waits still, and the nodes
unfoldable pub settle : ℕ → List Pending → List Node → List Pending × List Node
settle least [] nodes = ([], nodes)
settle least (p ∷ ps) nodes = if nat_lt (rank p) least then (p ∷ ps, nodes) else settle least ps (nodes ++ emitted p)

-- a relation waits on top
abbrev pub relation_waits : List Pending → Bool
relation_waits [] = false
relation_waits (p ∷ ps) = rank p == 4
