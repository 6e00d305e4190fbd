-- Expressions in postfix order.
use Rattle.emtp_case.specs.held.Range.{IsBetween}
use Rattle.emtp_case.specs.declared.expr.Node.{Node}
use Rattle.emtp_case.specs.declared.expr.Node.TheVariants.{Binary, Number, Unary, Var}
use Rattle.emtp_fix.specs.declared.limit.TheConstants.{LARGEST_VALUE}
use Rattle.std.specs.Prelude.{◌≡◌, ◌+◌, ◌<◌, [], ◌∷◌, List, Option, Some, None, nat_lt, suc, zero, ℕ, if◌then◌else◌}

-- a place is below the number of places, and a number is in range; a sign is a node of its own
abbrev pub FitsPlaces : ℕ → Node → Type 0
FitsPlaces places (Number x) = IsBetween 0 LARGEST_VALUE x
FitsPlaces places (Var at) = at < places
FitsPlaces places (Unary op) = Unit {0}
FitsPlaces places (Binary op) = Unit {0}

-- How many values wait after a node, where so many waited before; none where it lacks a value or there are too many. At
-- each of 17 levels of parentheses at most a left side of an or, an and, a relation, a sum and a product waits: 5*17 + 1.
abbrev pub height_after : Node → ℕ → Option ℕ
height_after (Number x) h = if nat_lt h 86 then Some (h + 1) else None
height_after (Var at) h = if nat_lt h 86 then Some (h + 1) else None
height_after (Unary op) zero = None
height_after (Unary op) (suc h) = Some (suc h)
height_after (Binary op) zero = None
height_after (Binary op) (suc zero) = None
height_after (Binary op) (suc (suc h)) = Some (suc h)

-- the same after some nodes
abbrev pub height : List Node → Option ℕ → Option ℕ
height nodes None = None
height [] (Some h) = Some h
height (node ∷ nodes) (Some h) = height nodes (height_after node h)

-- the nodes of one whole expression: one value is left
pub record IsWhole (nodes : List Node) : Type 0 where
  pub one : height nodes (Some 0) ≡ Some 1
