-- Beside `Value`: what values hold for their proofs, and what premises say. No clause of the program reaches it.
use Rattle.std.specs.Prelude.{◌≡◌, ℕ, ◌≤◌, ℤ, unsigned_abs, Bool, true, false, All, length, List, Option, Some, None, Result, Ok, Err}
use Rattle.emtp_case.specs.held.Expr.{height_after}
use Rattle.emtp_case.specs.declared.expr.Node.{Node}
use Rattle.emtp_case.specs.declared.expr.TheConstants.{MOST_VALUES}
use Rattle.emtp_fix.specs.declared.limit.TheConstants.{LARGEST_VALUE}

-- values of variables
abbrev pub AreInRange : List ℤ → Type 0
AreInRange values = All (λ x. unsigned_abs x ≤ LARGEST_VALUE) values

-- there are the values that a node works on, and room for the one that it gives
pub record CanCompute (node : Node) (stack : List ℤ) : Type 0 where
  pub next : ℕ
  pub room : height_after node (length stack) ≡ Some next

-- what a call tells of a node, and the values that it leaves, are those of the definition
abbrev pub Computes : Bool → List ℤ → Option (List ℤ) → Type 0
Computes true next defined = defined ≡ Some next
Computes false next defined = defined ≡ None

-- a call answers the defined value, in range, or refuses where there is none
abbrev pub Evaluates : {E : Type 0} → Result ℤ E → Option ℤ → Type 0
Evaluates (Ok x) defined = (defined ≡ Some x) × (unsigned_abs x ≤ LARGEST_VALUE)
Evaluates (Err e) defined = defined ≡ None

-- a stack of values: so many, and each in range
pub record IsStack (values : List ℤ) : Type 0 where
  pub few : length values ≤ MOST_VALUES
  pub small : AreInRange values
