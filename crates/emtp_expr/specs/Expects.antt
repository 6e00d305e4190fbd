-- What may come next while an expression is read.
use Rattle.std.specs.Prelude.{ℕ, nat_lt, Bool, true, false, if◌then◌else◌}
use Rattle.emtp_expr.specs.declared.expects.Expects.{Expects}
use Rattle.emtp_expr.specs.declared.expects.Expects.TheVariants.{Condition, Sum, Factor, Argument, Operator as AnOperator}

-- a value may begin
abbrev pub wants_value : Expects → Bool
wants_value (Condition row) = true
wants_value Sum = true
wants_value Factor = true
wants_value Argument = false
wants_value AnOperator = false

-- a sign may stand
abbrev pub takes_sign : Expects → Bool
takes_sign (Condition row) = true
takes_sign Sum = true
takes_sign Factor = false
takes_sign Argument = false
takes_sign AnOperator = false

-- an operator or an end may stand
abbrev pub wants_operator : Expects → Bool
wants_operator (Condition row) = false
wants_operator Sum = false
wants_operator Factor = false
wants_operator Argument = false
wants_operator AnOperator = true

-- what an operator expects on its right, by how tightly it binds
abbrev pub right_side : ℕ → Expects
right_side rank = if nat_lt rank 3 then Condition 0 else if nat_lt rank 5 then Sum else Factor
