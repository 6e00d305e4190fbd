-- Beside `FormulaCard`: what values hold for their proofs, and what premises say. No clause of the program reaches it.
use Rattle.std.specs.Prelude.{All, length}
use Rattle.emtp_case.specs.held.Expr.{FitsPlaces, IsWhole}
use Rattle.emtp_expr.specs.declared.parsing.Parsed.{Parsed}

-- an expression whose places and numbers fit its names, and which leaves one value
pub record IsParsed (parsed : Parsed) : Type 0 where
  pub places : All (FitsPlaces (length parsed.names)) parsed.nodes
  pub whole : IsWhole parsed.nodes
