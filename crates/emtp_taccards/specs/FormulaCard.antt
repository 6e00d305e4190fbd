-- The cards of formulas: the fields, the expression behind them, and the card.
use Rattle.std.specs.Prelude.{ℕ, ◌+◌, ◌==◌, List, take, drop, Result, Ok, Err, if◌then◌else◌}
use Rattle.emtp_card.specs.Fault.{bad_at}
use Rattle.emtp_card.specs.Field.{byte_in}
use Rattle.emtp_card.specs.declared.fault.Fault.{Fault}
use Rattle.emtp_card.specs.declared.reason.Bad.{Bad}
use Rattle.emtp_card.specs.declared.reason.Why.{Why}
use Rattle.emtp_card.specs.declared.reason.Why.TheVariants.{BadExpression}
use Rattle.emtp_case.specs.declared.control.Group.{Group}
use Rattle.emtp_expr.specs.declared.parsing.Parsed.{Parsed}
use Rattle.emtp_netcards.specs.Reading.{◌>>=◌, both, card_on, in_column}
use Rattle.emtp_taccards.specs.Group.{head_of}
use Rattle.emtp_taccards.specs.declared.formula_card.FormulaCard.{FormulaCard}

-- column 11: =
abbrev pub equals_field : List ℕ → Result (Unit {0}) Why
equals_field line = if byte_in line 11 == 61 then Ok tt else Err BadExpression

-- group and name, and the = behind them
unfoldable pub fields_of : List ℕ → Result (Group × List ℕ) Fault
fields_of line = do
  (head, equals) ← both (head_of line) (in_column 11 (equals_field line))
  Ok head

-- columns 12 to 80: the expression
abbrev pub expression_text : List ℕ → List ℕ
expression_text line = take 69 (drop 11 line)

-- the first column of an expression is column 12
abbrev pub expression_by : ℕ → Group × List ℕ → Result Parsed ℕ → Result FormulaCard Bad
expression_by number head (Ok parsed) = Ok (record { line = number; name = head.1; group = head.0; parsed = parsed })
expression_by number head (Err column) = Err (bad_at number (record { column = 11 + column; why = BadExpression }))

-- the expression stands behind all fields, so a fault of theirs comes before its own
abbrev pub formula_by : ℕ → Result (Group × List ℕ) Bad → Result Parsed ℕ → Result FormulaCard Bad
formula_by number (Ok head) parsed = expression_by number head parsed
formula_by number (Err bad) parsed = Err bad

unfoldable pub formula_card : ℕ → List ℕ → Result Parsed ℕ → Result FormulaCard Bad
formula_card number line parsed = formula_by number (card_on number line (fields_of line)) parsed
