-- The words for the end of a run.
use Rattle.std.specs.Prelude.{ℕ, ℤ, List, [], ◌++◌, codes}
use Rattle.std.specs.Fmt.{signed_decimal}
use Rattle.emtp_machine.specs.declared.end.Cause.{Cause}
use Rattle.emtp_machine.specs.declared.end.Cause.TheVariants.{Tied, ZeroPivot, Range, Residual, TacsPivot, TacsRange}

abbrev pub cause_word : Cause → List ℕ
cause_word Tied = codes "TIED"
cause_word ZeroPivot = codes "ZEROPIVOT"
cause_word Range = codes "RANGE"
cause_word Residual = codes "RESIDUAL"
cause_word TacsPivot = codes "TACSPIVOT"
cause_word TacsRange = codes "TACSRANGE"

-- the residual that was measured, where that is the cause
abbrev pub measured_text : Cause → ℤ → List ℕ
measured_text Tied measured = []
measured_text ZeroPivot measured = []
measured_text Range measured = []
measured_text Residual measured = codes " " ++ signed_decimal measured
measured_text TacsPivot measured = []
measured_text TacsRange measured = []

-- why a step has no record: the cause, the node or variable that is named, and the residual where that is the cause
unfoldable pub cause_text : Cause → List ℕ → ℤ → List ℕ
cause_text cause name measured = cause_word cause ++ codes " " ++ name ++ measured_text cause measured
