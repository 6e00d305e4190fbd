-- What the laws say of a block.
use Rattle.std.specs.Prelude.{◌≡◌, ◌+ℤ◌, ◌-ℤ◌}
use Rattle.emtp_case.specs.declared.control.BlockState.{BlockState}
use Rattle.emtp_elim.specs.Matrix.{item}

-- the first number of the chain falls by the errors of both steps
abbrev pub FallsByErrors : BlockState → BlockState → Type 0
FallsByErrors old new = item new.chain 0 ≡ item old.chain 0 -ℤ (item old.errors 0 +ℤ item new.errors 0)
