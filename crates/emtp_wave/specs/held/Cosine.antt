-- Beside `Cosine`: what values hold for their proofs, and what premises say. No clause of the program reaches it.
use Rattle.std.specs.List.{range_with_len}
use Rattle.std.specs.Prelude.{◌*◌, ◌^◌, ◌≤◌, ℤ, unsigned_abs, List, map}
use Rattle.emtp_wave.specs.declared.direction.Direction.{Direction}
use Rattle.emtp_wave.specs.Cosine.{entry}

-- the numbers of a direction are not far above 10^18
pub record IsSmall (d : Direction) : Type 0 where
  pub cosine_small : unsigned_abs d.cosine ≤ 2 * 10 ^ 18
  pub sine_small : unsigned_abs d.sine ≤ 2 * 10 ^ 18

-- the table of a quarter turn
abbrev pub table : List ℤ
table = map entry (range_with_len 0 9001)
