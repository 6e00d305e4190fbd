-- How the kept factor holds together.
use Rattle.std.specs.Prelude.{◌≡◌, ℕ, ◌*◌, ◌≤◌, ℤ, List, length, take}
use Rattle.emtp_elim.specs.Matrix.{Matrix}
use Rattle.emtp_elim.specs.held.Finished.{Finished, AreFinished}
use Rattle.emtp_elim.specs.declared.limit.TheConstants.{MOST_ROWS}
use Rattle.emtp_tail.specs.held.Given.{rows_in}

-- the finished rows are those of elimination of the first rows given
pub record IsKept (size : ℕ) (given work : List ℤ) (done : Finished) : Type 0 where
  pub few : size ≤ MOST_ROWS
  pub room : length given ≡ size * size
  pub room_work : length work ≡ size
  pub same_size : done.size ≡ size
  pub within : length done.rows ≤ size
  pub finished : AreFinished (rows_in size (length done.rows) given) done.rows

-- the first n rows of the matrix are kept, finished
pub record IsRedone (rows : Matrix) (n : ℕ) (given : List ℤ) (done : Finished) : Type 0 where
  pub same_size : done.size ≡ length rows
  pub count : length done.rows ≡ n
  pub given_first : rows_in (length rows) n given ≡ take n rows
  pub finished : AreFinished rows done.rows
