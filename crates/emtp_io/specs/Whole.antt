-- Of a file, a front was taken.
use Rattle.std.specs.Prelude.{◌≡◌, ℕ, ◌≤◌, length, List, Option}
use Rattle.emtp_io.specs.Cabinet.{put_back}

-- a front of what was unread has been read, of at most so many bytes
pub record TookFront (most : ℕ) (old new : Option (List ℕ)) : Type 0 where
  pub front : List ℕ
  pub within : length front ≤ most
  pub took : old ≡ put_back front new
