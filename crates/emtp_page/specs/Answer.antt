-- What a host is told of a call.
use Rattle.std.specs.Prelude.{◌≡◌, ℕ, false, List, length, take, Option, is_some, IfSome}
use Rattle.emtp_io.specs.Cabinet.{CreatedOutput, Outputs}
use Rattle.emtp_page.specs.declared.answer.Answer.{Answer}
use Rattle.emtp_page.specs.declared.answer.Left.{Left}
use Rattle.emtp_run.specs.Status.{exit_code}
use Rattle.emtp_run.specs.declared.status.Status.{Status}

-- an output stands in the room for it, or as much of it as there is room for
pub record IsShown (out : Option CreatedOutput) (left : Left) (room : List ℕ) : Type 0 where
  pub created : left.created ≡ is_some out
  pub count : IfSome out (λ e. left.length ≡ length e.bytes)
  pub bytes : IfSome out (λ e. take (length e.bytes) room ≡ take (length room) e.bytes)

-- a status, and each output in the room for it
pub record Tells (status : Status) (outputs : Outputs) (answer : Answer) (cfg dat note summary : List ℕ) : Type 0 where
  pub number : answer.status ≡ exit_code status
  pub cfg_shown : IsShown outputs.cfg answer.cfg cfg
  pub dat_shown : IsShown outputs.dat answer.dat dat
  pub note_shown : IsShown outputs.note answer.note note
  pub summary_shown : IsShown outputs.summary answer.summary summary

-- of an output that wasn't created
abbrev pub absent : Left
absent = record { created = false; length = 0 }

-- there was no memory, and nothing is left
abbrev pub wanting : Answer
wanting = record { status = 6; cfg = absent; dat = absent; note = absent; summary = absent }
