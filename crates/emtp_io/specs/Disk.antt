-- What clauses see of a cabinet of real files: what it has opened and created, how often, and no byte.
use Rattle.std.specs.Prelude.{ℕ, Bool, true, false, List, [], Option, Some, None}
use Rattle.emtp_io.specs.Cabinet.{CabinetState, CreatedOutput, Nature, one_more}
use Rattle.emtp_io.specs.declared.cabinet.Output.{Output}
use Rattle.emtp_io.specs.declared.cabinet.Output.TheVariants.{Cfg, Dat, Note, Summary}
use Rattle.emtp_io.specs.declared.turns.Turns.{Turns}

-- whether a file is open, which outputs were created and by which calls, and how often a call has failed or was made
pub record Disk : Type 0 where
  pub is_open : Bool
  pub cfg : Bool
  pub dat : Bool
  pub note : Bool
  pub summary : Bool
  pub faults_in : ℕ
  pub faults_out : ℕ
  pub opens : ℕ
  pub creates : ℕ
  pub turns : Turns

abbrev pub is_created : Disk → Output → Bool
is_created d Cfg = d.cfg
is_created d Dat = d.dat
is_created d Note = d.note
is_created d Summary = d.summary

-- `create` was called once more
abbrev pub counted : Disk → Disk
counted d = record d { creates = one_more d.creates }

-- the last call of `create` made this output
abbrev pub with_created : Disk → Output → Disk
with_created d Cfg = record d { cfg = true; turns = record d.turns { cfg = d.creates } }
with_created d Dat = record d { dat = true; turns = record d.turns { dat = d.creates } }
with_created d Note = record d { note = true; turns = record d.turns { note = d.creates } }
with_created d Summary = record d { summary = true; turns = record d.turns { summary = d.creates } }

-- what is told of an output: that it was created, and nothing of its name and bytes
abbrev pub created_where : Bool → Option CreatedOutput
created_where false = None
created_where true = Some (record { name = []; bytes = [] })

-- what is told of a file: that it is open, and nothing of its bytes
abbrev pub open_where : Bool → Option (List ℕ)
open_where false = None
open_where true = Some []

-- a cabinet that tells nothing
abbrev pub untold : Nature
untold = record { tells = false; calm = false; room = 0; files = λ _. None }

abbrev pub disk_state : Disk → CabinetState
disk_state d = record {
  nature = untold;
  unread = open_where d.is_open;
  outputs = record {
    cfg = created_where d.cfg;
    dat = created_where d.dat;
    note = created_where d.note;
    summary = created_where d.summary;
  };
  faults_in = d.faults_in;
  faults_out = d.faults_out;
  opens = d.opens;
  creates = d.creates;
  turns = d.turns;
}
