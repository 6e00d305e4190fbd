-- What the laws of all branches stand for.
use Rattle.std.specs.Prelude.{◌≡◌, List}
use Rattle.emtp_case.specs.StepRecord.{StepRecord}
use Rattle.emtp_case.specs.declared.case.Parts.{Parts}
use Rattle.emtp_line.specs.held.Lines as lined
use Rattle.emtp_lumped.specs.held.Lumps as lumped
use Rattle.emtp_pseudo.specs.held.Pseudos as pseudo
use Rattle.emtp_net.specs.declared.branches.Branches.{Branches}

-- the branches are those of the case
pub record HasCase (s : Branches) (case : Parts) : Type 0 where
  pub lumps : s.lumps.case ≡ case
  pub lines : s.lines.case ≡ case
  pub pseudos : s.pseudos.case ≡ case

-- each of them stands for what the records keep of it
pub record StandsFor (s : Branches) (H : List StepRecord) : Type 0 where
  pub lumps : lumped.StandsFor s.lumps H
  pub lines : lined.StandsFor s.lines H
  pub pseudos : pseudo.StandsFor s.pseudos H
