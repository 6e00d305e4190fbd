-- Beside `Cabinet`: what values hold for their proofs, and what premises say. No clause of the program reaches it.
use Rattle.std.specs.Prelude.{ℕ, None}
use Rattle.emtp_io.specs.Cabinet.{Outputs}
use Rattle.emtp_io.specs.declared.cabinet.Output.{Output}
use Rattle.emtp_io.specs.declared.cabinet.Output.TheVariants.{Cfg, Dat, Note, Summary}
use Rattle.emtp_io.specs.declared.turns.Turns.{Turns}

abbrev pub no_outputs : Outputs
no_outputs = record { cfg = None; dat = None; note = None; summary = None }

-- the turns with this one for an output
abbrev pub with_turn : Turns → Output → ℕ → Turns
with_turn turns Cfg call = record turns { cfg = call }
with_turn turns Dat call = record turns { dat = call }
with_turn turns Note call = record turns { note = call }
with_turn turns Summary call = record turns { summary = call }
