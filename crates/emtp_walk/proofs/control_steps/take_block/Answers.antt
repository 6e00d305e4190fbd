use Rattle.std.proofs.Common.{pos, All, replicate, arith}
use Rattle.std.proofs.lemmas.List.Elements.{All-replicate}
use Rattle.emtp_netcards.specs.held.Fields.{IsSmall}
use Rattle.emtp_walk.proofs.ControlCoefficients.{plain_block}
use Rattle.emtp_walk.proofs.control_steps.take_block.Goals as goal

zeros : All IsSmall (replicate 8 (pos 0))
zeros = All-replicate IsSmall 8 (pos 0) (omega arith)

pub keep_block-requires-clause-block : goal.keep_block-requires-clause-block
keep_block-requires-clause-block c = plain_block c.args.deck.now.run.dt _ c.requires.block (omega arith) zeros zeros
