use Rattle.emtp_audit.proofs.LinesOfPieces.{lines-piece, lines-both}
use Rattle.emtp_audit.proofs.laws.lines_are_pieces.Goals as goal

pub returns-clause-piece : goal.returns-clause-piece
returns-clause-piece c = lines-piece

pub returns-clause-both : goal.returns-clause-both
returns-clause-both c = lines-both
