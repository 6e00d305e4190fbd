use Rattle.emtp_run.proofs.Endings.{note-ends, note-tried}
use Rattle.emtp_run.proofs.outputs.refuse.Goals as goal

pub returns-clause-created : goal.returns-clause-created
returns-clause-created g c = note-tried c.make_note.result c.make_note.ensures

pub returns-clause-ends : goal.returns-clause-ends
returns-clause-ends g c = note-ends c.args.status c.make_note.result c.requires c.make_note.ensures
