use Rattle.emtp_io.proofs.FilesLemmas.{unread_of-position, is_some-position}
use Rattle.emtp_io.proofs.files.find.Goals as goal

pub returns-clause-bytes : goal.returns-clause-bytes
returns-clause-bytes c = rw c.first_named.ensures (unread_of-position c.args.files.now c.args.name.now)

pub returns-clause-there : goal.returns-clause-there
returns-clause-there c = rw c.first_named.ensures (is_some-position c.args.files.now c.args.name.now)
