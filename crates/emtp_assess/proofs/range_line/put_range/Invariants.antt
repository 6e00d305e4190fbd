use Rattle.emtp_assess.proofs.range_line.put_range.Given as goal

-- the ledger is that of the blank
abbrev pub ghosts-put_nearest : goal.ghosts-put_nearest
ghosts-put_nearest a = record { name = a.blank.name; parts = a.blank.parts }
