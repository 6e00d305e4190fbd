use Rattle.emtp_assess.proofs.worth.worth_text.Given as goal

-- the ledger is that of the blank
abbrev pub ghosts-judged_run : goal.ghosts-judged_run
ghosts-judged_run a = record { name = a.blank.name; parts = a.blank.parts }
