use Rattle.emtp_tests_control.proofs.tacs.counts_its_steps.Given as goal

abbrev pub ghosts-values : goal.ghosts-values
ghosts-values g a = record { name = a.blank.name; parts = a.blank.parts }
