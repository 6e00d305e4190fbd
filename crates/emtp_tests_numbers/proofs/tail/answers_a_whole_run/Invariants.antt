use Rattle.emtp_tests_numbers.proofs.tail.answers_a_whole_run.Given as goal

abbrev pub ghosts-eight_calls : goal.ghosts-eight_calls
ghosts-eight_calls g a = record { name = a.blank.name; parts = a.blank.parts }
