use Rattle.emtp_phasor.proofs.steady_state.solve.Given as goal

abbrev pub ghosts-solve_at : goal.ghosts-solve_at
ghosts-solve_at a = record { name = a.blank.name; parts = a.blank.parts }
